-- Byte code does the same whichever accesses to variables are sure to take an instruction.
use mathlib.Core.Path.{fun_ext}
use Rattle.std.proofs.Common.{◌≡◌, ℕ, zero, suc, ◌+◌, Bool, true, false, not, ◌&&◌, ◌||◌, if◌then◌else◌, List, [], ◌∷◌, map-id, Option, Some, None, refl, sym, ap, ◌∙◌, arith}
use Rattle.c_ints.specs.Range.{bytes_of}
use Rattle.c_ints.specs.declared.operators.BinOp.{BinOp}
use Rattle.c_ints.specs.declared.types.IntTy.{IntTy}
use Rattle.core_code.specs.Bytes.{Held, Memory, Object, Fixed, FrameOf, Unset, Number, Part, byte_in, behind, with_bytes}
use Rattle.core_code.specs.Cost.{step_most}
use Rattle.core_code.specs.Machine.{Program, Setting, Machine, Task, Do, Put, PutBit, PutBack, Join, LoadFrom, StoreTo, Reading, Over, Waiting, InCall, when, goes, put, passed, copy, writes, load_from, store_to, bit_read, bit_write, called, has_read, enter, operate, act, core_step, core_run, core_moment, gone, goes_on, is_still, written, is_others, may_call, opened, may_hold, memory_with, after_write, is_valid, is_own, is_reached, held_at, after_read, address_of, and_then, binary_at, has_operands, fits_call, operated, extent, after_helper, object_bytes, loading, storing, load, store, chosen, looked_up}
use Rattle.core_code.specs.Operands.{number_left, is_helped, fits_unary, fits_together}
use Rattle.core_code.specs.Runs.{most_by}
use Rattle.core_code.specs.Tree as tree
use Rattle.core_code.specs.Tree.{Tree}
use Rattle.core_code.specs.Values.{Value, Extent, byte_count, byte_of, number_in, pointer_in, value_in, truth_in, converted, unary_value, right_type}
use Rattle.core_code.specs.declared.code.Byte.{Byte}
use Rattle.core_code.specs.declared.code.Byte.TheVariants.{Static, Frame, Result, Device}
use Rattle.pic_world.specs.World.{World, arrived, is_due}
use Rattle.lag_trace.specs.Laws.{MarksServe}
use Rattle.lag_trace.specs.Marks.{step_marks, marks_by, uncounted, uncounted_in}
use Rattle.lag_trace.proofs.MarkedWalks.{marks_cost}

module _ (g : Setting) where
  abbrev q : Program
  q = g.program

  abbrev r : Program
  r = uncounted g.program

  abbrev h : Setting
  h = uncounted_in g

  -- ---- which bytes a body may access
  same_own : (p : ℕ) (b : Byte) (n : ℕ) → is_own r p b n ≡ is_own q p b n
  unfolding is_own
  same_own p (Frame c offset) n = refl
  same_own p (Result root k) n = refl
  same_own p (Static i offset) n = refl
  same_own p (Device address) n = refl

  same_valid : (p : ℕ) (b : Byte) → is_valid r p b ≡ is_valid q p b
  unfolding is_valid is_own
  same_valid p (Frame c offset) = refl
  same_valid p (Result root k) = refl
  same_valid p (Static i offset) = refl
  same_valid p (Device address) = refl

  same_reached : (p : ℕ) (s : List Waiting) (object : Object) (offset : ℕ) → is_reached r p s object offset ≡ is_reached q p s object offset
  unfolding is_reached
  same_reached p s (Fixed n) offset = refl
  same_reached p s (FrameOf c) offset = refl

  same_bytes : (object : Object) → object_bytes r object ≡ object_bytes q object
  same_bytes (Fixed n) = refl
  same_bytes (FrameOf c) = refl

  same_extent : (p : ℕ) (s : List Waiting) → extent r p s ≡ extent q p s
  unfolding extent
  same_extent p s = ap (λ f. record { size = f; lives = (extent q p s).lives }) (fun_ext same_bytes)

  same_hold : (to : Byte) (held : Held) (w : World Held) → may_hold r to held w ≡ may_hold q to held w
  same_hold (Device address) Unset w = refl
  same_hold (Device address) (Number n) w = refl
  same_hold (Device address) (Part o f b) w = refl
  same_hold (Static n offset) Unset w = refl
  same_hold (Static n offset) (Number k) w = refl
  same_hold (Static n offset) (Part o f b) w = refl
  same_hold (Frame c offset) held w = refl
  same_hold (Result root k) held w = refl

  module _ (c : List Task) (p : ℕ) (a : Option ℕ) (s : List Waiting) (m : Memory) (w : World Held) where
    same_written : (to : Byte) (held : Held) → written r to held c p a s m w ≡ written q to held c p a s m w
    same_written to held = ap (λ b. when b (goes c p a s (memory_with to held m) (after_write to held w))) (same_hold to held w)

    same_passed : (to : Byte) (held : Held) → passed r to held c p a s m w ≡ passed q to held c p a s m w
    same_passed (Frame callee offset) held = refl
    same_passed (Result root k) held = refl
    same_passed (Static n offset) held = refl
    same_passed (Device address) held = refl

    same_put : (to : Byte) (held : Held) → put r to held c p a s m w ≡ put q to held c p a s m w
    unfolding put
    same_put to held =
        ap (λ x. if is_others p to then x else when (is_valid r p to) (written r to held c p a s m w)) (same_passed to held)
        ∙ ap (λ b. if is_others p to then passed q to held c p a s m w else when b (written r to held c p a s m w)) (same_valid p to)
        ∙ ap (λ x. if is_others p to then passed q to held c p a s m w else when (is_valid q p to) x) (same_written to held)

    same_copy : (to from : Byte) → copy h to from c p a s m w ≡ copy g to from c p a s m w
    unfolding held_at after_read
    same_copy to (Frame i offset) = same_put to (m (Frame i offset))
    same_copy to (Result root k) = same_put to (m (Result root k))
    same_copy to (Static i offset) = refl
    same_copy to (Device address) = refl

    same_writes : (to : Byte) (o : Option Value) → writes r to o c p a s m w ≡ writes q to o c p a s m w
    same_writes to None = refl
    same_writes to (Some v) = ap (λ b. when b (goes c p a s (with_bytes m to (byte_count v) (byte_of v)) w)) (same_own p to (byte_count v))

    same_bit_write : (register number : ℕ) (held : Held) → bit_write h register number held c p a s m w ≡ bit_write g register number held c p a s m w
    unfolding is_valid after_read
    same_bit_write register number (Number n) = refl
    same_bit_write register number Unset = refl
    same_bit_write register number (Part o f b) = refl

    same_read : (o : Option ℕ) → has_read r o c p a s m w ≡ has_read q o c p a s m w
    same_read None = refl
    same_read (Some byte) = refl

  module _ (p : ℕ) (a : Option ℕ) (s : List Waiting) (m : Memory) (w : World Held) where
    same_called : (o : Option (List ℕ)) (callee : ℕ) (t : List Waiting) (n : Memory) → called r o callee t n w ≡ called q o callee t n w
    same_called None callee t n = refl
    same_called (Some bytes) callee t n = refl

    same_load : (to : Byte) (object : Object) (offset k : ℕ) (c : List Task) → load_from h to object offset k c p a s m w ≡ load_from g to object offset k c p a s m w
    same_load to object offset zero c = refl
    same_load to object offset (suc k) c =
        let next = loading (behind to 1) object (offset + 1) k c in
        ap (λ b. when (b && is_reached r p s object offset) (copy h to (byte_in object offset) next p a s m w)) (same_own p to 1)
        ∙ ap (λ b. when (is_own q p to 1 && b) (copy h to (byte_in object offset) next p a s m w)) (same_reached p s object offset)
        ∙ ap (when (is_own q p to 1 && is_reached q p s object offset)) (same_copy next p a s m w to (byte_in object offset))

    same_store : (object : Object) (offset : ℕ) (from : Byte) (k : ℕ) (c : List Task) → store_to h object offset from k c p a s m w ≡ store_to g object offset from k c p a s m w
    same_store object offset from zero c = refl
    same_store object offset from (suc k) c =
        let next = storing object (offset + 1) (behind from 1) k c in
        ap (λ b. when (b && is_reached r p s object offset) (written r (byte_in object offset) (m from) next p a s m w)) (same_own p from 1)
        ∙ ap (λ b. when (is_own q p from 1 && b) (written r (byte_in object offset) (m from) next p a s m w)) (same_reached p s object offset)
        ∙ ap (when (is_own q p from 1 && is_reached q p s object offset)) (same_written next p a s m w (byte_in object offset) (m from))

    same_binary : (count : Option ℕ) (op : BinOp) (ty : IntTy) (to x y : Byte) (c : List Task) → binary_at r count op ty to x y c p a s m w ≡ binary_at q count op ty to x y c p a s m w
    same_binary count op ty to x y c =
        let n = after_helper q p (is_helped op count) m in
        let value = λ (e : Extent). operated e op ty (value_in ty m x) (value_in (right_type op ty) m y) in
        ap (λ b. when (fits_together op ty count to x y && (b && is_own r p y (bytes_of (right_type op ty))) && fits_call a (is_helped op count) && (not (is_helped op count) || q.helped p op ty)) (writes r to (value (extent r p s)) c p a s n w)) (same_own p x (bytes_of ty))
        ∙ ap (λ b. when (fits_together op ty count to x y && (is_own q p x (bytes_of ty) && b) && fits_call a (is_helped op count) && (not (is_helped op count) || q.helped p op ty)) (writes r to (value (extent r p s)) c p a s n w)) (same_own p y (bytes_of (right_type op ty)))
        ∙ ap (λ e. when (fits_together op ty count to x y && has_operands q p op ty x y && fits_call a (is_helped op count) && (not (is_helped op count) || q.helped p op ty)) (writes r to (value e) c p a s n w)) (same_extent p s)
        ∙ ap (when (fits_together op ty count to x y && has_operands q p op ty x y && fits_call a (is_helped op count) && (not (is_helped op count) || q.helped p op ty))) (same_writes c p a s n w to (value (extent q p s)))

    same_bit_read : (to : Byte) (register number : ℕ) (c : List Task) → bit_read h to register number c p a s m w ≡ bit_read g to register number c p a s m w
    unfolding is_valid after_read
    same_bit_read to register number c = refl

    same_operation : (before : List Tree) (t : Tree) (c : List Task) → operate h before t c p a s m w ≡ operate g before t c p a s m w
    unfolding operate
    same_operation before (tree.Set to value) c = same_put c p a s m w to (Number value)
    same_operation before (tree.Address to place) c = ap (λ b. when b (writes r to (address_of place) c p a s m w)) (same_valid p place) ∙ ap (when (is_valid q p place)) (same_writes c p a s m w to (address_of place))
    same_operation before (tree.Copy to from) c = ap (λ b. when b (copy h to from c p a s m w)) (same_valid p from) ∙ ap (when (is_valid q p from)) (same_copy c p a s m w to from)
    same_operation before (tree.Load to pointer count) c = ap (λ b. when b (load to (pointer_in m pointer) count c p a s m w)) (same_own p pointer 2)
    same_operation before (tree.Store pointer from count) c = ap (λ b. when b (store (pointer_in m pointer) from count c p a s m w)) (same_own p pointer 2)
    same_operation before (tree.Unary op ty at) c =
        let value = and_then (value_in ty m at) (unary_value op) in
        ap (λ b. when (fits_unary op ty && b) (writes r at value c p a s m w)) (same_own p at (bytes_of ty)) ∙ ap (when (fits_unary op ty && is_own q p at (bytes_of ty))) (same_writes c p a s m w at value)
    same_operation before (tree.Binary op ty to x y) c = same_binary (number_left before y) op ty to x y c
    same_operation before (tree.Convert from to at) c =
        let value = and_then (value_in from m at) (converted to) in
        ap (λ b. when b (writes r at value c p a s m w)) (same_own p at (bytes_of from)) ∙ ap (when (is_own q p at (bytes_of from))) (same_writes c p a s m w at value)
    same_operation before (tree.BitRead to register number) c = same_bit_read to register number c
    same_operation before (tree.BitWrite register number from) c = ap (λ b. when b (bit_write h register number (m from) c p a s m w)) (same_own p from 1) ∙ ap (when (is_own q p from 1)) (same_bit_write c p a s m w register number (m from))
    same_operation before (tree.Call callee) c = ap (when (may_call q p a callee)) (same_called (q.reads callee) callee (InCall p c ∷ s) (opened a callee m))
    same_operation before tree.Leave c = refl
    same_operation before (tree.Many ts) c = refl
    same_operation before (tree.If test size first second) c = ap (λ b. when b (chosen (truth_in m test size) first second c p a s m w)) (same_own p test size)
    same_operation before (tree.Loop body) c = refl
    same_operation before (tree.Exit loops) c = refl
    same_operation before (tree.Again loops) c = refl

    same_task : (c : List Task) → act h c p a s m w ≡ act g c p a s m w
    unfolding act
    same_task [] = refl
    same_task (Do before t ∷ c) = same_operation before t c
    same_task (Put to held ∷ c) = same_put c p a s m w to held
    same_task (PutBit to value ∷ c) = same_put c p a s m w to (Number value)
    same_task (PutBack register value ∷ c) = same_put c p a s m w (Device register) (Number value)
    same_task (Join ∷ c) = refl
    same_task (LoadFrom to object offset k ∷ c) = same_load to object offset k c
    same_task (StoreTo object offset from k ∷ c) = same_store object offset from k c
    same_task (Reading bytes ∷ c) = same_read c p a s m w (looked_up bytes (number_in m (Result (q.root p) 0) 2))
    same_task (Over ∷ c) = refl

    same_entry : (o : Option ℕ) (c : List Task) → enter r o c p a s m w ≡ enter q o c p a s m w
    same_entry None c = refl
    same_entry (Some handler) c = refl

    same_at : (b : Bool) (c : List Task) → (if b then enter r q.handler c p a s m w else act h c p a s m w) ≡ (if b then enter q q.handler c p a s m w else act g c p a s m w)
    same_at true c = same_entry q.handler c
    same_at false c = same_task c

  same_step : (t : Machine) → core_step h t ≡ core_step g t
  unfolding core_step
  same_step t = same_at t.copy t.passing t.stack t.memory (arrived g.outside t.world) (is_due (arrived g.outside t.world)) t.code

  same_moment : (n : ℕ) → core_moment h n ≡ core_moment g n
  unfolding core_run
  same_moment zero = refl
  same_moment (suc n) = ap (λ t. gone t (core_step h t)) (same_moment n) ∙ ap (gone (core_moment g n)) (same_step (core_moment g n))

  same_most : (n : ℕ) → most_by h n ≡ most_by g n
  unfolding most_by step_most
  same_most zero = refl
  same_most (suc n) = ap (λ k. k + step_most h (core_moment h n)) (same_most n) ∙ ap (λ t. most_by g n + step_most g t) (same_moment n)

  same_marks : (n : ℕ) → marks_by h n ≡ marks_by g n
  unfolding marks_by step_marks
  same_marks zero = refl
  same_marks (suc n) = ap (λ k. k + step_marks h (core_moment h n)) (same_marks n) ∙ ap (λ t. marks_by g n + step_marks g t) (same_moment n)

  next_same : (n : ℕ) → core_step h (core_moment h n) ≡ core_step g (core_moment g n)
  next_same n = ap (core_step h) (same_moment n) ∙ same_step (core_moment g n)

-- The run without sure accesses to variables serves for the marked one.
pub marks_serve : MarksServe
marks_serve g n d = (
  record {
    at = λ i. i;
    starts = refl;
    rises = λ i j le lt. le;
    goes = λ k lt. ap goes_on (next_same g k) ∙ d k lt;
    same = λ i le. ap (λ t. t.world.trace) (same_moment g i) ∙ sym (map-id (core_moment g i).world.trace);
    fast = λ i j le lt. let a = same_most g i in let b = same_most g j in omega arith;
    rests = λ e. ap is_still (next_same g n) ∙ e;
  },
  λ i le. let a = same_marks g i in let b = marks_cost (uncounted_in g) i in omega arith,
)

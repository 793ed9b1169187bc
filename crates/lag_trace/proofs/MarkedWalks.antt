-- The marks of stretches of a run of byte code. Each is sure to take an instruction, and where more is left to do behind a stretch than before
-- it, it has a mark.
use Rattle.std.proofs.Common.{not, ◌&&◌, ◌||◌, ◌%◌, ◌≡◌, ℕ, zero, suc, ◌+◌, ◌-◌, ◌<◌, ◌≤◌, Bool, true, false, if◌then◌else◌, List, [], ◌∷◌, ◌++◌, Option, Some, None, refl, ap, arith}
use Rattle.std.specs.Prelude.{nat_lt}
use Rattle.c_ints.specs.Range.{bytes_of}
use Rattle.c_ints.specs.declared.operators.BinOp.{BinOp}
use Rattle.c_ints.specs.declared.types.IntTy.{IntTy}
use Rattle.core_code.specs.Bytes.{Held, Memory, with_byte, with_bytes}
use Rattle.core_code.specs.Bytes as bytes
use Rattle.core_code.specs.Cost.{step_least, least_task, least_of, least_leave, least_call}
use Rattle.core_code.specs.Machine.{Program, Setting, Machine, Task, Do, Put, PutBit, PutBack, Join, LoadFrom, StoreTo, Reading, Over, Waiting, InLoop, InCall, InHandler, Next, tasks, loading, storing, Goes, Stuck, Still, goes, when, put, passed, copy, writes, load, store, load_from, store_to, bit_write, has_read, chosen, exit, leave, operate, act, enter, core_step, core_run, core_moment, gone, written, is_others, may_call, opened, may_hold, memory_with, after_write, is_valid, is_own, is_reached, held_at, after_read, has_bit, with_bit, address_of, and_then, binary_at, has_operands, fits_call, operated, extent, after_helper}
use Rattle.core_code.specs.Runs.{least_by}
use Rattle.core_code.specs.Tree as tree
use Rattle.core_code.specs.Tree.{Tree, Trees, list_of}
use Rattle.core_code.specs.Operands.{number_left, is_helped, fits_unary, fits_together}
use Rattle.core_code.specs.Values.{Value, byte_count, byte_of, pointer_in, value_in, truth_in, converted, unary_value, right_type}
use Rattle.core_code.specs.declared.code.Byte.{Byte}
use Rattle.core_code.specs.declared.code.Byte.TheVariants.{Static, Frame, Result, Device}
use Rattle.pic_world.specs.Bits.{bit}
use Rattle.pic_world.specs.World.{World, arrived, is_due, device_value}
use Rattle.lower_trace.proofs.CodeLeft.{plain, plain_behind}
use Rattle.lower_trace.proofs.Walks.{run_on}
use Rattle.lag_trace.specs.Laws.{MarksCost}
use Rattle.lag_trace.specs.Marks.{operation_marks, task_marks, step_marks, marks_by}

-- of the next n steps together
unfoldable pub marks_from : Setting → ℕ → Machine → ℕ
marks_from g zero c = 0
marks_from g (suc n) c = marks_from g n c + step_marks g (core_run g n c)

pub marks_on : (g : Setting) (i j : ℕ) (c : Machine) → marks_from g (i + j) c ≡ marks_from g i c + marks_from g j (core_run g i c)
unfolding marks_from
marks_on g i zero c = let e : i + 0 ≡ i = omega arith in let q = ap (λ n. marks_from g n c) e in omega arith
marks_on g i (suc j) c =
    let e : i + suc j ≡ suc (i + j) = omega arith in
    let q = ap (λ n. marks_from g n c) e in
    let p = marks_on g i j c in
    let r = ap (step_marks g) (run_on g i j c) in
    omega arith

pub marks_moment : (g : Setting) (n : ℕ) → marks_by g n ≡ marks_from g n (core_moment g 0)
unfolding marks_by marks_from core_run
marks_moment g zero = refl
marks_moment g (suc n) = ap (λ x. x + step_marks g (core_moment g n)) (marks_moment g n)

-- a step on the way has its marks
pub mark_within : (g : Setting) (i n : ℕ) (c : Machine) → suc i ≤ n → step_marks g (core_run g i c) ≤ marks_from g n c
unfolding marks_from
mark_within g i n c le =
    let e : n ≡ suc i + (n - suc i) = omega arith in
    let q = ap (λ k. marks_from g k c) e in
    let p = marks_on g (suc i) (n - suc i) c in
    omega arith

-- ---- a mark takes an instruction
call_sure : (o : Option (List ℕ)) → 1 ≤ least_call o
call_sure None = omega arith
call_sure (Some bytes) = omega arith

operation_sure : (q : Program) (t : Tree) (s : List Waiting) → operation_marks t s ≤ least_of q t s
operation_sure q (tree.Call copy) s = call_sure (q.reads copy)
operation_sure q tree.Leave s = omega arith
operation_sure q (tree.Again loops) s = omega arith
operation_sure q _ s = omega arith

task_sure : (q : Program) (c : List Task) (s : List Waiting) → task_marks c s ≤ least_task q c s
task_sure q [] s = omega arith
task_sure q (Do before t ∷ c) s = operation_sure q t s
task_sure q (_ ∷ c) s = omega arith

step_sure : (g : Setting) (t : Machine) → step_marks g t ≤ step_least g t
unfolding step_marks step_least
step_sure g t = by (is_due (arrived g.outside t.world))
  where
    by : (b : Bool) → (if b then 1 else task_marks t.code t.stack) ≤ (if b then 1 else least_task g.program t.code t.stack)
    by true = omega arith
    by false = task_sure g.program t.code t.stack

pub marks_cost : MarksCost
unfolding marks_by least_by
marks_cost g zero = omega arith
marks_cost g (suc n) = let d = marks_cost g n in let e = step_sure g (core_moment g n) in omega arith

-- ---- what is left to do
-- It is weighed by so much for each operation that is left and so much for each call under way: a step without a mark never adds to it.
module _ (unit frame : ℕ) where
  abbrev mutual
    pub tree_weight : Tree → ℕ
    tree_weight (tree.Many ts) = trees_weight ts
    tree_weight (tree.If test size first second) = unit + (tree_weight first + tree_weight second)
    tree_weight (tree.Loop body) = unit + tree_weight body
    tree_weight _ = unit

    pub trees_weight : Trees → ℕ
    trees_weight tree.NoTree = 0
    trees_weight (tree.AndTree t ts) = tree_weight t + trees_weight ts

  abbrev pub code_weight : List Task → ℕ
  code_weight [] = 0
  code_weight (Do before t ∷ c) = tree_weight t + code_weight c
  code_weight (_ ∷ c) = code_weight c

  abbrev pub stack_weight : List Waiting → ℕ
  stack_weight [] = 0
  stack_weight (InLoop body c ∷ s) = code_weight c + stack_weight s
  stack_weight (InCall p c ∷ s) = frame + (code_weight c + stack_weight s)
  stack_weight (InHandler p a c ∷ s) = frame + (code_weight c + stack_weight s)

  abbrev pub weight : Machine → ℕ
  weight t = code_weight t.code + stack_weight t.stack

  pub plain_weight : (c : List Task) → code_weight (plain c) ≡ code_weight c
  plain_weight [] = refl
  plain_weight (Do before t ∷ c) = ap (λ n. tree_weight t + n) (plain_weight c)
  plain_weight (Put to held ∷ c) = plain_weight c
  plain_weight (PutBit to value ∷ c) = plain_weight c
  plain_weight (PutBack register value ∷ c) = plain_weight c
  plain_weight (Join ∷ c) = plain_weight c
  plain_weight (LoadFrom to object offset n ∷ c) = plain_weight c
  plain_weight (StoreTo object offset from n ∷ c) = plain_weight c
  plain_weight (Reading read ∷ c) = plain_weight c
  plain_weight (Over ∷ c) = plain_weight c

  pub behind_weight : (s : List Waiting) → stack_weight (plain_behind s) ≡ stack_weight s
  behind_weight [] = refl
  behind_weight (InLoop body c ∷ s) = let a = plain_weight c in let b = behind_weight s in omega arith
  behind_weight (InCall p c ∷ s) = let a = plain_weight c in let b = behind_weight s in omega arith
  behind_weight (InHandler p a c ∷ s) = let a = plain_weight c in let b = behind_weight s in omega arith

  tasks_weight : (before : List Tree) (ts : Trees) (c : List Task) → code_weight (tasks before (list_of ts) c) ≡ trees_weight ts + code_weight c
  tasks_weight before tree.NoTree c = omega arith
  tasks_weight before (tree.AndTree t ts) c = let d = tasks_weight (before ++ t ∷ []) ts c in omega arith

  loading_weight : (to : Byte) (object : bytes.Object) (offset k : ℕ) (c : List Task) → code_weight (loading to object offset k c) ≡ code_weight c
  loading_weight to object offset zero c = refl
  loading_weight to object offset (suc k) c = refl

  storing_weight : (object : bytes.Object) (offset : ℕ) (from : Byte) (k : ℕ) (c : List Task) → code_weight (storing object offset from k c) ≡ code_weight c
  storing_weight object offset from zero c = refl
  storing_weight object offset from (suc k) c = refl

  -- no more is left than so much
  abbrev Stays : ℕ → Next → Type 0
  Stays n (Goes t) = weight t ≤ n
  Stays n Stuck = Unit {0}
  Stays n Still = Unit {0}

  stays_when : (n : ℕ) (b : Bool) (next : Next) → Stays n next → Stays n (when b next)
  stays_when n true next h = h
  stays_when n false next h = tt

  stays_if : (n : ℕ) (b : Bool) (x y : Next) → Stays n x → Stays n y → Stays n (if b then x else y)
  stays_if n true x y h k = h
  stays_if n false x y h k = k

  module _ (n : ℕ) (c : List Task) (s : List Waiting) (le : code_weight c + stack_weight s ≤ n) where
    stays_passed : (q : Program) (to : Byte) (held : Held) (p : ℕ) (a : Option ℕ) (m : Memory) (w : World Held) → Stays n (passed q to held c p a s m w)
    stays_passed q (Frame callee offset) held p a m w =
        stays_when n (may_call q p a callee && nat_lt offset (q.parameter_bytes callee) && nat_lt offset (q.frame_bytes callee)) (goes c p (Some callee) s (with_byte (opened a callee m) (Frame callee offset) held) w) le
    stays_passed q (Static i offset) held p a m w = tt
    stays_passed q (Result r k) held p a m w = tt
    stays_passed q (Device r) held p a m w = tt

    stays_written : (q : Program) (to : Byte) (held : Held) (p : ℕ) (a : Option ℕ) (m : Memory) (w : World Held) → Stays n (written q to held c p a s m w)
    stays_written q to held p a m w = stays_when n (may_hold q to held w) (goes c p a s (memory_with to held m) (after_write to held w)) le

    stays_put : (q : Program) (to : Byte) (held : Held) (p : ℕ) (a : Option ℕ) (m : Memory) (w : World Held) → Stays n (put q to held c p a s m w)
    unfolding put
    stays_put q to held p a m w =
        stays_if n (is_others p to) (passed q to held c p a s m w) (when (is_valid q p to) (written q to held c p a s m w)) (stays_passed q to held p a m w) (stays_when n (is_valid q p to) (written q to held c p a s m w) (stays_written q to held p a m w))

    stays_copy : (g : Setting) (to from : Byte) (p : ℕ) (a : Option ℕ) (m : Memory) (w : World Held) → Stays n (copy g to from c p a s m w)
    stays_copy g to from p a m w =
        stays_if n (bytes.is_private from) (put g.program to (m from) c p a s m w) (goes (Put to (held_at g from m w) ∷ c) p a s m (after_read g from m w)) (stays_put g.program to (m from) p a m w) le

    stays_writes : (q : Program) (to : Byte) (o : Option Value) (p : ℕ) (a : Option ℕ) (m : Memory) (w : World Held) → Stays n (writes q to o c p a s m w)
    stays_writes q to None p a m w = tt
    stays_writes q to (Some v) p a m w = stays_when n (is_own q p to (byte_count v)) (goes c p a s (with_bytes m to (byte_count v) (byte_of v)) w) le

    stays_load : (to : Byte) (o : Option bytes.Place) (count : ℕ) (p : ℕ) (a : Option ℕ) (m : Memory) (w : World Held) → Stays n (load to o count c p a s m w)
    stays_load to None count p a m w = tt
    stays_load to (Some x) count p a m w = let d = loading_weight to x.object x.offset count c in omega arith

    stays_store : (o : Option bytes.Place) (from : Byte) (count : ℕ) (p : ℕ) (a : Option ℕ) (m : Memory) (w : World Held) → Stays n (store o from count c p a s m w)
    stays_store None from count p a m w = tt
    stays_store (Some x) from count p a m w = let d = storing_weight x.object x.offset from count c in omega arith

    stays_bit_write : (g : Setting) (register number : ℕ) (held : Held) (p : ℕ) (a : Option ℕ) (m : Memory) (w : World Held) → Stays n (bit_write g register number held c p a s m w)
    stays_bit_write g register number (bytes.Number k) p a m w =
        stays_when n (has_bit g.program p register number) (goes (PutBack register (with_bit number (k % 2) (device_value g.outside register w)) ∷ Join ∷ c) p a s m (after_read g (Device register) m w)) le
    stays_bit_write g register number bytes.Unset p a m w = tt
    stays_bit_write g register number (bytes.Part o f h) p a m w = tt

    stays_read : (q : Program) (o : Option ℕ) (p : ℕ) (a : Option ℕ) (m : Memory) (w : World Held) → Stays n (has_read q o c p a s m w)
    stays_read q None p a m w = tt
    stays_read q (Some byte) p a m w = le

  stays_load_from : (n : ℕ) (g : Setting) (to : Byte) (object : bytes.Object) (offset k : ℕ) (c : List Task) (p : ℕ) (a : Option ℕ) (s : List Waiting) (m : Memory) (w : World Held) → code_weight c + stack_weight s ≤ n → Stays n (load_from g to object offset k c p a s m w)
  stays_load_from n g to object offset zero c p a s m w le = le
  stays_load_from n g to object offset (suc k) c p a s m w le =
      let d = loading_weight (bytes.behind to 1) object (offset + 1) k c in
      stays_when n (is_own g.program p to 1 && is_reached g.program p s object offset) (copy g to (bytes.byte_in object offset) (loading (bytes.behind to 1) object (offset + 1) k c) p a s m w)
      (stays_copy n (loading (bytes.behind to 1) object (offset + 1) k c) s (omega arith) g to (bytes.byte_in object offset) p a m w)

  stays_store_to : (n : ℕ) (g : Setting) (object : bytes.Object) (offset : ℕ) (from : Byte) (k : ℕ) (c : List Task) (p : ℕ) (a : Option ℕ) (s : List Waiting) (m : Memory) (w : World Held) → code_weight c + stack_weight s ≤ n → Stays n (store_to g object offset from k c p a s m w)
  stays_store_to n g object offset from zero c p a s m w le = le
  stays_store_to n g object offset from (suc k) c p a s m w le =
      let d = storing_weight object (offset + 1) (bytes.behind from 1) k c in
      stays_when n (is_own g.program p from 1 && is_reached g.program p s object offset) (written g.program (bytes.byte_in object offset) (m from) (storing object (offset + 1) (bytes.behind from 1) k c) p a s m w)
      (stays_written n (storing object (offset + 1) (bytes.behind from 1) k c) s (omega arith) g.program (bytes.byte_in object offset) (m from) p a m w)

  stays_chosen : (n : ℕ) (o : Option Bool) (first second : Tree) (c : List Task) (p : ℕ) (a : Option ℕ) (s : List Waiting) (m : Memory) (w : World Held) → tree_weight first + tree_weight second + (code_weight c + stack_weight s) ≤ n → Stays n (chosen o first second c p a s m w)
  stays_chosen n None first second c p a s m w le = tt
  stays_chosen n (Some true) first second c p a s m w le = omega arith
  stays_chosen n (Some false) first second c p a s m w le = omega arith

  stays_exit : (k p : ℕ) (a : Option ℕ) (s : List Waiting) (m : Memory) (w : World Held) (n : ℕ) → stack_weight s ≤ n → Stays n (exit k p a s m w)
  stays_exit zero p a [] m w n le = tt
  stays_exit zero p a (InLoop body c ∷ s) m w n le = le
  stays_exit zero p a (InCall d c ∷ s) m w n le = tt
  stays_exit zero p a (InHandler d b c ∷ s) m w n le = tt
  stays_exit (suc k) p a [] m w n le = tt
  stays_exit (suc k) p a (InLoop body c ∷ s) m w n le = stays_exit k p a s m w n (omega arith)
  stays_exit (suc k) p a (InCall d c ∷ s) m w n le = tt
  stays_exit (suc k) p a (InHandler d b c ∷ s) m w n le = tt

  stays_leave : (p : ℕ) (s : List Waiting) (m : Memory) (w : World Held) (n : ℕ) → least_leave s ≡ 0 → Stays n (leave p s m w)
  stays_leave p [] m w n none = omega arith
  stays_leave p (InLoop body c ∷ s) m w n none = stays_leave p s m w n none
  stays_leave p (InCall d c ∷ s) m w n none = absurd (omega arith)
  stays_leave p (InHandler d b c ∷ s) m w n none = absurd (omega arith)

  module _ (g : Setting) (s : List Waiting) (p : ℕ) (a : Option ℕ) (m : Memory) (w : World Held) where
    stays_binary : (n : ℕ) (c : List Task) → code_weight c + stack_weight s ≤ n → (count : Option ℕ) (op : BinOp) (ty : IntTy) (to x y : Byte) → Stays n (binary_at g.program count op ty to x y c p a s m w)
    stays_binary n c le count op ty to x y =
        stays_when n (fits_together op ty count to x y && has_operands g.program p op ty x y && fits_call a (is_helped op count) && (not (is_helped op count) || g.program.helped p op ty))
        (writes g.program to (operated (extent g.program p s) op ty (value_in ty m x) (value_in (right_type op ty) m y)) c p a s (after_helper g.program p (is_helped op count) m) w)
        (stays_writes n c s le g.program to (operated (extent g.program p s) op ty (value_in ty m x) (value_in (right_type op ty) m y)) p a (after_helper g.program p (is_helped op count) m) w)

    stays_operation : (before : List Tree) (t : Tree) (c : List Task) → operation_marks t s ≡ 0 → Stays (tree_weight t + code_weight c + stack_weight s) (operate g before t c p a s m w)
    unfolding operate
    stays_operation before (tree.Set to value) c none = stays_put _ c s (omega arith) g.program to (bytes.Number value) p a m w
    stays_operation before (tree.Address to place) c none =
        stays_when _ (is_valid g.program p place) (writes g.program to (address_of place) c p a s m w) (stays_writes _ c s (omega arith) g.program to (address_of place) p a m w)
    stays_operation before (tree.Copy to from) c none =
        stays_when _ (is_valid g.program p from) (copy g to from c p a s m w) (stays_copy _ c s (omega arith) g to from p a m w)
    stays_operation before (tree.Load to pointer count) c none =
        stays_when _ (is_own g.program p pointer 2) (load to (pointer_in m pointer) count c p a s m w) (stays_load _ c s (omega arith) to (pointer_in m pointer) count p a m w)
    stays_operation before (tree.Store pointer from count) c none =
        stays_when _ (is_own g.program p pointer 2) (store (pointer_in m pointer) from count c p a s m w) (stays_store _ c s (omega arith) (pointer_in m pointer) from count p a m w)
    stays_operation before (tree.Unary op ty at) c none =
        stays_when _ (fits_unary op ty && is_own g.program p at (bytes_of ty)) (writes g.program at (and_then (value_in ty m at) (unary_value op)) c p a s m w) (stays_writes _ c s (omega arith) g.program at (and_then (value_in ty m at) (unary_value op)) p a m w)
    stays_operation before (tree.Binary op ty to x y) c none = stays_binary _ c (omega arith) (number_left before y) op ty to x y
    stays_operation before (tree.Convert from to at) c none =
        stays_when _ (is_own g.program p at (bytes_of from)) (writes g.program at (and_then (value_in from m at) (converted to)) c p a s m w) (stays_writes _ c s (omega arith) g.program at (and_then (value_in from m at) (converted to)) p a m w)
    stays_operation before (tree.BitRead to register number) c none =
        stays_when _ (has_bit g.program p register number) (goes (PutBit to (bit (device_value g.outside register w) number) ∷ c) p a s m (after_read g (Device register) m w)) (omega arith)
    stays_operation before (tree.BitWrite register number from) c none =
        stays_when _ (is_own g.program p from 1) (bit_write g register number (m from) c p a s m w) (stays_bit_write _ c s (omega arith) g register number (m from) p a m w)
    stays_operation before (tree.Call callee) c none = absurd (omega arith)
    stays_operation before tree.Leave c none = stays_leave p s m w _ none
    stays_operation before (tree.Many ts) c none = let d = tasks_weight [] ts c in omega arith
    stays_operation before (tree.If test size first second) c none =
        stays_when _ (is_own g.program p test size) (chosen (truth_in m test size) first second c p a s m w) (stays_chosen _ (truth_in m test size) first second c p a s m w (omega arith))
    stays_operation before (tree.Loop body) c none = omega arith
    stays_operation before (tree.Exit loops) c none = stays_exit loops p a s m w _ (omega arith)
    stays_operation before (tree.Again loops) c none = absurd (omega arith)

    stays_task : (c : List Task) → task_marks c s ≡ 0 → Stays (code_weight c + stack_weight s) (act g c p a s m w)
    unfolding act
    stays_task [] none = absurd (omega arith)
    stays_task (Do before t ∷ c) none = stays_operation before t c none
    stays_task (Put to held ∷ c) none = stays_put _ c s (omega arith) g.program to held p a m w
    stays_task (PutBit to value ∷ c) none = stays_put _ c s (omega arith) g.program to (bytes.Number value) p a m w
    stays_task (PutBack register value ∷ c) none = stays_put _ c s (omega arith) g.program (Device register) (bytes.Number value) p a m w
    stays_task (Join ∷ c) none = omega arith
    stays_task (LoadFrom to object offset k ∷ c) none = stays_load_from _ g to object offset k c p a s m w (omega arith)
    stays_task (StoreTo object offset from k ∷ c) none = stays_store_to _ g object offset from k c p a s m w (omega arith)
    stays_task (Reading read ∷ c) none = stays_read _ c s (omega arith) g.program _ p a m w
    stays_task (Over ∷ c) none = tt

    stays_at : (b : Bool) (c : List Task) → (if b then 1 else task_marks c s) ≡ 0 → Stays (code_weight c + stack_weight s) (if b then enter g.program g.program.handler c p a s m w else act g c p a s m w)
    stays_at true c none = absurd (omega arith)
    stays_at false c none = stays_task c none

  stays_step : (g : Setting) (t : Machine) → step_marks g t ≡ 0 → Stays (weight t) (core_step g t)
  unfolding core_step step_marks
  stays_step g t none = stays_at g t.stack t.copy t.passing t.memory (arrived g.outside t.world) (is_due (arrived g.outside t.world)) t.code none

  stays_gone : (n : ℕ) (t : Machine) (next : Next) → weight t ≤ n → Stays n next → weight (gone t next) ≤ n
  stays_gone n t (Goes u) h r = r
  stays_gone n t Stuck h r = h
  stays_gone n t Still h r = h

  pub weight_falls : (g : Setting) (n : ℕ) (c : Machine) → marks_from g n c ≡ 0 → weight (core_run g n c) ≤ weight c
  unfolding core_run marks_from
  weight_falls g zero c none = omega arith
  weight_falls g (suc n) c none =
      let t = core_run g n c in
      let d = weight_falls g n c (omega arith) in
      let r = stays_gone (weight t) t (core_step g t) (omega arith) (stays_step g t (omega arith)) in
      omega arith

  -- So where more is left behind a stretch than before it, it has a mark.
  pub marked_by : (g : Setting) (n : ℕ) (c d : Machine) → core_run g n c ≡ d → weight c < weight d → 1 ≤ marks_from g n c
  marked_by g n c d e lt = by (marks_from g n c) refl
    where
      by : (k : ℕ) → marks_from g n c ≡ k → 1 ≤ k
      by zero q = let f = weight_falls g n c q in let h = ap weight e in absurd (omega arith)
      by (suc k) q = omega arith

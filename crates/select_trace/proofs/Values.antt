-- Operations on values: what is asked of their code, and what follows of it.
use Rattle.std.proofs.Common.{◌≡◌, ◌≢◌, ℕ, ◌+◌, ◌-◌, ◌<◌, ◌≤◌, Bool, true, List, length, Option, Some, refl, sym, subst, arith}
use Rattle.c_ints.specs.Range.{bytes_of}
use Rattle.c_ints.specs.declared.operators.BinOp.{BinOp}
use Rattle.c_ints.specs.declared.operators.UnOp.{UnOp}
use Rattle.c_ints.specs.declared.types.IntTy.{IntTy}
use Rattle.pic_world.specs.World.{World}
use Rattle.core_code.specs.Bytes as bytes
use Rattle.core_code.specs.Bytes.{Held, Number, behind, same_byte, with_bytes}
use Rattle.core_code.specs.Cost.{unary_cost, binary_cost, widening_cost}
use Rattle.core_code.specs.Machine.{Task, Waiting, is_own, extent, fits_call, after_helper}
use Rattle.core_code.specs.Operands.{number_left, is_helped, fits_unary, fits_together}
use Rattle.core_code.specs.Tree.{Tree}
use Rattle.core_code.specs.Values.{Value, byte_count, byte_of, value_in, converted, unary_value, binary_value, right_type}
use Rattle.core_code.specs.declared.code.Byte.{Byte}
use Rattle.core_code.specs.declared.code.Byte.TheVariants.{Static, Frame, Result, Device}
use Rattle.sym_code.specs.Effect.{Memory}
use Rattle.sym_code.specs.Machine.{Machine}
use Rattle.sym_code.specs.Programs.{Position}
use Rattle.sym_code.specs.Quiet.{Scene, quiet_cost}
use Rattle.sym_code.specs.Registers.{Registers, Fits}
use Rattle.select_wide.specs.Direct.{direct_run}
use Rattle.select_wide.specs.Selection.{binary_code}
use Rattle.select_wide.specs.Single.{unary_code, widening_code}
use Rattle.select_trace.proofs.Truths.{true_false}
use Rattle.select_trace.proofs.Standing.{Has}
use Rattle.select_trace.proofs.Placed.{slot}
use Rattle.select_trace.proofs.Sites.{Site, layout}
use Rattle.select_trace.proofs.Machines.{at, Calm}
use Rattle.select_trace.proofs.Live.{is_live, below, OneToOne}
use Rattle.select_trace.proofs.Memory.{Shown, Agrees, Agree, agree_bytes}
use Rattle.select_trace.proofs.Blocks.{block}
use Rattle.select_trace.proofs.Relation.{Left, Went, weaken}
use Rattle.select_trace.proofs.Steps.{thread, machine, Fit, stands_at, stays}
use Rattle.select_trace.proofs.Access.{own_valid}
use Rattle.select_trace.proofs.Tests.{own_part}
use Rattle.select_trace.proofs.Control.{here_left}
use Rattle.select_trace.proofs.Stores.{fit_with}
use Rattle.select_trace.proofs.Quiet.{quiet_path}

abbrev pub scene : Site → ℕ → ℕ → List Position → Registers → Memory → Scene
scene s f n ps r m = record { thread = thread s f n ps r; memory = m }

-- Without an event, and without an access through FSR, the thread comes from n to n', at most at this cost, and memory agrees with this one.
pub record Arrives (s : Site) (i : Bool) (live : ℕ → Bool) (f : ℕ) (ps : List Position) (n : ℕ) (r : Registers) (m : Memory) (n' : ℕ) (cm' : bytes.Memory) (hi : ℕ) : Type 0 where
  pub steps : ℕ
  pub registers : Registers
  pub memory : Memory
  pub run : direct_run s.g i steps (scene s f n ps r m) ≡ Some (scene s f n' ps registers memory)
  pub fits : Fits registers
  pub bytes : (k : ℕ) → memory k < 256
  pub agree : Agree s live cm' memory
  pub cost : quiet_cost s.g s.price i steps (scene s f n ps r m) ≤ hi

-- The code of an operation whose answer has so many bytes: they are shown, and no other byte changes.
pub record Computes (s : Site) (i : Bool) (f : ℕ) (ps : List Position) (n : ℕ) (r : Registers) (m : Memory) (n' : ℕ) (to : Byte) (count : ℕ) (held : ℕ → Held) (hi : ℕ) : Type 0 where
  pub steps : ℕ
  pub registers : Registers
  pub memory : Memory
  pub run : direct_run s.g i steps (scene s f n ps r m) ≡ Some (scene s f n' ps registers memory)
  pub fits : Fits registers
  pub bytes : (k : ℕ) → memory k < 256
  pub shows : (k : ℕ) → k < count → Shown s (held k) (memory (slot (layout s) (behind to k)))
  pub others : (j : ℕ) → ((k : ℕ) → k < count → j ≢ slot (layout s) (behind to k)) → memory j ≡ m j
  pub cost : quiet_cost s.g s.price i steps (scene s f n ps r m) ≤ hi

-- a byte of the own frame or a result agrees with what it shows
pub own_agrees : (s : Site) (f : ℕ) (x : Byte) (h : Held) (v : ℕ) → is_own s.q f x 1 ≡ true → Shown s h v → Agrees s x h v
unfolding is_own
own_agrees s f (Frame c k) h v o sh = sh
own_agrees s f (Result c k) h v o sh = sh
own_agrees s f (Static c k) h v o sh = absurd (cc)
own_agrees s f (Device a) h v o sh = absurd (cc)

pub computes_arrive : (s : Site) (i : Bool) (f : ℕ) (pr : Option ℕ) (b : ℕ → Bool) (ps : List Position) (n : ℕ) (r : Registers) (m : Memory) (n' : ℕ) (cm : bytes.Memory) (to : Byte) (count : ℕ) (held : ℕ → Held) (hi : ℕ)
    → OneToOne s (is_live f pr b) → Agree s (is_live f pr b) cm m → is_own s.q f to count ≡ true → Computes s i f ps n r m n' to count held hi → Arrives s i (is_live f pr b) f ps n r m n' (with_bytes cm to count held) hi
computes_arrive s i f pr b ps n r m n' cm to count held hi inj agree own c = record {
  steps = c.steps;
  registers = c.registers;
  memory = c.memory;
  run = c.run;
  fits = c.fits;
  bytes = c.bytes;
  agree = agree_bytes s (is_live f pr b) cm c.memory to count held
      (λ k lt. own_agrees s f (behind to k) (held k) (c.memory (slot (layout s) (behind to k))) (own_part s f count k to own lt) (c.shows k lt))
      (λ x v h. subst (λ y. Agrees s x (cm x) y) (sym (c.others (slot (layout s) x) (λ k lt e. true_false (same_byte x (behind to k)) (inj (behind to k) x (own_valid s f pr b (behind to k) (own_part s f count k to own lt)) v (sym e)) (h k lt)))) (agree x v));
  cost = c.cost;
}

pub arrives_goes : (s : Site) (t : Machine) (wc : World Held) → Calm s wc → (f : ℕ) (pr : Option ℕ) (st : List Waiting) (loops : List ℕ) (ps : List Position) (cm : bytes.Memory) (m : Memory) → Fit s t wc f pr st loops ps cm m
    → (n n' : ℕ) (r : Registers) (cm' : bytes.Memory) (c : List Task) (hi : ℕ) → Arrives s wc.inside (is_live f pr (below st)) f ps n r m n' cm' hi → Left s f loops n' c
    → Went s (at s t (thread s f n ps r) m wc) (machine f pr c st cm' wc) 0 hi
arrives_goes s t wc calm f pr st loops ps cm m fit n n' r cm' c hi a l =
    let d = machine f pr c st cm' wc in
    let cost = a.cost in
    weaken s (at s t (thread s f n ps r) m wc) d 0 (quiet_cost s.g s.price wc.inside a.steps (scene s f n ps r m) + 0) 0 hi (omega arith) (omega arith)
    (quiet_path s t wc calm d a.steps (scene s f n ps r m) (scene s f n' ps a.registers a.memory) 0 0 a.run
    (stays s (at s t (thread s f n' ps a.registers) a.memory wc) d
    (stands_at s t wc f pr c st loops cm' a.memory (thread s f n' ps a.registers) (fit_with s t wc calm f pr st loops ps cm m fit wc pr cm' a.memory refl fit.control a.agree a.bytes fit.passing) a.fits (here_left s f loops n' ps a.registers c l))))

-- ---- what is asked of the code of operators
-- What is known where an operation begins.
pub record Ready (s : Site) (wc : World Held) (f : ℕ) (pr : Option ℕ) (st : List Waiting) (ps : List Position) (cm : bytes.Memory) (m : Memory) (r : Registers) : Type 0 where
  pub fits : Fits r
  pub any : (t : Machine) × (loops : List ℕ) × Fit s t wc f pr st loops ps cm m

-- A byte of the own frame or a result holds the number that is known to be left in it.
abbrev pub Knows : Site → ℕ → bytes.Memory → List Tree → Type 0
Knows s f cm before = (b : Byte) (count : ℕ) → is_own s.q f b 1 ≡ true → number_left before b ≡ Some count → cm b ≡ Number count

pub record ValuesGo (s : Site) : Type 0 where
  -- a conversion to a type of no more bytes needs no code: the bytes that are left are those of the value
  pub cut : (f : ℕ) (pr : Option ℕ) (b : ℕ → Bool) (cm : bytes.Memory) (m : Memory) → Agree s (is_live f pr b) cm m → ((k : ℕ) → m k < 256)
      → (from to : IntTy) (at : Byte) (x v : Value) → bytes_of to ≤ bytes_of from → is_own s.q f at (bytes_of from) ≡ true → value_in from cm at ≡ Some x → converted to x ≡ Some v
      → Agree s (is_live f pr b) (with_bytes cm at (byte_count v) (byte_of v)) m
  pub unary : (wc : World Held) (f : ℕ) (pr : Option ℕ) (st : List Waiting) (ps : List Position) (cm : bytes.Memory) (m : Memory) (r : Registers) → Ready s wc f pr st ps cm m r
      → (op : UnOp) (ty : IntTy) (to : Byte) (n : ℕ) (x v : Value) → Has (block s f) n (unary_code op ty to) → fits_unary op ty ≡ true → is_own s.q f to (bytes_of ty) ≡ true → value_in ty cm to ≡ Some x → unary_value op x ≡ Some v → is_own s.q f to (byte_count v) ≡ true
      → Arrives s wc.inside (is_live f pr (below st)) f ps n r m (n + length (unary_code op ty to)) (with_bytes cm to (byte_count v) (byte_of v)) (unary_cost op (bytes_of ty))
  pub widening : (wc : World Held) (f : ℕ) (pr : Option ℕ) (st : List Waiting) (ps : List Position) (cm : bytes.Memory) (m : Memory) (r : Registers) → Ready s wc f pr st ps cm m r
      → (from to : IntTy) (at : Byte) (n : ℕ) (x v : Value) → bytes_of from < bytes_of to → Has (block s f) n (widening_code from to at) → is_own s.q f at (bytes_of from) ≡ true → value_in from cm at ≡ Some x → converted to x ≡ Some v → is_own s.q f at (byte_count v) ≡ true
      → Arrives s wc.inside (is_live f pr (below st)) f ps n r m (n + length (widening_code from to at)) (with_bytes cm at (byte_count v) (byte_of v)) (widening_cost (bytes_of to - bytes_of from))
  pub binary : (wc : World Held) (f : ℕ) (pr : Option ℕ) (st : List Waiting) (ps : List Position) (cm : bytes.Memory) (m : Memory) (r : Registers) → Ready s wc f pr st ps cm m r
      → (before : List Tree) (op : BinOp) (ty : IntTy) (to x y : Byte) (n : ℕ) (a b v : Value) → Knows s f cm before → Has (block s f) n (binary_code s.copies (s.q.root f) before op ty to x y)
      → fits_together op ty (number_left before y) to x y ≡ true → is_own s.q f x (bytes_of ty) ≡ true → is_own s.q f y (bytes_of (right_type op ty)) ≡ true → fits_call pr (is_helped op (number_left before y)) ≡ true
      → (is_helped op (number_left before y) ≡ true → s.q.helped f op ty ≡ true)
      → value_in ty cm x ≡ Some a → value_in (right_type op ty) cm y ≡ Some b → binary_value (extent s.q f st) op ty a b ≡ Some v → is_own s.q f to (byte_count v) ≡ true
      → Arrives s wc.inside (is_live f pr (below st)) f ps n r m (n + length (binary_code s.copies (s.q.root f) before op ty to x y)) (with_bytes (after_helper s.q f (is_helped op (number_left before y)) cm) to (byte_count v) (byte_of v)) (binary_cost op (number_left before y) (bytes_of ty))

-- Runs without an event by parts: code of a body, and the call of a routine.
use Rattle.std.proofs.Common.{◌≡◌, ◌≢◌, ℕ, zero, suc, ◌+◌, ◌*◌, ◌<◌, ◌≤◌, Bool, true, false, not, nat_lt, if◌then◌else◌, List, [], ◌∷◌, ◌++◌, length, take, drop, Option, Some, None, slice_get, refl, sym, ap, ◌∙◌, arith}
use Rattle.core_code.specs.declared.code.Byte.{Byte}
use Rattle.math_helpers.specs.Shape.{is_straight, sum_from}
use Rattle.select_wide.specs.Direct.{is_indirect, direct_run}
use Rattle.select_wide.specs.Moves.{copies_code}
use Rattle.sym_code.specs.Effect.{Memory, Quiet, Stuck, effect, effect_of, is_in_page, call, jump_to}
use Rattle.sym_code.specs.Programs.{Position, position, fetched, stand, lands}
use Rattle.sym_code.specs.Quiet.{Scene, quiet_cost, quiet_by}
use Rattle.sym_code.specs.Registers.{Registers, Fits}
use Rattle.sym_code.specs.Words.{most_words}
use Rattle.sym_code.specs.declared.code.BlockName.TheVariants.{Copy}
use Rattle.sym_code.specs.declared.code.Sym.{Sym}
use Rattle.sym_code.specs.declared.code.Sym.TheVariants as syms
use Rattle.sym_code.specs.declared.code.Target.TheVariants as targets
use Rattle.select_code.specs.Pieces.{byte_behind}
use Rattle.select_trace.proofs.Truths.{or_left, if_true}
use Rattle.select_trace.proofs.Standing.{Has, stand_word}
use Rattle.select_trace.proofs.Placed.{slot}
use Rattle.select_trace.proofs.Sites.{Site, layout}
use Rattle.select_trace.proofs.Live.{IsUser}
use Rattle.select_trace.proofs.Blocks.{block}
use Rattle.select_trace.proofs.Prices.{most_is, dear_three}
use Rattle.select_trace.proofs.Relation.{place}
use Rattle.select_trace.proofs.Steps.{thread, effect_word}
use Rattle.select_trace.proofs.Values.{scene}
use Rattle.select_trace.specs.Operators.{CopiesRun, Copies}
use Rattle.select_trace.specs.Silent.{number_at, AreQuiet, AreStraight, Begins, Passes}
use Rattle.select_trace.proofs.Means as means
use Rattle.select_trace.proofs.QuietSteps.{runs_then, costs_then}
use Rattle.select_trace.proofs.Setup.{slot_is, has_drop, behind_lands}
use Rattle.select_trace.proofs.Sizes.{straight_of, Short, copies_short}

-- The thread comes from n to n' without an event and without an access through FSR, with these bytes of memory, at most at this cost.
pub record Came (s : Site) (i : Bool) (f : ℕ) (ps : List Position) (n : ℕ) (r : Registers) (m : Memory) (n' : ℕ) (m' : Memory) (hi : ℕ) : Type 0 where
  pub count : ℕ
  pub registers : Registers
  pub run : direct_run s.g i count (scene s f n ps r m) ≡ Some (scene s f n' ps registers m')
  pub fits : Fits registers
  pub bytes : (k : ℕ) → m' k < 256
  pub cost : quiet_cost s.g s.price i count (scene s f n ps r m) ≤ hi

pub came_then : (s : Site) (i : Bool) (f : ℕ) (ps : List Position) (n : ℕ) (r : Registers) (m : Memory) (n1 : ℕ) (m1 : Memory) (n2 : ℕ) (m2 : Memory) (hi hi' : ℕ)
    → (a : Came s i f ps n r m n1 m1 hi) → Came s i f ps n1 a.registers m1 n2 m2 hi' → Came s i f ps n r m n2 m2 (hi + hi')
came_then s i f ps n r m n1 m1 n2 m2 hi hi' a b =
    let e = costs_then s.g s.price i a.count b.count (scene s f n ps r m) (scene s f n1 ps a.registers m1) a.run in
    let x = a.cost in
    let y = b.cost in
    record {
      count = a.count + b.count;
      registers = b.registers;
      run = runs_then s.g i a.count b.count (scene s f n ps r m) (scene s f n1 ps a.registers m1) a.run ∙ b.run;
      fits = b.fits;
      bytes = b.bytes;
      cost = omega (arith, e, x, y);
    }

pub ended : (s : Site) (f n : ℕ) (ps : List Position) (end : Scene) → end.thread.rest ≡ None → end.thread.at ≡ Some (stand s.g.program (position (Copy f) n)) → end.thread.stack ≡ ps → Some end ≡ Some (scene s f n ps end.thread.registers end.memory)
ended s f n ps end e1 e2 e3 =
    ap (λ o. Some (record { thread = record end.thread { rest = o }; memory = end.memory })) e1
    ∙ ap (λ (o : Option Position). Some (record { thread = record end.thread { rest = None; at = o }; memory = end.memory })) e2
    ∙ ap (λ (o : List Position). Some (record { thread = record end.thread { rest = None; at = Some (place s f n); stack = o }; memory = end.memory })) e3

pub came_passes : (s : Site) (i : Bool) (f n : ℕ) (ps : List Position) (r : Registers) (m : Memory) (code : List Sym) (hi : ℕ) → (p : Passes s.g s.price i (Copy f) n code (scene s f n ps r m)) → sum_from (s.price (Copy f)) n code ≤ hi
    → Came s i f ps n r m (n + length code) p.end.memory hi
came_passes s i f n ps r m code hi p le =
    let c = p.cost in
    record {
      count = p.count;
      registers = p.end.thread.registers;
      run = p.run ∙ ended s f (n + length code) ps p.end p.rest p.at p.stack;
      fits = p.fits;
      bytes = p.bytes;
      cost = omega (arith, c, le);
    }

take_front : (xs ys : List Sym) → take (length xs) (xs ++ ys) ≡ xs
take_front [] ys = refl
take_front (x ∷ xs) ys = ap (λ (zs : List Sym). x ∷ zs) (take_front xs ys)

pub sum_three : (s : Site) (f n : ℕ) (list : List Sym) → IsUser s f → Has (block s f) n list → is_straight list ≡ true → sum_from (s.price (Copy f)) n list ≤ 3 * length list
sum_three s f n list u h straight =
    let a : sum_from (s.price (Copy f)) n list ≤ most_words list = (s.chosen.prices f u.copy u.there u.user).each n list (ap (take (length list)) (has_drop (block s f) n list h) ∙ take_front list (drop (n + length list) (block s f))) straight in
    let b = dear_three list in
    let all = most_is list in
    omega (arith, a, b, all)

-- ---- copies
pub record Moved (s : Site) (i : Bool) (f : ℕ) (ps : List Position) (n : ℕ) (r : Registers) (m : Memory) (to from : Byte) (w : ℕ) : Type 0 where
  pub memory : Memory
  pub came : Came s i f ps n r m (n + length (copies_code to from w)) memory (3 * (w * 2))
  pub bytes_at : (k : ℕ) → k < w → memory (number_at (layout s) (byte_behind to k)) ≡ m (number_at (layout s) (byte_behind from k))
  pub others : (j : ℕ) → ((k : ℕ) → k < w → j ≢ number_at (layout s) (byte_behind to k)) → memory j ≡ m j

some_code : (to from : Byte) (w : ℕ) → 0 < w → 0 < length (copies_code to from w)
some_code to from zero lt = absurd (omega arith)
some_code to from (suc w) lt = front (copies_code to from w) _ _
  where
    front : (xs : List Sym) (y : Sym) (ys : List Sym) → 0 < length (xs ++ y ∷ ys)
    front [] y ys = omega arith
    front (x ∷ xs) y ys = omega arith

pub moves : CopiesRun → (s : Site) (i : Bool) (f : ℕ) (ps : List Position) (n : ℕ) (r : Registers) (m : Memory) (to from : Byte) (w : ℕ) → IsUser s f → Fits r → ((k : ℕ) → m k < 256) → 0 < w → Has (block s f) n (copies_code to from w)
    → (among : Byte → Bool) → AreQuiet s.g i (λ byte. among byte ≡ true) → ((k : ℕ) → k < w → (among (byte_behind to k) ≡ true) × (among (byte_behind from k) ≡ true))
    → ((j k : ℕ) → j < k → k < w → (number_at (layout s) (byte_behind to j) ≢ number_at (layout s) (byte_behind to k)) × (number_at (layout s) (byte_behind to j) ≢ number_at (layout s) (byte_behind from k)))
    → Moved s i f ps n r m to from w
moves copies s i f ps n r m to from w u fits bytes some has among quiet all apart =
    let list = copies_code to from w in
    let P : Byte → Type 0 = λ byte. among byte ≡ true in
    let t : ℕ → ℕ = λ k. number_at (layout s) (byte_behind to k) in
    let g : ℕ → ℕ = λ k. number_at (layout s) (byte_behind from k) in
    let straight : AreStraight P list = (means.copies P (number_at (layout s)) to from w t g (λ k lt. ((all k lt).0, refl, (all k lt).1, refl))).straight in
    let short : Short list (w * 2) = copies_short to from w in
    let b : Begins s.g (Copy f) n list (scene s f n ps r m) = record {
      behind = drop (n + length list) (block s f);
      there = has_drop (block s f) n list has;
      lands = behind_lands s f u P list n (some_code to from w some) straight has;
      at = refl;
      rest = refl;
      registers = fits;
      bytes = bytes;
    } in
    let c : Copies s.g s.price i (Copy f) n to from w (scene s f n ps r m) = copies s.g s.price i among (Copy f) n (scene s f n ps r m) to from w quiet all apart b in
    let x : sum_from (s.price (Copy f)) n list ≤ 3 * length list = sum_three s f n list u has (straight_of P list straight short.ends) in
    let y : length list ≤ w * 2 = short.most in
    record {
      memory = c.passes.end.memory;
      came = came_passes s i f n ps r m list (3 * (w * 2)) c.passes (omega (arith, x, y));
      bytes_at = c.bytes;
      others = c.others;
    }

-- the same by bytes that have their names
pub record Copied (s : Site) (i : Bool) (f : ℕ) (ps : List Position) (n : ℕ) (r : Registers) (m : Memory) (list : List Sym) (to from : ℕ → Byte) (w : ℕ) : Type 0 where
  pub memory : Memory
  pub came : Came s i f ps n r m (n + length list) memory (3 * (w * 2))
  pub bytes_at : (k : ℕ) → k < w → memory (slot (layout s) (to k)) ≡ m (slot (layout s) (from k))
  pub others : (j : ℕ) → ((k : ℕ) → k < w → j ≢ slot (layout s) (to k)) → memory j ≡ m j

pub copied : CopiesRun → (s : Site) (i : Bool) (f : ℕ) (ps : List Position) (n : ℕ) (r : Registers) (m : Memory) (to from : Byte) (w : ℕ) → IsUser s f → Fits r → ((k : ℕ) → m k < 256) → 0 < w → Has (block s f) n (copies_code to from w)
    → (among : Byte → Bool) → AreQuiet s.g i (λ byte. among byte ≡ true) → (tb fb : ℕ → Byte) → ((k : ℕ) → k < w → byte_behind to k ≡ tb k) → ((k : ℕ) → k < w → byte_behind from k ≡ fb k)
    → ((k : ℕ) → k < w → among (tb k) ≡ true) → ((k : ℕ) → k < w → among (fb k) ≡ true)
    → ((j k : ℕ) → j < k → k < w → slot (layout s) (tb j) ≢ slot (layout s) (tb k)) → ((j k : ℕ) → j < k → k < w → slot (layout s) (tb j) ≢ slot (layout s) (fb k))
    → Copied s i f ps n r m (copies_code to from w) tb fb w
copied copies s i f ps n r m to from w u fits bytes some has among quiet tb fb et ef at af tt_apart tf_apart =
    let nt : (k : ℕ) → k < w → number_at (layout s) (byte_behind to k) ≡ slot (layout s) (tb k) = λ k lt. ap (number_at (layout s)) (et k lt) ∙ sym (slot_is (layout s) (tb k)) in
    let nf : (k : ℕ) → k < w → number_at (layout s) (byte_behind from k) ≡ slot (layout s) (fb k) = λ k lt. ap (number_at (layout s)) (ef k lt) ∙ sym (slot_is (layout s) (fb k)) in
    let c : Moved s i f ps n r m to from w = moves copies s i f ps n r m to from w u fits bytes some has among quiet
    (λ k lt. (ap among (et k lt) ∙ at k lt, ap among (ef k lt) ∙ af k lt))
    (λ j k lt lk. (let lj : j < w = omega arith in (λ e. tt_apart j k lt lk (sym (nt j lj) ∙ e ∙ nt k lk)), let lj : j < w = omega arith in (λ e. tf_apart j k lt lk (sym (nt j lj) ∙ e ∙ nf k lk)))) in
    record {
      memory = c.memory;
      came = c.came;
      bytes_at = λ k lt. ap c.memory (sym (nt k lt)) ∙ c.bytes_at k lt ∙ ap m (nf k lt);
      others = λ j no. c.others j (λ k lt e. no k lt (e ∙ nt k lt));
    }

-- ---- a call
call_is : (s : Site) (i : Bool) (f n : ℕ) (ps : List Position) (r : Registers) (m : Memory) (d : ℕ) → nat_lt (length ps) (s.g.limit i) ≡ true
    → effect_of s.g i (position (Copy f) n) (thread s f n ps r) m (syms.Call (targets.Block (Copy d))) ≡ Quiet (thread s d 0 (place s f (n + 1) ∷ ps) r) None
unfolding effect_of
call_is s i f n ps r m d lt =
    let target = targets.Block (Copy d) in
    if_true (is_in_page s.g (position (Copy f) n) r target) (call s.g i (position (Copy f) n) (thread s f n ps r) target) Stuck (or_left _ _ (ap not s.chosen.no_selects))
    ∙ if_true (nat_lt (length ps) (s.g.limit i)) (jump_to (record (thread s f n ps r) { stack = place s f (n + 1) ∷ ps }) (Some (place s d 0))) Stuck lt

pub called : (s : Site) (i : Bool) (f n : ℕ) (ps : List Position) (r : Registers) (m : Memory) (d : ℕ) → nat_lt (length ps) (s.g.limit i) ≡ true → slice_get (block s f) n ≡ Some (syms.Call (targets.Block (Copy d))) → lands s.g.program (place s d 0) ≡ true
    → direct_run s.g i 1 (scene s f n ps r m) ≡ Some (record { thread = thread s d 0 (place s f (n + 1) ∷ ps) r; memory = m })
unfolding direct_run
called s i f n ps r m d lt at there =
    let e : effect s.g i (thread s f n ps r) m ≡ Quiet (thread s d 0 (place s f (n + 1) ∷ ps) r) None = effect_word s i f n ps r m (syms.Call (targets.Block (Copy d))) at refl ∙ call_is s i f n ps r m d lt in
    let direct : is_indirect (fetched s.g.program (place s f n)) ≡ false = ap (λ (p : Position). is_indirect (fetched s.g.program p)) (stand_word s.g.program (Copy f) n (syms.Call (targets.Block (Copy d))) at refl) ∙ ap is_indirect at in
    ap (λ b. if b then None else quiet_by s.g.program m (effect s.g i (thread s f n ps r) m)) direct
    ∙ ap (quiet_by s.g.program m) e ∙ if_true (lands s.g.program (place s d 0)) (Some (record { thread = thread s d 0 (place s f (n + 1) ∷ ps) r; memory = m })) None there

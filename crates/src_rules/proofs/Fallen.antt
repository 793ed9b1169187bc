-- The weight falls in each micro-step that doesn't count: accesses and statements.
use Rattle.std.proofs.Common.{◌≡◌, ℕ, zero, suc, ◌+◌, ◌-◌, ◌<◌, ◌≤◌, inl, inr, Bool, true, false, List, [], ◌∷◌, length, Option, Some, None, refl, sym, ap, arith}
use Rattle.std.proofs.lemmas.Bool.{false≢true, ltb-false}
use Rattle.std.specs.Prelude.{if◌then◌else◌, nat_lt, is_some}
use Rattle.c_typed.specs.Trees as tree
use Rattle.c_typed.specs.Trees.{Expression, Expressions, Place, Item, Statement, Statements, Arm, Arms, LastArm, Program}
use Rattle.c_typed.specs.Types.{type_bytes}
use Rattle.c_typed.specs.declared.statement.LoopForm.{LoopForm}
use Rattle.c_typed.specs.declared.statement.TCase.{TCase}
use Rattle.pic_world.specs.World.{World}
use Rattle.src_rules.proofs.Falling.{Falls}
use Rattle.src_rules.specs.Accesses.{fetched, fetch, skim, items, stored_in, stored_for, stored, write, copy_read, spell, blank_at, blank_for, blank}
use Rattle.src_rules.specs.Giving.{statements_behind, jump_if_any, compares_for, compares}
use Rattle.src_rules.specs.Parts.{IsStatementOf}
use Rattle.src_rules.specs.Standing.{Fetches}
use Rattle.src_rules.specs.State.{Outcome}
use Rattle.src_rules.specs.Statements.{turn, test, next_of, last, arms, unwound}
use Rattle.src_rules.specs.Step.{is_some_line}
use Rattle.src_rules.specs.Weights.{part_weight, items_weight, statements_weight, arms_weight, last_weight, test_weight, step_weight, stage_weight, stack_weight}
use Rattle.src_values.specs.Control.{Got, At, AtWith, Stores, Copies, Stage, Turns, InArm, Chooses, Fills, Items, Blanks, Pending, In, To, Doing, Before, Returns, Resumes, read_type}
use Rattle.src_values.specs.Counting.{counted_line, counted_if, statement_counts, any_left, blank_counts_for, blank_counts, label_counts}
use Rattle.src_values.specs.Data.{Datum, Missing}
use Rattle.src_values.specs.Lists.{covered_from}
use Rattle.src_values.specs.Memory.{Setting, Memory}
use Rattle.src_values.specs.Objects.{local_of}
use Rattle.src_values.specs.Values.{value_from, written_bytes}
use Rattle.src_values.specs.declared.objects.Byte.{Byte}
use Rattle.src_values.specs.declared.objects.CopyOf.{CopyOf}
use Rattle.src_values.specs.declared.objects.Object.{Object}
use Rattle.src_values.specs.declared.objects.Spot.{Spot}

abbrev is_counted : Option ℕ → Bool
is_counted o = is_some o

-- where a test makes a step count and none counts, the test fails
pub unmet : (b : Bool) (line : ℕ) → counted_if b line ≡ None → b ≡ false
unmet true line e = absurd (false≢true (sym (ap is_some e)))
unmet false line e = refl

pub none_left : (left line : ℕ) → any_left left line ≡ None → left ≡ 0
none_left zero line e = refl
none_left (suc left) line e = absurd (false≢true (sym (ap is_some e)))

not_chosen : (p : Program) (n : ℕ) (b : Bool) (x y : Outcome) → b ≡ false → Falls p n y → Falls p n (if b then x else y)
not_chosen p n true x y e h = absurd (false≢true (sym e))
not_chosen p n false x y e h = h

-- ---- a value was read
-- a frame that takes a value that was read counts where it stays
fetched_in_falls : (p : Program) (e : Expression) (got : Got) (v : Datum) (k : List Pending) (c : CopyOf) (m : Memory) (w : World Byte) (start : Spot) → Fetches (In e got ∷ k) start → Falls p (part_weight e got + stack_weight k) (fetched v (In e got ∷ k) c m w)
unfolding part_weight counted_line
fetched_in_falls p (tree.Read place ty line) (At spot) v k c m w start n = inr (omega arith)
fetched_in_falls p (tree.Update op place value operation size ty line) (AtWith spot u) v k c m w start n = inl (refl, omega arith)
fetched_in_falls p (tree.Step op place operation size ty line) (At spot) v k c m w start n = inl (refl, omega arith)
fetched_in_falls p _ _ v k c m w start n = absurd n

fetched_falls : (p : Program) (v : Datum) (k : List Pending) (c : CopyOf) (m : Memory) (w : World Byte) (start : Spot) → Fetches k start → Falls p (stack_weight k) (fetched v k c m w)
fetched_falls p v [] c m w start n = absurd n
fetched_falls p v (In e got ∷ k) c m w start n = fetched_in_falls p e got v k c m w start n
fetched_falls p v (To place ∷ k) c m w start n = absurd n
fetched_falls p v (Doing t stage ∷ k) c m w start n = absurd n
fetched_falls p v (Before ss ∷ k) c m w start n = absurd n
fetched_falls p v (Returns d ∷ k) c m w start n = absurd n
fetched_falls p v (Resumes d x ∷ k) c m w start n = absurd n

pub fetch_falls : (s : Setting) (p : Program) (spot : Spot) (read : List Byte) (k : List Pending) (c : CopyOf) (m : Memory) (w : World Byte) (start : Spot) → Fetches k start → nat_lt (length read) (type_bytes s.program.sizes (read_type k)) ≡ false → Falls p (stack_weight k) (fetch s spot read k c m w)
fetch_falls s p spot read k c m w start n e = not_chosen p _ (nat_lt (length read) (type_bytes s.program.sizes (read_type k))) _ _ e (fetched_falls p (value_from (read_type k) read) k c m w start n)

pub skim_falls : (s : Setting) (p : Program) (spot : Spot) (left : ℕ) (byte : Option Byte) (k : List Pending) (c : CopyOf) (m : Memory) (w : World Byte) (start : Spot) → Fetches k start → left ≡ 0 → Falls p (stack_weight k) (skim s spot left byte k c m w)
skim_falls s p spot zero byte k c m w start n e = fetched_falls p Missing k c m w start n
skim_falls s p spot (suc left) byte k c m w start n e = absurd (omega arith)

-- ---- what follows a write
module _ (s : Setting) (p : Program) where
  pub items_fall : (n : ℕ) (local : ℕ) (full : List Item) (line : ℕ) (object : Object) (all : List Item) (k : List Pending) (c : CopyOf) (m : Memory) (w : World Byte) → items_weight all + stack_weight k < n → Falls p n (items s (tree.InitList local full line) object all k c m w)
  unfolding stage_weight
  items_fall n local full line object [] k c m w h = inr (omega arith)
  items_fall n local full line object (tree.Scalar offset value ∷ rest) k c m w h = inr (omega arith)
  items_fall n local full line object (tree.Struct offset from size ∷ rest) k c m w h = inr (omega arith)
  items_fall n local full line object (tree.Text offset text size ∷ rest) k c m w h = inr (omega arith)

  weighs_stores : (e : Expression) (spot : Spot) (v : Datum) → part_weight e (Stores spot v) ≡ 1
  unfolding part_weight
  weighs_stores (tree.Constant x line) spot v = refl
  weighs_stores _ spot v = refl

  weighs_copies : (e : Expression) → part_weight e Copies ≡ 1
  unfolding part_weight
  weighs_copies (tree.Constant x line) = refl
  weighs_copies _ = refl

  stored_in_falls : (e : Expression) (got : Got) (k : List Pending) (c : CopyOf) (m : Memory) (w : World Byte) → Falls p (part_weight e got + stack_weight k) (stored_in e got k c m w)
  stored_in_falls e (Stores spot v) k c m w = let d = weighs_stores e spot v in inr (omega arith)
  stored_in_falls e Copies k c m w = let d = weighs_copies e in inr (omega arith)
  stored_in_falls e _ k c m w = tt

  stored_for_falls : (t : Statement) (stage : Stage) (k : List Pending) (c : CopyOf) (m : Memory) (w : World Byte) → Falls p (stage_weight t stage + stack_weight k) (stored_for s t stage k c m w)
  unfolding stage_weight
  stored_for_falls (tree.InitScalar local e line) Fills k c m w = inr (omega arith)
  stored_for_falls (tree.InitList local all line) (Items item rest) k c m w = items_fall _ local all line _ rest k c m w (omega arith)
  stored_for_falls (tree.InitList local all line) Blanks k c m w = inr (omega arith)
  stored_for_falls _ _ k c m w = tt

  stored_falls : (k : List Pending) (c : CopyOf) (m : Memory) (w : World Byte) → Falls p (stack_weight k) (stored s k c m w)
  stored_falls [] c m w = tt
  stored_falls (In e got ∷ k) c m w = stored_in_falls e got k c m w
  stored_falls (To place ∷ k) c m w = tt
  stored_falls (Doing t stage ∷ k) c m w = stored_for_falls t stage k c m w
  stored_falls (Before ss ∷ k) c m w = tt
  stored_falls (Returns d ∷ k) c m w = tt
  stored_falls (Resumes d x ∷ k) c m w = tt

  pub write_falls : (spot : Spot) (v : Datum) (at : ℕ) (k : List Pending) (c : CopyOf) (m : Memory) (w : World Byte) → nat_lt at (written_bytes spot v) ≡ false → Falls p (stack_weight k) (write s spot v at k c m w)
  write_falls spot v at k c m w e = not_chosen p _ (nat_lt at (written_bytes spot v)) _ _ e (stored_falls k c m w)

  pub copy_falls : (to from : Spot) (left : ℕ) (k : List Pending) (c : CopyOf) (m : Memory) (w : World Byte) → left ≡ 0 → Falls p (stack_weight k) (copy_read s to from left k c m w)
  copy_falls to from zero k c m w e = stored_falls k c m w
  copy_falls to from (suc left) k c m w e = absurd (omega arith)

  pub spell_falls : (spot : Spot) (text : List ℕ) (left : ℕ) (k : List Pending) (c : CopyOf) (m : Memory) (w : World Byte) → left ≡ 0 → Falls p (stack_weight k) (spell s spot text left k c m w)
  spell_falls spot text zero k c m w e = stored_falls k c m w
  spell_falls spot text (suc left) k c m w e = absurd (omega arith)

  blank_at_falls : (object : Object) (at left : ℕ) (k : List Pending) (c : CopyOf) (m : Memory) (w : World Byte) → left ≡ 0 → Falls p (stack_weight k) (blank_at s object at left k c m w)
  blank_at_falls object at zero k c m w e = stored_falls k c m w
  blank_at_falls object at (suc left) k c m w e = absurd (omega arith)

  blank_for_falls : (t : Statement) (stage : Stage) (at left : ℕ) (k : List Pending) (c : CopyOf) (m : Memory) (w : World Byte) → blank_counts_for s.program t at left ≡ None → Falls p (stack_weight (Doing t stage ∷ k)) (blank_for s t at left (Doing t stage ∷ k) c m w)
  blank_for_falls (tree.InitList local all line) stage at left k c m w u =
      let d = ltb-false (covered_from s.program.sizes all at left) left (unmet (nat_lt (covered_from s.program.sizes all at left) left) line u) in
      blank_at_falls (local_of s.program c local) (at + covered_from s.program.sizes all at left) (left - covered_from s.program.sizes all at left) (Doing (tree.InitList local all line) stage ∷ k) c m w (omega arith)
  blank_for_falls _ stage at left k c m w u = tt

  pub blank_falls : (at left : ℕ) (k : List Pending) (c : CopyOf) (m : Memory) (w : World Byte) → blank_counts s.program at left k ≡ None → Falls p (stack_weight k) (blank s at left k c m w)
  blank_falls at left [] c m w u = tt
  blank_falls at left (In e got ∷ k) c m w u = tt
  blank_falls at left (To place ∷ k) c m w u = tt
  blank_falls at left (Doing t stage ∷ k) c m w u = blank_for_falls t stage at left k c m w u
  blank_falls at left (Before ss ∷ k) c m w u = tt
  blank_falls at left (Returns d ∷ k) c m w u = tt
  blank_falls at left (Resumes d x ∷ k) c m w u = tt

-- ---- statements
-- a body counts where it begins: it is no declarator
body_counts : (p : Program) (f : ℕ) (l r : Bool) (t : Statement) → IsStatementOf p f false l r t → is_some_line (statement_counts t) ≡ true
body_counts p f l r (tree.Block ss line) h = refl
body_counts p f l r (tree.Empty line) h = refl
body_counts p f l r (tree.Expr e line) h = refl
body_counts p f l r (tree.Declare local line) h = absurd (false≢true h.0)
body_counts p f l r (tree.InitScalar local e line) h = absurd (false≢true h.0)
body_counts p f l r (tree.InitList local all line) h = absurd (false≢true h.0)
body_counts p f l r (tree.If chain otherwise line) h = refl
body_counts p f l r (tree.Loop shape first condition step body line) h = refl
body_counts p f l r (tree.Switch e cases default ss line) h = refl
body_counts p f l r (tree.Break line) h = refl
body_counts p f l r (tree.Continue line) h = refl
body_counts p f l r (tree.Return value line) h = refl

module _ (p : Program) where
  pub turn_falls : (n f : ℕ) (l r : Bool) (t body : Statement) (k : List Pending) (c : CopyOf) (m : Memory) (w : World Byte) → IsStatementOf p f false l r body → 0 < n → Falls p n (turn t body k c m w)
  unfolding counted_line
  turn_falls n f l r t body k c m w h g = inl (body_counts p f l r body h, g)

  pub test_falls : (n f : ℕ) (d l r : Bool) (shape : LoopForm) (first condition step : Option Expression) (body : Statement) (line : ℕ) (k : List Pending) (c : CopyOf) (m : Memory) (w : World Byte) → IsStatementOf p f d l r (tree.Loop shape first condition step body line) → test_weight condition + stack_weight k < n → Falls p n (test (tree.Loop shape first condition step body line) condition body k c m w)
  unfolding stage_weight
  test_falls n f d l r shape first None step body line k c m w h g = turn_falls n f true true _ body k c m w h.3 (omega arith)
  test_falls n f d l r shape first (Some e) step body line k c m w h g = inr (omega arith)

  pub next_falls : (n f : ℕ) (d l r : Bool) (shape : LoopForm) (first condition step : Option Expression) (body : Statement) (line : ℕ) (k : List Pending) (c : CopyOf) (m : Memory) (w : World Byte) → IsStatementOf p f d l r (tree.Loop shape first condition step body line) → step_weight step + test_weight condition + stack_weight k < n → Falls p n (next_of (tree.Loop shape first condition step body line) step condition body k c m w)
  unfolding stage_weight
  next_falls n f d l r shape first condition None body line k c m w h g = test_falls n f d l r shape first condition None body line k c m w h (omega arith)
  next_falls n f d l r shape first condition (Some e) body line k c m w h g = inr (omega arith)

  last_falls : (n : ℕ) (t : Statement) (chain : Arms) (otherwise all : LastArm) (line : ℕ) (k : List Pending) (c : CopyOf) (m : Memory) (w : World Byte) → last_weight otherwise + stack_weight k + 1 < n → Falls p n (last (tree.If chain all line) otherwise k c m w)
  unfolding stage_weight
  last_falls n t chain tree.NoLast all line k c m w h = inr (omega arith)
  last_falls n t chain (tree.Last chosen) all line k c m w h = inr (omega arith)

  pub arms_fall : (n : ℕ) (chain more : Arms) (otherwise : LastArm) (line : ℕ) (k : List Pending) (c : CopyOf) (m : Memory) (w : World Byte) → arms_weight more otherwise + stack_weight k + 1 < n → Falls p n (arms (tree.If chain otherwise line) more otherwise k c m w)
  unfolding stage_weight
  arms_fall n chain tree.NoArm otherwise line k c m w h = last_falls n (tree.If chain otherwise line) chain otherwise otherwise line k c m w h
  arms_fall n chain (tree.AndArm (tree.OneArm condition chosen at) more) otherwise line k c m w h = inr (omega arith)

  -- leaving a function leaves no more than there was
  pub unwound_weighs : (k : List Pending) → stack_weight (unwound k) ≤ stack_weight k
  unwound_weighs [] = omega arith
  unwound_weighs (In e got ∷ k) = omega arith
  unwound_weighs (To place ∷ k) = omega arith
  unwound_weighs (Doing t Turns ∷ k) = let d = unwound_weighs k in omega arith
  unwound_weighs (Doing t (InArm more) ∷ k) = let d = unwound_weighs k in omega arith
  unwound_weighs (Doing t _ ∷ k) = omega arith
  unwound_weighs (Before ss ∷ k) = let d = unwound_weighs k in omega arith
  unwound_weighs (Returns d ∷ k) = omega arith
  unwound_weighs (Resumes d x ∷ k) = omega arith

  behind_weighs : (n : ℕ) (ss : Statements) → statements_weight (statements_behind n ss) ≤ statements_weight ss
  unfolding statements_weight
  behind_weighs zero ss = omega arith
  behind_weighs (suc n) tree.NoStatement = omega arith
  behind_weighs (suc n) (tree.AndStatement t ts) = let d = behind_weighs n ts in omega arith

  any_jump_falls : (n : ℕ) (e : Expression) (cases : List TCase) (default o : Option ℕ) (ss : Statements) (line : ℕ) (k : List Pending) (c : CopyOf) (m : Memory) (w : World Byte) → statements_weight ss + stack_weight k + 1 < n → Falls p n (jump_if_any (tree.Switch e cases default ss line) o ss k c m w)
  unfolding stage_weight
  any_jump_falls n e cases default None ss line k c m w h = inr (omega arith)
  any_jump_falls n e cases default (Some target) ss line k c m w h = let d = behind_weighs target ss in inr (omega arith)

  compares_for_falls : (t : Statement) (stage : Stage) (v : Datum) (labels : List TCase) (k : List Pending) (c : CopyOf) (m : Memory) (w : World Byte) → label_counts labels ≡ None → Falls p (stage_weight t stage + stack_weight k) (compares_for t stage v labels k c m w)
  unfolding stage_weight
  compares_for_falls (tree.Switch e cases default ss line) Chooses v [] k c m w u = any_jump_falls _ e cases default default ss line k c m w (omega arith)
  compares_for_falls (tree.Switch e cases default ss line) Chooses v (label ∷ labels) k c m w u = absurd (false≢true (sym (ap is_some u)))
  compares_for_falls _ _ v labels k c m w u = tt

  pub compares_fall : (v : Datum) (labels : List TCase) (k : List Pending) (c : CopyOf) (m : Memory) (w : World Byte) → label_counts labels ≡ None → Falls p (stack_weight k) (compares v labels k c m w)
  compares_fall v labels [] c m w u = tt
  compares_fall v labels (In e got ∷ k) c m w u = tt
  compares_fall v labels (To place ∷ k) c m w u = tt
  compares_fall v labels (Doing t stage ∷ k) c m w u = compares_for_falls t stage v labels k c m w u
  compares_fall v labels (Before ss ∷ k) c m w u = tt
  compares_fall v labels (Returns d ∷ k) c m w u = tt
  compares_fall v labels (Resumes d x ∷ k) c m w u = tt

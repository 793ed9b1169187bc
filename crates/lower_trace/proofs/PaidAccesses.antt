-- A micro-step that doesn't count is paid for: the ends of accesses, and what follows in a statement.
use Rattle.std.proofs.Common.{◌≡◌, ℕ, zero, suc, ◌+◌, ◌-◌, ◌≤◌, inl, inr, Bool, true, false, List, [], ◌∷◌, length, Option, Some, None, refl, sym, ap, arith}
use Rattle.std.proofs.lemmas.Bool.{false≢true, ltb-false}
use Rattle.std.specs.Prelude.{if◌then◌else◌, nat_lt, is_some}
use Rattle.c_typed.specs.Trees as tree
use Rattle.c_typed.specs.Trees.{Expression, Place, Item, Statement, Statements, Arm, Arms, LastArm, Program}
use Rattle.c_typed.specs.Types.{type_bytes}
use Rattle.c_typed.specs.declared.statement.LoopForm.{LoopForm}
use Rattle.c_typed.specs.declared.statement.TCase.{TCase}
use Rattle.pic_world.specs.World.{World}
use Rattle.src_rules.proofs.Fallen.{unmet}
use Rattle.src_rules.specs.Accesses.{fetched, fetch, skim, items, stored_in, stored_for, stored, write, copy_read, spell, blank_at, blank_for, blank}
use Rattle.src_rules.specs.Giving.{statements_behind, jump_if_any, compares_for, compares}
use Rattle.src_rules.specs.Parts.{IsStatementOf, AreStatementsOf, IsLastOf}
use Rattle.src_rules.specs.Standing.{Fetches, Skims, Copying, Spells}
use Rattle.src_rules.specs.State.{Outcome}
use Rattle.src_rules.specs.Statements.{turn, test, next_of, last, arms, unwound}
use Rattle.src_rules.specs.Step.{is_some_line}
use Rattle.src_values.specs.Control.{Got, At, AtWith, Stores, Copies, Stage, Tests, Steps, Turns, Picks, InArm, Chooses, Fills, AtItem, Items, Blanks, Pending, In, To, Doing, Before, Returns, Resumes, read_type}
use Rattle.src_values.specs.Counting.{counted_line, statement_counts, blank_counts_for, blank_counts, label_counts}
use Rattle.src_values.specs.Data.{Datum, Missing}
use Rattle.src_values.specs.Lists.{covered_from}
use Rattle.src_values.specs.Memory.{Setting, Memory}
use Rattle.src_values.specs.Objects.{local_of}
use Rattle.src_values.specs.Values.{value_from, written_bytes}
use Rattle.src_values.specs.declared.objects.Byte.{Byte}
use Rattle.src_values.specs.declared.objects.CopyOf.{CopyOf}
use Rattle.src_values.specs.declared.objects.Object.{Object}
use Rattle.src_values.specs.declared.objects.Spot.{Spot}
use Rattle.lower_trace.proofs.Choosing.{end_joins}
use Rattle.lower_trace.proofs.CodeLeft.{arm_count, Switched, labels_in, index_in}
use Rattle.lower_trace.proofs.Falling.{falling}
use Rattle.lower_stmt.specs.Labels.{has}
use Rattle.lower_trace.proofs.Prices.{skimmed_most, wrote_most, copied_most, compared_most}
use Rattle.lower_trace.proofs.Burdens.{bulk, items_burden, statements_burden, test_burden, step_burden, arms_burden, end_burden, value_burden, leave_burden, fetched_burden, skimmed_burden, stored_burden, copy_burden, compared_burden}
use Rattle.lower_trace.proofs.PaidExpressions.{Pays, bulk_end, eval_part, find_part}

otherwise_pays : (p : Program) (n : ℕ) (b : Bool) (x y : Outcome) → b ≡ false → Pays p n y → Pays p n (if b then x else y)
otherwise_pays p n true x y e h = absurd (false≢true (sym e))
otherwise_pays p n false x y e h = h

module _ (s : Setting) where
  -- ---- a value was read
  fetched_in_pays : (n : ℕ) (e : Expression) (got : Got) (v : Datum) (k : List Pending) (c : CopyOf) (m : Memory) (w : World Byte) (start : Spot) → Fetches (In e got ∷ k) start → 27 + n ≡ fetched_burden s.program c (In e got ∷ k) → Pays s.program n (fetched v (In e got ∷ k) c m w)
  unfolding counted_line bulk
  fetched_in_pays n (tree.Read place ty line) (At spot) v k c m w start f h = (inr (omega arith), refl)
  fetched_in_pays n (tree.Update op place value operation size ty line) (AtWith spot u) v k c m w start f h = (inl (refl, omega arith), refl)
  fetched_in_pays n (tree.Step op place operation size ty line) (At spot) v k c m w start f h = (inl (refl, omega arith), refl)
  fetched_in_pays n _ _ v k c m w start f h = absurd f

  fetched_pays : (n : ℕ) (v : Datum) (k : List Pending) (c : CopyOf) (m : Memory) (w : World Byte) (start : Spot) → Fetches k start → 27 + n ≡ fetched_burden s.program c k → Pays s.program n (fetched v k c m w)
  fetched_pays n v [] c m w start f h = absurd f
  fetched_pays n v (In e got ∷ k) c m w start f h = fetched_in_pays n e got v k c m w start f h
  fetched_pays n v (To place ∷ k) c m w start f h = absurd f
  fetched_pays n v (Doing t stage ∷ k) c m w start f h = absurd f
  fetched_pays n v (Before ss ∷ k) c m w start f h = absurd f
  fetched_pays n v (Returns d ∷ k) c m w start f h = absurd f
  fetched_pays n v (Resumes d x ∷ k) c m w start f h = absurd f

  pub fetch_pays : (n : ℕ) (spot : Spot) (read : List Byte) (k : List Pending) (c : CopyOf) (m : Memory) (w : World Byte) (start : Spot) → Fetches k start → nat_lt (length read) (type_bytes s.program.sizes (read_type k)) ≡ false → 27 + n ≡ fetched_burden s.program c k
      → Pays s.program n (fetch s spot read k c m w)
  fetch_pays n spot read k c m w start f e h = otherwise_pays s.program n (nat_lt (length read) (type_bytes s.program.sizes (read_type k))) _ _ e (fetched_pays n (value_from (read_type k) read) k c m w start f h)

  skimmed_pays : (n : ℕ) (k : List Pending) (c : CopyOf) (m : Memory) (w : World Byte) (start : Spot) → Skims k start → skimmed_most s.program.sizes k + n ≡ skimmed_burden s.program c k → Pays s.program n (fetched Missing k c m w)
  skimmed_pays n (In (tree.Read place ty line) (At spot) ∷ k) c m w start f h = (inr (omega arith), refl)
  skimmed_pays n _ c m w start f h = absurd f

  pub skim_pays : (n : ℕ) (spot : Spot) (left : ℕ) (byte : Option Byte) (k : List Pending) (c : CopyOf) (m : Memory) (w : World Byte) (start : Spot) → Skims k start → left ≡ 0 → skimmed_most s.program.sizes k + n ≡ skimmed_burden s.program c k → Pays s.program n (skim s spot left byte k c m w)
  skim_pays n spot zero byte k c m w start f e h = skimmed_pays n k c m w start f h
  skim_pays n spot (suc left) byte k c m w start f e h = absurd (omega arith)

  -- ---- what follows a write
  pub items_pay : (n : ℕ) (local : ℕ) (full : List Item) (line : ℕ) (object : Object) (all : List Item) (k : List Pending) (c : CopyOf) (m : Memory) (w : World Byte) → items_burden s.program.sizes all + end_burden s.program c k ≤ n → Pays s.program n (items s (tree.InitList local full line) object all k c m w)
  unfolding value_burden bulk
  items_pay n local full line object [] k c m w h = (inr (omega arith), refl)
  items_pay n local full line object (tree.Scalar offset value ∷ rest) k c m w h = (inr (let d = bulk_end s.program c k in eval_part s value (Doing (tree.InitList local full line) (AtItem (tree.Scalar offset value) rest) ∷ k) c n (omega arith) (omega arith)), refl)
  items_pay n local full line object (tree.Struct offset from size ∷ rest) k c m w h = (inr (let d = bulk_end s.program c k in find_part s from (Doing (tree.InitList local full line) (AtItem (tree.Struct offset from size) rest) ∷ k) c n (omega arith) (omega arith)), refl)
  items_pay n local full line object (tree.Text offset text size ∷ rest) k c m w h = (inr (omega arith), refl)

  stored_for_pays : (n : ℕ) (t : Statement) (stage : Stage) (k : List Pending) (c : CopyOf) (m : Memory) (w : World Byte) → stored_burden s.program c 0 (Doing t stage ∷ k) ≤ n → Pays s.program n (stored_for s t stage k c m w)
  stored_for_pays n (tree.InitScalar local e line) Fills k c m w h = (inr (omega arith), refl)
  stored_for_pays n (tree.InitList local all line) (Items item rest) k c m w h = items_pay n local all line _ rest k c m w (omega arith)
  stored_for_pays n (tree.InitList local all line) Blanks k c m w h = (inr (omega arith), refl)
  stored_for_pays n _ _ k c m w h = tt

  stored_in_pays : (n : ℕ) (e : Expression) (got : Got) (k : List Pending) (c : CopyOf) (m : Memory) (w : World Byte) → value_burden s.program c k ≤ n → Pays s.program n (stored_in e got k c m w)
  stored_in_pays n e (Stores spot v) k c m w h = (inr h, refl)
  stored_in_pays n e Copies k c m w h = (inr h, refl)
  stored_in_pays n e _ k c m w h = tt

  wrote_pays : (n : ℕ) (k : List Pending) (c : CopyOf) (m : Memory) (w : World Byte) → wrote_most k + n ≡ stored_burden s.program c 28 k → Pays s.program n (stored s k c m w)
  wrote_pays n [] c m w h = tt
  wrote_pays n (In e got ∷ k) c m w h = stored_in_pays n e got k c m w (omega arith)
  wrote_pays n (To place ∷ k) c m w h = tt
  wrote_pays n (Doing t stage ∷ k) c m w h = stored_for_pays n t stage k c m w (omega arith)
  wrote_pays n (Before ss ∷ k) c m w h = tt
  wrote_pays n (Returns d ∷ k) c m w h = tt
  wrote_pays n (Resumes d x ∷ k) c m w h = tt

  pub write_pays : (n : ℕ) (spot : Spot) (v : Datum) (at : ℕ) (k : List Pending) (c : CopyOf) (m : Memory) (w : World Byte) → nat_lt at (written_bytes spot v) ≡ false → wrote_most k + n ≡ stored_burden s.program c 28 k → Pays s.program n (write s spot v at k c m w)
  write_pays n spot v at k c m w e h = otherwise_pays s.program n (nat_lt at (written_bytes spot v)) _ _ e (wrote_pays n k c m w h)

  copied_pays : (n : ℕ) (k : List Pending) (c : CopyOf) (m : Memory) (w : World Byte) (to from : Spot) (size : ℕ) → Copying s.program c k to from size → copied_most k + n ≡ copy_burden s.program c k → Pays s.program n (stored s k c m w)
  copied_pays n (In (tree.StructAssign place other size line) Copies ∷ k) c m w to from z f h = (inr (omega arith), refl)
  copied_pays n (Doing (tree.InitList local all line) (Items (tree.Struct offset other size) rest) ∷ k) c m w to from z f h = items_pay n local all line _ rest k c m w (omega arith)
  copied_pays n _ c m w to from z f h = absurd f

  pub copy_pays : (n : ℕ) (to from : Spot) (left : ℕ) (k : List Pending) (c : CopyOf) (m : Memory) (w : World Byte) (first other : Spot) (size : ℕ) → Copying s.program c k first other size → left ≡ 0 → copied_most k + n ≡ copy_burden s.program c k → Pays s.program n (copy_read s to from left k c m w)
  copy_pays n to from zero k c m w first other size f e h = copied_pays n k c m w first other size f h
  copy_pays n to from (suc left) k c m w first other size f e h = absurd (omega arith)

  spelled_pays : (n : ℕ) (k : List Pending) (c : CopyOf) (m : Memory) (w : World Byte) (start : Spot) (text : List ℕ) (size : ℕ) → Spells s.program c k start text size → n ≡ stored_burden s.program c 0 k → Pays s.program n (stored s k c m w)
  spelled_pays n (Doing (tree.InitList local all line) (Items (tree.Text offset text size) rest) ∷ k) c m w start t z f h = items_pay n local all line _ rest k c m w (omega arith)
  spelled_pays n _ c m w start t z f h = absurd f

  pub spell_pays : (n : ℕ) (spot : Spot) (text : List ℕ) (left : ℕ) (k : List Pending) (c : CopyOf) (m : Memory) (w : World Byte) (start : Spot) (whole : List ℕ) (size : ℕ) → Spells s.program c k start whole size → left ≡ 0 → n ≡ stored_burden s.program c 0 k → Pays s.program n (spell s spot text left k c m w)
  spell_pays n spot text zero k c m w start whole size f e h = spelled_pays n k c m w start whole size f h
  spell_pays n spot text (suc left) k c m w start whole size f e h = absurd (omega arith)

  blank_at_pays : (n : ℕ) (object : Object) (at left : ℕ) (t : Statement) (stage : Stage) (k : List Pending) (c : CopyOf) (m : Memory) (w : World Byte) → left ≡ 0 → n ≡ stored_burden s.program c 0 (Doing t stage ∷ k) → Pays s.program n (blank_at s object at left (Doing t stage ∷ k) c m w)
  blank_at_pays n object at zero t stage k c m w e h = stored_for_pays n t stage k c m w (omega arith)
  blank_at_pays n object at (suc left) t stage k c m w e h = absurd (omega arith)

  blank_for_pays : (n : ℕ) (t : Statement) (stage : Stage) (at left : ℕ) (k : List Pending) (c : CopyOf) (m : Memory) (w : World Byte) → blank_counts_for s.program t at left ≡ None → n ≡ stored_burden s.program c 0 (Doing t stage ∷ k) → Pays s.program n (blank_for s t at left (Doing t stage ∷ k) c m w)
  blank_for_pays n (tree.InitList local all line) stage at left k c m w u h =
      let d = ltb-false (covered_from s.program.sizes all at left) left (unmet (nat_lt (covered_from s.program.sizes all at left) left) line u) in
      blank_at_pays n (local_of s.program c local) (at + covered_from s.program.sizes all at left) (left - covered_from s.program.sizes all at left) (tree.InitList local all line) stage k c m w (omega arith) h
  blank_for_pays n _ stage at left k c m w u h = tt

  pub blank_pays : (n : ℕ) (at left : ℕ) (k : List Pending) (c : CopyOf) (m : Memory) (w : World Byte) → blank_counts s.program at left k ≡ None → n ≡ stored_burden s.program c 0 k → Pays s.program n (blank s at left k c m w)
  blank_pays n at left [] c m w u h = tt
  blank_pays n at left (In e got ∷ k) c m w u h = tt
  blank_pays n at left (To place ∷ k) c m w u h = tt
  blank_pays n at left (Doing t stage ∷ k) c m w u h = blank_for_pays n t stage at left k c m w u h
  blank_pays n at left (Before ss ∷ k) c m w u h = tt
  blank_pays n at left (Returns d ∷ k) c m w u h = tt
  blank_pays n at left (Resumes d x ∷ k) c m w u h = tt

-- ---- statements
-- a body counts where it begins: it is no declarator
pub begins_counted : (p : Program) (f : ℕ) (l r : Bool) (t : Statement) → IsStatementOf p f false l r t → is_some_line (statement_counts t) ≡ true
begins_counted p f l r (tree.Block ss line) h = refl
begins_counted p f l r (tree.Empty line) h = refl
begins_counted p f l r (tree.Expr e line) h = refl
begins_counted p f l r (tree.Declare local line) h = absurd (false≢true h.0)
begins_counted p f l r (tree.InitScalar local e line) h = absurd (false≢true h.0)
begins_counted p f l r (tree.InitList local all line) h = absurd (false≢true h.0)
begins_counted p f l r (tree.If chain otherwise line) h = refl
begins_counted p f l r (tree.Loop shape first condition step body line) h = refl
begins_counted p f l r (tree.Switch e cases default ss line) h = refl
begins_counted p f l r (tree.Break line) h = refl
begins_counted p f l r (tree.Continue line) h = refl
begins_counted p f l r (tree.Return value line) h = refl

pub typed_behind : (p : Program) (f : ℕ) (d l r : Bool) (n : ℕ) (ss : Statements) → AreStatementsOf p f d l r ss → AreStatementsOf p f d l r (statements_behind n ss)
typed_behind p f d l r zero ss h = h
typed_behind p f d l r (suc n) tree.NoStatement h = tt
typed_behind p f d l r (suc n) (tree.AndStatement t ts) h = typed_behind p f d l r n ts h.1

-- the end of a choice is one of its arms' ends
pub joins_owed : (sizes : List ℕ) (chain more : Arms) (otherwise : LastArm) → end_joins chain more otherwise ≤ arms_burden sizes (arm_count chain) more
unfolding arms_burden
joins_owed sizes chain tree.NoArm tree.NoLast = omega arith
joins_owed sizes chain tree.NoArm (tree.Last t) = omega arith
joins_owed sizes chain (tree.AndArm arm more) otherwise = omega arith

if_small : (b : Bool) → (if b then 4 else 0) ≤ 4
if_small true = omega arith
if_small false = omega arith

pub falling_small : (o : Option Switched) (ss : Statements) → falling o ss ≤ 4
falling_small None ss = omega arith
falling_small (Some x) ss = if_small (has (labels_in x) (index_in x ss))

module _ (s : Setting) where
  pub turn_pays : (n f : ℕ) (l r : Bool) (t body : Statement) (k : List Pending) (c : CopyOf) (m : Memory) (w : World Byte) → IsStatementOf s.program f false l r body → bulk s.program c k ≤ n → Pays s.program n (turn t body k c m w)
  unfolding counted_line bulk
  turn_pays n f l r t body k c m w h b = (inl (begins_counted s.program f l r body h, omega arith), refl)

  pub test_pays : (n f : ℕ) (shape : LoopForm) (first condition step : Option Expression) (body : Statement) (line : ℕ) (k : List Pending) (c : CopyOf) (m : Memory) (w : World Byte) → IsStatementOf s.program f false true true body → test_burden s.program.sizes shape condition + end_burden s.program c k ≤ n
      → Pays s.program n (test (tree.Loop shape first condition step body line) condition body k c m w)
  unfolding value_burden bulk
  test_pays n f shape first None step body line k c m w b h = turn_pays n f true true _ body k c m w b (let d = bulk_end s.program c k in omega arith)
  test_pays n f shape first (Some e) step body line k c m w b h = (inr (let d = bulk_end s.program c k in eval_part s e (Doing (tree.Loop shape first (Some e) step body line) Tests ∷ k) c n (omega arith) (omega arith)), refl)

  pub next_pays : (n f : ℕ) (shape : LoopForm) (first condition step : Option Expression) (body : Statement) (line : ℕ) (k : List Pending) (c : CopyOf) (m : Memory) (w : World Byte) → IsStatementOf s.program f false true true body
      → step_burden s.program.sizes step + test_burden s.program.sizes shape condition + end_burden s.program c k ≤ n → Pays s.program n (next_of (tree.Loop shape first condition step body line) step condition body k c m w)
  unfolding value_burden bulk
  next_pays n f shape first condition None body line k c m w b h = test_pays n f shape first condition None body line k c m w b (omega arith)
  next_pays n f shape first condition (Some e) body line k c m w b h = (inr (let d = bulk_end s.program c k in eval_part s e (Doing (tree.Loop shape first condition (Some e) body line) Steps ∷ k) c n (omega arith) (omega arith)), refl)

  last_pays : (n f : ℕ) (l r : Bool) (chain : Arms) (otherwise all : LastArm) (line : ℕ) (k : List Pending) (c : CopyOf) (m : Memory) (w : World Byte) → IsLastOf s.program f l r otherwise → end_burden s.program c k ≤ n → Pays s.program n (last (tree.If chain all line) otherwise k c m w)
  unfolding counted_line bulk
  last_pays n f l r chain tree.NoLast all line k c m w t h = (inr h, refl)
  last_pays n f l r chain (tree.Last chosen) all line k c m w t h = (inl (begins_counted s.program f l r chosen t, let d = bulk_end s.program c k in omega arith), refl)

  pub arms_pay : (n f : ℕ) (l r : Bool) (chain more : Arms) (otherwise : LastArm) (line : ℕ) (k : List Pending) (c : CopyOf) (m : Memory) (w : World Byte) → IsLastOf s.program f l r otherwise → arms_burden s.program.sizes (arm_count chain) more + end_burden s.program c k ≤ end_joins chain more otherwise + n
      → Pays s.program n (arms (tree.If chain otherwise line) more otherwise k c m w)
  unfolding value_burden arms_burden counted_line bulk
  arms_pay n f l r chain tree.NoArm tree.NoLast line k c m w t h = (inr (omega arith), refl)
  arms_pay n f l r chain tree.NoArm (tree.Last chosen) line k c m w t h = (inl (begins_counted s.program f l r chosen t, let d = bulk_end s.program c k in omega arith), refl)
  arms_pay n f l r chain (tree.AndArm (tree.OneArm condition chosen at) more) otherwise line k c m w t h =
      (inr (let d = bulk_end s.program c k in eval_part s condition (Doing (tree.If chain otherwise line) (Picks (tree.OneArm condition chosen at) more) ∷ k) c n (omega arith) (omega arith)), refl)

  -- what is unwound belongs to the same function
  pub unwound_leaves : (c : CopyOf) (k : List Pending) → leave_burden s.program c (unwound k) ≡ leave_burden s.program c k
  unfolding value_burden bulk
  unwound_leaves c [] = refl
  unwound_leaves c (In e got ∷ k) = refl
  unwound_leaves c (To place ∷ k) = refl
  unwound_leaves c (Doing t Turns ∷ k) = unwound_leaves c k
  unwound_leaves c (Doing t (InArm more) ∷ k) = unwound_leaves c k
  unwound_leaves c (Doing t _ ∷ k) = refl
  unwound_leaves c (Before ss ∷ k) = unwound_leaves c k
  unwound_leaves c (Returns d ∷ k) = refl
  unwound_leaves c (Resumes d x ∷ k) = refl

  behind_less : (n : ℕ) (ss : Statements) → statements_burden s.program.sizes (statements_behind n ss) ≤ statements_burden s.program.sizes ss
  unfolding statements_burden
  behind_less zero ss = omega arith
  behind_less (suc n) tree.NoStatement = omega arith
  behind_less (suc n) (tree.AndStatement t ts) = let d = behind_less n ts in omega arith

  any_jump_pays : (n : ℕ) (e : Expression) (cases : List TCase) (default o : Option ℕ) (ss : Statements) (line : ℕ) (k : List Pending) (c : CopyOf) (m : Memory) (w : World Byte) → 8 + statements_burden s.program.sizes ss + end_burden s.program c k ≤ n
      → Pays s.program n (jump_if_any (tree.Switch e cases default ss line) o ss k c m w)
  unfolding end_burden bulk
  any_jump_pays n e cases default None ss line k c m w h = (inr (omega arith), refl)
  any_jump_pays n e cases default (Some target) ss line k c m w h =
      let d = behind_less target ss in
      let f = falling_small (Some (record { value = e; cases = cases; default = default; body = ss })) (statements_behind target ss) in
      (inr (omega arith), refl)

  compares_for_pays : (n : ℕ) (t : Statement) (stage : Stage) (v : Datum) (labels : List TCase) (k : List Pending) (c : CopyOf) (m : Memory) (w : World Byte) → label_counts labels ≡ None → compared_most labels + n ≡ compared_burden s.program c (Doing t stage ∷ k) → Pays s.program n (compares_for t stage v labels k c m w)
  compares_for_pays n (tree.Switch e cases default ss line) Chooses v [] k c m w u h = any_jump_pays n e cases default default ss line k c m w (omega arith)
  compares_for_pays n (tree.Switch e cases default ss line) Chooses v (label ∷ labels) k c m w u h = absurd (false≢true (sym (ap is_some u)))
  compares_for_pays n _ _ v labels k c m w u h = tt

  pub compares_pay : (n : ℕ) (v : Datum) (labels : List TCase) (k : List Pending) (c : CopyOf) (m : Memory) (w : World Byte) → label_counts labels ≡ None → compared_most labels + n ≡ compared_burden s.program c k → Pays s.program n (compares v labels k c m w)
  compares_pay n v labels [] c m w u h = tt
  compares_pay n v labels (In e got ∷ k) c m w u h = tt
  compares_pay n v labels (To place ∷ k) c m w u h = tt
  compares_pay n v labels (Doing t stage ∷ k) c m w u h = compares_for_pays n t stage v labels k c m w u h
  compares_pay n v labels (Before ss ∷ k) c m w u h = tt
  compares_pay n v labels (Returns d ∷ k) c m w u h = tt
  compares_pay n v labels (Resumes d x ∷ k) c m w u h = tt

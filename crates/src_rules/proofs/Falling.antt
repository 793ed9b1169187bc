-- The weight falls in each micro-step that doesn't count: expressions, places and accesses.
use Rattle.std.proofs.Common.{◌≡◌, ℕ, ◌+◌, ◌<◌, ◌⊎◌, inr, Bool, true, false, List, [], ◌∷◌, Option, Some, None, sym, ap, arith}
use Rattle.std.proofs.lemmas.Bool.{false≢true}
use Rattle.std.specs.Prelude.{if◌then◌else◌, pos, is_some}
use Rattle.c_typed.specs.Trees as tree
use Rattle.c_typed.specs.Trees.{Expression, Expressions, Place, Item, Statement, Statements, Arm, Arms, LastArm, Program}
use Rattle.c_typed.specs.declared.expression.LogicalOp.{LogicalOp}
use Rattle.c_typed.specs.declared.types.Ty.{Ty}
use Rattle.c_typed.specs.declared.types.Ty.TheVariants as types
use Rattle.pic_world.specs.World.{World}
use Rattle.src_rules.specs.Accesses.{goes, fetching}
use Rattle.src_rules.specs.Expressions.{eval, find, address, takes, found_in, at_member, member_of, found_to, found_for, found}
use Rattle.src_rules.specs.Giving.{answered, used, branch, logical, truth_given, changes, take_in, deref, take_to}
use Rattle.src_rules.specs.State.{Outcome, Went, Undefined, Idle, Lost}
use Rattle.src_rules.specs.Step.{is_some_line}
use Rattle.src_rules.specs.Weights.{expression_weight, place_weight, part_weight, stage_weight, stack_weight, focus_weight}
use Rattle.src_values.specs.Control.{Focus, Got, Nothing, Chosen, One, At, AtWith, Stores, Args, Stage, AtItem, Pending, In, To, Doing, Before, Returns, Resumes}
use Rattle.src_values.specs.Counting.{counted_line, value_counts_in}
use Rattle.src_values.specs.Data.{Datum, Number, Pointer, Missing}
use Rattle.src_values.specs.Memory.{Setting, Memory}
use Rattle.src_values.specs.Objects.{moved}
use Rattle.src_values.specs.Values.{Answer, Gives, Fails, Strays, truth_of, decides}
use Rattle.src_values.specs.declared.objects.Byte.{Byte}
use Rattle.src_values.specs.declared.objects.CopyOf.{CopyOf}
use Rattle.src_values.specs.declared.objects.Pointer.{Pointer as Reference}
use Rattle.src_values.specs.declared.objects.Spot.{Spot}

-- what is left of a state, whether it counts or not
abbrev pub load : Focus → List Pending → ℕ
load x k = focus_weight x + stack_weight k

-- The next micro-step counts, or less is left.
abbrev pub Rests : Program → ℕ → CopyOf → Focus → List Pending → Type 0
Rests p n c x k = ((is_some_line (counted_line p c x k) ≡ true) × (0 < n)) ⊎ (load x k < n)

abbrev pub Falls : Program → ℕ → Outcome → Type 0
Falls p n (Went u event) = Rests p n u.copy u.focus u.stack
Falls p n (Undefined kind line) = Unit {0}
Falls p n Idle = Unit {0}
Falls p n Lost = Unit {0}

module _ (p : Program) where
  -- ---- expressions and places begin
  pub eval_falls : (e : Expression) (k : List Pending) (c : CopyOf) (m : Memory) (w : World Byte) → Falls p (expression_weight e + stack_weight k) (eval e k c m w)
  unfolding expression_weight part_weight
  eval_falls (tree.Constant value line) k c m w = inr (omega arith)
  eval_falls (tree.Read place ty line) k c m w = inr (omega arith)
  eval_falls (tree.Address place ty line) k c m w = inr (omega arith)
  eval_falls (tree.Convert operand ty line) k c m w = inr (omega arith)
  eval_falls (tree.Cast operand ty line) k c m w = inr (omega arith)
  eval_falls (tree.Unary op operand ty line) k c m w = inr (omega arith)
  eval_falls (tree.Binary op left right ty line) k c m w = inr (omega arith)
  eval_falls (tree.Offset op left right size ty line) k c m w = inr (omega arith)
  eval_falls (tree.Difference left right size line) k c m w = inr (omega arith)
  eval_falls (tree.Logical op left right line) k c m w = inr (omega arith)
  eval_falls (tree.Conditional condition chosen otherwise ty line) k c m w = inr (omega arith)
  eval_falls (tree.Comma left right ty line) k c m w = inr (omega arith)
  eval_falls (tree.Assign place value ty line) k c m w = inr (omega arith)
  eval_falls (tree.StructAssign place from size line) k c m w = inr (omega arith)
  eval_falls (tree.Update op place value operation size ty line) k c m w = inr (omega arith)
  eval_falls (tree.Step op place operation size ty line) k c m w = inr (omega arith)
  eval_falls (tree.Call g tree.NoExpression ty line) k c m w = inr (omega arith)
  eval_falls (tree.Call g (tree.AndExpression a rest) ty line) k c m w = inr (omega arith)

  pub find_falls : (s : Setting) (place : Place) (k : List Pending) (c : CopyOf) (m : Memory) (w : World Byte) → Falls p (place_weight place + stack_weight k) (find s place k c m w)
  unfolding expression_weight
  find_falls s (tree.Name object ty line) k c m w = inr (omega arith)
  find_falls s (tree.Bit register number line) k c m w = inr (omega arith)
  find_falls s (tree.Member whole member offset ty line) k c m w = inr (omega arith)
  find_falls s (tree.Deref pointer ty line) k c m w = inr (omega arith)

-- a read of one kind or the other weighs nothing by itself
fetching_falls : (p : Program) (n : ℕ) (spot : Spot) (ty : Ty) (sizes : List ℕ) (k : List Pending) (c : CopyOf) (m : Memory) (w : World Byte) → stack_weight k < n → Falls p n (goes c (fetching spot ty sizes) k m w)
fetching_falls p n spot types.Void sizes k c m w h = inr (omega arith)
fetching_falls p n spot (types.Int ty) sizes k c m w h = inr (omega arith)
fetching_falls p n spot (types.Pointer row) sizes k c m w h = inr (omega arith)
fetching_falls p n spot (types.Array x a y) sizes k c m w h = inr (omega arith)
fetching_falls p n spot (types.Struct a) sizes k c m w h = inr (omega arith)

takes_fall : (p : Program) (n : ℕ) (o : Option Reference) (k : List Pending) (c : CopyOf) (m : Memory) (w : World Byte) → stack_weight k < n → Falls p n (takes o k c m w)
takes_fall p n (Some x) k c m w h = inr (omega arith)
takes_fall p n None k c m w h = tt

member_falls : (p : Program) (n : ℕ) (o : Option Reference) (line : ℕ) (k : List Pending) (c : CopyOf) (m : Memory) (w : World Byte) → stack_weight k < n → Falls p n (at_member o line k c m w)
member_falls p n (Some x) line k c m w h = inr (omega arith)
member_falls p n None line k c m w h = tt

member_of_falls : (s : Setting) (p : Program) (n : ℕ) (o : Option Reference) (offset line : ℕ) (k : List Pending) (c : CopyOf) (m : Memory) (w : World Byte) → stack_weight k < n → Falls p n (member_of s o offset line k c m w)
member_of_falls s p n (Some x) offset line k c m w h = member_falls p n (moved s.program x (pos offset)) line k c m w h
member_of_falls s p n None offset line k c m w h = tt

module _ (s : Setting) (p : Program) where
  -- ---- places that were found
  found_in_falls : (e : Expression) (got : Got) (spot : Spot) (k : List Pending) (c : CopyOf) (m : Memory) (w : World Byte) → Falls p (part_weight e got + stack_weight k) (found_in s e got spot k c m w)
  unfolding part_weight
  found_in_falls (tree.Read place ty line) Nothing spot k c m w = fetching_falls p _ spot ty s.program.sizes (In (tree.Read place ty line) (At spot) ∷ k) c m w (omega arith)
  found_in_falls (tree.Address place ty line) Nothing spot k c m w = takes_fall p _ (address spot) k c m w (omega arith)
  found_in_falls (tree.Assign place value ty line) Nothing spot k c m w = inr (omega arith)
  found_in_falls (tree.StructAssign place from size line) Nothing spot k c m w = inr (omega arith)
  found_in_falls (tree.StructAssign place from size line) (At to) spot k c m w = inr (omega arith)
  found_in_falls (tree.Update op place value operation size ty line) Nothing spot k c m w = inr (omega arith)
  found_in_falls (tree.Step op place operation size ty line) Nothing spot k c m w = fetching_falls p _ spot ty s.program.sizes (In (tree.Step op place operation size ty line) (At spot) ∷ k) c m w (omega arith)
  found_in_falls _ _ spot k c m w = tt

  found_to_falls : (place : Place) (spot : Spot) (k : List Pending) (c : CopyOf) (m : Memory) (w : World Byte) → Falls p (1 + stack_weight k) (found_to s place spot k c m w)
  found_to_falls (tree.Member whole member offset ty line) spot k c m w = member_of_falls s p _ (address spot) offset line k c m w (omega arith)
  found_to_falls _ spot k c m w = tt

  found_for_falls : (t : Statement) (stage : Stage) (spot : Spot) (k : List Pending) (c : CopyOf) (m : Memory) (w : World Byte) → Falls p (stage_weight t stage + stack_weight k) (found_for s t stage spot k c m w)
  unfolding stage_weight
  found_for_falls (tree.InitList local all line) (AtItem (tree.Struct offset from size) rest) spot k c m w = inr (omega arith)
  found_for_falls _ _ spot k c m w = tt

  pub found_falls : (spot : Spot) (k : List Pending) (c : CopyOf) (m : Memory) (w : World Byte) → Falls p (stack_weight k) (found s spot k c m w)
  found_falls spot [] c m w = tt
  found_falls spot (In e got ∷ k) c m w = found_in_falls e got spot k c m w
  found_falls spot (To place ∷ k) c m w = found_to_falls place spot k c m w
  found_falls spot (Doing t stage ∷ k) c m w = found_for_falls t stage spot k c m w
  found_falls spot (Before ss ∷ k) c m w = tt
  found_falls spot (Returns d ∷ k) c m w = tt
  found_falls spot (Resumes d x ∷ k) c m w = tt

-- ---- values
answered_falls : (p : Program) (n : ℕ) (answer : Answer) (line : ℕ) (k : List Pending) (c : CopyOf) (m : Memory) (w : World Byte) → stack_weight k < n → Falls p n (answered answer line k c m w)
answered_falls p n (Gives v) line k c m w h = inr (omega arith)
answered_falls p n (Fails kind) line k c m w h = tt
answered_falls p n Strays line k c m w h = tt

pub used_falls : (p : Program) (n : ℕ) (v : Datum) (line : ℕ) (next : Outcome) → Falls p n next → Falls p n (used v line next)
used_falls p n (Number q) line next h = h
used_falls p n (Pointer x) line next h = h
used_falls p n Missing line next h = tt

pub branch_falls : (p : Program) (n : ℕ) (o : Option Bool) (line : ℕ) (first second : Outcome) → Falls p n first → Falls p n second → Falls p n (branch o line first second)
branch_falls p n None line first second h g = tt
branch_falls p n (Some true) line first second h g = h
branch_falls p n (Some false) line first second h g = g

truth_falls : (p : Program) (n : ℕ) (o : Option Bool) (line : ℕ) (k : List Pending) (c : CopyOf) (m : Memory) (w : World Byte) → stack_weight k < n → Falls p n (truth_given o line k c m w)
truth_falls p n None line k c m w h = tt
truth_falls p n (Some holds) line k c m w h = inr (omega arith)

either_falls : (p : Program) (n : ℕ) (b : Bool) (x y : Outcome) → Falls p n x → Falls p n y → Falls p n (if b then x else y)
either_falls p n true x y h g = h
either_falls p n false x y h g = g

logical_falls : (p : Program) (op : LogicalOp) (left right : Expression) (line : ℕ) (v : Datum) (o : Option Bool) (k : List Pending) (c : CopyOf) (m : Memory) (w : World Byte) → Falls p (expression_weight right + 2 + stack_weight k) (logical (tree.Logical op left right line) op v o right line k c m w)
unfolding part_weight
logical_falls p op left right line v None k c m w = tt
logical_falls p op left right line v (Some holds) k c m w = either_falls p _ (decides op holds) _ _ (inr (omega arith)) (inr (omega arith))

changes_fall : (p : Program) (n : ℕ) (answer : Answer) (e : Expression) (spot : Spot) (keeps : Bool) (old : Datum) (line : ℕ) (k : List Pending) (c : CopyOf) (m : Memory) (w : World Byte) → ((v : Datum) → part_weight e (Stores spot v) + stack_weight k < n) → Falls p n (changes answer e spot keeps old line k c m w)
changes_fall p n (Gives v) e spot keeps old line k c m w h = let d = h (if keeps then old else v) in inr (omega arith)
changes_fall p n (Fails kind) e spot keeps old line k c m w h = tt
changes_fall p n Strays e spot keeps old line k c m w h = tt

module _ (s : Setting) (p : Program) where
  pub take_in_falls : (e : Expression) (got : Got) (v : Datum) (k : List Pending) (c : CopyOf) (m : Memory) (w : World Byte) → value_counts_in e got v ≡ None → Falls p (part_weight e got + stack_weight k) (take_in s e got v k c m w)
  unfolding part_weight expression_weight
  take_in_falls (tree.Convert operand ty line) Nothing v k c m w u = answered_falls p _ _ line k c m w (omega arith)
  take_in_falls (tree.Cast operand ty line) Nothing v k c m w u = answered_falls p _ _ line k c m w (omega arith)
  take_in_falls (tree.Unary op operand ty line) Nothing v k c m w u = answered_falls p _ _ line k c m w (omega arith)
  take_in_falls (tree.Binary op left right ty line) Nothing v k c m w u = inr (omega arith)
  take_in_falls (tree.Binary op left right ty line) (One x) v k c m w u = answered_falls p _ _ line k c m w (omega arith)
  take_in_falls (tree.Offset op left right size ty line) Nothing v k c m w u = inr (omega arith)
  take_in_falls (tree.Offset op left right size ty line) (One x) v k c m w u = answered_falls p _ _ line k c m w (omega arith)
  take_in_falls (tree.Difference left right size line) Nothing v k c m w u = inr (omega arith)
  take_in_falls (tree.Difference left right size line) (One x) v k c m w u = answered_falls p _ _ line k c m w (omega arith)
  take_in_falls (tree.Logical op left right line) Nothing v k c m w u = logical_falls p op left right line v (truth_of v) k c m w
  take_in_falls (tree.Logical op left right line) (One x) v k c m w u = truth_falls p _ (truth_of v) line k c m w (omega arith)
  take_in_falls (tree.Conditional condition chosen otherwise ty line) Nothing v k c m w u = absurd (false≢true (sym (ap is_some u)))
  take_in_falls (tree.Conditional condition chosen otherwise ty line) Chosen v k c m w u = inr (omega arith)
  take_in_falls (tree.Comma left right ty line) Nothing v k c m w u = inr (omega arith)
  take_in_falls (tree.Assign place value ty line) (At spot) v k c m w u = used_falls p _ v line _ (inr (omega arith))
  take_in_falls (tree.Update op place value operation size ty line) (At spot) v k c m w u = fetching_falls p _ spot ty s.program.sizes (In (tree.Update op place value operation size ty line) (AtWith spot v) ∷ k) c m w (omega arith)
  take_in_falls (tree.Update op place value operation size ty line) (AtWith spot x) v k c m w u = changes_fall p _ _ _ spot false v line k c m w (λ z. omega arith)
  take_in_falls (tree.Step op place operation size ty line) (At spot) v k c m w u = changes_fall p _ _ _ spot _ v line k c m w (λ z. omega arith)
  take_in_falls (tree.Call g values ty line) (Args before tree.NoExpression) v k c m w u = inr (omega arith)
  take_in_falls (tree.Call g values ty line) (Args before (tree.AndExpression a rest)) v k c m w u = inr (omega arith)
  take_in_falls _ _ v k c m w u = tt

  deref_falls : (n : ℕ) (v : Datum) (line : ℕ) (k : List Pending) (c : CopyOf) (m : Memory) (w : World Byte) → stack_weight k < n → Falls p n (deref v line k c m w)
  deref_falls n (Pointer x) line k c m w h = inr (omega arith)
  deref_falls n (Number q) line k c m w h = tt
  deref_falls n Missing line k c m w h = tt

  pub take_to_falls : (place : Place) (v : Datum) (k : List Pending) (c : CopyOf) (m : Memory) (w : World Byte) → Falls p (1 + stack_weight k) (take_to place v k c m w)
  take_to_falls (tree.Deref pointer ty line) v k c m w = deref_falls _ v line k c m w (omega arith)
  take_to_falls _ v k c m w = tt

-- What is ahead of the next state is no more than what was ahead, less the step that was counted: expressions and places.
use Rattle.std.proofs.Common.{ℕ, ◌+◌, ◌≤◌, Bool, true, false, List, [], ◌∷◌, ◌++◌, Option, Some, None, arith}
use Rattle.std.specs.Prelude.{if◌then◌else◌, pos}
use Rattle.c_typed.specs.Trees as tree
use Rattle.c_typed.specs.Trees.{Expression, Expressions, Place, Item, Statement, Program}
use Rattle.c_typed.specs.Types.{place_type}
use Rattle.c_typed.specs.declared.expression.LogicalOp.{LogicalOp}
use Rattle.c_typed.specs.declared.types.Ty.{Ty}
use Rattle.c_typed.specs.declared.types.Ty.TheVariants as types
use Rattle.pic_world.specs.Control.{is_enabled}
use Rattle.pic_world.specs.World.{World}
use Rattle.src_rules.specs.Accesses.{goes, fetching}
use Rattle.src_rules.specs.Expressions.{arguments, eval, find, address, takes, found_in, at_member, member_of, found_to, found_for, found}
use Rattle.src_rules.specs.Giving.{answered, used, branch, logical, truth_given, changes, take_in, deref, take_to}
use Rattle.src_rules.specs.Runs.{one_if}
use Rattle.src_rules.specs.State.{Outcome, Went, Undefined, Idle, Lost}
use Rattle.src_rules.specs.Step.{is_some_line}
use Rattle.src_values.specs.Control.{Got, Nothing, Chosen, One, At, AtWith, Args, Stage, AtItem, Pending, In, To, Doing, Before, Returns, Resumes}
use Rattle.src_values.specs.Counting.{counted_if, is_operator, found_counts_in, found_counts_to, found_counts, value_counts_in, value_counts_to, logical_counts}
use Rattle.src_values.specs.Data.{Datum, Number, Pointer, Missing}
use Rattle.src_values.specs.Memory.{Setting, Memory}
use Rattle.src_values.specs.Objects.{moved}
use Rattle.src_values.specs.Values.{Answer, Gives, Fails, Strays, truth_of, decides}
use Rattle.src_values.specs.declared.objects.Byte.{Byte}
use Rattle.src_values.specs.declared.objects.CopyOf.{CopyOf}
use Rattle.src_values.specs.declared.objects.Pointer.{Pointer as Reference}
use Rattle.src_values.specs.declared.objects.Spot.{Spot}
use Rattle.lower_trace.proofs.LagWeights.{ahead_in, ahead_of_all, ahead_at, part_ahead, with_focus, stack_ahead}

-- Where interrupts are enabled one more is ahead: main's end may find one due, and then byte code doesn't rest.
unfoldable pub enabled : World Byte → ℕ
enabled w = one_if (is_enabled w.control)

-- so many count, and no more is ahead behind them
abbrev pub Stays : ℕ → ℕ → Outcome → Type 0
Stays most counted (Went u event) = counted + (with_focus u.focus (stack_ahead u.stack) + enabled u.world) ≤ most
Stays most counted (Undefined kind line) = Unit {0}
Stays most counted Idle = Unit {0}
Stays most counted Lost = Unit {0}

abbrev pub counts_as : Option ℕ → ℕ
counts_as line = one_if (is_some_line line)

pub counted_small : (b : Bool) (line : ℕ) → counts_as (counted_if b line) ≤ 1
counted_small true line = omega arith
counted_small false line = omega arith

module _ (most : ℕ) where
  pub either_stays : (n : ℕ) (b : Bool) (x y : Outcome) → Stays most n x → Stays most n y → Stays most n (if b then x else y)
  either_stays n true x y h g = h
  either_stays n false x y h g = g

  -- ---- expressions and places begin
  arguments_stay : (e : Expression) (values : List Datum) (more : Expressions) (k : List Pending) (c : CopyOf) (m : Memory) (w : World Byte) → ahead_of_all more + stack_ahead k + enabled w ≤ most → Stays most 0 (arguments e values more k c m w)
  unfolding ahead_in
  arguments_stay e values tree.NoExpression k c m w h = omega arith
  arguments_stay e values (tree.AndExpression a rest) k c m w h = omega arith

  pub eval_stays : (e : Expression) (k : List Pending) (c : CopyOf) (m : Memory) (w : World Byte) → ahead_in e + stack_ahead k + enabled w ≤ most → Stays most 0 (eval e k c m w)
  unfolding ahead_in
  eval_stays (tree.Constant value line) k c m w h = omega arith
  eval_stays (tree.Read place ty line) k c m w h = omega arith
  eval_stays (tree.Address place ty line) k c m w h = omega arith
  eval_stays (tree.Convert operand ty line) k c m w h = omega arith
  eval_stays (tree.Cast operand ty line) k c m w h = omega arith
  eval_stays (tree.Unary op operand ty line) k c m w h = omega arith
  eval_stays (tree.Binary op left right ty line) k c m w h = omega arith
  eval_stays (tree.Offset op left right size ty line) k c m w h = omega arith
  eval_stays (tree.Difference left right size line) k c m w h = omega arith
  eval_stays (tree.Logical op left right line) k c m w h = omega arith
  eval_stays (tree.Conditional condition chosen otherwise ty line) k c m w h = omega arith
  eval_stays (tree.Comma left right ty line) k c m w h = omega arith
  eval_stays (tree.Assign place value ty line) k c m w h = omega arith
  eval_stays (tree.StructAssign place from size line) k c m w h = omega arith
  eval_stays (tree.Update op place value operation size ty line) k c m w h = omega arith
  eval_stays (tree.Step op place operation size ty line) k c m w h = omega arith
  eval_stays (tree.Call g all ty line) k c m w h = arguments_stay (tree.Call g all ty line) [] all k c m w (omega arith)

  pub find_stays : (s : Setting) (place : Place) (k : List Pending) (c : CopyOf) (m : Memory) (w : World Byte) → ahead_at place + stack_ahead k + enabled w ≤ most → Stays most 0 (find s place k c m w)
  unfolding ahead_in
  find_stays s (tree.Name object ty line) k c m w h = omega arith
  find_stays s (tree.Bit register number line) k c m w h = omega arith
  find_stays s (tree.Member whole member offset ty line) k c m w h = omega arith
  find_stays s (tree.Deref pointer ty line) k c m w h = omega arith

  -- ---- places that were found
  fetching_stays : (n : ℕ) (spot : Spot) (ty : Ty) (sizes : List ℕ) (k : List Pending) (c : CopyOf) (m : Memory) (w : World Byte) → n + stack_ahead k + enabled w ≤ most → Stays most n (goes c (fetching spot ty sizes) k m w)
  fetching_stays n spot types.Void sizes k c m w h = omega arith
  fetching_stays n spot (types.Int ty) sizes k c m w h = omega arith
  fetching_stays n spot (types.Pointer row) sizes k c m w h = omega arith
  fetching_stays n spot (types.Array x a y) sizes k c m w h = omega arith
  fetching_stays n spot (types.Struct a) sizes k c m w h = omega arith

  takes_stay : (n : ℕ) (o : Option Reference) (k : List Pending) (c : CopyOf) (m : Memory) (w : World Byte) → n + stack_ahead k + enabled w ≤ most → Stays most n (takes o k c m w)
  takes_stay n (Some x) k c m w h = omega arith
  takes_stay n None k c m w h = tt

  member_stays : (n : ℕ) (o : Option Reference) (line : ℕ) (k : List Pending) (c : CopyOf) (m : Memory) (w : World Byte) → n + stack_ahead k + enabled w ≤ most → Stays most n (at_member o line k c m w)
  member_stays n (Some x) line k c m w h = omega arith
  member_stays n None line k c m w h = tt

  member_of_stays : (s : Setting) (n : ℕ) (o : Option Reference) (offset line : ℕ) (k : List Pending) (c : CopyOf) (m : Memory) (w : World Byte) → n + stack_ahead k + enabled w ≤ most → Stays most n (member_of s o offset line k c m w)
  member_of_stays s n (Some x) offset line k c m w h = member_stays n (moved s.program x (pos offset)) line k c m w h
  member_of_stays s n None offset line k c m w h = tt

  found_in_stays : (s : Setting) (p : Program) (e : Expression) (got : Got) (spot : Spot) (k : List Pending) (c : CopyOf) (m : Memory) (w : World Byte) → part_ahead got e + stack_ahead k + enabled w ≤ most → Stays most (counts_as (found_counts_in p e got)) (found_in s e got spot k c m w)
  found_in_stays s p (tree.Read place ty line) Nothing spot k c m w h = fetching_stays 0 spot ty s.program.sizes (In (tree.Read place ty line) (At spot) ∷ k) c m w (omega arith)
  found_in_stays s p (tree.Address place ty line) Nothing spot k c m w h =
      let d = counted_small (is_operator p (place_type place).ty ty) line in
      takes_stay (counts_as (counted_if (is_operator p (place_type place).ty ty) line)) (address spot) k c m w (omega arith)
  found_in_stays s p (tree.Assign place value ty line) Nothing spot k c m w h = omega arith
  found_in_stays s p (tree.StructAssign place from size line) Nothing spot k c m w h = omega arith
  found_in_stays s p (tree.StructAssign place from size line) (At to) spot k c m w h = omega arith
  found_in_stays s p (tree.Update op place value operation size ty line) Nothing spot k c m w h = omega arith
  found_in_stays s p (tree.Step op place operation size ty line) Nothing spot k c m w h = fetching_stays 0 spot ty s.program.sizes (In (tree.Step op place operation size ty line) (At spot) ∷ k) c m w (omega arith)
  found_in_stays s p _ _ spot k c m w h = tt

  found_to_stays : (s : Setting) (place : Place) (spot : Spot) (k : List Pending) (c : CopyOf) (m : Memory) (w : World Byte) → 1 + stack_ahead k + enabled w ≤ most → Stays most (counts_as (found_counts_to place)) (found_to s place spot k c m w)
  found_to_stays s (tree.Member whole member offset ty line) spot k c m w h = member_of_stays s 1 (address spot) offset line k c m w h
  found_to_stays s _ spot k c m w h = tt

  found_for_stays : (s : Setting) (t : Statement) (stage : Stage) (spot : Spot) (k : List Pending) (c : CopyOf) (m : Memory) (w : World Byte) → stack_ahead (Doing t stage ∷ k) + enabled w ≤ most → Stays most 0 (found_for s t stage spot k c m w)
  found_for_stays s (tree.InitList local all line) (AtItem (tree.Struct offset from size) rest) spot k c m w h = omega arith
  found_for_stays s _ _ spot k c m w h = tt

  pub found_stays : (s : Setting) (p : Program) (spot : Spot) (k : List Pending) (c : CopyOf) (m : Memory) (w : World Byte) → stack_ahead k + enabled w ≤ most → Stays most (counts_as (found_counts p k)) (found s spot k c m w)
  found_stays s p spot [] c m w h = tt
  found_stays s p spot (In e got ∷ k) c m w h = found_in_stays s p e got spot k c m w h
  found_stays s p spot (To place ∷ k) c m w h = found_to_stays s place spot k c m w h
  found_stays s p spot (Doing t stage ∷ k) c m w h = found_for_stays s t stage spot k c m w h
  found_stays s p spot (Before ss ∷ k) c m w h = tt
  found_stays s p spot (Returns d ∷ k) c m w h = tt
  found_stays s p spot (Resumes d x ∷ k) c m w h = tt

  -- ---- values
  answered_stays : (n : ℕ) (answer : Answer) (line : ℕ) (k : List Pending) (c : CopyOf) (m : Memory) (w : World Byte) → n + stack_ahead k + enabled w ≤ most → Stays most n (answered answer line k c m w)
  answered_stays n (Gives v) line k c m w h = omega arith
  answered_stays n (Fails kind) line k c m w h = tt
  answered_stays n Strays line k c m w h = tt

  pub used_stays : (n : ℕ) (v : Datum) (line : ℕ) (next : Outcome) → Stays most n next → Stays most n (used v line next)
  used_stays n (Number q) line next h = h
  used_stays n (Pointer x) line next h = h
  used_stays n Missing line next h = tt

  pub branch_stays : (n : ℕ) (o : Option Bool) (line : ℕ) (first second : Outcome) → Stays most n first → Stays most n second → Stays most n (branch o line first second)
  branch_stays n None line first second h g = tt
  branch_stays n (Some true) line first second h g = h
  branch_stays n (Some false) line first second h g = g

  truth_stays : (n : ℕ) (o : Option Bool) (line : ℕ) (k : List Pending) (c : CopyOf) (m : Memory) (w : World Byte) → n + stack_ahead k + enabled w ≤ most → Stays most n (truth_given o line k c m w)
  truth_stays n None line k c m w h = tt
  truth_stays n (Some holds) line k c m w h = omega arith

  decided_stays : (b : Bool) (line : ℕ) (x y : Outcome) → Stays most 1 x → Stays most 0 y → Stays most (counts_as (counted_if b line)) (if b then x else y)
  decided_stays true line x y h g = h
  decided_stays false line x y h g = g

  logical_stays : (op : LogicalOp) (left right : Expression) (line : ℕ) (v : Datum) (o : Option Bool) (k : List Pending) (c : CopyOf) (m : Memory) (w : World Byte) → ahead_in right + 1 + stack_ahead k + enabled w ≤ most
      → Stays most (counts_as (logical_counts op o line)) (logical (tree.Logical op left right line) op v o right line k c m w)
  logical_stays op left right line v None k c m w h = tt
  logical_stays op left right line v (Some holds) k c m w h = decided_stays (decides op holds) line _ _ (omega arith) (omega arith)

  changes_stay : (answer : Answer) (e : Expression) (spot : Spot) (keeps : Bool) (old : Datum) (line : ℕ) (k : List Pending) (c : CopyOf) (m : Memory) (w : World Byte) → 1 + stack_ahead k + enabled w ≤ most → Stays most 1 (changes answer e spot keeps old line k c m w)
  changes_stay (Gives v) e spot keeps old line k c m w h = omega arith
  changes_stay (Fails kind) e spot keeps old line k c m w h = tt
  changes_stay Strays e spot keeps old line k c m w h = tt

  pub take_in_stays : (s : Setting) (e : Expression) (got : Got) (v : Datum) (k : List Pending) (c : CopyOf) (m : Memory) (w : World Byte) → part_ahead got e + stack_ahead k + enabled w ≤ most → Stays most (counts_as (value_counts_in e got v)) (take_in s e got v k c m w)
  take_in_stays s (tree.Convert operand ty line) Nothing v k c m w h = answered_stays 0 _ line k c m w (omega arith)
  take_in_stays s (tree.Cast operand ty line) Nothing v k c m w h = answered_stays 1 _ line k c m w (omega arith)
  take_in_stays s (tree.Unary op operand ty line) Nothing v k c m w h = answered_stays 1 _ line k c m w (omega arith)
  take_in_stays s (tree.Binary op left right ty line) Nothing v k c m w h = omega arith
  take_in_stays s (tree.Binary op left right ty line) (One u) v k c m w h = answered_stays 1 _ line k c m w (omega arith)
  take_in_stays s (tree.Offset op left right size ty line) Nothing v k c m w h = omega arith
  take_in_stays s (tree.Offset op left right size ty line) (One u) v k c m w h = answered_stays 1 _ line k c m w (omega arith)
  take_in_stays s (tree.Difference left right size line) Nothing v k c m w h = omega arith
  take_in_stays s (tree.Difference left right size line) (One u) v k c m w h = answered_stays 1 _ line k c m w (omega arith)
  take_in_stays s (tree.Logical op left right line) Nothing v k c m w h = logical_stays op left right line v (truth_of v) k c m w h
  take_in_stays s (tree.Logical op left right line) (One u) v k c m w h = truth_stays 1 (truth_of v) line k c m w (omega arith)
  take_in_stays s (tree.Conditional condition chosen otherwise ty line) Nothing v k c m w h = branch_stays 1 (truth_of v) line _ _ (omega arith) (omega arith)
  take_in_stays s (tree.Conditional condition chosen otherwise ty line) Chosen v k c m w h = omega arith
  take_in_stays s (tree.Comma left right ty line) Nothing v k c m w h = omega arith
  take_in_stays s (tree.Assign place value ty line) (At spot) v k c m w h = used_stays 1 v line _ (omega arith)
  take_in_stays s (tree.Update op place value operation size ty line) (At spot) v k c m w h = fetching_stays 0 spot ty s.program.sizes (In (tree.Update op place value operation size ty line) (AtWith spot v) ∷ k) c m w (omega arith)
  take_in_stays s (tree.Update op place value operation size ty line) (AtWith spot u) v k c m w h = changes_stay _ (tree.Update op place value operation size ty line) spot false v line k c m w (omega arith)
  take_in_stays s (tree.Step op place operation size ty line) (At spot) v k c m w h = changes_stay _ (tree.Step op place operation size ty line) spot _ v line k c m w (omega arith)
  take_in_stays s (tree.Call g values ty line) (Args before more) v k c m w h = arguments_stay (tree.Call g values ty line) (before ++ v ∷ []) more k c m w h
  take_in_stays s _ _ v k c m w h = tt

  deref_stays : (v : Datum) (line : ℕ) (k : List Pending) (c : CopyOf) (m : Memory) (w : World Byte) → 1 + stack_ahead k + enabled w ≤ most → Stays most 1 (deref v line k c m w)
  deref_stays (Pointer x) line k c m w h = omega arith
  deref_stays (Number q) line k c m w h = tt
  deref_stays Missing line k c m w h = tt

  pub take_to_stays : (place : Place) (v : Datum) (k : List Pending) (c : CopyOf) (m : Memory) (w : World Byte) → 1 + stack_ahead k + enabled w ≤ most → Stays most (counts_as (value_counts_to place)) (take_to place v k c m w)
  take_to_stays (tree.Deref pointer ty line) v k c m w h = deref_stays v line k c m w h
  take_to_stays _ v k c m w h = tt

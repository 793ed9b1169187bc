-- What is ahead of the next state is no more than what was ahead, less the step that was counted: expressions and places.
use Rattle.std.proofs.Common.{◌≡◌, ℕ, ◌+◌, ◌≤◌, Bool, true, false, List, [], ◌∷◌, ◌++◌, Option, Some, None, refl, ap, arith}
use Rattle.std.specs.Prelude.{if◌then◌else◌, pos}
use Rattle.c_typed.specs.Trees as tree
use Rattle.c_typed.specs.Trees.{Expression, Expressions, Place, Item, Statement, Program}
use Rattle.c_ints.specs.Range.{bytes_of}
use Rattle.c_ints.specs.declared.types.IntTy.{IntTy}
use Rattle.c_ints.specs.declared.types.IntTy.TheVariants as ints
use Rattle.c_typed.specs.Types.{type_bytes, place_type}
use Rattle.c_typed.specs.declared.expression.LogicalOp.{LogicalOp}
use Rattle.c_typed.specs.declared.types.Ty.{Ty}
use Rattle.c_typed.specs.declared.types.Ty.TheVariants as types
use Rattle.pic_world.specs.World.{World}
use Rattle.src_rules.specs.Accesses.{goes, fetching}
use Rattle.src_rules.specs.Expressions.{arguments, eval, find, address, takes, found_in, at_member, member_of, found_to, found_for, found}
use Rattle.src_rules.specs.Giving.{answered, used, branch, logical, truth_given, changes, take_in, deref, take_to}
use Rattle.src_rules.specs.Runs.{one_if}
use Rattle.src_rules.specs.State.{Outcome, Went, Undefined, Idle, Lost}
use Rattle.src_rules.specs.Step.{is_some_line}
use Rattle.src_values.specs.Control.{Got, Nothing, Chosen, One, At, AtWith, Args, Stage, AtItem, Pending, In, To, Doing, Before, Returns, Resumes, read_type}
use Rattle.src_values.specs.Counting.{counted_if, is_operator, found_counts_in, found_counts_to, found_counts, value_counts_in, value_counts_to, logical_counts}
use Rattle.src_values.specs.Data.{Datum, Number, Pointer, Missing}
use Rattle.src_values.specs.Memory.{Setting, Memory}
use Rattle.src_values.specs.Objects.{moved}
use Rattle.src_values.specs.Values.{byte_count, Answer, Gives, Fails, Strays, truth_of, decides}
use Rattle.src_values.specs.declared.objects.Byte.{Byte}
use Rattle.src_values.specs.declared.objects.CopyOf.{CopyOf}
use Rattle.src_values.specs.declared.objects.Pointer.{Pointer as Reference}
use Rattle.src_values.specs.declared.objects.Spot.{Spot}
use Rattle.src_values.specs.declared.objects.Spot.TheVariants as spots
use Rattle.lag_trace.proofs.Ahead.{ahead_in, ahead_of_all, ahead_at, part_ahead, write_left, with_focus, stack_ahead}

-- so many count, and no more is ahead behind them
abbrev pub Stays : List ℕ → ℕ → ℕ → Outcome → Type 0
Stays q most counted (Went u event) = counted + with_focus q u.focus u.stack (stack_ahead q u.stack) ≤ most
Stays q most counted (Undefined kind line) = Unit {0}
Stays q most counted Idle = Unit {0}
Stays q most counted Lost = Unit {0}

abbrev pub counts_as : Option ℕ → ℕ
counts_as line = one_if (is_some_line line)

pub counted_small : (b : Bool) (line : ℕ) → counts_as (counted_if b line) ≤ 1
counted_small true line = omega arith
counted_small false line = omega arith

int_few : (i : IntTy) → bytes_of i ≤ 4
int_few ints.Char = omega arith
int_few ints.SChar = omega arith
int_few ints.UChar = omega arith
int_few ints.Short = omega arith
int_few ints.UShort = omega arith
int_few ints.Int = omega arith
int_few ints.UInt = omega arith
int_few ints.Long = omega arith
int_few ints.ULong = omega arith

value_few : (v : Datum) → byte_count v ≤ 4
value_few (Number n) = int_few n.ty
value_few (Pointer x) = omega arith
value_few Missing = omega arith

-- a value has few bytes to write
pub write_few : (spot : Spot) (v : Datum) → write_left spot v 0 ≤ 4
write_few (spots.Memory x) v = let b = value_few v in omega arith
write_few (spots.Device address) v = let b = value_few v in omega arith
write_few (spots.Bit register number) v = omega arith

module _ (s : Setting) (most : ℕ) where
  abbrev q : List ℕ
  q = s.program.sizes

  pub either_stays : (n : ℕ) (b : Bool) (x y : Outcome) → Stays q most n x → Stays q most n y → Stays q most n (if b then x else y)
  either_stays n true x y h g = h
  either_stays n false x y h g = g

  -- ---- expressions and places begin
  arguments_stay : (e : Expression) (values : List Datum) (more : Expressions) (k : List Pending) (c : CopyOf) (m : Memory) (w : World Byte) → ahead_of_all q more + stack_ahead q k ≤ most → Stays q most 0 (arguments e values more k c m w)
  unfolding ahead_in
  arguments_stay e values tree.NoExpression k c m w h = omega arith
  arguments_stay e values (tree.AndExpression a rest) k c m w h = omega arith

  pub eval_stays : (e : Expression) (k : List Pending) (c : CopyOf) (m : Memory) (w : World Byte) → ahead_in q e + stack_ahead q k ≤ most → Stays q most 0 (eval e k c m w)
  unfolding ahead_in
  eval_stays (tree.Constant value line) k c m w h = omega arith
  eval_stays (tree.Read place ty line) k c m w h = omega arith
  eval_stays (tree.Address place ty line) k c m w h = omega arith
  eval_stays (tree.Convert operand ty line) k c m w h = omega arith
  eval_stays (tree.Cast operand ty line) k c m w h = omega arith
  eval_stays (tree.Unary op operand ty line) k c m w h = omega arith
  eval_stays (tree.Binary op left right ty line) k c m w h = omega arith
  eval_stays (tree.Offset op left right size ty line) k c m w h = omega arith
  eval_stays (tree.Difference left right size line) k c m w h = omega arith
  eval_stays (tree.Logical op left right line) k c m w h = omega arith
  eval_stays (tree.Conditional condition chosen otherwise ty line) k c m w h = omega arith
  eval_stays (tree.Comma left right ty line) k c m w h = omega arith
  eval_stays (tree.Assign place value ty line) k c m w h = omega arith
  eval_stays (tree.StructAssign place from size line) k c m w h = omega arith
  eval_stays (tree.Update op place value operation size ty line) k c m w h = omega arith
  eval_stays (tree.Step op place operation size ty line) k c m w h = omega arith
  eval_stays (tree.Call g all ty line) k c m w h = arguments_stay (tree.Call g all ty line) [] all k c m w (omega arith)

  pub find_stays : (place : Place) (k : List Pending) (c : CopyOf) (m : Memory) (w : World Byte) → ahead_at q place + stack_ahead q k ≤ most → Stays q most 0 (find s place k c m w)
  unfolding ahead_in
  find_stays (tree.Name object ty line) k c m w h = omega arith
  find_stays (tree.Bit register number line) k c m w h = omega arith
  find_stays (tree.Member whole member offset ty line) k c m w h = omega arith
  find_stays (tree.Deref pointer ty line) k c m w h = omega arith

  -- ---- places that were found
  fetching_stays : (n : ℕ) (spot : Spot) (ty : Ty) (k : List Pending) (c : CopyOf) (m : Memory) (w : World Byte) → read_type k ≡ ty → n + type_bytes q ty + stack_ahead q k ≤ most → Stays q most n (goes c (fetching spot ty q) k m w)
  fetching_stays n spot types.Void k c m w e h = omega arith
  fetching_stays n spot (types.Int ty) k c m w e h = let b = ap (type_bytes q) e in omega arith
  fetching_stays n spot (types.Pointer row) k c m w e h = let b = ap (type_bytes q) e in omega arith
  fetching_stays n spot (types.Array x a y) k c m w e h = omega arith
  fetching_stays n spot (types.Struct a) k c m w e h = omega arith

  takes_stay : (n : ℕ) (o : Option Reference) (k : List Pending) (c : CopyOf) (m : Memory) (w : World Byte) → n + stack_ahead q k ≤ most → Stays q most n (takes o k c m w)
  takes_stay n (Some x) k c m w h = omega arith
  takes_stay n None k c m w h = tt

  member_stays : (n : ℕ) (o : Option Reference) (line : ℕ) (k : List Pending) (c : CopyOf) (m : Memory) (w : World Byte) → n + stack_ahead q k ≤ most → Stays q most n (at_member o line k c m w)
  member_stays n (Some x) line k c m w h = omega arith
  member_stays n None line k c m w h = tt

  member_of_stays : (n : ℕ) (o : Option Reference) (offset line : ℕ) (k : List Pending) (c : CopyOf) (m : Memory) (w : World Byte) → n + stack_ahead q k ≤ most → Stays q most n (member_of s o offset line k c m w)
  member_of_stays n (Some x) offset line k c m w h = member_stays n (moved s.program x (pos offset)) line k c m w h
  member_of_stays n None offset line k c m w h = tt

  found_in_stays : (p : Program) (e : Expression) (got : Got) (spot : Spot) (k : List Pending) (c : CopyOf) (m : Memory) (w : World Byte) → part_ahead q got e + stack_ahead q k ≤ most → Stays q most (counts_as (found_counts_in p e got)) (found_in s e got spot k c m w)
  found_in_stays p (tree.Read place ty line) Nothing spot k c m w h = fetching_stays 0 spot ty (In (tree.Read place ty line) (At spot) ∷ k) c m w refl (omega arith)
  found_in_stays p (tree.Address place ty line) Nothing spot k c m w h =
      let d = counted_small (is_operator p (place_type place).ty ty) line in
      takes_stay (counts_as (counted_if (is_operator p (place_type place).ty ty) line)) (address spot) k c m w (omega arith)
  found_in_stays p (tree.Assign place value ty line) Nothing spot k c m w h = omega arith
  found_in_stays p (tree.StructAssign place from size line) Nothing spot k c m w h = omega arith
  found_in_stays p (tree.StructAssign place from size line) (At to) spot k c m w h = omega arith
  found_in_stays p (tree.Update op place value operation size ty line) Nothing spot k c m w h = omega arith
  found_in_stays p (tree.Step op place operation size ty line) Nothing spot k c m w h = fetching_stays 0 spot ty (In (tree.Step op place operation size ty line) (At spot) ∷ k) c m w refl (omega arith)
  found_in_stays p _ _ spot k c m w h = tt

  found_to_stays : (place : Place) (spot : Spot) (k : List Pending) (c : CopyOf) (m : Memory) (w : World Byte) → 1 + stack_ahead q k ≤ most → Stays q most (counts_as (found_counts_to place)) (found_to s place spot k c m w)
  found_to_stays (tree.Member whole member offset ty line) spot k c m w h = member_of_stays 1 (address spot) offset line k c m w h
  found_to_stays _ spot k c m w h = tt

  found_for_stays : (t : Statement) (stage : Stage) (spot : Spot) (k : List Pending) (c : CopyOf) (m : Memory) (w : World Byte) → stack_ahead q (Doing t stage ∷ k) ≤ most → Stays q most 0 (found_for s t stage spot k c m w)
  found_for_stays (tree.InitList local all line) (AtItem (tree.Struct offset from size) rest) spot k c m w h = omega arith
  found_for_stays _ _ spot k c m w h = tt

  pub found_stays : (p : Program) (spot : Spot) (k : List Pending) (c : CopyOf) (m : Memory) (w : World Byte) → stack_ahead q k ≤ most → Stays q most (counts_as (found_counts p k)) (found s spot k c m w)
  found_stays p spot [] c m w h = tt
  found_stays p spot (In e got ∷ k) c m w h = found_in_stays p e got spot k c m w h
  found_stays p spot (To place ∷ k) c m w h = found_to_stays place spot k c m w h
  found_stays p spot (Doing t stage ∷ k) c m w h = found_for_stays t stage spot k c m w h
  found_stays p spot (Before ss ∷ k) c m w h = tt
  found_stays p spot (Returns d ∷ k) c m w h = tt
  found_stays p spot (Resumes d x ∷ k) c m w h = tt

  -- ---- values
  answered_stays : (n : ℕ) (answer : Answer) (line : ℕ) (k : List Pending) (c : CopyOf) (m : Memory) (w : World Byte) → n + stack_ahead q k ≤ most → Stays q most n (answered answer line k c m w)
  answered_stays n (Gives v) line k c m w h = omega arith
  answered_stays n (Fails kind) line k c m w h = tt
  answered_stays n Strays line k c m w h = tt

  pub used_stays : (n : ℕ) (v : Datum) (line : ℕ) (next : Outcome) → Stays q most n next → Stays q most n (used v line next)
  used_stays n (Number q) line next h = h
  used_stays n (Pointer x) line next h = h
  used_stays n Missing line next h = tt

  pub branch_stays : (n : ℕ) (o : Option Bool) (line : ℕ) (first second : Outcome) → Stays q most n first → Stays q most n second → Stays q most n (branch o line first second)
  branch_stays n None line first second h g = tt
  branch_stays n (Some true) line first second h g = h
  branch_stays n (Some false) line first second h g = g

  truth_stays : (n : ℕ) (o : Option Bool) (line : ℕ) (k : List Pending) (c : CopyOf) (m : Memory) (w : World Byte) → n + stack_ahead q k ≤ most → Stays q most n (truth_given o line k c m w)
  truth_stays n None line k c m w h = tt
  truth_stays n (Some holds) line k c m w h = omega arith

  decided_stays : (b : Bool) (line : ℕ) (x y : Outcome) → Stays q most 1 x → Stays q most 0 y → Stays q most (counts_as (counted_if b line)) (if b then x else y)
  decided_stays true line x y h g = h
  decided_stays false line x y h g = g

  logical_stays : (op : LogicalOp) (left right : Expression) (line : ℕ) (v : Datum) (o : Option Bool) (k : List Pending) (c : CopyOf) (m : Memory) (w : World Byte) → ahead_in q right + 1 + stack_ahead q k ≤ most
      → Stays q most (counts_as (logical_counts op o line)) (logical (tree.Logical op left right line) op v o right line k c m w)
  logical_stays op left right line v None k c m w h = tt
  logical_stays op left right line v (Some holds) k c m w h = decided_stays (decides op holds) line _ _ (omega arith) (omega arith)

  changes_stay : (answer : Answer) (e : Expression) (spot : Spot) (keeps : Bool) (old : Datum) (line : ℕ) (k : List Pending) (c : CopyOf) (m : Memory) (w : World Byte) → 5 + stack_ahead q k ≤ most → Stays q most 1 (changes answer e spot keeps old line k c m w)
  changes_stay (Gives v) e spot keeps old line k c m w h = let b = write_few spot v in omega arith
  changes_stay (Fails kind) e spot keeps old line k c m w h = tt
  changes_stay Strays e spot keeps old line k c m w h = tt

  pub take_in_stays : (e : Expression) (got : Got) (v : Datum) (k : List Pending) (c : CopyOf) (m : Memory) (w : World Byte) → part_ahead q got e + stack_ahead q k ≤ most → Stays q most (counts_as (value_counts_in e got v)) (take_in s e got v k c m w)
  take_in_stays (tree.Convert operand ty line) Nothing v k c m w h = answered_stays 0 _ line k c m w (omega arith)
  take_in_stays (tree.Cast operand ty line) Nothing v k c m w h = answered_stays 1 _ line k c m w (omega arith)
  take_in_stays (tree.Unary op operand ty line) Nothing v k c m w h = answered_stays 1 _ line k c m w (omega arith)
  take_in_stays (tree.Binary op left right ty line) Nothing v k c m w h = omega arith
  take_in_stays (tree.Binary op left right ty line) (One u) v k c m w h = answered_stays 1 _ line k c m w (omega arith)
  take_in_stays (tree.Offset op left right size ty line) Nothing v k c m w h = omega arith
  take_in_stays (tree.Offset op left right size ty line) (One u) v k c m w h = answered_stays 1 _ line k c m w (omega arith)
  take_in_stays (tree.Difference left right size line) Nothing v k c m w h = omega arith
  take_in_stays (tree.Difference left right size line) (One u) v k c m w h = answered_stays 1 _ line k c m w (omega arith)
  take_in_stays (tree.Logical op left right line) Nothing v k c m w h = logical_stays op left right line v (truth_of v) k c m w h
  take_in_stays (tree.Logical op left right line) (One u) v k c m w h = truth_stays 1 (truth_of v) line k c m w (omega arith)
  take_in_stays (tree.Conditional condition chosen otherwise ty line) Nothing v k c m w h = branch_stays 1 (truth_of v) line _ _ (omega arith) (omega arith)
  take_in_stays (tree.Conditional condition chosen otherwise ty line) Chosen v k c m w h = omega arith
  take_in_stays (tree.Comma left right ty line) Nothing v k c m w h = omega arith
  take_in_stays (tree.Assign place value ty line) (At spot) v k c m w h = let b = write_few spot v in used_stays 1 v line _ (omega arith)
  take_in_stays (tree.Update op place value operation size ty line) (At spot) v k c m w h = fetching_stays 0 spot ty (In (tree.Update op place value operation size ty line) (AtWith spot v) ∷ k) c m w refl (omega arith)
  take_in_stays (tree.Update op place value operation size ty line) (AtWith spot u) v k c m w h = changes_stay _ (tree.Update op place value operation size ty line) spot false v line k c m w (omega arith)
  take_in_stays (tree.Step op place operation size ty line) (At spot) v k c m w h = changes_stay _ (tree.Step op place operation size ty line) spot _ v line k c m w (omega arith)
  take_in_stays (tree.Call g values ty line) (Args before more) v k c m w h = arguments_stay (tree.Call g values ty line) (before ++ v ∷ []) more k c m w h
  take_in_stays _ _ v k c m w h = tt

  deref_stays : (v : Datum) (line : ℕ) (k : List Pending) (c : CopyOf) (m : Memory) (w : World Byte) → 1 + stack_ahead q k ≤ most → Stays q most 1 (deref v line k c m w)
  deref_stays (Pointer x) line k c m w h = omega arith
  deref_stays (Number q) line k c m w h = tt
  deref_stays Missing line k c m w h = tt

  pub take_to_stays : (place : Place) (v : Datum) (k : List Pending) (c : CopyOf) (m : Memory) (w : World Byte) → 1 + stack_ahead q k ≤ most → Stays q most (counts_as (value_counts_to place)) (take_to place v k c m w)
  take_to_stays (tree.Deref pointer ty line) v k c m w h = deref_stays v line k c m w h
  take_to_stays _ v k c m w h = tt

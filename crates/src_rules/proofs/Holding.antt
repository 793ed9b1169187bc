-- A micro-step keeps that each node on the stack lies in the one below it, by any measure: one proof for all bounds on a stack.
use Rattle.std.proofs.Common.{◌≡◌, ℕ, zero, suc, ◌+◌, ◌-◌, ◌≤◌, max, Bool, true, false, List, [], ◌∷◌, ◌++◌, length, Option, Some, None, arith}
use Rattle.std.specs.Prelude.{if◌then◌else◌, nat_lt, pos}
use Rattle.c_typed.specs.Sound.{is_some_arm}
use Rattle.c_typed.specs.Trees as tree
use Rattle.c_typed.specs.Trees.{Expression, Expressions, Place, Item, Statement, Statements, Arms, LastArm}
use Rattle.c_typed.specs.Types.{type_bytes}
use Rattle.c_typed.specs.declared.expression.LogicalOp.{LogicalOp}
use Rattle.c_typed.specs.declared.statement.LoopForm.{LoopForm}
use Rattle.c_typed.specs.declared.statement.LoopForm.TheVariants.{While, Do, For}
use Rattle.c_typed.specs.declared.statement.TCase.{TCase}
use Rattle.c_typed.specs.declared.types.Ty.{Ty}
use Rattle.c_typed.specs.declared.types.Ty.TheVariants as types
use Rattle.pic_world.specs.World.{World, arrived, is_due, device_value}
use Rattle.src_rules.proofs.Measures.{Measure, Laws, room, FocusFits, Fits, KeepsFit, MayRest}
use Rattle.src_rules.specs.Accesses.{goes, fetching, after_taking, after_putting, fetched, skim, items, stored_in, stored_for, stored, write_at, copy_read, spell, blank_at, blank_for, blank}
use Rattle.src_rules.specs.Expressions.{arguments, eval, find, address, takes, found_in, at_member, member_of, found_to, found_for, found}
use Rattle.src_rules.specs.Giving.{answered, used, branch, logical, truth_given, changes, take_in, deref, take_to, statements_behind, jump, jump_if_any, compares_in, compares_for, compares, take_for, give}
use Rattle.src_rules.specs.Parts.{IsStatementOf}
use Rattle.src_rules.specs.Standing.{listed, leaves, repeats, FocusStands, StackStands, Stands}
use Rattle.src_rules.specs.State.{State, Outcome, Went, Undefined, Idle, Lost}
use Rattle.src_rules.specs.Statements.{turn, test, first_of, next_of, loops, last, arms, break_at, continue_at, unwound, turned, proceed, handed, leave, begin}
use Rattle.src_rules.specs.Step.{has_missing, call_in, call, act, refused, interrupted, step}
use Rattle.src_values.specs.Accesses.{Taking, Takes, Breaks, Putting, Puts, Refuses, device_taken}
use Rattle.src_values.specs.Control as control
use Rattle.src_values.specs.Control.{Focus, Got, Nothing, Chosen, One, At, AtWith, Stores, Copies, Args, Passed, Called, Stage, Tests, Begins, Steps, Turns, Picks, InArm, Chooses, Fills, AtItem, Items, Blanks, Pending, In, To, Doing, Before, Returns, Resumes, line_at, read_type}
use Rattle.src_values.specs.Counting.{counted_line}
use Rattle.src_values.specs.Data.{Datum, Number, Pointer, Missing}
use Rattle.src_values.specs.Lists.{covered_from}
use Rattle.src_values.specs.Memory.{Setting, Memory}
use Rattle.src_values.specs.Objects.{handler_in, local_of, moved}
use Rattle.src_values.specs.Values.{Answer, Gives, Fails, Strays, truth_of, decides, is_case, number_in, value_from, written_bytes}
use Rattle.src_values.specs.declared.objects.Byte.{Byte}
use Rattle.src_values.specs.declared.objects.CopyOf.{CopyOf}
use Rattle.src_values.specs.declared.objects.Object.{Object}
use Rattle.src_values.specs.declared.objects.Pointer.{Pointer as Reference}
use Rattle.src_values.specs.declared.objects.Spot.{Spot}
use Rattle.src_values.specs.declared.objects.Spot.TheVariants as spots

same : (n : ℕ) → n ≤ n
same n = omega arith

both : (a b n : ℕ) → a ≤ b → b ≤ n → a ≤ n
both a b n h g = omega arith

first_within : (a b n : ℕ) → max a b ≤ n → a ≤ n
first_within a b n h = omega arith

second_within : (a b n : ℕ) → max a b ≤ n → b ≤ n
second_within a b n h = omega arith

module _ (s : Setting) (m : CopyOf → Measure) (Rests : Type 0) (laws : (c : CopyOf) → Laws (m c)) where
  abbrev On : CopyOf → List Pending → Type 0
  On c k = Fits s.program m c k

  abbrev Keeps : Outcome → Type 0
  Keeps out = KeepsFit s.program m Rests out

  either_sized : (t : Bool) (x y : Outcome) → Keeps x → Keeps y → Keeps (if t then x else y)
  either_sized true x y h g = h
  either_sized false x y h g = g

  some_within : (c : CopyOf) (e : Expression) (t : Statement) (stage : Stage) → (m c).sizes.any (Some e) ≤ (m c).for_room t stage → (m c).sizes.expression e ≤ (m c).for_room t stage
  some_within c e t stage h = both ((m c).sizes.expression e) ((m c).sizes.any (Some e)) ((m c).for_room t stage) ((laws c).any_part e) h

  -- of the call's arguments these are left
  arguments_size : (g : ℕ) (all : Expressions) (ty : Ty) (line : ℕ) (values : List Datum) (more : Expressions) (k : List Pending) (c : CopyOf) (r : Memory) (w : World Byte) → (m c).sizes.expression (tree.Call g all ty line) ≤ room s.program m c k → (m c).IsReady (tree.Call g all ty line) values more → On c k
      → Keeps (arguments (tree.Call g all ty line) values more k c r w)
  arguments_size g all ty line values tree.NoExpression k c r w h q z = (tt, (h, (laws c).call_ends g all ty line values q, z))
  arguments_size g all ty line values (tree.AndExpression a rest) k c r w h q z = let d = (laws c).call_part g all ty line values a rest q in (d.0, (h, d.1, z))

  eval_size : (e : Expression) (k : List Pending) (c : CopyOf) (r : Memory) (w : World Byte) → (m c).sizes.expression e ≤ room s.program m c k → On c k → Keeps (eval e k c r w)
  eval_size (tree.Constant value line) k c r w h z = (tt, z)
  eval_size (tree.Call g all ty line) k c r w h z = arguments_size g all ty line [] all k c r w h ((laws c).call_begins g all ty line) z
  eval_size e k c r w h z = ((laws c).in_part e Nothing, (h, tt, z))

  find_size : (place : Place) (k : List Pending) (c : CopyOf) (r : Memory) (w : World Byte) → (m c).sizes.place place ≤ room s.program m c k → On c k → Keeps (find s place k c r w)
  find_size (tree.Name object ty line) k c r w h z = (tt, z)
  find_size (tree.Bit register number line) k c r w h z = (tt, z)
  find_size (tree.Member whole member offset ty line) k c r w h z = ((laws c).to_part (tree.Member whole member offset ty line), (h, z))
  find_size (tree.Deref pointer ty line) k c r w h z = ((laws c).to_part (tree.Deref pointer ty line), (h, z))

  fetching_size : (spot : Spot) (ty : Ty) (sizes : List ℕ) (k : List Pending) (c : CopyOf) (r : Memory) (w : World Byte) → On c k → Keeps (goes c (fetching spot ty sizes) k r w)
  fetching_size spot types.Void sizes k c r w z = (tt, z)
  fetching_size spot _ sizes k c r w z = (tt, z)

  takes_size : (o : Option Reference) (k : List Pending) (c : CopyOf) (r : Memory) (w : World Byte) → On c k → Keeps (takes o k c r w)
  takes_size (Some x) k c r w z = (tt, z)
  takes_size None k c r w z = tt

  member_size : (o : Option Reference) (line : ℕ) (k : List Pending) (c : CopyOf) (r : Memory) (w : World Byte) → On c k → Keeps (at_member o line k c r w)
  member_size (Some x) line k c r w z = (tt, z)
  member_size None line k c r w z = tt

  member_of_size : (o : Option Reference) (offset line : ℕ) (k : List Pending) (c : CopyOf) (r : Memory) (w : World Byte) → On c k → Keeps (member_of s o offset line k c r w)
  member_of_size (Some x) offset line k c r w z = member_size (moved s.program x (pos offset)) line k c r w z
  member_of_size None offset line k c r w z = tt

  found_in_size : (e : Expression) (got : Got) (spot : Spot) (k : List Pending) (c : CopyOf) (r : Memory) (w : World Byte) → On c (In e got ∷ k) → Keeps (found_in s e got spot k c r w)
  found_in_size (tree.Read place ty line) Nothing spot k c r w z = fetching_size spot ty s.program.sizes (In (tree.Read place ty line) (At spot) ∷ k) c r w (z.0, tt, z.2)
  found_in_size (tree.Address place ty line) Nothing spot k c r w z = takes_size (address spot) k c r w z.2
  found_in_size (tree.Assign place value ty line) Nothing spot k c r w z = ((laws c).in_part (tree.Assign place value ty line) (At spot), (z.0, tt, z.2))
  found_in_size (tree.StructAssign place from size line) Nothing spot k c r w z = ((laws c).in_part (tree.StructAssign place from size line) (At spot), (z.0, tt, z.2))
  found_in_size (tree.StructAssign place from size line) (At to) spot k c r w z = (tt, (z.0, tt, z.2))
  found_in_size (tree.Update op place value operation size ty line) Nothing spot k c r w z = ((laws c).in_part (tree.Update op place value operation size ty line) (At spot), (z.0, tt, z.2))
  found_in_size (tree.Step op place operation size ty line) Nothing spot k c r w z = fetching_size spot ty s.program.sizes (In (tree.Step op place operation size ty line) (At spot) ∷ k) c r w (z.0, tt, z.2)
  found_in_size _ _ spot k c r w z = tt

  found_to_size : (place : Place) (spot : Spot) (k : List Pending) (c : CopyOf) (r : Memory) (w : World Byte) → On c k → Keeps (found_to s place spot k c r w)
  found_to_size (tree.Member whole member offset ty line) spot k c r w z = member_of_size (address spot) offset line k c r w z
  found_to_size _ spot k c r w z = tt

  found_for_size : (t : Statement) (stage : Stage) (spot : Spot) (k : List Pending) (c : CopyOf) (r : Memory) (w : World Byte) → On c (Doing t stage ∷ k) → Keeps (found_for s t stage spot k c r w)
  found_for_size (tree.InitList local all line) (AtItem (tree.Struct offset from size) rest) spot k c r w z = (tt, z)
  found_for_size _ _ spot k c r w z = tt

  found_size : (spot : Spot) (k : List Pending) (c : CopyOf) (r : Memory) (w : World Byte) → On c k → Keeps (found s spot k c r w)
  found_size spot (In e got ∷ k) c r w z = found_in_size e got spot k c r w z
  found_size spot (To place ∷ k) c r w z = found_to_size place spot k c r w z.1
  found_size spot (Doing t stage ∷ k) c r w z = found_for_size t stage spot k c r w z
  found_size spot _ c r w z = tt

  answered_size : (answer : Answer) (line : ℕ) (k : List Pending) (c : CopyOf) (r : Memory) (w : World Byte) → On c k → Keeps (answered answer line k c r w)
  answered_size (Gives v) line k c r w z = (tt, z)
  answered_size (Fails kind) line k c r w z = tt
  answered_size Strays line k c r w z = tt

  used_size : (v : Datum) (line : ℕ) (next : Outcome) → Keeps next → Keeps (used v line next)
  used_size (Number q) line next h = h
  used_size (Pointer x) line next h = h
  used_size Missing line next h = tt

  branch_size : (o : Option Bool) (line : ℕ) (first second : Outcome) → Keeps first → Keeps second → Keeps (branch o line first second)
  branch_size None line first second h g = tt
  branch_size (Some true) line first second h g = h
  branch_size (Some false) line first second h g = g

  truth_size : (o : Option Bool) (line : ℕ) (k : List Pending) (c : CopyOf) (r : Memory) (w : World Byte) → On c k → Keeps (truth_given o line k c r w)
  truth_size None line k c r w z = tt
  truth_size (Some holds) line k c r w z = (tt, z)

  logical_size : (op : LogicalOp) (left right : Expression) (line : ℕ) (v : Datum) (o : Option Bool) (k : List Pending) (c : CopyOf) (r : Memory) (w : World Byte) → On c (In (tree.Logical op left right line) Nothing ∷ k) → Keeps (logical (tree.Logical op left right line) op v o right line k c r w)
  logical_size op left right line v None k c r w z = tt
  logical_size op left right line v (Some holds) k c r w z = either_sized (decides op holds) _ _ (tt, z.2) ((laws c).in_part (tree.Logical op left right line) (One v), (z.0, tt, z.2))

  changes_size : (answer : Answer) (e : Expression) (spot : Spot) (keeps : Bool) (old : Datum) (line : ℕ) (k : List Pending) (c : CopyOf) (r : Memory) (w : World Byte) → (m c).sizes.expression e ≤ room s.program m c k → On c k → Keeps (changes answer e spot keeps old line k c r w)
  changes_size (Gives v) e spot keeps old line k c r w h z = (tt, (h, tt, z))
  changes_size (Fails kind) e spot keeps old line k c r w h z = tt
  changes_size Strays e spot keeps old line k c r w h z = tt

  take_in_size : (e : Expression) (got : Got) (v : Datum) (k : List Pending) (c : CopyOf) (r : Memory) (w : World Byte) → On c (In e got ∷ k) → Keeps (take_in s e got v k c r w)
  take_in_size (tree.Convert operand ty line) Nothing v k c r w z = answered_size _ line k c r w z.2
  take_in_size (tree.Cast operand ty line) Nothing v k c r w z = answered_size _ line k c r w z.2
  take_in_size (tree.Unary op operand ty line) Nothing v k c r w z = answered_size _ line k c r w z.2
  take_in_size (tree.Binary op left right ty line) Nothing v k c r w z = ((laws c).in_part (tree.Binary op left right ty line) (One v), (z.0, tt, z.2))
  take_in_size (tree.Binary op left right ty line) (One u) v k c r w z = answered_size _ line k c r w z.2
  take_in_size (tree.Offset op left right size ty line) Nothing v k c r w z = ((laws c).in_part (tree.Offset op left right size ty line) (One v), (z.0, tt, z.2))
  take_in_size (tree.Offset op left right size ty line) (One u) v k c r w z = answered_size _ line k c r w z.2
  take_in_size (tree.Difference left right size line) Nothing v k c r w z = ((laws c).in_part (tree.Difference left right size line) (One v), (z.0, tt, z.2))
  take_in_size (tree.Difference left right size line) (One u) v k c r w z = answered_size _ line k c r w z.2
  take_in_size (tree.Logical op left right line) Nothing v k c r w z = logical_size op left right line v (truth_of v) k c r w z
  take_in_size (tree.Logical op left right line) (One u) v k c r w z = truth_size (truth_of v) line k c r w z.2
  take_in_size (tree.Conditional condition chosen otherwise ty line) Nothing v k c r w z =
      let d = (laws c).in_part (tree.Conditional condition chosen otherwise ty line) Chosen in
      let one = first_within ((m c).sizes.expression chosen) ((m c).sizes.expression otherwise) ((m c).in_room (tree.Conditional condition chosen otherwise ty line) Chosen) d in
      let other = second_within ((m c).sizes.expression chosen) ((m c).sizes.expression otherwise) ((m c).in_room (tree.Conditional condition chosen otherwise ty line) Chosen) d in
      branch_size (truth_of v) line _ _ (one, (z.0, tt, z.2)) (other, (z.0, tt, z.2))
  take_in_size (tree.Conditional condition chosen otherwise ty line) Chosen v k c r w z = (tt, z.2)
  take_in_size (tree.Comma left right ty line) Nothing v k c r w z = (both ((m c).sizes.expression right) ((m c).sizes.expression (tree.Comma left right ty line)) (room s.program m c k) ((laws c).comma left right ty line) z.0, z.2)
  take_in_size (tree.Assign place value ty line) (At spot) v k c r w z = used_size v line _ (tt, (z.0, tt, z.2))
  take_in_size (tree.Update op place value operation size ty line) (At spot) v k c r w z = fetching_size spot ty s.program.sizes (In (tree.Update op place value operation size ty line) (AtWith spot v) ∷ k) c r w (z.0, tt, z.2)
  take_in_size (tree.Update op place value operation size ty line) (AtWith spot u) v k c r w z = changes_size _ (tree.Update op place value operation size ty line) spot false v line k c r w z.0 z.2
  take_in_size (tree.Step op place operation size ty line) (At spot) v k c r w z = changes_size _ (tree.Step op place operation size ty line) spot _ v line k c r w z.0 z.2
  take_in_size (tree.Call g values ty line) (Args before more) v k c r w z = arguments_size g values ty line (before ++ v ∷ []) more k c r w z.0 ((laws c).call_next g values ty line before v more z.1) z.2
  take_in_size _ _ v k c r w z = tt

  deref_size : (v : Datum) (line : ℕ) (k : List Pending) (c : CopyOf) (r : Memory) (w : World Byte) → On c k → Keeps (deref v line k c r w)
  deref_size (Pointer x) line k c r w z = (tt, z)
  deref_size (Number q) line k c r w z = tt
  deref_size Missing line k c r w z = tt

  take_to_size : (place : Place) (v : Datum) (k : List Pending) (c : CopyOf) (r : Memory) (w : World Byte) → On c k → Keeps (take_to place v k c r w)
  take_to_size (tree.Deref pointer ty line) v k c r w z = deref_size v line k c r w z
  take_to_size _ v k c r w z = tt

  test_size : (shape : LoopForm) (first condition step : Option Expression) (body : Statement) (line : ℕ) (k : List Pending) (c : CopyOf) (r : Memory) (w : World Byte) → (m c).sizes.statement (tree.Loop shape first condition step body line) ≤ room s.program m c k → On c k → Keeps (test (tree.Loop shape first condition step body line) condition body k c r w)
  test_size shape first None step body line k c r w h z = ((laws c).for_part (tree.Loop shape first None step body line) Turns tt, (h, tt, z))
  test_size shape first (Some e) step body line k c r w h z = (some_within c e (tree.Loop shape first (Some e) step body line) Tests ((laws c).for_part (tree.Loop shape first (Some e) step body line) Tests tt), (h, tt, z))

  first_size : (shape : LoopForm) (first condition step : Option Expression) (body : Statement) (line : ℕ) (k : List Pending) (c : CopyOf) (r : Memory) (w : World Byte) → (m c).sizes.statement (tree.Loop shape first condition step body line) ≤ room s.program m c k → On c k → Keeps (first_of (tree.Loop shape first condition step body line) first condition body k c r w)
  first_size shape None condition step body line k c r w h z = test_size shape None condition step body line k c r w h z
  first_size shape (Some e) condition step body line k c r w h z = (some_within c e (tree.Loop shape (Some e) condition step body line) Begins ((laws c).for_part (tree.Loop shape (Some e) condition step body line) Begins tt), (h, tt, z))

  next_size : (shape : LoopForm) (first condition step : Option Expression) (body : Statement) (line : ℕ) (k : List Pending) (c : CopyOf) (r : Memory) (w : World Byte) → (m c).sizes.statement (tree.Loop shape first condition step body line) ≤ room s.program m c k → On c k → Keeps (next_of (tree.Loop shape first condition step body line) step condition body k c r w)
  next_size shape first condition None body line k c r w h z = test_size shape first condition None body line k c r w h z
  next_size shape first condition (Some e) body line k c r w h z = (some_within c e (tree.Loop shape first condition (Some e) body line) Steps ((laws c).for_part (tree.Loop shape first condition (Some e) body line) Steps tt), (h, tt, z))

  turn_size : (shape : LoopForm) (first condition step : Option Expression) (body : Statement) (line : ℕ) (k : List Pending) (c : CopyOf) (r : Memory) (w : World Byte) → (m c).sizes.statement (tree.Loop shape first condition step body line) ≤ room s.program m c k → On c k → Keeps (turn (tree.Loop shape first condition step body line) body k c r w)
  turn_size shape first condition step body line k c r w h z = ((laws c).for_part (tree.Loop shape first condition step body line) Turns tt, (h, tt, z))

  loops_size : (shape : LoopForm) (first condition step : Option Expression) (body : Statement) (line : ℕ) (k : List Pending) (c : CopyOf) (r : Memory) (w : World Byte) → (m c).sizes.statement (tree.Loop shape first condition step body line) ≤ room s.program m c k → On c k → Keeps (loops shape (tree.Loop shape first condition step body line) first condition body k c r w)
  loops_size While first condition step body line k c r w h z = first_size While first condition step body line k c r w h z
  loops_size For first condition step body line k c r w h z = first_size For first condition step body line k c r w h z
  loops_size Do first condition step body line k c r w h z = turn_size Do first condition step body line k c r w h z

  last_size : (chain : Arms) (otherwise : LastArm) (line : ℕ) (k : List Pending) (c : CopyOf) (r : Memory) (w : World Byte) → is_some_arm chain ≡ true → (m c).sizes.statement (tree.If chain otherwise line) ≤ room s.program m c k → On c k → Keeps (last (tree.If chain otherwise line) otherwise k c r w)
  last_size chain tree.NoLast line k c r w e h z = (tt, z)
  last_size chain (tree.Last chosen) line k c r w e h z = let d = (laws c).otherwise chain chosen line e in (d.0, (h, d.1, z))

  arms_size : (chain more : Arms) (otherwise : LastArm) (line : ℕ) (k : List Pending) (c : CopyOf) (r : Memory) (w : World Byte) → is_some_arm chain ≡ true → (m c).IsLeft chain more → (m c).sizes.statement (tree.If chain otherwise line) ≤ room s.program m c k → On c k → Keeps (arms (tree.If chain otherwise line) more otherwise k c r w)
  arms_size chain tree.NoArm otherwise line k c r w e g h z = last_size chain otherwise line k c r w e h z
  arms_size chain (tree.AndArm (tree.OneArm condition chosen at) more) otherwise line k c r w e g h z =
      let d = (laws c).chain_part chain (tree.OneArm condition chosen at) more g in ((laws c).for_part (tree.If chain otherwise line) (Picks (tree.OneArm condition chosen at) more) d, (h, d, z))

  break_size : (k : List Pending) (c : CopyOf) (r : Memory) (w : World Byte) → On c k → Keeps (break_at k c r w)
  break_size (Doing t Turns ∷ k) c r w z = (tt, z.2)
  break_size (Doing t (InArm more) ∷ k) c r w z = break_size k c r w z.2
  break_size (Before ss ∷ k) c r w z = break_size k c r w z.1
  break_size _ c r w z = tt

  continue_size : (k : List Pending) (c : CopyOf) (r : Memory) (w : World Byte) → On c k → Keeps (continue_at k c r w)
  continue_size (Doing (tree.Loop shape first condition step body line) Turns ∷ k) c r w z = (tt, z)
  continue_size (Doing (tree.Switch e cases default ss line) Turns ∷ k) c r w z = continue_size k c r w z.2
  continue_size (Doing t (InArm more) ∷ k) c r w z = continue_size k c r w z.2
  continue_size (Before ss ∷ k) c r w z = continue_size k c r w z.1
  continue_size _ c r w z = tt

  unwound_size : (k : List Pending) (c : CopyOf) → On c k → On c (unwound k)
  unwound_size (Doing t Turns ∷ k) c z = unwound_size k c z.2
  unwound_size (Doing t (InArm more) ∷ k) c z = unwound_size k c z.2
  unwound_size (Before ss ∷ k) c z = unwound_size k c z.1
  unwound_size _ c z = z

  jump_size : (e : Expression) (cases : List TCase) (default : Option ℕ) (ss : Statements) (line target : ℕ) (k : List Pending) (c : CopyOf) (r : Memory) (w : World Byte) → (m c).sizes.statement (tree.Switch e cases default ss line) ≤ room s.program m c k → On c k → Keeps (jump (tree.Switch e cases default ss line) target ss k c r w)
  jump_size e cases default ss line target k c r w h z =
      let d = both ((m c).sizes.list (statements_behind target ss)) ((m c).sizes.list ss) ((m c).for_room (tree.Switch e cases default ss line) Turns) ((laws c).jumps target ss) ((laws c).for_part (tree.Switch e cases default ss line) Turns tt) in
      (tt, (d, (h, tt, z)))

  any_size : (e : Expression) (cases : List TCase) (default o : Option ℕ) (ss : Statements) (line : ℕ) (k : List Pending) (c : CopyOf) (r : Memory) (w : World Byte) → (m c).sizes.statement (tree.Switch e cases default ss line) ≤ room s.program m c k → On c k → Keeps (jump_if_any (tree.Switch e cases default ss line) o ss k c r w)
  any_size e cases default None ss line k c r w h z = (tt, z)
  any_size e cases default (Some target) ss line k c r w h z = jump_size e cases default ss line target k c r w h z

  compares_in_size : (e : Expression) (cases : List TCase) (default : Option ℕ) (ss : Statements) (line : ℕ) (v : Datum) (labels : List TCase) (k : List Pending) (c : CopyOf) (r : Memory) (w : World Byte) → (m c).sizes.statement (tree.Switch e cases default ss line) ≤ room s.program m c k → On c k → Keeps (compares_in (tree.Switch e cases default ss line) ss default v labels k c r w)
  compares_in_size e cases default ss line v [] k c r w h z = any_size e cases default default ss line k c r w h z
  compares_in_size e cases default ss line v (label ∷ labels) k c r w h z = either_sized (is_case v label) _ _ (jump_size e cases default ss line label.target k c r w h z) (tt, (h, tt, z))

  compares_for_size : (t : Statement) (stage : Stage) (v : Datum) (labels : List TCase) (k : List Pending) (c : CopyOf) (r : Memory) (w : World Byte) → On c (Doing t stage ∷ k) → Keeps (compares_for t stage v labels k c r w)
  compares_for_size (tree.Switch e cases default ss line) Chooses v labels k c r w z = compares_in_size e cases default ss line v labels k c r w z.0 z.2
  compares_for_size _ _ v labels k c r w z = tt

  compares_size : (v : Datum) (labels : List TCase) (k : List Pending) (c : CopyOf) (r : Memory) (w : World Byte) → On c k → Keeps (compares v labels k c r w)
  compares_size v labels (Doing t stage ∷ k) c r w z = compares_for_size t stage v labels k c r w z
  compares_size v labels _ c r w z = tt

  take_for_size : (t : Statement) (stage : Stage) (v : Datum) (k : List Pending) (c : CopyOf) (r : Memory) (w : World Byte) → StackStands s.program c (Doing t stage ∷ k) → On c (Doing t stage ∷ k) → Keeps (take_for s t stage v k c r w)
  take_for_size (tree.Expr e line) Tests v k c r w st z = (tt, z.2)
  take_for_size (tree.InitScalar local e line) Tests v k c r w st z = used_size v line _ (tt, z)
  take_for_size (tree.InitList local all line) (AtItem (tree.Scalar offset e) rest) v k c r w st z = used_size v line _ (tt, z)
  take_for_size (tree.If chain otherwise line) (Picks (tree.OneArm condition chosen at) more) v k c r w st z =
      let d = (laws c).chosen chain more condition chosen at line otherwise z.1 in
      branch_size (truth_of v) at _ _ (d.0, (z.0, d.1, z.2)) (arms_size chain more otherwise line k c r w st.0.0 ((laws c).chain_next chain (tree.OneArm condition chosen at) more z.1) z.0 z.2)
  take_for_size (tree.Loop shape first condition step body line) Begins v k c r w st z = test_size shape first condition step body line k c r w z.0 z.2
  take_for_size (tree.Loop shape first condition step body line) Steps v k c r w st z = test_size shape first condition step body line k c r w z.0 z.2
  take_for_size (tree.Loop shape first condition step body line) Tests v k c r w st z = branch_size (truth_of v) line _ _ (turn_size shape first condition step body line k c r w z.0 z.2) (tt, z.2)
  take_for_size (tree.Switch e cases default ss line) Tests v k c r w st z = used_size v line _ (tt, z)
  take_for_size (tree.Return e line) Tests v k c r w st z = used_size v line _ (tt, unwound_size k c z.2)
  take_for_size _ _ v k c r w st z = tt

  give_size : (v : Datum) (k : List Pending) (c : CopyOf) (r : Memory) (w : World Byte) → StackStands s.program c k → On c k → Keeps (give s v k c r w)
  give_size v (In e got ∷ k) c r w st z = take_in_size e got v k c r w z
  give_size v (To place ∷ k) c r w st z = take_to_size place v k c r w z.1
  give_size v (Doing t stage ∷ k) c r w st z = take_for_size t stage v k c r w st z
  give_size v _ c r w st z = tt

  turned_size : (t : Statement) (stage : Stage) (k : List Pending) (c : CopyOf) (r : Memory) (w : World Byte) → On c (Doing t stage ∷ k) → Keeps (turned t stage k c r w)
  turned_size (tree.Loop shape first condition step body line) Turns k c r w z = next_size shape first condition step body line k c r w z.0 z.2
  turned_size (tree.Switch e cases default ss line) Turns k c r w z = (tt, z.2)
  turned_size (tree.If chain otherwise line) (InArm more) k c r w z = (tt, z.2)
  turned_size _ _ k c r w z = tt

  proceed_size : (k : List Pending) (c : CopyOf) (r : Memory) (w : World Byte) → On c k → Keeps (proceed k c r w)
  proceed_size [] c r w z = (tt, tt)
  proceed_size (In e got ∷ k) c r w z = tt
  proceed_size (To place ∷ k) c r w z = tt
  proceed_size (Doing t stage ∷ k) c r w z = turned_size t stage k c r w z
  proceed_size (Before tree.NoStatement ∷ k) c r w z = (tt, z.1)
  proceed_size (Before (tree.AndStatement t ts) ∷ k) c r w z = let d = (laws c).next (room s.program m c k) t ts z.0 in (d.0, (d.1, z.1))
  proceed_size (Returns d ∷ k) c r w z = (tt, z)
  proceed_size (Resumes d x ∷ k) c r w z = (z.0, z.1)

  items_size : (local : ℕ) (full : List Item) (line : ℕ) (object : Object) (all : List Item) (k : List Pending) (c : CopyOf) (r : Memory) (w : World Byte) → (m c).sizes.statement (tree.InitList local full line) ≤ room s.program m c k → (m c).item_list all ≤ (m c).item_list full → On c k → Keeps (items s (tree.InitList local full line) object all k c r w)
  items_size local full line object [] k c r w h g z = (tt, (h, tt, z))
  items_size local full line object (tree.Scalar offset value ∷ rest) k c r w h g z = ((laws c).for_part (tree.InitList local full line) (AtItem (tree.Scalar offset value) rest) g, (h, g, z))
  items_size local full line object (tree.Struct offset from size ∷ rest) k c r w h g z = ((laws c).for_part (tree.InitList local full line) (AtItem (tree.Struct offset from size) rest) g, (h, g, z))
  items_size local full line object (tree.Text offset text size ∷ rest) k c r w h g z = (tt, (h, g, z))

  begin_size : (t : Statement) (k : List Pending) (c : CopyOf) (r : Memory) (w : World Byte) → IsStatementOf s.program c.function (listed k) (leaves k) (repeats k) t → (m c).sizes.statement t ≤ room s.program m c k → On c k → Keeps (begin s t k c r w)
  begin_size (tree.Block ss line) k c r w i h z = (tt, (both ((m c).sizes.list ss) ((m c).sizes.statement (tree.Block ss line)) (room s.program m c k) ((laws c).block ss line) h, z))
  begin_size (tree.Empty line) k c r w i h z = (tt, z)
  begin_size (tree.Expr e line) k c r w i h z = ((laws c).for_part (tree.Expr e line) Tests tt, (h, tt, z))
  begin_size (tree.Declare local line) k c r w i h z = (tt, z)
  begin_size (tree.InitScalar local e line) k c r w i h z = ((laws c).for_part (tree.InitScalar local e line) Tests tt, (h, tt, z))
  begin_size (tree.InitList local all line) k c r w i h z = items_size local all line _ all k c _ w h (same ((m c).item_list all)) z
  begin_size (tree.If chain otherwise line) k c r w i h z = arms_size chain chain otherwise line k c r w i.0 ((laws c).chain_begins chain) h z
  begin_size (tree.Loop shape first condition step body line) k c r w i h z = loops_size shape first condition step body line k c r w h z
  begin_size (tree.Switch e cases default ss line) k c r w i h z = ((laws c).for_part (tree.Switch e cases default ss line) Tests tt, (h, tt, z))
  begin_size (tree.Break line) k c r w i h z = break_size k c r w z
  begin_size (tree.Continue line) k c r w i h z = continue_size k c r w z
  begin_size (tree.Return None line) k c r w i h z = proceed_size (unwound k) c r w (unwound_size k c z)
  begin_size (tree.Return (Some e) line) k c r w i h z = (some_within c e (tree.Return (Some e) line) Tests ((laws c).for_part (tree.Return (Some e) line) Tests tt), (h, tt, z))

  handed_size : (v : Datum) (d : CopyOf) (k : List Pending) (r : Memory) (w : World Byte) → On d k → Keeps (handed v d k r w)
  handed_size v d (In (tree.Call g arguments ty line) Called ∷ k) r w z = (tt, z.2)
  handed_size v d _ r w z = tt

  leave_size : (v : Datum) (k : List Pending) (c : CopyOf) (r : Memory) (w : World Byte) → On c k → Keeps (leave v k r w)
  leave_size v (Returns d ∷ k) c r w z = handed_size v d k r w z
  leave_size v _ c r w z = tt

  fetched_size : (v : Datum) (k : List Pending) (c : CopyOf) (r : Memory) (w : World Byte) → On c k → Keeps (fetched v k c r w)
  fetched_size v (In (tree.Read place ty line) (At spot) ∷ k) c r w z = (tt, z.2)
  fetched_size v _ c r w z = (tt, z)

  stored_in_size : (e : Expression) (got : Got) (k : List Pending) (c : CopyOf) (r : Memory) (w : World Byte) → On c (In e got ∷ k) → Keeps (stored_in e got k c r w)
  stored_in_size e (Stores spot v) k c r w z = (tt, z.2)
  stored_in_size e Copies k c r w z = (tt, z.2)
  stored_in_size e _ k c r w z = tt

  stored_for_size : (t : Statement) (stage : Stage) (k : List Pending) (c : CopyOf) (r : Memory) (w : World Byte) → On c (Doing t stage ∷ k) → Keeps (stored_for s t stage k c r w)
  stored_for_size (tree.InitScalar local e line) Fills k c r w z = (tt, z.2)
  stored_for_size (tree.InitList local all line) (Items item rest) k c r w z = items_size local all line _ rest k c r w z.0 (both ((m c).item_list rest) ((m c).item_list (item ∷ rest)) ((m c).item_list all) ((laws c).item_next item rest) z.1) z.2
  stored_for_size (tree.InitList local all line) Blanks k c r w z = (tt, z.2)
  stored_for_size _ _ k c r w z = tt

  stored_size : (k : List Pending) (c : CopyOf) (r : Memory) (w : World Byte) → On c k → Keeps (stored s k c r w)
  stored_size (In e got ∷ k) c r w z = stored_in_size e got k c r w z
  stored_size (Doing t stage ∷ k) c r w z = stored_for_size t stage k c r w z
  stored_size _ c r w z = tt

  call_in_size : (e : Expression) (got : Got) (k : List Pending) (c : CopyOf) (r : Memory) (w : World Byte) → On c (In e got ∷ k) → Keeps (call_in s.program e got k c r w)
  call_in_size (tree.Call g all ty line) (Passed values) k c r w z = either_sized (has_missing values) _ _ tt (tt, (same _, (z.0, tt, z.2)))
  call_in_size _ _ k c r w z = tt

  call_size : (k : List Pending) (c : CopyOf) (r : Memory) (w : World Byte) → On c k → Keeps (call s.program k c r w)
  call_size (In e got ∷ k) c r w z = call_in_size e got k c r w z
  call_size _ c r w z = tt

  -- ---- bytes
  taking_size : (taking : Taking) (next : Byte → Focus) (c : CopyOf) (k : List Pending) (r : Memory) (line : ℕ) → On c k → ((byte : Byte) → FocusFits s.program m c (next byte) k) → Keeps (after_taking taking next c k r line)
  taking_size (Takes byte u event) next c k r line z f = (f byte, z)
  taking_size (Breaks kind) next c k r line z f = tt

  putting_size : (putting : Putting) (next : Focus) (c : CopyOf) (k : List Pending) (line : ℕ) → On c k → FocusFits s.program m c next k → Keeps (after_putting putting next c k line)
  putting_size (Puts n u event) next c k line z f = (f, z)
  putting_size (Refuses kind) next c k line z f = tt

  skim_size : (spot : Spot) (left : ℕ) (byte : Option Byte) (k : List Pending) (c : CopyOf) (r : Memory) (w : World Byte) → On c k → Keeps (skim s spot left byte k c r w)
  skim_size spot zero byte k c r w z = fetched_size Missing k c r w z
  skim_size spot (suc left) byte k c r w z = taking_size _ _ c k r (line_at k) z (λ b. tt)

  write_at_size : (spot : Spot) (v : Datum) (at : ℕ) (k : List Pending) (c : CopyOf) (r : Memory) (w : World Byte) → On c k → Keeps (write_at s spot v at k c r w)
  write_at_size (spots.Bit register number) v at k c r w z = taking_size (device_taken s register (device_value s.outside register w) w) (λ byte. control.PutBit register number v (number_in byte)) c k r (line_at k) z (λ b. tt)
  write_at_size (spots.Device address) v at k c r w z = putting_size _ _ c k (line_at k) z tt
  write_at_size (spots.Memory x) v at k c r w z = putting_size _ _ c k (line_at k) z tt

  copy_size : (to from : Spot) (left : ℕ) (k : List Pending) (c : CopyOf) (r : Memory) (w : World Byte) → On c k → Keeps (copy_read s to from left k c r w)
  copy_size to from zero k c r w z = stored_size k c r w z
  copy_size to from (suc left) k c r w z = taking_size _ _ c k r (line_at k) z (λ b. tt)

  spell_size : (spot : Spot) (text : List ℕ) (left : ℕ) (k : List Pending) (c : CopyOf) (r : Memory) (w : World Byte) → On c k → Keeps (spell s spot text left k c r w)
  spell_size spot text zero k c r w z = stored_size k c r w z
  spell_size spot text (suc left) k c r w z = putting_size _ _ c k (line_at k) z tt

  blank_at_size : (object : Object) (at left : ℕ) (k : List Pending) (c : CopyOf) (r : Memory) (w : World Byte) → On c k → Keeps (blank_at s object at left k c r w)
  blank_at_size object at zero k c r w z = stored_size k c r w z
  blank_at_size object at (suc left) k c r w z = putting_size _ _ c k (line_at k) z tt

  blank_for_size : (t : Statement) (at left : ℕ) (k : List Pending) (c : CopyOf) (r : Memory) (w : World Byte) → On c k → Keeps (blank_for s t at left k c r w)
  blank_for_size (tree.InitList local all line) at left k c r w z = blank_at_size (local_of s.program c local) (at + covered_from s.program.sizes all at left) (left - covered_from s.program.sizes all at left) k c r w z
  blank_for_size _ at left k c r w z = tt

  blank_size : (at left : ℕ) (k : List Pending) (c : CopyOf) (r : Memory) (w : World Byte) → On c k → Keeps (blank s at left k c r w)
  blank_size at left (Doing t stage ∷ k) c r w z = blank_for_size t at left (Doing t stage ∷ k) c r w z
  blank_size at left _ c r w z = tt

  -- ---- one micro-step
  act_size : (x : Focus) (k : List Pending) (c : CopyOf) (r : Memory) (w : World Byte) → FocusStands s.program c x k → StackStands s.program c k → FocusFits s.program m c x k → On c k → MayRest Rests x → Keeps (act s x k c r w)
  unfolding act
  act_size (control.Eval e) k c r w f st h z q = eval_size e k c r w h z
  act_size (control.Find place) k c r w f st h z q = find_size place k c r w h z
  act_size (control.Holds v) k c r w f st h z q = give_size v k c r w st z
  act_size (control.Found spot) k c r w f st h z q = found_size spot k c r w z
  act_size (control.Run t) k c r w f st h z q = begin_size t k c r w f.0 h z
  act_size control.Past k c r w f st h z q = proceed_size k c r w z
  act_size (control.Fetch spot read) k c r w f st h z q = either_sized (nat_lt (length read) (type_bytes s.program.sizes (read_type k))) _ _ (taking_size _ _ c k r (line_at k) z (λ b. tt)) (fetched_size (value_from (read_type k) read) k c r w z)
  act_size (control.Skim spot left byte) k c r w f st h z q = skim_size spot left byte k c r w z
  act_size (control.Write spot v at) k c r w f st h z q = either_sized (nat_lt at (written_bytes spot v)) _ _ (write_at_size spot v at k c r w z) (stored_size k c r w z)
  act_size (control.PutBit register number v old) k c r w f st h z q = putting_size _ _ c k (line_at k) z tt
  act_size (control.CopyRead to from left) k c r w f st h z q = copy_size to from left k c r w z
  act_size (control.CopyWrite to from byte left) k c r w f st h z q = putting_size _ _ c k (line_at k) z tt
  act_size (control.Spell spot text left) k c r w f st h z q = spell_size spot text left k c r w z
  act_size (control.Blank at left) k c r w f st h z q = blank_size at left k c r w z
  act_size control.Calls k c r w f st h z q = call_size k c r w z
  act_size (control.Leaves v) k c r w f st h z q = leave_size v k c r w z
  act_size (control.Compares v labels) k c r w f st h z q = compares_size v labels k c r w z
  act_size control.Over k c r w f st h z q = q

  refused_size : (o : Option ℕ) (out : Outcome) → Keeps out → Keeps (refused o out)
  refused_size (Some line) (Went t event) h = tt
  refused_size None (Went t event) h = h
  refused_size o (Undefined kind line) h = tt
  refused_size (Some line) Idle h = tt
  refused_size None Idle h = h
  refused_size o Lost h = tt

  step_fits_by : (x : Focus) (k : List Pending) (c : CopyOf) (r : Memory) (w : World Byte) (b : Bool) (o : Option ℕ) → FocusStands s.program c x k → StackStands s.program c k → FocusFits s.program m c x k → On c k → MayRest Rests x → Keeps (if b then interrupted s o x k c r w else act s x k c r w)
  step_fits_by x k c r w true (Some n) f st h z q = (tt, (same _, (h, z)))
  step_fits_by x k c r w true None f st h z q = refused_size (counted_line s.program c x k) (act s x k c r w) (act_size x k c r w f st h z q)
  step_fits_by x k c r w false o f st h z q = act_size x k c r w f st h z q

  pub step_fits : (t : State) → Stands s.program t → FocusFits s.program m t.copy t.focus t.stack → Fits s.program m t.copy t.stack → MayRest Rests t.focus → KeepsFit s.program m Rests (step s t)
  unfolding step
  step_fits t st h z q = step_fits_by t.focus t.stack t.copy t.memory (arrived s.outside t.world) (is_due (arrived s.outside t.world)) (handler_in s.program) st.focus st.stack h z q

-- where nothing is asked of coming to rest
pub rests_freely : (x : Focus) → MayRest (Unit {0}) x
rests_freely control.Over = tt
rests_freely _ = tt

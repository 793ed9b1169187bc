-- The laws of values that arrive, put together: frames that ask for little.
use Rattle.std.proofs.Common.{◌≡◌, ℕ, ◌+◌, ◌*◌, ◌<◌, ◌≤◌, inl, inr, Bool, true, false, List, [], ◌∷◌, Option, Some, None, refl, sym, ap, ◌∙◌, subst, arith}
use Rattle.std.proofs.lemmas.Grind.{common_steps}
use Rattle.std.specs.List.{All}
use Rattle.c_ints.specs.Range.{bytes_of}
use Rattle.c_ints.specs.declared.operators.BinOp.{BinOp}
use Rattle.c_ints.specs.declared.operators.UnOp.{UnOp}
use Rattle.c_ints.specs.declared.types.IntTy.{IntTy}
use Rattle.c_ints.specs.declared.types.IntTy.TheVariants as int
use Rattle.std.specs.Prelude.{max}
use Rattle.c_typed.specs.Room.{any_room, arm_room, room, statement_room}
use Rattle.c_typed.specs.Sameness.{is_scalar, is_pointer}
use Rattle.c_typed.specs.Trees as tree
use Rattle.c_typed.specs.Trees.{Expression, Place, Statement, Arms, LastArm}
use Rattle.c_typed.specs.Types.{type_bytes, type_of}
use Rattle.c_typed.specs.declared.expression.LogicalOp.{LogicalOp}
use Rattle.c_typed.specs.declared.expression.StepOp.{StepOp}
use Rattle.c_typed.specs.declared.statement.LoopForm.{LoopForm}
use Rattle.c_typed.specs.declared.statement.LoopForm.TheVariants.{While, Do, For}
use Rattle.c_typed.specs.declared.types.Ty.{Ty}
use Rattle.c_typed.specs.declared.types.Ty.TheVariants as types
use Rattle.core_code.specs.Machine.{Machine}
use Rattle.lower_expr.specs.Layout.{value_width}
use Rattle.lower_expr.specs.Lowering.{shifts_by_constant}
use Rattle.core_puts.specs.Puts.{test_size}
use Rattle.pic_world.specs.World.{World, arrived, is_due}
use Rattle.src_rules.proofs.Rules.{IsUpdate, update_rule, moves_rule}
use Rattle.src_rules.specs.Parts.{IsExpressionOf}
use Rattle.src_rules.specs.Standing.{HasType, IsTypeOfAny}
use Rattle.src_rules.specs.State.{state}
use Rattle.src_rules.specs.Step.{act}
use Rattle.src_values.specs.Control.{Holds, Got, Nothing, Chosen, One, At, AtWith, Args, Stage, Tests, Begins, Steps, Picks, AtItem, Pending, In, To, Doing, Before, Returns, Resumes}
use Rattle.src_values.specs.Data as datum
use Rattle.src_values.specs.Data.{Datum}
use Rattle.src_values.specs.Memory as source
use Rattle.src_values.specs.Values.{byte_count, truth_of}
use Rattle.src_values.specs.declared.objects.Byte.{Byte}
use Rattle.src_values.specs.declared.objects.CopyOf.{CopyOf}
use Rattle.src_values.specs.declared.objects.Spot.{Spot}
use Rattle.lower_trace.specs.Lowering.{IsLowerable}
use Rattle.lower_trace.proofs.Arguments.{argument_given}
use Rattle.lower_trace.proofs.Choosing.{conditional_given, if_given, end_joins, test_given, logical_left, logical_right}
use Rattle.lower_trace.proofs.CodeLeft.{Scene, base, ground_in, number, source_in}
use Rattle.lower_trace.proofs.Comparing.{switch_given}
use Rattle.lower_trace.proofs.Fitting.{frame_of, width_is}
use Rattle.lower_trace.proofs.Giving.{Around}
use Rattle.lower_trace.proofs.Known.{Known, around}
use Rattle.lower_trace.proofs.Leads.{Led, Law, led_by, led_nowhere}
use Rattle.lower_trace.proofs.Listing.{item_given}
use Rattle.lower_trace.proofs.LocalPlaces.{listed_of}
use Rattle.lower_trace.proofs.Looping.{turn_cost}
use Rattle.lower_trace.proofs.Mirrors.{Mirrors}
use Rattle.lower_trace.proofs.Prices.{turn_most}
use Rattle.lower_trace.proofs.Rooms.{three_parts, two_parts, value_room}
use Rattle.lower_trace.proofs.Rounds.{begins_given, steps_given}
use Rattle.lower_trace.proofs.Scenes.{frame_is, scene_laws}
use Rattle.lower_trace.proofs.Takes.{binary_left, offset_left, difference_left, comma_left, chosen_given, assign_given, deref_given, expression_given, scalar_given}
use Rattle.lower_trace.proofs.Updating.{update_given}

-- The laws of the other frames that take values.
pub record ValueLaws (z : Scene) : Type 0 where
  pub converts : (operand : Expression) (ty : Ty) (line : ℕ) (v : Datum) (k : List Pending) → Law z (Holds v) (In (tree.Convert operand ty line) Nothing ∷ k)
  pub casts : (operand : Expression) (ty : Ty) (line : ℕ) (v : Datum) (k : List Pending) → Law z (Holds v) (In (tree.Cast operand ty line) Nothing ∷ k)
  pub unaries : (op : UnOp) (operand : Expression) (ty : Ty) (line : ℕ) (v : Datum) (k : List Pending) → Law z (Holds v) (In (tree.Unary op operand ty line) Nothing ∷ k)
  -- a shift by a count that is known
  pub known_counts : (op : BinOp) (left right : Expression) (ty : Ty) (line : ℕ) (v : Datum) (k : List Pending) → shifts_by_constant op right ≡ true → Law z (Holds v) (In (tree.Binary op left right ty line) Nothing ∷ k)
  pub binaries : (op : BinOp) (left right : Expression) (ty : Ty) (line : ℕ) (u v : Datum) (k : List Pending) → Law z (Holds v) (In (tree.Binary op left right ty line) (One u) ∷ k)
  pub offsets : (op : BinOp) (left right : Expression) (size : ℕ) (ty : Ty) (line : ℕ) (u v : Datum) (k : List Pending) → Law z (Holds v) (In (tree.Offset op left right size ty line) (One u) ∷ k)
  pub differences : (left right : Expression) (size line : ℕ) (u v : Datum) (k : List Pending) → Law z (Holds v) (In (tree.Difference left right size line) (One u) ∷ k)
  pub updates : (op : BinOp) (place : Place) (value : Expression) (operation : Ty) (size : ℕ) (ty : Ty) (line : ℕ) (spot : Spot) (u v : Datum) (k : List Pending) → Law z (Holds v) (In (tree.Update op place value operation size ty line) (AtWith spot u) ∷ k)
  pub steps : (op : StepOp) (place : Place) (operation : Ty) (size : ℕ) (ty : Ty) (line : ℕ) (spot : Spot) (v : Datum) (k : List Pending) → Law z (Holds v) (In (tree.Step op place operation size ty line) (At spot) ∷ k)
  pub returns : (e : Expression) (line : ℕ) (v : Datum) (k : List Pending) → Law z (Holds v) (Doing (tree.Return (Some e) line) Tests ∷ k)

-- ---- stacks below a frame
pub around_in : (z : Scene) (c : CopyOf) (e : Expression) (got : Got) (k : List Pending) → Around z c (In e got ∷ k) → Around z c k
around_in z c e got k a = record { reached = a.reached; apart = a.apart; mains = a.mains; piled = a.piled.2 }

-- ---- scalar values
-- a value of an integer or pointer type has bytes, where it isn't missing
pub record IsTested (z : Scene) (ty : Ty) (v : Datum) : Type 0 where
  pub some : 0 < byte_count v
  pub few : byte_count v ≤ 4
  pub all : byte_count v ≡ type_bytes z.program.sizes ty

pub int_some : (ty : IntTy) → (0 < bytes_of ty) × (bytes_of ty ≤ 4)
int_some int.Char = (omega arith, omega arith)
int_some int.SChar = (omega arith, omega arith)
int_some int.UChar = (omega arith, omega arith)
int_some int.Short = (omega arith, omega arith)
int_some int.UShort = (omega arith, omega arith)
int_some int.Int = (omega arith, omega arith)
int_some int.UInt = (omega arith, omega arith)
int_some int.Long = (omega arith, omega arith)
int_some int.ULong = (omega arith, omega arith)

pub pointer_two : (sizes : List ℕ) (ty : Ty) → is_pointer ty ≡ true → 2 ≡ type_bytes sizes ty
pointer_two sizes types.Void e = absurd (cc)
pointer_two sizes (types.Int ty) e = absurd (cc)
pointer_two sizes (types.Pointer row) e = refl
pointer_two sizes (types.Array element length size) e = absurd (cc)
pointer_two sizes (types.Struct number) e = absurd (cc)

pub number_tested : (z : Scene) (ty : Ty) (q : _) → HasType z.program ty (datum.Number q) → IsTested z ty (datum.Number q)
number_tested z ty q h = let s = int_some q.ty in record { some = s.0; few = s.1; all = sym (ap (type_bytes z.program.sizes) h.0) }

pub pointer_tested : (z : Scene) (ty : Ty) (x : _) → HasType z.program ty (datum.Pointer x) → IsTested z ty (datum.Pointer x)
pointer_tested z ty x h = record { some = omega arith; few = omega arith; all = pointer_two z.program.sizes ty h.0 }

pub small_test : (n : ℕ) → n ≤ 4 → test_size n ≡ n
unfolding test_size
small_test n le = grind (arith, common_steps)

pub scalar_update : (z : Scene) (op : BinOp) (value operation : Ty) (size : ℕ) (ty : Ty) → IsUpdate z.program op value operation size ty → is_scalar ty ≡ true
scalar_update z op value operation size types.Void (inl e) = absurd (cc)
scalar_update z op value operation size (types.Int t) (inl e) = refl
scalar_update z op value operation size (types.Pointer row) (inl e) = refl
scalar_update z op value operation size (types.Array element length bytes) (inl e) = absurd (cc)
scalar_update z op value operation size (types.Struct number) (inl e) = absurd (cc)
scalar_update z op value operation size ty (inr h) = pointer_scalar ty (moves_rule z.program ty value size ty h.1).0
  where
    pointer_scalar : (t : Ty) → is_pointer t ≡ true → is_scalar t ≡ true
    pointer_scalar types.Void e = absurd (cc)
    pointer_scalar (types.Int i) e = absurd (cc)
    pointer_scalar (types.Pointer row) e = refl
    pointer_scalar (types.Array element length bytes) e = absurd (cc)
    pointer_scalar (types.Struct number) e = absurd (cc)

turn_low : (shape : LoopForm) → turn_cost shape ≤ turn_most shape
turn_low While = omega arith
turn_low Do = omega arith
turn_low For = omega arith

module _ (z : Scene) (given : IsLowerable z.program z.copies) (input : All (λ byte. byte < 256) z.outside.input) (laws : ValueLaws z) where
  -- a part's value fits in front of the temporary bytes of its node
  fits_in : (e part : Expression) (v : Datum) (k : List Pending) (cp : CopyOf) → base (ground_in z cp) k + room z.program.sizes e ≤ frame_of z cp → room z.program.sizes part ≤ room z.program.sizes e → IsExpressionOf z.program cp.function part → IsTested z (type_of part) v
      → base (ground_in z cp) k + byte_count v ≤ frame_of z cp
  fits_in e part v k cp fits less p t = let r = value_room z.program cp.function part p in let a = t.all in omega arith

  tests_all : (part : Expression) (v : Datum) (cp : CopyOf) → IsTested z (type_of part) v → test_size (value_width (ground_in z cp).layout part) ≡ byte_count v
  tests_all part v cp t =
      let few = t.few in
      let all = t.all in
      let w = width_is z cp (type_of part) (omega arith) in
      ap test_size w ∙ small_test (type_bytes z.program.sizes (type_of part)) (omega arith) ∙ sym all

  conditional_parts : (condition chosen otherwise : Expression) (ty : Ty) (line : ℕ) → room z.program.sizes condition ≤ room z.program.sizes (tree.Conditional condition chosen otherwise ty line)
  unfolding room
  conditional_parts condition chosen otherwise ty line = (three_parts (room z.program.sizes condition) (room z.program.sizes chosen) (room z.program.sizes otherwise)).0

  logical_parts : (op : LogicalOp) (left right : Expression) (line : ℕ) → (room z.program.sizes left ≤ room z.program.sizes (tree.Logical op left right line)) × (room z.program.sizes right ≤ room z.program.sizes (tree.Logical op left right line)) × (2 ≤ room z.program.sizes (tree.Logical op left right line))
  unfolding room
  logical_parts op left right line = three_parts (room z.program.sizes left) (room z.program.sizes right) 2

  conditional_on : (condition chosen otherwise : Expression) (ty : Ty) (line : ℕ) (v : Datum) (k : List Pending) (cp : CopyOf) (l : source.Memory) (w : World Byte) (c : Machine) → Known z (state cp (Holds v) (In (tree.Conditional condition chosen otherwise ty line) Nothing ∷ k) l w) → is_due (arrived z.outside w) ≡ false
      → HasType z.program (type_of condition) v → IsTested z (type_of condition) v → Mirrors z (state cp (Holds v) (In (tree.Conditional condition chosen otherwise ty line) Nothing ∷ k) l w) c → Led z (Holds v) (In (tree.Conditional condition chosen otherwise ty line) Nothing ∷ k) c (act (source_in z) (Holds v) (In (tree.Conditional condition chosen otherwise ty line) Nothing ∷ k) cp l (arrived z.outside w))
  unfolding act
  conditional_on condition chosen otherwise ty line v k cp l w c known due t tested h =
      let s = known.stands.stack.0 in
      let f = frame_is z given cp known.stands.reached in
      let fits = fits_in (tree.Conditional condition chosen otherwise ty line) condition v k cp known.stack.0 (conditional_parts condition chosen otherwise ty line) s.1 tested in
      let few = tested.few in
      led_by z _ _ (4 * byte_count v + 16) 1 c _ (omega arith) (omega arith) (conditional_given z (scene_laws z given) condition chosen otherwise ty line v (type_of condition) k cp l w c t tested.some (tests_all condition v cp tested) (omega arith) due h)

  logical_on : (op : LogicalOp) (left right : Expression) (line : ℕ) (v : Datum) (k : List Pending) (cp : CopyOf) (l : source.Memory) (w : World Byte) (c : Machine) → Known z (state cp (Holds v) (In (tree.Logical op left right line) Nothing ∷ k) l w) → is_due (arrived z.outside w) ≡ false
      → HasType z.program (type_of left) v → IsTested z (type_of left) v → Mirrors z (state cp (Holds v) (In (tree.Logical op left right line) Nothing ∷ k) l w) c → Led z (Holds v) (In (tree.Logical op left right line) Nothing ∷ k) c (act (source_in z) (Holds v) (In (tree.Logical op left right line) Nothing ∷ k) cp l (arrived z.outside w))
  unfolding act
  logical_on op left right line v k cp l w c known due t tested h =
      let s = known.stands.stack.0 in
      let f = frame_is z given cp known.stands.reached in
      let q = logical_parts op left right line in
      let two = q.2 in
      let room_is = known.stack.0 in
      let e = tree.Logical op left right line in
      let a = around_in z cp e Nothing k (around z given input (state cp (Holds v) (In e Nothing ∷ k) l w) known) in
      let fits = fits_in e left v k cp known.stack.0 q.0 s.1 tested in
      let all = tested.all in
      led_by z _ _ (4 * byte_count v + 28) 1 c _ (omega arith) (omega arith) (logical_left z (scene_laws z given) op left right line v (type_of left) k cp l w c a t tested.some (tests_all left v cp tested) (omega arith) (omega arith) due h)

  logical_end : (op : LogicalOp) (left right : Expression) (line : ℕ) (u v : Datum) (k : List Pending) (cp : CopyOf) (l : source.Memory) (w : World Byte) (c : Machine) → Known z (state cp (Holds v) (In (tree.Logical op left right line) (One u) ∷ k) l w) → is_due (arrived z.outside w) ≡ false
      → HasType z.program (type_of right) v → IsTested z (type_of right) v → Mirrors z (state cp (Holds v) (In (tree.Logical op left right line) (One u) ∷ k) l w) c → Led z (Holds v) (In (tree.Logical op left right line) (One u) ∷ k) c (act (source_in z) (Holds v) (In (tree.Logical op left right line) (One u) ∷ k) cp l (arrived z.outside w))
  unfolding act
  logical_end op left right line u v k cp l w c known due t tested h =
      let s = known.stands.stack.0 in
      let f = frame_is z given cp known.stands.reached in
      let q = logical_parts op left right line in
      let two = q.2 in
      let room_is = known.stack.0 in
      let e = tree.Logical op left right line in
      let a = around_in z cp e (One u) k (around z given input (state cp (Holds v) (In e (One u) ∷ k) l w) known) in
      let fits = fits_in e right v k cp known.stack.0 q.1 s.2 tested in
      let few = tested.few in
      led_by z _ _ (4 * byte_count v + 32) 1 c _ (omega arith) (omega arith) (logical_right z (scene_laws z given) op left right line u v (type_of right) k cp l w c a t tested.some (tests_all right v cp tested) (omega arith) (omega arith) due h)

  -- ---- a node takes a value
  nodes_take : (e : Expression) (got : Got) (v : Datum) (k : List Pending) → Law z (Holds v) (In e got ∷ k)
  unfolding act truth_of
  nodes_take (tree.Convert operand ty line) Nothing v k cp l w c known due h = laws.converts operand ty line v k cp l w c known due h
  nodes_take (tree.Cast operand ty line) Nothing v k cp l w c known due h = laws.casts operand ty line v k cp l w c known due h
  nodes_take (tree.Unary op operand ty line) Nothing v k cp l w c known due h = laws.unaries op operand ty line v k cp l w c known due h
  nodes_take (tree.Binary op left right ty line) Nothing v k cp l w c known due h = by (shifts_by_constant op right) refl
    where
      by : (b : Bool) → shifts_by_constant op right ≡ b → Led z (Holds v) (In (tree.Binary op left right ty line) Nothing ∷ k) c (act (source_in z) (Holds v) (In (tree.Binary op left right ty line) Nothing ∷ k) cp l (arrived z.outside w))
      by true is = laws.known_counts op left right ty line v k is cp l w c known due h
      by false is = led_by z _ _ 0 0 c _ (omega arith) (omega arith) (binary_left z op left right ty line v k cp l w c is h)
  nodes_take (tree.Binary op left right ty line) (One u) v k cp l w c known due h = laws.binaries op left right ty line u v k cp l w c known due h
  nodes_take (tree.Offset op left right size ty line) Nothing v k cp l w c known due h = led_by z _ _ 0 0 c _ (omega arith) (omega arith) (offset_left z op left right size ty line v k cp l w c h)
  nodes_take (tree.Offset op left right size ty line) (One u) v k cp l w c known due h = laws.offsets op left right size ty line u v k cp l w c known due h
  nodes_take (tree.Difference left right size line) Nothing v k cp l w c known due h = led_by z _ _ 0 0 c _ (omega arith) (omega arith) (difference_left z left right size line v k cp l w c h)
  nodes_take (tree.Difference left right size line) (One u) v k cp l w c known due h = laws.differences left right size line u v k cp l w c known due h
  nodes_take (tree.Logical op left right line) Nothing datum.Missing k cp l w c known due h = led_nowhere z _ _ c _ (λ q n. tt)
  nodes_take (tree.Logical op left right line) Nothing (datum.Number q) k cp l w c known due h =
      let f = known.stands.focus in
      let t = subst (λ y. HasType z.program y (datum.Number q)) f.1 f.2 in
      logical_on op left right line (datum.Number q) k cp l w c known due t (number_tested z (type_of left) q t) h
  nodes_take (tree.Logical op left right line) Nothing (datum.Pointer x) k cp l w c known due h =
      let f = known.stands.focus in
      let t = subst (λ y. HasType z.program y (datum.Pointer x)) f.1 f.2 in
      logical_on op left right line (datum.Pointer x) k cp l w c known due t (pointer_tested z (type_of left) x t) h
  nodes_take (tree.Logical op left right line) (One u) datum.Missing k cp l w c known due h = led_nowhere z _ _ c _ (λ q n. tt)
  nodes_take (tree.Logical op left right line) (One u) (datum.Number q) k cp l w c known due h =
      let f = known.stands.focus in
      let t = subst (λ y. HasType z.program y (datum.Number q)) f.1 f.2 in
      logical_end op left right line u (datum.Number q) k cp l w c known due t (number_tested z (type_of right) q t) h
  nodes_take (tree.Logical op left right line) (One u) (datum.Pointer x) k cp l w c known due h =
      let f = known.stands.focus in
      let t = subst (λ y. HasType z.program y (datum.Pointer x)) f.1 f.2 in
      logical_end op left right line u (datum.Pointer x) k cp l w c known due t (pointer_tested z (type_of right) x t) h
  nodes_take (tree.Conditional condition chosen otherwise ty line) Nothing datum.Missing k cp l w c known due h = led_nowhere z _ _ c _ (λ q n. tt)
  nodes_take (tree.Conditional condition chosen otherwise ty line) Nothing (datum.Number q) k cp l w c known due h =
      let f = known.stands.focus in
      let t = subst (λ y. HasType z.program y (datum.Number q)) f.1 f.2 in
      conditional_on condition chosen otherwise ty line (datum.Number q) k cp l w c known due t (number_tested z (type_of condition) q t) h
  nodes_take (tree.Conditional condition chosen otherwise ty line) Nothing (datum.Pointer x) k cp l w c known due h =
      let f = known.stands.focus in
      let t = subst (λ y. HasType z.program y (datum.Pointer x)) f.1 f.2 in
      conditional_on condition chosen otherwise ty line (datum.Pointer x) k cp l w c known due t (pointer_tested z (type_of condition) x t) h
  nodes_take (tree.Conditional condition chosen otherwise ty line) Chosen v k cp l w c known due h = led_by z _ _ 4 0 c _ (omega arith) (omega arith) (chosen_given z condition chosen otherwise ty line v k cp l w c due h)
  nodes_take (tree.Comma left right ty line) Nothing v k cp l w c known due h = led_by z _ _ 0 0 c _ (omega arith) (omega arith) (comma_left z left right ty line v k cp l w c h)
  nodes_take (tree.Assign place value ty line) (At spot) v k cp l w c known due h = led_by z _ _ 0 0 c _ (omega arith) (omega arith) (assign_given z place value ty line spot v k cp l w c h)
  nodes_take (tree.Update op place value operation size ty line) (At spot) v k cp l w c known due h =
      led_by z _ _ 0 0 c _ (omega arith) (omega arith) (update_given z op place value operation size ty line spot v k cp l w c (scalar_update z op (type_of value) operation size ty (update_rule z.program op place value operation size ty line known.stands.stack.0.0).1) h)
  nodes_take (tree.Update op place value operation size ty line) (AtWith spot u) v k cp l w c known due h = laws.updates op place value operation size ty line spot u v k cp l w c known due h
  nodes_take (tree.Step op place operation size ty line) (At spot) v k cp l w c known due h = laws.steps op place operation size ty line spot v k cp l w c known due h
  nodes_take (tree.Call function all ty line) (Args before more) v k cp l w c known due h = led_by z _ _ 0 0 c _ (omega arith) (omega arith) (argument_given z function all ty line before more v k cp l w c known.stands.stack.2 h)
  nodes_take _ _ v k cp l w c known due h = absurd known.stands.focus.1

  -- ---- a statement takes a value
  arm_part : (condition : Expression) (chosen : Statement) (line : ℕ) → room z.program.sizes condition ≤ arm_room z.program.sizes (tree.OneArm condition chosen line)
  unfolding statement_room
  arm_part condition chosen line = (two_parts (room z.program.sizes condition) (statement_room z.program.sizes chosen)).0

  loop_part : (shape : LoopForm) (begins : Option Expression) (condition : Expression) (step : Option Expression) (body : Statement) (line : ℕ) → room z.program.sizes condition ≤ statement_room z.program.sizes (tree.Loop shape begins (Some condition) step body line)
  unfolding statement_room
  loop_part shape begins condition step body line =
      let s = z.program.sizes in
      let a = (two_parts (any_room s begins) (max (room s condition) (max (any_room s step) (statement_room s body)))).1 in
      let b = (three_parts (room s condition) (any_room s step) (statement_room s body)).0 in
      omega arith

  if_on : (chain : Arms) (otherwise : LastArm) (line : ℕ) (condition : Expression) (chosen : Statement) (at : ℕ) (more : Arms) (v : Datum) (k : List Pending) (cp : CopyOf) (l : source.Memory) (w : World Byte) (c : Machine)
      → Known z (state cp (Holds v) (Doing (tree.If chain otherwise line) (Picks (tree.OneArm condition chosen at) more) ∷ k) l w) → is_due (arrived z.outside w) ≡ false → HasType z.program (type_of condition) v → IsTested z (type_of condition) v
      → Mirrors z (state cp (Holds v) (Doing (tree.If chain otherwise line) (Picks (tree.OneArm condition chosen at) more) ∷ k) l w) c → Led z (Holds v) (Doing (tree.If chain otherwise line) (Picks (tree.OneArm condition chosen at) more) ∷ k) c (act (source_in z) (Holds v) (Doing (tree.If chain otherwise line) (Picks (tree.OneArm condition chosen at) more) ∷ k) cp l (arrived z.outside w))
  unfolding act
  if_on chain otherwise line condition chosen at more v k cp l w c known due t tested h =
      let p = known.stands.stack.2.0.0.1 in
      let f = frame_is z given cp known.stands.reached in
      let room_is = known.stack.1.0 in
      let part = arm_part condition chosen at in
      let r = value_room z.program cp.function condition p in
      let a = tested.all in
      led_by z _ _ (4 * byte_count v + 16 + end_joins chain more otherwise) 1 c _ (omega arith) (omega arith) (if_given z (scene_laws z given) chain otherwise line condition chosen at more v (type_of condition) k cp l w c known.stack.1.4 t tested.some (tests_all condition v cp tested) (omega arith) due h)

  test_on : (shape : LoopForm) (begins : Option Expression) (condition : Expression) (step : Option Expression) (body : Statement) (line : ℕ) (v : Datum) (k : List Pending) (cp : CopyOf) (l : source.Memory) (w : World Byte) (c : Machine)
      → Known z (state cp (Holds v) (Doing (tree.Loop shape begins (Some condition) step body line) Tests ∷ k) l w) → is_due (arrived z.outside w) ≡ false → HasType z.program (type_of condition) v → IsTested z (type_of condition) v
      → Mirrors z (state cp (Holds v) (Doing (tree.Loop shape begins (Some condition) step body line) Tests ∷ k) l w) c → Led z (Holds v) (Doing (tree.Loop shape begins (Some condition) step body line) Tests ∷ k) c (act (source_in z) (Holds v) (Doing (tree.Loop shape begins (Some condition) step body line) Tests ∷ k) cp l (arrived z.outside w))
  unfolding act
  test_on shape begins condition step body line v k cp l w c known due t tested h =
      let p = known.stands.stack.0.1.1 in
      let f = frame_is z given cp known.stands.reached in
      let room_is = known.stack.0.0 in
      let part = loop_part shape begins condition step body line in
      let r = value_room z.program cp.function condition p in
      let a = tested.all in
      let turns = turn_low shape in
      led_by z _ _ (4 * byte_count v + (20 + turn_cost shape)) 1 c _ (omega arith) (omega arith) (test_given z (scene_laws z given) shape begins condition step body line v (type_of condition) k cp l w c t tested.some (tests_all condition v cp tested) (omega arith) due h)

  -- only a `for` waits for what comes before its condition or behind its body
  none_there : (o : Option Expression) (ty : Ty) → o ≡ None → IsTypeOfAny o ty → ⊥
  none_there None ty e h = h
  none_there (Some x) ty e h = cc

  begins_on : (shape : LoopForm) (begins condition step : Option Expression) (body : Statement) (line : ℕ) (v : Datum) (k : List Pending) → Law z (Holds v) (Doing (tree.Loop shape begins condition step body line) Begins ∷ k)
  unfolding act
  begins_on While begins condition step body line v k cp l w c known due h = absurd (none_there begins known.stands.focus.0 known.stack.0.1.0.0 known.stands.focus.1)
  begins_on Do begins condition step body line v k cp l w c known due h = absurd (none_there begins known.stands.focus.0 known.stack.0.1.0.0 known.stands.focus.1)
  begins_on For begins condition step body line v k cp l w c known due h = led_by z _ _ 0 0 c _ (omega arith) (omega arith) (begins_given z begins condition step body line v k cp l w c due h)

  steps_on : (shape : LoopForm) (begins condition step : Option Expression) (body : Statement) (line : ℕ) (v : Datum) (k : List Pending) → Law z (Holds v) (Doing (tree.Loop shape begins condition step body line) Steps ∷ k)
  unfolding act
  steps_on While begins condition step body line v k cp l w c known due h = absurd (none_there step known.stands.focus.0 known.stack.0.1.0.1 known.stands.focus.1)
  steps_on Do begins condition step body line v k cp l w c known due h = absurd (none_there step known.stands.focus.0 known.stack.0.1.0.1 known.stands.focus.1)
  steps_on For begins condition step body line v k cp l w c known due h = led_by z _ _ 4 1 c _ (omega arith) (omega arith) (steps_given z begins condition step body line v k cp l w c due h)

  statements_take : (t : Statement) (stage : Stage) (v : Datum) (k : List Pending) → Law z (Holds v) (Doing t stage ∷ k)
  unfolding act truth_of
  statements_take (tree.Expr e line) Tests v k cp l w c known due h = led_by z _ _ 0 0 c _ (omega arith) (omega arith) (expression_given z e line v k cp l w c h)
  statements_take (tree.InitScalar local e line) Tests v k cp l w c known due h = led_by z _ _ 0 0 c _ (omega arith) (omega arith) (scalar_given z local e line v k cp l w c h)
  statements_take (tree.InitList local all line) (AtItem (tree.Scalar offset e) rest) v k cp l w c known due h =
      led_by z _ _ 0 0 c _ (omega arith) (omega arith) (item_given z local all line k cp (listed_of z (scene_laws z given) cp local all known.stands.reached known.stands.stack.0.1).size offset e rest v l w c h)
  statements_take (tree.If chain otherwise line) (Picks (tree.OneArm condition chosen at) more) datum.Missing k cp l w c known due h = led_nowhere z _ _ c _ (λ q n. tt)
  statements_take (tree.If chain otherwise line) (Picks (tree.OneArm condition chosen at) more) (datum.Number q) k cp l w c known due h =
      let f = known.stands.focus in
      let t = subst (λ y. HasType z.program y (datum.Number q)) f.1 f.2 in
      if_on chain otherwise line condition chosen at more (datum.Number q) k cp l w c known due t (number_tested z (type_of condition) q t) h
  statements_take (tree.If chain otherwise line) (Picks (tree.OneArm condition chosen at) more) (datum.Pointer x) k cp l w c known due h =
      let f = known.stands.focus in
      let t = subst (λ y. HasType z.program y (datum.Pointer x)) f.1 f.2 in
      if_on chain otherwise line condition chosen at more (datum.Pointer x) k cp l w c known due t (pointer_tested z (type_of condition) x t) h
  statements_take (tree.Loop shape begins condition step body line) Begins v k cp l w c known due h = begins_on shape begins condition step body line v k cp l w c known due h
  statements_take (tree.Loop shape begins condition step body line) Steps v k cp l w c known due h = steps_on shape begins condition step body line v k cp l w c known due h
  statements_take (tree.Loop shape begins None step body line) Tests v k cp l w c known due h = absurd known.stands.focus.1
  statements_take (tree.Loop shape begins (Some condition) step body line) Tests datum.Missing k cp l w c known due h = led_nowhere z _ _ c _ (λ q n. tt)
  statements_take (tree.Loop shape begins (Some condition) step body line) Tests (datum.Number q) k cp l w c known due h =
      let f = known.stands.focus in
      let t = subst (λ y. HasType z.program y (datum.Number q)) f.1 f.2 in
      test_on shape begins condition step body line (datum.Number q) k cp l w c known due t (number_tested z (type_of condition) q t) h
  statements_take (tree.Loop shape begins (Some condition) step body line) Tests (datum.Pointer x) k cp l w c known due h =
      let f = known.stands.focus in
      let t = subst (λ y. HasType z.program y (datum.Pointer x)) f.1 f.2 in
      test_on shape begins condition step body line (datum.Pointer x) k cp l w c known due t (pointer_tested z (type_of condition) x t) h
  statements_take (tree.Switch e cases default ss line) Tests v k cp l w c known due h = led_by z _ _ 0 0 c _ (omega arith) (omega arith) (switch_given z e cases default ss line k cp l v w c due h)
  statements_take (tree.Return (Some e) line) Tests v k cp l w c known due h = laws.returns e line v k cp l w c known due h
  statements_take (tree.Return None line) Tests v k cp l w c known due h = absurd known.stands.focus.1
  statements_take _ _ v k cp l w c known due h = absurd known.stands.focus.1

  places_take : (place : Place) (v : Datum) (k : List Pending) → Law z (Holds v) (To place ∷ k)
  unfolding act
  places_take (tree.Deref pointer ty line) v k cp l w c known due h = led_by z _ _ 0 0 c _ (omega arith) (omega arith) (deref_given z pointer ty line v k cp l w c known.stands.stack.1 h)
  places_take _ v k cp l w c known due h = absurd known.stands.focus.1

  -- A value goes to the frame that waits for it.
  pub values : (v : Datum) (k : List Pending) → Law z (Holds v) k
  values v [] cp l w c known due h = absurd known.stands.focus.1
  values v (In e got ∷ k) cp l w c known due h = nodes_take e got v k cp l w c known due h
  values v (To place ∷ k) cp l w c known due h = places_take place v k cp l w c known due h
  values v (Doing t stage ∷ k) cp l w c known due h = statements_take t stage v k cp l w c known due h
  values v (Before ss ∷ k) cp l w c known due h = absurd known.stands.focus.1
  values v (Returns d ∷ k) cp l w c known due h = absurd known.stands.focus.1
  values v (Resumes d x ∷ k) cp l w c known due h = absurd known.stands.focus.1

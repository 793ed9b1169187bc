-- The laws of places that were found, put together.
use Rattle.std.proofs.Common.{◌≡◌, ℕ, ◌<◌, inl, inr, Bool, true, false, List, [], ◌∷◌, refl, ap, ◌∙◌, subst, arith}
use Rattle.std.specs.List.{All}
use Rattle.c_ints.specs.declared.operators.BinOp.{BinOp}
use Rattle.c_typed.specs.Room.{place_room, room}
use Rattle.c_typed.specs.Sameness.{is_pointer, is_scalar}
use Rattle.c_typed.specs.Trees as tree
use Rattle.c_typed.specs.Trees.{Expression, Place, Statement}
use Rattle.c_typed.specs.Types.{form_of, place_bytes, type_bytes}
use Rattle.c_typed.specs.declared.expression.StepOp.{StepOp}
use Rattle.c_typed.specs.declared.types.Ty.{Ty}
use Rattle.c_typed.specs.declared.types.Ty.TheVariants as types
use Rattle.lower_expr.specs.Lowering.{shifts_by_constant}
use Rattle.lower_expr.specs.Spots.{pointer_bytes}
use Rattle.src_rules.proofs.Places.{spot_there}
use Rattle.src_rules.proofs.Rules.{IsStep, step_rule}
use Rattle.src_rules.specs.Standing.{IsSpotOf}
use Rattle.src_rules.specs.State.{state}
use Rattle.src_rules.specs.Step.{act}
use Rattle.src_values.specs.Control.{Found, Got, Nothing, At, Stage, AtItem, Pending, In, To, Doing, Before, Returns, Resumes}
use Rattle.src_values.specs.declared.objects.Spot.{Spot}
use Rattle.src_values.specs.declared.objects.Spot.TheVariants as spots
use Rattle.lower_trace.specs.Lowering.{IsLowerable}
use Rattle.lower_trace.proofs.CodeLeft.{Scene, base, ground_in, number}
use Rattle.lower_trace.proofs.Fitting.{pointer_at, step_operation, width_is}
use Rattle.lower_trace.proofs.Increments.{found_step}
use Rattle.lower_trace.proofs.Known.{around, front, small, resumables}
use Rattle.lower_trace.proofs.Leads.{Law, led_by, led_nowhere}
use Rattle.lower_trace.proofs.LedCopies.{structures, list_structures}
use Rattle.lower_trace.proofs.LedValues.{around_in}
use Rattle.lower_trace.proofs.MemberPlaces.{found_member}
use Rattle.lower_trace.proofs.Members.{found_struct, found_update}
use Rattle.lower_trace.proofs.Places.{found_assign, found_read}
use Rattle.lower_trace.proofs.Rooms.{computed_room, pointer_is, update_parts}
use Rattle.lower_trace.proofs.Scenes.{frame_is, scene_laws}

-- The laws of the other frames for which places are found.
pub record PlaceLaws (z : Scene) : Type 0 where
  -- a structure, or nothing, is read for nothing
  pub skims : (place : Place) (ty : Ty) (line : ℕ) (spot : Spot) (k : List Pending) → is_scalar ty ≡ false → Law z (Found spot) (In (tree.Read place ty line) Nothing ∷ k)
  pub addresses : (place : Place) (ty : Ty) (line : ℕ) (spot : Spot) (k : List Pending) → Law z (Found spot) (In (tree.Address place ty line) Nothing ∷ k)
  pub known_counts : (op : BinOp) (place : Place) (value : Expression) (operation : Ty) (size : ℕ) (ty : Ty) (line : ℕ) (spot : Spot) (k : List Pending) → shifts_by_constant op value ≡ true → Law z (Found spot) (In (tree.Update op place value operation size ty line) Nothing ∷ k)

pub step_scalar : (z : Scene) (operation ty : Ty) → IsStep z.program operation ty → is_scalar ty ≡ true
step_scalar z operation types.Void (inl e) = absurd (cc)
step_scalar z operation (types.Int t) (inl e) = refl
step_scalar z operation (types.Pointer row) (inl e) = refl
step_scalar z operation (types.Array element length bytes) (inl e) = absurd (cc)
step_scalar z operation (types.Struct number) (inl e) = absurd (cc)
step_scalar z operation ty (inr h) = pointer_scalar ty h.1
  where
    pointer_scalar : (t : Ty) → is_pointer t ≡ true → is_scalar t ≡ true
    pointer_scalar types.Void e = absurd (cc)
    pointer_scalar (types.Int i) e = absurd (cc)
    pointer_scalar (types.Pointer row) e = refl
    pointer_scalar (types.Array element length bytes) e = absurd (cc)
    pointer_scalar (types.Struct number) e = absurd (cc)

module _ (z : Scene) (given : IsLowerable z.program z.copies) (input : All (λ byte. byte < 256) z.outside.input) (laws : PlaceLaws z) where
  reads_found : (scalar : Bool) (place : Place) (ty : Ty) (line : ℕ) (spot : Spot) (k : List Pending) → is_scalar ty ≡ scalar → Law z (Found spot) (In (tree.Read place ty line) Nothing ∷ k)
  unfolding act
  reads_found true place ty line spot k is cp l w c known due h =
      let b = front z given input (state cp (Found spot) (In (tree.Read place ty line) Nothing ∷ k) l w) known in
      led_by z _ _ 0 0 c _ (omega arith) (omega arith) (found_read z (scene_laws z given) place ty line spot k cp l w c (omega arith) is h)
  reads_found false place ty line spot k is cp l w c known due h = laws.skims place ty line spot k is cp l w c known due h

  updates_found : (constant : Bool) (op : BinOp) (place : Place) (value : Expression) (operation : Ty) (size : ℕ) (ty : Ty) (line : ℕ) (spot : Spot) (k : List Pending) → shifts_by_constant op value ≡ constant → Law z (Found spot) (In (tree.Update op place value operation size ty line) Nothing ∷ k)
  unfolding act
  updates_found true op place value operation size ty line spot k is cp l w c known due h = laws.known_counts op place value operation size ty line spot k is cp l w c known due h
  updates_found false op place value operation size ty line spot k is cp l w c known due h = led_by z _ _ 0 0 c _ (omega arith) (omega arith) (found_update z (scene_laws z given) op place value operation size ty line spot k cp l w c is h)

  steps_found : (op : StepOp) (place : Place) (operation : Ty) (size : ℕ) (ty : Ty) (line : ℕ) (spot : Spot) (k : List Pending) → Law z (Found spot) (In (tree.Step op place operation size ty line) Nothing ∷ k)
  unfolding act room
  steps_found op place operation size ty line spot k cp l w c known due h =
      let e = tree.Step op place operation size ty line in
      let s = z.program.sizes in
      let g = ground_in z cp in
      let r = step_rule z.program op place operation size ty line known.stands.stack.0.0 in
      let less = small z given input cp known.stands.reached in
      let f = frame_is z given cp known.stands.reached in
      let o = step_operation z cp less operation ty r.1 in
      let o0 = o.0 in
      let o1 = o.1 in
      let fits = known.stack.0 in
      let q = (update_parts (place_room s place) (form_of place) (place_bytes s place) 2 2 (type_bytes s operation)).2 in
      let pb = pointer_is g.layout g.copy place in
      let wide = width_is z cp operation (omega arith) in
      let at = pointer_at z cp less (base g k) place (omega arith) in
      led_by z _ _ 16 0 c _ (omega arith) (omega arith) (found_step z (scene_laws z given) op place operation size ty line spot k cp l w c (step_scalar z operation ty r.1) (around_in z cp e Nothing k (around z given input (state cp (Found spot) (In e Nothing ∷ k) l w) known)) (wide ∙ o0) at (omega arith) due h)

  nodes_found : (e : Expression) (got : Got) (spot : Spot) (k : List Pending) → Law z (Found spot) (In e got ∷ k)
  unfolding act
  nodes_found (tree.Read place ty line) Nothing spot k cp l w c known due h = reads_found (is_scalar ty) place ty line spot k refl cp l w c known due h
  nodes_found (tree.Address place ty line) Nothing spot k cp l w c known due h = laws.addresses place ty line spot k cp l w c known due h
  nodes_found (tree.Assign place value ty line) Nothing spot k cp l w c known due h = led_by z _ _ 0 0 c _ (omega arith) (omega arith) (found_assign z (scene_laws z given) place value ty line spot k cp l w c h)
  nodes_found (tree.StructAssign place from size line) Nothing spot k cp l w c known due h = led_by z _ _ 0 0 c _ (omega arith) (omega arith) (found_struct z (scene_laws z given) place from size line spot k cp l w c h)
  nodes_found (tree.StructAssign place from size line) (At to) spot k cp l w c known due h = structures z given input place from size line to spot k cp l w c known due h
  nodes_found (tree.Update op place value operation size ty line) Nothing spot k cp l w c known due h = updates_found (shifts_by_constant op value) op place value operation size ty line spot k refl cp l w c known due h
  nodes_found (tree.Step op place operation size ty line) Nothing spot k cp l w c known due h = steps_found op place operation size ty line spot k cp l w c known due h
  nodes_found _ _ spot k cp l w c known due h = absurd known.stands.focus.1

  -- a member is found in its structure
  members_found : (place : Place) (spot : Spot) (k : List Pending) → Law z (Found spot) (To place ∷ k)
  unfolding act room
  members_found (tree.Member whole member offset ty line) (spots.Memory x) k cp l w c known due h =
      let t = state cp (Found (spots.Memory x)) (To (tree.Member whole member offset ty line) ∷ k) l w in
      let a = around z given input t known in
      let s = known.stands in
      let place_is = s.stack.0 in
      let f = frame_is z given cp s.reached in
      let fits = known.stack.0 in
      let found = s.focus in
      let at = subst (λ y. IsSpotOf z.program cp y (spots.Memory x)) found.1 found.2 in
      let computed = computed_room z.program cp.function whole place_is.1 in
      let g = ground_in z cp in
      let pb = pointer_is g.layout g.copy whole in
      led_by z _ _ 28 0 c _ (omega arith) (omega arith)
      (found_member z (scene_laws z given) whole member offset ty line x k cp l w c (record { reached = a.reached; apart = a.apart; mains = a.mains; piled = a.piled }) (resumables z t known) s.stack.1
      (spot_there z.program cp whole (spots.Memory x) s.reached place_is.1 at)
      (λ is. let two = ap pointer_bytes is in omega arith) due h)
  members_found (tree.Member whole member offset ty line) (spots.Device address) k cp l w c known due h = led_nowhere z _ _ c _ (λ q l. tt)
  members_found (tree.Member whole member offset ty line) (spots.Bit register bit) k cp l w c known due h = led_nowhere z _ _ c _ (λ q l. tt)
  members_found _ spot k cp l w c known due h = absurd known.stands.focus.1

  statements_found : (t : Statement) (stage : Stage) (spot : Spot) (k : List Pending) → Law z (Found spot) (Doing t stage ∷ k)
  statements_found (tree.InitList local all line) (AtItem item rest) spot k cp l w c known due h = list_structures z given input local all line item rest spot k cp l w c known due h
  statements_found _ _ spot k cp l w c known due h = absurd known.stands.focus.1

  -- A place goes to the frame that waits for it.
  pub places : (spot : Spot) (k : List Pending) → Law z (Found spot) k
  places spot [] cp l w c known due h = absurd known.stands.focus.1
  places spot (In e got ∷ k) cp l w c known due h = nodes_found e got spot k cp l w c known due h
  places spot (To place ∷ k) cp l w c known due h = members_found place spot k cp l w c known due h
  places spot (Doing t stage ∷ k) cp l w c known due h = statements_found t stage spot k cp l w c known due h
  places spot (Before ss ∷ k) cp l w c known due h = absurd known.stands.focus.1
  places spot (Returns d ∷ k) cp l w c known due h = absurd known.stands.focus.1
  places spot (Resumes d x ∷ k) cp l w c known due h = absurd known.stands.focus.1

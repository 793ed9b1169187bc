-- The laws of structures that are read for nothing, put together.
use Rattle.std.proofs.Common.{◌≡◌, ℕ, ◌+◌, ◌*◌, ◌<◌, true, false, List, ◌∷◌, Option, refl, sym, ap, ◌∙◌, subst, arith}
use Rattle.std.specs.List.{All}
use Rattle.c_typed.specs.Room.{place_room, room}
use Rattle.c_typed.specs.Sameness.{is_struct}
use Rattle.c_typed.specs.Trees as tree
use Rattle.c_typed.specs.Trees.{Place}
use Rattle.c_typed.specs.Types.{form_of, type_bytes}
use Rattle.c_typed.specs.declared.types.Ty.TheVariants as types
use Rattle.core_code.specs.Machine.{Machine}
use Rattle.lower_expr.specs.Spots.{pointer_bytes, spot_of}
use Rattle.lower_expr.specs.declared.places.Spot as place
use Rattle.lower_expr.specs.declared.places.Spot.TheVariants.{Fixed, Bit, Computed}
use Rattle.pic_world.specs.World.{World, arrived, is_due}
use Rattle.src_rules.proofs.Places.{spot_there}
use Rattle.src_rules.proofs.Rules.{read_rule}
use Rattle.src_rules.specs.Standing.{IsSpotOf, stepped}
use Rattle.src_rules.specs.State.{state}
use Rattle.src_rules.specs.Step.{act}
use Rattle.src_values.specs.Control.{Found, Skim, Nothing, At, Pending, In}
use Rattle.src_values.specs.Memory as source
use Rattle.src_values.specs.declared.objects.Byte.{Byte}
use Rattle.src_values.specs.declared.objects.CopyOf.{CopyOf}
use Rattle.src_values.specs.declared.objects.Pointer.{Pointer}
use Rattle.src_values.specs.declared.objects.Spot.{Spot}
use Rattle.src_values.specs.declared.objects.Spot.TheVariants as spots
use Rattle.lower_trace.specs.Lowering.{IsLowerable}
use Rattle.lower_trace.proofs.CodeLeft.{Scene, ground_in, number, source_in}
use Rattle.lower_trace.proofs.CopyEnds.{struct_object}
use Rattle.lower_trace.proofs.CopyNodes.{IsObject}
use Rattle.lower_trace.proofs.Costs.{skimmed_cost}
use Rattle.lower_trace.proofs.Fitting.{width_is}
use Rattle.lower_trace.proofs.Known.{Known, around, front, reaches, small}
use Rattle.lower_trace.proofs.Leads.{Led, Law, led_by}
use Rattle.lower_trace.proofs.LedFetches.{memory_no_bit}
use Rattle.lower_trace.proofs.LedValues.{around_in}
use Rattle.lower_trace.proofs.Mirrors.{Mirrors}
use Rattle.lower_trace.proofs.PriceTests.{pointed_room, skim_room}
use Rattle.lower_trace.proofs.Prices.{some_left}
use Rattle.lower_trace.proofs.Rooms.{pointer_is, read_parts, value_room}
use Rattle.lower_trace.proofs.Scenes.{frame_is, scene_laws}
use Rattle.lower_trace.proofs.Skims.{skim_begins, skim_fixed, skim_pointed}

module _ (z : Scene) (given : IsLowerable z.program z.copies) (input : All (λ byte. byte < 256) z.outside.input) where
  skims_on : (place : Place) (number line : ℕ) (spot : Spot) (k : List Pending) → IsObject spot → Law z (Found spot) (In (tree.Read place (types.Struct number) line) Nothing ∷ k)
  unfolding act
  skims_on place number line (spots.Memory x) k object cp l w c known due h =
      let e = tree.Read place (types.Struct number) line in
      let s = known.stands in
      let at = subst (λ y. IsSpotOf z.program cp y (spots.Memory x)) s.focus.1 s.focus.2 in
      let b = front z given input (state cp (Found (spots.Memory x)) (In e Nothing ∷ k) l w) known in
      let less = small z given input cp s.reached in
      let fits = known.stack.0 in
      let value = value_room z.program cp.function e s.stack.0 in
      led_by z _ _ 0 0 c _ (omega arith) (omega arith)
      (skim_begins z (scene_laws z given) cp l place (types.Struct number) line (spots.Memory x) k (λ r n is. memory_no_bit z cp place x r n at is) (spots.Memory x) number w c refl refl
      (width_is z cp (types.Struct number) (omega arith)) (omega arith) h)
  skims_on place number line (spots.Device a) k object cp l w c known due h = absurd object
  skims_on place number line (spots.Bit r n) k object cp l w c known due h = absurd object

  pub structures_found : (place : Place) (number line : ℕ) (spot : Spot) (k : List Pending) → Law z (Found spot) (In (tree.Read place (types.Struct number) line) Nothing ∷ k)
  structures_found place number line spot k cp l w c known due h =
      let s = known.stands in
      let e = s.stack.0 in
      let rule = read_rule z.program place (types.Struct number) line e.0 in
      let at = subst (λ y. IsSpotOf z.program cp y spot) s.focus.1 s.focus.2 in
      skims_on place number line spot k (struct_object z cp place spot e.1 (subst (λ t. is_struct t ≡ true) (sym rule.0) refl) at) cp l w c known due h

  -- ---- its bytes
  skim_case : (s : place.Spot) (x : Pointer) (sought : Place) (number line done left : ℕ) (byte : Option Byte) (k : List Pending) (cp : CopyOf) (l : source.Memory) (w : World Byte) (c : Machine) → spot_of (ground_in z cp).layout (ground_in z cp).copy sought ≡ s → done + left ≡ type_bytes z.program.sizes (types.Struct number) → 0 < type_bytes z.program.sizes (types.Struct number)
      → Known z (state cp (Skim (stepped done (spots.Memory x)) left byte) (In (tree.Read sought (types.Struct number) line) (At (spots.Memory x)) ∷ k) l w) → is_due (arrived z.outside w) ≡ false → Mirrors z (state cp (Skim (stepped done (spots.Memory x)) left byte) (In (tree.Read sought (types.Struct number) line) (At (spots.Memory x)) ∷ k) l w) c
      → Led z (Skim (stepped done (spots.Memory x)) left byte) (In (tree.Read sought (types.Struct number) line) (At (spots.Memory x)) ∷ k) c (act (source_in z) (Skim (stepped done (spots.Memory x)) left byte) (In (tree.Read sought (types.Struct number) line) (At (spots.Memory x)) ∷ k) cp l (arrived z.outside w))
  unfolding act room
  skim_case (Fixed from) x sought number line done left byte k cp l w c is all some known due h =
      let e = tree.Read sought (types.Struct number) line in
      let t = state cp (Skim (stepped done (spots.Memory x)) left byte) (In e (At (spots.Memory x)) ∷ k) l w in
      let s = known.stands in
      let st = s.stack in
      let sizes = z.program.sizes in
      let n = type_bytes sizes (types.Struct number) in
      let less = small z given input cp s.reached in
      let f = frame_is z given cp s.reached in
      let fits = known.stack.0 in
      let q = (read_parts (place_room sizes sought) (form_of sought) n).1 in
      led_by z _ _ 6 (some_left left) c _ (skim_room sizes sought (types.Struct number) line (At (spots.Memory x)) k left 6 some (omega arith) (omega arith)) (omega arith)
      (skim_fixed z (scene_laws z given) cp l sought (types.Struct number) line (spots.Memory x) k (λ r i bit. memory_no_bit z cp sought x r i st.2 bit) from done left byte w c
      (record { spot = is; there = st.0.1; found = st.2; one = λ a e. absurd (cc) }) (around z given input t known) (width_is z cp (types.Struct number) (omega arith)) (omega arith) (omega arith) all due h)
  skim_case (Bit r i) x sought number line done left byte k cp l w c is all some known due h = absurd (memory_no_bit z cp sought x r i known.stands.stack.2 is)
  skim_case Computed x sought number line done left byte k cp l w c is all some known due h =
      let e = tree.Read sought (types.Struct number) line in
      let t = state cp (Skim (stepped done (spots.Memory x)) left byte) (In e (At (spots.Memory x)) ∷ k) l w in
      let s = known.stands in
      let st = s.stack in
      let sizes = z.program.sizes in
      let n = type_bytes sizes (types.Struct number) in
      let less = small z given input cp s.reached in
      let f = frame_is z given cp s.reached in
      let fits = known.stack.0 in
      let q = (read_parts (place_room sizes sought) (form_of sought) n).1 in
      let p = pointer_is (ground_in z cp).layout (ground_in z cp).copy sought in
      let two = ap pointer_bytes is in
      let a = around z given input t known in
      led_by z _ _ (skimmed_cost n left) (some_left left) c _ (pointed_room sizes sought (types.Struct number) line (At (spots.Memory x)) k left some) (omega arith)
      (skim_pointed z (scene_laws z given) cp l sought (types.Struct number) line (spots.Memory x) k (λ r i bit. memory_no_bit z cp sought x r i st.2 bit) x done left byte w c refl is
      (spot_there z.program cp sought (spots.Memory x) s.reached st.0.1 st.2) some a (around_in z cp e (At (spots.Memory x)) k a) (reaches z given input t known) (width_is z cp (types.Struct number) (omega arith)) (omega arith) all due h)

  skim_at : (start : Spot) (sought : Place) (number line done left : ℕ) (byte : Option Byte) (k : List Pending) (cp : CopyOf) (l : source.Memory) (w : World Byte) (c : Machine) → IsObject start → done + left ≡ type_bytes z.program.sizes (types.Struct number) → 0 < type_bytes z.program.sizes (types.Struct number)
      → Known z (state cp (Skim (stepped done start) left byte) (In (tree.Read sought (types.Struct number) line) (At start) ∷ k) l w) → is_due (arrived z.outside w) ≡ false → Mirrors z (state cp (Skim (stepped done start) left byte) (In (tree.Read sought (types.Struct number) line) (At start) ∷ k) l w) c
      → Led z (Skim (stepped done start) left byte) (In (tree.Read sought (types.Struct number) line) (At start) ∷ k) c (act (source_in z) (Skim (stepped done start) left byte) (In (tree.Read sought (types.Struct number) line) (At start) ∷ k) cp l (arrived z.outside w))
  skim_at (spots.Memory x) sought number line done left byte k cp l w c object all some known due h = skim_case (spot_of (ground_in z cp).layout (ground_in z cp).copy sought) x sought number line done left byte k cp l w c refl all some known due h
  skim_at (spots.Device a) sought number line done left byte k cp l w c object all some known due h = absurd object
  skim_at (spots.Bit r i) sought number line done left byte k cp l w c object all some known due h = absurd object

  -- A byte of a structure is read for nothing, or what follows the last one.
  pub structures_skimmed : (sought : Place) (number line : ℕ) (start spot : Spot) (left : ℕ) (byte : Option Byte) (k : List Pending) → 0 < type_bytes z.program.sizes (types.Struct number) → Law z (Skim spot left byte) (In (tree.Read sought (types.Struct number) line) (At start) ∷ k)
  structures_skimmed sought number line start spot left byte k some cp l w c known due h =
      let K = In (tree.Read sought (types.Struct number) line) (At start) ∷ k in
      let s = known.stands in
      let f = s.focus in
      let e = s.stack.0 in
      let rule = read_rule z.program sought (types.Struct number) line e.0 in
      let object = struct_object z cp sought start e.1 (subst (λ t. is_struct t ≡ true) (sym rule.0) refl) s.stack.2 in
      let at : spot ≡ stepped f.done start = f.at ∙ ap (stepped f.done) f.node in
      subst (λ y. Led z (Skim y left byte) K c (act (source_in z) (Skim y left byte) K cp l (arrived z.outside w))) (sym at)
      (skim_at start sought number line f.done left byte k cp l w c object f.all some (subst (λ y. Known z (state cp (Skim y left byte) K l w)) at known) due (subst (λ y. Mirrors z (state cp (Skim y left byte) K l w) c) at h))

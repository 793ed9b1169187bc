-- The law of the bytes of a local that begins with a value, put together.
use Rattle.std.proofs.Common.{◌≡◌, ℕ, ◌<◌, List, ◌∷◌, false, nat_lt, sym, ap, ◌∙◌, subst, arith}
use Rattle.std.specs.List.{All}
use Rattle.c_typed.specs.Room.{room, statement_room}
use Rattle.c_typed.specs.Trees as tree
use Rattle.c_typed.specs.Trees.{Expression}
use Rattle.c_typed.specs.Types.{type_of, value_bytes}
use Rattle.c_typed.specs.declared.expression.PlaceForm.TheVariants as forms
use Rattle.core_code.specs.Machine.{Machine}
use Rattle.pic_world.specs.World.{World, arrived, is_due}
use Rattle.src_rules.specs.Accesses.{write}
use Rattle.src_rules.specs.Standing.{HasType, stepped}
use Rattle.src_rules.specs.State.{state}
use Rattle.src_rules.specs.Step.{act}
use Rattle.src_values.specs.Control.{Write, Fills, Pending, Doing}
use Rattle.src_values.specs.Data as datum
use Rattle.src_values.specs.Data.{Datum}
use Rattle.src_values.specs.Memory as source
use Rattle.src_values.specs.Objects.{behind, local_of}
use Rattle.src_values.specs.Values.{byte_count, written_bytes}
use Rattle.src_values.specs.declared.objects.Byte.{Byte}
use Rattle.src_values.specs.declared.objects.CopyOf.{CopyOf}
use Rattle.src_values.specs.declared.objects.Spot.{Spot}
use Rattle.lower_trace.specs.Lowering.{IsLowerable}
use Rattle.lower_trace.proofs.Beginnings.{Follow}
use Rattle.lower_trace.proofs.CodeLeft.{Scene, source_in}
use Rattle.lower_trace.proofs.Costs.{either}
use Rattle.src_rules.specs.Runs.{one_if}
use Rattle.lower_trace.proofs.Fitting.{width_is}
use Rattle.lower_trace.proofs.Known.{Known, around, lowest, reached_below}
use Rattle.lower_trace.proofs.Leads.{Led, Law, led_by}
use Rattle.lower_trace.proofs.LedLists.{own_low}
use Rattle.lower_trace.proofs.LedValues.{IsTested, number_tested, pointer_tested}
use Rattle.lower_trace.proofs.LocalPlaces.{listed_there}
use Rattle.lower_trace.proofs.Mirrors.{Mirrors}
use Rattle.lower_trace.proofs.PriceTests.{write_room, write_one}
use Rattle.lower_trace.proofs.Rests.{scalar_write}
use Rattle.lower_trace.proofs.Rooms.{assign_parts, value_room}
use Rattle.lower_trace.proofs.Scenes.{frame_is, scene_laws}

module _ (z : Scene) (given : IsLowerable z.program z.copies) (input : All (λ byte. byte < 256) z.outside.input) where
  scalar_on : (local : ℕ) (e : Expression) (line : ℕ) (spot : Spot) (v : Datum) (at : ℕ) (k : List Pending) (cp : CopyOf) (l : source.Memory) (w : World Byte) (c : Machine) → Known z (state cp (Write spot v at) (Doing (tree.InitScalar local e line) Fills ∷ k) l w) → is_due (arrived z.outside w) ≡ false
      → IsTested z (type_of e) v → Mirrors z (state cp (Write spot v at) (Doing (tree.InitScalar local e line) Fills ∷ k) l w) c → Led z (Write spot v at) (Doing (tree.InitScalar local e line) Fills ∷ k) c (act (source_in z) (Write spot v at) (Doing (tree.InitScalar local e line) Fills ∷ k) cp l (arrived z.outside w))
  unfolding act statement_room
  scalar_on local e line spot v at k cp l w c known due tested h =
      let K = Doing (tree.InitScalar local e line) Fills ∷ k in
      let t = state cp (Write spot v at) K l w in
      let s = known.stands in
      let f = s.focus in
      let first = s.stack.0.1 in
      let there = listed_there z (scene_laws z given) cp local first.variable s.reached first.there in
      let is : spot ≡ stepped at (behind (local_of z.program cp local) 0) = f.there ∙ ap (stepped at) f.node.0 in
      let few = tested.few in
      let all = tested.all in
      let wide = width_is z cp (type_of e) (omega arith) in
      let value = value_room z.program cp.function e first.value in
      let fits = known.stack.0.0 in
      let part = (assign_parts 0 forms.Fixed (room z.program.sizes e) (value_bytes z.program.sizes e)).1 in
      let frame = frame_is z given cp s.reached in
      let same : written_bytes spot v ≡ byte_count v = ap (λ y. written_bytes y v) is in
      let q = either (nat_lt at (byte_count v)) 6 0 in
      let n = one_if (nat_lt at (byte_count v)) in
      led_by z _ _ q n c _ (write_room spot v at 6 0 0 same (omega arith) (omega arith)) (write_one spot v at same)
      (subst (λ y. Mirrors z (state cp (Write y v at) K l w) c → Follow z q n c (write (source_in z) y v at K cp l (arrived z.outside w))) (sym is)
      (λ m. scalar_write z (scene_laws z given) cp l local e line v at k w c (around z given input t known) (reached_below z given input t known) (lowest z given input cp s.reached) there.starts there.there (all ∙ sym wide) (omega arith) (own_low z given input cp s.reached) due m) h)

  -- A byte of the value is written, or what follows the last one. A value that is missing isn't written.
  pub scalar_writes : (local : ℕ) (e : Expression) (line : ℕ) (spot : Spot) (v : Datum) (at : ℕ) (k : List Pending) → 0 < byte_count v → Law z (Write spot v at) (Doing (tree.InitScalar local e line) Fills ∷ k)
  scalar_writes local e line spot datum.Missing at k some cp l w c known due h = absurd (omega arith)
  scalar_writes local e line spot (datum.Number q) at k some cp l w c known due h =
      let f = known.stands.focus in
      scalar_on local e line spot (datum.Number q) at k cp l w c known due (number_tested z (type_of e) q (subst (λ y. HasType z.program y (datum.Number q)) f.node.1 f.typed)) h
  scalar_writes local e line spot (datum.Pointer x) at k some cp l w c known due h =
      let f = known.stands.focus in
      scalar_on local e line spot (datum.Pointer x) at k cp l w c known due (pointer_tested z (type_of e) x (subst (λ y. HasType z.program y (datum.Pointer x)) f.node.1 f.typed)) h

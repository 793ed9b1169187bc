-- The laws of the bytes of an item that a local's list begins with, put together; and no value is written that has no bytes.
use Rattle.std.proofs.Common.{nat_lt, ◌≡◌, ℕ, ◌<◌, false, List, ◌∷◌, sym, ap, ◌∙◌, subst, ⊎_elim, arith}
use Rattle.std.proofs.lemmas.Bool.{cases_lt}
use Rattle.std.specs.List.{All}
use Rattle.c_typed.specs.Room.{room}
use Rattle.c_typed.specs.Trees as tree
use Rattle.c_typed.specs.Trees.{Expression, Item}
use Rattle.c_typed.specs.Types.{type_of, value_bytes}
use Rattle.c_typed.specs.declared.expression.PlaceForm.TheVariants as forms
use Rattle.core_code.specs.Machine.{Machine}
use Rattle.pic_world.specs.World.{World, arrived, is_due}
use Rattle.src_rules.specs.Accesses.{write}
use Rattle.src_rules.specs.Standing.{HasType, stepped}
use Rattle.src_rules.specs.State.{state}
use Rattle.src_rules.specs.Step.{act}
use Rattle.src_values.specs.Control.{Write, Fills, Items, Pending, Doing}
use Rattle.src_values.specs.Data as datum
use Rattle.src_values.specs.Data.{Datum}
use Rattle.src_values.specs.Memory as source
use Rattle.src_values.specs.Objects.{behind, local_of}
use Rattle.src_values.specs.Values.{byte_count, written_bytes}
use Rattle.src_values.specs.declared.objects.Byte.{Byte}
use Rattle.src_values.specs.declared.objects.CopyOf.{CopyOf}
use Rattle.src_values.specs.declared.objects.Spot.{Spot}
use Rattle.lower_trace.specs.Lowering.{IsLowerable}
use Rattle.lower_trace.proofs.Beginnings.{Follow}
use Rattle.lower_trace.proofs.CodeLeft.{Scene, source_in}
use Rattle.lower_trace.proofs.Fitting.{width_is}
use Rattle.lower_trace.proofs.Known.{Known, around, lowest, reached_below, small}
use Rattle.lower_trace.proofs.Leads.{Led, Law, led_by}
use Rattle.lower_trace.proofs.LedLists.{listed, own_low}
use Rattle.lower_trace.proofs.LedValues.{IsTested, number_tested, pointer_tested}
use Rattle.lower_trace.proofs.ListBytes.{item_byte, item_end}
use Rattle.lower_trace.proofs.LocalPlaces.{local_size, item_inside}
use Rattle.lower_trace.proofs.Mirrors.{Mirrors}
use Rattle.lower_trace.proofs.PriceTests.{done_one, more_room, one_most}
use Rattle.lower_trace.proofs.Rooms.{assign_parts, value_room}
use Rattle.lower_trace.proofs.Scenes.{frame_is, scene_laws}

module _ (z : Scene) (given : IsLowerable z.program z.copies) (input : All (λ byte. byte < 256) z.outside.input) where
  -- a value without bytes isn't written
  pub missing_writes : (local : ℕ) (e : Expression) (line : ℕ) (spot : Spot) (v : Datum) (at : ℕ) (k : List Pending) → byte_count v ≡ 0 → Law z (Write spot v at) (Doing (tree.InitScalar local e line) Fills ∷ k)
  missing_writes local e line spot v at k none cp l w c known due h = let some = known.sure.focus.0 in absurd (omega arith)

  item_on : (local : ℕ) (all : List Item) (line offset : ℕ) (e : Expression) (rest : List Item) (spot : Spot) (v : Datum) (at : ℕ) (k : List Pending) (cp : CopyOf) (l : source.Memory) (w : World Byte) (c : Machine) → Known z (state cp (Write spot v at) (Doing (tree.InitList local all line) (Items (tree.Scalar offset e) rest) ∷ k) l w) → is_due (arrived z.outside w) ≡ false
      → IsTested z (type_of e) v → Mirrors z (state cp (Write spot v at) (Doing (tree.InitList local all line) (Items (tree.Scalar offset e) rest) ∷ k) l w) c → Led z (Write spot v at) (Doing (tree.InitList local all line) (Items (tree.Scalar offset e) rest) ∷ k) c (act (source_in z) (Write spot v at) (Doing (tree.InitList local all line) (Items (tree.Scalar offset e) rest) ∷ k) cp l (arrived z.outside w))
  unfolding act
  item_on local all line offset e rest spot v at k cp l w c known due tested h =
      let K = Doing (tree.InitList local all line) (Items (tree.Scalar offset e) rest) ∷ k in
      let t = state cp (Write spot v at) K l w in
      let s = known.stands in
      let f = s.focus in
      let is : spot ≡ stepped at (behind (local_of z.program cp local) offset) = f.there ∙ ap (stepped at) f.node.0 in
      let same : written_bytes spot v ≡ byte_count v = ap (λ y. written_bytes y v) is in
      let few = tested.few in
      let count = tested.all in
      let less = small z given input cp s.reached in
      let frame = frame_is z given cp s.reached in
      let wide = width_is z cp (type_of e) (omega arith) in
      let item = s.stack.2 in
      let inside = item_inside z.program cp.function _ item.0 (tree.Scalar offset e) rest item.1 in
      let all_bytes = local_size z cp local in
      let value = value_room z.program cp.function e item.1.1.1 in
      let fits = known.sure.stack.0 in
      let part = (assign_parts 0 forms.Fixed (room z.program.sizes e) (value_bytes z.program.sizes e)).1 in
      let laws = scene_laws z given in
      let there = listed z given input cp local all s.reached s.stack.0.1 in
      ⊎_elim
      (λ more.
      led_by z _ _ 6 1 c _ (more_room spot v at 6 0 same more (omega arith)) (one_most (nat_lt at (written_bytes spot v)))
      (subst (λ y. Mirrors z (state cp (Write y v at) K l w) c → Follow z 6 1 c (write (source_in z) y v at K cp l (arrived z.outside w))) (sym is)
      (λ m. item_byte z laws local all line k cp l there (own_low z given input cp s.reached) offset e rest (around z given input t known) (reached_below z given input t known) (lowest z given input cp s.reached) v (count ∙ sym wide) (omega arith) (omega arith) at w c more due m) h))
      (λ done.
      led_by z _ _ 0 0 c _ (omega arith) (done_one spot v at 0 same done)
      (subst (λ y. Mirrors z (state cp (Write y v at) K l w) c → Follow z 0 0 c (write (source_in z) y v at K cp l (arrived z.outside w))) (sym is)
      (λ m. item_end z laws local all line k cp l there (own_low z given input cp s.reached) offset e rest (around z given input t known) (reached_below z given input t known) (lowest z given input cp s.reached) v (count ∙ sym wide) (omega arith) (omega arith) at w c done m) h))
      (cases_lt at (byte_count v))

  -- A byte of an item is written, or what follows the last one.
  pub item_writes : (local : ℕ) (all : List Item) (line offset : ℕ) (e : Expression) (rest : List Item) (spot : Spot) (v : Datum) (at : ℕ) (k : List Pending) → Law z (Write spot v at) (Doing (tree.InitList local all line) (Items (tree.Scalar offset e) rest) ∷ k)
  item_writes local all line offset e rest spot datum.Missing at k cp l w c known due h = let some = known.sure.focus.0 in absurd (omega arith)
  item_writes local all line offset e rest spot (datum.Number q) at k cp l w c known due h =
      let f = known.stands.focus in
      item_on local all line offset e rest spot (datum.Number q) at k cp l w c known due (number_tested z (type_of e) q (subst (λ y. HasType z.program y (datum.Number q)) f.node.1 f.typed)) h
  item_writes local all line offset e rest spot (datum.Pointer x) at k cp l w c known due h =
      let f = known.stands.focus in
      item_on local all line offset e rest spot (datum.Pointer x) at k cp l w c known due (pointer_tested z (type_of e) x (subst (λ y. HasType z.program y (datum.Pointer x)) f.node.1 f.typed)) h

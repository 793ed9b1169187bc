-- The laws of structures whose copies begin or end, put together.
use Rattle.std.proofs.Common.{◌≡◌, ℕ, ◌<◌, true, List, ◌∷◌, subst, arith}
use Rattle.std.proofs.lemmas.Bool.{and_parts}
use Rattle.std.specs.List.{All}
use Rattle.c_typed.specs.Fits.{rule_holds}
use Rattle.c_typed.specs.Sameness.{is_struct}
use Rattle.c_typed.specs.Trees as tree
use Rattle.c_typed.specs.Trees.{Item, Place, Program}
use Rattle.c_typed.specs.Types.{place_type}
use Rattle.src_rules.proofs.Places.{spot_placed}
use Rattle.src_rules.proofs.Values.{same_type_is}
use Rattle.src_rules.specs.Parts.{Obeys}
use Rattle.src_rules.specs.Standing.{IsSpotOf}
use Rattle.src_rules.specs.State.{state}
use Rattle.src_rules.specs.Step.{act}
use Rattle.src_values.specs.Control.{Found, CopyRead, At, Copies, AtItem, Items, Pending, In, Doing}
use Rattle.src_values.specs.declared.objects.Spot.{Spot}
use Rattle.lower_trace.specs.Lowering.{IsLowerable}
use Rattle.lower_trace.proofs.CodeLeft.{Scene}
use Rattle.lower_trace.proofs.CopyEnds.{assign_ends, struct_object}
use Rattle.lower_trace.proofs.CopyNodes.{assign_copies}
use Rattle.lower_trace.proofs.Known.{around, resumables}
use Rattle.lower_trace.proofs.Leads.{Law, led_by}
use Rattle.lower_trace.proofs.LedLists.{listed, own_low}
use Rattle.lower_trace.proofs.LedValues.{around_in}
use Rattle.lower_trace.proofs.ListStructs.{item_copies, item_copied}
use Rattle.lower_trace.proofs.LocalPlaces.{local_size, item_inside}
use Rattle.lower_trace.proofs.Scenes.{scene_laws}

pub copy_rule : (p : Program) (place from : Place) (size line : ℕ) → Obeys p (tree.StructAssign place from size line) → (is_struct (place_type place).ty ≡ true) × ((place_type place).ty ≡ (place_type from).ty)
unfolding rule_holds
copy_rule p place from size line h =
    let g = and_parts _ _ (and_parts _ _ h.1).1 in
    (g.0, same_type_is _ _ (and_parts _ _ g.1).0)

module _ (z : Scene) (given : IsLowerable z.program z.copies) (input : All (λ byte. byte < 256) z.outside.input) where
  -- both places of an assignment are found
  pub structures : (place from : Place) (size line : ℕ) (to spot : Spot) (k : List Pending) → Law z (Found spot) (In (tree.StructAssign place from size line) (At to) ∷ k)
  unfolding act
  structures place from size line to spot k cp l w c known due h =
      let s = known.stands in
      let e = s.stack.0 in
      let rule = copy_rule z.program place from size line e.0 in
      let other = subst (λ t. is_struct t ≡ true) rule.1 rule.0 in
      let at = subst (λ y. IsSpotOf z.program cp y spot) s.focus.1 s.focus.2 in
      led_by z _ _ 0 0 c _ (omega arith) (omega arith)
      (assign_copies z (scene_laws z given) cp l place from size line to spot k w c (struct_object z cp place to e.1 rule.0 s.stack.2) (struct_object z cp from spot e.2 other at)
      (spot_placed z.program cp place to s.reached e.1 s.stack.2) (spot_placed z.program cp from spot s.reached e.2 at) h)

  -- the place of a structure in a list of first values is found
  pub list_structures : (local : ℕ) (all : List Item) (line : ℕ) (item : Item) (rest : List Item) (spot : Spot) (k : List Pending) → Law z (Found spot) (Doing (tree.InitList local all line) (AtItem item rest) ∷ k)
  unfolding act
  list_structures local all line (tree.Struct offset from size) rest spot k cp l w c known due h =
      let t = state cp (Found spot) (Doing (tree.InitList local all line) (AtItem (tree.Struct offset from size) rest) ∷ k) l w in
      let s = known.stands in
      let item = s.stack.2 in
      let inside = item_inside z.program cp.function _ item.0 (tree.Struct offset from size) rest item.1 in
      let all_bytes = local_size z cp local in
      let is = item.1.1 in
      let at = subst (λ y. IsSpotOf z.program cp y spot) s.focus.1 s.focus.2 in
      led_by z _ _ 0 0 c _ (omega arith) (omega arith)
      (item_copies z (scene_laws z given) local all line k cp l (listed z given input cp local all s.reached s.stack.0.1) (own_low z given input cp s.reached) offset from size rest spot w c (around z given input t known) (omega arith)
      (struct_object z cp from spot is.2 is.0 at) (spot_placed z.program cp from spot s.reached is.2 at) h)
  list_structures local all line (tree.Scalar offset e) rest spot k cp l w c known due h = absurd known.stands.focus.1
  list_structures local all line (tree.Text offset text size) rest spot k cp l w c known due h = absurd known.stands.focus.1

  -- all bytes are copied
  pub assigns_end : (place from : Place) (size line : ℕ) (to spot : Spot) (k : List Pending) → Law z (CopyRead to spot 0) (In (tree.StructAssign place from size line) Copies ∷ k)
  unfolding act
  assigns_end place from size line to spot k cp l w c known due h =
      let e = tree.StructAssign place from size line in
      let t = state cp (CopyRead to spot 0) (In e Copies ∷ k) l w in
      led_by z _ _ 8 0 c _ (omega arith) (omega arith) (assign_ends z (scene_laws z given) cp l place from size line to spot k w c (around_in z cp e Copies k (around z given input t known)) (resumables z t known) due h)

  pub items_end : (local : ℕ) (all : List Item) (line offset : ℕ) (from : Place) (size : ℕ) (rest : List Item) (to spot : Spot) (k : List Pending) → 0 < size → Law z (CopyRead to spot 0) (Doing (tree.InitList local all line) (Items (tree.Struct offset from size) rest) ∷ k)
  unfolding act
  items_end local all line offset from size rest to spot k some cp l w c known due h =
      let s = known.stands in
      led_by z _ _ 0 0 c _ (omega arith) (omega arith) (item_copied z (scene_laws z given) local all line k cp l (listed z given input cp local all s.reached s.stack.0.1) (own_low z given input cp s.reached) offset from size rest to spot w c some h)

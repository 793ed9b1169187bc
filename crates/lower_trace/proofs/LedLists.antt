-- The laws of lists of first values, put together: strings, and bytes without an item.
use Rattle.std.proofs.Common.{◌≡◌, ℕ, zero, suc, ◌-◌, ◌*◌, ◌<◌, ◌≤◌, List, ◌∷◌, drop, sym, ap, ◌∙◌, subst, arith}
use Rattle.std.specs.List.{All}
use Rattle.c_typed.specs.Trees as tree
use Rattle.c_typed.specs.Trees.{Item}
use Rattle.pic_world.specs.World.{arrived}
use Rattle.src_rules.specs.Accesses.{spell}
use Rattle.src_rules.specs.Parts.{IsListOf}
use Rattle.src_rules.specs.Standing.{IsReached, stepped}
use Rattle.src_rules.specs.State.{state}
use Rattle.src_rules.specs.Step.{act}
use Rattle.src_values.specs.Control.{Spell, Blank, Items, Blanks, Pending, Doing}
use Rattle.src_values.specs.Lists.{covered_from}
use Rattle.src_values.specs.Objects.{local_of, behind}
use Rattle.src_values.specs.declared.objects.CopyOf.{CopyOf}
use Rattle.src_values.specs.declared.objects.Spot.{Spot}
use Rattle.lower_trace.specs.Lowering.{IsLowerable}
use Rattle.lower_trace.proofs.Beginnings.{Follow}
use Rattle.lower_trace.proofs.CodeLeft.{Scene, core_in, ground_in, number, source_in}
use Rattle.lower_trace.proofs.Known.{around, low, reached_below}
use Rattle.lower_trace.proofs.Leads.{Law, led_by}
use Rattle.lower_trace.proofs.ListBytes.{Listed, some_left, text_byte, blank_goes}
use Rattle.lower_trace.proofs.Listing.{text_written}
use Rattle.lower_trace.proofs.LocalPlaces.{listed_of, local_size, item_inside}
use Rattle.lower_trace.proofs.Mirrors.{Mirrors}
use Rattle.lower_trace.proofs.PriceTests.{blank_one, blank_room}
use Rattle.lower_trace.proofs.Scenes.{frame_is, scene_laws}

module _ (z : Scene) (given : IsLowerable z.program z.copies) (input : All (λ byte. byte < 256) z.outside.input) where
  pub own_low : (cp : CopyOf) → IsReached z.program cp → (ground_in z cp).base ≤ (core_in z).program.frame_bytes (number z cp)
  own_low cp r = let a = low z given input cp r in let f = frame_is z given cp r in omega arith

  pub listed : (cp : CopyOf) (local : ℕ) (all : List Item) → IsReached z.program cp → IsListOf z.program cp.function local all → Listed z cp local
  listed cp local all r is = listed_of z (scene_laws z given) cp local all r is

  -- The characters of a string come one after another.
  pub spells : (spot : Spot) (text : List ℕ) (left : ℕ) (k : List Pending) → Law z (Spell spot text left) k
  unfolding act
  spells spot text zero (Doing (tree.InitList local all line) (Items (tree.Text offset chars size) rest) ∷ k) cp l w c known due h =
      led_by z _ _ 0 0 c _ (omega arith) (omega arith) (text_written z local all line k cp (listed cp local all known.stands.reached known.stands.stack.0.1).size offset chars size rest spot text l w c h)
  spells spot text (suc left) (Doing (tree.InitList local all line) (Items (tree.Text offset chars size) rest) ∷ k) cp l w c known due h =
      let K = Doing (tree.InitList local all line) (Items (tree.Text offset chars size) rest) ∷ k in
      let t = state cp (Spell spot text (suc left)) K l w in
      let s = known.stands in
      let f = s.focus in
      let is : spot ≡ stepped f.done (behind (local_of z.program cp local) offset) = f.written ∙ ap (stepped f.done) f.node.0 in
      let item = s.stack.2 in
      let inside = item_inside z.program cp.function _ item.0 (tree.Text offset chars size) rest item.1 in
      let all_bytes = local_size z cp local in
      led_by z _ _ 4 1 c _ (omega arith) (omega arith)
      (subst (λ y. Mirrors z (state cp (Spell y text (suc left)) K l w) c → Follow z 4 1 c (spell (source_in z) y text (suc left) K cp l (arrived z.outside w))) (sym is)
      (λ m. text_byte z (scene_laws z given) local all line k cp l (listed cp local all s.reached s.stack.0.1) (own_low cp s.reached) offset chars size rest f.done left text w c (around z given input t known) (reached_below z given input t known)
      (f.all ∙ f.node.2) (f.rest ∙ ap (drop f.done) f.node.1) (omega arith) due m) h)
  spells spot text left _ cp l w c known due h = absurd known.stands.focus.node

  -- Bytes without an item become 0.
  pub blanks : (at left : ℕ) (k : List Pending) → Law z (Blank at left) k
  unfolding act
  blanks at left (Doing (tree.InitList local all line) Blanks ∷ k) cp l w c known due h =
      let t = state cp (Blank at left) (Doing (tree.InitList local all line) Blanks ∷ k) l w in
      let s = known.stands in
      let f = s.focus in
      let is = f.1 in
      let sum = f.2 in
      let all_bytes = local_size z cp local in
      let more = some_left (left - covered_from z.program.sizes all at left) in
      led_by z _ _ (4 * more) more c _ (blank_room (covered_from z.program.sizes all at left) left line) (blank_one (covered_from z.program.sizes all at left) left line)
      (blank_goes z (scene_laws z given) local all line k cp l (listed cp local all s.reached s.stack.0.1) (own_low cp s.reached) at left w c (around z given input t known) (reached_below z given input t known) (omega arith) due h)
  blanks at left _ cp l w c known due h = absurd known.stands.focus.1

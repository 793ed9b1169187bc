-- An item of a list of first values that is a structure: its place is found, its bytes are copied, and the next item follows.
use Rattle.std.proofs.Common.{◌≡◌, ℕ, ◌-◌, ◌<◌, ◌≤◌, List, ◌∷◌, Some, None, refl, sym, ap, ◌∙◌, subst, arith}
use Rattle.c_typed.specs.Trees as tree
use Rattle.c_typed.specs.Trees.{Item, Place, Statement}
use Rattle.core_code.specs.Machine.{Machine}
use Rattle.core_puts.specs.Bytes.{behind, beyond}
use Rattle.lower_expr.specs.Rows.{struct_row}
use Rattle.lower_expr.specs.Spots.{spot_of}
use Rattle.lower_expr.specs.declared.places.Spot.TheVariants.{Fixed}
use Rattle.lower_stmt.specs.Ground.{Ground, first, local_byte}
use Rattle.pic_world.specs.World.{World, arrived, world_as}
use Rattle.src_rules.specs.Accesses.{copy_read}
use Rattle.src_rules.specs.Expressions.{found_for}
use Rattle.src_rules.specs.Standing.{IsPlaced}
use Rattle.src_rules.specs.State.{state}
use Rattle.src_values.specs.Control.{Found, CopyRead, AtItem, Items, Pending, Doing, active}
use Rattle.src_values.specs.Memory as source
use Rattle.src_values.specs.Objects as objects_of
use Rattle.src_values.specs.Objects.{object_bytes, local_of}
use Rattle.src_values.specs.declared.objects.Byte as value
use Rattle.src_values.specs.declared.objects.CopyOf.{CopyOf}
use Rattle.src_values.specs.declared.objects.Spot as spot
use Rattle.lower_trace.proofs.Beginnings.{Follow, rests}
use Rattle.lower_trace.proofs.CodeLeft.{Scene, held, number, ground_in, core_in, source_in, todo, items_left, copying, code_after, stack_after}
use Rattle.lower_trace.proofs.CopyNodes.{IsObject, copying_first, copying_done, copied_none}
use Rattle.lower_trace.proofs.Giving.{Around, placed_of}
use Rattle.lower_trace.proofs.Kept.{SceneLaws}
use Rattle.lower_trace.proofs.ListBytes.{Listed, byte_there}
use Rattle.lower_trace.proofs.Listing.{items_follow}
use Rattle.lower_trace.proofs.Mirrors.{Mirrors, IsAt}
use Rattle.lower_trace.proofs.Operations.{beyond_is}
use Rattle.lower_trace.proofs.Placed.{Placed, todo_join}

module _ (z : Scene) (laws : SceneLaws z) (local : ℕ) (all : List Item) (line : ℕ) (k : List Pending) (cp : CopyOf) (l : source.Memory) (listed : Listed z cp local) (own_room : (ground_in z cp).base ≤ (core_in z).program.frame_bytes (number z cp)) where
  abbrev t : Statement
  t = tree.InitList local all line

  abbrev g : Ground
  g = ground_in z cp

  -- the copy begins
  pub item_copies : (offset : ℕ) (other : Place) (size : ℕ) (rest : List Item) (from : spot.Spot) (w : World value.Byte) (c : Machine) → Around z cp (Doing (tree.InitList local all line) (AtItem (tree.Struct offset other size) rest) ∷ k)
      → offset ≤ object_bytes z.program (local_of z.program cp local) → IsObject from → IsPlaced z.program from
      → Mirrors z (state cp (Found from) (Doing (tree.InitList local all line) (AtItem (tree.Struct offset other size) rest) ∷ k) l w) c
      → Follow z 0 0 c (found_for (source_in z) (tree.InitList local all line) (AtItem (tree.Struct offset other size) rest) from k cp l (arrived z.outside w))
  unfolding active
  item_copies offset other size rest from w c around fits object placed h =
      let o = local_of z.program cp local in
      let p = Fixed (behind (local_byte g local) offset) in
      let q = spot_of g.layout g.copy other in
      let R = todo (items_left g local all rest) (code_after g k) in
      let none : 0 ≡ size - size = omega arith in
      let small = laws.small (number z cp) in
      let there = ap Some (sym (byte_there z laws local all line k cp l listed own_room offset (record { reached = around.reached; apart = around.apart; mains = around.mains; piled = around.piled }) fits)) in
      let behind_none : beyond g.base 0 ≡ g.base = beyond_is g.base 0 (omega arith) ∙ (omega arith) in
      rests z cp (Found from) (CopyRead (objects_of.behind o offset) from size) (Doing t (AtItem (tree.Struct offset other size) rest) ∷ k) (Doing t (Items (tree.Struct offset other size) rest) ∷ k) l l w c h refl
      (todo_join (struct_row g.layout.root p q (first g) size) (items_left g local all rest) (code_after g k) ∙ ap (λ y. todo y R) (copying_first g.layout.root p q (first g) size) ∙ ap (λ i. todo (copying g.layout.root p q (first g) size i) R) none)
      refl h.agrees h.holds
      (copied_none z laws g.layout.root g.copy g.base size p q (objects_of.behind o offset) from c.memory tt object ((around.reached, listed.there), fits) placed there
      (subst (λ b. IsAt z g.copy b q from c.memory) (sym behind_none) (h.value other refl)))

  -- all bytes are copied
  pub item_copied : (offset : ℕ) (other : Place) (size : ℕ) (rest : List Item) (to from : spot.Spot) (w : World value.Byte) (c : Machine) → 0 < size
      → Mirrors z (state cp (CopyRead to from 0) (Doing (tree.InitList local all line) (Items (tree.Struct offset other size) rest) ∷ k) l w) c
      → Follow z 0 0 c (copy_read (source_in z) to from 0 (Doing (tree.InitList local all line) (Items (tree.Struct offset other size) rest) ∷ k) cp l (arrived z.outside w))
  unfolding active
  item_copied offset other size rest to from w c some h =
      let R = todo (items_left g local all rest) (code_after g k) in
      items_follow z local all line k cp listed.size rest l w c.memory c h.agrees h.holds
      (subst (λ y. Placed (core_in z) (number z cp) None (todo y R) (stack_after z g k) c.memory (world_as (held z) (arrived z.outside w)) c) (copying_done g.layout.root (Fixed (behind (local_byte g local) offset)) (spot_of g.layout g.copy other) (first g) size some)
      (placed_of z (state cp (CopyRead to from 0) (Doing t (Items (tree.Struct offset other size) rest) ∷ k) l w) c h))

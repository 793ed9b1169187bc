-- Where structures are copied: what is known of the node and of both places at each byte.
use Rattle.c_typed.specs.Room.{items_room, item_room, place_room, room}
use Rattle.c_typed.specs.Sameness.{is_struct}
use Rattle.c_typed.specs.Trees as tree
use Rattle.c_typed.specs.Trees.{Item, Place}
use Rattle.c_typed.specs.Types.{form_of}
use Rattle.c_typed.specs.declared.expression.PlaceForm.TheVariants as forms
use Rattle.core_puts.specs.Bytes.{behind}
use Rattle.lower_expr.specs.Layout.{Layout}
use Rattle.lower_expr.specs.Spots.{pointer_bytes, spot_of}
use Rattle.lower_expr.specs.declared.places.Spot as place
use Rattle.lower_expr.specs.declared.places.Spot.TheVariants.{Bit, Computed, Fixed}
use Rattle.lower_stmt.specs.Ground.{local_byte}
use Rattle.lower_trace.proofs.CodeLeft.{Scene, base, core_in, ground_in, number}
use Rattle.lower_trace.proofs.CopyEnds.{struct_object}
use Rattle.lower_trace.proofs.CopyNodes.{CopyNode, IsObject, assign_node, item_node}
use Rattle.lower_trace.proofs.CopyTakes.{OwnIf}
use Rattle.lower_trace.proofs.FixedPlaces.{IsOwnSpot, own_spot}
use Rattle.lower_trace.proofs.Known.{Known}
use Rattle.lower_trace.proofs.LedCopies.{copy_rule}
use Rattle.lower_trace.proofs.LedLists.{listed}
use Rattle.lower_trace.proofs.Rooms.{pointer_is, struct_parts, two_parts}
use Rattle.lower_trace.proofs.Scenes.{frame_is}
use Rattle.lower_trace.proofs.Waiting.{AreFixed, BothFixed}
use Rattle.lower_trace.specs.Lowering.{IsLowerable}
use Rattle.pic_world.specs.World.{World}
use Rattle.src_rules.specs.Parts.{IsPlaceOf}
use Rattle.src_rules.specs.Standing.{CopyStands, IsPlaced, IsReached, IsSpotOf, stepped}
use Rattle.src_rules.specs.State.{state}
use Rattle.src_values.specs.Control.{Copies, Doing, Focus, In, Items, Pending}
use Rattle.src_values.specs.Memory as source
use Rattle.src_values.specs.Objects.{behind as byte_behind, local_of}
use Rattle.src_values.specs.declared.objects.Byte.{Byte}
use Rattle.src_values.specs.declared.objects.CopyOf.{CopyOf}
use Rattle.src_values.specs.declared.objects.Object.TheVariants as objects
use Rattle.src_values.specs.declared.objects.Pointer.TheVariants.{Into, Null}
use Rattle.src_values.specs.declared.objects.Spot.TheVariants as spots
use Rattle.src_values.specs.declared.objects.Spot.{Spot}
use Rattle.std.proofs.Common.{List, ap, arith, refl, subst, sym, true, ℕ, ◌+◌, ◌-◌, ◌<◌, ◌∙◌, ◌∷◌, ◌≡◌, ◌≤◌}
use Rattle.std.specs.List.{All}

-- It lies so many bytes behind the start of its object, or more.
abbrev pub IsBehind : ℕ → Spot → Type 0
IsBehind n (spots.Memory (Into o f)) = n ≤ f
IsBehind n _ = Unit {0}

-- so many bytes are left, the next one being copied from there
pub record CopySite (z : Scene) (cp : CopyOf) (k : List Pending) (to from : Spot) (left : ℕ) (p q : place.Spot) (b size : ℕ) : Type 0 where
  pub node : CopyNode z cp k p q b size
  pub part : left ≤ size
  pub to_object : IsObject to
  pub from_object : IsObject from
  pub own_to : OwnIf z cp p to
  pub own_from : OwnIf z cp q from
  pub to_placed : IsPlaced z.program to
  pub from_placed : IsPlaced z.program from
  pub away : IsBehind (size - left) from
  pub room : b + pointer_bytes p + pointer_bytes q + 1 ≤ (core_in z).program.frame_bytes (number z cp)
  pub fixed : BothFixed p q → AreFixed z cp k

-- ---- bytes behind the start of a place
stepped_object : (n : ℕ) (at : Spot) → IsObject at → IsObject (stepped n at)
stepped_object n (spots.Memory Null) h = tt
stepped_object n (spots.Memory (Into o f)) h = tt
stepped_object n (spots.Device a) h = h
stepped_object n (spots.Bit register bit) h = h

stepped_behind : (n : ℕ) (at : Spot) → IsBehind n (stepped n at)
stepped_behind n (spots.Memory Null) = tt
stepped_behind n (spots.Memory (Into o f)) = omega arith
stepped_behind n (spots.Device a) = tt
stepped_behind n (spots.Bit register bit) = tt

stepped_own : (z : Scene) (cp : CopyOf) (n : ℕ) (at : Spot) → IsOwnSpot z cp at → IsOwnSpot z cp (stepped n at)
stepped_own z cp n (spots.Memory Null) h = h
stepped_own z cp n (spots.Memory (Into (objects.Fixed i) f)) h = h
stepped_own z cp n (spots.Memory (Into (objects.Variable d i) f)) h = h
stepped_own z cp n (spots.Device a) h = h
stepped_own z cp n (spots.Bit register bit) h = h

own_if : (z : Scene) (cp : CopyOf) (l : Layout) (m n : ℕ) (sought : Place) (s : place.Spot) (at : Spot) → spot_of l m sought ≡ s → IsReached z.program cp → IsPlaceOf z.program cp.function sought → IsSpotOf z.program cp sought at → OwnIf z cp s (stepped n at)
own_if z cp l m n sought (Fixed x) at e r h is = stepped_own z cp n at (own_spot z cp l m sought x at e r h is)
own_if z cp l m n sought (Bit register bit) at e r h is = tt
own_if z cp l m n sought Computed at e r h is = tt

behind_of : (size done left : ℕ) (at other : Spot) → done + left ≡ size → at ≡ stepped done other → IsBehind (size - left) at
behind_of size done left at other all is =
    let e : done ≡ size - left = omega arith in
    subst (IsBehind (size - left)) (sym is) (subst (λ n. IsBehind n (stepped done other)) e (stepped_behind done other))

module _ (z : Scene) (given : IsLowerable z.program z.copies) (input : All (λ byte. byte < 256) z.outside.input) where
  -- an assignment copies
  pub assign_site : (x : Focus) (place other : Place) (size line : ℕ) (to from : Spot) (left : ℕ) (k : List Pending) (cp : CopyOf) (l : source.Memory) (w : World Byte) → Known z (state cp x (In (tree.StructAssign place other size line) Copies ∷ k) l w) → CopyStands z.program cp (In (tree.StructAssign place other size line) Copies ∷ k) to from left
      → CopySite z cp (In (tree.StructAssign place other size line) Copies ∷ k) to from left (spot_of (ground_in z cp).layout (ground_in z cp).copy place) (spot_of (ground_in z cp).layout (ground_in z cp).copy other) (base (ground_in z cp) k) size
  unfolding room
  assign_site x place other size line to from left k cp l w known f =
      let s = known.stands in
      let sizes = z.program.sizes in
      let g = ground_in z cp in
      let e = s.stack.0 in
      let n = f.node in
      let rule = copy_rule z.program place other size line e.0 in
      let all : f.done + left ≡ size = f.all ∙ n.2 in
      let fits = known.stack.0 in
      let frame = frame_is z given cp s.reached in
      let parts = (struct_parts (place_room sizes place) (form_of place) (place_room sizes other) (form_of other)).2 in
      let one = pointer_is g.layout g.copy place in
      let two = pointer_is g.layout g.copy other in
      record {
        node = assign_node z cp place other size line Copies k (spot_of g.layout g.copy place) (spot_of g.layout g.copy other) refl refl refl;
        part = omega arith;
        to_object = subst IsObject (sym f.written) (stepped_object f.done f.first (struct_object z cp place f.first e.1 rule.0 n.0));
        from_object = subst IsObject (sym f.read) (stepped_object f.done f.other (struct_object z cp other f.other e.2 (subst (λ t. is_struct t ≡ true) rule.1 rule.0) n.1));
        own_to = subst (OwnIf z cp (spot_of g.layout g.copy place)) (sym f.written) (own_if z cp g.layout g.copy f.done place (spot_of g.layout g.copy place) f.first refl s.reached e.1 n.0);
        own_from = subst (OwnIf z cp (spot_of g.layout g.copy other)) (sym f.read) (own_if z cp g.layout g.copy f.done other (spot_of g.layout g.copy other) f.other refl s.reached e.2 n.1);
        to_placed = f.target;
        from_placed = f.source;
        away = behind_of size f.done left from f.other all f.read;
        room = omega arith;
        fixed = λ h. h;
      }

  -- an item of a list of first values does
  pub item_site : (x : Focus) (local : ℕ) (whole : List Item) (line offset : ℕ) (other : Place) (size : ℕ) (rest : List Item) (to from : Spot) (left : ℕ) (k : List Pending) (cp : CopyOf) (l : source.Memory) (w : World Byte) → Known z (state cp x (Doing (tree.InitList local whole line) (Items (tree.Struct offset other size) rest) ∷ k) l w)
      → CopyStands z.program cp (Doing (tree.InitList local whole line) (Items (tree.Struct offset other size) rest) ∷ k) to from left
      → CopySite z cp (Doing (tree.InitList local whole line) (Items (tree.Struct offset other size) rest) ∷ k) to from left (Fixed (behind (local_byte (ground_in z cp) local) offset)) (spot_of (ground_in z cp).layout (ground_in z cp).copy other) (ground_in z cp).base size
  item_site x local whole line offset other size rest to from left k cp l w known f =
      let s = known.stands in
      let sizes = z.program.sizes in
      let g = ground_in z cp in
      let n = f.node in
      let item = s.stack.2.1.1 in
      let there = listed z given input cp local whole s.reached s.stack.0.1 in
      let all : f.done + left ≡ size = f.all ∙ n.2 in
      let written : to ≡ stepped f.done (byte_behind (local_of z.program cp local) offset) = f.written ∙ ap (stepped f.done) n.0 in
      let fits = known.stack.1 in
      let frame = frame_is z given cp s.reached in
      let first = (two_parts (item_room sizes (tree.Struct offset other size)) (items_room sizes rest)).0 in
      let parts = (struct_parts 0 forms.Fixed (place_room sizes other) (form_of other)).2 in
      let two = pointer_is g.layout g.copy other in
      record {
        node = item_node z cp local whole line offset other size rest k (spot_of g.layout g.copy other) refl;
        part = omega arith;
        to_object = subst IsObject (sym written) tt;
        from_object = subst IsObject (sym f.read) (stepped_object f.done f.other (struct_object z cp other f.other item.2 item.0 n.1));
        own_to = subst (IsOwnSpot z cp) (sym written) (refl, there.there);
        own_from = subst (OwnIf z cp (spot_of g.layout g.copy other)) (sym f.read) (own_if z cp g.layout g.copy f.done other (spot_of g.layout g.copy other) f.other refl s.reached item.2 n.1);
        to_placed = f.target;
        from_placed = f.source;
        away = behind_of size f.done left from f.other all f.read;
        room = omega arith;
        fixed = λ h. h;
      }

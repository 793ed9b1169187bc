-- The laws of pointers that are changed where they stand, and of addresses of places, put together.
use Rattle.std.proofs.Common.{◌≡◌, ℕ, ◌+◌, ◌<◌, ◌≤◌, Bool, true, false, not, ◌&&◌, if◌then◌else◌, nat_eq, List, ◌∷◌, refl, sym, ap, ◌∙◌, subst, ⊎_elim, arith}
use Rattle.std.proofs.lemmas.Bool.{and_parts, false≢true, or_cases}
use Rattle.std.specs.List.{All}
use Rattle.c_ints.specs.Conversions.{common, promoted}
use Rattle.c_ints.specs.Operators.{compares, shifts}
use Rattle.c_ints.specs.Quantity.{Quantity}
use Rattle.c_ints.specs.declared.operators.BinOp.{BinOp}
use Rattle.c_ints.specs.declared.operators.BinOp.TheVariants as ops
use Rattle.c_ints.specs.declared.types.IntTy.{IntTy}
use Rattle.c_typed.specs.Fits.{rule_holds}
use Rattle.c_typed.specs.Room.{place_room, room}
use Rattle.c_typed.specs.Rules.{counts_in, integer_step_fits, integer_update_fits, moves, moves_by}
use Rattle.c_typed.specs.Sameness.{is_index, is_pointer, is_promoted, pointed, same_int, same_type}
use Rattle.c_typed.specs.Trees as tree
use Rattle.c_typed.specs.Trees.{Expression, Place, Program}
use Rattle.c_typed.specs.Types.{form_of, member_form, place_bytes, place_type, type_bytes, type_of, value_bytes}
use Rattle.c_typed.specs.declared.expression.PlaceForm.TheVariants as forms
use Rattle.c_typed.specs.declared.expression.StepOp.{StepOp}
use Rattle.c_typed.specs.Words.{address_words}
use Rattle.c_typed.specs.declared.types.Ty.{Ty}
use Rattle.c_typed.specs.declared.types.Ty.TheVariants as types
use Rattle.core_code.specs.Bytes as core_bytes
use Rattle.core_code.specs.Machine.{is_valid}
use Rattle.core_code.specs.declared.code.Byte as code
use Rattle.lower_expr.specs.Layout.{Layout, width}
use Rattle.lower_expr.specs.Lowering.{behind_pointer}
use Rattle.lower_expr.specs.Spots.{member_spot, pointer_bytes, spot_of}
use Rattle.lower_expr.specs.declared.places.Spot as place
use Rattle.lower_expr.specs.declared.places.Spot.TheVariants.{Bit, Computed, Fixed}
use Rattle.src_rules.proofs.Rules.{moves_rule, step_rule, update_rule}
use Rattle.src_rules.proofs.Sizes.{any_small}
use Rattle.src_rules.proofs.Values.{same_type_is}
use Rattle.src_rules.specs.Parts.{IsPlaceOf, Obeys}
use Rattle.src_rules.specs.Standing.{HasType, IsSpotOf}
use Rattle.src_rules.specs.State.{state}
use Rattle.src_rules.specs.Step.{act}
use Rattle.src_values.specs.Control.{Found, Holds, Nothing, At, AtWith, Pending, In}
use Rattle.src_values.specs.Data as datum
use Rattle.src_values.specs.Data.{Datum}
use Rattle.src_values.specs.declared.objects.CopyOf.{CopyOf}
use Rattle.src_values.specs.declared.objects.Pointer.{Pointer}
use Rattle.src_values.specs.declared.objects.Pointer.TheVariants.{Into, Null}
use Rattle.src_values.specs.declared.objects.Spot.{Spot}
use Rattle.src_values.specs.declared.objects.Spot.TheVariants as spots
use Rattle.lower_trace.specs.Lowering.{IsLowerable}
use Rattle.lower_trace.proofs.CodeLeft.{Scene, base, core_in, ground_in, number}
use Rattle.lower_trace.proofs.Fitting.{pointer_at, value_at, width_is}
use Rattle.lower_trace.proofs.FixedCopies.{own_byte}
use Rattle.lower_trace.proofs.FixedPlaces.{own_spot}
use Rattle.lower_trace.proofs.Giving.{Around}
use Rattle.lower_trace.proofs.Known.{around, low, proper, small}
use Rattle.lower_trace.proofs.Leads.{Law, led_by, led_nowhere}
use Rattle.lower_trace.proofs.LedPointers.{element, index_two, points_there, points_to}
use Rattle.lower_trace.proofs.LedValues.{around_in}
use Rattle.lower_trace.proofs.Members.{address_most, byte_is_so, found_address}
use Rattle.lower_trace.proofs.Mirrors.{IsAt, core_byte}
use Rattle.lower_trace.proofs.Operations.{beyond_is}
use Rattle.lower_trace.proofs.PlaceSizes.{fixed_inside}
use Rattle.lower_trace.proofs.PointerSteps.{step_few, step_minus, step_moved}
use Rattle.lower_trace.proofs.PointerSums.{mover}
use Rattle.lower_trace.proofs.PointerUpdates.{update_moved}
use Rattle.lower_trace.proofs.Rooms.{pointer_is, two_parts, update_parts}
use Rattle.lower_trace.proofs.Scenes.{frame_is, scene_laws}

-- ---- rules
-- a step of a pointer goes on by what it counts in
step_counts : (p : Program) (op : StepOp) (place : Place) (operation : Ty) (size target line : ℕ) → Obeys p (tree.Step op place operation size (types.Pointer target) line) → (operation ≡ types.Pointer target) × (counts_in p (pointed p (types.Pointer target)) size ≡ true)
unfolding rule_holds
step_counts p op place operation size target line h =
    ⊎_elim
    (λ e. absurd (false≢true (and_parts (nat_eq size 0) (integer_step_fits (types.Pointer target) operation) e).1))
    (λ e. let d = and_parts (same_type operation (types.Pointer target)) (counts_in p (pointed p (types.Pointer target)) size) e in (same_type_is operation (types.Pointer target) d.0, d.1))
    (or_cases (nat_eq size 0 && integer_step_fits (types.Pointer target) operation) (same_type operation (types.Pointer target) && counts_in p (pointed p (types.Pointer target)) size) (and_parts _ _ h.1).1)

abbrev Updates : Program → BinOp → Ty → Ty → ℕ → ℕ → Type 0
Updates p op value operation size target = (moves_by op ≡ true) × (operation ≡ types.Pointer target) × (moves p (types.Pointer target) value size (types.Pointer target) ≡ true)

update_counts : (p : Program) (op : BinOp) (place : Place) (value : Expression) (operation : Ty) (size target line : ℕ) → Obeys p (tree.Update op place value operation size (types.Pointer target) line) → Updates p op (type_of value) operation size target
unfolding rule_holds
update_counts p op place value operation size target line h =
    ⊎_elim
    (λ e. absurd (false≢true (and_parts (nat_eq size 0) (integer_update_fits op (types.Pointer target) (type_of value) operation) e).1))
    (λ e.
    let d = and_parts (moves_by op) (same_type operation (types.Pointer target) && moves p (types.Pointer target) (type_of value) size (types.Pointer target)) e in
    let f = and_parts (same_type operation (types.Pointer target)) (moves p (types.Pointer target) (type_of value) size (types.Pointer target)) d.1 in
    (d.0, same_type_is operation (types.Pointer target) f.0, f.1))
    (or_cases (nat_eq size 0 && integer_update_fits op (types.Pointer target) (type_of value) operation) (moves_by op && (same_type operation (types.Pointer target) && moves p (types.Pointer target) (type_of value) size (types.Pointer target))) (and_parts _ _ h.1).1)

-- no integer is updated by a pointer
promoted_apart : (ty : Ty) → is_promoted ty ≡ true → is_pointer ty ≡ false
promoted_apart types.Void e = refl
promoted_apart (types.Int ty) e = refl
promoted_apart (types.Pointer row) e = absurd (false≢true e)
promoted_apart (types.Array element count size) e = refl
promoted_apart (types.Struct number) e = refl

value_apart : (shift : Bool) (op : BinOp) (ty operation : IntTy) (value : Ty) → (if shift then same_int operation (promoted ty) && is_promoted value else (not (compares op) && (same_type value (types.Int operation) && same_int operation (common ty operation)))) ≡ true → is_pointer value ≡ false
value_apart true op ty operation value e = promoted_apart value (and_parts (same_int operation (promoted ty)) (is_promoted value) e).1
value_apart false op ty operation value e = ap is_pointer (same_type_is value (types.Int operation) (and_parts (same_type value (types.Int operation)) _ (and_parts (not (compares op)) _ e).1).0)

integer_apart : (op : BinOp) (ty value operation : Ty) → integer_update_fits op ty value operation ≡ true → is_pointer value ≡ false
integer_apart op (types.Int t) value (types.Int o) e = value_apart (shifts op) op t o value e
integer_apart op (types.Int t) value types.Void e = absurd (false≢true e)
integer_apart op (types.Int t) value (types.Pointer row) e = absurd (false≢true e)
integer_apart op (types.Int t) value (types.Array element count size) e = absurd (false≢true e)
integer_apart op (types.Int t) value (types.Struct number) e = absurd (false≢true e)
integer_apart op types.Void value operation e = absurd (false≢true e)
integer_apart op (types.Pointer row) value operation e = absurd (false≢true e)
integer_apart op (types.Array element count size) value operation e = absurd (false≢true e)
integer_apart op (types.Struct number) value operation e = absurd (false≢true e)

-- ---- fixed places
member_fixed : (s : place.Spot) (offset : ℕ) (byte : code.Byte) → member_spot s offset ≡ Fixed byte → (b : code.Byte) × (s ≡ Fixed b)
member_fixed (Fixed b) offset byte e = (b, refl)
member_fixed (Bit register bit) offset byte e = absurd (cc)
member_fixed Computed offset byte e = absurd (cc)

fixed_form : (l : Layout) (n : ℕ) (sought : Place) (byte : code.Byte) → spot_of l n sought ≡ Fixed byte → form_of sought ≡ forms.Fixed
unfolding spot_of
fixed_form l n (tree.Name object ty line) byte e = refl
fixed_form l n (tree.Bit register bit line) byte e = absurd (cc)
fixed_form l n (tree.Member whole member offset ty line) byte e = let w = member_fixed (spot_of l n whole) offset byte e in ap member_form (fixed_form l n whole w.0 w.1)
fixed_form l n (tree.Deref pointer ty line) byte e = absurd (cc)

address_room : (s : place.Spot) (l : Layout) (n : ℕ) (sought : Place) → spot_of l n sought ≡ s → address_most s ≤ address_words (form_of sought)
address_room (Fixed byte) l n sought e = subst (λ f. 8 ≤ address_words f) (sym (fixed_form l n sought byte e)) (omega arith)
address_room (Bit register bit) l n sought e = omega arith
address_room Computed l n sought e = omega arith

module _ (z : Scene) (given : IsLowerable z.program z.copies) (input : All (λ byte. byte < 256) z.outside.input) where
  abbrev p : Program
  p = z.program

  abbrev sizes : List ℕ
  sizes = z.program.sizes

  -- ---- addresses
  address_valid : (sought : Place) (x : Pointer) (k : List Pending) (cp : CopyOf) (m : core_bytes.Memory) → Around z cp k → IsPlaceOf p cp.function sought → IsSpotOf p cp sought (spots.Memory x) → IsAt z (ground_in z cp).copy (base (ground_in z cp) k) (spot_of (ground_in z cp).layout (ground_in z cp).copy sought) (spots.Memory x) m
      → (byte : code.Byte) → spot_of (ground_in z cp).layout (ground_in z cp).copy sought ≡ Fixed byte → is_valid (core_in z).program (number z cp) byte ≡ true
  address_valid sought Null k cp m around place at is byte fixed =
      absurd (let none = subst (λ y. IsAt z (ground_in z cp).copy (base (ground_in z cp) k) y (spots.Memory Null) m) fixed is in cc)
  address_valid sought (Into o f) k cp m around place at is byte fixed =
      let g = ground_in z cp in
      let here = byte_is_so (core_byte z o f) byte (subst (λ y. IsAt z g.copy (base g k) y (spots.Memory (Into o f)) m) fixed is) in
      let own = own_spot z cp g.layout g.copy sought byte (spots.Memory (Into o f)) fixed around.reached place at in
      let inside = fixed_inside p given.typed given.same given.sound (any_small p (proper z given input)) cp sought (spots.Memory (Into o f)) around.reached place (fixed_form g.layout g.copy sought byte fixed) at in
      let lowest = low z given input cp around.reached in
      let frame = frame_is z given cp around.reached in
      ap (is_valid (core_in z).program (number z cp)) (sym here) ∙ (own_byte z (scene_laws z given) cp k o f around own (omega (arith, inside)) (omega (arith, lowest, frame))).valid

  -- The address of a place is taken.
  pub place_addresses : (place : Place) (ty : Ty) (line : ℕ) (spot : Spot) (k : List Pending) → Law z (Found spot) (In (tree.Address place ty line) Nothing ∷ k)
  unfolding act room
  place_addresses place ty line (spots.Memory x) k cp l w c known due h =
      let e = tree.Address place ty line in
      let s = known.stands in
      let g = ground_in z cp in
      let at = subst (λ y. IsSpotOf p cp y (spots.Memory x)) s.focus.1 s.focus.2 in
      let a = around_in z cp e Nothing k (around z given input (state cp (Found (spots.Memory x)) (In e Nothing ∷ k) l w) known) in
      let f = frame_is z given cp s.reached in
      let fits = known.stack.0 in
      let parts = (two_parts (place_room sizes place) 2).1 in
      led_by z _ _ (address_most (spot_of g.layout g.copy place)) 0 c _ (address_room (spot_of g.layout g.copy place) g.layout g.copy place refl) (omega arith)
      (found_address z (scene_laws z given) place ty line (spots.Memory x) k cp l w c a (address_valid place x k cp c.memory a s.stack.0.1 at (h.value place refl)) (omega arith) due h)
  place_addresses place ty line (spots.Device address) k cp l w c known due h = led_nowhere z _ _ c _ (λ q l. tt)
  place_addresses place ty line (spots.Bit register bit) k cp l w c known due h = led_nowhere z _ _ c _ (λ q l. tt)

  -- ---- a step
  step_on : (op : StepOp) (place : Place) (size target line : ℕ) (spot : Spot) (x : Pointer) (k : List Pending) → counts_in p (pointed p (types.Pointer target)) size ≡ true → Law z (Holds (datum.Pointer x)) (In (tree.Step op place (types.Pointer target) size (types.Pointer target) line) (At spot) ∷ k)
  unfolding act room
  step_on op place size target line spot x k counts cp l w c known due h =
      let ty = types.Pointer target in
      let e = tree.Step op place ty size ty line in
      let s = known.stands in
      let g = ground_in z cp in
      let b = base g k in
      let r = step_rule p op place ty size ty line s.stack.0.0 in
      let counted = element z given input ty size counts in
      let less = small z given input cp s.reached in
      let f = frame_is z given cp s.reached in
      let fits = known.stack.0 in
      let t = subst (λ y. HasType p y (datum.Pointer x)) s.focus.1 s.focus.2 in
      let q = (update_parts (place_room sizes place) (form_of place) (place_bytes sizes place) 2 2 2).2 in
      let pb = pointer_is g.layout g.copy place in
      let at = pointer_at z cp less b place (omega arith) in
      let wide = width_is z cp ty (omega arith) in
      let bytes = ap (type_bytes sizes) r.0 in
      let place_wide = width_is z cp (place_type place).ty (omega arith) in
      let left = beyond_is (behind_pointer g.layout g.copy b place) (width g.layout ty) (omega arith) in
      let front = pointer_bytes (spot_of g.layout g.copy place) in
      led_by z _ _ 44 0 c _ (omega arith) (omega arith)
      (step_moved z (scene_laws z given) op place target size line spot x (b + front + 2) (b + front) 2 k cp l w c counted.0 (λ y is. step_few z (step_minus op) x y size (any_small p (proper z given input)) t.1 is) (points_there p x t.1) wide (left ∙ (omega arith)) at
      (record {
        around = around_in z cp e (At spot) k (around z given input (state cp (Holds (datum.Pointer x)) (In e (At spot) ∷ k) l w) known);
        target = target;
        place = r.0;
        wide = place_wide ∙ bytes;
        count_is = refl;
        right_is = refl;
        left_is = refl;
        room = omega arith;
      }) due h)

  step_to : (op : StepOp) (place : Place) (operation : Ty) (size target line : ℕ) (spot : Spot) (x : Pointer) (k : List Pending) → (operation ≡ types.Pointer target) × (counts_in p (pointed p (types.Pointer target)) size ≡ true) → Law z (Holds (datum.Pointer x)) (In (tree.Step op place operation size (types.Pointer target) line) (At spot) ∷ k)
  step_to op place operation size target line spot x k rule =
      subst (λ y. Law z (Holds (datum.Pointer x)) (In (tree.Step op place y size (types.Pointer target) line) (At spot) ∷ k)) (sym rule.0) (step_on op place size target line spot x k rule.1)

  -- `++` or `--` of a pointer has its value.
  pub pointer_steps : (op : StepOp) (place : Place) (operation : Ty) (size : ℕ) (ty : Ty) (line : ℕ) (spot : Spot) (x : Pointer) (k : List Pending) → Law z (Holds (datum.Pointer x)) (In (tree.Step op place operation size ty line) (At spot) ∷ k)
  pointer_steps op place operation size ty line spot x k cp l w c known due h =
      let s = known.stands in
      let t = subst (λ y. HasType p y (datum.Pointer x)) s.focus.1 s.focus.2 in
      let to = points_to ty t.0 in
      let rule = step_counts p op place operation size to.target line (subst (λ y. Obeys p (tree.Step op place operation size y line)) to.is s.stack.0.0) in
      subst (λ y. Law z (Holds (datum.Pointer x)) (In (tree.Step op place operation size y line) (At spot) ∷ k)) (sym to.is) (step_to op place operation size to.target line spot x k rule) cp l w c known due h

  -- ---- an update
  update_on : (minus : Bool) (place : Place) (right : Expression) (size target line : ℕ) (spot : Spot) (q : Quantity) (x : Pointer) (k : List Pending) → moves p (types.Pointer target) (type_of right) size (types.Pointer target) ≡ true
      → Law z (Holds (datum.Pointer x)) (In (tree.Update (mover minus) place right (types.Pointer target) size (types.Pointer target) line) (AtWith spot (datum.Number q)) ∷ k)
  unfolding act room
  update_on minus place right size target line spot q x k rule cp l w c known due h =
      let ty = types.Pointer target in
      let e = tree.Update (mover minus) place right ty size ty line in
      let s = known.stands in
      let g = ground_in z cp in
      let b = base g k in
      let r = update_rule p (mover minus) place right ty size ty line s.stack.0.0 in
      let a = and_parts (is_index (type_of right)) (counts_in p (pointed p ty) size && same_type ty ty) rule in
      let counted = element z given input ty size (and_parts (counts_in p (pointed p ty) size) (same_type ty ty) a.1).0 in
      let u = s.stack.2.1 in
      let two = index_two q.ty (subst (λ y. is_index y ≡ true) u.0 a.0) in
      let less = small z given input cp s.reached in
      let f = frame_is z given cp s.reached in
      let fits = known.stack.0 in
      let t = subst (λ v. HasType p v (datum.Pointer x)) s.focus.1 s.focus.2 in
      let parts = (update_parts (place_room sizes place) (form_of place) (place_bytes sizes place) (room sizes right) (value_bytes sizes right) 2).2 in
      let pb = pointer_is g.layout g.copy place in
      let at = pointer_at z cp less b place (omega arith) in
      let right_bytes = ap (type_bytes sizes) u.0 in
      let bytes = ap (type_bytes sizes) r.0 in
      let place_wide = width_is z cp (place_type place).ty (omega arith) in
      let left = value_at z cp less (behind_pointer g.layout g.copy b place) right (omega arith) in
      let front = pointer_bytes (spot_of g.layout g.copy place) in
      led_by z _ _ 1632 0 c _ (omega arith) (omega arith)
      (update_moved z (scene_laws z given) minus place right target size line spot x q (b + front + 2) (b + front) 2 k cp l w c two u.1 counted.0 counted.1 (points_there p x t.1) (left ∙ (omega arith)) at
      (record {
        around = around_in z cp e (AtWith spot (datum.Number q)) k (around z given input (state cp (Holds (datum.Pointer x)) (In e (AtWith spot (datum.Number q)) ∷ k) l w) known);
        target = target;
        place = r.0;
        wide = place_wide ∙ bytes;
        count_is = refl;
        right_is = refl;
        left_is = refl;
        room = omega arith;
      }) due h)

  update_by : (op : BinOp) (place : Place) (right : Expression) (size target line : ℕ) (spot : Spot) (q : Quantity) (x : Pointer) (k : List Pending) → moves_by op ≡ true → moves p (types.Pointer target) (type_of right) size (types.Pointer target) ≡ true
      → Law z (Holds (datum.Pointer x)) (In (tree.Update op place right (types.Pointer target) size (types.Pointer target) line) (AtWith spot (datum.Number q)) ∷ k)
  update_by ops.Add place right size target line spot q x k by rule = update_on false place right size target line spot q x k rule
  update_by ops.Sub place right size target line spot q x k by rule = update_on true place right size target line spot q x k rule
  update_by _ place right size target line spot q x k by rule = absurd (false≢true by)

  update_to : (op : BinOp) (place : Place) (right : Expression) (operation : Ty) (size target line : ℕ) (spot : Spot) (q : Quantity) (x : Pointer) (k : List Pending) → Updates p op (type_of right) operation size target → Law z (Holds (datum.Pointer x)) (In (tree.Update op place right operation size (types.Pointer target) line) (AtWith spot (datum.Number q)) ∷ k)
  update_to op place right operation size target line spot q x k rule =
      subst (λ y. Law z (Holds (datum.Pointer x)) (In (tree.Update op place right y size (types.Pointer target) line) (AtWith spot (datum.Number q)) ∷ k)) (sym rule.1) (update_by op place right size target line spot q x k rule.0 rule.2)

  -- A pointer is moved where it stands.
  pub pointer_updates : (op : BinOp) (place : Place) (right : Expression) (operation : Ty) (size : ℕ) (ty : Ty) (line : ℕ) (spot : Spot) (q : Quantity) (x : Pointer) (k : List Pending) → Law z (Holds (datum.Pointer x)) (In (tree.Update op place right operation size ty line) (AtWith spot (datum.Number q)) ∷ k)
  pointer_updates op place right operation size ty line spot q x k cp l w c known due h =
      let s = known.stands in
      let t = subst (λ y. HasType p y (datum.Pointer x)) s.focus.1 s.focus.2 in
      let to = points_to ty t.0 in
      let rule = update_counts p op place right operation size to.target line (subst (λ y. Obeys p (tree.Update op place right operation size y line)) to.is s.stack.0.0) in
      subst (λ y. Law z (Holds (datum.Pointer x)) (In (tree.Update op place right operation size y line) (AtWith spot (datum.Number q)) ∷ k)) (sym to.is) (update_to op place right operation size to.target line spot q x k rule) cp l w c known due h

  -- nothing is updated by a pointer
  pub updates_apart : (op : BinOp) (place : Place) (right : Expression) (operation : Ty) (size : ℕ) (ty : Ty) (line : ℕ) (spot : Spot) (y : Pointer) (v : Datum) (k : List Pending) → Law z (Holds v) (In (tree.Update op place right operation size ty line) (AtWith spot (datum.Pointer y)) ∷ k)
  updates_apart op place right operation size ty line spot y v k cp l w c known due h =
      let s = known.stands in
      let pointer = s.stack.2.1.0 in
      absurd (false≢true (sym (
      ⊎_elim
      (λ e. integer_apart op ty (type_of right) operation e)
      (λ e. (moves_rule p ty (type_of right) size ty e.1).1)
      (update_rule p op place right operation size ty line s.stack.0.0).1) ∙ pointer))

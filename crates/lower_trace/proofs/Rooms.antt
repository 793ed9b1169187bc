-- The temporary bytes of a node have room for those of its parts and for its values.
use Rattle.std.proofs.Common.{◌≡◌, ℕ, ◌+◌, ◌*◌, ◌≤◌, ◌<◌, Bool, true, false, ◌&&◌, List, refl, sym, ap, ◌∙◌, subst, ⊎_elim, arith}
use Rattle.std.proofs.Math.Nat.{le-max_left, le-max_right}
use Rattle.std.proofs.lemmas.Bool.{and_parts}
use Rattle.std.specs.Prelude.{max}
use Rattle.c_ints.specs.Range.{bytes_of}
use Rattle.c_ints.specs.declared.operators.UnOp.{UnOp}
use Rattle.c_ints.specs.declared.operators.UnOp.TheVariants as unop
use Rattle.c_ints.specs.declared.types.IntTy.TheVariants as int
use Rattle.c_typed.specs.Fits.{place_rule_holds}
use Rattle.c_typed.specs.Room.{address_bytes, read_room, unary_room, binary_room, assign_room, struct_room, update_room, room, place_room, arguments_room, arguments_bytes}
use Rattle.c_typed.specs.Rules.{unary_fits}
use Rattle.c_typed.specs.Sameness.{is_pointer, is_plain_int, same_int}
use Rattle.c_typed.specs.Trees as tree
use Rattle.c_typed.specs.Trees.{Expression, Expressions, Place, Program}
use Rattle.c_typed.specs.Types.{type_bytes, type_of, place_type, value_bytes, place_bytes, form_of, member_form}
use Rattle.c_typed.specs.declared.expression.PlaceForm.{PlaceForm}
use Rattle.c_typed.specs.declared.expression.PlaceForm.TheVariants as forms
use Rattle.c_typed.specs.declared.types.Ty.{Ty}
use Rattle.c_typed.specs.declared.types.Ty.TheVariants as types
use Rattle.lower_expr.specs.Layout.{Layout}
use Rattle.lower_expr.specs.Spots.{spot_of, member_spot, pointer_bytes}
use Rattle.lower_expr.specs.declared.places.Spot as place
use Rattle.lower_expr.specs.declared.places.Spot.TheVariants.{Fixed, Bit, Computed}
use Rattle.src_rules.proofs.Rules.{address_rule, unary_rule, choice_rule, comma_rule, assign_rule, update_rule, step_rule, the_pointer}
use Rattle.src_rules.specs.Parts.{Obeys, ObeysIn, IsExpressionOf, IsPlaceOf}

-- ---- greatest numbers
pub read_parts : (place : ℕ) (form : PlaceForm) (bytes : ℕ) → (place ≤ read_room place form bytes) × (address_bytes form + bytes ≤ read_room place form bytes)
read_parts place form bytes = (le-max_left place (address_bytes form + bytes), le-max_right place (address_bytes form + bytes))

pub two_parts : (a b : ℕ) → (a ≤ max a b) × (b ≤ max a b)
two_parts a b = (le-max_left a b, le-max_right a b)

pub three_parts : (a b c : ℕ) → (a ≤ max a (max b c)) × (b ≤ max a (max b c)) × (c ≤ max a (max b c))
three_parts a b c =
    let x = le-max_left a (max b c) in
    let y = le-max_right a (max b c) in
    let p = le-max_left b c in
    let q = le-max_right b c in
    (x, omega (arith, y, p), omega (arith, y, q))

pub unary_parts : (op : UnOp) (a n m : ℕ) → (a ≤ unary_room op a n m) × (n ≤ unary_room op a n m)
unary_parts unop.Plus a n m = let q = le-max_right a (n + m) in (le-max_left a (n + m), omega (arith, q))
unary_parts unop.Minus a n m = let q = le-max_right a (n + m) in (le-max_left a (n + m), omega (arith, q))
unary_parts unop.Not a n m = let q = le-max_right a (n + m) in (le-max_left a (n + m), omega (arith, q))
unary_parts unop.Bang a n m = let q = le-max_right a (n + 2) in (le-max_left a (n + 2), omega (arith, q))

pub binary_parts : (a n b m t : ℕ) → (a ≤ binary_room a n b m t) × (n + b ≤ binary_room a n b m t) × (n + m + t + 2 ≤ binary_room a n b m t)
binary_parts a n b m t = three_parts a (n + b) (n + m + t + 2)

pub assign_parts : (a : ℕ) (form : PlaceForm) (b n : ℕ) → (a ≤ assign_room a form b n) × (address_bytes form + b ≤ assign_room a form b n) × (address_bytes form + n + 2 ≤ assign_room a form b n)
assign_parts a form b n = three_parts a (address_bytes form + b) (address_bytes form + n + 2)

pub struct_parts : (a : ℕ) (form : PlaceForm) (b : ℕ) (from : PlaceForm) → (a ≤ struct_room a form b from) × (address_bytes form + b ≤ struct_room a form b from) × (address_bytes form + address_bytes from + 2 ≤ struct_room a form b from)
struct_parts a form b from = three_parts a (address_bytes form + b) (address_bytes form + address_bytes from + 2)

pub update_parts : (a : ℕ) (form : PlaceForm) (n b m t : ℕ) → (a ≤ update_room a form n b m t) × (address_bytes form + b ≤ update_room a form n b m t) × (address_bytes form + m + n + 3 * t + 2 ≤ update_room a form n b m t)
update_parts a form n b m t = three_parts a (address_bytes form + b) (address_bytes form + m + n + 3 * t + 2)

-- ---- forms
-- what byte code finds a place to be
abbrev form_spot : place.Spot → PlaceForm
form_spot (Fixed byte) = forms.Fixed
form_spot (Bit register bit) = forms.Bit
form_spot Computed = forms.Computed

member_form_is : (s : place.Spot) (offset : ℕ) → form_spot (member_spot s offset) ≡ member_form (form_spot s)
member_form_is (Fixed byte) offset = refl
member_form_is (Bit register bit) offset = refl
member_form_is Computed offset = refl

form_is : (l : Layout) (n : ℕ) (p : Place) → form_spot (spot_of l n p) ≡ form_of p
unfolding spot_of
form_is l n (tree.Name object ty line) = refl
form_is l n (tree.Bit register bit line) = refl
form_is l n (tree.Member whole member offset ty line) = member_form_is (spot_of l n whole) offset ∙ ap member_form (form_is l n whole)
form_is l n (tree.Deref pointer ty line) = refl

address_is : (s : place.Spot) → pointer_bytes s ≡ address_bytes (form_spot s)
address_is (Fixed byte) = refl
address_is (Bit register bit) = refl
address_is Computed = refl

pub pointer_is : (l : Layout) (n : ℕ) (p : Place) → pointer_bytes (spot_of l n p) ≡ address_bytes (form_of p)
pointer_is l n p = address_is (spot_of l n p) ∙ ap address_bytes (form_is l n p)

pub pointer_few : (s : place.Spot) → pointer_bytes s ≤ 2
pointer_few (Fixed byte) = omega arith
pointer_few (Bit register bit) = omega arith
pointer_few Computed = omega arith

-- ---- values
plain_bytes : (sizes : List ℕ) (ty : Ty) → is_plain_int ty ≡ true → type_bytes sizes ty ≤ 2
plain_bytes sizes types.Void e = absurd (cc)
plain_bytes sizes (types.Int int.Char) e = absurd (cc)
plain_bytes sizes (types.Int int.SChar) e = absurd (cc)
plain_bytes sizes (types.Int int.UChar) e = absurd (cc)
plain_bytes sizes (types.Int int.Short) e = absurd (cc)
plain_bytes sizes (types.Int int.UShort) e = absurd (cc)
plain_bytes sizes (types.Int int.Int) e = omega arith
plain_bytes sizes (types.Int int.UInt) e = absurd (cc)
plain_bytes sizes (types.Int int.Long) e = absurd (cc)
plain_bytes sizes (types.Int int.ULong) e = absurd (cc)
plain_bytes sizes (types.Pointer row) e = absurd (cc)
plain_bytes sizes (types.Array element length size) e = absurd (cc)
plain_bytes sizes (types.Struct number) e = absurd (cc)

pub pointer_bytes_are : (sizes : List ℕ) (ty : Ty) → is_pointer ty ≡ true → type_bytes sizes ty ≡ 2
pointer_bytes_are sizes types.Void e = absurd (cc)
pointer_bytes_are sizes (types.Int ty) e = absurd (cc)
pointer_bytes_are sizes (types.Pointer row) e = refl
pointer_bytes_are sizes (types.Array element length size) e = absurd (cc)
pointer_bytes_are sizes (types.Struct number) e = absurd (cc)

-- a value has no more bytes than its expression has room
pub value_room : (p : Program) (f : ℕ) (e : Expression) → IsExpressionOf p f e → value_bytes p.sizes e ≤ room p.sizes e
unfolding room
value_room p f (tree.Constant value line) h = omega arith
value_room p f (tree.Read place ty line) h = let q = (read_parts (place_room p.sizes place) (form_of place) (type_bytes p.sizes ty)).1 in omega (arith, q)
value_room p f (tree.Address place ty line) h =
    let r = address_rule p place ty line h.0 in
    let b = pointer_bytes_are p.sizes ty r.0 in
    let q = (two_parts (place_room p.sizes place) 2).1 in
    omega (arith, b, q)
value_room p f (tree.Convert operand ty line) h = let q = (two_parts (room p.sizes operand) (value_bytes p.sizes operand + type_bytes p.sizes ty)).1 in omega (arith, q)
value_room p f (tree.Cast operand ty line) h = let q = (two_parts (room p.sizes operand) (value_bytes p.sizes operand + type_bytes p.sizes ty)).1 in omega (arith, q)
value_room p f (tree.Unary op operand ty line) h = unary_case op (unary_rule p op operand ty line h.0)
  where
    unary_case : (op : UnOp) → unary_fits op (type_of operand) ty ≡ true → type_bytes p.sizes ty ≤ unary_room op (room p.sizes operand) (value_bytes p.sizes operand) (type_bytes p.sizes ty)
    unary_case unop.Plus r = let q = le-max_right (room p.sizes operand) (value_bytes p.sizes operand + type_bytes p.sizes ty) in omega (arith, q)
    unary_case unop.Minus r = let q = le-max_right (room p.sizes operand) (value_bytes p.sizes operand + type_bytes p.sizes ty) in omega (arith, q)
    unary_case unop.Not r = let q = le-max_right (room p.sizes operand) (value_bytes p.sizes operand + type_bytes p.sizes ty) in omega (arith, q)
    unary_case unop.Bang r = let q = le-max_right (room p.sizes operand) (value_bytes p.sizes operand + 2) in let b = plain_bytes p.sizes ty (and_parts _ _ r).1 in omega (arith, q, b)
value_room p f (tree.Binary op left right ty line) h = let q = (binary_parts (room p.sizes left) (value_bytes p.sizes left) (room p.sizes right) (value_bytes p.sizes right) (type_bytes p.sizes ty)).2 in omega (arith, q)
value_room p f (tree.Offset op left right size ty line) h = let q = (binary_parts (room p.sizes left) (value_bytes p.sizes left) (room p.sizes right) (value_bytes p.sizes right) (type_bytes p.sizes ty)).2 in omega (arith, q)
value_room p f (tree.Difference left right size line) h = let q = (binary_parts (room p.sizes left) (value_bytes p.sizes left) (room p.sizes right) (value_bytes p.sizes right) 2).2 in omega (arith, q)
value_room p f (tree.Logical op left right line) h = let q = (three_parts (room p.sizes left) (room p.sizes right) 2).2 in omega (arith, q)
value_room p f (tree.Conditional condition chosen otherwise ty line) h =
    let r = choice_rule p condition chosen otherwise ty line h.0 in
    let b = ap (type_bytes p.sizes) r.0 in
    let v = value_room p f chosen h.2 in
    let q = (three_parts (room p.sizes condition) (room p.sizes chosen) (room p.sizes otherwise)).1 in
    omega (arith, b, v, q)
value_room p f (tree.Comma left right ty line) h =
    let b = ap (type_bytes p.sizes) (comma_rule p left right ty line h.0) in
    let v = value_room p f right h.2 in
    let q = (two_parts (room p.sizes left) (room p.sizes right)).1 in
    omega (arith, b, v, q)
value_room p f (tree.Assign place value ty line) h =
    let r = assign_rule p place value ty line h.0 in
    let b = ap (type_bytes p.sizes) r.1 in
    let q = (assign_parts (place_room p.sizes place) (form_of place) (room p.sizes value) (value_bytes p.sizes value)).2 in
    omega (arith, b, q)
value_room p f (tree.StructAssign place from size line) h = omega arith
value_room p f (tree.Update op place value operation size ty line) h =
    let r = update_rule p op place value operation size ty line h.0 in
    let b = ap (type_bytes p.sizes) r.0 in
    let q = (update_parts (place_room p.sizes place) (form_of place) (place_bytes p.sizes place) (room p.sizes value) (value_bytes p.sizes value) (type_bytes p.sizes operation)).2 in
    omega (arith, b, q)
value_room p f (tree.Step op place operation size ty line) h =
    let r = step_rule p op place operation size ty line h.0 in
    let b = ap (type_bytes p.sizes) r.0 in
    let q = (update_parts (place_room p.sizes place) (form_of place) (place_bytes p.sizes place) 2 2 (type_bytes p.sizes operation)).2 in
    omega (arith, b, q)
value_room p f (tree.Call function arguments ty line) h = let q = (three_parts (arguments_room p.sizes 0 arguments) (arguments_bytes p.sizes arguments) (type_bytes p.sizes ty)).2 in omega (arith, q)

-- ---- places that are computed
-- a bit has no members
no_member : (p : Program) (f : ℕ) (whole : Place) (member offset : ℕ) (ty : _) (line : ℕ) → ObeysIn p f (tree.Member whole member offset ty line) → form_of whole ≡ forms.Bit → ⊥
unfolding place_rule_holds
no_member p f (tree.Name object t l) member offset ty line h e = cc
no_member p f (tree.Bit register bit l) member offset ty line h e = cc
no_member p f (tree.Member w m o t l) member offset ty line h e = no_bit (form_of w) e
  where
    no_bit : (form : PlaceForm) → member_form form ≡ forms.Bit → ⊥
    no_bit forms.Fixed q = cc
    no_bit forms.Bit q = cc
    no_bit forms.Computed q = cc
no_member p f (tree.Deref pointer t l) member offset ty line h e = cc

-- a pointer stands where a computed place was found, so there is room for it
pub computed_room : (p : Program) (f : ℕ) (place : Place) → IsPlaceOf p f place → address_bytes (form_of place) ≤ place_room p.sizes place
unfolding room place_rule_holds
computed_room p f (tree.Name object ty line) h = omega arith
computed_room p f (tree.Bit register bit line) h = omega arith
computed_room p f (tree.Member whole member offset ty line) h = by_form (form_of whole) refl (computed_room p f whole h.1)
  where
    by_form : (form : PlaceForm) → form_of whole ≡ form → address_bytes (form_of whole) ≤ place_room p.sizes whole → address_bytes (member_form form) ≤ place_room p.sizes whole
    by_form forms.Fixed e r = omega arith
    by_form forms.Bit e r = absurd (no_member p f whole member offset ty line h.0 e)
    by_form forms.Computed e r = let a = ap address_bytes e in omega (arith, r, a)
computed_room p f (tree.Deref pointer ty line) h =
    let v = value_room p f pointer h.1 in
    let b = pointer_bytes_are p.sizes (type_of pointer) (the_pointer p (type_of pointer) ty (and_parts _ _ h.0).0) in
    omega (arith, v, b)

-- How many bytes places have: each that isn't an array without a length has one at least, and one that no pointer leads to lies within its object.
use Rattle.std.proofs.Common.{◌≡◌, ℕ, ◌+◌, ◌<◌, ◌≤◌, Bool, true, false, ◌&&◌, ◌||◌, if◌then◌else◌, nat_eq, pos, ◌+ℤ◌, List, length, Option, Some, None, slice_get, refl, sym, ap, ◌∙◌, subst, ⊎_elim, arith}
use Rattle.std.proofs.lemmas.Bool.{and_parts, or_cases, false≢true}
use Rattle.std.proofs.lemmas.Option.{slice_get_within}
use Rattle.std.specs.Option.{option_map}
use Rattle.std.specs.Ordering.{int_eq}
use Rattle.std.specs.Prelude.{int_lt, unwrap_or}
use Rattle.c_typed.specs.Fits.{declared_type, is_device, is_named, is_open, is_open_array, member_at, names_local, place_rule_holds, register_type, static_type, variable_type}
use Rattle.c_typed.specs.Rules.{member_fits}
use Rattle.c_typed.specs.Sameness.{is_array, is_complete, is_the, members_in, pointed, same_flag, same_qualified, same_type}
use Rattle.c_typed.specs.Sound.{is_sound}
use Rattle.c_typed.specs.Trees as tree
use Rattle.c_typed.specs.Trees.{MemberTree, Place, Program, StaticTree, StructureTree, VariableTree}
use Rattle.c_typed.specs.Types.{form_of, member_form, place_type, type_bytes, type_of}
use Rattle.c_typed.specs.Views.{program_of}
use Rattle.c_typed.specs.declared.Typed.{Typed}
use Rattle.c_typed.specs.declared.expression.Object.{Object as Name}
use Rattle.c_typed.specs.declared.expression.Object.TheVariants as names
use Rattle.c_typed.specs.declared.expression.PlaceForm.{PlaceForm}
use Rattle.c_typed.specs.declared.expression.PlaceForm.TheVariants as forms
use Rattle.c_typed.specs.declared.types.Qualified.{Qualified}
use Rattle.c_typed.specs.declared.types.Ty.{Ty}
use Rattle.c_typed.specs.declared.types.Ty.TheVariants as types
use Rattle.src_rules.proofs.Places.{name_placed}
use Rattle.src_rules.proofs.Starts.{function_there}
use Rattle.src_rules.proofs.Stepping.{get_front}
use Rattle.src_rules.proofs.Values.{same_type_is}
use Rattle.src_rules.proofs.Writing.{get_behind}
use Rattle.src_rules.specs.Parts.{IsPlaceOf}
use Rattle.src_rules.specs.Standing.{IsReached, IsSpotOf}
use Rattle.src_values.specs.Objects.{bytes_of_static, bytes_of_variable, function_at, moved, object_bytes, spot_of}
use Rattle.src_values.specs.declared.objects.CopyOf.{CopyOf}
use Rattle.src_values.specs.declared.objects.Object.{Object}
use Rattle.src_values.specs.declared.objects.Object.TheVariants as objects
use Rattle.src_values.specs.declared.objects.Pointer.{Pointer}
use Rattle.src_values.specs.declared.objects.Pointer.TheVariants.{Into, Null}
use Rattle.src_values.specs.declared.objects.Spot.{Spot}
use Rattle.src_values.specs.declared.objects.Spot.TheVariants as spots
use Rattle.lower_trace.proofs.TypeSizes.{local_has, member_has, member_within, object_some, param_has, size_is, static_has, structure_there, target_has}
use Rattle.lower_trace.proofs.Written.{same_nat}

-- ---- names
-- so many bytes has what a name stands for
abbrev any_bytes : List ℕ → Option Qualified → ℕ
any_bytes sizes None = 0
any_bytes sizes (Some t) = type_bytes sizes t.ty

-- an array without a length has no bytes
open_none : (sizes : List ℕ) (a : ℕ) (ty : Ty) → is_open_array a ty ≡ true → type_bytes sizes ty ≡ 0
open_none sizes a types.Void e = absurd (false≢true e)
open_none sizes a (types.Int ty) e = absurd (false≢true e)
open_none sizes a (types.Pointer row) e = absurd (false≢true e)
open_none sizes a (types.Array b n y) e = same_nat y 0 (and_parts (nat_eq n 0) (nat_eq y 0) (and_parts (nat_eq a b) (nat_eq n 0 && nat_eq y 0) e).1).1
open_none sizes a (types.Struct n) e = absurd (false≢true e)

opened_none : (sizes : List ℕ) (declared ty : Ty) → is_open declared ty ≡ true → type_bytes sizes ty ≡ 0
opened_none sizes types.Void ty e = absurd (false≢true e)
opened_none sizes (types.Int i) ty e = absurd (false≢true e)
opened_none sizes (types.Pointer row) ty e = absurd (false≢true e)
opened_none sizes (types.Array a n y) ty e = open_none sizes a ty e
opened_none sizes (types.Struct n) ty e = absurd (false≢true e)

open_array : (a : ℕ) (ty : Ty) → is_open_array a ty ≡ true → is_array ty ≡ true
open_array a types.Void e = absurd (false≢true e)
open_array a (types.Int ty) e = absurd (false≢true e)
open_array a (types.Pointer row) e = absurd (false≢true e)
open_array a (types.Array b n y) e = refl
open_array a (types.Struct n) e = absurd (false≢true e)

opened_array : (declared ty : Ty) → is_open declared ty ≡ true → is_array ty ≡ true
opened_array types.Void ty e = absurd (false≢true e)
opened_array (types.Int i) ty e = absurd (false≢true e)
opened_array (types.Pointer row) ty e = absurd (false≢true e)
opened_array (types.Array a n y) ty e = open_array a ty e
opened_array (types.Struct n) ty e = absurd (false≢true e)

-- a name has as many bytes as it is declared with, or none
named_bytes : (sizes : List ℕ) (local : Bool) (o : Option Qualified) (ty : Qualified) → is_named local o ty ≡ true → type_bytes sizes ty.ty ≤ any_bytes sizes o
named_bytes sizes local None ty e = absurd (false≢true e)
named_bytes sizes local (Some d) ty e =
    ⊎_elim
    (λ h. let q = ap (type_bytes sizes) (same_type_is d.ty ty.ty (and_parts (same_type d.ty ty.ty) _ h).0) in omega (arith, q))
    (λ h. let q = opened_none sizes d.ty ty.ty (and_parts (is_open d.ty ty.ty) _ (and_parts local _ h).1).0 in omega (arith, q))
    (or_cases (same_qualified d ty) (local && (is_open d.ty ty.ty && (same_flag d.constant ty.constant && same_flag d.volatile ty.volatile))) e)

named_same : (sizes : List ℕ) (local : Bool) (o : Option Qualified) (ty : Qualified) → is_named local o ty ≡ true → is_array ty.ty ≡ false → type_bytes sizes ty.ty ≡ any_bytes sizes o
named_same sizes local None ty e plain = absurd (false≢true e)
named_same sizes local (Some d) ty e plain =
    ⊎_elim
    (λ h. sym (ap (type_bytes sizes) (same_type_is d.ty ty.ty (and_parts (same_type d.ty ty.ty) _ h).0)))
    (λ h. absurd (false≢true (sym plain ∙ opened_array d.ty ty.ty (and_parts (is_open d.ty ty.ty) _ (and_parts local _ h).1).0)))
    (or_cases (same_qualified d ty) (local && (is_open d.ty ty.ty && (same_flag d.constant ty.constant && same_flag d.volatile ty.volatile))) e)

static_any : (sizes : List ℕ) (o : Option StaticTree) → any_bytes sizes (option_map static_type o) ≡ bytes_of_static sizes o
static_any sizes None = refl
static_any sizes (Some s) = refl

variable_any : (sizes : List ℕ) (o : Option VariableTree) → any_bytes sizes (option_map variable_type o) ≡ bytes_of_variable sizes o
variable_any sizes None = refl
variable_any sizes (Some v) = refl

param_there : (o : Option VariableTree) (xs : List VariableTree) (n : ℕ) (ty : Qualified) → slice_get xs n ≡ o → is_named false (option_map variable_type o) ty ≡ true → n < length xs
param_there None xs n ty is e = absurd (false≢true e)
param_there (Some v) xs n ty is e = slice_get_within xs n v is

-- ---- where so many bytes are
abbrev pub HasBytes : Program → Spot → ℕ → Type 0
HasBytes p (spots.Device address) n = Unit {0}
HasBytes p (spots.Bit register number) n = Unit {0}
HasBytes p (spots.Memory Null) n = Unit {0}
HasBytes p (spots.Memory (Into o f)) n = f + n ≤ object_bytes p o

fewer_bytes : (p : Program) (spot : Spot) (n m : ℕ) → m ≤ n → HasBytes p spot n → HasBytes p spot m
fewer_bytes p (spots.Device address) n m le h = tt
fewer_bytes p (spots.Bit register number) n m le h = tt
fewer_bytes p (spots.Memory Null) n m le h = tt
fewer_bytes p (spots.Memory (Into o f)) n m le h = omega (arith, le, h)

some_pointer : (a b : Pointer) → Some a ≡ Some b → a ≡ b
some_pointer a b e = ap (λ x. unwrap_or x a) e

range_bytes : (p : Program) (o : Object) (t b : ℕ) (out : Bool) (y : Pointer) → t + b ≤ object_bytes p o → (if out then None else Some (Into o t)) ≡ Some y → HasBytes p (spots.Memory y) b
range_bytes p o t b true y le e = absurd (cc)
range_bytes p o t b false y le e = subst (λ x. HasBytes p (spots.Memory x) b) (some_pointer (Into o t) y e) le

null_bytes : (p : Program) (b : ℕ) (zero : Bool) (y : Pointer) → (if zero then Some Null else None) ≡ Some y → HasBytes p (spots.Memory y) b
null_bytes p b true y e = subst (λ x. HasBytes p (spots.Memory x) b) (some_pointer Null y e) tt
null_bytes p b false y e = absurd (cc)

-- a part of what stands at a place
moved_bytes : (p : Program) (x y : Pointer) (offset whole b : ℕ) → ((o : Object) → object_bytes p o ≤ 65535) → HasBytes p (spots.Memory x) whole → (whole ≤ 65535 → offset + b ≤ whole) → moved p x (pos offset) ≡ Some y → HasBytes p (spots.Memory y) b
unfolding moved
moved_bytes p Null y offset whole b small h part e = null_bytes p b (int_eq (pos offset) (pos 0)) y e
moved_bytes p (Into o f) y offset whole b small h part e =
    let most = small o in
    let le = part (omega (arith, h, most)) in
    range_bytes p o (f + offset) b (int_lt (pos f +ℤ pos offset) (pos 0) || int_lt (pos (object_bytes p o)) (pos f +ℤ pos offset)) y (omega (arith, h, le)) e

module _ (p : Program) (typed : Typed) (same : p ≡ program_of typed) (sound : is_sound p ≡ true) where
  -- ---- members
  -- a member has a byte, and lies within its structure
  abbrev IsPart : Ty → ℕ → Qualified → Type 0
  IsPart whole offset ty = (1 ≤ type_bytes p.sizes ty.ty) × (type_bytes p.sizes whole ≤ 65535 → offset + type_bytes p.sizes ty.ty ≤ type_bytes p.sizes whole)

  member_case : (n member : ℕ) (s : StructureTree) (o : Option MemberTree) (whole : Qualified) (offset : ℕ) (ty : Qualified) → slice_get p.structures n ≡ Some s → slice_get s.members member ≡ o → member_fits o whole offset ty ≡ true → IsPart (types.Struct n) offset ty
  member_case n member s None whole offset ty is there e = absurd (false≢true e)
  member_case n member s (Some m) whole offset ty is there e =
      let a = and_parts (nat_eq m.offset offset) _ e in
      let at = same_nat m.offset offset a.0 in
      let q = ap (type_bytes p.sizes) (same_type_is m.ty.ty ty.ty (and_parts (same_type m.ty.ty ty.ty) _ a.1).0) in
      let some = member_has p typed same sound n member s m is there in
      let all = size_is p typed same sound n s is in
      (omega (arith, some, q), λ le. let within = member_within p s.size 0 s.members member m (structure_there p typed same sound n s is) (omega (arith, le, all)) there in omega (arith, within, at, q, all))

  structure_case : (n member : ℕ) (o : Option StructureTree) (whole : Qualified) (offset : ℕ) (ty : Qualified) → slice_get p.structures n ≡ o → member_fits (slice_get (members_in o) member) whole offset ty ≡ true → IsPart (types.Struct n) offset ty
  structure_case n member None whole offset ty is e = absurd (false≢true e)
  structure_case n member (Some s) whole offset ty is e = member_case n member s (slice_get s.members member) whole offset ty is refl e

  part_is : (from : Ty) (member : ℕ) (whole : Qualified) (offset : ℕ) (ty : Qualified) → member_fits (member_at p from member) whole offset ty ≡ true → IsPart from offset ty
  part_is types.Void member whole offset ty e = absurd (false≢true e)
  part_is (types.Int i) member whole offset ty e = absurd (false≢true e)
  part_is (types.Pointer row) member whole offset ty e = absurd (false≢true e)
  part_is (types.Array a n y) member whole offset ty e = absurd (false≢true e)
  part_is (types.Struct n) member whole offset ty e = structure_case n member (slice_get p.structures n) whole offset ty refl e

  -- ---- a byte at least
  static_some : (n : ℕ) (o : Option StaticTree) → slice_get p.statics n ≡ o → (ty : Qualified) → is_named false (option_map static_type o) ty ≡ true → is_array ty.ty ≡ false → 1 ≤ type_bytes p.sizes ty.ty
  static_some n None is ty e plain = absurd (false≢true e)
  static_some n (Some s) is ty e plain =
      let q = named_same p.sizes false (Some s.ty) ty e plain in
      let some = static_has p typed same sound n s is in
      omega (arith, q, some)

  param_some : (f n : ℕ) (o : Option VariableTree) → f < length p.functions → slice_get (function_at p f).params n ≡ o → (ty : Qualified) → is_named false (option_map variable_type o) ty ≡ true → is_array ty.ty ≡ false → 1 ≤ type_bytes p.sizes ty.ty
  param_some f n None there is ty e plain = absurd (false≢true e)
  param_some f n (Some v) there is ty e plain =
      let q = named_same p.sizes false (Some v.ty) ty e plain in
      let some = param_has p sound f n (function_at p f) v (function_there p f there) is in
      omega (arith, q, some)

  local_some : (f n : ℕ) (o : Option VariableTree) → f < length p.functions → slice_get (function_at p f).locals n ≡ o → (ty : Qualified) → is_named true (option_map variable_type o) ty ≡ true → is_array ty.ty ≡ false → 1 ≤ type_bytes p.sizes ty.ty
  local_some f n None there is ty e plain = absurd (false≢true e)
  local_some f n (Some v) there is ty e plain =
      let q = named_same p.sizes true (Some v.ty) ty e plain in
      let some = local_has p typed same sound f n (function_at p f) v (function_there p f there) is in
      omega (arith, q, some)

  device_some : (b : Bool) (ty : Qualified) → is_named false (if b then Some register_type else None) ty ≡ true → is_array ty.ty ≡ false → 1 ≤ type_bytes p.sizes ty.ty
  device_some true ty e plain = let q = named_same p.sizes false (Some register_type) ty e plain in omega (arith, q)
  device_some false ty e plain = absurd (false≢true e)

  target_some : (row : ℕ) (o : Option Qualified) (ty : Qualified) → slice_get p.targets row ≡ o → is_the o ty ≡ true → is_complete p ty.ty ≡ true → 1 ≤ type_bytes p.sizes ty.ty
  target_some row None ty is e whole = absurd (false≢true e)
  target_some row (Some t) ty is e whole =
      let alike = same_type_is t.ty ty.ty (and_parts (same_type t.ty ty.ty) _ e).0 in
      let some = target_has p typed same sound row t is (subst (λ y. is_complete p y ≡ true) (sym alike) whole) in
      let q = ap (type_bytes p.sizes) alike in
      omega (arith, some, q)

  pointed_some : (from : Ty) (ty : Qualified) → is_the (pointed p from) ty ≡ true → is_complete p ty.ty ≡ true → 1 ≤ type_bytes p.sizes ty.ty
  pointed_some types.Void ty e whole = absurd (false≢true e)
  pointed_some (types.Int i) ty e whole = absurd (false≢true e)
  pointed_some (types.Pointer row) ty e whole = target_some row (slice_get p.targets row) ty refl e whole
  pointed_some (types.Array a n y) ty e whole = absurd (false≢true e)
  pointed_some (types.Struct n) ty e whole = absurd (false≢true e)

  -- Each place that isn't an array has a byte at least.
  pub place_some : (f : ℕ) (place : Place) → f < length p.functions → IsPlaceOf p f place → is_array (place_type place).ty ≡ false → 1 ≤ type_bytes p.sizes (place_type place).ty
  unfolding place_rule_holds
  place_some f (tree.Name (names.Static n) ty line) there h plain = static_some n (slice_get p.statics n) refl ty h plain
  place_some f (tree.Name (names.Param n) ty line) there h plain = param_some f n (slice_get (function_at p f).params n) there refl ty h plain
  place_some f (tree.Name (names.Local n) ty line) there h plain = local_some f n (slice_get (function_at p f).locals n) there refl ty h plain
  place_some f (tree.Name (names.Register a) ty line) there h plain = device_some (is_device a) ty h plain
  place_some f (tree.Bit register bit line) there h plain = omega arith
  place_some f (tree.Member whole member offset ty line) there h plain = (part_is (place_type whole).ty member (place_type whole) offset ty h.0).0
  place_some f (tree.Deref pointer ty line) there h plain = let a = and_parts (is_the (pointed p (type_of pointer)) ty) (is_complete p ty.ty) h.0 in pointed_some (type_of pointer) ty a.0 a.1

  -- ---- fixed places
  name_within : (c : CopyOf) (object : Name) (ty : Qualified) → is_named (names_local object) (declared_type p (function_at p c.function) object) ty ≡ true → HasBytes p (spot_of p c object) (type_bytes p.sizes ty.ty)
  unfolding object_bytes
  name_within c (names.Static n) ty e =
      let le = named_bytes p.sizes false (option_map static_type (slice_get p.statics n)) ty e in
      let q = static_any p.sizes (slice_get p.statics n) in
      omega (arith, le, q)
  name_within c (names.Param n) ty e =
      let f = function_at p c.function in
      let le = named_bytes p.sizes false (option_map variable_type (slice_get f.params n)) ty e in
      let q = variable_any p.sizes (slice_get f.params n) in
      let at = get_front f.params f.locals n (param_there (slice_get f.params n) f.params n ty refl e) in
      let r = ap (bytes_of_variable p.sizes) at in
      omega (arith, le, q, r)
  name_within c (names.Local n) ty e =
      let f = function_at p c.function in
      let le = named_bytes p.sizes true (option_map variable_type (slice_get f.locals n)) ty e in
      let q = variable_any p.sizes (slice_get f.locals n) in
      let r = ap (bytes_of_variable p.sizes) (get_behind f.params f.locals n) in
      omega (arith, le, q, r)
  name_within c (names.Register a) ty e = tt

  form_fixed : (form : PlaceForm) → member_form form ≡ forms.Fixed → form ≡ forms.Fixed
  form_fixed forms.Fixed e = refl
  form_fixed forms.Bit e = absurd (cc)
  form_fixed forms.Computed e = absurd (cc)

  module _ (small : (o : Object) → object_bytes p o ≤ 65535) where
    -- as many bytes as its type has stand where a fixed place is
    pub fixed_within : (c : CopyOf) (place : Place) (spot : Spot) → IsPlaceOf p c.function place → form_of place ≡ forms.Fixed → IsSpotOf p c place spot → HasBytes p spot (type_bytes p.sizes (place_type place).ty)
    unfolding place_rule_holds
    fixed_within c (tree.Name object ty line) spot h fixed s = subst (λ y. HasBytes p y (type_bytes p.sizes ty.ty)) (sym s) (name_within c object ty h)
    fixed_within c (tree.Bit register bit line) spot h fixed s = absurd (cc)
    fixed_within c (tree.Member whole member offset ty line) spot h fixed s =
        subst (λ y. HasBytes p y (type_bytes p.sizes ty.ty)) (sym s.4)
        (moved_bytes p s.0 s.1 offset (type_bytes p.sizes (place_type whole).ty) (type_bytes p.sizes ty.ty) small
        (fixed_within c whole (spots.Memory s.0) h.1 (form_fixed (form_of whole) fixed) s.2)
        (part_is (place_type whole).ty member (place_type whole) offset ty h.0).1 s.3)
    fixed_within c (tree.Deref pointer ty line) spot h fixed s = absurd (cc)

    name_first : (c : CopyOf) (object : Name) (ty : Qualified) → IsReached p c → is_named (names_local object) (declared_type p (function_at p c.function) object) ty ≡ true → HasBytes p (spot_of p c object) 1
    name_first c (names.Static n) ty r e = let some = object_some p typed same sound (objects.Fixed n) (name_placed p c (names.Static n) ty r e).0 in omega (arith, some)
    name_first c (names.Param n) ty r e = let some = object_some p typed same sound (objects.Variable c n) (name_placed p c (names.Param n) ty r e).0 in omega (arith, some)
    name_first c (names.Local n) ty r e = let some = object_some p typed same sound (objects.Variable c (length (function_at p c.function).params + n)) (name_placed p c (names.Local n) ty r e).0 in omega (arith, some)
    name_first c (names.Register a) ty r e = tt

    -- A byte stands where a fixed place is.
    pub fixed_inside : (c : CopyOf) (place : Place) (spot : Spot) → IsReached p c → IsPlaceOf p c.function place → form_of place ≡ forms.Fixed → IsSpotOf p c place spot → HasBytes p spot 1
    unfolding place_rule_holds
    fixed_inside c (tree.Name object ty line) spot r h fixed s = subst (λ y. HasBytes p y 1) (sym s) (name_first c object ty r h)
    fixed_inside c (tree.Bit register bit line) spot r h fixed s = absurd (cc)
    fixed_inside c (tree.Member whole member offset ty line) spot r h fixed s =
        fewer_bytes p spot (type_bytes p.sizes ty.ty) 1 (part_is (place_type whole).ty member (place_type whole) offset ty h.0).0 (fixed_within c (tree.Member whole member offset ty line) spot h fixed s)
    fixed_inside c (tree.Deref pointer ty line) spot r h fixed s = absurd (cc)

-- Each object of a sound program has a byte at least.
use Rattle.std.proofs.Common.{◌≡◌, ℕ, zero, suc, ◌+◌, ◌*◌, ◌%◌, ◌^◌, ◌<◌, ◌≤◌, Bool, true, false, not, ◌&&◌, List, [], ◌∷◌, length, map, Option, Some, None, refl, arith}
use Rattle.std.specs.List.{list_all}
use Rattle.std.specs.Prelude.{nat_eq, nat_lt, nat_le, if◌then◌else◌, slice_get, slice_index}
use Rattle.std.proofs.lemmas.Bool.{and_parts, false≢true, ltb-true, eqb-true}
use Rattle.std.proofs.lemmas.List.{length-map}
use Rattle.c_ints.specs.Range.{bytes_of}
use Rattle.c_ints.specs.declared.types.IntTy.{IntTy}
use Rattle.c_ints.specs.declared.types.IntTy.TheVariants as int
use Rattle.c_typed.specs.Sameness.{is_complete, is_some_member, members_in}
use Rattle.c_typed.specs.Sound.{array_is_there, type_is_there, object_fits, has_bytes, members_fit, target_fits, structure_fits, initial_fits, static_fits, function_fits, is_sound}
use Rattle.c_typed.specs.Trees.{MemberTree, StaticTree, Program}
use Rattle.c_typed.specs.Types.{type_bytes, kept}
use Rattle.c_typed.specs.Views.{size_of, structure_of, static_of, program_of}
use Rattle.c_typed.specs.Words.{statics_bytes}
use Rattle.c_typed.specs.declared.program.Typed.{Typed}
use Rattle.c_typed.specs.declared.types.Qualified.{Qualified}
use Rattle.c_typed.specs.declared.types.Structure.{Structure}
use Rattle.c_typed.specs.declared.types.Ty.{Ty}
use Rattle.c_typed.specs.declared.types.Ty.TheVariants as types
use Rattle.pic_map.specs.MapContent.{ObjectLine}
use Rattle.ram_place.specs.Placement.{AreObjects, ObjectsAreDisjoint}
use Rattle.program_laws.specs.Few.{ObjectsAreFew, StartsFit}
use Rattle.program_laws.proofs.ObjectBytes.{bytes_few, start_within}

int_has : (ty : IntTy) → 0 < bytes_of ty
int_has int.Char = omega arith
int_has int.SChar = omega arith
int_has int.UChar = omega arith
int_has int.Short = omega arith
int_has int.UShort = omega arith
int_has int.Int = omega arith
int_has int.UInt = omega arith
int_has int.Long = omega arith
int_has int.ULong = omega arith

-- ---- arrays
kept_some : (n : ℕ) → 0 < n → 0 < kept n
kept_some n some = by (nat_lt n (2 ^ 40))
  where
    by : (b : Bool) → 0 < (if b then n else n % 65536 + 2 ^ 40)
    by true = some
    by false = omega arith

several : (count size : ℕ) → nat_eq count 0 ≡ false → 0 < size → 0 < count * size
several zero size none some = absurd (cc)
several (suc count) size none some = omega (arith, some)

not_so : (b : Bool) → not b ≡ true → b ≡ false
not_so false e = refl
not_so true e = absurd (cc)

array_has : (p : Program) (o : Option Qualified) (count size : ℕ) → array_is_there p o count size ≡ true → not (nat_eq count 0) ≡ true → 0 < size
array_has p None count size there some = absurd (false≢true there)
array_has p (Some e) count size there some =
    let a = and_parts (not e.constant) (not e.volatile && (nat_lt 0 (type_bytes p.sizes e.ty) && nat_eq size (kept (count * type_bytes p.sizes e.ty)))) there in
    let b = and_parts (not e.volatile) (nat_lt 0 (type_bytes p.sizes e.ty) && nat_eq size (kept (count * type_bytes p.sizes e.ty))) a.1 in
    let c = and_parts (nat_lt 0 (type_bytes p.sizes e.ty)) (nat_eq size (kept (count * type_bytes p.sizes e.ty))) b.1 in
    let one = ltb-true 0 (type_bytes p.sizes e.ty) c.0 in
    let is = eqb-true size (kept (count * type_bytes p.sizes e.ty)) c.1 in
    let all = kept_some (count * type_bytes p.sizes e.ty) (several count (type_bytes p.sizes e.ty) (not_so (nat_eq count 0) some) one) in
    omega (arith, is, all)

-- ---- structures
members_have : (members : List MemberTree) (size : ℕ) → has_bytes members size ≡ true → is_some_member members ≡ true → 0 < size
members_have [] size has some = absurd (false≢true some)
members_have (m ∷ members) size has some = ltb-true 0 size has

structure_has : (p : Program) (structures : List Structure) (number : ℕ) → list_all (structure_fits p) (map structure_of structures) ≡ true → is_some_member (members_in (slice_get (map structure_of structures) number)) ≡ true
    → 0 < slice_index (map size_of structures) number
structure_has p [] number fit some = absurd (false≢true some)
structure_has p (s ∷ structures) zero fit some =
    let here = (and_parts (structure_fits p (structure_of s)) (list_all (structure_fits p) (map structure_of structures)) fit).0 in
    let has = (and_parts (has_bytes (structure_of s).members s.size) (members_fit p s.size 0 (structure_of s).members) here).0 in
    members_have (structure_of s).members s.size has some
structure_has p (s ∷ structures) (suc number) fit some = structure_has p structures number (and_parts (structure_fits p (structure_of s)) (list_all (structure_fits p) (map structure_of structures)) fit).1 some

module _ (typed : Typed) (sound : is_sound (program_of typed) ≡ true) where
  abbrev program : Program
  program = program_of typed

  later_fit : (list_all (structure_fits program) program.structures && (list_all (static_fits program) program.statics && list_all (function_fits program) program.functions)) ≡ true
  later_fit = (and_parts (list_all (target_fits program) program.targets) (list_all (structure_fits program) program.structures && (list_all (static_fits program) program.statics && list_all (function_fits program) program.functions)) sound).1

  structures_fit : list_all (structure_fits program) program.structures ≡ true
  structures_fit = (and_parts (list_all (structure_fits program) program.structures) (list_all (static_fits program) program.statics && list_all (function_fits program) program.functions) later_fit).0

  statics_fit : list_all (static_fits program) program.statics ≡ true
  statics_fit = (and_parts (list_all (static_fits program) program.statics) (list_all (function_fits program) program.functions) (and_parts (list_all (structure_fits program) program.structures) (list_all (static_fits program) program.statics && list_all (function_fits program) program.functions) later_fit).1).0

  -- what an object can have has a byte
  type_has : (ty : Ty) → type_is_there program ty ≡ true → is_complete program ty ≡ true → 0 < type_bytes program.sizes ty
  type_has types.Void there complete = absurd (false≢true complete)
  type_has (types.Int ty) there complete = int_has ty
  type_has (types.Pointer row) there complete = omega arith
  type_has (types.Array element count size) there complete = array_has program (slice_get program.targets element) count size there complete
  type_has (types.Struct number) there complete = structure_has program typed.structures.items number structures_fit complete

  object_has : (ty : Ty) → object_fits program ty ≡ true → 0 < type_bytes program.sizes ty
  object_has ty fits =
      let a = and_parts (type_is_there program ty) (is_complete program ty && nat_le (type_bytes program.sizes ty) 65535) fits in
      let b = and_parts (is_complete program ty) (nat_le (type_bytes program.sizes ty) 65535) a.1 in
      type_has ty a.0 b.0

  -- so there are no more objects than bytes
  no_more : (statics : List StaticTree) → list_all (static_fits program) statics ≡ true → length statics ≤ statics_bytes program.sizes statics
  no_more [] fit = omega arith
  no_more (s ∷ statics) fit =
      let a = and_parts (static_fits program s) (list_all (static_fits program) statics) fit in
      let one = object_has s.ty.ty (and_parts (object_fits program s.ty.ty) (initial_fits program (type_bytes program.sizes s.ty.ty) 0 s.initial) a.0).0 in
      let more = no_more statics a.1 in
      omega (arith, one, more)

  few : (lines : List ObjectLine) → AreObjects program lines → length lines ≡ length program.statics → ObjectsAreDisjoint lines → length typed.statics.items ≤ 352
  few lines stand whole apart =
      let a = no_more program.statics statics_fit in
      let b = bytes_few program lines stand whole apart in
      let c = length-map typed.statics.items static_of in
      omega (arith, a, b, c)

pub objects_few : ObjectsAreFew
objects_few typed lines sound stand whole apart = few typed sound lines stand whole apart

pub starts_fit : StartsFit
starts_fit p lines stand whole apart = start_within p lines stand whole apart

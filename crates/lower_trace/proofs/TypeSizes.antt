-- The types of a sound program have bytes: each object has one at least, each member, and each element that a pointer counts in. A number
-- of bytes has 41 binary digits at most.
use Rattle.std.proofs.Common.{◌≡◌, ℕ, zero, suc, ◌+◌, ◌-◌, ◌*◌, ◌%◌, ◌<◌, ◌≤◌, Bool, true, false, not, ◌&&◌, if◌then◌else◌, nat_eq, nat_lt, nat_le, List, [], ◌∷◌, ◌++◌, length, map, Option, Some, None, slice_get, slice_index, refl, sym, ap, ◌∙◌, subst, ⊎_elim, arith}
use Rattle.std.proofs.Math.Nat.{suc-mul}
use Rattle.std.proofs.lemmas.Bool.{and_parts, cases_lt, false≢true}
use Rattle.std.proofs.lemmas.Option.{same_Some}
use Rattle.std.specs.List.{list_all}
use Rattle.std.specs.Prelude.{is_some}
use Rattle.c_typed.specs.Rules.{counts_in}
use Rattle.c_typed.specs.Sameness.{is_complete, is_scalar, is_some_member, members_in, pointed}
use Rattle.c_typed.specs.Shown.{size_of, structure_of}
use Rattle.c_typed.specs.Sound.{array_is_there, function_fits, has_bytes, initial_fits, is_sound, local_fits, members_fit, object_fits, param_fits, result_fits, static_fits, statements_fit, structure_fits, target_fits, type_is_there}
use Rattle.c_typed.specs.Trees.{FunctionTree, MemberTree, Program, StaticTree, StructureTree, VariableTree}
use Rattle.c_typed.specs.Types.{type_bytes, kept}
use Rattle.c_typed.specs.Views.{program_of}
use Rattle.c_typed.specs.declared.Typed.{Typed}
use Rattle.c_typed.specs.declared.types.Qualified.{Qualified}
use Rattle.c_typed.specs.declared.types.Structure.{Structure}
use Rattle.c_typed.specs.declared.types.Ty.{Ty}
use Rattle.c_typed.specs.declared.types.Ty.TheVariants as types
use Rattle.c_ints.specs.Range.{bytes_of}
use Rattle.c_ints.specs.declared.types.IntTy.{IntTy}
use Rattle.c_ints.specs.declared.types.IntTy.TheVariants as int
use Rattle.src_rules.proofs.Starts.{all_at, function_there, sound_parts}
use Rattle.src_rules.proofs.Stepping.{get_front}
use Rattle.src_rules.proofs.Writing.{get_behind}
use Rattle.src_rules.specs.Standing.{IsThere}
use Rattle.src_values.specs.Objects.{bytes_of_static, bytes_of_variable, function_at, object_bytes, variables_of}
use Rattle.src_values.specs.declared.objects.Object.{Object}
use Rattle.src_values.specs.declared.objects.Object.TheVariants.{Fixed, Variable}
use Rattle.lower_trace.proofs.Reading.{lt_of}
use Rattle.lower_trace.proofs.Scenes.{element_there}
use Rattle.lower_trace.proofs.Written.{same_nat}

-- ---- scalars
int_some : (ty : IntTy) → 1 ≤ bytes_of ty
int_some int.Char = omega arith
int_some int.SChar = omega arith
int_some int.UChar = omega arith
int_some int.Short = omega arith
int_some int.UShort = omega arith
int_some int.Int = omega arith
int_some int.UInt = omega arith
int_some int.Long = omega arith
int_some int.ULong = omega arith

int_few : (ty : IntTy) → bytes_of ty ≤ 4
int_few int.Char = omega arith
int_few int.SChar = omega arith
int_few int.UChar = omega arith
int_few int.Short = omega arith
int_few int.UShort = omega arith
int_few int.Int = omega arith
int_few int.UInt = omega arith
int_few int.Long = omega arith
int_few int.ULong = omega arith

pub scalar_some : (sizes : List ℕ) (ty : Ty) → is_scalar ty ≡ true → 1 ≤ type_bytes sizes ty
scalar_some sizes types.Void e = absurd (false≢true e)
scalar_some sizes (types.Int ty) e = int_some ty
scalar_some sizes (types.Pointer row) e = omega arith
scalar_some sizes (types.Array element count size) e = absurd (false≢true e)
scalar_some sizes (types.Struct number) e = absurd (false≢true e)

-- ---- numbers of bytes as they are kept
kept_by : (b : Bool) (n : ℕ) → nat_lt n 1099511627776 ≡ b → (if b then n else n % 65536 + 1099511627776) < 2199023255552
kept_by true n e = let l = lt_of n 1099511627776 e in omega (arith, l)
kept_by false n e = omega arith

kept_few : (n : ℕ) → kept n < 2199023255552
kept_few n = kept_by (nat_lt n 1099511627776) n refl

kept_more : (b : Bool) (n : ℕ) → 1 ≤ n → 1 ≤ (if b then n else n % 65536 + 1099511627776)
kept_more true n le = le
kept_more false n le = omega arith

kept_some : (n : ℕ) → 1 ≤ n → 1 ≤ kept n
kept_some n le = kept_more (nat_lt n 1099511627776) n le

-- so many parts, of which there is one, with a byte each
product_some : (n b : ℕ) → not (nat_eq n 0) ≡ true → 0 < b → 1 ≤ n * b
product_some zero b e lt = absurd (false≢true e)
product_some (suc n) b e lt = let all = suc-mul n b in omega (arith, all, lt)

-- what is kept in full isn't less than what is counted
kept_all : (b : Bool) (n size : ℕ) → (if b then n else n % 65536 + 1099511627776) ≤ size → size < 1099511627776 → n ≤ size
kept_all true n size le lt = le
kept_all false n size le lt = absurd (omega (arith, le, lt))

pub kept_within : (n size : ℕ) → kept n ≤ size → size < 1099511627776 → n ≤ size
kept_within n size le lt = kept_all (nat_lt n 1099511627776) n size le lt

-- ---- structures
module _ (p : Program) where
  -- the members that follow
  abbrev rest_of : ℕ → ℕ → MemberTree → List MemberTree → Bool
  rest_of size before m ms = members_fit p size (kept (before + type_bytes p.sizes m.ty.ty)) ms

  rest_fits : (size before : ℕ) (m : MemberTree) (ms : List MemberTree) → members_fit p size before (m ∷ ms) ≡ true → (m.offset ≡ before) × (rest_of size before m ms ≡ true)
  rest_fits size before m ms e =
      let a = and_parts (nat_eq m.offset before) (type_is_there p m.ty.ty && (is_complete p m.ty.ty && rest_of size before m ms)) e in
      let b = and_parts (type_is_there p m.ty.ty) (is_complete p m.ty.ty && rest_of size before m ms) a.1 in
      (same_nat m.offset before a.0, (and_parts (is_complete p m.ty.ty) (rest_of size before m ms) b.1).1)

  -- a member's type is there and complete
  abbrev IsMemberType : MemberTree → Type 0
  IsMemberType m = (type_is_there p m.ty.ty ≡ true) × (is_complete p m.ty.ty ≡ true)

  member_type : (size before : ℕ) (ms : List MemberTree) (i : ℕ) (m : MemberTree) → members_fit p size before ms ≡ true → slice_get ms i ≡ Some m → IsMemberType m
  member_type size before [] i m e is = absurd (cc)
  member_type size before (first ∷ ms) zero m e is =
      subst IsMemberType (same_Some first m is)
      (let a = and_parts (nat_eq first.offset before) (type_is_there p first.ty.ty && (is_complete p first.ty.ty && rest_of size before first ms)) e in
      let b = and_parts (type_is_there p first.ty.ty) (is_complete p first.ty.ty && rest_of size before first ms) a.1 in
      (b.0, (and_parts (is_complete p first.ty.ty) (rest_of size before first ms) b.1).0))
  member_type size before (first ∷ ms) (suc i) m e is = member_type size (kept (before + type_bytes p.sizes first.ty.ty)) ms i m (rest_fits size before first ms e).1 is

  chain_few : (size before : ℕ) (ms : List MemberTree) → before < 2199023255552 → members_fit p size before ms ≡ true → size < 2199023255552
  chain_few size before [] lt e = let q = same_nat before size e in omega (arith, q, lt)
  chain_few size before (m ∷ ms) lt e = chain_few size (kept (before + type_bytes p.sizes m.ty.ty)) ms (kept_few (before + type_bytes p.sizes m.ty.ty)) (rest_fits size before m ms e).1

  chain_up : (size before : ℕ) (ms : List MemberTree) → members_fit p size before ms ≡ true → size < 1099511627776 → before ≤ size
  chain_up size before [] e lt = let q = same_nat before size e in omega (arith, q)
  chain_up size before (m ∷ ms) e lt =
      let up = kept_within (before + type_bytes p.sizes m.ty.ty) size (chain_up size (kept (before + type_bytes p.sizes m.ty.ty)) ms (rest_fits size before m ms e).1 lt) lt in
      omega (arith, up)

  -- a member lies within its structure, where that is no larger than an object may be
  pub member_within : (size before : ℕ) (ms : List MemberTree) (i : ℕ) (m : MemberTree) → members_fit p size before ms ≡ true → size < 1099511627776 → slice_get ms i ≡ Some m → m.offset + type_bytes p.sizes m.ty.ty ≤ size
  member_within size before [] i m e lt is = absurd (cc)
  member_within size before (first ∷ ms) zero m e lt is =
      subst (λ (y : MemberTree). y.offset + type_bytes p.sizes y.ty.ty ≤ size) (same_Some first m is)
      (let r = rest_fits size before first ms e in
      let up = kept_within (before + type_bytes p.sizes first.ty.ty) size (chain_up size (kept (before + type_bytes p.sizes first.ty.ty)) ms r.1 lt) lt in
      let at = r.0 in
      omega (arith, up, at))
  member_within size before (first ∷ ms) (suc i) m e lt is = member_within size (kept (before + type_bytes p.sizes first.ty.ty)) ms i m (rest_fits size before first ms e).1 lt is

-- of each structure the list of sizes has its size
sizes_in : (xs : List Structure) (n : ℕ) (s : StructureTree) → slice_get (map structure_of xs) n ≡ Some s → slice_index (map size_of xs) n ≡ s.size
sizes_in [] n s e = absurd (cc)
sizes_in (x ∷ xs) zero s e = ap (λ (y : StructureTree). y.size) (same_Some (structure_of x) s e)
sizes_in (x ∷ xs) (suc n) s e = sizes_in xs n s e

-- a parameter is an integer or a pointer
pub param_has : (p : Program) → is_sound p ≡ true → (f n : ℕ) (function : FunctionTree) (v : VariableTree) → slice_get p.functions f ≡ Some function → slice_get function.params n ≡ Some v → 1 ≤ type_bytes p.sizes v.ty.ty
param_has p sound f n function v is there =
    let fits = all_at (function_fits p) p.functions f function (sound_parts p sound).1 is in
    let a = and_parts (result_fits p function.result) (list_all (param_fits p) function.params && (list_all (local_fits p) function.locals && statements_fit p function true false false function.body)) fits in
    let b = and_parts (list_all (param_fits p) function.params) (list_all (local_fits p) function.locals && statements_fit p function true false false function.body) a.1 in
    scalar_some p.sizes v.ty.ty (and_parts (is_scalar v.ty.ty) (type_is_there p v.ty.ty) (all_at (param_fits p) function.params n v b.0 there)).0

module _ (p : Program) (typed : Typed) (same : p ≡ program_of typed) (sound : is_sound p ≡ true) where
  pub size_is : (n : ℕ) (s : StructureTree) → slice_get p.structures n ≡ Some s → type_bytes p.sizes (types.Struct n) ≡ s.size
  size_is n s e =
      subst (λ (q : Program). slice_get q.structures n ≡ Some s → slice_index q.sizes n ≡ s.size) (sym same)
      (λ is. sizes_in typed.structures.items n s is) e

  target_there : (n : ℕ) (t : Qualified) → slice_get p.targets n ≡ Some t → type_is_there p t.ty ≡ true
  target_there n t e = all_at (target_fits p) p.targets n t (and_parts (list_all (target_fits p) p.targets) _ sound).0 e

  structure_parts : (n : ℕ) (s : StructureTree) → slice_get p.structures n ≡ Some s → (has_bytes s.members s.size ≡ true) × (members_fit p s.size 0 s.members ≡ true)
  structure_parts n s e =
      and_parts (has_bytes s.members s.size) (members_fit p s.size 0 s.members)
      (all_at (structure_fits p) p.structures n s (and_parts (list_all (structure_fits p) p.structures) _ (and_parts (list_all (target_fits p) p.targets) _ sound).1).0 e)

  pub structure_there : (n : ℕ) (s : StructureTree) → slice_get p.structures n ≡ Some s → members_fit p s.size 0 s.members ≡ true
  structure_there n s e = (structure_parts n s e).1

  -- an array's elements have a byte, and its size is that of them together
  array_parts : (t : Qualified) (count size : ℕ) → array_is_there p (Some t) count size ≡ true → (0 < type_bytes p.sizes t.ty) × (size ≡ kept (count * type_bytes p.sizes t.ty))
  array_parts t count size e =
      let some = nat_lt 0 (type_bytes p.sizes t.ty) in
      let all = nat_eq size (kept (count * type_bytes p.sizes t.ty)) in
      let a = and_parts (not t.constant) (not t.volatile && (some && all)) e in
      let b = and_parts (not t.volatile) (some && all) a.1 in
      let c = and_parts some all b.1 in
      (lt_of 0 (type_bytes p.sizes t.ty) c.0, same_nat size (kept (count * type_bytes p.sizes t.ty)) c.1)

  -- ---- few bytes
  array_few : (o : Option Qualified) (count size : ℕ) → array_is_there p o count size ≡ true → size < 2199023255552
  array_few None count size e = absurd (false≢true e)
  array_few (Some t) count size e =
      let q = (array_parts t count size e).1 in
      let few = kept_few (count * type_bytes p.sizes t.ty) in
      omega (arith, q, few)

  structure_few : (n : ℕ) (o : Option StructureTree) → slice_get p.structures n ≡ o → is_some o ≡ true → type_bytes p.sizes (types.Struct n) < 2199023255552
  structure_few n None is e = absurd (false≢true e)
  structure_few n (Some s) is e =
      let few = chain_few p s.size 0 s.members (omega arith) (structure_there n s is) in
      let q = size_is n s is in
      omega (arith, few, q)

  pub type_few : (ty : Ty) → type_is_there p ty ≡ true → type_bytes p.sizes ty < 2199023255552
  type_few types.Void e = omega arith
  type_few (types.Int ty) e = let few = int_few ty in omega (arith, few)
  type_few (types.Pointer row) e = omega arith
  type_few (types.Array element count size) e = array_few (slice_get p.targets element) count size e
  type_few (types.Struct n) e = structure_few n (slice_get p.structures n) refl e

  -- ---- a byte at least
  array_some : (o : Option Qualified) (count size : ℕ) → array_is_there p o count size ≡ true → not (nat_eq count 0) ≡ true → 1 ≤ size
  array_some None count size e whole = absurd (false≢true e)
  array_some (Some t) count size e whole =
      let a = array_parts t count size e in
      let q = a.1 in
      let some = kept_some (count * type_bytes p.sizes t.ty) (product_some count (type_bytes p.sizes t.ty) whole a.0) in
      omega (arith, q, some)

  members_some : (ms : List MemberTree) (size : ℕ) → has_bytes ms size ≡ true → is_some_member ms ≡ true → 1 ≤ size
  members_some [] size has e = absurd (false≢true e)
  members_some (m ∷ ms) size has e = let lt = lt_of 0 size has in omega (arith, lt)

  structure_case : (n : ℕ) (o : Option StructureTree) → slice_get p.structures n ≡ o → is_some_member (members_in o) ≡ true → 1 ≤ type_bytes p.sizes (types.Struct n)
  structure_case n None is e = absurd (false≢true e)
  structure_case n (Some s) is e =
      let some = members_some s.members s.size (structure_parts n s is).0 e in
      let q = size_is n s is in
      omega (arith, some, q)

  -- a structure with a body has a byte
  pub structure_some : (n : ℕ) → is_complete p (types.Struct n) ≡ true → 1 ≤ type_bytes p.sizes (types.Struct n)
  structure_some n e = structure_case n (slice_get p.structures n) refl e

  type_some : (ty : Ty) → type_is_there p ty ≡ true → is_complete p ty ≡ true → 1 ≤ type_bytes p.sizes ty
  type_some types.Void e whole = absurd (false≢true whole)
  type_some (types.Int ty) e whole = int_some ty
  type_some (types.Pointer row) e whole = omega arith
  type_some (types.Array element count size) e whole = array_some (slice_get p.targets element) count size e whole
  type_some (types.Struct n) e whole = structure_some n whole

  -- what a pointer points to has a byte, where it can be counted in
  pub target_has : (n : ℕ) (t : Qualified) → slice_get p.targets n ≡ Some t → is_complete p t.ty ≡ true → 1 ≤ type_bytes p.sizes t.ty
  target_has n t is whole = type_some t.ty (target_there n t is) whole

  pub member_has : (n i : ℕ) (s : StructureTree) (m : MemberTree) → slice_get p.structures n ≡ Some s → slice_get s.members i ≡ Some m → 1 ≤ type_bytes p.sizes m.ty.ty
  member_has n i s m is at = let a = member_type p s.size 0 s.members i m (structure_there n s is) at in type_some m.ty.ty a.0 a.1

  declared_has : (ty : Ty) → object_fits p ty ≡ true → 1 ≤ type_bytes p.sizes ty
  declared_has ty fits =
      let a = and_parts (type_is_there p ty) (is_complete p ty && nat_le (type_bytes p.sizes ty) 65535) fits in
      type_some ty a.0 (and_parts (is_complete p ty) (nat_le (type_bytes p.sizes ty) 65535) a.1).0

  pub static_has : (n : ℕ) (s : StaticTree) → slice_get p.statics n ≡ Some s → 1 ≤ type_bytes p.sizes s.ty.ty
  static_has n s is =
      declared_has s.ty.ty
      (and_parts (object_fits p s.ty.ty) (initial_fits p (type_bytes p.sizes s.ty.ty) 0 s.initial) (all_at (static_fits p) p.statics n s (sound_parts p sound).0 is)).0

  pub local_has : (f n : ℕ) (function : FunctionTree) (v : VariableTree) → slice_get p.functions f ≡ Some function → slice_get function.locals n ≡ Some v → 1 ≤ type_bytes p.sizes v.ty.ty
  local_has f n function v is at =
      let fits = all_at (function_fits p) p.functions f function (sound_parts p sound).1 is in
      let a = and_parts (result_fits p function.result) (list_all (param_fits p) function.params && (list_all (local_fits p) function.locals && statements_fit p function true false false function.body)) fits in
      let b = and_parts (list_all (param_fits p) function.params) (list_all (local_fits p) function.locals && statements_fit p function true false false function.body) a.1 in
      let c = and_parts (list_all (local_fits p) function.locals) (statements_fit p function true false false function.body) b.1 in
      declared_has v.ty.ty (all_at (local_fits p) function.locals n v c.0 at)

  element_case : (row size : ℕ) (o : Option Qualified) → slice_get p.targets row ≡ o → counts_in p o size ≡ true → (1 ≤ size) × (size < 2199023255552)
  element_case row size None is e = absurd (false≢true e)
  element_case row size (Some t) is e =
      let a = and_parts (is_complete p t.ty) (nat_eq size (type_bytes p.sizes t.ty)) e in
      let q = same_nat size (type_bytes p.sizes t.ty) a.1 in
      let some = target_has row t is a.0 in
      let few = type_few t.ty (target_there row t is) in
      (omega (arith, q, some), omega (arith, q, few))

  -- What a pointer counts in has a byte at least.
  pub element_size : (ty : Ty) (size : ℕ) → counts_in p (pointed p ty) size ≡ true → (1 ≤ size) × (size < 2199023255552)
  element_size types.Void size e = absurd (false≢true e)
  element_size (types.Int ty) size e = absurd (false≢true e)
  element_size (types.Pointer row) size e = element_case row size (slice_get p.targets row) refl e
  element_size (types.Array element count bytes) size e = absurd (false≢true e)
  element_size (types.Struct n) size e = absurd (false≢true e)

  -- Each object has a byte.
  variable_some : (f n : ℕ) (function : FunctionTree) → slice_get p.functions f ≡ Some function → n < length (variables_of function) → 0 < bytes_of_variable p.sizes (slice_get (variables_of function) n)
  variable_some f n function is lt =
      ⊎_elim
      (λ l.
      let v = element_there function.params n l in
      let some = param_has p sound f n function v.0 is v.1 in
      let e = ap (bytes_of_variable p.sizes) (get_front function.params function.locals n l ∙ v.1) in
      omega (arith, some, e))
      (λ l.
      let at : n ≡ length function.params + (n - length function.params) = omega (arith, l) in
      let all = length_both function.params function.locals in
      let v = element_there function.locals (n - length function.params) (omega (arith, l, lt, all)) in
      let some = local_has f (n - length function.params) function v.0 is v.1 in
      let e = ap (bytes_of_variable p.sizes) (ap (slice_get (variables_of function)) at ∙ get_behind function.params function.locals (n - length function.params) ∙ v.1) in
      omega (arith, some, e))
      (cases_lt n (length function.params))
    where
      length_both : {A : Type 0} (xs ys : List A) → length (xs ++ ys) ≡ length xs + length ys
      length_both [] ys = omega arith
      length_both (x ∷ xs) ys = let q = length_both xs ys in omega (arith, q)

  pub object_some : (o : Object) → IsThere p o → 0 < object_bytes p o
  unfolding object_bytes
  object_some (Fixed n) there =
      let s = element_there p.statics n there in
      let some = static_has n s.0 s.1 in
      let e = ap (bytes_of_static p.sizes) s.1 in
      omega (arith, some, e)
  object_some (Variable c n) there = variable_some c.function n (function_at p c.function) (function_there p c.function there.0.there) there.1

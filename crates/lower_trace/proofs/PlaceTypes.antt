-- The type of a place of a sound program is complete, or it is an array's.
use Rattle.std.proofs.Common.{◌≡◌, ℕ, zero, suc, ◌⊎◌, inl, inr, Bool, true, false, ◌&&◌, ◌||◌, nat_eq, nat_le, List, [], ◌∷◌, Option, Some, None, if◌then◌else◌, slice_get, ◌+◌, refl, sym, ap, ◌∙◌, subst, ⊎_elim}
use Rattle.std.proofs.lemmas.Bool.{and_parts, false≢true, or_cases}
use Rattle.std.specs.List.{list_all}
use Rattle.std.specs.Option.{option_map}
use Rattle.c_typed.proofs.Facts.{function_of_sound, static_of_sound}
use Rattle.c_typed.specs.Fits.{is_device, is_named, is_open, member_at, place_rule_holds, register_type, static_type, variable_type}
use Rattle.c_typed.specs.Rules.{member_fits}
use Rattle.c_typed.specs.Sameness.{is_array, is_complete, is_scalar, is_struct, is_the, members_in, pointed, same_flag, same_qualified, same_type}
use Rattle.c_typed.specs.Sound.{function_fits, has_bytes, initial_fits, is_sound, local_fits, members_fit, object_fits, param_fits, result_fits, static_fits, statements_fit, structure_fits, target_fits, type_is_there}
use Rattle.c_typed.specs.Trees as tree
use Rattle.c_typed.specs.Trees.{FunctionTree, MemberTree, Place, Program, StaticTree, StructureTree, VariableTree}
use Rattle.c_typed.specs.Types.{place_type, type_bytes, type_of, kept}
use Rattle.c_typed.specs.declared.expression.Object.TheVariants as names
use Rattle.c_typed.specs.declared.types.Qualified.{Qualified}
use Rattle.c_typed.specs.declared.types.Ty.{Ty}
use Rattle.c_typed.specs.declared.types.Ty.TheVariants as types
use Rattle.src_rules.proofs.Starts.{all_at}
use Rattle.src_rules.proofs.Values.{same_type_is}
use Rattle.src_rules.specs.Parts.{IsPlaceOf}
use Rattle.src_values.specs.Objects.{function_at, or_no_function}

some_same : {A : Type 0} (x y : A) → Some x ≡ Some y → x ≡ y
some_same x y e = cc

abbrev pub IsWhole : Program → Ty → Type 0
IsWhole p ty = (is_complete p ty ≡ true) ⊎ (is_array ty ≡ true)

whole_same : (p : Program) (a b : Ty) → same_type a b ≡ true → is_complete p a ≡ true → IsWhole p b
whole_same p a b e h = inl (subst (λ t. is_complete p t ≡ true) (same_type_is a b e) h)

scalar_complete : (p : Program) (ty : Ty) → is_scalar ty ≡ true → is_complete p ty ≡ true
scalar_complete p types.Void e = absurd (false≢true e)
scalar_complete p (types.Int t) e = refl
scalar_complete p (types.Pointer row) e = refl
scalar_complete p (types.Array element length bytes) e = absurd (false≢true e)
scalar_complete p (types.Struct number) e = absurd (false≢true e)

open_is_array : (declared ty : Ty) → is_open declared ty ≡ true → is_array ty ≡ true
open_is_array (types.Array element count size) types.Void e = absurd (false≢true e)
open_is_array (types.Array element count size) (types.Int t) e = absurd (false≢true e)
open_is_array (types.Array element count size) (types.Pointer row) e = absurd (false≢true e)
open_is_array (types.Array element count size) (types.Array a n x) e = refl
open_is_array (types.Array element count size) (types.Struct number) e = absurd (false≢true e)
open_is_array types.Void ty e = absurd (false≢true e)
open_is_array (types.Int t) ty e = absurd (false≢true e)
open_is_array (types.Pointer row) ty e = absurd (false≢true e)
open_is_array (types.Struct number) ty e = absurd (false≢true e)

-- a name has the type that it is declared with, or that of an array whose length isn't told yet
named_whole : (p : Program) (local : Bool) (declared ty : Qualified) → is_named local (Some declared) ty ≡ true → is_complete p declared.ty ≡ true → IsWhole p ty.ty
named_whole p local declared ty e h =
    let opened = is_open declared.ty ty.ty in
    let flags = same_flag declared.constant ty.constant && same_flag declared.volatile ty.volatile in
    ⊎_elim
    (λ same. whole_same p declared.ty ty.ty (and_parts (same_type declared.ty ty.ty) flags same).0 h)
    (λ open_one. inr (open_is_array declared.ty ty.ty (and_parts opened flags (and_parts local (opened && flags) open_one).1).0))
    (or_cases (same_qualified declared ty) (local && (opened && flags)) e)

object_complete : (p : Program) (ty : Ty) → object_fits p ty ≡ true → is_complete p ty ≡ true
object_complete p ty e = (and_parts (is_complete p ty) (nat_le (type_bytes p.sizes ty) 65535) (and_parts (type_is_there p ty) (is_complete p ty && nat_le (type_bytes p.sizes ty) 65535) e).1).0

module _ (p : Program) (sound : is_sound p ≡ true) where
  static_whole : (n : ℕ) (ty : Qualified) (o : Option StaticTree) → slice_get p.statics n ≡ o → is_named false (option_map static_type o) ty ≡ true → IsWhole p ty.ty
  static_whole n ty None is e = absurd (false≢true e)
  static_whole n ty (Some s) is e =
      named_whole p false s.ty ty e (object_complete p s.ty.ty (and_parts (object_fits p s.ty.ty) (initial_fits p (type_bytes p.sizes s.ty.ty) 0 s.initial) (static_of_sound p n s sound is)).0)

  -- ---- variables of a function that is there
  record AreDeclared (f : FunctionTree) : Type 0 where
    params : list_all (param_fits p) f.params ≡ true
    locals : list_all (local_fits p) f.locals ≡ true

  declared_of : (f : FunctionTree) → function_fits p f ≡ true → AreDeclared f
  declared_of f e =
      let body = statements_fit p f true false false f.body in
      let a = and_parts (result_fits p f.result) (list_all (param_fits p) f.params && (list_all (local_fits p) f.locals && body)) e in
      let b = and_parts (list_all (param_fits p) f.params) (list_all (local_fits p) f.locals && body) a.1 in
      record { params = b.0; locals = (and_parts (list_all (local_fits p) f.locals) body b.1).0 }

  all_declared : (n : ℕ) → AreDeclared (function_at p n)
  all_declared n = by (slice_get p.functions n) refl
    where
      by : (o : Option FunctionTree) → slice_get p.functions n ≡ o → AreDeclared (or_no_function o)
      by None is = record { params = refl; locals = refl }
      by (Some f) is = declared_of f (function_of_sound p n f sound is)

  param_whole : (vs : List VariableTree) (n : ℕ) (ty : Qualified) (o : Option VariableTree) → list_all (param_fits p) vs ≡ true → slice_get vs n ≡ o → is_named false (option_map variable_type o) ty ≡ true → IsWhole p ty.ty
  param_whole vs n ty None all is e = absurd (false≢true e)
  param_whole vs n ty (Some v) all is e = named_whole p false v.ty ty e (scalar_complete p v.ty.ty (and_parts (is_scalar v.ty.ty) (type_is_there p v.ty.ty) (all_at (param_fits p) vs n v all is)).0)

  local_whole : (vs : List VariableTree) (n : ℕ) (ty : Qualified) (o : Option VariableTree) → list_all (local_fits p) vs ≡ true → slice_get vs n ≡ o → is_named true (option_map variable_type o) ty ≡ true → IsWhole p ty.ty
  local_whole vs n ty None all is e = absurd (false≢true e)
  local_whole vs n ty (Some v) all is e = named_whole p true v.ty ty e (object_complete p v.ty.ty (all_at (local_fits p) vs n v all is))

  register_whole : (b : Bool) (ty : Qualified) → is_named false (if b then Some register_type else None) ty ≡ true → IsWhole p ty.ty
  register_whole true ty e = named_whole p false register_type ty e refl
  register_whole false ty e = absurd (false≢true e)

  -- ---- members
  structures : list_all (structure_fits p) p.structures ≡ true
  structures =
      let tables = list_all (static_fits p) p.statics && list_all (function_fits p) p.functions in
      (and_parts (list_all (structure_fits p) p.structures) tables (and_parts (list_all (target_fits p) p.targets) (list_all (structure_fits p) p.structures && tables) sound).1).0

  member_complete : (size before : ℕ) (ms : List MemberTree) (n : ℕ) (m : MemberTree) → members_fit p size before ms ≡ true → slice_get ms n ≡ Some m → is_complete p m.ty.ty ≡ true
  member_complete size before [] n m e is = absurd (cc)
  member_complete size before (x ∷ xs) zero m e is =
      let rest = members_fit p size (kept (before + type_bytes p.sizes x.ty.ty)) xs in
      let a = and_parts (nat_eq x.offset before) (type_is_there p x.ty.ty && (is_complete p x.ty.ty && rest)) e in
      let b = and_parts (type_is_there p x.ty.ty) (is_complete p x.ty.ty && rest) a.1 in
      subst (λ (y : MemberTree). is_complete p y.ty.ty ≡ true) (some_same x m is) (and_parts (is_complete p x.ty.ty) rest b.1).0
  member_complete size before (x ∷ xs) (suc n) m e is =
      let rest = members_fit p size (kept (before + type_bytes p.sizes x.ty.ty)) xs in
      let a = and_parts (nat_eq x.offset before) (type_is_there p x.ty.ty && (is_complete p x.ty.ty && rest)) e in
      let b = and_parts (type_is_there p x.ty.ty) (is_complete p x.ty.ty && rest) a.1 in
      member_complete size (kept (before + type_bytes p.sizes x.ty.ty)) xs n m (and_parts (is_complete p x.ty.ty) rest b.1).1 is

  structure_member : (number : ℕ) (o : Option StructureTree) (n : ℕ) (m : MemberTree) → slice_get p.structures number ≡ o → slice_get (members_in o) n ≡ Some m → is_complete p m.ty.ty ≡ true
  structure_member number None n m there is = member_complete 0 0 [] n m refl is
  structure_member number (Some s) n m there is = member_complete s.size 0 s.members n m (and_parts (has_bytes s.members s.size) (members_fit p s.size 0 s.members) (all_at (structure_fits p) p.structures number s structures there)).1 is

  type_member : (whole : Ty) (n : ℕ) (m : MemberTree) → member_at p whole n ≡ Some m → is_complete p m.ty.ty ≡ true
  type_member (types.Struct number) n m is = structure_member number (slice_get p.structures number) n m refl is
  type_member types.Void n m is = member_complete 0 0 [] n m refl is
  type_member (types.Int t) n m is = member_complete 0 0 [] n m refl is
  type_member (types.Pointer row) n m is = member_complete 0 0 [] n m refl is
  type_member (types.Array element length bytes) n m is = member_complete 0 0 [] n m refl is

  member_whole : (whole : Qualified) (number offset : ℕ) (ty : Qualified) (o : Option MemberTree) → member_at p whole.ty number ≡ o → member_fits o whole offset ty ≡ true → IsWhole p ty.ty
  member_whole whole number offset ty None is e = absurd (false≢true e)
  member_whole whole number offset ty (Some m) is e =
      let flags = same_flag (m.ty.constant || whole.constant) ty.constant && same_flag (m.ty.volatile || whole.volatile) ty.volatile in
      whole_same p m.ty.ty ty.ty (and_parts (same_type m.ty.ty ty.ty) flags (and_parts (nat_eq m.offset offset) (same_type m.ty.ty ty.ty && flags) e).1).0 (type_member whole.ty number m is)

  -- ---- places
  pub place_whole : (f : ℕ) (place : Place) → IsPlaceOf p f place → IsWhole p (place_type place).ty
  unfolding place_rule_holds
  place_whole f (tree.Name (names.Static n) ty line) h = static_whole n ty (slice_get p.statics n) refl h
  place_whole f (tree.Name (names.Param n) ty line) h = param_whole (function_at p f).params n ty (slice_get (function_at p f).params n) (all_declared f).params refl h
  place_whole f (tree.Name (names.Local n) ty line) h = local_whole (function_at p f).locals n ty (slice_get (function_at p f).locals n) (all_declared f).locals refl h
  place_whole f (tree.Name (names.Register n) ty line) h = register_whole (is_device n) ty h
  place_whole f (tree.Bit register bit line) h = inl refl
  place_whole f (tree.Member whole member offset ty line) h = member_whole (place_type whole) member offset ty (member_at p (place_type whole).ty member) refl h.0
  place_whole f (tree.Deref pointer ty line) h = inl (and_parts (is_the (pointed p (type_of pointer)) ty) (is_complete p ty.ty) h.0).1

  pub place_not_void : (f : ℕ) (place : Place) → IsPlaceOf p f place → (place_type place).ty ≡ types.Void → ⊥
  place_not_void f place h e =
      ⊎_elim
      (λ (complete : is_complete p (place_type place).ty ≡ true). let q : is_complete p (place_type place).ty ≡ false = ap (is_complete p) e in false≢true (sym q ∙ complete))
      (λ (array : is_array (place_type place).ty ≡ true). let q : is_array (place_type place).ty ≡ false = ap is_array e in false≢true (sym q ∙ array))
      (place_whole f place h)

  -- a structure is complete
  pub struct_complete : (f : ℕ) (place : Place) → IsPlaceOf p f place → is_struct (place_type place).ty ≡ true → is_complete p (place_type place).ty ≡ true
  struct_complete f place h e = ⊎_elim (λ complete. complete) (λ array. absurd (both_not (place_type place).ty e array)) (place_whole f place h)
    where
      both_not : (t : Ty) → is_struct t ≡ true → is_array t ≡ true → ⊥
      both_not types.Void s a = false≢true s
      both_not (types.Int i) s a = false≢true s
      both_not (types.Pointer row) s a = false≢true s
      both_not (types.Array element length bytes) s a = false≢true s
      both_not (types.Struct number) s a = false≢true a

-- How large objects are.
use Rattle.std.proofs.Common.{◌≡◌, ℕ, ◌+◌, ◌-◌, ◌≤◌, ⊎_elim, true, false, ◌&&◌, List, length, Option, Some, None, refl, ap, ◌∙◌, arith}
use Rattle.std.proofs.lemmas.Bool.{and_parts, false≢true, leb-true, cases_lt}
use Rattle.std.specs.List.{list_all}
use Rattle.std.specs.Prelude.{slice_get, nat_le}
use Rattle.c_ints.specs.Range.{bytes_of}
use Rattle.c_ints.specs.declared.types.IntTy.{IntTy}
use Rattle.c_ints.specs.declared.types.IntTy.TheVariants as int
use Rattle.c_typed.specs.Sameness.{is_scalar, is_complete}
use Rattle.c_typed.specs.Sound.{static_fits, object_fits, initial_fits, type_is_there, result_fits, param_fits, local_fits, function_fits, statements_fit}
use Rattle.c_typed.specs.Trees.{FunctionTree, StaticTree, VariableTree, Program}
use Rattle.c_typed.specs.Types.{type_bytes}
use Rattle.c_typed.specs.declared.types.Ty.{Ty}
use Rattle.c_typed.specs.declared.types.Ty.TheVariants as types
use Rattle.src_rules.proofs.Starts.{all_at, sound_parts}
use Rattle.src_rules.proofs.Stepping.{get_front}
use Rattle.src_rules.proofs.Writing.{get_behind}
use Rattle.src_rules.specs.Laws.{IsProper, ObjectsAreSmall}
use Rattle.src_values.specs.Objects.{or_no_function, variables_of, bytes_of_static, bytes_of_variable, object_bytes}
use Rattle.src_values.specs.declared.objects.Object.{Object}
use Rattle.src_values.specs.declared.objects.Object.TheVariants.{Fixed, Variable}

int_small : (ty : IntTy) → bytes_of ty ≤ 65535
int_small int.Char = omega arith
int_small int.SChar = omega arith
int_small int.UChar = omega arith
int_small int.Short = omega arith
int_small int.UShort = omega arith
int_small int.Int = omega arith
int_small int.UInt = omega arith
int_small int.Long = omega arith
int_small int.ULong = omega arith

scalar_small : (sizes : List ℕ) (ty : Ty) → is_scalar ty ≡ true → type_bytes sizes ty ≤ 65535
scalar_small sizes types.Void e = absurd (false≢true e)
scalar_small sizes (types.Int ty) e = int_small ty
scalar_small sizes (types.Pointer row) e = omega arith
scalar_small sizes (types.Array a m x) e = absurd (false≢true e)
scalar_small sizes (types.Struct n) e = absurd (false≢true e)

object_small : (p : Program) (ty : Ty) → object_fits p ty ≡ true → type_bytes p.sizes ty ≤ 65535
object_small p ty e =
    let a = and_parts (type_is_there p ty) (is_complete p ty && nat_le (type_bytes p.sizes ty) 65535) e in
    leb-true (type_bytes p.sizes ty) 65535 (and_parts (is_complete p ty) (nat_le (type_bytes p.sizes ty) 65535) a.1).1

static_small : (p : Program) → IsProper p → (n : ℕ) (o : Option StaticTree) → slice_get p.statics n ≡ o → bytes_of_static p.sizes o ≤ 65535
static_small p h n None is = omega arith
static_small p h n (Some s) is =
    object_small p s.ty.ty (and_parts (object_fits p s.ty.ty) (initial_fits p (type_bytes p.sizes s.ty.ty) 0 s.initial) (all_at (static_fits p) p.statics n s (sound_parts p h.sound).0 is)).0

module _ (p : Program) (f : FunctionTree) (fits : function_fits p f ≡ true) where
  param_small : (n : ℕ) (o : Option VariableTree) → slice_get f.params n ≡ o → bytes_of_variable p.sizes o ≤ 65535
  param_small n None is = omega arith
  param_small n (Some v) is =
      let a = and_parts (result_fits p f.result) (list_all (param_fits p) f.params && (list_all (local_fits p) f.locals && statements_fit p f true false false f.body)) fits in
      let b = and_parts (list_all (param_fits p) f.params) (list_all (local_fits p) f.locals && statements_fit p f true false false f.body) a.1 in
      scalar_small p.sizes v.ty.ty (and_parts (is_scalar v.ty.ty) (type_is_there p v.ty.ty) (all_at (param_fits p) f.params n v b.0 is)).0

  local_small : (n : ℕ) (o : Option VariableTree) → slice_get f.locals n ≡ o → bytes_of_variable p.sizes o ≤ 65535
  local_small n None is = omega arith
  local_small n (Some v) is =
      let a = and_parts (result_fits p f.result) (list_all (param_fits p) f.params && (list_all (local_fits p) f.locals && statements_fit p f true false false f.body)) fits in
      let b = and_parts (list_all (param_fits p) f.params) (list_all (local_fits p) f.locals && statements_fit p f true false false f.body) a.1 in
      let c = and_parts (list_all (local_fits p) f.locals) (statements_fit p f true false false f.body) b.1 in
      object_small p v.ty.ty (all_at (local_fits p) f.locals n v c.0 is)

  variable_small : (n : ℕ) → bytes_of_variable p.sizes (slice_get (variables_of f) n) ≤ 65535
  variable_small n =
      ⊎_elim
      (λ l. rw (get_front f.params f.locals n l) (param_small n (slice_get f.params n) refl))
      (λ l. let e : n ≡ length f.params + (n - length f.params) = omega arith in
      rw (ap (slice_get (variables_of f)) e ∙ get_behind f.params f.locals (n - length f.params)) (local_small (n - length f.params) (slice_get f.locals (n - length f.params)) refl))
      (cases_lt n (length f.params))

function_small : (p : Program) → IsProper p → (f n : ℕ) (o : Option FunctionTree) → slice_get p.functions f ≡ o → bytes_of_variable p.sizes (slice_get (variables_of (or_no_function o)) n) ≤ 65535
function_small p h f n None is = omega arith
function_small p h f n (Some function) is = variable_small p function (all_at (function_fits p) p.functions f function (sound_parts p h.sound).1 is) n

-- an object, be it there or not
pub any_small : (p : Program) → IsProper p → (object : Object) → object_bytes p object ≤ 65535
unfolding object_bytes
any_small p h (Fixed n) = static_small p h n (slice_get p.statics n) refl
any_small p h (Variable c n) = function_small p h c.function n (slice_get p.functions c.function) refl

pub small : ObjectsAreSmall
small p h object there = any_small p h object

-- A local that begins with a list, where it lies and how many bytes it has.
use Rattle.std.proofs.Common.{◌≡◌, ℕ, zero, suc, ◌+◌, ◌-◌, ◌<◌, ◌≤◌, Bool, true, false, ◌&&◌, nat_le, List, [], ◌∷◌, ◌++◌, length, length-append, map, Some, option_map, refl, sym, ap, ◌∙◌, arith}
use Rattle.std.specs.Prelude.{slice_get, slice_index, unwrap_or}
use Rattle.c_ints.specs.declared.types.IntTy.{IntTy}
use Rattle.c_ints.specs.declared.types.IntTy.TheVariants as int
use Rattle.c_typed.specs.Fits.{is_named, place_rule_holds}
use Rattle.c_typed.specs.Sameness.{same_int, same_type, same_flag, same_qualified}
use Rattle.c_typed.specs.Trees as tree
use Rattle.c_typed.specs.Types.{item_start}
use Rattle.c_typed.specs.Trees.{Item, VariableTree, Program}
use Rattle.c_typed.specs.Words.{variable_bytes, item_bytes}
use Rattle.c_typed.specs.declared.expression.Object.TheVariants as names
use Rattle.c_typed.specs.declared.types.Qualified.{Qualified}
use Rattle.c_typed.specs.declared.types.Ty.{Ty}
use Rattle.c_typed.specs.declared.types.Ty.TheVariants as types
use Rattle.lower_expr.specs.Layout.{object_byte}
use Rattle.src_rules.specs.Parts.{IsListOf, IsPlaceOf, AreItemsOf, local_bytes as bytes_in}
use Rattle.src_rules.specs.Standing.{IsReached}
use Rattle.src_values.specs.Objects.{function_at, object_bytes, bytes_of_variable, local_of}
use Rattle.src_values.specs.declared.objects.CopyOf.{CopyOf}
use Rattle.lower_trace.proofs.CodeLeft.{Scene, number, ground_in}
use Rattle.lower_trace.proofs.Kept.{SceneLaws, own_copy}
use Rattle.lower_trace.proofs.ListBytes.{Listed}
use Rattle.lower_trace.proofs.Operations.{or_first, true_le}
use Rattle.lower_trace.proofs.Written.{both, and_left, and_right, nat_same}

-- ---- lists
get_below : {X : Type 0} (xs : List X) (i : ℕ) (x : X) → slice_get xs i ≡ Some x → i < length xs
get_below [] i x e = absurd (cc)
get_below (y ∷ xs) zero x e = omega arith
get_below (y ∷ xs) (suc i) x e = let h = get_below xs i x e in omega arith

get_behind : {X : Type 0} (xs ys : List X) (i : ℕ) → slice_get (xs ++ ys) (length xs + i) ≡ slice_get ys i
get_behind [] ys i = let e : 0 + i ≡ i = omega arith in ap (slice_get ys) e
get_behind (x ∷ xs) ys i = let e : suc (length xs) + i ≡ suc (length xs + i) = omega arith in ap (slice_get (x ∷ (xs ++ ys))) e ∙ get_behind xs ys i

get_mapped : (f : VariableTree → ℕ) (vs : List VariableTree) (i : ℕ) (v : VariableTree) → slice_get vs i ≡ Some v → slice_index (map f vs) i ≡ f v
get_mapped f [] i v e = absurd (cc)
get_mapped f (u ∷ vs) zero v e = ap f (ap (λ o. unwrap_or o u) e)
get_mapped f (u ∷ vs) (suc i) v e = get_mapped f vs i v e

-- ---- a type is the same as itself
int_itself : (a : IntTy) → same_int a a ≡ true
int_itself int.Char = refl
int_itself int.SChar = refl
int_itself int.UChar = refl
int_itself int.Short = refl
int_itself int.UShort = refl
int_itself int.Int = refl
int_itself int.UInt = refl
int_itself int.Long = refl
int_itself int.ULong = refl

type_itself : (a : Ty) → same_type a a ≡ true
type_itself types.Void = refl
type_itself (types.Int a) = int_itself a
type_itself (types.Pointer row) = nat_same row
type_itself (types.Array element count size) = both _ _ (nat_same element) (both _ _ (nat_same count) (nat_same size))
type_itself (types.Struct number) = nat_same number

flag_itself : (b : Bool) → same_flag b b ≡ true
flag_itself true = refl
flag_itself false = refl

qualified_itself : (a : Qualified) → same_qualified a a ≡ true
qualified_itself a = both _ _ (type_itself a.ty) (both _ _ (flag_itself a.constant) (flag_itself a.volatile))

local_named : (z : Scene) (c : CopyOf) (local : ℕ) (v : VariableTree) → slice_get (function_at z.program c.function).locals local ≡ Some v → IsPlaceOf z.program c.function (tree.Name (names.Local local) v.ty 0)
unfolding place_rule_holds
local_named z c local v e = ap (λ o. is_named true (option_map (λ (y : VariableTree). y.ty) o) v.ty) e ∙ or_first (same_qualified v.ty v.ty) _ (qualified_itself v.ty)

ground_bytes : (z : Scene) (c : CopyOf) → (ground_in z c).bytes ≡ map (variable_bytes z.program.sizes) (function_at z.program c.function).locals
unfolding ground_in
ground_bytes z c = refl

pub listed_there : (z : Scene) (laws : SceneLaws z) (c : CopyOf) (local : ℕ) (v : VariableTree) → IsReached z.program c → slice_get (function_at z.program c.function).locals local ≡ Some v → Listed z c local
unfolding object_bytes
listed_there z laws c local v reached there_is =
    let f = function_at z.program c.function in
    let less = get_below f.locals local v there_is in
    let sum = length-append f.params f.locals in
    record {
      there = omega arith;
      starts = laws.names c (names.Local local) v.ty 0 reached (local_named z c local v there_is) ∙ ap (λ n. Some (object_byte (ground_in z c).layout n (names.Local local))) (sym (own_copy z c));
      size = ap (bytes_of_variable z.program.sizes) (get_behind f.params f.locals local ∙ there_is) ∙ sym (ap (λ bytes. slice_index bytes local) (ground_bytes z c) ∙ get_mapped (variable_bytes z.program.sizes) f.locals local v there_is);
    }

pub listed_of : (z : Scene) (laws : SceneLaws z) (c : CopyOf) (local : ℕ) (all : List Item) → IsReached z.program c → IsListOf z.program c.function local all → Listed z c local
listed_of z laws c local all reached is = listed_there z laws c local is.variable reached is.there

-- ---- items lie in their local
pub local_size : (z : Scene) (c : CopyOf) (local : ℕ) → object_bytes z.program (local_of z.program c local) ≡ bytes_in z.program c.function local
unfolding object_bytes
local_size z c local = ap (bytes_of_variable z.program.sizes) (get_behind (function_at z.program c.function).params (function_at z.program c.function).locals local)

pub item_inside : (p : Program) (f size before : ℕ) (item : Item) (rest : List Item) → AreItemsOf p f size before (item ∷ rest) → item_start item + item_bytes p.sizes item ≤ size
item_inside p f size before item rest h =
    let start = item_start item in
    let bytes = item_bytes p.sizes item in
    let inside = and_right (nat_le before start) (nat_le start size && nat_le bytes (size - start)) h.0 in
    let first = true_le start size (and_left (nat_le start size) (nat_le bytes (size - start)) inside) in
    let all = true_le bytes (size - start) (and_right (nat_le start size) (nat_le bytes (size - start)) inside) in
    omega arith

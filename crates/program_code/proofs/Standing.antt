-- What a place that is named stands for is there, and has the bytes of its type.
use Rattle.std.proofs.Common.{◌≡◌, ℕ, ◌+◌, ◌<◌, ◌≤◌, Bool, true, false, ◌&&◌, ◌||◌, nat_eq, nat_lt, nat_le, if◌then◌else◌, List, [], ◌∷◌, ◌++◌, Option, Some, None, is_some, option_map, slice_get, slice_index, refl, sym, ap, ◌∙◌, subst, eqb-true, leb-true, ltb-true, arith}
use Rattle.c_ints.specs.Operators.{compares}
use Rattle.c_ints.specs.Range.{bytes_of}
use Rattle.c_ints.specs.declared.operators.BinOp.{BinOp}
use Rattle.c_ints.specs.declared.operators.BinOp.TheVariants as binop
use Rattle.c_ints.specs.declared.types.IntTy.{IntTy}
use Rattle.c_ints.specs.declared.types.IntTy.TheVariants as int
use Rattle.c_typed.specs.Fits.{place_rule_holds, declared_type, is_named, is_open, names_local, is_device, register_type, variable_type, static_type, member_at, fits, place_fits, Pointed}
use Rattle.c_typed.specs.Room.{address_bytes, place_room}
use Rattle.c_typed.specs.Rules.{binary_fits, integers_fit, point_alike, offset_fits, moves, counts_in, member_fits, deref_fits}
use Rattle.c_typed.specs.Sameness.{same_type, same_flag, same_qualified, is_scalar, is_promoted, is_index, is_complete, pointed}
use Rattle.c_typed.specs.Sound.{object_fits, type_is_there, static_fits, local_fits, param_fits, initial_fits}
use Rattle.c_typed.specs.Trees as tree
use Rattle.c_typed.specs.Trees.{Place, VariableTree, StaticTree, FunctionTree, Program}
use Rattle.c_typed.specs.Types.{type_bytes, type_of, place_type, form_of}
use Rattle.c_typed.specs.declared.calls.FnId.{FnId}
use Rattle.c_typed.specs.declared.calls.FnId.TheVariants as callee
use Rattle.c_typed.specs.declared.expression.Object.{Object}
use Rattle.c_typed.specs.declared.expression.Object.TheVariants as object
use Rattle.c_typed.specs.declared.types.Qualified.{Qualified}
use Rattle.c_typed.specs.declared.types.Ty.{Ty}
use Rattle.c_typed.specs.declared.types.Ty.TheVariants.{Void, Int, Pointer, Array, Struct}
use Rattle.core_code.specs.Tree.{Tree}
use Rattle.core_code.specs.declared.code.Byte.{Byte}
use Rattle.core_code.specs.declared.code.Byte.TheVariants as bytes
use Rattle.core_puts.specs.Bytes.{beyond, behind, operation_type}
use Rattle.lower_expr.specs.Layout.{Layout, width, place_width, static_number, object_byte}
use Rattle.lower_expr.specs.Lowering.{pointer_code}
use Rattle.lower_expr.specs.Spots.{spot_of, member_spot, pointer_bytes}
use Rattle.lower_expr.specs.declared.places.Spot.{Spot}
use Rattle.lower_expr.specs.declared.places.Spot.TheVariants.{Fixed, Bit, Computed}
use Rattle.pic_world.specs.Registers.{Register, registers, name_in}
use Rattle.named_registers.specs.Registers.{Naming, object_registers, place_registers}
use Rattle.program_code.specs.Naming.{Memory, HasBytes, Lies, Points, CallsFit, RegistersFit, count_bytes}
use Rattle.program_code.proofs.Chain.{never}
use Rattle.program_code.proofs.Operators.{whole_bytes}
use Rattle.program_code.proofs.Rows.{form_at}
use Rattle.program_code.proofs.Typing.{and_first, and_last, is_counted, alike_first, alike_last, promoted_some}
use Rattle.program_code.proofs.Nodes.{form_same}
use Rattle.program_code.proofs.Expressions.{is_computed, whole_computed}
use Rattle.program_code.proofs.Rooms.{Keeps, same_type_bytes, list_there, room_holds, in_whole}
use Rattle.program_code.proofs.Lying.{count_within, has_fewer, AllLie, less, past, SpotLies, SpotPoints, BitHas}

-- ---- registers
-- each register's lowest address is below 100h
abbrev all_low : List Register → Bool
all_low [] = true
all_low (r ∷ rs) = nat_lt r.1 0x100 && all_low rs

named_low : (rs : List Register) (address : ℕ) → all_low rs ≡ true → is_some (name_in rs address) ≡ true → address < 0x100
named_low [] address low h = never h
named_low (r ∷ rs) address low h = by (nat_eq r.1 address) refl h (λ k. named_low rs address (and_last (nat_lt r.1 0x100) (all_low rs) low) k)
  where
    by : (b : Bool) → nat_eq r.1 address ≡ b → is_some (if b then Some r.0 else name_in rs address) ≡ true → (is_some (name_in rs address) ≡ true → address < 0x100) → address < 0x100
    by true e h more = let same = eqb-true r.1 address e in let lt = ltb-true r.1 0x100 (and_first (nat_lt r.1 0x100) (all_low rs) low) in omega (arith, same, lt)
    by false e h more = more h

device_low : (address : ℕ) → is_device address ≡ true → address < 0x100
unfolding is_device
device_low address h = named_low registers address refl h

-- ---- types
two_right : (sizes : List ℕ) (op : BinOp) (left : IntTy) (right ty : Ty) → integers_fit op (Int left) right ty ≡ true → count_bytes op (bytes_of left) ≤ type_bytes sizes right
two_right sizes binop.Mul left right ty e = let s = same_type_bytes sizes (Int left) right (and_first (same_type (Int left) right) (same_type (Int left) ty) (and_last (is_promoted (Int left)) (same_type (Int left) right && same_type (Int left) ty) e)) in omega (arith, s)
two_right sizes binop.Div left right ty e = let s = same_type_bytes sizes (Int left) right (and_first (same_type (Int left) right) (same_type (Int left) ty) (and_last (is_promoted (Int left)) (same_type (Int left) right && same_type (Int left) ty) e)) in omega (arith, s)
two_right sizes binop.Rem left right ty e = let s = same_type_bytes sizes (Int left) right (and_first (same_type (Int left) right) (same_type (Int left) ty) (and_last (is_promoted (Int left)) (same_type (Int left) right && same_type (Int left) ty) e)) in omega (arith, s)
two_right sizes binop.Add left right ty e = let s = same_type_bytes sizes (Int left) right (and_first (same_type (Int left) right) (same_type (Int left) ty) (and_last (is_promoted (Int left)) (same_type (Int left) right && same_type (Int left) ty) e)) in omega (arith, s)
two_right sizes binop.Sub left right ty e = let s = same_type_bytes sizes (Int left) right (and_first (same_type (Int left) right) (same_type (Int left) ty) (and_last (is_promoted (Int left)) (same_type (Int left) right && same_type (Int left) ty) e)) in omega (arith, s)
two_right sizes binop.Shl left right ty e = promoted_some sizes right (and_first (is_promoted right) (same_type (Int left) ty) (and_last (is_promoted (Int left)) (is_promoted right && same_type (Int left) ty) e))
two_right sizes binop.Shr left right ty e = promoted_some sizes right (and_first (is_promoted right) (same_type (Int left) ty) (and_last (is_promoted (Int left)) (is_promoted right && same_type (Int left) ty) e))
two_right sizes binop.Lt left right ty e = let s = same_type_bytes sizes (Int left) right (and_first (same_type (Int left) right) (same_type ty (Int int.Int)) (and_last (is_promoted (Int left)) (same_type (Int left) right && same_type ty (Int int.Int)) e)) in omega (arith, s)
two_right sizes binop.Gt left right ty e = let s = same_type_bytes sizes (Int left) right (and_first (same_type (Int left) right) (same_type ty (Int int.Int)) (and_last (is_promoted (Int left)) (same_type (Int left) right && same_type ty (Int int.Int)) e)) in omega (arith, s)
two_right sizes binop.Le left right ty e = let s = same_type_bytes sizes (Int left) right (and_first (same_type (Int left) right) (same_type ty (Int int.Int)) (and_last (is_promoted (Int left)) (same_type (Int left) right && same_type ty (Int int.Int)) e)) in omega (arith, s)
two_right sizes binop.Ge left right ty e = let s = same_type_bytes sizes (Int left) right (and_first (same_type (Int left) right) (same_type ty (Int int.Int)) (and_last (is_promoted (Int left)) (same_type (Int left) right && same_type ty (Int int.Int)) e)) in omega (arith, s)
two_right sizes binop.Eq left right ty e = let s = same_type_bytes sizes (Int left) right (and_first (same_type (Int left) right) (same_type ty (Int int.Int)) (and_last (is_promoted (Int left)) (same_type (Int left) right && same_type ty (Int int.Int)) e)) in omega (arith, s)
two_right sizes binop.Ne left right ty e = let s = same_type_bytes sizes (Int left) right (and_first (same_type (Int left) right) (same_type ty (Int int.Int)) (and_last (is_promoted (Int left)) (same_type (Int left) right && same_type ty (Int int.Int)) e)) in omega (arith, s)
two_right sizes binop.And left right ty e = let s = same_type_bytes sizes (Int left) right (and_first (same_type (Int left) right) (same_type (Int left) ty) (and_last (is_promoted (Int left)) (same_type (Int left) right && same_type (Int left) ty) e)) in omega (arith, s)
two_right sizes binop.Xor left right ty e = let s = same_type_bytes sizes (Int left) right (and_first (same_type (Int left) right) (same_type (Int left) ty) (and_last (is_promoted (Int left)) (same_type (Int left) right && same_type (Int left) ty) e)) in omega (arith, s)
two_right sizes binop.Or left right ty e = let s = same_type_bytes sizes (Int left) right (and_first (same_type (Int left) right) (same_type (Int left) ty) (and_last (is_promoted (Int left)) (same_type (Int left) right && same_type (Int left) ty) e)) in omega (arith, s)

pub binary_right : (sizes : List ℕ) (p : Program) (op : BinOp) (left right ty : Ty) → binary_fits p op left right ty ≡ true → count_bytes op (bytes_of (operation_type left)) ≤ type_bytes sizes right
binary_right sizes p op (Int left) right ty e = two_right sizes op left right ty e
binary_right sizes p op (Pointer target) (Pointer other) ty e = count_within op 2 2 (omega arith) (omega arith)
binary_right sizes p op (Pointer target) Void ty e = alike_last (pointed p (Pointer target)) (same_type ty (Int int.Int)) (and_last (compares op) (point_alike (pointed p (Pointer target)) None && same_type ty (Int int.Int)) e)
binary_right sizes p op (Pointer target) (Int right) ty e = alike_last (pointed p (Pointer target)) (same_type ty (Int int.Int)) (and_last (compares op) (point_alike (pointed p (Pointer target)) None && same_type ty (Int int.Int)) e)
binary_right sizes p op (Pointer target) (Array element count size) ty e = alike_last (pointed p (Pointer target)) (same_type ty (Int int.Int)) (and_last (compares op) (point_alike (pointed p (Pointer target)) None && same_type ty (Int int.Int)) e)
binary_right sizes p op (Pointer target) (Struct number) ty e = alike_last (pointed p (Pointer target)) (same_type ty (Int int.Int)) (and_last (compares op) (point_alike (pointed p (Pointer target)) None && same_type ty (Int int.Int)) e)
binary_right sizes p op Void right ty e = alike_first p (pointed p right) (same_type ty (Int int.Int)) (and_last (compares op) (point_alike None (pointed p right) && same_type ty (Int int.Int)) e)
binary_right sizes p op (Array element count size) right ty e = alike_first p (pointed p right) (same_type ty (Int int.Int)) (and_last (compares op) (point_alike None (pointed p right) && same_type ty (Int int.Int)) e)
binary_right sizes p op (Struct number) right ty e = alike_first p (pointed p right) (same_type ty (Int int.Int)) (and_last (compares op) (point_alike None (pointed p right) && same_type ty (Int int.Int)) e)

index_two : (sizes : List ℕ) (ty : Ty) → is_index ty ≡ true → type_bytes sizes ty ≡ 2
index_two sizes ty e = by_either (same_type ty (Int int.Int)) (same_type ty (Int int.UInt)) refl refl e
  where
    by_either : (a b : Bool) → same_type ty (Int int.Int) ≡ a → same_type ty (Int int.UInt) ≡ b → (a || b) ≡ true → type_bytes sizes ty ≡ 2
    by_either true b f g e = same_type_bytes sizes ty (Int int.Int) f
    by_either false true f g e = same_type_bytes sizes ty (Int int.UInt) g
    by_either false false f g e = never e

pub counted_two : (sizes : List ℕ) (p : Program) (ty : Ty) (size : ℕ) → counts_in p (pointed p ty) size ≡ true → type_bytes sizes ty ≡ 2
counted_two sizes p ty size e = let row = is_counted p ty size e in ap (type_bytes sizes) row.1

moves_two : (sizes : List ℕ) (p : Program) (pointer index : Ty) (size : ℕ) (ty : Ty) → moves p pointer index size ty ≡ true → (type_bytes sizes pointer ≡ 2) × (type_bytes sizes index ≡ 2)
moves_two sizes p pointer index size ty e = (
  counted_two sizes p pointer size (and_first (counts_in p (pointed p pointer) size) (same_type pointer ty) (and_last (is_index index) (counts_in p (pointed p pointer) size && same_type pointer ty) e)),
  index_two sizes index (and_first (is_index index) (counts_in p (pointed p pointer) size && same_type pointer ty) e),
)

pub offset_two : (sizes : List ℕ) (p : Program) (op : BinOp) (left right : Ty) (size : ℕ) (ty : Ty) → offset_fits p op left right size ty ≡ true → (type_bytes sizes left ≡ 2) × (type_bytes sizes right ≡ 2)
offset_two sizes p binop.Add left right size ty e = by_either (moves p left right size ty) refl e
  where
    by_either : (a : Bool) → moves p left right size ty ≡ a → (a || moves p right left size ty) ≡ true → (type_bytes sizes left ≡ 2) × (type_bytes sizes right ≡ 2)
    by_either true f e = moves_two sizes p left right size ty f
    by_either false f e = let b = moves_two sizes p right left size ty e in (b.1, b.0)
offset_two sizes p binop.Sub left right size ty e = moves_two sizes p left right size ty e
offset_two sizes p binop.Mul left right size ty e = never e
offset_two sizes p binop.Div left right size ty e = never e
offset_two sizes p binop.Rem left right size ty e = never e
offset_two sizes p binop.Shl left right size ty e = never e
offset_two sizes p binop.Shr left right size ty e = never e
offset_two sizes p binop.Lt left right size ty e = never e
offset_two sizes p binop.Gt left right size ty e = never e
offset_two sizes p binop.Le left right size ty e = never e
offset_two sizes p binop.Ge left right size ty e = never e
offset_two sizes p binop.Eq left right size ty e = never e
offset_two sizes p binop.Ne left right size ty e = never e
offset_two sizes p binop.And left right size ty e = never e
offset_two sizes p binop.Xor left right size ty e = never e
offset_two sizes p binop.Or left right size ty e = never e

pub alike_two : (sizes : List ℕ) (p : Program) (left right : Ty) (a : Bool) → (point_alike (pointed p left) (pointed p right) && a) ≡ true → type_bytes sizes right ≡ 2
alike_two sizes p left (Pointer row) a e = refl
alike_two sizes p left Void a e = alike_last (pointed p left) a e
alike_two sizes p left (Int ty) a e = alike_last (pointed p left) a e
alike_two sizes p left (Array element count size) a e = alike_last (pointed p left) a e
alike_two sizes p left (Struct number) a e = alike_last (pointed p left) a e

the_two : (sizes : List ℕ) (p : Program) (pointer : Ty) (ty : Qualified) → deref_fits p pointer ty ≡ true → type_bytes sizes pointer ≡ 2
the_two sizes p (Pointer row) ty e = refl
the_two sizes p Void ty e = never e
the_two sizes p (Int t) ty e = never e
the_two sizes p (Array element count size) ty e = never e
the_two sizes p (Struct number) ty e = never e

-- what a name is declared with has its bytes
open_none : (sizes : List ℕ) (declared ty : Ty) → is_open declared ty ≡ true → type_bytes sizes ty ≡ 0
open_none sizes (Array a m x) (Array b n y) e = eqb-true y 0 (and_last (nat_eq n 0) (nat_eq y 0) (and_last (nat_eq a b) (nat_eq n 0 && nat_eq y 0) e))
open_none sizes (Array a m x) Void e = never e
open_none sizes (Array a m x) (Int ty) e = never e
open_none sizes (Array a m x) (Pointer row) e = never e
open_none sizes (Array a m x) (Struct number) e = never e
open_none sizes Void ty e = never e
open_none sizes (Int t) ty e = never e
open_none sizes (Pointer row) ty e = never e
open_none sizes (Struct number) ty e = never e

named_bytes : (sizes : List ℕ) (local : Bool) (declared ty : Qualified) → is_named local (Some declared) ty ≡ true → type_bytes sizes ty.ty ≤ type_bytes sizes declared.ty
named_bytes sizes local declared ty e = by_either (same_qualified declared ty) refl e
  where
    by_either : (a : Bool) → same_qualified declared ty ≡ a → (a || (local && (is_open declared.ty ty.ty && (same_flag declared.constant ty.constant && same_flag declared.volatile ty.volatile)))) ≡ true → type_bytes sizes ty.ty ≤ type_bytes sizes declared.ty
    by_either true f e =
        let s = same_type_bytes sizes declared.ty ty.ty (and_first (same_type declared.ty ty.ty) (same_flag declared.constant ty.constant && same_flag declared.volatile ty.volatile) f) in
        omega (arith, s)
    by_either false f e =
        let flags = same_flag declared.constant ty.constant && same_flag declared.volatile ty.volatile in
        let none = open_none sizes declared.ty ty.ty (and_first (is_open declared.ty ty.ty) flags (and_last local (is_open declared.ty ty.ty && flags) e)) in
        omega (arith, none)

-- a bit is no structure, which has members
abbrev pub is_bit : Place → Bool
is_bit (tree.Bit register bit line) = true
is_bit (tree.Name object ty line) = false
is_bit (tree.Member whole member offset ty line) = false
is_bit (tree.Deref pointer ty line) = false

pub whole_no_bit : (p : Program) (whole : Place) (member offset : ℕ) (ty : Qualified) → member_fits (member_at p (place_type whole).ty member) (place_type whole) offset ty ≡ true → is_bit whole ≡ false
whole_no_bit p (tree.Bit register bit line) member offset ty e = never e
whole_no_bit p (tree.Name object t line) member offset ty e = refl
whole_no_bit p (tree.Member whole m o t line) member offset ty e = refl
whole_no_bit p (tree.Deref pointer t line) member offset ty e = refl

pointer_form : (spot : Spot) → pointer_bytes spot ≡ address_bytes (form_at spot)
pointer_form (Fixed byte) = refl
pointer_form (Bit register bit) = refl
pointer_form Computed = refl

pub pointer_same : (l : Layout) (c : ℕ) (place : Place) → pointer_bytes (spot_of l c place) ≡ address_bytes (form_of place)
pointer_same l c place = pointer_form (spot_of l c place) ∙ ap address_bytes (form_same l c place)

pub beyond_within : (before w : ℕ) → beyond before w ≤ before + w
unfolding beyond
beyond_within before w = omega arith

-- ---- calls
fit_first : (p : Program) (memory : Memory) (copy : ℕ → ℕ) (xs ys : List FnId) → CallsFit p memory copy (xs ++ ys) → CallsFit p memory copy xs
fit_first p memory copy [] ys h = tt
fit_first p memory copy (callee.User function ∷ xs) ys h = (h.0, fit_first p memory copy xs ys h.1)
fit_first p memory copy (callee.Helper helper ∷ xs) ys h = fit_first p memory copy xs ys h

pub fit_last : (p : Program) (memory : Memory) (copy : ℕ → ℕ) (xs ys : List FnId) → CallsFit p memory copy (xs ++ ys) → CallsFit p memory copy ys
fit_last p memory copy [] ys h = h
fit_last p memory copy (callee.User function ∷ xs) ys h = fit_last p memory copy xs ys h.1
fit_last p memory copy (callee.Helper helper ∷ xs) ys h = fit_last p memory copy xs ys h

-- ---- what a part names
named_first : (memory : Memory) (xs ys : List Naming) → RegistersFit memory (xs ++ ys) → RegistersFit memory xs
named_first memory [] ys h = tt
named_first memory (x ∷ xs) ys h = (h.0, named_first memory xs ys h.1)

named_last : (memory : Memory) (xs ys : List Naming) → RegistersFit memory (xs ++ ys) → RegistersFit memory ys
named_last memory [] ys h = h
named_last memory (x ∷ xs) ys h = named_last memory xs ys h.1

-- What a part calls has a copy, and the registers that it names are there.
abbrev pub PartFits : Program → Memory → (ℕ → ℕ) → List FnId → List Naming → Type 0
PartFits p memory copy calls named = CallsFit p memory copy calls × RegistersFit memory named

pub part_first : (p : Program) (memory : Memory) (copy : ℕ → ℕ) (xs ys : List FnId) (ns ms : List Naming) → PartFits p memory copy (xs ++ ys) (ns ++ ms) → PartFits p memory copy xs ns
part_first p memory copy xs ys ns ms h = (fit_first p memory copy xs ys h.0, named_first memory ns ms h.1)

pub part_last : (p : Program) (memory : Memory) (copy : ℕ → ℕ) (xs ys : List FnId) (ns ms : List Naming) → PartFits p memory copy (xs ++ ys) (ns ++ ms) → PartFits p memory copy ys ms
part_last p memory copy xs ys ns ms h = (fit_last p memory copy xs ys h.0, named_last memory ns ms h.1)

-- an operator calls a helper besides, and names no register
pub without : (p : Program) (memory : Memory) (copy : ℕ → ℕ) (xs ys : List FnId) (ns : List Naming) → PartFits p memory copy (xs ++ ys) ns → PartFits p memory copy xs ns
without p memory copy xs ys ns h = (fit_first p memory copy xs ys h.0, h.1)

-- an object has 65,535 bytes at most, and a scalar four
pub small_object : (p : Program) (ty : Ty) → object_fits p ty ≡ true → type_bytes p.sizes ty ≤ 65535
small_object p ty e = leb-true (type_bytes p.sizes ty) 65535 (and_last (is_complete p ty) (nat_le (type_bytes p.sizes ty) 65535) (and_last (type_is_there p ty) (is_complete p ty && nat_le (type_bytes p.sizes ty) 65535) e))

pub scalar_few : (sizes : List ℕ) (ty : Ty) → is_scalar ty ≡ true → type_bytes sizes ty ≤ 4
scalar_few sizes (Int t) e = let b = whole_bytes t in let x = b.1 in let y = b.2 in omega (arith, x, y)
scalar_few sizes (Pointer row) e = omega arith
scalar_few sizes Void e = never e
scalar_few sizes (Array element count n) e = never e
scalar_few sizes (Struct number) e = never e

-- ---- where variables and static objects stand
pub record Stand (c size : ℕ) (memory : Memory) (l : Layout) (p : Program) (f : FunctionTree) : Type 0 where
  pub keeps : Keeps p f
  pub sizes : p.sizes ≡ l.sizes
  pub own : memory.frames c ≡ Some size
  pub params : (k : ℕ) (v : VariableTree) → slice_get f.params k ≡ Some v → slice_index l.params k + type_bytes p.sizes v.ty.ty ≤ size
  pub locals : (k : ℕ) (v : VariableTree) → slice_get f.locals k ≡ Some v → slice_index l.locals k + type_bytes p.sizes v.ty.ty ≤ size
  pub statics : (k : ℕ) (s : StaticTree) → slice_get p.statics k ≡ Some s → HasBytes (memory.objects (static_number k)) (type_bytes p.sizes s.ty.ty)
  pub results : (function : ℕ) (g : FunctionTree) → slice_get p.functions function ≡ Some g → type_bytes p.sizes g.result ≤ 4

module _ (c size : ℕ) (memory : Memory) (l : Layout) (p : Program) (f : FunctionTree) (has : Stand c size memory l p f) where
  -- so many bytes of the own frame from an offset on
  pub at_base : (n base : ℕ) → base + n ≤ size → Lies memory n (bytes.Frame c base)
  at_base n base m = subst (λ (o : Option ℕ). HasBytes o (base + n)) (sym has.own) m

  -- a fixed place lies in its object, which is no larger than 65,535 bytes, and has an address
  abbrev SpotFits : ℕ → Spot → Type 0
  SpotFits n (Fixed byte) = Lies memory n byte × (n ≤ 65535) × Points memory byte
  SpotFits n (Bit register bit) = Lies memory 1 (bytes.Device register)
  SpotFits n Computed = Unit {0}

  own_points : (n base : ℕ) → base + n ≤ size → Points memory (bytes.Frame c base)
  own_points n base m = subst (λ (o : Option ℕ). HasBytes o base) (sym has.own) (omega (arith, m))

  static_spot : (o : Option StaticTree) (number : ℕ) (ty : Qualified) → slice_get p.statics number ≡ o → is_named false (option_map static_type o) ty ≡ true → SpotFits (type_bytes p.sizes ty.ty) (Fixed (bytes.Static (static_number number) 0))
  static_spot None number ty there h = never h
  static_spot (Some s) number ty there h =
      let fit = list_there (static_fits p) p.statics number s has.keeps.statics there in
      let small = small_object p s.ty.ty (and_first (object_fits p s.ty.ty) (initial_fits p (type_bytes p.sizes s.ty.ty) 0 s.initial) fit) in
      let named = named_bytes p.sizes false s.ty ty h in
      let all = has.statics number s there in
      let o = memory.objects (static_number number) in (
        has_fewer o (type_bytes p.sizes s.ty.ty) (0 + type_bytes p.sizes ty.ty) (omega (arith, named)) all,
        omega (arith, small, named),
        has_fewer o (type_bytes p.sizes s.ty.ty) 0 (omega arith) all,
      )

  param_spot : (o : Option VariableTree) (number : ℕ) (ty : Qualified) → slice_get f.params number ≡ o → is_named false (option_map variable_type o) ty ≡ true → SpotFits (type_bytes p.sizes ty.ty) (Fixed (bytes.Frame c (slice_index l.params number)))
  param_spot None number ty there h = never h
  param_spot (Some v) number ty there h =
      let fit = list_there (param_fits p) f.params number v has.keeps.params there in
      let small = scalar_few p.sizes v.ty.ty (and_first (is_scalar v.ty.ty) (type_is_there p v.ty.ty) fit) in
      let named = named_bytes p.sizes false v.ty ty h in
      let at = has.params number v there in
      (at_base (type_bytes p.sizes ty.ty) (slice_index l.params number) (omega (arith, at, named)), omega (arith, small, named), own_points (type_bytes p.sizes ty.ty) (slice_index l.params number) (omega (arith, at, named)))

  local_spot : (o : Option VariableTree) (number : ℕ) (ty : Qualified) → slice_get f.locals number ≡ o → is_named true (option_map variable_type o) ty ≡ true → SpotFits (type_bytes p.sizes ty.ty) (Fixed (bytes.Frame c (slice_index l.locals number)))
  local_spot None number ty there h = never h
  local_spot (Some v) number ty there h =
      let fit = list_there (local_fits p) f.locals number v has.keeps.locals there in
      let small = small_object p v.ty.ty fit in
      let named = named_bytes p.sizes true v.ty ty h in
      let at = has.locals number v there in
      (at_base (type_bytes p.sizes ty.ty) (slice_index l.locals number) (omega (arith, at, named)), omega (arith, small, named), own_points (type_bytes p.sizes ty.ty) (slice_index l.locals number) (omega (arith, at, named)))

  register_spot : (device : Bool) (ty : Qualified) → is_named false (if device then Some register_type else None) ty ≡ true → type_bytes p.sizes ty.ty ≤ 65535
  register_spot true ty h = let named = named_bytes p.sizes false register_type ty h in omega (arith, named)
  register_spot false ty h = never h

  -- one byte
  register_one : (device : Bool) (ty : Qualified) → is_named false (if device then Some register_type else None) ty ≡ true → type_bytes p.sizes ty.ty ≤ 1
  register_one true ty h = let named = named_bytes p.sizes false register_type ty h in omega (arith, named)
  register_one false ty h = never h

  register_low : (address : ℕ) (device : Bool) (ty : Qualified) → is_device address ≡ device → is_named false (if device then Some register_type else None) ty ≡ true → address < 0x100
  register_low address true ty is h = device_low address is
  register_low address false ty is h = never h

  object_spot : (o : Object) (ty : Qualified) (line : ℕ) → is_named (names_local o) (declared_type p f o) ty ≡ true → RegistersFit memory (object_registers o line) → SpotFits (type_bytes p.sizes ty.ty) (Fixed (object_byte l c o))
  object_spot (object.Static number) ty line h r = static_spot (slice_get p.statics number) number ty refl h
  object_spot (object.Param number) ty line h r = param_spot (slice_get f.params number) number ty refl h
  object_spot (object.Local number) ty line h r = local_spot (slice_get f.locals number) number ty refl h
  object_spot (object.Register address) ty line h r = ((register_low address (is_device address) ty refl h, register_one (is_device address) ty h, λ some. r.0), register_spot (is_device address) ty h, tt)

  -- what lies so many bytes behind a byte that has an address has one too
  points_behind : (byte : Byte) (n i : ℕ) → i ≤ n → Lies memory n byte → Points memory byte → Points memory (behind byte i)
  unfolding beyond
  points_behind (bytes.Frame copy k) n i m h q = has_fewer (memory.frames copy) (k + n) (beyond k i) (omega (arith, m)) h
  points_behind (bytes.Static object k) n i m h q = has_fewer (memory.objects object) (k + n) (beyond k i) (omega (arith, m)) h
  points_behind (bytes.Result r k) n i m h q = q
  points_behind (bytes.Device address) n i m h q = tt

  member_fit : (spot : Spot) (n m offset : ℕ) → SpotFits n spot → (n ≤ 65535 → offset + m ≤ n) → SpotFits m (member_spot spot offset)
  member_fit (Fixed byte) n m offset s within = let inside = within s.1 in let small = s.1 in (past memory n m offset byte inside s.0, omega (arith, inside, small), points_behind byte n offset (omega (arith, inside)) s.0 s.2)
  member_fit (Bit register bit) n m offset s within = tt
  member_fit Computed n m offset s within = tt

  spot_fits : (place : Place) → place_fits p f place ≡ true → RegistersFit memory (place_registers place) → SpotFits (type_bytes p.sizes (place_type place).ty) (spot_of l c place)
  unfolding place_fits place_rule_holds spot_of place_registers
  spot_fits (tree.Name object ty line) h r = object_spot object ty line h r
  spot_fits (tree.Bit register bit line) h r = (device_low register (and_first (is_device register) (nat_lt bit 8) h), omega arith, λ some. r.0)
  spot_fits (tree.Deref pointer ty line) h r = tt
  spot_fits (tree.Member whole member offset ty line) h r =
      let rule = member_fits (member_at p (place_type whole).ty member) (place_type whole) offset ty in
      member_fit (spot_of l c whole) (type_bytes p.sizes (place_type whole).ty) (type_bytes p.sizes ty.ty) offset (spot_fits whole (and_last rule (place_fits p f whole) h) r)
      (λ small. in_whole p f has.keeps (place_type whole) ty member offset small (and_first rule (place_fits p f whole) h))

  fits_lies : (spot : Spot) (n w : ℕ) → w ≤ n → SpotFits n spot → SpotLies memory w spot
  fits_lies (Fixed byte) n w m s = less memory n w byte m s.0
  fits_lies (Bit register bit) n w m s = s
  fits_lies Computed n w m s = tt

  fits_points : (spot : Spot) (n : ℕ) → SpotFits n spot → SpotPoints memory spot
  fits_points (Fixed byte) n s = s.2
  fits_points (Bit register bit) n s = tt
  fits_points Computed n s = tt

  pub spot_points : (place : Place) → place_fits p f place ≡ true → RegistersFit memory (place_registers place) → SpotPoints memory (spot_of l c place)
  spot_points place h r = fits_points (spot_of l c place) (type_bytes p.sizes (place_type place).ty) (spot_fits place h r)

  -- so many bytes of a place, where it is fixed
  pub spot_lies : (place : Place) (w : ℕ) → place_fits p f place ≡ true → RegistersFit memory (place_registers place) → w ≤ type_bytes l.sizes (place_type place).ty → SpotLies memory w (spot_of l c place)
  spot_lies place w h r m =
      let same = ap (λ (s : List ℕ). type_bytes s (place_type place).ty) has.sizes in
      fits_lies (spot_of l c place) (type_bytes p.sizes (place_type place).ty) w (omega (arith, m, same)) (spot_fits place h r)

  some_one : (n : ℕ) → 1 ≤ n → 1 ≤ beyond 0 n
  unfolding beyond
  some_one n e = omega (arith, e)

  member_has : (spot : Spot) (w offset : ℕ) → BitHas memory w (member_spot spot offset)
  member_has (Fixed byte) w offset = tt
  member_has (Bit register bit) w offset = tt
  member_has Computed w offset = tt

  pub bit_has : (place : Place) → BitHas memory (place_width l place) (spot_of l c place)
  unfolding spot_of
  bit_has (tree.Name object ty line) = tt
  bit_has (tree.Bit register bit line) = some_one 1 (omega arith)
  bit_has (tree.Deref pointer ty line) = tt
  bit_has (tree.Member whole member offset ty line) = member_has (spot_of l c whole) (width l ty.ty) offset

  -- an address takes two bytes
  pub two_room : (place : Place) → place_fits p f place ≡ true → is_computed (spot_of l c place) ≡ true → is_bit place ≡ false → 2 ≤ place_room l.sizes place
  unfolding place_fits place_rule_holds spot_of place_room
  two_room (tree.Name object ty line) h e n = never e
  two_room (tree.Bit register bit line) h e n = never (sym n)
  two_room (tree.Deref pointer ty line) h e n =
      let rule = deref_fits p (type_of pointer) ty in
      let two = the_two l.sizes p (type_of pointer) ty (and_first rule (fits p f Pointed pointer) h) in
      let held = room_holds l.sizes p f Pointed pointer (and_last rule (fits p f Pointed pointer) h) in
      omega (arith, two, held)
  two_room (tree.Member whole member offset ty line) h e n =
      let rule = member_fits (member_at p (place_type whole).ty member) (place_type whole) offset ty in
      two_room whole (and_last rule (place_fits p f whole) h) (whole_computed (spot_of l c whole) offset e) (whole_no_bit p whole member offset ty (and_first rule (place_fits p f whole) h))

  -- the address counts where there is one
  pub pointer_lies : (spot : Spot) (address : List Tree) → (is_computed spot ≡ true → AllLie memory address) → AllLie memory (pointer_code spot address)
  pointer_lies (Fixed byte) address h = tt
  pointer_lies (Bit register bit) address h = tt
  pointer_lies Computed address h = h refl

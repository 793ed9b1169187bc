-- What `!` gives of a value's bytes, which byte code takes for an unsigned number of as many bytes.
use Rattle.std.proofs.Common.{◌≡◌, ℕ, ◌+◌, ◌*◌, ◌^◌, ◌<◌, ◌≤◌, Bool, false, nat_eq, pos, List, [], ◌∷◌, Some, None, option_map, refl, sym, ap, ◌∙◌, arith}
use Rattle.std.proofs.lemmas.Grind.{common_steps}
use Rattle.std.proofs.lemmas.Int.{ints}
use Rattle.std.specs.Ordering.{int_eq}
use Rattle.c_ints.specs.Operators.{cut_to, truth}
use Rattle.c_ints.specs.Quantity.{Quantity}
use Rattle.c_ints.specs.Range.{bytes_of, cut, pattern}
use Rattle.c_ints.specs.declared.operators.UnOp.TheVariants.{Bang}
use Rattle.c_ints.specs.declared.types.IntTy.{IntTy}
use Rattle.c_ints.specs.declared.types.IntTy.TheVariants as int
use Rattle.c_typed.specs.declared.types.Ty.{Ty}
use Rattle.core_code.specs.Bytes.{Held, Memory, with_bytes}
use Rattle.core_code.specs.Cost.{cost_of}
use Rattle.core_code.specs.Machine.{Setting, Machine, Task, Waiting, Do as Todo, and_then, operate}
use Rattle.core_code.specs.Tree as code
use Rattle.core_code.specs.Values as core
use Rattle.core_code.specs.Values.{number_in, or_number, value_in, unary_value}
use Rattle.core_code.specs.declared.code.Byte.TheVariants.{Frame}
use Rattle.core_puts.specs.Puts.{test_size}
use Rattle.lower_expr.specs.Rows.{type_of_size}
use Rattle.pic_world.specs.World.{World, arrived, is_due}
use Rattle.src_rules.specs.Standing.{HasType}
use Rattle.src_values.specs.Data as datum
use Rattle.src_values.specs.Data.{Datum}
use Rattle.src_values.specs.Values.{byte_count, is_null, truth_value}
use Rattle.src_values.specs.declared.objects.Pointer.TheVariants.{Null, Into}
use Rattle.lower_trace.proofs.CodeLeft.{Scene}
use Rattle.lower_trace.proofs.Kept.{bytes_small}
use Rattle.lower_trace.proofs.Mirrors.{HasDatum}
use Rattle.lower_trace.proofs.Moving.{pointer_value}
use Rattle.lower_trace.proofs.NumberBytes.{number_is_none, number_back, pattern_small, zero_pattern}
use Rattle.lower_trace.proofs.Operating.{value_number}
use Rattle.lower_trace.proofs.Operations.{Comes, first_free, own_frame}
use Rattle.lower_trace.proofs.Placed.{Placed}
use Rattle.lower_trace.proofs.PointerSums.{null_byte}
use Rattle.lower_trace.proofs.Scaling.{uint, uint_range}

-- ---- the type
-- of so many bytes as an integer of this type
abbrev alike : IntTy → IntTy
alike ty = type_of_size (bytes_of ty)

alike_bytes : (ty : IntTy) → bytes_of (alike ty) ≡ bytes_of ty
alike_bytes int.Char = refl
alike_bytes int.SChar = refl
alike_bytes int.UChar = refl
alike_bytes int.Short = refl
alike_bytes int.UShort = refl
alike_bytes int.Int = refl
alike_bytes int.UInt = refl
alike_bytes int.Long = refl
alike_bytes int.ULong = refl

-- an unsigned type of as many bytes holds each number that these bytes make
alike_holds : (ty : IntTy) (x : ℕ) → x < 256 ^ bytes_of ty → cut (alike ty) (pos x) ≡ pos x
alike_holds int.Char x lt = omega (arith, ints)
alike_holds int.SChar x lt = omega (arith, ints)
alike_holds int.UChar x lt = omega (arith, ints)
alike_holds int.Short x lt = omega (arith, ints)
alike_holds int.UShort x lt = omega (arith, ints)
alike_holds int.Int x lt = omega (arith, ints)
alike_holds int.UInt x lt = omega (arith, ints)
alike_holds int.Long x lt = omega (arith, ints)
alike_holds int.ULong x lt = omega (arith, ints)

-- a value has four bytes at most
few_bytes : (v : Datum) → byte_count v ≤ 4
few_bytes (datum.Number q) = bytes_small q.ty
few_bytes (datum.Pointer x) = omega arith
few_bytes datum.Missing = omega arith

small_size : (size k : ℕ) → k ≤ 4 → test_size size ≡ k → size ≡ k
unfolding test_size
small_size size k le e = grind (arith, common_steps)

pub size_is : (v : Datum) (size : ℕ) → test_size size ≡ byte_count v → size ≡ byte_count v
size_is v size e = small_size size (byte_count v) (few_bytes v) e

-- as many bytes as the value has are read
pub type_bytes_are : (v : Datum) → 0 < byte_count v → bytes_of (type_of_size (byte_count v)) ≡ byte_count v
type_bytes_are (datum.Number q) lt = alike_bytes q.ty
type_bytes_are (datum.Pointer x) lt = refl
type_bytes_are datum.Missing lt = absurd (omega arith)

-- ---- the value
nat_int_eq : (x : ℕ) → int_eq (pos x) (pos 0) ≡ nat_eq x 0
nat_int_eq x = grind (ints, arith, common_steps)

number_of_bytes : (z : Scene) (n b : ℕ) (q : Quantity) (m : Memory) → HasDatum z n b (datum.Number q) m → value_in (alike q.ty) m (Frame n b) ≡ Some (core.Number (cut_to (alike q.ty) (pos (pattern q.ty q.number))))
unfolding value_in
number_of_bytes z n b q m h =
    ap (λ x. or_number x (option_map (λ i. core.Number (cut_to (alike q.ty) (pos i))) (number_in m (Frame n b) (bytes_of (alike q.ty))))) (number_is_none z n b q (nat_eq (bytes_of (alike q.ty)) 2) m h)
    ∙ ap (λ k. option_map (λ i. core.Number (cut_to (alike q.ty) (pos i))) (number_in m (Frame n b) k)) (alike_bytes q.ty)
    ∙ ap (λ x. option_map (λ i. core.Number (cut_to (alike q.ty) (pos i))) x) (number_back z n b q m h)

-- whether a value is 0, which is what `!` gives
abbrev pub is_zero : Datum → Bool
is_zero (datum.Number q) = int_eq q.number (pos 0)
is_zero (datum.Pointer x) = is_null x
is_zero datum.Missing = false

pub bang_gives : (z : Scene) (n b : ℕ) (v : Datum) (ty : Ty) (m : Memory) → HasType z.program ty v → 0 < byte_count v → HasDatum z n b v m → and_then (value_in (type_of_size (byte_count v)) m (Frame n b)) (unary_value Bang) ≡ Some (core.truth_value (is_zero v))
unfolding unary_value
bang_gives z n b (datum.Number q) ty m t lt h =
    ap (λ x. and_then x (unary_value Bang)) (number_of_bytes z n b q m h)
    ∙ ap (λ i. Some (core.Number (cut_to int.Int (truth (int_eq i (pos 0)))))) (alike_holds q.ty (pattern q.ty q.number) (pattern_small q.ty q.number))
    ∙ ap (λ f. Some (core.truth_value f)) (nat_int_eq (pattern q.ty q.number) ∙ zero_pattern q.ty q.number t.1)
bang_gives z n b (datum.Pointer Null) ty m t lt h =
    let zero_there : HasDatum z n b (datum.Number (uint 0)) m = λ j few. h j few ∙ sym (null_byte j few) in
    ap (λ x. and_then x (unary_value Bang)) (value_number z n b (uint 0) m (uint_range 0 (omega arith)) zero_there)
bang_gives z n b (datum.Pointer (Into object offset)) ty m t lt h = ap (λ x. and_then x (unary_value Bang)) (pointer_value z n b object offset m h)
bang_gives z n b datum.Missing ty m t lt h = absurd (omega arith)

-- ---- the operation
pub bang_then : (z : Scene) (g : Setting) (T : Machine → Type 0) (n : ℕ) (s : List Waiting) (w : World Held) (due : is_due w ≡ false) (again : arrived g.outside w ≡ w) (v : Datum) (ty : Ty) (b : ℕ) (r : List Task) (m : Memory) (c : Machine) (q l : ℕ) → HasType z.program ty v → 0 < byte_count v
    → b + byte_count v ≤ g.program.frame_bytes n → b + 2 ≤ g.program.frame_bytes n → HasDatum z n b v m
    → Placed g n None (Todo [] (code.Unary Bang (type_of_size (byte_count v)) (Frame n b)) ∷ r) s m w c
    → ((d : Machine) → Placed g n None r s (with_bytes m (Frame n b) 2 (core.byte_of (core.truth_value (is_zero v)))) w d → Comes g T q l d)
    → Comes g T (4 * byte_count v + 16 + q) l c
unfolding operate cost_of
bang_then z g T n s w due again v ty b r m c q l t lt room out h p next =
    let X = Frame n b in
    let k = type_of_size (byte_count v) in
    let width = type_bytes_are v lt in
    let ox = own_frame g.program n b (bytes_of k) (omega arith) in
    let og = own_frame g.program n b 2 out in
    let gives = bang_gives z n b v ty m t lt h in
    first_free g T n None s w due again (code.Unary Bang k X) r m (with_bytes m X 2 (core.byte_of (core.truth_value (is_zero v)))) c q l (4 * byte_count v + 16) p
    (λ before rest s'. rw (ox, gives, og) refl)
    (λ before s'. omega arith)
    next

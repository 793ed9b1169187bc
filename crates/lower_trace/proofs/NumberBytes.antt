-- Values and their bytes, in the source and in byte code.
use Rattle.std.proofs.Common.{◌≡◌, ℕ, zero, suc, ◌+◌, ◌*◌, ◌/◌, ◌%◌, ◌^◌, ◌<◌, inr, Bool, true, false, not, nat_eq, ℤ, pos, negsuc, ◌≤ℤ◌, Some, None, refl, sym, ap, ◌∙◌, arith}
use Rattle.std.proofs.lemmas.Int.{ints}
use Rattle.std.specs.Ordering.{int_eq}
use Rattle.std.proofs.lemmas.Grind.{common_steps}
use Rattle.c_ints.specs.Quantity.{Quantity}
use Rattle.c_ints.specs.Range.{bytes_of, pattern, least, greatest, IsInRange}
use Rattle.c_ints.specs.declared.types.IntTy.{IntTy}
use Rattle.c_ints.specs.declared.types.IntTy.TheVariants as int
use Rattle.core_code.specs.Bytes as bytes
use Rattle.core_code.specs.Bytes.{Held, Memory}
use Rattle.core_code.specs.Values.{with_low, number_in, pointer_in, joined, pointer_if, truth_of, truth_in}
use Rattle.core_code.specs.declared.code.Byte.TheVariants.{Frame}
use Rattle.c_typed.specs.declared.types.Ty.{Ty}
use Rattle.src_rules.specs.Standing.{HasType}
use Rattle.lower_trace.specs.Lowering.{object_as, offset_as}
use Rattle.src_values.specs.declared.objects.Object as object
use Rattle.src_values.specs.Data as datum
use Rattle.src_values.specs.Data.{Datum}
use Rattle.src_values.specs.Values as source
use Rattle.src_values.specs.Values.{byte_count, byte_of}
use Rattle.src_values.specs.declared.objects.Pointer.TheVariants.{Null, Into}
use Rattle.lower_trace.proofs.CodeLeft.{Scene}
use Rattle.lower_trace.proofs.Mirrors.{HasDatum}
use Rattle.lower_trace.proofs.Written.{nat_same, nat_apart, both}

-- ---- numbers
-- the number of digits to the base 256, the lowest first
pub digits_sum : (ℕ → ℕ) → ℕ → ℕ
digits_sum d zero = 0
digits_sum d (suc k) = d 0 + 256 * digits_sum (λ i. d (i + 1)) k

pub number_there : (m : Memory) (n b k : ℕ) (d : ℕ → ℕ) → ((i : ℕ) → i < k → m (Frame n (b + i)) ≡ bytes.Number (d i)) → number_in m (Frame n b) k ≡ Some (digits_sum d k)
unfolding digits_sum
number_there m n b zero d h = refl
number_there m n b (suc k) d h =
    let e : b ≡ b + 0 = omega arith in
    let low : m (Frame n b) ≡ bytes.Number (d 0) = ap (λ y. m (Frame n y)) e ∙ h 0 (omega arith) in
    let rest = number_there m n (b + 1) k (λ i. d (i + 1)) (λ i lt. let q : (b + 1) + i ≡ b + (i + 1) = omega arith in ap (λ y. m (Frame n y)) q ∙ h (i + 1) (omega arith)) in
    ap (λ x. with_low x (number_in m (Frame n (b + 1)) k)) low ∙ ap (with_low (bytes.Number (d 0))) rest

pub pattern_small : (ty : IntTy) (z : ℤ) → pattern ty z < 256 ^ bytes_of ty
pattern_small int.Char (pos a) = omega (arith, ints)
pattern_small int.Char (negsuc a) = omega (arith, ints)
pattern_small int.SChar (pos a) = omega (arith, ints)
pattern_small int.SChar (negsuc a) = omega (arith, ints)
pattern_small int.UChar (pos a) = omega (arith, ints)
pattern_small int.UChar (negsuc a) = omega (arith, ints)
pattern_small int.Short (pos a) = omega (arith, ints)
pattern_small int.Short (negsuc a) = omega (arith, ints)
pattern_small int.UShort (pos a) = omega (arith, ints)
pattern_small int.UShort (negsuc a) = omega (arith, ints)
pattern_small int.Int (pos a) = omega (arith, ints)
pattern_small int.Int (negsuc a) = omega (arith, ints)
pattern_small int.UInt (pos a) = omega (arith, ints)
pattern_small int.UInt (negsuc a) = omega (arith, ints)
pattern_small int.Long (pos a) = omega (arith, ints)
pattern_small int.Long (negsuc a) = omega (arith, ints)
pattern_small int.ULong (pos a) = omega (arith, ints)
pattern_small int.ULong (negsuc a) = omega (arith, ints)

pub one_digit : (x : ℕ) → x < 256 → digits_sum (λ i. x / 256 ^ i % 256) 1 ≡ x
unfolding digits_sum
one_digit x lt = omega arith

two_digits : (x : ℕ) → x < 65536 → digits_sum (λ i. x / 256 ^ i % 256) 2 ≡ x
unfolding digits_sum
two_digits x lt = omega arith

four_digits : (x : ℕ) → x < 4294967296 → digits_sum (λ i. x / 256 ^ i % 256) 4 ≡ x
unfolding digits_sum
four_digits x lt = omega arith

pub digits_are : (ty : IntTy) (x : ℕ) → x < 256 ^ bytes_of ty → digits_sum (λ i. x / 256 ^ i % 256) (bytes_of ty) ≡ x
digits_are int.Char x lt = one_digit x lt
digits_are int.SChar x lt = one_digit x lt
digits_are int.UChar x lt = one_digit x lt
digits_are int.Short x lt = two_digits x lt
digits_are int.UShort x lt = two_digits x lt
digits_are int.Int x lt = two_digits x lt
digits_are int.UInt x lt = two_digits x lt
digits_are int.Long x lt = four_digits x lt
digits_are int.ULong x lt = four_digits x lt

-- the bytes of a number are that number again
pub number_back : (z : Scene) (n b : ℕ) (q : Quantity) (m : Memory) → HasDatum z n b (datum.Number q) m → number_in m (Frame n b) (bytes_of q.ty) ≡ Some (pattern q.ty q.number)
number_back z n b q m h = number_there m n b (bytes_of q.ty) (λ i. pattern q.ty q.number / 256 ^ i % 256) h ∙ ap Some (digits_are q.ty (pattern q.ty q.number) (pattern_small q.ty q.number))

-- ---- zero
positive_pattern : (ty : IntTy) (a : ℕ) → least ty ≤ℤ pos (suc a) → pos (suc a) ≤ℤ greatest ty → 0 < pattern ty (pos (suc a))
positive_pattern int.Char a l g = omega (arith, ints)
positive_pattern int.SChar a l g = omega (arith, ints)
positive_pattern int.UChar a l g = omega (arith, ints)
positive_pattern int.Short a l g = omega (arith, ints)
positive_pattern int.UShort a l g = omega (arith, ints)
positive_pattern int.Int a l g = omega (arith, ints)
positive_pattern int.UInt a l g = omega (arith, ints)
positive_pattern int.Long a l g = omega (arith, ints)
positive_pattern int.ULong a l g = omega (arith, ints)

negative_pattern : (ty : IntTy) (a : ℕ) → least ty ≤ℤ negsuc a → negsuc a ≤ℤ greatest ty → 0 < pattern ty (negsuc a)
negative_pattern int.Char a l g = omega (arith, ints)
negative_pattern int.SChar a l g = omega (arith, ints)
negative_pattern int.UChar a l g = omega (arith, ints)
negative_pattern int.Short a l g = omega (arith, ints)
negative_pattern int.UShort a l g = omega (arith, ints)
negative_pattern int.Int a l g = omega (arith, ints)
negative_pattern int.UInt a l g = omega (arith, ints)
negative_pattern int.Long a l g = omega (arith, ints)
negative_pattern int.ULong a l g = omega (arith, ints)

pattern_zero : (ty : IntTy) → pattern ty (pos 0) ≡ 0
pattern_zero int.Char = refl
pattern_zero int.SChar = refl
pattern_zero int.UChar = refl
pattern_zero int.Short = refl
pattern_zero int.UShort = refl
pattern_zero int.Int = refl
pattern_zero int.UInt = refl
pattern_zero int.Long = refl
pattern_zero int.ULong = refl

suc_not_zero : (a : ℕ) → int_eq (pos (suc a)) (pos 0) ≡ false
suc_not_zero a = grind (arith, common_steps)

pub zero_pattern : (ty : IntTy) (z : ℤ) → IsInRange ty z → nat_eq (pattern ty z) 0 ≡ int_eq z (pos 0)
zero_pattern ty (pos zero) r = ap (λ x. nat_eq x 0) (pattern_zero ty)
zero_pattern ty (pos (suc a)) r = nat_apart (pattern ty (pos (suc a))) 0 (inr (positive_pattern ty a r.0 r.1)) ∙ sym (suc_not_zero a)
zero_pattern ty (negsuc a) r = nat_apart (pattern ty (negsuc a)) 0 (inr (negative_pattern ty a r.0 r.1))

-- ---- pointers
pub core_object_same : (o : bytes.Object) → bytes.same_object o o ≡ true
core_object_same (bytes.Fixed n) = nat_same n
core_object_same (bytes.FrameOf c) = nat_same c

pub pointer_back : (z : Scene) (n b : ℕ) (object : object.Object) (offset : ℕ) (m : Memory) → HasDatum z n b (datum.Pointer (Into object offset)) m → pointer_in m (Frame n b) ≡ Some (record { object = object_as z.copies object; offset = offset_as z.program object + offset })
unfolding pointer_in
pointer_back z n b object offset m h =
    let e : b ≡ b + 0 = omega arith in
    let a = object_as z.copies object in
    let f = offset_as z.program object + offset in
    let low : m (Frame n b) ≡ bytes.Part a f false = ap (λ y. m (Frame n y)) e ∙ h 0 (omega arith) in
    let high : m (Frame n (b + 1)) ≡ bytes.Part a f true = h 1 (omega arith) in
    ap (λ x. joined x (m (Frame n (b + 1)))) low ∙ ap (joined (bytes.Part a f false)) high ∙ rw (both (bytes.same_object a a) (nat_eq f f) (core_object_same a) (nat_same f)) refl

number_no_pointer : (m : Memory) (n b x : ℕ) → m (Frame n b) ≡ bytes.Number x → pointer_in m (Frame n b) ≡ None
unfolding pointer_in
number_no_pointer m n b x e = ap (λ y. joined y (m (Frame n (b + 1)))) e

pointer_if_none : (two : Bool) (m : Memory) (n b : ℕ) → pointer_in m (Frame n b) ≡ None → pointer_if two m (Frame n b) ≡ None
pointer_if_none true m n b e = e
pointer_if_none false m n b e = refl

bytes_positive : (ty : IntTy) → 0 < bytes_of ty
bytes_positive int.Char = omega arith
bytes_positive int.SChar = omega arith
bytes_positive int.UChar = omega arith
bytes_positive int.Short = omega arith
bytes_positive int.UShort = omega arith
bytes_positive int.Int = omega arith
bytes_positive int.UInt = omega arith
bytes_positive int.Long = omega arith
bytes_positive int.ULong = omega arith

-- the first byte of a number is no part of a pointer
pub number_is_none : (z : Scene) (n b : ℕ) (q : Quantity) (two : Bool) (m : Memory) → HasDatum z n b (datum.Number q) m → pointer_if two m (Frame n b) ≡ None
number_is_none z n b q two m h =
    let e : b ≡ b + 0 = omega arith in
    let p = bytes_positive q.ty in
    pointer_if_none two m n b (number_no_pointer m n b (pattern q.ty q.number / 256 ^ 0 % 256) (ap (λ y. m (Frame n y)) e ∙ h 0 p))

-- ---- conditions
-- Whether a value isn't 0, by its bytes.
pub truth_is : (z : Scene) (n b : ℕ) (v : Datum) (ty : Ty) (m : Memory) → HasType z.program ty v → HasDatum z n b v m → 0 < byte_count v → truth_in m (Frame n b) (byte_count v) ≡ source.truth_of v
unfolding truth_in source.truth_of digits_sum
truth_is z n b (datum.Number q) ty m t h lt =
    ap (λ x. truth_of x (number_in m (Frame n b) (bytes_of q.ty))) (number_is_none z n b q (nat_eq (bytes_of q.ty) 2) m h)
    ∙ ap (truth_of None) (number_back z n b q m h)
    ∙ ap (λ x. Some (not x)) (zero_pattern q.ty q.number t.1)
truth_is z n b (datum.Pointer Null) ty m t h lt =
    let e : b ≡ b + 0 = omega arith in
    let none = number_no_pointer m n b 0 (ap (λ y. m (Frame n y)) e ∙ h 0 (omega arith)) in
    ap (λ x. truth_of x (number_in m (Frame n b) 2)) none ∙ ap (truth_of None) (number_there m n b 2 (λ i. 0) h)
truth_is z n b (datum.Pointer (Into object offset)) ty m t h lt = ap (λ x. truth_of x (number_in m (Frame n b) 2)) (pointer_back z n b object offset m h)
truth_is z n b datum.Missing ty m t h lt = absurd (omega arith)

-- The bytes of a value that was read are those that were read.
use Rattle.c_ints.proofs.Cut.{bits_kept}
use Rattle.c_ints.specs.Range.{bytes_of, cut, pattern}
use Rattle.c_ints.specs.declared.types.IntTy.{IntTy}
use Rattle.c_typed.specs.Trees.{Program}
use Rattle.c_typed.specs.Types.{type_bytes}
use Rattle.c_typed.specs.declared.types.Ty.TheVariants as types
use Rattle.c_typed.specs.declared.types.Ty.{Ty}
use Rattle.lower_trace.proofs.CodeLeft.{Scene, held, number}
use Rattle.lower_trace.proofs.Narrowing.{low_bytes, sized}
use Rattle.lower_trace.proofs.Written.{and_left, and_right, same_nat}
use Rattle.src_rules.proofs.Memories.{same_object_is}
use Rattle.src_rules.specs.Standing.{AreRead, IsByte}
use Rattle.src_values.specs.Data.{Datum}
use Rattle.src_values.specs.Objects.{same_object}
use Rattle.src_values.specs.Values as source
use Rattle.src_values.specs.Values.{byte_count, byte_of, fits_behind, is_number, joined, null_if, number_from, number_in, pointer_from, value_from}
use Rattle.src_values.specs.declared.objects.Byte as value
use Rattle.src_values.specs.declared.objects.Byte.TheVariants as values
use Rattle.src_values.specs.declared.objects.Object as object
use Rattle.src_values.specs.declared.objects.Pointer.TheVariants.{Into}
use Rattle.std.proofs.Common.{Bool, List, None, Some, [], ap, arith, false, if◌then◌else◌, length, nat_eq, pos, refl, subst, suc, sym, true, zero, ℕ, ◌%◌, ◌&&◌, ◌*◌, ◌++◌, ◌+◌, ◌/◌, ◌<◌, ◌^◌, ◌∙◌, ◌∷◌, ◌≡◌}
use Rattle.std.specs.Prelude.{is_some, slice_index_or}

-- ---- numbers
abbrev AreNumbers : List value.Byte → Type 0
AreNumbers [] = Unit {0}
AreNumbers (byte ∷ more) = ((n : ℕ) × (byte ≡ values.Number n) × (n < 256)) × AreNumbers more

number_is : (p : Program) (byte : value.Byte) → IsByte p byte → is_number byte ≡ true → (n : ℕ) × (byte ≡ values.Number n) × (n < 256)
number_is p values.Unset i e = absurd (cc)
number_is p (values.Number n) i e = (n, refl, i)
number_is p (values.Part object offset high) i e = absurd (cc)

are_numbers : (p : Program) (ty : IntTy) (before read : List value.Byte) → AreRead p (types.Int ty) before read → AreNumbers read
unfolding fits_behind
are_numbers p ty before [] a = tt
are_numbers p ty before (byte ∷ more) a = (number_is p byte a.0 a.2, are_numbers p ty (before ++ byte ∷ []) more a.3)

-- each digit of the number that bytes make
one_digit : (a i : ℕ) → a < 256 → i < 1 → (a + 256 * 0) / 256 ^ i % 256 ≡ number_in (slice_index_or (values.Number a ∷ []) i values.Unset)
one_digit a zero x lt = omega arith
one_digit a (suc i) x lt = absurd (omega arith)

two_digits : (a b i : ℕ) → a < 256 → b < 256 → i < 2 → (a + 256 * (b + 256 * 0)) / 256 ^ i % 256 ≡ number_in (slice_index_or (values.Number a ∷ values.Number b ∷ []) i values.Unset)
two_digits a b zero x y lt = omega arith
two_digits a b (suc zero) x y lt = omega arith
two_digits a b (suc (suc i)) x y lt = absurd (omega arith)

four_digits : (a b c d i : ℕ) → a < 256 → b < 256 → c < 256 → d < 256 → i < 4 → (a + 256 * (b + 256 * (c + 256 * (d + 256 * 0)))) / 256 ^ i % 256 ≡ number_in (slice_index_or (values.Number a ∷ values.Number b ∷ values.Number c ∷ values.Number d ∷ []) i values.Unset)
four_digits a b c d zero x y u v lt = omega arith
four_digits a b c d (suc zero) x y u v lt = omega arith
four_digits a b c d (suc (suc zero)) x y u v lt = omega arith
four_digits a b c d (suc (suc (suc zero))) x y u v lt = omega arith
four_digits a b c d (suc (suc (suc (suc i)))) x y u v lt = absurd (omega arith)

Digits : List value.Byte → Type 0
Digits read = (i : ℕ) → i < length read → number_from read / 256 ^ i % 256 ≡ number_in (slice_index_or read i values.Unset)

digits_one : (read : List value.Byte) → length read ≡ 1 → AreNumbers read → Digits read
unfolding Digits number_from
digits_one [] e a = absurd (omega arith)
digits_one (x ∷ []) e a = let q = sym a.0.1 in subst (λ y. (i : ℕ) → i < 1 → (number_in y + 256 * 0) / 256 ^ i % 256 ≡ number_in (slice_index_or (y ∷ []) i values.Unset)) q (λ i lt. one_digit a.0.0 i a.0.2 lt)
digits_one (x ∷ y ∷ more) e a = absurd (omega arith)

digits_two : (read : List value.Byte) → length read ≡ 2 → AreNumbers read → Digits read
unfolding Digits number_from
digits_two [] e a = absurd (omega arith)
digits_two (x ∷ []) e a = absurd (omega arith)
digits_two (x ∷ y ∷ []) e a =
    subst (λ s. (i : ℕ) → i < 2 → (number_in s + 256 * (number_in y + 256 * 0)) / 256 ^ i % 256 ≡ number_in (slice_index_or (s ∷ y ∷ []) i values.Unset)) (sym a.0.1)
    (subst (λ t. (i : ℕ) → i < 2 → (a.0.0 + 256 * (number_in t + 256 * 0)) / 256 ^ i % 256 ≡ number_in (slice_index_or (values.Number a.0.0 ∷ t ∷ []) i values.Unset)) (sym a.1.0.1)
    (λ i lt. two_digits a.0.0 a.1.0.0 i a.0.2 a.1.0.2 lt))
digits_two (x ∷ y ∷ u ∷ more) e a = absurd (omega arith)

digits_four : (read : List value.Byte) → length read ≡ 4 → AreNumbers read → Digits read
unfolding Digits number_from
digits_four [] e a = absurd (omega arith)
digits_four (x ∷ []) e a = absurd (omega arith)
digits_four (x ∷ y ∷ []) e a = absurd (omega arith)
digits_four (x ∷ y ∷ u ∷ []) e a = absurd (omega arith)
digits_four (x ∷ y ∷ u ∷ v ∷ []) e a =
    subst (λ s. (i : ℕ) → i < 4 → (number_in s + 256 * (number_in y + 256 * (number_in u + 256 * (number_in v + 256 * 0)))) / 256 ^ i % 256 ≡ number_in (slice_index_or (s ∷ y ∷ u ∷ v ∷ []) i values.Unset)) (sym a.0.1)
    (subst (λ t. (i : ℕ) → i < 4 → (a.0.0 + 256 * (number_in t + 256 * (number_in u + 256 * (number_in v + 256 * 0)))) / 256 ^ i % 256 ≡ number_in (slice_index_or (values.Number a.0.0 ∷ t ∷ u ∷ v ∷ []) i values.Unset)) (sym a.1.0.1)
    (subst (λ t. (i : ℕ) → i < 4 → (a.0.0 + 256 * (a.1.0.0 + 256 * (number_in t + 256 * (number_in v + 256 * 0)))) / 256 ^ i % 256 ≡ number_in (slice_index_or (values.Number a.0.0 ∷ values.Number a.1.0.0 ∷ t ∷ v ∷ []) i values.Unset)) (sym a.1.1.0.1)
    (subst (λ t. (i : ℕ) → i < 4 → (a.0.0 + 256 * (a.1.0.0 + 256 * (a.1.1.0.0 + 256 * (number_in t + 256 * 0)))) / 256 ^ i % 256 ≡ number_in (slice_index_or (values.Number a.0.0 ∷ values.Number a.1.0.0 ∷ values.Number a.1.1.0.0 ∷ t ∷ []) i values.Unset)) (sym a.1.1.1.0.1)
    (λ i lt. four_digits a.0.0 a.1.0.0 a.1.1.0.0 a.1.1.1.0.0 i a.0.2 a.1.0.2 a.1.1.0.2 a.1.1.1.0.2 lt))))
digits_four (x ∷ y ∷ u ∷ v ∷ t ∷ more) e a = absurd (omega arith)

digits_of : (ty : IntTy) (read : List value.Byte) → length read ≡ bytes_of ty → AreNumbers read → Digits read
digits_of ty read = sized ty (λ n. length read ≡ n → AreNumbers read → Digits read) (digits_one read) (digits_two read) (digits_four read)

number_at : (read : List value.Byte) (i : ℕ) → i < length read → AreNumbers read → slice_index_or read i values.Unset ≡ values.Number (number_in (slice_index_or read i values.Unset))
number_at [] i lt a = absurd (omega arith)
number_at (x ∷ more) zero lt a = a.0.1 ∙ ap (λ y. values.Number (number_in y)) (sym a.0.1)
number_at (x ∷ more) (suc i) lt a = number_at more i (omega arith) a.1

number_bytes : (z : Scene) (ty : IntTy) (read : List value.Byte) (i : ℕ) → length read ≡ bytes_of ty → AreNumbers read → i < bytes_of ty
    → held z (slice_index_or read i values.Unset) ≡ held z (values.Number (pattern ty (cut ty (pos (number_from read))) / 256 ^ i % 256))
unfolding Digits
number_bytes z ty read i e a lt =
    let d = digits_of ty read e a i (omega arith) in
    ap (held z) (number_at read i (omega arith) a) ∙ ap (λ y. held z (values.Number y)) (sym d ∙ sym (low_bytes ty (number_from read) i lt) ∙ ap (λ y. y / 256 ^ i % 256) (sym (bits_kept ty (number_from read))))

-- ---- pointers
abbrev IsPointerOf : Scene → value.Byte → value.Byte → Datum → Type 0
IsPointerOf z low high v = (i : ℕ) → i < byte_count v → held z (slice_index_or (low ∷ high ∷ []) i values.Unset) ≡ held z (byte_of v i)

null_bytes : (z : Scene) (a b : ℕ) (zero_both : Bool) → (nat_eq a 0 && nat_eq b 0) ≡ zero_both → is_some (null_if zero_both) ≡ true → IsPointerOf z (values.Number a) (values.Number b) (source.pointer_held (null_if zero_both))
null_bytes z a b true e s zero lt = ap (λ y. held z (values.Number y)) (same_nat a 0 (and_left (nat_eq a 0) (nat_eq b 0) e))
null_bytes z a b true e s (suc zero) lt = ap (λ y. held z (values.Number y)) (same_nat b 0 (and_right (nat_eq a 0) (nat_eq b 0) e))
null_bytes z a b true e s (suc (suc i)) lt = absurd (omega arith)
null_bytes z a b false e s i lt = absurd (cc)

part_bytes : (z : Scene) (a : object.Object) (f : ℕ) (b : object.Object) (g : ℕ) (whole : Bool) → (same_object a b && nat_eq f g) ≡ whole → is_some (if whole then Some (Into a f) else None) ≡ true → IsPointerOf z (values.Part a f false) (values.Part b g true) (source.pointer_held (if whole then Some (Into a f) else None))
part_bytes z a f b g true e s zero lt = refl
part_bytes z a f b g true e s (suc zero) lt =
    ap (λ y. held z (values.Part y g true)) (sym (same_object_is a b (and_left (same_object a b) (nat_eq f g) e))) ∙ ap (λ y. held z (values.Part a y true)) (sym (same_nat f g (and_right (same_object a b) (nat_eq f g) e)))
part_bytes z a f b g true e s (suc (suc i)) lt = absurd (omega arith)
part_bytes z a f b g false e s i lt = absurd (cc)

pointer_bytes_read : (z : Scene) (low high : value.Byte) → is_some (joined low high) ≡ true → IsPointerOf z low high (source.pointer_held (joined low high))
pointer_bytes_read z values.Unset high s = absurd (cc)
pointer_bytes_read z (values.Number a) values.Unset s = absurd (cc)
pointer_bytes_read z (values.Number a) (values.Number b) s = null_bytes z a b (nat_eq a 0 && nat_eq b 0) refl s
pointer_bytes_read z (values.Number a) (values.Part o f h) s = absurd (cc)
pointer_bytes_read z (values.Part o f true) high s = absurd (cc)
pointer_bytes_read z (values.Part o f false) values.Unset s = absurd (cc)
pointer_bytes_read z (values.Part o f false) (values.Number b) s = absurd (cc)
pointer_bytes_read z (values.Part o f false) (values.Part u g false) s = absurd (cc)
pointer_bytes_read z (values.Part o f false) (values.Part u g true) s = part_bytes z o f u g (same_object o u && nat_eq f g) refl s

pointer_case : (z : Scene) (row : ℕ) (read : List value.Byte) → length read ≡ 2 → AreRead z.program (types.Pointer row) [] read → (i : ℕ) → i < byte_count (pointer_from read) → held z (slice_index_or read i values.Unset) ≡ held z (byte_of (pointer_from read) i)
unfolding fits_behind
pointer_case z row [] e a i lt = absurd (omega arith)
pointer_case z row (x ∷ []) e a i lt = absurd (omega arith)
pointer_case z row (x ∷ y ∷ []) e a i lt = pointer_bytes_read z x y a.3.2 i lt
pointer_case z row (x ∷ y ∷ u ∷ more) e a i lt = absurd (omega arith)

-- ---- values
pub value_read_back : (z : Scene) (ty : Ty) (read : List value.Byte) → AreRead z.program ty [] read → length read ≡ type_bytes z.program.sizes ty → (i : ℕ) → i < byte_count (value_from ty read) → held z (slice_index_or read i values.Unset) ≡ held z (byte_of (value_from ty read) i)
unfolding value_from
value_read_back z types.Void read a e i lt = absurd (omega arith)
value_read_back z (types.Int ty) read a e i lt = number_bytes z ty read i e (are_numbers z.program ty [] read a) lt
value_read_back z (types.Pointer row) read a e i lt = pointer_case z row read e a i lt
value_read_back z (types.Array element count size) read a e i lt = absurd (omega arith)
value_read_back z (types.Struct number) read a e i lt = absurd (omega arith)

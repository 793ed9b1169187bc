-- The step of an operator that is done on low bytes.
use Rattle.std.proofs.Common.{◌≡◌, ℕ, zero, suc, ◌+◌, ◌*◌, ◌/◌, ◌%◌, ◌^◌, ◌<◌, ◌≤◌, ◌≢◌, ℤ, pos, unsigned_abs, Bool, true, false, not, ◌&&◌, ◌||◌, nat_eq, nat_le, if◌then◌else◌, List, Option, Some, None, option_map, refl, sym, ap, ◌∙◌, subst, arith}
use Rattle.std.proofs.lemmas.Bool.{and_parts, and_from, leb-false, le-leb, eqb-true, eqb-false}
use Rattle.std.proofs.lemmas.Bool.Decides.{Decides-int_eq}
use Rattle.std.specs.Ordering.{int_eq}
use Rattle.c_ints.specs.Operators.{cut_to, truth, compares, comparison, type_of, exact}
use Rattle.c_ints.specs.Quantity.{Quantity}
use Rattle.c_ints.specs.Range.{bytes_of, cut, pattern}
use Rattle.c_ints.specs.declared.operators.BinOp.{BinOp}
use Rattle.c_ints.specs.declared.operators.BinOp.TheVariants as ops
use Rattle.c_ints.specs.declared.types.IntTy.{IntTy}
use Rattle.c_ints.specs.declared.types.IntTy.TheVariants.{UChar, Int}
use Rattle.pic_world.specs.Roots.{same_root}
use Rattle.core_code.specs.Bytes.{Held, Memory, Place, same_byte, behind, with_bytes, are_apart, misses, is_same_or_misses}
use Rattle.core_code.specs.Bytes as bytes
use Rattle.core_code.specs.Machine.{Next, extent, is_own, writes, operated, fits_call, after_helper, has_operands, binary}
use Rattle.core_code.specs.Operands.{number_left, is_helped, fits_sum, fits_difference, fits_together}
use Rattle.core_code.specs.Tree.{Tree}
use Rattle.core_code.specs.Values.{Value, Number, Extent, byte_of, with_low, number_in, or_number, value_in, binary_value, right_type}
use Rattle.core_code.specs.declared.code.Byte.{Byte}
use Rattle.core_code.specs.declared.code.Byte.TheVariants.{Static, Frame, Result, Device}
use Rattle.narrow_code.specs.Marks.{Mark, Numbers, Tells, Denies, Cleared, Differs, Marks, Holds, marked_bytes, may_differ, Below}
use Rattle.narrow_code.specs.Plans.{low_op, Narrowing, given_program, made_program}
use Rattle.narrow_code.specs.Right.{is_low, keeps_small, wide_mark, narrow_mark, is_low_alone, are_low_alone, FitsNarrowed, IsSound}
use Rattle.narrow_code.proofs.Memory.{never, Alike, differ_behind, differ_mine, lower, bytes_below, bytes_off, set_own, set_left}
use Rattle.narrow_code.proofs.Relation.{Job, ones, others, one_stack, other_stack, Weak, Outcome, Halts, when_both}
use Rattle.narrow_code.proofs.Steps.{Scene, less, loops, own_less, go_on}
use Rattle.narrow_code.proofs.Bits.{low_byte, same_low, small_byte, cut_small, cut_char, bits_small, xor_equal, xor_low}
use Rattle.narrow_code.proofs.Values.{width_suc, no_pointer_if, thin_truth, compared, bitwise, number_at, small_value, writes_step}

or_both : (a b c d : Bool) → (a ≡ true → c ≡ true) → (b ≡ true → d ≡ true) → (a || b) ≡ true → (c || d) ≡ true
or_both true b c d h k e = ap (λ (t : Bool). t || d) (h refl)
or_both false b true d h k e = refl
or_both false b false d h k e = k e

-- ---- what these operators have in common
-- the operators that are ever done on low bytes
abbrev can : BinOp → Bool
can op = is_low op || compares op

right_is : (op : BinOp) (ty : IntTy) → can op ≡ true → right_type op ty ≡ ty
right_is ops.Add ty e = refl
right_is ops.Sub ty e = refl
right_is ops.And ty e = refl
right_is ops.Or ty e = refl
right_is ops.Xor ty e = refl
right_is ops.Lt ty e = refl
right_is ops.Gt ty e = refl
right_is ops.Le ty e = refl
right_is ops.Ge ty e = refl
right_is ops.Eq ty e = refl
right_is ops.Ne ty e = refl
right_is _ ty e = never e

helped_is : (op : BinOp) (count : Option ℕ) → can op ≡ true → is_helped op count ≡ false
helped_is ops.Add count e = refl
helped_is ops.Sub count e = refl
helped_is ops.And count e = refl
helped_is ops.Or count e = refl
helped_is ops.Xor count e = refl
helped_is ops.Lt count e = refl
helped_is ops.Gt count e = refl
helped_is ops.Le count e = refl
helped_is ops.Ge count e = refl
helped_is ops.Eq count e = refl
helped_is ops.Ne count e = refl
helped_is _ count e = never e

-- what is done in the place of one is one, too
can_low : (op : BinOp) → can op ≡ true → can (low_op op) ≡ true
can_low ops.Eq e = refl
can_low ops.Ne e = refl
can_low ops.Add e = refl
can_low ops.Sub e = refl
can_low ops.And e = refl
can_low ops.Or e = refl
can_low ops.Xor e = refl
can_low ops.Lt e = refl
can_low ops.Gt e = refl
can_low ops.Le e = refl
can_low ops.Ge e = refl
can_low _ e = never e

can_if : (op : BinOp) (small : Bool) → (is_low op || (compares op && small)) ≡ true → can op ≡ true
can_if op small e = or_both (is_low op) (compares op && small) (is_low op) (compares op) (λ h. h) (λ h. (and_parts (compares op) small h).0) e

gives : (e : Extent) (op : BinOp) (ty : IntTy) (a b : ℤ) → is_low op ≡ true
    → operated e op ty (Some (Number (cut_to ty a))) (Some (Number (cut_to ty b))) ≡ Some (Number (cut_to ty (exact op ty (cut ty a) (cut ty b))))
unfolding binary_value
gives e ops.Add ty a b h = refl
gives e ops.Sub ty a b h = refl
gives e ops.And ty a b h = refl
gives e ops.Or ty a b h = refl
gives e ops.Xor ty a b h = refl
gives e _ ty a b h = never h

-- ---- where operands lie
apart_less : (j k n : ℕ) → 1 ≤ n → are_apart j n k n ≡ true → are_apart j 1 k 1 ≡ true
apart_less j k n h e = or_both (nat_le (j + n) k) (nat_le (k + n) j) (nat_le (j + 1) k) (nat_le (k + 1) j) (less j n k h) (less k n j h) e

misses_less : (a b : Byte) (n : ℕ) → 1 ≤ n → misses a n b n ≡ true → misses a 1 b 1 ≡ true
misses_less (Frame c j) (Frame d k) n h e = or_both (not (nat_eq c d)) (are_apart j n k n) (not (nat_eq c d)) (are_apart j 1 k 1) (λ f. f) (apart_less j k n h) e
misses_less (Result c j) (Result d k) n h e = or_both (not (same_root c d)) (are_apart j n k n) (not (same_root c d)) (are_apart j 1 k 1) (λ f. f) (apart_less j k n h) e
misses_less (Static c j) b n h e = refl
misses_less (Device c) b n h e = refl
misses_less (Frame c j) (Static d k) n h e = refl
misses_less (Frame c j) (Result d k) n h e = refl
misses_less (Frame c j) (Device d) n h e = refl
misses_less (Result c j) (Static d k) n h e = refl
misses_less (Result c j) (Frame d k) n h e = refl
misses_less (Result c j) (Device d) n h e = refl

same_less : (a b : Byte) (n : ℕ) → 1 ≤ n → is_same_or_misses n a b ≡ true → is_same_or_misses 1 a b ≡ true
same_less a b n h e = or_both (same_byte a b) (misses a n b n) (same_byte a b) (misses a 1 b 1) (λ f. f) (misses_less a b n h) e

sum_less : (to a b : Byte) (n : ℕ) → 1 ≤ n → fits_sum n to a b ≡ true → fits_sum 1 to a b ≡ true
sum_less to a b n h e =
    let parts = and_parts (is_same_or_misses n to a) (is_same_or_misses n to b) e in
    and_from (is_same_or_misses 1 to a) (is_same_or_misses 1 to b) (same_less to a n h parts.0) (same_less to b n h parts.1)

difference_less : (to a b : Byte) (n : ℕ) → 1 ≤ n → fits_difference n to a b ≡ true → fits_difference 1 to a b ≡ true
difference_less to a b n h e =
    let parts = and_parts (is_same_or_misses n to a) (misses to n b n || (same_byte to a && same_byte to b)) e in
    and_from (is_same_or_misses 1 to a) (misses to 1 b 1 || (same_byte to a && same_byte to b)) (same_less to a n h parts.0)
    (or_both (misses to n b n) (same_byte to a && same_byte to b) (misses to 1 b 1) (same_byte to a && same_byte to b) (misses_less to b n h) (λ f. f) parts.1)

or_true : (t : Bool) → (t || true) ≡ true
or_true true = refl
or_true false = refl

-- two bytes are one, or apart
one_or_apart : (j k : ℕ) → (nat_eq j k || are_apart j 1 k 1) ≡ true
one_or_apart j k = by_eq (nat_eq j k) refl
  where
    by_lt : (t : Bool) → nat_le (j + 1) k ≡ t → nat_eq j k ≡ false → (t || nat_le (k + 1) j) ≡ true
    by_lt true e n = refl
    by_lt false e n = let l = leb-false (j + 1) k e in let d = eqb-false j k n in le-leb (k + 1) j (more j k l d)
      where
        more : (j k : ℕ) → k < j + 1 → j ≢ k → k + 1 ≤ j
        more j k l d = grind arith

    by_eq : (t : Bool) → nat_eq j k ≡ t → (t || are_apart j 1 k 1) ≡ true
    by_eq true e = refl
    by_eq false e = by_lt (nat_le (j + 1) k) refl e

apart_if : (t s r : Bool) → (s || r) ≡ true → ((t && s) || (not t || r)) ≡ true
apart_if true s r e = e
apart_if false s r e = refl

one_byte : (to a : Byte) → is_same_or_misses 1 to a ≡ true
one_byte (Frame c j) (Frame d k) = apart_if (nat_eq c d) (nat_eq j k) (are_apart j 1 k 1) (one_or_apart j k)
one_byte (Result r j) (Result s k) = apart_if (same_root r s) (nat_eq j k) (are_apart j 1 k 1) (one_or_apart j k)
one_byte (Static i j) a = or_true (same_byte (Static i j) a)
one_byte (Device i) a = or_true (same_byte (Device i) a)
one_byte (Frame c j) (Static d k) = refl
one_byte (Frame c j) (Result d k) = refl
one_byte (Frame c j) (Device d) = refl
one_byte (Result c j) (Static d k) = refl
one_byte (Result c j) (Frame d k) = refl
one_byte (Result c j) (Device d) = refl

fits_less : (op : BinOp) (ty : IntTy) (count other : Option ℕ) (to a b : Byte) → can op ≡ true → 1 ≤ bytes_of ty → fits_together op ty count to a b ≡ true → fits_together (low_op op) UChar other to a b ≡ true
unfolding fits_together
fits_less ops.Add ty count other to a b e h f = sum_less to a b (bytes_of ty) h f
fits_less ops.Sub ty count other to a b e h f = difference_less to a b (bytes_of ty) h f
fits_less ops.And ty count other to a b e h f = sum_less to a b (bytes_of ty) h f
fits_less ops.Or ty count other to a b e h f = sum_less to a b (bytes_of ty) h f
fits_less ops.Xor ty count other to a b e h f = sum_less to a b (bytes_of ty) h f
fits_less ops.Eq ty count other to a b e h f = and_from (is_same_or_misses 1 to a) (is_same_or_misses 1 to b) (one_byte to a) (one_byte to b)
fits_less ops.Ne ty count other to a b e h f = and_from (is_same_or_misses 1 to a) (is_same_or_misses 1 to b) (one_byte to a) (one_byte to b)
fits_less ops.Lt ty count other to a b e h f = refl
fits_less ops.Gt ty count other to a b e h f = refl
fits_less ops.Le ty count other to a b e h f = refl
fits_less ops.Ge ty count other to a b e h f = refl
fits_less _ ty count other to a b e h f = never e

-- ---- the values
-- of bytes of which the lowest is this number
data IsLow (ty : IntTy) (n : ℕ) (v : Option Value) : Type 0 where
  Missing : v ≡ None → IsLow ty n v
  Found : (h : ℕ) → v ≡ Some (Number (cut_to ty (pos (n + 256 * h)))) → IsLow ty n v

number_by : (ty : IntTy) (n : ℕ) (v : Option Value) (o : Option ℕ) → v ≡ option_map (λ k. Number (cut_to ty (pos k))) (with_low (bytes.Number n) o) → IsLow ty n v
number_by ty n v None e = Missing e
number_by ty n v (Some h) e = Found h e

low_value : (ty : IntTy) (m : Memory) (b : Byte) (n : ℕ) → m b ≡ bytes.Number n → IsLow ty n (value_in ty m b)
unfolding value_in
low_value ty m b n e =
    let w = width_suc ty in
    number_by ty n (value_in ty m b) (number_in m (behind b 1) w.0)
    (ap (λ (at : Option Place). or_number at (option_map (λ k. Number (cut_to ty (pos k))) (number_in m b (bytes_of ty)))) (no_pointer_if (nat_eq (bytes_of ty) 2) m b n e)
    ∙ ap (λ (k : ℕ). option_map (λ k. Number (cut_to ty (pos k))) (number_in m b k)) w.1
    ∙ ap (λ (h : Held). option_map (λ k. Number (cut_to ty (pos k))) (with_low h (number_in m (behind b 1) w.0))) e)

low_char : (m : Memory) (b : Byte) (n : ℕ) → m b ≡ bytes.Number n → value_in UChar m b ≡ Some (Number (cut_to UChar (pos (n + 256 * 0))))
unfolding value_in
low_char m b n e = ap (λ (h : Held). option_map (λ k. Number (cut_to UChar (pos k))) (with_low h (Some 0))) e

-- ---- comparisons
-- for equality, or by order
abbrev is_equality : BinOp → Bool
is_equality ops.Eq = true
is_equality ops.Ne = true
is_equality _ = false

equality_low : (op : BinOp) → is_equality op ≡ true → low_op op ≡ ops.Xor
equality_low ops.Eq e = refl
equality_low ops.Ne e = refl
equality_low _ e = never e

order_low : (op : BinOp) → compares op ≡ true → is_equality op ≡ false → low_op op ≡ op
order_low ops.Lt c e = refl
order_low ops.Gt c e = refl
order_low ops.Le c e = refl
order_low ops.Ge c e = refl
order_low ops.Eq c e = never (sym e)
order_low ops.Ne c e = never (sym e)
order_low _ c e = never c

order_mark : (op : BinOp) (small : Bool) (i : ℕ) → compares op ≡ true → is_equality op ≡ false → narrow_mark op small i ≡ wide_mark Numbers true i
order_mark ops.Lt small zero c e = refl
order_mark ops.Gt small zero c e = refl
order_mark ops.Le small zero c e = refl
order_mark ops.Ge small zero c e = refl
order_mark ops.Lt small (suc i) c e = refl
order_mark ops.Gt small (suc i) c e = refl
order_mark ops.Le small (suc i) c e = refl
order_mark ops.Ge small (suc i) c e = refl
order_mark ops.Eq small i c e = never (sym e)
order_mark ops.Ne small i c e = never (sym e)
order_mark _ small i c e = never c

upper_equality : (op : BinOp) (small : Bool) (i : ℕ) → is_equality op ≡ true → narrow_mark op small (suc i) ≡ Cleared
upper_equality ops.Eq small i e = refl
upper_equality ops.Ne small i e = refl
upper_equality _ small i e = never e

int_equal : (n k : ℕ) → nat_eq n k ≡ int_eq (pos n) (pos k)
int_equal n k = by_nat (nat_eq n k) refl
  where
    by_int : (t : Bool) → int_eq (pos n) (pos k) ≡ t → nat_eq n k ≡ false → false ≡ t
    by_int true f e = absurd (eqb-false n k e (ap unsigned_abs ((Decides-int_eq (pos n) (pos k)).0 f)))
    by_int false f e = refl

    by_nat : (t : Bool) → nat_eq n k ≡ t → t ≡ int_eq (pos n) (pos k)
    by_nat true e = sym ((Decides-int_eq (pos n) (pos k)).1 (ap pos (eqb-true n k e)))
    by_nat false e = by_int (int_eq (pos n) (pos k)) refl e

-- the answer tells of a byte that is 0 just where two numbers are equal
equality_mark : (op : BinOp) (small : Bool) (n k r : ℕ) → is_equality op ≡ true → nat_eq r 0 ≡ nat_eq n k
    → Holds (narrow_mark op small 0) (byte_of (Number (cut_to Int (truth (comparison op (pos n) (pos k))))) 0) (bytes.Number r)
equality_mark ops.Eq small n k r c e = by_equal (int_eq (pos n) (pos k)) (e ∙ int_equal n k)
  where
    by_equal : (t : Bool) → nat_eq r 0 ≡ t → Holds Denies (byte_of (Number (cut_to Int (truth t))) 0) (bytes.Number r)
    by_equal true e = (1, r, refl, refl, e)
    by_equal false e = (0, r, refl, refl, e)
equality_mark ops.Ne small n k r c e = by_equal (int_eq (pos n) (pos k)) (e ∙ int_equal n k)
  where
    by_equal : (t : Bool) → nat_eq r 0 ≡ t → Holds Tells (byte_of (Number (cut_to Int (truth (not t)))) 0) (bytes.Number r)
    by_equal true e = (0, r, refl, refl, e)
    by_equal false e = (1, r, refl, refl, e)
equality_mark _ small n k r c e = never c

-- ---- memory
-- the given program writes so many bytes, of which the other one writes the lowest
low_bytes : (lent : ℕ → Bool) (p : ℕ) (known : Marks) (m l : Memory) (to : Byte) (w : ℕ) (h g : ℕ → Held) (mark : ℕ → Mark) → may_differ lent p to ≡ true
    → Holds (mark 0) (h 0) (g 0) → ((i : ℕ) (y : Held) → Holds (mark (suc i)) (h (suc i)) y)
    → Alike lent known m l → Alike lent (marked_bytes known to (suc w) mark) (with_bytes m to (suc w) h) (with_bytes l to 1 g)
low_bytes lent p known m l to zero h g mark e q r alike = set_own lent p known m l (behind to 0) (mark 0) (h 0) (g 0) (differ_behind lent p to 0 e) q alike
low_bytes lent p known m l to (suc w) h g mark e q r alike =
    set_left lent p (marked_bytes known to (suc w) mark) (with_bytes m to (suc w) h) (with_bytes l to 1 g) (behind to (suc w)) (mark (suc w)) (h (suc w)) (differ_behind lent p to (suc w) e) (r w)
    (low_bytes lent p known m l to w h g mark e q r alike)

module _ (x : Narrowing) (sound : IsSound x) (sc : Scene x) (after : Marks) (js : List Job) (runs : Weak x.lent sc.p (loops x sound sc) after js) where
  module _ (op : BinOp) (ty : IntTy) (to a b : Byte) (fits : FitsNarrowed x.lent sc.p sc.here op ty to a b after) where
    positive : 1 ≤ bytes_of ty
    positive = let w = width_suc ty in let is = w.1 in omega arith

    abbrev small : Bool
    small = are_low_alone x.lent sc.p sc.here ty a b

    abbrev mark : ℕ → Mark
    mark = narrow_mark op small

    able : can op ≡ true
    able = can_if op small fits.able

    abbrev first_extent : Extent
    first_extent = extent (given_program x) sc.p (one_stack sc.s)

    abbrev second_extent : Extent
    second_extent = extent (made_program x) sc.p (other_stack sc.s)

    abbrev writes_one : Option Value → Next
    writes_one v = writes (given_program x) to v (ones js) sc.p sc.a (one_stack sc.s) sc.m sc.w

    abbrev writes_other : Option Value → Next
    writes_other v = writes (made_program x) to v (others js) sc.p sc.a (other_stack sc.s) sc.l sc.w

    -- both write: the given program a value of some bytes, and the other one a byte
    wrote : (u : IntTy) (y z : ℤ) → u ≡ type_of op ty → Holds (mark 0) (byte_of (Number (cut_to u y)) 0) (byte_of (Number (cut_to UChar z)) 0) → ((i : ℕ) (h : Held) → Holds (mark (suc i)) (byte_of (Number (cut_to u y)) (suc i)) h)
        → Outcome x (writes_one (Some (Number (cut_to u y)))) (writes_other (Some (Number (cut_to UChar z))))
    wrote u y z is low high =
        let w = width_suc u in
        let one : 1 ≤ bytes_of u = let e = w.1 in omega arith in
        when_both x (is_own (given_program x) sc.p to (bytes_of u)) (is_own (made_program x) sc.p to 1) _ _ (λ own. (
          own_less x sc.p to (bytes_of u) one own,
          go_on x sound sc (marked_bytes sc.known to (bytes_of u) mark) runs.0 (with_bytes sc.m to (bytes_of u) (byte_of (Number (cut_to u y)))) (with_bytes sc.l to 1 (byte_of (Number (cut_to UChar z)))) sc.w js
              (subst (λ (k : ℕ). Alike x.lent (marked_bytes sc.known to k mark) (with_bytes sc.m to k (byte_of (Number (cut_to u y)))) (with_bytes sc.l to 1 (byte_of (Number (cut_to UChar z))))) (sym w.1)
              (low_bytes x.lent sc.p sc.known sc.m sc.l to w.0 (byte_of (Number (cut_to u y))) (byte_of (Number (cut_to UChar z))) mark fits.to_is low high sc.alike))
              (bytes_off sc.p sc.known to (bytes_of u) mark (differ_mine x.lent sc.p to fits.to_is))
              (lower sc.p runs.0 (marked_bytes sc.here to (bytes_of u) mark) (marked_bytes sc.known to (bytes_of u) mark)
              (lower sc.p runs.0 after (marked_bytes sc.here to (bytes_of u) mark) runs.1 (subst (λ (t : IntTy). Below sc.p after (marked_bytes sc.here to (bytes_of t) mark)) (sym is) fits.behind_is)) (bytes_below sc.p sc.here sc.known to (bytes_of u) mark sc.link))
              runs.2,
        ))

    abbrev Values : ℕ → ℕ → Type 0
    Values n k = Outcome x (writes_one (operated first_extent op ty (value_in ty sc.m a) (value_in ty sc.m b))) (writes_other (operated second_extent (low_op op) UChar (Some (Number (cut_to UChar (pos (n + 256 * 0))))) (Some (Number (cut_to UChar (pos (k + 256 * 0)))))))

    -- ---- of which the low byte takes the low bytes alone
    module _ (low : is_low op ≡ true) where
      low_is : (op : BinOp) → is_low op ≡ true → low_op op ≡ op
      low_is ops.Add e = refl
      low_is ops.Sub e = refl
      low_is ops.And e = refl
      low_is ops.Or e = refl
      low_is ops.Xor e = refl
      low_is _ e = never e

      type_is : (op : BinOp) → is_low op ≡ true → ty ≡ type_of op ty
      type_is ops.Add e = refl
      type_is ops.Sub e = refl
      type_is ops.And e = refl
      type_is ops.Or e = refl
      type_is ops.Xor e = refl
      type_is _ e = never e

      first_mark : (op : BinOp) → is_low op ≡ true → narrow_mark op small 0 ≡ Numbers
      first_mark ops.Add e = refl
      first_mark ops.Sub e = refl
      first_mark ops.And e = refl
      first_mark ops.Or e = refl
      first_mark ops.Xor e = refl
      first_mark _ e = never e

      -- what is known of the bytes above
      upper_if : (t : Bool) (h y : Held) → (t ≡ true → h ≡ bytes.Number 0) → Holds (if t then Cleared else Differs) h y
      upper_if true h y e = e refl
      upper_if false h y e = tt

      upper_mark : (op : BinOp) (i : ℕ) (h y : Held) → is_low op ≡ true → ((keeps_small op && small) ≡ true → h ≡ bytes.Number 0) → Holds (narrow_mark op small (suc i)) h y
      upper_mark ops.Add i h y e f = tt
      upper_mark ops.Sub i h y e f = tt
      upper_mark ops.And i h y e f = upper_if small h y f
      upper_mark ops.Or i h y e f = upper_if small h y f
      upper_mark ops.Xor i h y e f = upper_if small h y f
      upper_mark _ i h y e f = never e

      -- both write a number of which the low byte is the same
      wrote_low : (y z : ℤ) → low_byte ty y ≡ low_byte UChar z → ((keeps_small op && small) ≡ true → (r : ℕ) × (r < 256) × (y ≡ pos r)) → Outcome x (writes_one (Some (Number (cut_to ty y)))) (writes_other (Some (Number (cut_to UChar z))))
      wrote_low y z same thin =
          wrote ty y z (type_is op low)
          (let fit : low_byte UChar z < 256 = omega arith in subst (λ (k : Mark). Holds k (bytes.Number (low_byte ty y)) (bytes.Number (low_byte UChar z))) (sym (first_mark op low)) (low_byte UChar z, fit, ap (λ (n : ℕ). bytes.Number n) same, refl))
          (λ i h. upper_mark op i (byte_of (Number (cut_to ty y)) (suc i)) h low (λ e. let r = thin e in ap (λ (z : ℤ). bytes.Number (pattern ty (cut ty z) / 256 ^ suc i % 256)) r.2 ∙ ap (λ (n : ℕ). bytes.Number n) (small_byte ty r.0 i r.1)))

      by_values : (n k : ℕ) (v u : Option Value) → IsLow ty n v → IsLow ty k u
          → ((keeps_small op && small) ≡ true → (v ≡ Some (Number (cut_to ty (pos (n + 256 * 0))))) × (u ≡ Some (Number (cut_to ty (pos (k + 256 * 0)))))) → n < 256 → k < 256
          → Outcome x (writes_one (operated first_extent op ty v u)) (writes_other (operated second_extent op UChar (Some (Number (cut_to UChar (pos (n + 256 * 0))))) (Some (Number (cut_to UChar (pos (k + 256 * 0)))))))
      by_values n k v u (Missing e) second thin nl kl = Halts (ap (λ (z : Option Value). writes_one (operated first_extent op ty z u)) e)
      by_values n k v u (Found h e) (Missing f) thin nl kl = Halts (ap (λ (z : Option Value). writes_one (operated first_extent op ty z u)) e ∙ ap (λ (z : Option Value). writes_one (operated first_extent op ty (Some (Number (cut_to ty (pos (n + 256 * h))))) z)) f)
      by_values n k v u (Found h e) (Found i f) thin nl kl =
          let y = exact op ty (cut ty (pos (n + 256 * h))) (cut ty (pos (k + 256 * i))) in
          let z = exact op UChar (cut UChar (pos (n + 256 * 0))) (cut UChar (pos (k + 256 * 0))) in
          subst (λ (t : Option Value). Outcome x (writes_one t) (writes_other (operated second_extent op UChar (Some (Number (cut_to UChar (pos (n + 256 * 0))))) (Some (Number (cut_to UChar (pos (k + 256 * 0))))))))
          (sym (ap (λ (t : Option Value). operated first_extent op ty t u) e ∙ ap (operated first_extent op ty (Some (Number (cut_to ty (pos (n + 256 * h)))))) f ∙ gives first_extent op ty (pos (n + 256 * h)) (pos (k + 256 * i)) low))
          (subst (λ (t : Option Value). Outcome x (writes_one (Some (Number (cut_to ty y)))) (writes_other t)) (sym (gives second_extent op UChar (pos (n + 256 * 0)) (pos (k + 256 * 0)) low))
          (wrote_low y z (same_low op ty UChar n k h i 0 0 low) (λ t.
          let whole = thin t in
          let first = number_is (cut_to ty (pos (n + 256 * h))) (cut_to ty (pos (n + 256 * 0))) (sym e ∙ whole.0) in
          let second = number_is (cut_to ty (pos (k + 256 * i))) (cut_to ty (pos (k + 256 * 0))) (sym f ∙ whole.1) in
          let r = bits_small op ty (n + 256 * 0) (k + 256 * 0) (and_parts (keeps_small op) small t).0 (omega arith) (omega arith) in
          (r.0, r.1, ap (λ (q : Quantity). exact op ty q.number (cut ty (pos (k + 256 * i)))) first ∙ ap (λ (q : Quantity). exact op ty (cut ty (pos (n + 256 * 0))) q.number) second ∙ r.2))))
        where
          number_of : Option Value → Quantity → Quantity
          number_of (Some (Number q)) other = q
          number_of _ other = other

          number_is : (q r : Quantity) → Some (Number q) ≡ Some (Number r) → q ≡ r
          number_is q r e = ap (λ (v : Option Value). number_of v q) e

      low_values : (n k : ℕ) → n < 256 → k < 256 → sc.m a ≡ bytes.Number n → sc.m b ≡ bytes.Number k → Values n k
      low_values n k nl kl e f =
          subst (λ (o : BinOp). Outcome x (writes_one (operated first_extent op ty (value_in ty sc.m a) (value_in ty sc.m b))) (writes_other (operated second_extent o UChar (Some (Number (cut_to UChar (pos (n + 256 * 0))))) (Some (Number (cut_to UChar (pos (k + 256 * 0)))))))) (sym (low_is op low))
          (by_values n k (value_in ty sc.m a) (value_in ty sc.m b) (low_value ty sc.m a n e) (low_value ty sc.m b k f) (λ t.
          let both = and_parts (is_low_alone x.lent sc.p sc.here a (bytes_of ty)) (is_low_alone x.lent sc.p sc.here b (bytes_of ty)) (and_parts (keeps_small op) small t).1 in
          (small_value x sound sc ty a n both.0 e, small_value x sound sc ty b k both.1 f)) nl kl)

    -- ---- comparisons of small numbers
    module _ (does : compares op ≡ true) (thin : small ≡ true) where
      abbrev answer : ℕ → ℕ → Option Value
      answer n k = Some (Number (cut_to Int (truth (comparison op (pos n) (pos k)))))

      -- what is written, and by such an operator in its place
      abbrev Compared : BinOp → ℕ → ℕ → Type 0
      Compared o n k = Outcome x (writes_one (answer n k)) (writes_other (operated second_extent o UChar (Some (Number (cut_to UChar (pos n)))) (Some (Number (cut_to UChar (pos k))))))

      is_int : type_of op ty ≡ Int
      is_int = ap (λ (t : Bool). if t then Int else ty) does

      truth_holds : (t : Bool) (i : ℕ) → Holds (wide_mark Numbers true i) (byte_of (Number (cut_to Int (truth t))) i) (byte_of (Number (cut_to Int (truth t))) i)
      truth_holds true zero = (1, omega arith, refl, refl)
      truth_holds false zero = (0, omega arith, refl, refl)
      truth_holds t (suc i) = (thin_truth Int t i, thin_truth Int t i)

      order_step : (n k : ℕ) → n < 256 → k < 256 → is_equality op ≡ false → Compared op n k
      order_step n k nl kl kind =
          let t : Bool = comparison op (pos n) (pos k) in
          subst (λ (v : Option Value). Outcome x (writes_one (answer n k)) (writes_other v))
          (sym (compared second_extent op (cut_to UChar (pos n)) (cut_to UChar (pos k)) does ∙ ap (λ (z : ℤ). Some (Number (cut_to Int (truth (comparison op z (cut UChar (pos k))))))) (cut_char n nl) ∙ ap (λ (z : ℤ). Some (Number (cut_to Int (truth (comparison op (pos n) z))))) (cut_char k kl)))
          (writes_step x sound sc after js runs sc.m sc.l sc.alike to 2 mark (answer n k)
          (refl, λ i. subst (λ (j : Mark). Holds j (byte_of (Number (cut_to Int (truth t))) i) (byte_of (Number (cut_to Int (truth t))) i)) (sym (order_mark op small i does kind)) (truth_holds t i))
          (subst (λ (u : IntTy). Below sc.p after (marked_bytes sc.here to (bytes_of u) mark)) is_int fits.behind_is))

      -- a byte that isn't 0 just where the numbers differ
      equality_step : (n k : ℕ) → n < 256 → k < 256 → is_equality op ≡ true → Compared ops.Xor n k
      equality_step n k nl kl kind =
          let t : Bool = comparison op (pos n) (pos k) in
          let z = exact ops.Xor UChar (cut UChar (pos n)) (cut UChar (pos k)) in
          subst (λ (v : Option Value). Outcome x (writes_one (answer n k)) (writes_other v)) (sym (bitwise second_extent ops.Xor UChar (pos n) (pos k) refl))
          (wrote Int (truth t) z (sym is_int)
          (equality_mark op small n k (low_byte UChar z) kind (ap (λ (m : ℕ). nat_eq m 0) (xor_low n k nl kl) ∙ xor_equal n k))
          (λ i h. subst (λ (j : Mark). Holds j (byte_of (Number (cut_to Int (truth t))) (suc i)) h) (sym (upper_equality op small i kind)) (thin_truth Int t i)))

      compared_step : (n k : ℕ) → n < 256 → k < 256 → Compared (low_op op) n k
      compared_step n k nl kl = by_kind (is_equality op) refl
        where
          by_kind : (t : Bool) → is_equality op ≡ t → Compared (low_op op) n k
          by_kind true e = subst (λ (o : BinOp). Compared o n k) (sym (equality_low op e)) (equality_step n k nl kl e)
          by_kind false e = subst (λ (o : BinOp). Compared o n k) (sym (order_low op does e)) (order_step n k nl kl e)

      same_number : (n : ℕ) → n + 256 * 0 ≡ n
      same_number n = omega arith

      whole_number : (n : ℕ) → n < 256 → cut ty (pos (n + 256 * 0)) ≡ pos n
      whole_number n nl = ap (λ (j : ℕ). cut ty (pos j)) (same_number n) ∙ cut_small ty n nl fits.wide

      compare_values : (n k : ℕ) → n < 256 → k < 256 → sc.m a ≡ bytes.Number n → sc.m b ≡ bytes.Number k → Values n k
      compare_values n k nl kl e f =
          let both = and_parts (is_low_alone x.lent sc.p sc.here a (bytes_of ty)) (is_low_alone x.lent sc.p sc.here b (bytes_of ty)) thin in
          let first : operated first_extent op ty (value_in ty sc.m a) (value_in ty sc.m b) ≡ answer n k =
          ap (λ (v : Option Value). operated first_extent op ty v (value_in ty sc.m b)) (small_value x sound sc ty a n both.0 e)
          ∙ ap (operated first_extent op ty (Some (Number (cut_to ty (pos (n + 256 * 0)))))) (small_value x sound sc ty b k both.1 f)
          ∙ compared first_extent op (cut_to ty (pos (n + 256 * 0))) (cut_to ty (pos (k + 256 * 0))) does
          ∙ ap (λ (z : ℤ). Some (Number (cut_to Int (truth (comparison op z (cut ty (pos (k + 256 * 0)))))))) (whole_number n nl)
          ∙ ap (λ (z : ℤ). Some (Number (cut_to Int (truth (comparison op (pos n) z))))) (whole_number k kl) in
          subst (λ (v : Option Value). Outcome x (writes_one v) (writes_other (operated second_extent (low_op op) UChar (Some (Number (cut_to UChar (pos (n + 256 * 0))))) (Some (Number (cut_to UChar (pos (k + 256 * 0)))))))) (sym first)
          (subst (λ (j : ℕ). Outcome x (writes_one (answer n k)) (writes_other (operated second_extent (low_op op) UChar (Some (Number (cut_to UChar (pos j)))) (Some (Number (cut_to UChar (pos (k + 256 * 0)))))))) (sym (same_number n))
          (subst (λ (j : ℕ). Outcome x (writes_one (answer n k)) (writes_other (operated second_extent (low_op op) UChar (Some (Number (cut_to UChar (pos n)))) (Some (Number (cut_to UChar (pos j))))))) (sym (same_number k))
          (compared_step n k nl kl)))

    values_step : Outcome x (writes_one (operated first_extent op ty (value_in ty sc.m a) (value_in ty sc.m b))) (writes_other (operated second_extent (low_op op) UChar (value_in UChar sc.l a) (value_in UChar sc.l b)))
    values_step =
        let n = number_at x sound sc a fits.left_is in
        let k = number_at x sound sc b fits.right_is in
        subst (λ (t : Option Value). Outcome x (writes_one (operated first_extent op ty (value_in ty sc.m a) (value_in ty sc.m b))) (writes_other t))
        (sym (ap (λ (t : Option Value). operated second_extent (low_op op) UChar t (value_in UChar sc.l b)) (low_char sc.l a n.0 n.3) ∙ ap (operated second_extent (low_op op) UChar (Some (Number (cut_to UChar (pos (n.0 + 256 * 0)))))) (low_char sc.l b k.0 k.3)))
        (by_low (is_low op) refl fits.able n.0 k.0 n.1 k.1 n.2 k.2)
      where
        by_low : (t : Bool) → is_low op ≡ t → (t || (compares op && small)) ≡ true → (n k : ℕ) → n < 256 → k < 256 → sc.m a ≡ bytes.Number n → sc.m b ≡ bytes.Number k → Values n k
        by_low true e can_be n k nl kl f g = low_values e n k nl kl f g
        by_low false e can_be n k nl kl f g = let parts = and_parts (compares op) small can_be in compare_values parts.0 parts.1 n k nl kl f g

    second_may : (count other : Option ℕ) → (fits_together op ty count to a b && has_operands (given_program x) sc.p op ty a b && fits_call sc.a (is_helped op count) && (not (is_helped op count) || x.rest.helped sc.p op ty)) ≡ true
        → (fits_together (low_op op) UChar other to a b && has_operands (made_program x) sc.p (low_op op) UChar a b && fits_call sc.a (is_helped (low_op op) other) && (not (is_helped (low_op op) other) || x.rest.helped sc.p (low_op op) UChar)) ≡ true
    second_may count other e =
        let can_other = can_low op able in
        let last = and_parts (fits_together op ty count to a b && has_operands (given_program x) sc.p op ty a b && fits_call sc.a (is_helped op count)) (not (is_helped op count) || x.rest.helped sc.p op ty) e in
        let third = and_parts (fits_together op ty count to a b && has_operands (given_program x) sc.p op ty a b) (fits_call sc.a (is_helped op count)) last.0 in
        let second = and_parts (fits_together op ty count to a b) (has_operands (given_program x) sc.p op ty a b) third.0 in
        let owns = and_parts (is_own (given_program x) sc.p a (bytes_of ty)) (is_own (given_program x) sc.p b (bytes_of (right_type op ty))) second.1 in
        let own : is_own (made_program x) sc.p b (bytes_of (right_type (low_op op) UChar)) ≡ true =
        subst (λ (t : IntTy). is_own (made_program x) sc.p b (bytes_of t) ≡ true) (sym (right_is (low_op op) UChar can_other))
        (own_less x sc.p b (bytes_of ty) positive (subst (λ (t : IntTy). is_own (given_program x) sc.p b (bytes_of t) ≡ true) (right_is op ty able) owns.1)) in
        and_from (fits_together (low_op op) UChar other to a b && has_operands (made_program x) sc.p (low_op op) UChar a b && fits_call sc.a (is_helped (low_op op) other)) (not (is_helped (low_op op) other) || x.rest.helped sc.p (low_op op) UChar)
        (and_from (fits_together (low_op op) UChar other to a b && has_operands (made_program x) sc.p (low_op op) UChar a b) (fits_call sc.a (is_helped (low_op op) other))
        (and_from (fits_together (low_op op) UChar other to a b) (has_operands (made_program x) sc.p (low_op op) UChar a b) (fits_less op ty count other to a b able positive second.0)
        (and_from (is_own (made_program x) sc.p a 1) (is_own (made_program x) sc.p b (bytes_of (right_type (low_op op) UChar))) (own_less x sc.p a (bytes_of ty) positive owns.0) own))
        (ap (fits_call sc.a) (helped_is (low_op op) other can_other ∙ sym (helped_is op count able)) ∙ third.1))
        (ap (λ (t : Bool). not t || x.rest.helped sc.p (low_op op) UChar) (helped_is (low_op op) other can_other))

    abbrev Written : IntTy → IntTy → Bool → Bool → Type 0
    Written t u f g =
        Outcome x (writes (given_program x) to (operated first_extent op ty (value_in ty sc.m a) (value_in t sc.m b)) (ones js) sc.p sc.a (one_stack sc.s) (after_helper (given_program x) sc.p f sc.m) sc.w)
        (writes (made_program x) to (operated second_extent (low_op op) UChar (value_in UChar sc.l a) (value_in u sc.l b)) (others js) sc.p sc.a (other_stack sc.s) (after_helper (made_program x) sc.p g sc.l) sc.w)

    pub narrow_step : (before with : List Tree) → Outcome x (binary (given_program x) before op ty to a b (ones js) sc.p sc.a (one_stack sc.s) sc.m sc.w) (binary (made_program x) with (low_op op) UChar to a b (others js) sc.p sc.a (other_stack sc.s) sc.l sc.w)
    narrow_step before with =
        when_both x
        (fits_together op ty (number_left before b) to a b && has_operands (given_program x) sc.p op ty a b && fits_call sc.a (is_helped op (number_left before b)) && (not (is_helped op (number_left before b)) || x.rest.helped sc.p op ty))
        (fits_together (low_op op) UChar (number_left with b) to a b && has_operands (made_program x) sc.p (low_op op) UChar a b && fits_call sc.a (is_helped (low_op op) (number_left with b)) && (not (is_helped (low_op op) (number_left with b)) || x.rest.helped sc.p (low_op op) UChar)) _ _ (λ e.
        (second_may (number_left before b) (number_left with b) e, by_types (right_type op ty) (right_type (low_op op) UChar) (is_helped op (number_left before b)) (is_helped (low_op op) (number_left with b)) (right_is op ty able) (right_is (low_op op) UChar (can_low op able)) (helped_is op (number_left before b) able) (helped_is (low_op op) (number_left with b) (can_low op able))))
      where
        by_types : (t u : IntTy) (f g : Bool) → t ≡ ty → u ≡ UChar → f ≡ false → g ≡ false → Written t u f g
        by_types t u f g is same no_help none =
            subst (λ (t : IntTy). Written t u f g) (sym is) (subst (λ (u : IntTy). Written ty u f g) (sym same) (subst (λ (f : Bool). Written ty UChar f g) (sym no_help) (subst (λ (g : Bool). Written ty UChar false g) (sym none) values_step)))

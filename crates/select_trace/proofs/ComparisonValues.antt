-- The values of comparisons, by the numbers that the operands' bytes make.
use Rattle.std.proofs.Common.{◌≡◌, ℕ, ◌+◌, ◌-◌, ◌*◌, ◌<◌, ◌≤◌, refl, ap, sym, ◌∙◌, arith, inl, inr, ℤ, pos, negsuc, true, false, Bool, not, int_lt, int_le}
use Rattle.std.specs.Prelude.{nat_eq, if◌then◌else◌}
use Rattle.std.specs.Ordering.{int_eq}
use Rattle.std.proofs.lemmas.Bool.Decides.{nat_tests, same_from_decides, Decides-int_eq}
use Rattle.std.proofs.lemmas.Bool.{eqb-true, eq-eqb}
use Rattle.c_ints.specs.declared.types.IntTy.{IntTy}
use Rattle.c_ints.specs.declared.types.IntTy.TheVariants.{Int}
use Rattle.c_ints.specs.declared.operators.BinOp.TheVariants.{Lt, Gt, Le, Ge, Eq, Ne}
use Rattle.c_ints.specs.Range.{span, cut, pattern}
use Rattle.c_ints.specs.Operators.{truth}
use Rattle.select_trace.specs.Ints.{IsValue}
use Rattle.select_wide.specs.Single.{is_signed}
use Rattle.select_trace.specs.Shifts.{IsTop}
use Rattle.select_trace.proofs.Ints.{Plain, Negative, stands, pattern_cut}
use Rattle.select_trace.proofs.OperatorValues.{small_mod}
use Rattle.select_trace.proofs.Comparisons.{order_answer}
use Rattle.select_trace.proofs.Equality.{equality_answer}

abbrev pub bit_of : Bool → ℕ
bit_of holds = if holds then 1 else 0

pub truth_bits : (holds : Bool) → pattern Int (cut Int (truth holds)) ≡ bit_of holds
truth_bits true = refl
truth_bits false = refl

-- how often the answer is turned round, by the highest bits of the operands
abbrev pub turns : IntTy → ℕ → ℕ → ℕ
turns ty s t = if is_signed ty then s + t else 0

-- whether the left number is below, by its bits
below : (ty : IntTy) (l r s t : ℕ) → l < span ty → r < span ty → IsTop (span ty) l s → IsTop (span ty) r t →
    (order_answer 0 l r (turns ty s t) ≡ bit_of (int_lt (cut ty (pos l)) (cut ty (pos r)))) × (order_answer 1 l r (turns ty s t) ≡ bit_of (int_le (cut ty (pos r)) (cut ty (pos l))))
below ty l r s t ll rl ts tt2 = by_sign (is_signed ty) refl
  where
    put : (ty : IntTy) (l r s t : ℕ) (b : Bool) (x x1 y y1 : ℤ) → is_signed ty ≡ b → x ≡ x1 → y ≡ y1 →
        (order_answer 0 l r (if b then s + t else 0) ≡ bit_of (int_lt x1 y1)) × (order_answer 1 l r (if b then s + t else 0) ≡ bit_of (int_le y1 x1)) →
        (order_answer 0 l r (turns ty s t) ≡ bit_of (int_lt x y)) × (order_answer 1 l r (turns ty s t) ≡ bit_of (int_le y x))
    put ty l r s t b x x1 y y1 e f g h = rw (e, f, g) h

    plain : (l r : ℕ) → (order_answer 0 l r 0 ≡ bit_of (int_lt (pos l) (pos r))) × (order_answer 1 l r 0 ≡ bit_of (int_le (pos r) (pos l)))
    plain l r = (grind (arith, nat_tests), grind (arith, nat_tests))

    pp : (l r : ℕ) → (order_answer 0 l r (0 + 0) ≡ bit_of (int_lt (pos l) (pos r))) × (order_answer 1 l r (0 + 0) ≡ bit_of (int_le (pos r) (pos l)))
    pp l r = (grind (arith, nat_tests), grind (arith, nat_tests))

    pn : (l r b : ℕ) → l < r → (order_answer 0 l r (0 + 1) ≡ bit_of (int_lt (pos l) (negsuc b))) × (order_answer 1 l r (0 + 1) ≡ bit_of (int_le (negsuc b) (pos l)))
    pn l r b lt = (grind (arith, nat_tests), grind (arith, nat_tests))

    np : (l r b : ℕ) → r < l → (order_answer 0 l r (1 + 0) ≡ bit_of (int_lt (negsuc b) (pos r))) × (order_answer 1 l r (1 + 0) ≡ bit_of (int_le (pos r) (negsuc b)))
    np l r b lt = (grind (arith, nat_tests), grind (arith, nat_tests))

    nn : (l r b c s : ℕ) → b + l ≡ s → c + r ≡ s → (order_answer 0 l r (1 + 1) ≡ bit_of (int_lt (negsuc b) (negsuc c))) × (order_answer 1 l r (1 + 1) ≡ bit_of (int_le (negsuc c) (negsuc b)))
    nn l r b c s e f = (grind (arith, nat_tests), grind (arith, nat_tests))

    zero_top : (b n s : ℕ) → IsTop b n s → 2 * n < b → s ≡ 0
    zero_top b n s h lt = elim h [ inl x ↦ absurd (omega (arith, x.1)) | inr x ↦ x.0 ]

    one_top : (b n s : ℕ) → IsTop b n s → b ≤ 2 * n → s ≡ 1
    one_top b n s h lt = elim h [ inl x ↦ x.0 | inr x ↦ absurd (omega (arith, x.1)) ]

    tops : (ty : IntTy) (l r s t s1 t1 : ℕ) (x y : ℤ) → s ≡ s1 → t ≡ t1 →
        (order_answer 0 l r (s1 + t1) ≡ bit_of (int_lt x y)) × (order_answer 1 l r (s1 + t1) ≡ bit_of (int_le y x)) →
        (order_answer 0 l r (s + t) ≡ bit_of (int_lt x y)) × (order_answer 1 l r (s + t) ≡ bit_of (int_le y x))
    tops ty l r s t s1 t1 x y e f h = rw (e, f) h

    by_sign : (b : Bool) → is_signed ty ≡ b → (order_answer 0 l r (turns ty s t) ≡ bit_of (int_lt (cut ty (pos l)) (cut ty (pos r)))) × (order_answer 1 l r (turns ty s t) ≡ bit_of (int_le (cut ty (pos r)) (cut ty (pos l))))
    by_sign false u = elim (stands ty l ll) [
      | Plain x lx ↦ elim (stands ty r rl) [
        | Plain y ly ↦ put ty l r s t false _ _ _ _ u x y (plain l r)
        | Negative sg hy y ↦ absurd (let e : true ≡ false = sym sg ∙ u in cc)
      ]
      | Negative sg hx x ↦ absurd (let e : true ≡ false = sym sg ∙ u in cc)
    ]
    by_sign true u = elim (stands ty l ll) [
      | Plain x lx ↦ elim (stands ty r rl) [
        | Plain y ly ↦ put ty l r s t true _ _ _ _ u x y (tops ty l r s t 0 0 (pos l) (pos r) (zero_top _ _ _ ts (lx u)) (zero_top _ _ _ tt2 (ly u)) (pp l r))
        | Negative sg hy y ↦ put ty l r s t true _ _ _ _ u x y (tops ty l r s t 0 1 (pos l) (negsuc (span ty - 1 - r)) (zero_top _ _ _ ts (lx u)) (one_top _ _ _ tt2 hy) (let low : 2 * l < span ty = lx u in pn l r (span ty - 1 - r) (omega (arith, hy))))
      ]
      | Negative sg hx x ↦ elim (stands ty r rl) [
        | Plain y ly ↦ put ty l r s t true _ _ _ _ u x y (tops ty l r s t 1 0 (negsuc (span ty - 1 - l)) (pos r) (one_top _ _ _ ts hx) (zero_top _ _ _ tt2 (ly u)) (let low : 2 * r < span ty = ly u in np l r (span ty - 1 - l) (omega (arith, hx))))
        | Negative sg2 hy y ↦ put ty l r s t true _ _ _ _ u x y (tops ty l r s t 1 1 (negsuc (span ty - 1 - l)) (negsuc (span ty - 1 - r)) (one_top _ _ _ ts hx) (one_top _ _ _ tt2 hy) (nn l r (span ty - 1 - l) (span ty - 1 - r) (span ty - 1) (omega arith) (omega arith)))
      ]
    ]

pub lt_value : (ty : IntTy) (l r s t a : ℕ) → l < span ty → r < span ty → IsTop (span ty) l s → IsTop (span ty) r t → a ≡ order_answer 0 l r (turns ty s t) → IsValue Lt ty l r a
lt_value ty l r s t a ll rl ts tr e = e ∙ (below ty l r s t ll rl ts tr).0 ∙ sym (truth_bits (int_lt (cut ty (pos l)) (cut ty (pos r))))

pub ge_value : (ty : IntTy) (l r s t a : ℕ) → l < span ty → r < span ty → IsTop (span ty) l s → IsTop (span ty) r t → a ≡ order_answer 1 l r (turns ty s t) → IsValue Ge ty l r a
ge_value ty l r s t a ll rl ts tr e = e ∙ (below ty l r s t ll rl ts tr).1 ∙ sym (truth_bits (int_le (cut ty (pos r)) (cut ty (pos l))))

-- these have the operands exchanged
pub gt_value : (ty : IntTy) (l r s t a : ℕ) → l < span ty → r < span ty → IsTop (span ty) l s → IsTop (span ty) r t → a ≡ order_answer 0 r l (turns ty t s) → IsValue Gt ty l r a
gt_value ty l r s t a ll rl ts tr e = e ∙ (below ty r l t s rl ll tr ts).0 ∙ sym (truth_bits (int_lt (cut ty (pos r)) (cut ty (pos l))))

pub le_value : (ty : IntTy) (l r s t a : ℕ) → l < span ty → r < span ty → IsTop (span ty) l s → IsTop (span ty) r t → a ≡ order_answer 1 r l (turns ty t s) → IsValue Le ty l r a
le_value ty l r s t a ll rl ts tr e = e ∙ (below ty r l t s rl ll tr ts).1 ∙ sym (truth_bits (int_le (cut ty (pos l)) (cut ty (pos r))))

-- ---- equality
one : (ty : IntTy) (l r : ℕ) → l < span ty → r < span ty → nat_eq l r ≡ int_eq (cut ty (pos l)) (cut ty (pos r))
one ty l r ll rl = same_from_decides {P = cut ty (pos l) ≡ cut ty (pos r)} (nat_eq l r) (int_eq (cut ty (pos l)) (cut ty (pos r)))
    ((λ e. ap (λ n. cut ty (pos n)) (eqb-true l r e)), (λ e. eq-eqb l r (sym (number l ll) ∙ ap (pattern ty) e ∙ number r rl))) (Decides-int_eq (cut ty (pos l)) (cut ty (pos r)))
  where
    number : (n : ℕ) → n < span ty → pattern ty (cut ty (pos n)) ≡ n
    number n lt = pattern_cut ty (pos n) ∙ small_mod n (span ty) lt

pub eq_value : (ty : IntTy) (l r a : ℕ) → l < span ty → r < span ty → a ≡ equality_answer 0 l r → IsValue Eq ty l r a
eq_value ty l r a ll rl e = e ∙ ap (λ b. if b then 1 else 0) (one ty l r ll rl) ∙ sym (truth_bits (int_eq (cut ty (pos l)) (cut ty (pos r))))

pub ne_value : (ty : IntTy) (l r a : ℕ) → l < span ty → r < span ty → a ≡ equality_answer 1 l r → IsValue Ne ty l r a
ne_value ty l r a ll rl e = e ∙ ap (λ b. if b then 0 else 1) (one ty l r ll rl) ∙ turned (int_eq (cut ty (pos l)) (cut ty (pos r))) ∙ sym (truth_bits (not (int_eq (cut ty (pos l)) (cut ty (pos r)))))
  where
    turned : (b : Bool) → (if b then 0 else 1) ≡ bit_of (not b)
    turned true = refl
    turned false = refl

-- Conversions to wider types.
use Rattle.std.proofs.Common.{◌≡◌, ℕ, ◌+◌, ◌-◌, ◌*◌, ◌/◌, ◌^◌, ◌<◌, ◌≤◌, ◌++◌, refl, ap, sym, ◌∙◌, subst, arith, inl, inr, Bool, true, false, ℤ, pos, negsuc, ◌+ℤ◌}
use Rattle.std.proofs.lemmas.Int.{ints}
use Rattle.std.proofs.lemmas.Nat.{pow-add}
use Rattle.select_trace.specs.Run.{Machine, run}
use Rattle.select_trace.specs.Code.{Operand, stores_code, clears_code, sign_code, behind}
use Rattle.select_trace.specs.Links.{Fine}
use Rattle.select_trace.specs.Ripples.{AreDistinct}
use Rattle.select_trace.specs.Values.{val}
use Rattle.select_trace.specs.Fills.{Filled}
use Rattle.select_trace.specs.Shifts.{IsTop}
use Rattle.c_ints.specs.declared.types.IntTy.{IntTy}
use Rattle.c_ints.specs.Range.{span, cut, pattern}
use Rattle.select_wide.specs.Single.{is_signed}
use Rattle.select_trace.proofs.Vals.{run_append, val_same, val_below}
use Rattle.select_trace.proofs.Ints.{Plain, Negative, stands, pattern_of}
use Rattle.select_trace.proofs.Fills.{stored, cleared, Signed, sign_in, val_split, val_fill}
use Rattle.select_trace.proofs.Operators.{Fits, bound, tops}
use Rattle.select_trace.proofs.OperatorValues.{small_mod}

-- the value of `from` bytes with s copies of the highest bit before it, and no other byte has changed
pub record Widened (t u : Machine) (at : Operand) (from more s : ℕ) : Type 0 where
  pub fine : Fine u
  pub is : val (λ j. u.memory (at j)) (from + more) + 256 ^ from * s ≡ val (λ j. t.memory (at j)) from + 256 ^ (from + more) * s
  pub others : (a : ℕ) → ((j : ℕ) → j < more → a ≡ at (from + j) → ⊥) → u.memory a ≡ t.memory a

-- from what fills
widened : (t u : Machine) (at : Operand) (from more s x : ℕ) → s < 2 → x ≡ 255 * s → AreDistinct (from + more) at → Filled t.memory u (behind at from) x more → Widened t u at from more s
widened t u at from more s x lt e distinct h = record {
  fine = h.fine;
  is =
      let low : val (λ j. u.memory (at j)) from ≡ val (λ j. t.memory (at j)) from = val_same _ _ from (λ j l. h.others (at j) (λ i li d. distinct j (from + i) (omega arith) (omega arith) d)) in
      let high : val (λ j. u.memory (at (from + j))) more + s ≡ 256 ^ more * s = val_fill (λ j. u.memory (at (from + j))) more s lt (λ j l. h.fills j l ∙ e) in
      put (256 ^ from) (256 ^ more) (256 ^ (from + more)) _ _ _ _ s (pow-add 256 from more) (val_split (λ j. u.memory (at j)) from more) low high;
  others = h.others;
}
  where
    put : (p q r v a b c s : ℕ) → r ≡ p * q → v ≡ a + p * b → a ≡ c → b + s ≡ q * s → v + p * s ≡ c + r * s
    put p q r v a b c s e h l f =
        let g : p * (b + s) ≡ p * (q * s) = ap (λ z. p * z) f in
        let i : r * s ≡ p * q * s = ap (λ z. z * s) e in
        omega (arith, h, l, g, i)

pub widens_unsigned : (clearable : Bool) (at : Operand) (from more : ℕ) → AreDistinct (from + more) at → (t : Machine) → Fine t → Widened t (run (clears_code clearable (behind at from) more) t) at from more 0
widens_unsigned clearable at from more distinct t ok = widened t _ at from more 0 0 (omega arith) refl distinct (cleared clearable (behind at from) more (λ j k l m e. distinct (from + j) (from + k) (omega arith) (omega arith) e) t ok)

pub widens_signed : (at : Operand) (from more : ℕ) → AreDistinct (from + more) at → (t : Machine) → Fine t → Widened t (run (sign_code (at (from - 1)) ++ stores_code (behind at from) more) t) at from more (t.memory (at (from - 1)) / 128)
widens_signed at from more distinct t ok =
    let x : ℕ = t.memory (at (from - 1)) in
    let b : x < 256 = ok.bytes (at (from - 1)) in
    let u : Machine = run (sign_code (at (from - 1))) t in
    let s : Signed t u x = sign_in (at (from - 1)) t ok in
    let f : Filled u.memory (run (stores_code (behind at from) more) u) (behind at from) (255 * (x / 128)) more =
    stored (behind at from) (255 * (x / 128)) more (omega arith) (λ j k l m e. distinct (from + j) (from + k) (omega arith) (omega arith) e) u s.fine s.w in
    let g : Filled t.memory (run (stores_code (behind at from) more) u) (behind at from) (255 * (x / 128)) more = record { fine = f.fine; fills = f.fills; others = λ a no. f.others a no ∙ s.same a } in
    subst (λ (v : Machine). Widened t v at from more (x / 128)) (sym (run_append (sign_code (at (from - 1))) (stores_code (behind at from) more) t))
    (widened t _ at from more (x / 128) (255 * (x / 128)) (omega arith) refl distinct g)

-- ---- values
-- bits that stand for a number of the narrower type stand for the same in the wider one
pub wider_unsigned : (ty to : IntTy) (n : ℕ) → is_signed ty ≡ false → n < span ty → span ty ≤ span to → n ≡ pattern to (cut ty (pos n))
wider_unsigned ty to n u lt le =
    let x : cut ty (pos n) ≡ pos n = elim (stands ty n lt) [ Plain is low ↦ is | Negative s high is ↦ absurd (let e : true ≡ false = sym s ∙ u in cc) ] in
    subst (λ (z : ℤ). n ≡ pattern to z) (sym x) (sym (small_mod n (span to) (omega arith)))

pub wider_signed : (ty to : IntTy) (n s a : ℕ) → is_signed ty ≡ true → n < span ty → span ty ≤ span to → IsTop (span ty) n s → a < span to → a + span ty * s ≡ n + span to * s → a ≡ pattern to (cut ty (pos n))
wider_signed ty to n s a g lt le top al e = elim (stands ty n lt) [
  | Plain is low ↦
      let z : s ≡ 0 = zero_top _ _ _ top (low g) in
      let f : a ≡ n = plain (span ty) (span to) a n s z e in
      subst (λ (x : ℤ). a ≡ pattern to x) (sym is) (f ∙ sym (small_mod n (span to) (omega arith)))
  | Negative sg high is ↦
      let z : s ≡ 1 = one_top _ _ _ top high in
      let f : a + span ty ≡ n + span to = minus (span ty) (span to) a n s z e in
      subst (λ (x : ℤ). a ≡ pattern to x) (sym is) (sym (small_mod a (span to) al) ∙ sym (pattern_of to (negsuc (span ty - 1 - n)) 1 a (at (span ty) (span to) n a lt f)))
]
  where
    zero_top : (b n s : ℕ) → IsTop b n s → 2 * n < b → s ≡ 0
    zero_top b n s h lt = elim h [ inl x ↦ absurd (omega (arith, x.1)) | inr x ↦ x.0 ]

    one_top : (b n s : ℕ) → IsTop b n s → b ≤ 2 * n → s ≡ 1
    one_top b n s h lt = elim h [ inl x ↦ x.0 | inr x ↦ absurd (omega (arith, x.1)) ]

    plain : (p q a n s : ℕ) → s ≡ 0 → a + p * s ≡ n + q * s → a ≡ n
    plain p q a n s z e = let f : a + p * 0 ≡ n + q * 0 = subst (λ (x : ℕ). a + p * x ≡ n + q * x) z e in omega (arith, f)

    minus : (p q a n s : ℕ) → s ≡ 1 → a + p * s ≡ n + q * s → a + p ≡ n + q
    minus p q a n s z e = let f : a + p * 1 ≡ n + q * 1 = subst (λ (x : ℕ). a + p * x ≡ n + q * x) z e in omega (arith, f)

    at : (p q n a : ℕ) → n < p → a + p ≡ n + q → negsuc (p - 1 - n) +ℤ pos (1 * q) ≡ pos a
    at p q n a lt e = omega (arith, ints)

-- ---- the code's value: the type `ty` has `from` bytes, and the other one `more` bytes more
pub widening_unsigned_value : (ty to : IntTy) (t u : Machine) (at : Operand) (from more : ℕ) → is_signed ty ≡ false → Fits ty from → Fits to (from + more) → span ty ≤ span to → Fine t → Widened t u at from more 0 →
    val (λ j. u.memory (at j)) (from + more) ≡ pattern to (cut ty (pos (val (λ j. t.memory (at j)) from)))
widening_unsigned_value ty to t u at from more s e f le ok h =
    let is : val (λ j. u.memory (at j)) (from + more) ≡ val (λ j. t.memory (at j)) from = plain _ _ _ _ h.is in
    is ∙ wider_unsigned ty to _ s (subst (λ (x : ℕ). val (λ j. t.memory (at j)) from < x) (bound ty from e) (val_below (λ j. t.memory (at j)) from (λ j l. ok.bytes (at j)))) le
  where
    plain : (a b p q : ℕ) → a + p * 0 ≡ b + q * 0 → a ≡ b
    plain a b p q h = omega (arith, h)

pub widening_signed_value : (ty to : IntTy) (t u : Machine) (at : Operand) (from more : ℕ) → is_signed ty ≡ true → 0 < from → Fits ty from → Fits to (from + more) → span ty ≤ span to → Fine t → Widened t u at from more (t.memory (at (from - 1)) / 128) →
    val (λ j. u.memory (at j)) (from + more) ≡ pattern to (cut ty (pos (val (λ j. t.memory (at j)) from)))
widening_signed_value ty to t u at from more s pos_from e f le ok h =
    let b : 256 ^ from ≡ span ty = bound ty from e in
    let c : 256 ^ (from + more) ≡ span to = bound to (from + more) f in
    wider_signed ty to _ (t.memory (at (from - 1)) / 128) _ s (subst (λ (x : ℕ). val (λ j. t.memory (at j)) from < x) b (val_below (λ j. t.memory (at j)) from (λ j l. ok.bytes (at j)))) le
    (subst (λ (x : ℕ). IsTop x (val (λ j. t.memory (at j)) from) (t.memory (at (from - 1)) / 128)) b (tops (λ j. t.memory (at j)) from pos_from (λ j l. ok.bytes (at j))))
    (subst (λ (x : ℕ). val (λ j. u.memory (at j)) (from + more) < x) c (val_below (λ j. u.memory (at j)) (from + more) (λ j l. h.fine.bytes (at j))))
    (put _ _ _ _ _ _ _ b c h.is)
  where
    put : (a n p q s x y : ℕ) → p ≡ x → q ≡ y → a + p * s ≡ n + q * s → a + x * s ≡ n + y * s
    put a n p q s x y e f h = subst (λ (z : ℕ). a + z * s ≡ n + y * s) e (subst (λ (z : ℕ). a + p * s ≡ n + z * s) f h)

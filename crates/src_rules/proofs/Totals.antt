-- The sum of what different places of a row have is no more than the sum of all.
use Rattle.std.proofs.Common.{◌≡◌, ℕ, zero, suc, ◌+◌, ◌<◌, ◌≤◌, ◌⊎◌, inl, inr, ⊎_elim, Bool, true, false, nat_eq, if◌then◌else◌, refl, sym, ap, subst, arith}
use Rattle.std.proofs.lemmas.Bool.{cases_eq, cases_lt}
use Rattle.std.proofs.lemmas.Grind.{common_steps}
use Rattle.src_rules.proofs.Values.{same_nat}

-- from a place on, so many
unfoldable pub total : (ℕ → ℕ) → ℕ → ℕ → ℕ
total g a zero = 0
total g a (suc n) = g a + total g (suc a) n

unfoldable pub without : ℕ → (ℕ → ℕ) → ℕ → ℕ
without x g a = if nat_eq a x then 0 else g a

pub without_other : (x a : ℕ) (g : ℕ → ℕ) → nat_eq a x ≡ false → without x g a ≡ g a
unfolding without
without_other x a g e = ap (λ b. if b then 0 else g a) e

apart_same : (x a : ℕ) (g : ℕ → ℕ) (b : Bool) → nat_eq a x ≡ b → a < x ⊎ x < a → without x g a ≡ g a
apart_same x a g true e h = absurd (⊎_elim (λ l. let d = same_nat a x e in omega arith) (λ l. let d = same_nat a x e in omega arith) h)
apart_same x a g false e h = without_other x a g e

total_apart : (x : ℕ) (g : ℕ → ℕ) (a n : ℕ) → x < a → total (without x g) a n ≡ total g a n
unfolding total
total_apart x g a zero l = refl
total_apart x g a (suc n) l = let i = total_apart x g (suc a) n (omega arith) in let e = apart_same x a g (nat_eq a x) refl (inr l) in omega arith

nat_same : (a : ℕ) → nat_eq a a ≡ true
nat_same a = grind (arith, common_steps)

same_zero : (x : ℕ) (g : ℕ → ℕ) → without x g x ≡ 0
unfolding without
same_zero x g = ap (λ b. if b then 0 else g x) (nat_same x)

total_here : (x : ℕ) (g : ℕ → ℕ) (a n : ℕ) → a ≡ x → g x + (without x g a + total (without x g) (suc a) n) ≤ g a + total g (suc a) n
total_here x g a n e =
    let i = total_apart x g (suc a) n (omega arith) in
    let d : without x g a ≡ 0 = subst (λ y. without x g y ≡ 0) (sym e) (same_zero x g) in
    let f : g x ≡ g a = ap g (sym e) in
    omega arith

total_later : (x : ℕ) (g : ℕ → ℕ) (a n : ℕ) → a < x → g x + total (without x g) (suc a) n ≤ total g (suc a) n → g x + (without x g a + total (without x g) (suc a) n) ≤ g a + total g (suc a) n
total_later x g a n l i = let e = apart_same x a g (nat_eq a x) refl (inl l) in omega arith

below_or_same : (a x : ℕ) → a ≤ x → (a < x) ⊎ (a ≡ x)
below_or_same a x l = ⊎_elim (λ e. inr e) (λ ne. inl (⊎_elim (λ q. q) (λ q. absurd (ne (omega arith))) (cases_lt a x))) (cases_eq a x)

pub total_out : (x : ℕ) (g : ℕ → ℕ) (a n : ℕ) → a ≤ x → x < a + n → g x + total (without x g) a n ≤ total g a n
unfolding total
total_out x g a zero l h = absurd (omega arith)
total_out x g a (suc n) l h = ⊎_elim (λ less. total_later x g a n less (total_out x g (suc a) n (omega arith) (omega arith))) (λ e. total_here x g a n e) (below_or_same a x l)

-- How many turns a loop of a reader may take doesn't matter once they are as many as the tokens, since each turn takes a
-- token at least. So choices, assignments and what stands between commas are read by equations that count nothing.
use Rattle.std.proofs.Common.{◌≡◌, ℕ, zero, suc, ◌<◌, ◌≤◌, List, [], ◌∷◌, length, Option, Some, None, refl, ap, length-append, arith}
use Rattle.c_token.specs.declared.token.Punct.TheVariants as marks
use Rattle.c_nodes.specs.Words.{Symbol, Symbols}
use Rattle.c_nodes.specs.Trees.{Tree, Choose, Assign}
use Rattle.parse_expr.specs.Reader.{◌>>=◌, Reader, punct_at, collect_on, collect, all_that}
use Rattle.parse_expr.specs.Reading.{Inner, tier_by, choose_on, choices, cond_by, target_at, assign_on, assigns, assign_by, comma_by}
use Rattle.parse_expr.proofs.Knots.{ArePlain, Takes, SoundInner}
use Rattle.parse_expr.proofs.TakesLists.{punct_takes}
use Rattle.parse_expr.proofs.TakesOperators.{tier_by_takes, cond_by_takes, target_takes, comma_takes}
use Rattle.parse_expr.proofs.AgainOperands.{has_token}

-- ---- what is taken

pub fewer : {A : Type 0} (spell : A → Symbols) (Is : A → Type 0) (toks : Symbols) (x : A × Symbols) → Takes spell Is toks x → 0 < length (spell x.0) → length x.1 < length toks
fewer spell Is toks x t some =
    let same = ap length t.parts in
    let sum = length-append (spell x.0) x.1 in
    omega (arith, same, sum, some)

no_more : {A : Type 0} (spell : A → Symbols) (Is : A → Type 0) (toks : Symbols) (x : A × Symbols) → Takes spell Is toks x → length x.1 ≤ length toks
no_more spell Is toks x t =
    let same = ap length t.parts in
    let sum = length-append (spell x.0) x.1 in
    omega (arith, same, sum)

same_after : {A B : Type 0} (r : Option A) (f g : A → Option B) → ((x : A) → r ≡ Some x → f x ≡ g x) → (r >>= f) ≡ (r >>= g)
same_after (Some x) f g h = h x refl
same_after None f g h = refl

none_read : {A : Type 0} (r : Option A) → ((x : A) → r ≡ Some x → ⊥) → r ≡ None
none_read (Some x) h = absurd (h x refl)
none_read None h = refl

-- two readers that read the same of all shorter lists
abbrev AlikeBelow : {A : Type 0} → Symbols → Reader A → Reader A → Type 0
AlikeBelow toks again other = (k : Symbols) → ArePlain k → length k < length toks → again k ≡ other k

-- ---- choices

no_tier : (inner : Inner) → SoundInner inner → (toks : Symbols) → ArePlain toks → length toks ≤ 0 → tier_by inner 10 toks ≡ None
no_tier inner sound toks plain le = none_read (tier_by inner 10 toks) (λ x is.
    let t = tier_by_takes inner sound 10 toks plain x is in
    let lt = fewer _ _ toks x t (has_token x.0) in
    omega (arith, lt, le))

choose_same : (inner : Inner) → SoundInner inner → (again other : Reader Tree) (c : Tree) (toks : Symbols) → ArePlain toks → AlikeBelow toks again other → (q : Option (ℕ × Symbols)) → punct_at marks.Question toks ≡ q → choose_on inner again c toks q ≡ choose_on inner other c toks q
choose_same inner sound again other c toks plain alike None e = refl
choose_same inner sound again other c toks plain alike (Some q) e =
    let m = punct_takes marks.Question toks plain q e in
    let m_low = fewer _ _ toks q m (omega arith) in
    same_after (inner.expr q.1) _ _ (λ t is.
    let u = sound.expr q.1 m.plain t is in
    let u_low = no_more _ _ q.1 t u in
    same_after (punct_at marks.Colon t.1) _ _ (λ k comes.
    let v = punct_takes marks.Colon t.1 u.plain k comes in
    let v_low = no_more _ _ t.1 k v in
    ap (λ (r : Option (Tree × Symbols)). r >>= λ e. Some (Choose c q.0 t.0 k.0 e.0, e.1)) (alike k.1 v.plain (omega (arith, m_low, u_low, v_low)))))

enough_choices : (inner : Inner) → SoundInner inner → (n m : ℕ) (toks : Symbols) → ArePlain toks → length toks ≤ n → length toks ≤ m → choices inner n toks ≡ choices inner m toks
unfolding choices
enough_choices inner sound zero zero toks plain l r = refl
enough_choices inner sound zero (suc m) toks plain l r = rw (no_tier inner sound toks plain l) refl
enough_choices inner sound (suc n) zero toks plain l r = rw (no_tier inner sound toks plain r) refl
enough_choices inner sound (suc n) (suc m) toks plain l r = same_after (tier_by inner 10 toks) _ _ (λ c is.
    let t = tier_by_takes inner sound 10 toks plain c is in
    let low = fewer _ _ toks c t (has_token c.0) in
    choose_same inner sound (choices inner n) (choices inner m) c.0 c.1 t.plain (λ k flat lt. enough_choices inner sound n m k flat (omega (arith, low, lt, l)) (omega (arith, low, lt, r))) (punct_at marks.Question c.1) refl)

pub cond_step : (inner : Inner) → SoundInner inner → (toks : Symbols) → ArePlain toks → cond_by inner toks ≡ (tier_by inner 10 toks >>= λ c. choose_on inner (cond_by inner) c.0 c.1 (punct_at marks.Question c.1))
unfolding cond_by choices
cond_step inner sound [] plain = rw (no_tier inner sound [] plain (omega arith)) refl
cond_step inner sound (s ∷ rest) plain = same_after (tier_by inner 10 (s ∷ rest)) _ _ (λ c is.
    let t = tier_by_takes inner sound 10 (s ∷ rest) plain c is in
    let low = fewer _ _ (s ∷ rest) c t (has_token c.0) in
    choose_same inner sound (choices inner (length rest)) (λ k. choices inner (length k) k) c.0 c.1 t.plain (λ k flat lt. enough_choices inner sound (length rest) (length k) k flat (omega (arith, low, lt)) (omega arith)) (punct_at marks.Question c.1) refl)

-- ---- assignments

no_cond : (inner : Inner) → SoundInner inner → (toks : Symbols) → ArePlain toks → length toks ≤ 0 → cond_by inner toks ≡ None
no_cond inner sound toks plain le = none_read (cond_by inner toks) (λ x is.
    let t = cond_by_takes inner sound toks plain x is in
    let lt = fewer _ _ toks x t (has_token x.0) in
    omega (arith, lt, le))

assign_same : (again other : Reader Tree) (a : Tree) (toks : Symbols) → ArePlain toks → AlikeBelow toks again other → (s : Option (Symbol × Symbols)) → target_at a toks ≡ s → assign_on again a toks s ≡ assign_on other a toks s
assign_same again other a toks plain alike None e = refl
assign_same again other a toks plain alike (Some s) e =
    let t = target_takes a toks plain s e in
    let low = fewer _ _ toks s t (omega arith) in
    ap (λ (r : Option (Tree × Symbols)). r >>= λ b. Some (Assign a s.0 b.0, b.1)) (alike s.1 t.plain low)

enough_assigns : (inner : Inner) → SoundInner inner → (n m : ℕ) (toks : Symbols) → ArePlain toks → length toks ≤ n → length toks ≤ m → assigns inner n toks ≡ assigns inner m toks
unfolding assigns
enough_assigns inner sound zero zero toks plain l r = refl
enough_assigns inner sound zero (suc m) toks plain l r = rw (no_cond inner sound toks plain l) refl
enough_assigns inner sound (suc n) zero toks plain l r = rw (no_cond inner sound toks plain r) refl
enough_assigns inner sound (suc n) (suc m) toks plain l r = same_after (cond_by inner toks) _ _ (λ a is.
    let t = cond_by_takes inner sound toks plain a is in
    let low = fewer _ _ toks a t (has_token a.0) in
    assign_same (assigns inner n) (assigns inner m) a.0 a.1 t.plain (λ k flat lt. enough_assigns inner sound n m k flat (omega (arith, low, lt, l)) (omega (arith, low, lt, r))) (target_at a.0 a.1) refl)

pub assign_step : (inner : Inner) → SoundInner inner → (toks : Symbols) → ArePlain toks → assign_by inner toks ≡ (cond_by inner toks >>= λ a. assign_on (assign_by inner) a.0 a.1 (target_at a.0 a.1))
unfolding assign_by assigns
assign_step inner sound [] plain = rw (no_cond inner sound [] plain (omega arith)) refl
assign_step inner sound (s ∷ rest) plain = same_after (cond_by inner (s ∷ rest)) _ _ (λ a is.
    let t = cond_by_takes inner sound (s ∷ rest) plain a is in
    let low = fewer _ _ (s ∷ rest) a t (has_token a.0) in
    assign_same (assigns inner (length rest)) (λ k. assigns inner (length k) k) a.0 a.1 t.plain (λ k flat lt. enough_assigns inner sound (length rest) (length k) k flat (omega (arith, low, lt)) (omega arith)) (target_at a.0 a.1) refl)

-- ---- what stands between commas

collect_same : (inner : Inner) → SoundInner inner → (again other : Reader (List (ℕ × Tree))) (toks : Symbols) → ArePlain toks → AlikeBelow toks again other → (x : Option ((ℕ × Tree) × Symbols)) → comma_by inner toks ≡ Some x → collect_on again toks x ≡ collect_on other toks x
collect_same inner sound again other toks plain alike None e = refl
collect_same inner sound again other toks plain alike (Some x) e =
    let t = comma_takes inner sound toks plain x e in
    let low = fewer _ _ toks x t (omega arith) in
    ap (λ (r : Option (List (ℕ × Tree) × Symbols)). r >>= λ l. Some (x.0 ∷ l.0, l.1)) (alike x.1 t.plain low)

enough_commas : (inner : Inner) → SoundInner inner → (n m : ℕ) (toks : Symbols) → ArePlain toks → length toks ≤ n → length toks ≤ m → collect (comma_by inner) n toks ≡ collect (comma_by inner) m toks
unfolding collect comma_by
enough_commas inner sound zero zero toks plain l r = refl
enough_commas inner sound zero (suc m) [] plain l r = refl
enough_commas inner sound zero (suc m) (s ∷ rest) plain l r = absurd (omega (arith, l))
enough_commas inner sound (suc n) zero [] plain l r = refl
enough_commas inner sound (suc n) zero (s ∷ rest) plain l r = absurd (omega (arith, r))
enough_commas inner sound (suc n) (suc m) toks plain l r = same_after (comma_by inner toks) _ _ (λ x is.
    collect_same inner sound (collect (comma_by inner) n) (collect (comma_by inner) m) toks plain (λ k flat lt. enough_commas inner sound n m k flat (omega (arith, lt, l)) (omega (arith, lt, r))) x is)

pub commas_step : (inner : Inner) → SoundInner inner → (toks : Symbols) → ArePlain toks → all_that (comma_by inner) toks ≡ (comma_by inner toks >>= λ x. collect_on (all_that (comma_by inner)) toks x)
unfolding collect comma_by
commas_step inner sound [] plain = refl
commas_step inner sound (s ∷ rest) plain = same_after (comma_by inner (s ∷ rest)) _ _ (λ x is.
    collect_same inner sound (collect (comma_by inner) (length rest)) (λ k. collect (comma_by inner) (length k) k) (s ∷ rest) plain (λ k flat lt. enough_commas inner sound (length rest) (length k) k flat (omega (arith, lt)) (omega arith)) x is)

-- The arrivals up to a moment: of a list in order, so many first ones.
use Rattle.std.proofs.Common.{◌≡◌, ◌≤◌, ◌<◌, ⊎_elim, ℕ, zero, suc, ◌+◌, ◌-◌, Bool, true, false, not, nat_eq, nat_lt, nat_le, ◌&&◌, List, [], ◌∷◌, ◌++◌, length, take, slice_index, slice_index_or, bit_or, refl, sym, ap, ◌∙◌, subst, arith}
use Rattle.std.proofs.lemmas.Bool.{le-leb, lt-leb, lt-ltb, eqb-true, not-false, cases_lt}
use Rattle.std.specs.Prelude.{if◌then◌else◌}
use Rattle.pic_world.specs.Arrivals.{IsRising, arriving, flag_bit}
use Rattle.pic_world.specs.declared.Arrival.{Arrival}
use Rattle.pic_world.specs.declared.Event.{Event}
use Rattle.pic_world.specs.declared.script.Script.{Script}
use Rattle.run_compare.specs.Searching.{ComeBy, upto}
use Rattle.schedule.specs.Off.{read_off, lengths_before}
use Rattle.src_memory.specs.Seen.{outside_by}
use mathlib.Core.Path.{fun_ext}

upto_first : (m : ℕ) (a : Arrival) (xs : List Arrival) → a.t ≤ m → upto m (a ∷ xs) ≡ suc (upto m xs)
unfolding upto
upto_first m a xs le = ap (λ b. if b then suc (upto m xs) else upto m xs) (le-leb a.t m le)

upto_later : (m : ℕ) (a : Arrival) (xs : List Arrival) → m < a.t → upto m (a ∷ xs) ≡ upto m xs
unfolding upto
upto_later m a xs l = ap (λ b. if b then suc (upto m xs) else upto m xs) (lt-leb a.t m l)

upto_nothing : (m : ℕ) → upto m [] ≡ 0
unfolding upto
upto_nothing m = refl

-- of a list in order, where the first one comes later all do
none_upto : (m t : ℕ) (xs : List Arrival) → m < t → IsRising t xs → upto m xs ≡ 0
none_upto m t [] l r = upto_nothing m
none_upto m t (a ∷ xs) l r =
    let b = r.0 in
    upto_later m a xs (omega (arith, l, b)) ∙ none_upto m a.t xs (omega (arith, l, b)) r.1

pub upto_more : (m n : ℕ) (xs : List Arrival) → m ≤ n → upto m xs ≤ upto n xs
upto_more m n [] le = let a = upto_nothing m in let b = upto_nothing n in omega (arith, a, b)
upto_more m n (a ∷ xs) le =
    let i = upto_more m n xs le in
    ⊎_elim
    (λ l. let e = upto_later m a xs l in ⊎_elim (λ g. let d = upto_later n a xs g in omega (arith, e, d, i)) (λ g. let d = upto_first n a xs g in omega (arith, e, d, i)) (cases_lt n a.t))
    (λ l. let e = upto_first m a xs l in let d = upto_first n a xs (omega (arith, l, le)) in omega (arith, e, d, i)) (cases_lt m a.t)

-- the arrival of a number comes up to a moment, or it doesn't, and then no later one
pub upto_past : (m t : ℕ) (xs : List Arrival) (i : ℕ) (d : Arrival) → IsRising t xs → i < length xs → (slice_index_or xs i d).t ≤ m → i + 1 ≤ upto m xs
upto_past m t [] i d r l h = absurd (omega (arith, l))
upto_past m t (a ∷ xs) zero d r l h = let e = upto_first m a xs h in omega (arith, e)
upto_past m t (a ∷ xs) (suc i) d r l h =
    let n = upto_past m a.t xs i d r.1 (omega (arith, l)) h in
    ⊎_elim (λ g. let z = none_upto m a.t xs g r.1 in absurd (omega (arith, n, z))) (λ g. let e = upto_first m a xs g in omega (arith, e, n)) (cases_lt m a.t)

pub upto_short : (m t : ℕ) (xs : List Arrival) (i : ℕ) (d : Arrival) → IsRising t xs → i < length xs → m < (slice_index_or xs i d).t → upto m xs ≤ i
upto_short m t [] i d r l h = absurd (omega (arith, l))
upto_short m t (a ∷ xs) zero d r l h = let e = upto_later m a xs h in let z = none_upto m a.t xs h r.1 in omega (arith, e, z)
upto_short m t (a ∷ xs) (suc i) d r l h =
    let n = upto_short m a.t xs i d r.1 (omega (arith, l)) h in
    ⊎_elim (λ g. let e = upto_later m a xs g in omega (arith, e, n)) (λ g. let e = upto_first m a xs g in omega (arith, e, n)) (cases_lt m a.t)

-- ---- what is read off
module _ (trace : ℕ → List Event) where
  abbrev placed : Arrival → Arrival
  placed a = record a { t = length (trace a.t) }

  off_first : (m : ℕ) (a : Arrival) (xs : List Arrival) → a.t ≤ m → read_off trace m (a ∷ xs) ≡ placed a ∷ read_off trace m xs
  off_first m a xs le = ap (λ b. if b then placed a ∷ read_off trace m xs else read_off trace m xs) (le-leb a.t m le)

  off_later : (m : ℕ) (a : Arrival) (xs : List Arrival) → m < a.t → read_off trace m (a ∷ xs) ≡ read_off trace m xs
  off_later m a xs l = ap (λ b. if b then placed a ∷ read_off trace m xs else read_off trace m xs) (lt-leb a.t m l)

  pub off_count : (m : ℕ) (xs : List Arrival) → length (read_off trace m xs) ≡ upto m xs
  off_count m [] = sym (upto_nothing m)
  off_count m (a ∷ xs) =
      ⊎_elim (λ g. ap length (off_later m a xs g) ∙ (off_count m xs ∙ sym (upto_later m a xs g)))
      (λ g. ap length (off_first m a xs g) ∙ (ap suc (off_count m xs) ∙ sym (upto_first m a xs g))) (cases_lt m a.t)

  pub off_few : (m : ℕ) (xs : List Arrival) → length (read_off trace m xs) ≤ length xs
  off_few m [] = omega arith
  off_few m (a ∷ xs) =
      let i = off_few m xs in
      ⊎_elim (λ g. let e = ap length (off_later m a xs g) in omega (arith, e, i)) (λ g. let e = ap length (off_first m a xs g) in omega (arith, e, i)) (cases_lt m a.t)

  nothing : (ys : List Arrival) → length ys ≡ 0 → ys ≡ []
  nothing [] e = refl
  nothing (y ∷ ys) e = absurd (omega (arith, e))

  -- up to an earlier moment they are so many first ones
  off_taken : (m n t : ℕ) (xs : List Arrival) → m ≤ n → IsRising t xs → read_off trace m xs ≡ take (upto m xs) (read_off trace n xs)
  off_taken m n t [] le r = ap (λ k. take k []) (sym (upto_nothing m))
  off_taken m n t (a ∷ xs) le r = ⊎_elim later (first (off_taken m n a.t xs le r.1)) (cases_lt m a.t)
    where
      later : m < a.t → read_off trace m (a ∷ xs) ≡ take (upto m (a ∷ xs)) (read_off trace n (a ∷ xs))
      later g =
          let z = none_upto m a.t xs g r.1 in
          let o = off_count m xs ∙ z in
          off_later m a xs g ∙ (nothing (read_off trace m xs) o ∙ ap (λ k. take k (read_off trace n (a ∷ xs))) (sym (upto_later m a xs g ∙ z)))

      first : read_off trace m xs ≡ take (upto m xs) (read_off trace n xs) → a.t ≤ m → read_off trace m (a ∷ xs) ≡ take (upto m (a ∷ xs)) (read_off trace n (a ∷ xs))
      first i g =
          off_first m a xs g ∙ (ap (λ ys. placed a ∷ ys) i
          ∙ (ap (λ k. take k (placed a ∷ read_off trace n xs)) (sym (upto_first m a xs g)) ∙ ap (take (upto m (a ∷ xs))) (sym (off_first n a xs (omega (arith, g, le))))))

  -- where the first ones are those up to a later moment too, all are
  pub off_same : (m n i : ℕ) (xs : List Arrival) → m ≤ n → IsRising 0 xs → upto m xs ≡ i → read_off trace m xs ≡ take i (read_off trace n xs)
  off_same m n i xs le r e = off_taken m n 0 xs le r ∙ ap (λ k. take k (read_off trace n xs)) e

  -- ---- the lengths before arrivals
  before_first : (n : ℕ) (a : Arrival) (xs : List Arrival) → 0 < a.t → a.t ≤ n → lengths_before trace n (a ∷ xs) ≡ length (trace (a.t - 1)) ∷ lengths_before trace n xs
  before_first n a xs p le =
      ap (λ b. if b && nat_le a.t n then length (trace (a.t - 1)) ∷ lengths_before trace n xs else lengths_before trace n xs) (lt-ltb 0 a.t p)
      ∙ ap (λ b. if true && b then length (trace (a.t - 1)) ∷ lengths_before trace n xs else lengths_before trace n xs) (le-leb a.t n le)

  abbrev behind_reset : ℕ → Arrival → Bool
  behind_reset n a = nat_lt 0 a.t && nat_le a.t n

  -- that of the arrival of a number stands where so many first arrivals have theirs
  pub before_at : (n i : ℕ) (xs : List Arrival) (d : Arrival) → i < length xs → 0 < (slice_index_or xs i d).t → (slice_index_or xs i d).t ≤ n
      → slice_index (lengths_before trace n xs) (length (lengths_before trace n (take i xs))) ≡ length (trace ((slice_index_or xs i d).t - 1))
  before_at n i [] d l p le = absurd (omega (arith, l))
  before_at n zero (a ∷ xs) d l p le = ap (λ ys. slice_index ys 0) (before_first n a xs p le)
  before_at n (suc i) (a ∷ xs) d l p le = by_test (behind_reset n a) ∙ before_at n i xs d (omega (arith, l)) p le
    where
      by_test : (b : Bool)
          → slice_index (if b then length (trace (a.t - 1)) ∷ lengths_before trace n xs else lengths_before trace n xs)
          (length (if b then length (trace (a.t - 1)) ∷ lengths_before trace n (take i xs) else lengths_before trace n (take i xs)))
          ≡ slice_index (lengths_before trace n xs) (length (lengths_before trace n (take i xs)))
      by_test true = refl
      by_test false = refl

  one_more : (n : ℕ) (a : Arrival) (xs : List Arrival) → a.t ≤ n → length (lengths_before trace n (a ∷ xs)) ≡ length (lengths_before trace n xs) + (if nat_lt 0 a.t then 1 else 0)
  one_more n a xs le =
      ap (λ b. length (if nat_lt 0 a.t && b then length (trace (a.t - 1)) ∷ lengths_before trace n xs else lengths_before trace n xs)) (le-leb a.t n le) ∙ by_test (nat_lt 0 a.t)
    where
      by_test : (b : Bool) → length (if b && true then length (trace (a.t - 1)) ∷ lengths_before trace n xs else lengths_before trace n xs) ≡ length (lengths_before trace n xs) + (if b then 1 else 0)
      by_test true = omega arith
      by_test false = omega arith

  pub before_next : (n i : ℕ) (xs : List Arrival) (d : Arrival) → i < length xs → (slice_index_or xs i d).t ≤ n
      → length (lengths_before trace n (take (suc i) xs)) ≡ length (lengths_before trace n (take i xs)) + (if nat_lt 0 (slice_index_or xs i d).t then 1 else 0)
  before_next n i [] d l le = absurd (omega (arith, l))
  before_next n zero (a ∷ xs) d l le = one_more n a [] le
  before_next n (suc i) (a ∷ xs) d l le = by_test (behind_reset n a) (before_next n i xs d (omega (arith, l)) le)
    where
      by_test : (b : Bool)
          → length (lengths_before trace n (take (suc i) xs)) ≡ length (lengths_before trace n (take i xs)) + (if nat_lt 0 (slice_index_or xs i d).t then 1 else 0)
          → length (if b then length (trace (a.t - 1)) ∷ lengths_before trace n (take (suc i) xs) else lengths_before trace n (take (suc i) xs))
          ≡ length (if b then length (trace (a.t - 1)) ∷ lengths_before trace n (take i xs) else lengths_before trace n (take i xs)) + (if nat_lt 0 (slice_index_or xs i d).t then 1 else 0)
      by_test true h = omega (arith, h)
      by_test false h = h

-- ---- schedules
pub rising_take : (t i : ℕ) (xs : List Arrival) → IsRising t xs → IsRising t (take i xs)
rising_take t zero xs r = tt
rising_take t (suc i) [] r = tt
rising_take t (suc i) (a ∷ xs) r = (r.0, rising_take a.t i xs r.1)

other_arriving : (xs : List Arrival) (a : Arrival) (t : ℕ) → nat_eq a.t t ≡ false → arriving (xs ++ a ∷ []) t ≡ arriving xs t
other_arriving [] a t e = ap (λ b. if b then bit_or (flag_bit a.flag) 0 else 0) e
other_arriving (x ∷ xs) a t e = ap (λ r. if nat_eq x.t t then bit_or (flag_bit x.flag) r else r) (other_arriving xs a t e)

-- where an arrival changes nothing at its own length, it does so nowhere
pub same_arriving : (xs : List Arrival) (a : Arrival) → arriving (xs ++ a ∷ []) a.t ≡ arriving xs a.t → (t : ℕ) → arriving (xs ++ a ∷ []) t ≡ arriving xs t
same_arriving xs a e t = by_test (nat_eq a.t t) refl
  where
    by_test : (b : Bool) → nat_eq a.t t ≡ b → arriving (xs ++ a ∷ []) t ≡ arriving xs t
    by_test true h = subst (λ k. arriving (xs ++ a ∷ []) k ≡ arriving xs k) (eqb-true a.t t h) e
    by_test false h = other_arriving xs a t h

-- as the code has it, by the masks before and behind
pub same_arriving_now : (old new : List Arrival) (a : Arrival) (before behind : ℕ) → new ≡ old ++ a ∷ [] → before ≡ arriving old a.t → behind ≡ arriving new a.t → not (nat_eq behind before) ≡ false → (t : ℕ) → arriving new t ≡ arriving old t
same_arriving_now old new a before behind more b d same t =
    ap (λ xs. arriving xs t) more
    ∙ same_arriving old a (ap (λ xs. arriving xs a.t) (sym more) ∙ (sym d ∙ (eqb-true behind before (not-false (nat_eq behind before) same) ∙ b))) t

-- so the schedule stays
pub same_schedule : (old new : Script) → new.input ≡ old.input → ((t : ℕ) → arriving new.arrivals.items t ≡ arriving old.arrivals.items t) → outside_by new ≡ outside_by old
same_schedule old new input same =
    ap (λ i. record { input = i; schedule = arriving new.arrivals.items }) (ap (λ v. v.items) input)
    ∙ ap (λ f. record { input = old.input.items; schedule = f }) (fun_ext same)

-- those that are read off come up to the moment
pub come_by : (trace : ℕ → List Event) (m : ℕ) (xs : List Arrival) → IsRising 0 xs → ComeBy xs (length (read_off trace m xs)) m
come_by trace m xs r number a l =
    let count = off_count trace m xs in
    let few = off_few trace m xs in
    ⊎_elim (λ late. let u = upto_short m 0 xs number a r (omega (arith, l, few)) late in absurd (omega (arith, u, count, l))) (λ h. h) (cases_lt m (slice_index_or xs number a).t)

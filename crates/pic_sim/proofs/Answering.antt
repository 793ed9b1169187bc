-- The answers of a board as an input list and as arrivals.
use Rattle.std.proofs.Common.{◌≡◌, ℕ, zero, suc, ◌+◌, ◌*◌, ◌/◌, ◌%◌, ◌<◌, ◌≤◌, Bool, true, false, List, [], ◌∷◌, ◌++◌, refl, sym, ap, ◌∙◌, subst, append_assoc, length-append, length, slice_index, arith}
use Rattle.std.specs.Prelude.{bit_or, nat_eq, if◌then◌else◌}
use Rattle.std.specs.Int.Bits.{or_zero_l, or_zero_r}
use Rattle.std.proofs.lemmas.Bool.{agree_below_at, eqb-true, eq-eqb}
use Rattle.pic_world.specs.declared.Arrival.{Arrival}
use Rattle.pic_world.specs.declared.Flag.{Flag}
use Rattle.pic_world.specs.declared.Flag.TheVariants.{Rbif, Intf, Tmr0if, Tmr1if, Tmr2if, Ccp1if, Sspif, Txif, Rcif, Adif, Pspif}
use Rattle.pic_world.specs.Arrivals.{arriving, flag_bit, flags}
use Rattle.pic_world.proofs.OrLaws.{or_assoc}
use Rattle.pic_sim.specs.Going.{HasBytes, HasMasks}
use Rattle.pic_sim.specs.FromReset.{bytes_of, arrival, flags_among, flags_at, arrivals_of, AnswersAreInput, MasksAreArrivals}

at_length : (before : List ℕ) (x : ℕ) (rest : List ℕ) → slice_index (before ++ x ∷ rest) (length before) ≡ x
at_length [] x rest = refl
at_length (b ∷ before) x rest = at_length before x rest

pub answers_are_input : AnswersAreInput
answers_are_input before [] = tt
answers_are_input before (x ∷ xs) =
    let rest = answers_are_input (before ++ x.value ∷ []) xs in (
      at_length before x.value (bytes_of xs),
      subst (λ (n : ℕ). HasBytes (before ++ x.value ∷ bytes_of xs) n xs) (length-append before (x.value ∷ []))
          (subst (λ (l : List ℕ). HasBytes l (length (before ++ x.value ∷ [])) xs) (append_assoc before (x.value ∷ []) (bytes_of xs)) rest),
    )

arriving-append : (xs ys : List Arrival) (t : ℕ) → arriving (xs ++ ys) t ≡ bit_or (arriving xs t) (arriving ys t)
arriving-append [] ys t = sym (or_zero_l (arriving ys t))
arriving-append (x ∷ xs) ys t = by_test (nat_eq x.t t) (arriving-append xs ys t)
  where
    by_test : (b : Bool) → arriving (xs ++ ys) t ≡ bit_or (arriving xs t) (arriving ys t)
        → (if b then bit_or (flag_bit x.flag) (arriving (xs ++ ys) t) else arriving (xs ++ ys) t) ≡ bit_or (if b then bit_or (flag_bit x.flag) (arriving xs t) else arriving xs t) (arriving ys t)
    by_test true e = ap (λ (n : ℕ). bit_or (flag_bit x.flag) n) e ∙ sym (or_assoc (flag_bit x.flag) (arriving xs t) (arriving ys t))
    by_test false e = e

-- one flag that may be set, at its own index and at another
here : (t : ℕ) (f : Flag) (a : Bool) → arriving (if a then arrival t f else []) t ≡ (if a then flag_bit f else 0)
here t f true = ap (λ (q : Bool). if q then bit_or (flag_bit f) 0 else 0) (eq-eqb t t refl) ∙ or_zero_r (flag_bit f)
here t f false = refl

elsewhere : (t u : ℕ) → nat_eq t u ≡ false → (f : Flag) (a : Bool) → arriving (if a then arrival t f else []) u ≡ 0
elsewhere t u other f true = ap (λ (q : Bool). if q then bit_or (flag_bit f) 0 else 0) other
elsewhere t u other f false = refl

-- the bits of a mask that some flags have
joined : List Flag → ℕ → ℕ
joined [] mask = 0
joined (f ∷ fs) mask = bit_or (if nat_eq (mask / flag_bit f % 2) 1 then flag_bit f else 0) (joined fs mask)

among_here : (fs : List Flag) (t mask : ℕ) → arriving (flags_among fs t mask) t ≡ joined fs mask
unfolding flags_among joined
among_here [] t mask = refl
among_here (f ∷ fs) t mask =
    let first : List Arrival = if nat_eq (mask / flag_bit f % 2) 1 then arrival t f else [] in
    arriving-append first (flags_among fs t mask) t
    ∙ ap (λ (n : ℕ). bit_or n (arriving (flags_among fs t mask) t)) (here t f (nat_eq (mask / flag_bit f % 2) 1))
    ∙ ap (bit_or (if nat_eq (mask / flag_bit f % 2) 1 then flag_bit f else 0)) (among_here fs t mask)

-- bits 0 to 10 alone count
flag_low : (f : Flag) (mask : ℕ) → mask / flag_bit f % 2 ≡ mask % 2048 / flag_bit f % 2
flag_low Rbif mask = omega arith
flag_low Intf mask = omega arith
flag_low Tmr0if mask = omega arith
flag_low Tmr1if mask = omega arith
flag_low Tmr2if mask = omega arith
flag_low Ccp1if mask = omega arith
flag_low Sspif mask = omega arith
flag_low Txif mask = omega arith
flag_low Rcif mask = omega arith
flag_low Adif mask = omega arith
flag_low Pspif mask = omega arith

joined_low : (fs : List Flag) (mask : ℕ) → joined fs mask ≡ joined fs (mask % 2048)
unfolding joined
joined_low [] mask = refl
joined_low (f ∷ fs) mask =
    ap (λ (n : ℕ). bit_or (if nat_eq n 1 then flag_bit f else 0) (joined fs mask)) (flag_low f mask)
    ∙ ap (bit_or (if nat_eq (mask % 2048 / flag_bit f % 2) 1 then flag_bit f else 0)) (joined_low fs mask)

-- computed at each mask
joined_all : (mask : ℕ) → mask < 2048 → joined flags mask ≡ mask
unfolding joined
joined_all mask h = eqb-true (joined flags mask) mask (agree_below_at (λ n. nat_eq (joined flags n) n) (λ n. true) 2048 mask refl h)

-- the flags of a mask, likewise
flags_here : (t mask : ℕ) → arriving (flags_at t mask) t ≡ mask % 2048
flags_here t mask = among_here flags t mask ∙ joined_low flags mask ∙ joined_all (mask % 2048) (omega arith)

among_elsewhere : (fs : List Flag) (t mask u : ℕ) → nat_eq t u ≡ false → arriving (flags_among fs t mask) u ≡ 0
unfolding flags_among
among_elsewhere [] t mask u other = refl
among_elsewhere (f ∷ fs) t mask u other =
    let first : List Arrival = if nat_eq (mask / flag_bit f % 2) 1 then arrival t f else [] in
    arriving-append first (flags_among fs t mask) u
    ∙ ap (λ (n : ℕ). bit_or n (arriving (flags_among fs t mask) u)) (elsewhere t u other f (nat_eq (mask / flag_bit f % 2) 1))
    ∙ ap (bit_or 0) (among_elsewhere fs t mask u other)

flags_elsewhere : (t mask u : ℕ) → nat_eq t u ≡ false → arriving (flags_at t mask) u ≡ 0
flags_elsewhere t mask u other = among_elsewhere flags t mask u other

apart : (a b : ℕ) → (a ≡ b → ⊥) → nat_eq a b ≡ false
apart a b other = by_test (nat_eq a b) refl
  where
    by_test : (q : Bool) → nat_eq a b ≡ q → q ≡ false
    by_test true e = absurd (other (eqb-true a b e))
    by_test false e = refl

later_none : (t : ℕ) (masks : List ℕ) (u : ℕ) → u < t → arriving (arrivals_of t masks) u ≡ 0
later_none t [] u h = refl
later_none t (mask ∷ masks) u h =
    arriving-append (flags_at t mask) (arrivals_of (t + 1) masks) u
    ∙ ap (λ (n : ℕ). bit_or n (arriving (arrivals_of (t + 1) masks) u)) (flags_elsewhere t mask u (apart t u (λ e. omega (arith, e, h))))
    ∙ ap (λ (n : ℕ). bit_or 0 n) (later_none (t + 1) masks u (omega arith))

-- behind arrivals that come before this index
masks_behind : (before : List Arrival) (index : ℕ) → ((u : ℕ) → index ≤ u → arriving before u ≡ 0) → (xs : List ℕ) → HasMasks (arriving (before ++ arrivals_of index xs)) index xs
masks_behind before index none [] = tt
masks_behind before index none (x ∷ xs) =
    let now = flags_at index x in
    let rest = arrivals_of (index + 1) xs in
    let small : x % 2048 % 2048 ≡ x % 2048 = omega arith in
    let value : arriving (before ++ (now ++ rest)) index ≡ x % 2048 =
    arriving-append before (now ++ rest) index
    ∙ ap (λ (n : ℕ). bit_or n (arriving (now ++ rest) index)) (none index (omega arith))
    ∙ or_zero_l (arriving (now ++ rest) index)
    ∙ arriving-append now rest index
    ∙ ap (λ (n : ℕ). bit_or n (arriving rest index)) (flags_here index x)
    ∙ ap (λ (n : ℕ). bit_or (x % 2048) n) (later_none (index + 1) xs index (omega arith))
    ∙ or_zero_r (x % 2048) in
    let none_later : (u : ℕ) → index + 1 ≤ u → arriving (before ++ now) u ≡ 0 = λ u h.
    arriving-append before now u
    ∙ ap (λ (n : ℕ). bit_or n (arriving now u)) (none u (omega (arith, h)))
    ∙ ap (λ (n : ℕ). bit_or 0 n) (flags_elsewhere index x u (apart index u (λ e. omega (arith, e, h)))) in (
      ap (λ (n : ℕ). n % 2048) value ∙ small,
      subst (λ (l : List Arrival). HasMasks (arriving l) (index + 1) xs) (append_assoc before now rest) (masks_behind (before ++ now) (index + 1) none_later xs),
    )

pub masks_are_arrivals : MasksAreArrivals
masks_are_arrivals index raised = masks_behind [] index (λ u h. refl) raised

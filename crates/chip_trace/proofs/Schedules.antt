-- The schedule that is read off the chip, moment by moment.
use Rattle.std.proofs.Common.{◌≡◌, ◌≢◌, ℕ, zero, suc, ◌<◌, Bool, true, false, List, [], ◌∷◌, length, refl, sym, ap, ◌∙◌, ⊎_elim, arith}
use Rattle.std.specs.Prelude.{if◌then◌else◌, nat_eq, nat_lt, nat_le, bit_or}
use Rattle.std.proofs.lemmas.Bool.{eq-eqb, ne_eqb, lt-ltb, le-ltb, le-leb, lt-leb, cases_lt, cases_eq}
use Rattle.std.specs.List.{Contains}
use Rattle.std.proofs.lemmas.Nat.{or_comm}
use Rattle.pic_world.specs.World.{Schedule}
use Rattle.pic_world.specs.Arrivals.{arriving, flag_bit}
use Rattle.pic_world.specs.declared.Arrival.{Arrival}
use Rattle.pic_world.specs.declared.Event.{Event}
use Rattle.pic_world.proofs.OrLaws.{or_assoc}
use Rattle.schedule.specs.Off.{read_off}
use Rattle.chip_trace.specs.Arriving.{arrived_before}
use Rattle.chip_trace.proofs.Runs.{Extends}

module _ (trace : ℕ → List Event) where
  -- the arrivals before moment n
  abbrev pub read_before : ℕ → List Arrival → List Arrival
  read_before n [] = []
  read_before n (a ∷ arrivals) = if nat_lt a.t n then record a { t = length (trace a.t) } ∷ read_before n arrivals else read_before n arrivals

  abbrev pub before : List Arrival → ℕ → Schedule
  before arrivals n l = arriving (read_before n arrivals) l

  -- a condition, where the numbers are known
  choose : {A : Type 0} (b c : Bool) (x y : A) → b ≡ c → (if b then x else y) ≡ (if c then x else y)
  choose b c x y e = ap (λ z. if z then x else y) e

  le_lt : (a n : ℕ) → nat_le a n ≡ nat_lt a (suc n)
  le_lt a n = ⊎_elim (λ lt. le-leb a n (omega arith) ∙ sym (lt-ltb a (suc n) lt)) (λ ge. lt-leb a n (omega arith) ∙ sym (le-ltb a (suc n) ge)) (cases_lt a (suc n))

  pub off_before : (n : ℕ) (arrivals : List Arrival) → read_off trace n arrivals ≡ read_before (suc n) arrivals
  off_before n [] = refl
  off_before n (a ∷ arrivals) =
      ap (λ (z : List Arrival). if nat_le a.t n then record a { t = length (trace a.t) } ∷ z else z) (off_before n arrivals)
      ∙ ap (λ b. if b then record a { t = length (trace a.t) } ∷ read_before (suc n) arrivals else read_before (suc n) arrivals) (le_lt a.t n)

  pub none_before : (arrivals : List Arrival) (l : ℕ) → before arrivals 0 l ≡ 0
  none_before [] l = refl
  none_before (a ∷ arrivals) l = ap (λ b. arriving (if b then record a { t = length (trace a.t) } ∷ read_before 0 arrivals else read_before 0 arrivals) l) (le-ltb a.t 0 (omega arith)) ∙ none_before arrivals l

  module _ (n : ℕ) where
    -- how one arrival counts
    front : (a : Arrival) (xs : List Arrival) (l : ℕ) (b : Bool) → arriving (if b then record a { t = length (trace a.t) } ∷ xs else xs) l ≡ (if b then (if nat_eq (length (trace a.t)) l then bit_or (flag_bit a.flag) (arriving xs l) else arriving xs l) else arriving xs l)
    front a xs l true = refl
    front a xs l false = refl

    here_case : (f X Y X' : ℕ) (b : Bool) → X' ≡ bit_or X Y → (if b then bit_or f X' else X') ≡ bit_or (if b then bit_or f X else X) Y
    here_case f X Y X' true e = ap (bit_or f) e ∙ sym (or_assoc f X Y)
    here_case f X Y X' false e = e

    now_case : (f X Y X' : ℕ) → X' ≡ bit_or X Y → bit_or f X' ≡ bit_or X (bit_or f Y)
    now_case f X Y X' e = ap (bit_or f) e ∙ sym (or_assoc f X Y) ∙ ap (λ z. bit_or z Y) (or_comm f X) ∙ or_assoc X f Y

    abbrev L : ℕ
    L = length (trace n)

    abbrev list : Bool → Arrival → List Arrival → List Arrival
    list b a xs = if b then record a { t = length (trace a.t) } ∷ xs else xs

    here_on : (a : Arrival) (arrivals : List Arrival) → before arrivals (suc n) L ≡ bit_or (before arrivals n L) (arriving arrivals n)
        → before (a ∷ arrivals) (suc n) L ≡ bit_or (before (a ∷ arrivals) n L) (arriving (a ∷ arrivals) n)
    here_on a arrivals ih = ⊎_elim earlier (λ ge. ⊎_elim now (λ ne. later (omega (arith, ne, ge))) (cases_eq a.t n)) (cases_lt a.t n) where
      left : (b : Bool) → nat_lt a.t (suc n) ≡ b → before (a ∷ arrivals) (suc n) L ≡ arriving (list b a (read_before (suc n) arrivals)) L
      left b e = ap (λ z. arriving (list z a (read_before (suc n) arrivals)) L) e

      right : (b c : Bool) → nat_lt a.t n ≡ b → nat_eq a.t n ≡ c → bit_or (before (a ∷ arrivals) n L) (arriving (a ∷ arrivals) n) ≡ bit_or (arriving (list b a (read_before n arrivals)) L) (if c then bit_or (flag_bit a.flag) (arriving arrivals n) else arriving arrivals n)
      right b c e e2 =
          ap (λ z. bit_or (arriving (list z a (read_before n arrivals)) L) (arriving (a ∷ arrivals) n)) e
          ∙ ap (λ z. bit_or (arriving (list b a (read_before n arrivals)) L) (if z then bit_or (flag_bit a.flag) (arriving arrivals n) else arriving arrivals n)) e2

      earlier : a.t < n → before (a ∷ arrivals) (suc n) L ≡ bit_or (before (a ∷ arrivals) n L) (arriving (a ∷ arrivals) n)
      earlier lt =
          left true (lt-ltb a.t (suc n) (omega arith))
          ∙ here_case (flag_bit a.flag) (before arrivals n L) (arriving arrivals n) (before arrivals (suc n) L) (nat_eq (length (trace a.t)) L) ih
          ∙ sym (right true false (lt-ltb a.t n lt) (ne_eqb a.t n (λ e. absurd (omega (arith, e, lt)))))

      now : a.t ≡ n → before (a ∷ arrivals) (suc n) L ≡ bit_or (before (a ∷ arrivals) n L) (arriving (a ∷ arrivals) n)
      now e =
          left true (lt-ltb a.t (suc n) (omega arith))
          ∙ ap (λ b. if b then bit_or (flag_bit a.flag) (before arrivals (suc n) L) else before arrivals (suc n) L) (eq-eqb (length (trace a.t)) L (ap (λ z. length (trace z)) e))
          ∙ now_case (flag_bit a.flag) (before arrivals n L) (arriving arrivals n) (before arrivals (suc n) L) ih
          ∙ sym (right false true (le-ltb a.t n (omega arith)) (eq-eqb a.t n e))

      later : n < a.t → before (a ∷ arrivals) (suc n) L ≡ bit_or (before (a ∷ arrivals) n L) (arriving (a ∷ arrivals) n)
      later lt =
          left false (le-ltb a.t (suc n) (omega arith)) ∙ ih ∙ sym (right false false (le-ltb a.t n (omega arith)) (ne_eqb a.t n (λ e. absurd (omega (arith, e, lt)))))

    pub here : (arrivals : List Arrival) → before arrivals (suc n) L ≡ bit_or (before arrivals n L) (arriving arrivals n)
    here [] = refl
    here (a ∷ arrivals) = here_on a arrivals (here arrivals)

    same_case : (f X X' : ℕ) (b : Bool) → X' ≡ X → (if b then bit_or f X' else X') ≡ (if b then bit_or f X else X)
    same_case f X X' true e = ap (bit_or f) e
    same_case f X X' false e = e

    other_on : (a : Arrival) (arrivals : List Arrival) (l : ℕ) → l ≢ L → before arrivals (suc n) l ≡ before arrivals n l → before (a ∷ arrivals) (suc n) l ≡ before (a ∷ arrivals) n l
    other_on a arrivals l ne ih = ⊎_elim earlier (λ ge. ⊎_elim now (λ q. later (omega (arith, q, ge))) (cases_eq a.t n)) (cases_lt a.t n) where
      left : (b : Bool) → nat_lt a.t (suc n) ≡ b → before (a ∷ arrivals) (suc n) l ≡ arriving (list b a (read_before (suc n) arrivals)) l
      left b e = ap (λ z. arriving (list z a (read_before (suc n) arrivals)) l) e

      right : (b : Bool) → nat_lt a.t n ≡ b → before (a ∷ arrivals) n l ≡ arriving (list b a (read_before n arrivals)) l
      right b e = ap (λ z. arriving (list z a (read_before n arrivals)) l) e

      earlier : a.t < n → before (a ∷ arrivals) (suc n) l ≡ before (a ∷ arrivals) n l
      earlier lt = left true (lt-ltb a.t (suc n) (omega arith)) ∙ same_case (flag_bit a.flag) (before arrivals n l) (before arrivals (suc n) l) (nat_eq (length (trace a.t)) l) ih ∙ sym (right true (lt-ltb a.t n lt))

      now : a.t ≡ n → before (a ∷ arrivals) (suc n) l ≡ before (a ∷ arrivals) n l
      now e =
          left true (lt-ltb a.t (suc n) (omega arith))
          ∙ ap (λ b. if b then bit_or (flag_bit a.flag) (before arrivals (suc n) l) else before arrivals (suc n) l) (ne_eqb (length (trace a.t)) l (λ q. ne (sym q ∙ ap (λ z. length (trace z)) e)))
          ∙ ih ∙ sym (right false (le-ltb a.t n (omega arith)))

      later : n < a.t → before (a ∷ arrivals) (suc n) l ≡ before (a ∷ arrivals) n l
      later lt = left false (le-ltb a.t (suc n) (omega arith)) ∙ ih ∙ sym (right false (le-ltb a.t n (omega arith)))

    pub other : (arrivals : List Arrival) (l : ℕ) → l ≢ L → before arrivals (suc n) l ≡ before arrivals n l
    other [] l ne = refl
    other (a ∷ arrivals) l ne = other_on a arrivals l ne (other arrivals l ne)

  -- the next moment's schedule goes on from this one's
  pub goes_on : (arrivals : List Arrival) (n : ℕ) → Extends (before arrivals n) (length (trace n)) (arriving arrivals n) (before arrivals (suc n))
  goes_on arrivals n = record { below = λ l lt. other n arrivals l (λ e. absurd (omega (arith, e, lt))); here = here n arrivals }

  pub none_later : (arrivals : List Arrival) (n : ℕ) → ((l : ℕ) → length (trace n) < l → before arrivals n l ≡ 0) → (l : ℕ) → length (trace n) < l → before arrivals (suc n) l ≡ 0
  none_later arrivals n later l lt = other n arrivals l (λ e. absurd (omega (arith, e, lt))) ∙ later l lt

  -- ---- as long as nothing is traced
  pub first_later : (arrivals : List Arrival) (n : ℕ) → ((k : ℕ) → k < n → length (trace k) ≡ 0) → (l : ℕ) → 0 < l → before arrivals n l ≡ 0
  first_later arrivals zero none l lt = none_before arrivals l
  first_later arrivals (suc n) none l lt =
      let e = none n (omega arith) in
      other n arrivals l (λ q. absurd (omega (arith, q, e, lt))) ∙ first_later arrivals n (λ k lk. none k (omega arith)) l lt

  pub first_here : (arrivals : List Arrival) (n : ℕ) → ((k : ℕ) → k < n → length (trace k) ≡ 0) → before arrivals n 0 ≡ arrived_before arrivals n
  first_here arrivals zero none = none_before arrivals 0
  first_here arrivals (suc n) none =
      let e = none n (omega arith) in
      ap (before arrivals (suc n)) (sym e) ∙ here n arrivals ∙ ap (λ z. bit_or (before arrivals n z) (arriving arrivals n)) e ∙ ap (λ z. bit_or z (arriving arrivals n)) (first_here arrivals n (λ k lk. none k (omega arith)))

-- nothing arrives at a moment at which no arrival falls
pub nothing_arrives : (arrivals : List Arrival) (k : ℕ) → ((a : Arrival) → Contains arrivals a → a.t ≢ k) → arriving arrivals k ≡ 0
nothing_arrives [] k f = refl
nothing_arrives (a ∷ arrivals) k f =
    ap (λ b. if b then bit_or (flag_bit a.flag) (arriving arrivals k) else arriving arrivals k) (ne_eqb a.t k (f a (0, omega arith, refl)))
    ∙ nothing_arrives arrivals k (λ b q. f b (suc q.0, (let lt = q.1 in omega arith), q.2))

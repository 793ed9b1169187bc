-- The arrivals, put one by one.
use Rattle.std.specs.Prelude.{if◌then◌else◌, ◌&&◌}
use Rattle.std.proofs.Common.{◌≡◌, ℕ, suc, ◌+◌, ◌-◌, ◌<◌, ◌≤◌, Bool, true, false, nat_lt, nat_le, List, [], ◌∷◌, ◌++◌, length, refl, sym, ap, ◌∙◌, subst, append-nil, append_assoc, arith}
use Rattle.std.proofs.lemmas.Bool.{leb-true, leb-false, le-leb}
use Rattle.pic_world.specs.declared.Arrival.{Arrival}
use Rattle.pic_world.specs.declared.Event.{Event}
use Rattle.pic_world.specs.declared.Flag.{Flag}
use Rattle.pic_world.specs.Arrivals.{IsRising}
use Rattle.pic_chip.specs.Run.{Setting}
use Rattle.schedule.specs.Off.{read_off, lengths_before}
use Rattle.schedule.specs.Putting.{Puts, length_before}
use Rattle.schedule.specs.Watching.{traces}
use Rattle.schedule.proofs.Moments.{trace_longer}

-- ---- of one arrival
abbrev pair : ℕ → Flag → Arrival
pair t flag = record { t = t; flag = flag }

off_at : (trace : ℕ → List Event) (n t events : ℕ) (flag : Flag) (left : List Arrival) → t ≤ n → length (trace t) ≡ events
    → read_off trace n (pair t flag ∷ left) ≡ pair events flag ∷ read_off trace n left
off_at trace n t events flag left within e =
    ap (λ (b : Bool). if b then pair (length (trace t)) flag ∷ read_off trace n left else read_off trace n left) (le-leb t n within)
    ∙ ap (λ (k : ℕ). pair k flag ∷ read_off trace n left) e

before_at : (trace : ℕ → List Event) (n t earlier : ℕ) (flag : Flag) (left : List Arrival) → t ≤ n → length (trace (t - 1)) ≡ earlier
    → lengths_before trace n (pair t flag ∷ left) ≡ length_before t earlier ++ lengths_before trace n left
before_at trace n t earlier flag left within e =
    ap (λ (b : Bool). if nat_lt 0 t && b then length (trace (t - 1)) ∷ lengths_before trace n left else lengths_before trace n left) (le-leb t n within)
    ∙ ap (λ (k : ℕ). if nat_lt 0 t && true then k ∷ lengths_before trace n left else lengths_before trace n left) e
    ∙ by_test (nat_lt 0 t)
  where
    by_test : (b : Bool) → (if b && true then earlier ∷ lengths_before trace n left else lengths_before trace n left) ≡ (if b then earlier ∷ [] else []) ++ lengths_before trace n left
    by_test true = refl
    by_test false = refl

-- ---- of the arrivals at a moment
pub puts_none : (now earlier events : ℕ) (arrivals : List Arrival) (lengths : List Arrival) (before : List ℕ) → IsRising now arrivals → Puts now earlier events arrivals arrivals lengths lengths before before
puts_none now earlier events arrivals lengths before rising = record {
  lengths = λ trace n within e. refl;
  before = λ trace n within e. refl;
  rising = rising;
}

same_time : (now t : ℕ) → now ≤ t → t ≤ now → t ≡ now
same_time now t a b = omega (arith, a, b)

pub puts_one : (now earlier events : ℕ) (arrivals left : List Arrival) (t : ℕ) (flag : Flag) (L K M : List Arrival) (B C D : List ℕ)
    → Puts now earlier events arrivals (pair t flag ∷ left) L K B C → t ≤ now → M ≡ K ++ pair events flag ∷ [] → D ≡ C ++ length_before now earlier
    → Puts now earlier events arrivals left L M B D
puts_one now earlier events arrivals left t flag L K M B C D so_far late m d =
    let is : t ≡ now = same_time now t so_far.rising.0 late in record {
      lengths = λ trace n within e.
          ap (λ (z : List Arrival). z ++ read_off trace n left) m
          ∙ append_assoc K (pair events flag ∷ []) (read_off trace n left)
          ∙ ap (λ (z : List Arrival). K ++ z) (sym (off_at trace n now events flag left within e))
          ∙ ap (λ (k : ℕ). K ++ read_off trace n (pair k flag ∷ left)) (sym is)
          ∙ so_far.lengths trace n within e;
      before = λ trace n within e.
          ap (λ (z : List ℕ). z ++ lengths_before trace n left) d
          ∙ append_assoc C (length_before now earlier) (lengths_before trace n left)
          ∙ ap (λ (z : List ℕ). C ++ z) (sym (before_at trace n now earlier flag left within e))
          ∙ ap (λ (k : ℕ). C ++ lengths_before trace n (pair k flag ∷ left)) (sym is)
          ∙ so_far.before trace n within e;
      rising = subst (λ (k : ℕ). IsRising k left) is so_far.rising.1;
    }

-- the arrivals that are left come later
pub none_later : (now : ℕ) (left : List Arrival) → left ≡ [] → IsRising (now + 1) left
none_later now left e = subst (IsRising (now + 1)) (sym e) tt

pub all_later : (now : ℕ) (left behind : List Arrival) (a : Arrival) → left ≡ a ∷ behind → now < a.t → IsRising now left → IsRising (now + 1) left
all_later now left behind a e late rising =
    let first : now + 1 ≤ a.t = omega (arith, late) in
    subst (IsRising (now + 1)) (sym e) (first, (subst (IsRising now) e rising).1)

-- ---- of all arrivals up to a moment
-- What was put before moment `now` stands for the arrivals that aren't left.
pub record IsPut (g : Setting) (n now : ℕ) (arrivals left : List Arrival) (put : List Arrival) (earlier : List ℕ) : Type 0 where
  pub lengths : put ++ read_off (traces g) n left ≡ read_off (traces g) n arrivals
  pub before : earlier ++ lengths_before (traces g) n left ≡ lengths_before (traces g) n arrivals
  pub rising : IsRising now left

pub put_none : (g : Setting) (n : ℕ) (arrivals left put : List Arrival) (earlier : List ℕ) → left ≡ arrivals → put ≡ [] → earlier ≡ [] → IsRising 0 arrivals → IsPut g n 0 arrivals left put earlier
put_none g n arrivals left put earlier all nothing none rising = record {
  lengths = ap (λ (z : List Arrival). z ++ read_off (traces g) n left) nothing ∙ ap (read_off (traces g) n) all;
  before = ap (λ (z : List ℕ). z ++ lengths_before (traces g) n left) none ∙ ap (lengths_before (traces g) n) all;
  rising = subst (IsRising 0) (sym all) rising;
}

pub put_next : (g : Setting) (n now : ℕ) (arrivals left rest : List Arrival) (L M : List Arrival) (B C : List ℕ) (earlier events : ℕ)
    → IsPut g n now arrivals left L B → now ≤ n → Puts now earlier events left rest L M B C → IsRising (now + 1) rest
    → earlier ≡ length (traces g (now - 1)) → events ≡ length (traces g now) → IsPut g n (now + 1) arrivals rest M C
put_next g n now arrivals left rest L M B C earlier events so_far within puts rising before after = record {
  lengths = puts.lengths (traces g) n within (sym after) ∙ so_far.lengths;
  before = puts.before (traces g) n within (sym before) ∙ so_far.before;
  rising = rising;
}

-- at the last moment
pub put_last : (g : Setting) (n now : ℕ) (arrivals left rest : List Arrival) (L M : List Arrival) (B C : List ℕ) (earlier events : ℕ)
    → IsPut g n now arrivals left L B → now ≡ n → Puts n earlier events left rest L M B C → IsRising (n + 1) rest
    → earlier ≡ length (traces g (now - 1)) → events ≡ length (traces g now) → IsPut g n (n + 1) arrivals rest M C
put_last g n now arrivals left rest L M B C earlier events so_far last puts rising before after =
    let within : n ≤ n = omega arith in
    put_next g n n arrivals left rest L M B C earlier events (subst (λ (k : ℕ). IsPut g n k arrivals left L B) last so_far) within puts rising
    (before ∙ ap (λ (k : ℕ). length (traces g (k - 1))) last) (after ∙ ap (λ (k : ℕ). length (traces g k)) last)

not_within : (n t : ℕ) → n < t → nat_le t n ≡ false
not_within n t late = by_test (nat_le t n) refl
  where
    by_test : (b : Bool) → nat_le t n ≡ b → b ≡ false
    by_test false e = refl
    by_test true e = let l = leb-true t n e in absurd (omega (arith, l, late))

no_off : (trace : ℕ → List Event) (n first : ℕ) (left : List Arrival) → n < first → IsRising first left → read_off trace n left ≡ []
no_off trace n first [] late rising = refl
no_off trace n first (a ∷ left) late rising =
    let first_at = rising.0 in
    let later : n < a.t = omega (arith, late, first_at) in
    ap (λ (b : Bool). if b then record a { t = length (trace a.t) } ∷ read_off trace n left else read_off trace n left) (not_within n a.t later)
    ∙ no_off trace n a.t left later rising.1

no_before : (trace : ℕ → List Event) (n first : ℕ) (left : List Arrival) → n < first → IsRising first left → lengths_before trace n left ≡ []
no_before trace n first [] late rising = refl
no_before trace n first (a ∷ left) late rising =
    let first_at = rising.0 in
    let later : n < a.t = omega (arith, late, first_at) in
    ap (λ (b : Bool). if nat_lt 0 a.t && b then length (trace (a.t - 1)) ∷ lengths_before trace n left else lengths_before trace n left) (not_within n a.t later)
    ∙ neither (nat_lt 0 a.t)
    ∙ no_before trace n a.t left later rising.1
  where
    neither : (b : Bool) → (if b && false then length (trace (a.t - 1)) ∷ lengths_before trace n left else lengths_before trace n left) ≡ lengths_before trace n left
    neither true = refl
    neither false = refl

-- where all were looked at that come up to moment n
pub lengths_all : (g : Setting) (n : ℕ) (arrivals left : List Arrival) (put : List Arrival) (earlier : List ℕ) → IsPut g n (n + 1) arrivals left put earlier → put ≡ read_off (traces g) n arrivals
lengths_all g n arrivals left put earlier done =
    let late : n < n + 1 = omega arith in
    sym (append-nil put) ∙ ap (λ (z : List Arrival). put ++ z) (sym (no_off (traces g) n (n + 1) left late done.rising)) ∙ done.lengths

pub before_all : (g : Setting) (n : ℕ) (arrivals left : List Arrival) (put : List Arrival) (earlier : List ℕ) → IsPut g n (n + 1) arrivals left put earlier → earlier ≡ lengths_before (traces g) n arrivals
before_all g n arrivals left put earlier done =
    let late : n < n + 1 = omega arith in
    sym (append-nil earlier) ∙ ap (λ (z : List ℕ). earlier ++ z) (sym (no_before (traces g) n (n + 1) left late done.rising)) ∙ done.before

-- ---- their order
-- the lengths rise as the moments do
off_rising : (g : Setting) (n at least : ℕ) (arrivals : List Arrival) → least ≤ length (traces g at) → IsRising at arrivals → IsRising least (read_off (traces g) n arrivals)
off_rising g n at least [] low rising = tt
off_rising g n at least (a ∷ arrivals) low rising =
    let longer = trace_longer g at a.t rising.0 in
    let here : least ≤ length (traces g a.t) = omega (arith, low, longer) in
    let same : length (traces g a.t) ≤ length (traces g a.t) = omega arith in
    by_test (nat_le a.t n) here (off_rising g n a.t (length (traces g a.t)) arrivals same rising.1) (off_rising g n a.t least arrivals here rising.1)
  where
    by_test : (b : Bool) → least ≤ length (traces g a.t) → IsRising (length (traces g a.t)) (read_off (traces g) n arrivals) → IsRising least (read_off (traces g) n arrivals)
        → IsRising least (if b then record a { t = length (traces g a.t) } ∷ read_off (traces g) n arrivals else read_off (traces g) n arrivals)
    by_test true here put left = (here, put)
    by_test false here put left = left

pub rising_off : (g : Setting) (n : ℕ) (arrivals lengths : List Arrival) → IsRising 0 arrivals → lengths ≡ read_off (traces g) n arrivals → IsRising 0 lengths
rising_off g n arrivals lengths rising e =
    let low : 0 ≤ length (traces g 0) = omega arith in
    subst (IsRising 0) (sym e) (off_rising g n 0 0 arrivals low rising)

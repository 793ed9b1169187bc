-- Laws of runs of bytes: taken ones, free ones, and how many are taken.
use Rattle.std.proofs.Common.{◌≡◌, ℕ, zero, suc, ◌+◌, ◌-◌, ◌<◌, ◌≤◌, nat_lt, nat_le, ◌⊎◌, inl, inr, Bool, true, false, ◌&&◌, ◌||◌, IsTrue, List, [], ◌∷◌, get_or, replicate, refl, sym, ap, ◌∙◌, subst, arith, add-one, lit≤, if◌then◌else◌}
use Rattle.std.proofs.lemmas.Bool.Decides.{eqb_tells, nat_tests}
use Rattle.live_frames.specs.declared.memory.Span.{Span}
use Rattle.live_frames.specs.Memory.{is_taken, covers, IsFree, IsIn, IsPlace, IsLowestIn, IsFull, IsLowest, AreFull, regions, Stands, HasNoPlace, count_below, counted}

pub none_taken : (n a : ℕ) → get_or (replicate n false) a false ≡ false
none_taken zero a = refl
none_taken (suc n) zero = refl
none_taken (suc n) (suc a) = none_taken n a

-- a run has the bytes from its address to its end
pub covers_tells : (address size x : ℕ) → covers address size x ≡ true → (address ≤ x) × (x < address + size)
covers_tells address size x has = grind (arith, nat_tests)

pub covered_by : (address size x : ℕ) → address ≤ x → x < address + size → covers address size x ≡ true
covered_by address size x low high = grind (arith, nat_tests)

pub not_covered : (address size x : ℕ) → (x < address) ⊎ (address + size ≤ x) → covers address size x ≡ false
not_covered address size x out = grind (arith, nat_tests)

-- one byte more of a run, at its end
covers_more : (address k x : ℕ) → (x ≡ address + k → ⊥) → covers address (k + 1) x ≡ covers address k x
covers_more address k x other = grind (arith, nat_tests)

or_true : (b : Bool) → (true || b) ≡ true
or_true b = refl

-- one byte more of a run is taken, and all others stay as they were
pub taken_more : (address k : ℕ) (first old now : List Bool) → (address + k < 512 → is_taken now (address + k) ≡ true) → ((x : ℕ) → (x ≡ address + k → ⊥) → is_taken now x ≡ is_taken old x) → ((x : ℕ) → x < 512 → is_taken old x ≡ (covers address k x || is_taken first x)) → (x : ℕ) → x < 512 → is_taken now x ≡ (covers address (k + 1) x || is_taken first x)
taken_more address k first old now here others so_far x small =
    elim (eqb_tells x (address + k)) [ inl same ↦ (let e : x ≡ address + k = same.1 in let inside : covers address (k + 1) x ≡ true = covered_by address (k + 1) x (omega (arith, e)) (omega (arith, e)) in ap (is_taken now) e ∙ here (omega (arith, e, small)) ∙ sym (ap (λ (b : Bool). b || is_taken first x) inside)) | inr other ↦ others x other.1 ∙ so_far x small ∙ sym (ap (λ (b : Bool). b || is_taken first x) (covers_more address k x other.1)) ]

-- a run of no bytes takes none
pub none_covered : (address x : ℕ) → covers address 0 x ≡ false
none_covered address x = grind (arith, nat_tests)

false_is_true : (b : Bool) → b ≡ false → IsTrue b → ⊥
false_is_true b isnt holds = cc

-- one address more is no place
pub no_place_more : (taken : ℕ → Type 0) (region : Span) (size k : ℕ) (free : Bool) → free ≡ false → (IsFree taken (region.address + k) size → IsTrue free) → ((b : ℕ) → b < region.address + k → IsPlace taken region size b → ⊥) → (b : ℕ) → b < region.address + (k + 1) → IsPlace taken region size b → ⊥
no_place_more taken region size k free isnt tells so_far b below place =
    elim (eqb_tells b (region.address + k)) [ inl same ↦ (let P : ℕ → Type 0 = λ n. IsFree taken n size in false_is_true free isnt (tells (subst P same.1 place.1))) | inr other ↦ so_far b (omega (arith, other.1, below)) place ]

-- after the last address there is none
pub no_place : (taken : ℕ → Type 0) (region : Span) (size k : ℕ) → size ≤ region.size → region.size - size + 1 ≤ k → ((b : ℕ) → b < region.address + k → IsPlace taken region size b → ⊥) → IsFull taken region size
no_place taken region size k fits past so_far b place = so_far b (omega (arith, fits, past, place.0.1)) place

-- more than the largest region has no place
full : (taken : ℕ → Type 0) (address size more : ℕ) → size < more → IsFull taken (record { address = address; size = size }) more
full taken address size more large b place = omega (arith, large, place.0.0, place.0.1)

pub too_large : (taken : ℕ → Type 0) (size : ℕ) → 96 < size → HasNoPlace taken size
too_large taken size more = (full taken 0x20 0x50 size (omega (arith, more)), (full taken 0xA0 0x50 size (omega (arith, more)), (full taken 0x110 0x60 size more, (full taken 0x190 0x60 size more, tt))))

-- one address more is counted
pub count_none : (test : ℕ → Bool) → count_below test 0 ≡ 0
unfolding count_below
count_none test = refl

pub count_more : (test : ℕ → Bool) (n : ℕ) → count_below test (n + 1) ≡ count_below test n + counted test n
unfolding count_below
count_more test n = rw add-one refl

pub counted_small : (test : ℕ → Bool) (n : ℕ) → counted test n ≤ 1
counted_small test n = elim (test n) as (λ (b : Bool). (if b then 1 else 0) ≤ 1) [ true ↦ lit≤ tt | false ↦ lit≤ tt ]

-- tests that agree on the first n addresses count the same
pub same_count : (test other : ℕ → Bool) (n : ℕ) → ((x : ℕ) → x < n → test x ≡ other x) → count_below test n ≡ count_below other n
unfolding count_below
same_count test other zero same = refl
same_count test other (suc n) same =
    let before : count_below test n ≡ count_below other n = same_count test other n (λ x below. same x (omega (arith, below))) in
    let here : counted test n ≡ counted other n = ap (λ (b : Bool). if b then 1 else 0) (same n (omega arith)) in
    omega (arith, before, here)

-- Where the same bytes below 200h are taken, the same runs of data memory are free.
free_too : (taken other : ℕ → Type 0) → ((x : ℕ) → x < 512 → other x → taken x) → (address size : ℕ) → address + size ≤ 512 → IsFree taken address size → IsFree other address size
free_too taken other back address size small free x low high there = free x low high (back x (omega (arith, high, small)) there)

place_too : (taken other : ℕ → Type 0) → ((x : ℕ) → x < 512 → other x → taken x) → (region : Span) → region.address + region.size ≤ 512 → (size address : ℕ) → IsPlace taken region size address → IsPlace other region size address
place_too taken other back region small size address place = (place.0, free_too taken other back address size (omega (arith, small, place.0.1)) place.1)

full_too : (taken other : ℕ → Type 0) → ((x : ℕ) → x < 512 → taken x → other x) → (region : Span) → region.address + region.size ≤ 512 → (size : ℕ) → IsFull taken region size → IsFull other region size
full_too taken other on region small size full b place = full b (place_too other taken on region small size b place)

lowest_in_too : (taken other : ℕ → Type 0) → ((x : ℕ) → x < 512 → taken x → other x) → ((x : ℕ) → x < 512 → other x → taken x) → (region : Span) → region.address + region.size ≤ 512 → (size address : ℕ) → IsLowestIn taken region size address → IsLowestIn other region size address
lowest_in_too taken other on back region small size address lowest =
    (place_too taken other back region small size address lowest.0, λ b below place. lowest.1 b below (place_too other taken on region small size b place))

-- regions that end in data memory
pub AreSmall : List Span → Type 0
AreSmall [] = Unit {0}
AreSmall (region ∷ rest) = (region.address + region.size ≤ 512) × AreSmall rest

lowest_too : (taken other : ℕ → Type 0) → ((x : ℕ) → x < 512 → taken x → other x) → ((x : ℕ) → x < 512 → other x → taken x) → (list : List Span) → AreSmall list → (size address : ℕ) → IsLowest taken list size address → IsLowest other list size address
unfolding AreSmall
lowest_too taken other on back [] small size address lowest = lowest
lowest_too taken other on back (region ∷ rest) small size address lowest =
    elim lowest [ inl here ↦ inl (lowest_in_too taken other on back region small.0 size address here) | inr later ↦ inr (full_too taken other on region small.0 size later.0, lowest_too taken other on back rest small.1 size address later.1) ]

none_too : (taken other : ℕ → Type 0) → ((x : ℕ) → x < 512 → taken x → other x) → (list : List Span) → AreSmall list → (size : ℕ) → AreFull taken list size → AreFull other list size
unfolding AreSmall
none_too taken other on [] small size full = full
none_too taken other on (region ∷ rest) small size full = (full_too taken other on region small.0 size full.0, none_too taken other on rest small.1 size full.1)

regions_small : AreSmall regions
unfolding AreSmall
regions_small = (lit≤ tt, (lit≤ tt, (lit≤ tt, (lit≤ tt, tt))))

pub stands_too : (taken other : ℕ → Type 0) → ((x : ℕ) → x < 512 → taken x → other x) → ((x : ℕ) → x < 512 → other x → taken x) → (size address : ℕ) → Stands taken size address → Stands other size address
stands_too taken other on back size address stands = (stands.0, λ some. lowest_too taken other on back regions regions_small size address (stands.1 some))

pub no_place_too : (taken other : ℕ → Type 0) → ((x : ℕ) → x < 512 → taken x → other x) → (size : ℕ) → HasNoPlace taken size → HasNoPlace other size
no_place_too taken other on size none = none_too taken other on regions regions_small size none

-- What stands somewhere has none of the bytes that are taken.
free_of : (taken : ℕ → Type 0) (list : List Span) (size address : ℕ) → IsLowest taken list size address → IsFree taken address size
free_of taken [] size address lowest = absurd lowest
free_of taken (region ∷ rest) size address lowest = elim lowest [ inl here ↦ here.0.1 | inr later ↦ free_of taken rest size address later.1 ]

pub stands_free : (taken : ℕ → Type 0) (size address x : ℕ) → Stands taken size address → covers address size x ≡ true → taken x → ⊥
stands_free taken size address x stands has there =
    let within = covers_tells address size x has in
    free_of taken regions size address (stands.1 (omega (arith, within.0, within.1))) x within.0 within.1 there

-- Objects that have addresses have at most 352 bytes together, as many as the regions have; so the start block isn't over a page.
use Rattle.std.proofs.Common.{◌≡◌, ℕ, zero, suc, ◌+◌, ◌<◌, ◌≤◌, ◌⊎◌, inl, inr, ⊎_elim, Bool, true, false, ◌||◌, ◌&&◌, List, [], ◌∷◌, length, take, Some, min, ◌-◌, ◌^◌, refl, ap, ◌∙◌, arith}
use Rattle.std.specs.Prelude.{slice_get, nat_le, nat_lt, if◌then◌else◌}
use Rattle.std.proofs.Math.Nat.{min-eq_left}
use Rattle.std.proofs.lemmas.Option.{slice_get_within}
use Rattle.std.proofs.lemmas.Bool.{cases_lt, and_parts, or_cases, le-leb, lt-ltb, leb-true, ltb-true}
use Rattle.c_typed.specs.Nodes.{capped}
use Rattle.c_typed.specs.Trees.{Program, StaticTree}
use Rattle.c_typed.specs.Types.{type_bytes}
use Rattle.c_typed.specs.Words.{statics_bytes, start_size}
use Rattle.pic_map.specs.MapContent.{ObjectLine}
use Rattle.live_frames.specs.Memory.{covers, count_below, counted, IsLowest, Stands, regions}
use Rattle.ram_place.specs.Placement.{objects_have, IsTaken, AreObjects, ObjectsAreDisjoint}

-- ---- counts
one_more : (test : ℕ → Bool) (n : ℕ) → count_below test (suc n) ≡ count_below test n + counted test n
unfolding count_below
one_more test n = refl

none_yet : (test : ℕ → Bool) → count_below test 0 ≡ 0
unfolding count_below
none_yet test = refl

-- more pass a test that is passed by all that pass another one
more_pass : (f g : ℕ → Bool) (n : ℕ) → ((x : ℕ) → f x ≡ true → g x ≡ true) → count_below f n ≤ count_below g n
more_pass f g zero all = let a = none_yet f in let b = none_yet g in omega (arith, a, b)
more_pass f g (suc n) all =
    let a = one_more f n in
    let b = one_more g n in
    let before = more_pass f g n all in
    let here = at (f n) (g n) (all n) in
    omega (arith, a, b, before, here)
  where
    at : (s t : Bool) → (s ≡ true → t ≡ true) → (if s then 1 else 0) ≤ (if t then 1 else 0)
    at false t h = omega arith
    at true true h = omega arith
    at true false h = absurd (let e = h refl in cc)

-- of two tests that none pass together the counts add up
both_pass : (f g : ℕ → Bool) (n : ℕ) → ((x : ℕ) → f x ≡ true → g x ≡ true → ⊥) → count_below f n + count_below g n ≤ count_below (λ x. f x || g x) n
both_pass f g zero apart = let a = none_yet f in let b = none_yet g in omega (arith, a, b)
both_pass f g (suc n) apart =
    let a = one_more f n in
    let b = one_more g n in
    let c = one_more (λ x. f x || g x) n in
    let before = both_pass f g n apart in
    let here = at (f n) (g n) (apart n) in
    omega (arith, a, b, c, before, here)
  where
    at : (s t : Bool) → (s ≡ true → t ≡ true → ⊥) → (if s then 1 else 0) + (if t then 1 else 0) ≤ (if s || t then 1 else 0)
    at false t h = omega arith
    at true true h = absurd (h refl refl)
    at true false h = omega arith

either_passes : (f g : ℕ → Bool) (n : ℕ) → count_below (λ x. f x || g x) n ≤ count_below f n + count_below g n
either_passes f g zero = let c = none_yet (λ x. f x || g x) in omega (arith, c)
either_passes f g (suc n) =
    let a = one_more f n in
    let b = one_more g n in
    let c = one_more (λ x. f x || g x) n in
    let before = either_passes f g n in
    let here = at (f n) (g n) in
    omega (arith, a, b, c, before, here)
  where
    at : (s t : Bool) → (if s || t then 1 else 0) ≤ (if s then 1 else 0) + (if t then 1 else 0)
    at false t = omega arith
    at true t = omega arith

-- ---- a run of bytes
covered : (a s x : ℕ) → a ≤ x → x < a + s → covers a s x ≡ true
covered a s x low high = ap (λ b. b && nat_lt x (a + s)) (le-leb a x low) ∙ lt-ltb x (a + s) high

low_of : (a s x : ℕ) → covers a s x ≡ true → (a ≤ x) × (x < a + s)
low_of a s x is = let parts = and_parts (nat_le a x) (nat_lt x (a + s)) is in (leb-true a x parts.0, ltb-true x (a + s) parts.1)

-- so many bytes of it lie below an address
reach : (a s n m : ℕ) → m ≤ s → a + m ≤ n → m ≤ count_below (covers a s) n
reach a s zero m low inside = omega (arith, inside)
reach a s (suc n) zero low inside = omega arith
reach a s (suc n) (suc m) low inside =
    let a_step = one_more (covers a s) n in
    ⊎_elim
    (λ (l : a + suc m < suc n). let before = reach a s n (suc m) low (omega (arith, l)) in omega (arith, a_step, before))
    (λ (e : suc n ≤ a + suc m).
    let before = reach a s n m (omega (arith, low)) (omega (arith, inside)) in
    let here = ap (λ (b : Bool). if b then 1 else 0) (covered a s n (omega (arith, inside, e)) (omega (arith, inside, low, e))) in
    let one : counted (covers a s) n ≡ 1 = here in
    omega (arith, a_step, before, one))
    (cases_lt (a + suc m) (suc n))

-- and no more than it has
pub record IsAtMost (a s n : ℕ) : Type 0 where
  pub few : count_below (covers a s) n ≤ s
  pub behind : a ≤ n → count_below (covers a s) n + a ≤ n
  pub before : n ≤ a → count_below (covers a s) n ≡ 0

at_most : (a s n : ℕ) → IsAtMost a s n
at_most a s zero =
    let none = none_yet (covers a s) in
    record { few = omega (arith, none); behind = λ l. omega (arith, none, l); before = λ l. none }
at_most a s (suc n) = by (covers a s n) refl (at_most a s n)
  where
    by : (b : Bool) → covers a s n ≡ b → IsAtMost a s n → IsAtMost a s (suc n)
    by true is earlier =
        let step : count_below (covers a s) (suc n) ≡ count_below (covers a s) n + 1 = one_more (covers a s) n ∙ ap (λ (b : Bool). count_below (covers a s) n + (if b then 1 else 0)) is in
        let inside = low_of a s n is in
        let low = inside.0 in
        let high = inside.1 in
        let most = earlier.behind low in
        record { few = omega (arith, step, most, high); behind = λ l. omega (arith, step, most); before = λ l. absurd (omega (arith, l, low)) }
    by false is earlier =
        let step : count_below (covers a s) (suc n) ≡ count_below (covers a s) n + 0 = one_more (covers a s) n ∙ ap (λ (b : Bool). count_below (covers a s) n + (if b then 1 else 0)) is in
        let few = earlier.few in
        record {
          few = omega (arith, step, few);
          behind = λ l.
              ⊎_elim (λ (m : n < a). let none = earlier.before (omega (arith, m)) in omega (arith, step, none, l)) (λ (m : a ≤ n). let most = earlier.behind m in omega (arith, step, most)) (cases_lt n a);
          before = λ l. let none = earlier.before (omega (arith, l)) in omega (arith, step, none);
        }

few_of : (a s n : ℕ) → count_below (covers a s) n ≤ s
few_of a s n = let most = at_most a s n in most.few

-- ---- objects
abbrev total_size : List ObjectLine → ℕ
total_size [] = 0
total_size (line ∷ lines) = line.size + total_size lines

-- an object that has a byte is one of the list
pub record Holds (lines : List ObjectLine) (x : ℕ) : Type 0 where
  pub number : ℕ
  pub line : ObjectLine
  pub there : slice_get lines number ≡ Some line
  pub has : covers line.address line.size x ≡ true

holder : (lines : List ObjectLine) (x : ℕ) → objects_have lines x ≡ true → Holds lines x
holder [] x is = absurd (cc)
holder (line ∷ lines) x is =
    ⊎_elim (λ l. record { number = 0; line = line; there = refl; has = l }) (λ r. let h = holder lines x r in record { number = suc h.number; line = h.line; there = h.there; has = h.has })
    (or_cases (covers line.address line.size x) (objects_have lines x) is)

later_apart : (line : ObjectLine) (lines : List ObjectLine) → ObjectsAreDisjoint (line ∷ lines) → ObjectsAreDisjoint lines
later_apart line lines apart j k o q differ first second = apart (suc j) (suc k) o q (λ e. differ (same_before j k e)) first second
  where
    same_before : (j k : ℕ) → suc j ≡ suc k → j ≡ k
    same_before j k e = omega (arith, e)

first_apart : (line : ObjectLine) (lines : List ObjectLine) → ObjectsAreDisjoint (line ∷ lines) → (x : ℕ) → covers line.address line.size x ≡ true → objects_have lines x ≡ true → ⊥
first_apart line lines apart x here there =
    let h = holder lines x there in
    apart 0 (suc h.number) line h.line (λ e. not_first h.number e) refl h.there x here h.has
  where
    not_first : (n : ℕ) → 0 ≡ suc n → ⊥
    not_first n e = omega (arith, e)

-- objects that are apart and end within data memory take as many bytes of it as they have
taken_bytes : (lines : List ObjectLine) → ObjectsAreDisjoint lines → ((k : ℕ) (line : ObjectLine) → slice_get lines k ≡ Some line → line.address + line.size ≤ 512) → total_size lines ≤ count_below (objects_have lines) 512
taken_bytes [] apart ends = omega arith
taken_bytes (line ∷ lines) apart ends =
    let here = reach line.address line.size 512 line.size (omega arith) (ends 0 line refl) in
    let later = taken_bytes lines (later_apart line lines apart) (λ k l is. ends (suc k) l is) in
    let both = both_pass (covers line.address line.size) (objects_have lines) 512 (first_apart line lines apart) in
    omega (arith, here, later, both)

-- ---- regions
abbrev in_regions : ℕ → Bool
in_regions x = covers 0x20 0x50 x || (covers 0xA0 0x50 x || (covers 0x110 0x60 x || covers 0x190 0x60 x))

regions_few : (n : ℕ) → count_below in_regions n ≤ 352
regions_few n =
    let first = few_of 0x20 0x50 n in
    let second = few_of 0xA0 0x50 n in
    let third = few_of 0x110 0x60 n in
    let fourth = few_of 0x190 0x60 n in
    let a = either_passes (covers 0x20 0x50) (λ x. covers 0xA0 0x50 x || (covers 0x110 0x60 x || covers 0x190 0x60 x)) n in
    let b = either_passes (covers 0xA0 0x50) (λ x. covers 0x110 0x60 x || covers 0x190 0x60 x) n in
    let c = either_passes (covers 0x110 0x60) (covers 0x190 0x60) n in
    omega (arith, first, second, third, fourth, a, b, c)

-- bytes of something that stands whole in a region
inside : (address size from wide x : ℕ) → (from ≤ address) × (address + size ≤ from + wide) → covers address size x ≡ true → covers from wide x ≡ true
inside address size from wide x is has =
    let within = low_of address size x has in
    let low = within.0 in
    let high = within.1 in
    let begin = is.0 in
    let end = is.1 in
    covered from wide x (omega (arith, low, begin)) (omega (arith, high, end))

either : (a b : Bool) → a ≡ true → (a || b) ≡ true
either a b is = ap (λ x. x || b) is

or_else : (a b : Bool) → b ≡ true → (a || b) ≡ true
or_else true b is = refl
or_else false b is = is

stands_in : (taken : ℕ → Type 0) (size address x : ℕ) → IsLowest taken regions size address → covers address size x ≡ true → in_regions x ≡ true
stands_in taken size address x (inl here) has = either _ _ (inside address size 0x20 0x50 x here.0.0 has)
stands_in taken size address x (inr (full, inl here)) has = or_else (covers 0x20 0x50 x) _ (either _ _ (inside address size 0xA0 0x50 x here.0.0 has))
stands_in taken size address x (inr (full, inr (filled, inl here))) has = or_else (covers 0x20 0x50 x) _ (or_else (covers 0xA0 0x50 x) _ (either _ _ (inside address size 0x110 0x60 x here.0.0 has)))
stands_in taken size address x (inr (full, inr (filled, inr (third, inl here)))) has =
    or_else (covers 0x20 0x50 x) _ (or_else (covers 0xA0 0x50 x) _ (or_else (covers 0x110 0x60 x) _ (inside address size 0x190 0x60 x here.0.0 has)))
stands_in taken size address x (inr (full, inr (filled, inr (third, inr (fourth, none))))) has = absurd none

in_room : (taken : ℕ → Type 0) (size address x : ℕ) → Stands taken size address → covers address size x ≡ true → in_regions x ≡ true
in_room taken zero address x stands has = absurd (let within = low_of address 0 x has in let low = within.0 in let high = within.1 in omega (arith, low, high))
in_room taken (suc n) address x stands has = stands_in taken (suc n) address x (stands.1 (omega arith)) has

-- what stands whole in a region ends in data memory
ends_in : (taken : ℕ → Type 0) (size address : ℕ) → IsLowest taken regions size address → address + size ≤ 512
ends_in taken size address (inl here) = let high = here.0.0.1 in omega (arith, high)
ends_in taken size address (inr (full, inl here)) = let high = here.0.0.1 in omega (arith, high)
ends_in taken size address (inr (full, inr (filled, inl here))) = let high = here.0.0.1 in omega (arith, high)
ends_in taken size address (inr (full, inr (filled, inr (third, inl here)))) = let high = here.0.0.1 in omega (arith, high)
ends_in taken size address (inr (full, inr (filled, inr (third, inr (fourth, none))))) = absurd none

ends_here : (taken : ℕ → Type 0) (size address : ℕ) → Stands taken size address → address + size ≤ 512
ends_here taken zero address stands = let at = stands.0 refl in omega (arith, at)
ends_here taken (suc n) address stands = ends_in taken (suc n) address (stands.1 (omega arith))

-- ---- a program
is_there : {A : Type 0} (xs : List A) (n : ℕ) → n < length xs → (x : A) × (slice_get xs n ≡ Some x)
is_there [] n lt = absurd (omega arith)
is_there (x ∷ xs) zero lt = (x, refl)
is_there (x ∷ xs) (suc n) lt = is_there xs n (omega arith)

sizes_are : (sizes : List ℕ) (statics : List StaticTree) (lines : List ObjectLine) → length lines ≡ length statics
    → ((k : ℕ) (s : StaticTree) (line : ObjectLine) → slice_get statics k ≡ Some s → slice_get lines k ≡ Some line → line.size ≡ type_bytes sizes s.ty.ty) → statics_bytes sizes statics ≡ total_size lines
sizes_are sizes [] [] long each = refl
sizes_are sizes [] (line ∷ lines) long each = absurd (omega (arith, long))
sizes_are sizes (s ∷ statics) [] long each = absurd (omega (arith, long))
sizes_are sizes (s ∷ statics) (line ∷ lines) long each =
    let here = each 0 s line refl refl in
    let later = sizes_are sizes statics lines (omega (arith, long)) (λ k t l first second. each (suc k) t l first second) in
    omega (arith, here, later)

module _ (p : Program) (lines : List ObjectLine) (stand : AreObjects p lines) (whole : length lines ≡ length p.statics) (apart : ObjectsAreDisjoint lines) where
  line_stands : (k : ℕ) (line : ObjectLine) → slice_get lines k ≡ Some line → Stands (IsTaken (take k lines)) line.size line.address
  line_stands k line is =
      let within = slice_get_within lines k line is in
      let s = is_there p.statics k (omega (arith, within, whole)) in
      (stand k s.0 line s.1 is).1

  held_in : (x : ℕ) → objects_have lines x ≡ true → in_regions x ≡ true
  held_in x has = let h = holder lines x has in in_room (IsTaken (take h.number lines)) h.line.size h.line.address x (line_stands h.number h.line h.there) h.has

  pub bytes_few : statics_bytes p.sizes p.statics ≤ 352
  bytes_few =
      let sizes = sizes_are p.sizes p.statics lines whole (λ k s line is there. ap (λ (l : ObjectLine). l.size) (stand k s line is there).0) in
      let have = taken_bytes lines apart (λ k line is. ends_here (IsTaken (take k lines)) line.size line.address (line_stands k line is)) in
      let more = more_pass (objects_have lines) in_regions 512 held_in in
      let few = regions_few 512 in
      omega (arith, sizes, have, more, few)

  pub start_within : capped (start_size p) ≤ 2048
  start_within = let few = bytes_few in below (start_size p) (2 ^ 64 - 1) (omega (arith, few)) (omega arith)
    where
      below : (n most : ℕ) → n ≤ 2048 → 2048 < most → min n most ≤ 2048
      below n most le lt = let e = min-eq_left {n = n} {m = most} (omega (arith, le, lt)) in omega (arith, e, le)

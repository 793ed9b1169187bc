-- What stands below a top stands in the whole memory too; and what stands there stands below a top, if it ends there, and else has no place below it.
use Rattle.std.proofs.Common.{◌≡◌, ℕ, ◌+◌, ◌-◌, ◌<◌, ◌≤◌, ◌⊎◌, inl, inr, true, List, [], ◌∷◌, map, refl, sym, ◌∙◌, arith, lit≤}
use Rattle.std.proofs.lemmas.Bool.{cases_lt}
use Rattle.live_frames.specs.declared.memory.Span.{Span}
use Rattle.live_frames.specs.Memory.{covers, IsFree, IsIn, IsPlace, IsLowestIn, IsFull, IsLowest, AreFull, regions, Stands, HasNoPlace}
use Rattle.live_frames.proofs.FreeRuns.{stands_too, stands_free}
use Rattle.ram_place.specs.Regions.{below, regions_below, StandsBelow, HasNoPlaceBelow}

-- each region ends at or before the next one, and all in data memory
Ascend : ℕ → List Span → Type 0
Ascend n [] = Unit {0}
Ascend n (region ∷ rest) = (n ≤ region.address) × (region.address + region.size ≤ 512) × Ascend (region.address + region.size) rest

regions_ascend : Ascend 0 regions
unfolding Ascend
regions_ascend = (lit≤ tt, lit≤ tt, (lit≤ tt, lit≤ tt, (lit≤ tt, lit≤ tt, (lit≤ tt, lit≤ tt, tt))))

module _ (taken : ℕ → Type 0) (top size : ℕ) where
  -- a place below the top is one of the region, and one of the region that ends there is below the top
  place_within : (region : Span) (b : ℕ) → IsPlace taken (below top region) size b → IsPlace taken region size b
  place_within region b place = let low = place.0.0 in let high = place.0.1 in ((low, omega (arith, low, high)), place.1)

  place_below : (region : Span) (b : ℕ) → b + size ≤ top → IsPlace taken region size b → IsPlace taken (below top region) size b
  place_below region b ends place = let low = place.0.0 in let high = place.0.1 in ((low, omega (arith, low, high, ends)), place.1)

  place_ends : (region : Span) (b : ℕ) → 0 < size → IsPlace taken (below top region) size b → b + size ≤ top
  place_ends region b some place = let low = place.0.0 in let high = place.0.1 in omega (arith, low, high, some)

  full_below : (list : List Span) → AreFull taken list size → AreFull taken (map (below top) list) size
  full_below [] full = tt
  full_below (region ∷ rest) full = (λ b place. full.0 b (place_within region b place), full_below rest full.1)

  -- regions that begin at the top or behind it have nothing below it
  past_full : (n : ℕ) (list : List Span) → Ascend n list → top ≤ n → 0 < size → AreFull taken (map (below top) list) size
  unfolding Ascend
  past_full n [] ascend past some = tt
  past_full n (region ∷ rest) ascend past some =
      let from = ascend.0 in (
        λ b place. let ends = place_ends region b some place in let low = place.0.0 in omega (arith, from, past, some, ends, low),
        past_full (region.address + region.size) rest ascend.2 (omega (arith, from, past)) some,
      )

  lowest_below : (list : List Span) (a : ℕ) → a + size ≤ top → IsLowest taken list size a → IsLowest taken (map (below top) list) size a
  lowest_below [] a ends lowest = lowest
  lowest_below (region ∷ rest) a ends lowest =
      elim lowest [
        | inl here ↦ inl (place_below region a ends here.0, λ b less place. here.1 b less (place_within region b place))
        | inr later ↦ inr ((λ b place. later.0 b (place_within region b place)), lowest_below rest a ends later.1)
      ]

  none_below : (n : ℕ) (list : List Span) (a : ℕ) → Ascend n list → 0 < size → top < a + size → IsLowest taken list size a → AreFull taken (map (below top) list) size
  unfolding Ascend
  none_below n [] a ascend some over lowest = tt
  none_below n (region ∷ rest) a ascend some over lowest =
      elim lowest [
        | inl here ↦ (let high = here.0.0.1 in (
          λ b place. let ends = place_ends region b some place in here.1 b (omega (arith, ends, over)) (place_within region b place),
          past_full (region.address + region.size) rest ascend.2 (omega (arith, high, over)) some,
        ))
        | inr later ↦ ((λ b place. later.0 b (place_within region b place)), none_below (region.address + region.size) rest a ascend.2 some over later.1)
      ]

  -- it begins behind n, ends at the top or before it, and stands so in the whole memory
  lowest_whole : (n : ℕ) (list : List Span) (a : ℕ) → Ascend n list → 0 < size → IsLowest taken (map (below top) list) size a → (n ≤ a) × (a + size ≤ top) × IsLowest taken list size a
  unfolding Ascend
  lowest_whole n [] a ascend some lowest = absurd lowest
  lowest_whole n (region ∷ rest) a ascend some lowest =
      elim lowest [
        | inl here ↦ (
            let from = ascend.0 in
            let low = here.0.0.0 in
            let ends = place_ends region a some here.0 in
            (omega (arith, from, low), ends, inl (place_within region a here.0, λ b less place. here.1 b less (place_below region b (omega (arith, less, ends)) place))))
        | inr later ↦ (
            let from = ascend.0 in
            let on = lowest_whole (region.address + region.size) rest a ascend.2 some later.1 in
            let behind = on.0 in
            let ends = on.1 in (
              omega (arith, from, behind),
              ends,
              inr ((λ b place. let high = place.0.1 in later.0 b (place_below region b (omega (arith, high, behind, ends)) place)), on.2),
            ))
      ]

  pub found_below : (a : ℕ) → (size ≡ 0) ⊎ (a + size ≤ top) → Stands taken size a → StandsBelow top taken size a
  found_below a ends stands = (
    stands.0,
    λ some. elim ends [ inl none ↦ absurd (omega (arith, none, some)) | inr within ↦ lowest_below regions a within (stands.1 some) ],
  )

  pub over_below : (a : ℕ) → 0 < size → top < a + size → Stands taken size a → HasNoPlaceBelow top taken size
  over_below a some over stands = none_below 0 regions a regions_ascend some over (stands.1 some)

  pub lost_below : HasNoPlace taken size → HasNoPlaceBelow top taken size
  lost_below none = full_below regions none

  -- the same of a run of so many bytes, as it is found
  pub span_below : (a count : ℕ) → Stands taken size a × (count ≡ size) × (count ≤ 96) → (count ≡ 0) ⊎ (a + count ≤ top) → StandsBelow top taken size a × (count ≡ size) × (count ≤ 96)
  span_below a count (stands, same, small) ends = (
    found_below a (elim ends [ inl none ↦ inl (sym same ∙ none) | inr within ↦ inr (omega (arith, same, within)) ]) stands,
    same,
    small,
  )

  pub span_over : (a count : ℕ) → Stands taken size a × (count ≡ size) × (count ≤ 96) → (0 < count) × (top < a + count) → HasNoPlaceBelow top taken size
  span_over a count (stands, same, small) (some, over) = over_below a (omega (arith, same, some)) (omega (arith, same, over)) stands

  pub stands_whole : (a : ℕ) → StandsBelow top taken size a → Stands taken size a
  stands_whole a stands = (stands.0, λ some. (lowest_whole 0 regions a regions_ascend some (stands.1 some)).2)

  pub ends_below : (a : ℕ) → 0 < size → StandsBelow top taken size a → a + size ≤ top
  ends_below a some stands = (lowest_whole 0 regions a regions_ascend some (stands.1 some)).1

-- the same where the same bytes are taken
pub below_too : (top : ℕ) (taken other : ℕ → Type 0) → ((x : ℕ) → x < 512 → taken x → other x) → ((x : ℕ) → x < 512 → other x → taken x) → (size a : ℕ) → StandsBelow top taken size a → StandsBelow top other size a
below_too top taken other on back size a stands = (
  stands.0,
  λ some. (found_below other top size a (inr (ends_below taken top size a some stands)) (stands_too taken other on back size a (stands_whole taken top size a stands))).1 some,
)

full_too : (top : ℕ) (taken other : ℕ → Type 0) → ((x : ℕ) → x < 512 → taken x → other x) → (size n : ℕ) (list : List Span) → Ascend n list → AreFull taken (map (below top) list) size → AreFull other (map (below top) list) size
unfolding Ascend
full_too top taken other on size n [] ascend full = tt
full_too top taken other on size n (region ∷ rest) ascend full =
    let most = ascend.1 in (
      λ b place. let high = place.0.1 in full.0 b (place.0, λ x low less there. place.1 x low less (on x (omega (arith, most, high, less)) there)),
      full_too top taken other on size (region.address + region.size) rest ascend.2 full.1,
    )

pub none_below_too : (top : ℕ) (taken other : ℕ → Type 0) → ((x : ℕ) → x < 512 → taken x → other x) → (size : ℕ) → HasNoPlaceBelow top taken size → HasNoPlaceBelow top other size
none_below_too top taken other on size none = full_too top taken other on size 0 regions regions_ascend none

-- what stands below a top has none of the bytes that are taken
pub below_free : (top : ℕ) (taken : ℕ → Type 0) (size a x : ℕ) → StandsBelow top taken size a → covers a size x ≡ true → taken x → ⊥
below_free top taken size a x stands has there = stands_free taken size a x (stands_whole taken top size a stands) has there

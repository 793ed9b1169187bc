-- What is placed below 50h lies from 20h to 4Fh.
use Rattle.std.proofs.Common.{◌≡◌, ℕ, zero, suc, ◌+◌, ◌<◌, ◌≤◌, ◌⊎◌, inl, inr, ⊎_elim, List, [], ◌∷◌, length, take, Some, refl, sym, ap, ◌∙◌, subst, arith}
use Rattle.std.specs.Prelude.{slice_get, Contains}
use Rattle.std.proofs.Math.ListN.{get_or}
use Rattle.std.proofs.lemmas.Bool.{cases_lt}
use Rattle.std.proofs.lemmas.Option.{slice_get-get_or}
use Rattle.c_typed.specs.Trees.{Program}
use Rattle.call_graph.specs.declared.types.FnCopy.{FnCopy}
use Rattle.headline_84a.specs.Second.{IsLow, AreLowLines}
use Rattle.live_frames.specs.Memory.{IsLowest, regions}
use Rattle.live_frames.specs.declared.memory.Span.{Span}
use Rattle.pic_map.specs.MapContent.{ObjectLine, FrameLine}
use Rattle.ram_place.proofs.Below.{ends_below, stands_whole}
use Rattle.ram_place.specs.Placement.{whole_below, IsPlacingIn}
use Rattle.ram_place.specs.Regions.{StandsBelow}

-- ---- one run of bytes
AllBehind : ℕ → List Span → Type 0
AllBehind n [] = Unit {0}
AllBehind n (region ∷ rest) = (n ≤ region.address) × AllBehind n rest

regions_behind : AllBehind 0x20 regions
unfolding AllBehind
regions_behind = (omega arith, (omega arith, (omega arith, (omega arith, tt))))

lowest_behind : (taken : ℕ → Type 0) (n size address : ℕ) (list : List Span) → AllBehind n list → IsLowest taken list size address → n ≤ address
unfolding AllBehind
lowest_behind taken n size address [] all lowest = absurd lowest
lowest_behind taken n size address (region ∷ rest) all lowest =
    let from = all.0 in
    ⊎_elim (λ h. let low = h.0.0.0 in omega (arith, from, low)) (λ h. lowest_behind taken n size address rest all.1 h.1) lowest

stands_low : (taken : ℕ → Type 0) (size address : ℕ) → StandsBelow 0x50 taken size address → IsLow address size
stands_low taken size address stands =
    ⊎_elim
    (λ some. (
      lowest_behind taken 0x20 size address regions regions_behind ((stands_whole taken 0x50 size address stands).1 some),
      ends_below taken 0x50 size address some stands,
    ))
    (λ none. let e : address ≡ 0x20 = stands.0 (omega (arith, none)) in (omega (arith, e), omega (arith, e, none)))
    (cases_lt 0 size)

-- ---- all lines
-- each item of a list is found by its number, and so is that of another one as long
beside : {A B : Type 0} (xs : List A) (ys : List B) (k : ℕ) → length ys ≡ length xs → k < length ys → (x : A) × (slice_get xs k ≡ Some x)
beside [] ys k same below = absurd (omega (arith, same, below))
beside (x ∷ xs) ys k same below = (get_or (x ∷ xs) k x, slice_get-get_or (x ∷ xs) k x (omega (arith, same, below)))

-- an item of a list has a number
found : {A : Type 0} (xs : List A) (x : A) (there : Contains xs x) → slice_get xs there.0 ≡ Some x
found xs x there = slice_get-get_or xs there.0 x there.1 ∙ ap Some there.2

pub low_lines : (p : Program) (copies : List FnCopy) (objects : List ObjectLine) (frames : List FrameLine) → IsPlacingIn (whole_below p 0x50) p copies objects frames → AreLowLines objects frames
low_lines p copies objects frames placing = record {
  objects = λ line there.
      let s = beside p.statics objects there.0 placing.each_object there.1 in
      stands_low _ line.size line.address (placing.objects_stand there.0 s.0 line s.1 (found objects line there)).1;
  frames = λ line there.
      let c = beside copies frames there.0 placing.each_frame there.1 in
      stands_low _ line.size line.address (placing.frames_stand there.0 c.0 line c.1 (found frames line there)).1;
}

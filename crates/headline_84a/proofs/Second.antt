-- The headline on the second chip.
use Rattle.std.proofs.Common.{◌≡◌, ℕ, ◌+◌, ◌-◌, ◌<◌, ◌≤◌, ◌⊎◌, Bool, true, false, List, [], ◌∷◌, map, Some, None, refl, ap, ◌∙◌, arith}
use Rattle.std.specs.Prelude.{if◌then◌else◌, nat_lt, nat_le, not, ◌&&◌, slice_index, Contains}
use Rattle.std.proofs.lemmas.Bool.{ltb-true}
use Rattle.std.proofs.lemmas.Option.{slice_get_within, get_or_from_slice_get}
use Rattle.pic_isa.specs.Lookup.{row_of}
use Rattle.pic_world.specs.declared.Arrival.{Arrival}
use Rattle.pic_world.specs.declared.Cell.TheVariants as cells
use Rattle.pic_world.specs.Arrivals.{arriving}
use Rattle.pic_chip.specs.Instructions.{is_modelled}
use Rattle.pic_chip.specs.Interrupts.{begun}
use Rattle.pic_chip.specs.Run.{object_at, moment}
use Rattle.pic_map.specs.MapContent.{ObjectLine, MapContent, range_of}
use Rattle.chip_84a.specs.declared.Start84.{Start84}
use Rattle.chip_84a.specs.Lockstep.{IsNear, AreAlike}
use Rattle.chip_84a.specs.Port.{IsPorted}
use Rattle.chip_84a.proofs.Whole.{lockstep, modelled_twin}
use Rattle.headline.specs.Headline.{Source, IsFaithfulOn, Follows}
use Rattle.headline.specs.Keeps.{AllStayWithin}
use Rattle.headline.specs.OnChip.{run_of, setting_of, pic16f877a, IsClean}
use Rattle.headline_84a.specs.OnSecondChip.{pic16f84a, IsStart, run_of as second_run_of, setting_of as second_setting_of}
use Rattle.headline_84a.specs.Second.{IsLow, HasAll, SecondIsFaithful}
use Rattle.headline_84a.proofs.Carrying.{carried}
use Rattle.headline_84a.proofs.Chips.{first_is_chip, second_is_chip, moments_beside}
use Rattle.headline_84a.proofs.Near.{near, now_ranged, here, later}
use Rattle.headline_84a.proofs.Starts.{start_of, are_like}

-- ---- no object at 70h to 7Fh
and_off : (b : Bool) → (b && false) ≡ false
and_off true = refl
and_off false = refl

uncovered : (address size k : ℕ) → IsLow address size → (nat_le address (k + 0x70) && nat_lt (k + 0x70) (address + size)) ≡ false
uncovered address size k low = by (nat_lt (k + 0x70) (address + size)) refl where
  by : (b : Bool) → nat_lt (k + 0x70) (address + size) ≡ b → (nat_le address (k + 0x70) && nat_lt (k + 0x70) (address + size)) ≡ false
  by false e = ap (λ b. nat_le address (k + 0x70) && b) e ∙ and_off (nat_le address (k + 0x70))
  by true e = let q = ltb-true (k + 0x70) (address + size) e in let r = low.1 in absurd (omega (arith, q, r))

high_clear : (objects : List ObjectLine) (i : ℕ) → ((line : ObjectLine) → Contains objects line → IsLow line.address line.size) → (k : ℕ) → k < 16 → object_at (map range_of objects) i (k + 0x70) ≡ None
high_clear [] i low k lt = refl
high_clear (line ∷ rest) i low k lt =
    step line.constant (nat_le line.address (k + 0x70) && nat_lt (k + 0x70) (line.address + line.size)) (uncovered line.address line.size k (low line (here line rest)))
    (high_clear rest (i + 1) (λ l is. low l (later line l rest is)) k lt) where
      step : (constant b : Bool) → b ≡ false → object_at (map range_of rest) (i + 1) (k + 0x70) ≡ None
          → (if not constant && b then Some (cells.Static i (k + 0x70 - line.address)) else object_at (map range_of rest) (i + 1) (k + 0x70)) ≡ None
      step true b e more = more
      step false false e more = more
      step false true e more = absurd (cc)

-- ---- the bytes of a line
inside : (address size b : ℕ) → IsLow address size → b < size → (0x20 ≤ address + b) × (address + b < 0x50)
inside address size b low lt = let p = low.0 in let q = low.1 in (omega (arith, p, lt), omega (arith, q, lt))

-- ---- one run
module _ (source : Source) (content : MapContent) (named : ℕ → Bool) (end : ℕ) (image ported : List ℕ) (has : HasAll content named end) (port : IsPorted image ported)
    (within : AllStayWithin source content named end image) (faithful : IsFaithfulOn pic16f877a source content image) where
  follows : (start : Start84) (inputs : List ℕ) (arrivals : List Arrival) → IsStart start → ((k : ℕ) → slice_index inputs k < 256)
      → Follows source content inputs arrivals (pic16f84a.run content ported start inputs arrivals)
  follows start inputs arrivals is small =
      let like = are_like start is in
      let g = setting_of content image (start_of start) inputs arrivals in
      let h = second_setting_of content ported start inputs arrivals in
      let stays = within (start_of start) inputs arrivals like.is_start small in
      let alike : AreAlike g h = record {
        image = port;
        watch = refl;
        inputs = refl;
        arrivals = refl;
        w = like.w;
        fsr = like.fsr;
        flags = like.flags;
        ram = like.ram;
        clear = high_clear content.objects 0 has.low.objects;
      } in
      let close : (k : ℕ) → IsClean source content g k ⊎ ((moment g k).met ≡ false) → IsNear image (begun (arriving arrivals k) (moment g k).state) =
      λ k ok. near content named has.low has.registers end image (begun (arriving arrivals k) (moment g k).state) has.words (now_ranged g like.is_start small k).fsr (stays.begins k ok) in
      carried source content inputs arrivals (run_of g) (second_run_of h) (first_is_chip g) (second_is_chip h)
      (λ n ok. moments_beside g h refl n (lockstep g h alike n (λ k lt. close k (ok k lt))))
      (λ line b there lt. inside line.address line.size b (has.low.objects line there) lt)
      (λ line b there lt. inside line.address line.size b (has.low.frames line there) lt)
      (λ i line there. (i, slice_get_within content.objects i line there, get_or_from_slice_get content.objects i line line there))
      (faithful.runs (start_of start) inputs arrivals like.is_start small)

-- ---- the theorem
pub second : (source : Source) → SecondIsFaithful source
second source content named end image ported has port within faithful = record {
  words = λ at lt. ap is_modelled (port at (omega (arith, lt))) ∙ modelled_twin (row_of (slice_index image at)) ∙ faithful.words at (omega (arith, lt));
  mapped = faithful.mapped;
  main = faithful.main;
  halt = faithful.halt;
  apart = faithful.apart;
  clear_of_objects = faithful.clear_of_objects;
  runs = follows source content named end image ported has port within faithful;
}

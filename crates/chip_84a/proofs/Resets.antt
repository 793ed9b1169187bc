-- Runs of the second chip over a board as runs from reset.
use Rattle.std.proofs.Common.{ℕ, ◌+◌, List, [], ◌∷◌, refl, arith}
use Rattle.pic_world.specs.Arrivals.{arriving}
use Rattle.pic_sim.proofs.Answering.{masks_are_arrivals}
use Rattle.pic_sim.proofs.FromReset.{IsRunOf, begins_by, goes_on_by, goes_on_by_script_by, stops_for_good_by}
use Rattle.pic_sim.specs.FromReset.{arrivals_of}
use Rattle.pic_sim.specs.Going.{HasMasks, HasMasksBy}
use Rattle.chip_84a.specs.Run.{Setting, moment}
use Rattle.chip_84a.specs.Simulated.{second, journey, MasksAreArrivals, BeginsAtReset, GoesOn, GoesOnByScript, StopsForGood}

-- masks that are the same as far as eleven bits go are so as far as three do
fewer_bits : (masks : ℕ → ℕ) (index : ℕ) (xs : List ℕ) → HasMasks masks index xs → HasMasksBy 8 masks index xs
fewer_bits masks index [] h = tt
fewer_bits masks index (x ∷ xs) h = let e = h.0 in (omega (arith, e), fewer_bits masks (index + 1) xs h.1)

pub few_masks : MasksAreArrivals
few_masks index raised = fewer_bits (arriving (arrivals_of index raised)) index raised (masks_are_arrivals index raised)

runs : (g : Setting) → IsRunOf second (journey g)
unfolding moment
runs g k = refl

pub begins : BeginsAtReset
unfolding moment
begins g = begins_by _ (journey g) refl refl

pub goes_on : GoesOn
goes_on g = goes_on_by second (journey g) (runs g)

pub goes_on_by_script : GoesOnByScript
goes_on_by_script g = goes_on_by_script_by second (journey g) (runs g)

pub stops_for_good : StopsForGood
stops_for_good g = stops_for_good_by second (journey g) (runs g)

-- What the processor's fields are to their values.
use Rattle.std.specs.Prelude.{ℕ, Bool, true, false, nat_eq, ◌≡◌, ◌<◌, List, slice_index}
use Rattle.std.proofs.Common.{refl}
use Rattle.pic_world.specs.Bits.{truth}

pub same_truth : (b : Bool) → nat_eq (truth b) 1 ≡ b
same_truth true = refl
same_truth false = refl

-- the eight words of the return stack are addresses of instructions
abbrev pub are_places : List ℕ → Type 0
are_places s =
    (slice_index s 0 < 8192) × (slice_index s 1 < 8192) × (slice_index s 2 < 8192) × (slice_index s 3 < 8192) ×
    (slice_index s 4 < 8192) × (slice_index s 5 < 8192) × (slice_index s 6 < 8192) × (slice_index s 7 < 8192)

-- An image with one byte more.
use Rattle.std.specs.Prelude.{ℕ, ◌+◌, ◌*◌, ◌/◌, ◌%◌, nat_eq, List, if◌then◌else◌, slice_index, slice_set}

-- a low byte at an even address; at an odd one what a word has of the high byte, six bits
abbrev pub with_byte : List ℕ → ℕ → ℕ → List ℕ
with_byte image address byte =
    if nat_eq (address % 2) 0 then slice_set image (address / 2) (256 * (slice_index image (address / 2) / 256) + byte)
    else slice_set image (address / 2) (256 * (byte % 64) + slice_index image (address / 2) % 256)

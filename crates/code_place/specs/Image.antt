-- Words in an image.
use Rattle.std.specs.Prelude.{◌≡◌, ℕ, ◌+◌, ◌<◌, List, [], ◌∷◌, length, slice_index, slice_set}

-- the image with words put one behind the other from an address on
abbrev pub written : List ℕ → ℕ → List ℕ → List ℕ
written image at [] = image
written image at (w ∷ words) = written (slice_set image at w) (at + 1) words

-- the words stand one behind the other from an address on
abbrev pub Holds : List ℕ → ℕ → List ℕ → Type 0
Holds image at words = (k : ℕ) → k < length words → slice_index image (at + k) ≡ slice_index words k

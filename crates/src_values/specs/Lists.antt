-- The bytes of a local that the items of its list have.
use Rattle.std.specs.Prelude.{ℕ, ◌+◌, Bool, true, false, not, ◌&&◌, nat_lt, if◌then◌else◌, List, [], ◌∷◌, zero, suc}
use Rattle.c_typed.specs.Types.{item_start}
use Rattle.c_typed.specs.Trees.{Item}
use Rattle.c_typed.specs.Words.{item_bytes}

abbrev pub covers : List ℕ → Item → ℕ → Bool
covers sizes item at = not (nat_lt at (item_start item)) && nat_lt at (item_start item + item_bytes sizes item)

-- some item of the list has the byte
unfoldable pub is_covered : List ℕ → List Item → ℕ → Bool
is_covered sizes [] at = false
is_covered sizes (item ∷ items) at = if covers sizes item at then true else is_covered sizes items at

-- how many bytes from this one on have an item, of so many
abbrev pub covered_from : List ℕ → List Item → ℕ → ℕ → ℕ
covered_from sizes all at zero = 0
covered_from sizes all at (suc left) = if is_covered sizes all at then covered_from sizes all (at + 1) left + 1 else 0

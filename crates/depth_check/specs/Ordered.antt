-- Where a row stands among rows in rising order of address.
use Rattle.std.specs.Prelude.{ℕ, ◌+◌, Bool, false, nat_eq, nat_lt, if◌then◌else◌, Option, Some, None, List, [], ◌∷◌}
use Rattle.depth_check.specs.declared.Row.{Row}

abbrev pub is_row_before : ℕ → Option Row → Bool
is_row_before at None = false
is_row_before at (Some r) = nat_lt r.at at

-- how many rows stand before the first that isn't below the address
abbrev pub rows_before : List Row → ℕ → ℕ
rows_before [] at = 0
rows_before (r ∷ rows) at = if nat_lt r.at at then 1 + rows_before rows at else 0

-- this row, if it is at the address
abbrev pub row_if : ℕ → Option Row → Option Row
row_if at None = None
row_if at (Some r) = if nat_eq r.at at then Some r else None

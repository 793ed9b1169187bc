-- When blocks of a list stand for copies, by the copies' numbers.
use Rattle.std.specs.Prelude.{ℕ, ◌+◌, nat_eq, Bool, true, ◌&&◌, List, [], ◌∷◌}
use Rattle.sym_code.specs.Effect.{page_bit}
use Rattle.sym_code.specs.declared.code.BlockName.{BlockName}
use Rattle.sym_code.specs.declared.code.BlockName.TheVariants.{Copy}
use Rattle.sym_code.specs.declared.code.PageBit.{PageBit}

-- the pages of two blocks have the same bit
abbrev pub same_bit : (BlockName → ℕ) → PageBit → BlockName → BlockName → Bool
same_bit pages bit a b = nat_eq (page_bit bit (pages a)) (page_bit bit (pages b))

-- the first of a list stands for the copy of this number, the next for that of the next
abbrev pub all_stand : (BlockName → ℕ) → PageBit → ℕ → List BlockName → Bool
all_stand pages bit copy [] = true
all_stand pages bit copy (mate ∷ mates) = same_bit pages bit mate (Copy copy) && all_stand pages bit (copy + 1) mates

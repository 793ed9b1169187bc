-- Byte code whose operators work on bytes of one copy's frame, and on results, which stand in every bank.
use Rattle.std.specs.Prelude.{ℕ, nat_eq, Bool, true, false, ◌&&◌}
use Rattle.core_code.specs.Tree as trees
use Rattle.core_code.specs.Tree.{Tree, Trees}
use Rattle.core_code.specs.declared.code.Byte.{Byte}
use Rattle.core_code.specs.declared.code.Byte.TheVariants as bytes

-- a byte of this copy's frame
abbrev pub is_own : ℕ → Byte → Bool
is_own c (bytes.Frame copy offset) = nat_eq c copy
is_own c _ = false

-- a byte of some frame
abbrev pub is_frames : Byte → Bool
is_frames (bytes.Frame copy offset) = true
is_frames _ = false

-- a byte of this copy's frame, or a result
abbrev pub is_close : ℕ → Byte → Bool
is_close c (bytes.Static object offset) = false
is_close c (bytes.Frame copy offset) = nat_eq c copy
is_close c (bytes.Result root k) = true
is_close c (bytes.Device address) = false

abbrev mutual
  pub works_close : ℕ → Tree → Bool
  works_close c (trees.Binary op ty to left right) = is_close c to && (is_close c left && is_close c right)
  works_close c (trees.Many parts) = all_close c parts
  works_close c (trees.If test size holds fails) = works_close c holds && works_close c fails
  works_close c (trees.Loop body) = works_close c body
  works_close c _ = true

  pub all_close : ℕ → Trees → Bool
  all_close c trees.NoTree = true
  all_close c (trees.AndTree part parts) = works_close c part && all_close c parts

-- What a command makes of faults, and of a line that is to be printed.
use Rattle.std.specs.Prelude.{ℕ, ◌≡◌, ◌≤◌, ◌⊎◌, Bool, true, false, IsTrue, Option, Some, List, ◌++◌, option_map}
use Rattle.host_io.specs.Host.{Kind, PrintsPrefix, IsCounted}

-- ---- faults
-- It fails only where the count of faults rose, or stood at its last value, and keeps the count otherwise.
pub record HasOutcomeCause (kind : Kind) (before now : ℕ) (fails : Bool) : Type 0 where
  pub never_falls : before ≤ now
  pub failed : fails ≡ true → IsCounted kind before now
  pub kept : fails ≡ false → now ≡ before
  pub stays_last : kind.last ≡ Some before → now ≡ before

-- 3 for a fault of the outside, or 9 for want of memory
abbrev pub GivesUp : ℕ → Type 0
GivesUp result = (result ≡ 3) ⊎ (result ≡ 9)

-- ---- a line
-- The line is printed, and the status is this one; or the printing failed, and it is 3, or there was no memory
-- for it, and it is 9.
pub record IsSaid (before now : ℕ) (old new : Option (List ℕ)) (line : List ℕ) (status result : ℕ) : Type 0 where
  pub ends : result ≡ status
  pub printed : new ≡ option_map (λ text. text ++ line) old
  pub kept : now ≡ before

pub record IsUnsaid (kind : Kind) (before now : ℕ) (old new : Option (List ℕ)) (line : List ℕ) (result : ℕ) : Type 0 where
  pub ends : GivesUp result
  pub printed : PrintsPrefix old new line
  pub never_falls : before ≤ now
  pub failed : result ≡ 3 → IsCounted kind before now
  pub no_memory : result ≡ 9 → now ≡ before
  pub stays_last : kind.last ≡ Some before → now ≡ before
  pub unsound : IsTrue kind.is_sound → result ≡ 9

abbrev pub Says : Kind → ℕ → ℕ → Option (List ℕ) → Option (List ℕ) → List ℕ → ℕ → ℕ → Type 0
Says kind before now old new line status result = IsSaid before now old new line status result ⊎ IsUnsaid kind before now old new line result

-- The line comes last, with this status; or the printing of it failed, or memory for it was wanting, and a prefix of it is there.
abbrev pub IsLast : ℕ → List ℕ → Option (List ℕ) → Option (List ℕ) → ℕ → Type 0
IsLast status line old new result = ((result ≡ status) × (new ≡ option_map (λ text. text ++ line) old)) ⊎ (GivesUp result × PrintsPrefix old new line)

-- ---- what a command prints in all, by how it can end
-- the whole text of an end with this status, where it gives up neither for a fault nor for want of memory; a prefix of one
-- where it does
pub record Prints {E : Type 0} (status_of : E → ℕ) (IsText : E → List ℕ → Type 0) (old new : Option (List ℕ)) (result : ℕ) : Type 0 where
  pub whole : GivesUp result ⊎ ((ended : E) × (text : List ℕ) × (status_of ended ≡ result) × IsText ended text × (new ≡ option_map (λ t. t ++ text) old))
  pub prefix : GivesUp result → (ended : E) × (text : List ℕ) × IsText ended text × PrintsPrefix old new text

-- The contents of files, and those of scripts.
use Rattle.std.specs.Prelude.{ℕ, ◌≡◌, ◌<◌, ◌≤◌, Some, List, length}
use Rattle.host_io.specs.Host.{Contents}
use Rattle.schedule.specs.ScriptFile.{ScriptContent, IsScriptFile, IsFirstBadLine}

-- a name has a content of which this holds
abbrev pub IsFile : Contents → List ℕ → (List ℕ → Type 0) → Type 0
IsFile old name Of = (bytes : List ℕ) × (old name ≡ Some bytes) × Of bytes

-- the most bytes of a script
abbrev pub longest_script : ℕ
longest_script = 4194304

pub record IsScript (bytes : List ℕ) : Type 0 where
  pub short : length bytes ≤ longest_script
  pub content : ScriptContent
  pub file : IsScriptFile bytes content

-- it isn't too long, and its first bad line has this number
pub record HasBadLine (line : ℕ) (bytes : List ℕ) : Type 0 where
  pub short : length bytes ≤ longest_script
  pub first : IsFirstBadLine bytes line
  pub none : (content : ScriptContent) → IsScriptFile bytes content → ⊥

abbrev pub IsLong : List ℕ → Type 0
IsLong bytes = longest_script < length bytes

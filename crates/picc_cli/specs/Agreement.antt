-- How a comparison ends: what is known of its files, what it prints, and its exit status.
use Rattle.std.specs.Prelude.{ℕ, ◌≡◌, ◌⊎◌, Bool, true, false, IsTrue, Option, List, [], ◌∷◌, ◌++◌, codes, decimal, option_map}
use Rattle.host_io.specs.Host.{Kind, Contents, Lacks}
use Rattle.picc_core.specs.Answers.{Tells}
use Rattle.picc_core.specs.Decided.{IsAcceptedText}
use Rattle.picc_cli.specs.declared.comparing.Ended.{Ended}
use Rattle.picc_cli.specs.declared.comparing.Ended.TheVariants.{Same, Undefined, Refused, CannotReadText, NoScript, NoMemory}
use Rattle.picc_cli.specs.declared.inputs.FileEnd.TheVariants.{CannotRead}
use Rattle.picc_cli.specs.Command.{Asked, Compared}
use Rattle.picc_cli.specs.Inputs as inputs
use Rattle.picc_cli.specs.Lines.{cannot_read, undefined_line}
use Rattle.picc_cli.specs.Refusals.{refusal_line}
use Rattle.picc_cli.specs.RunsTold.{IsExact, Runs}
use Rattle.host_lines.specs.Said.{GivesUp, IsLast, Prints}
use Rattle.picc_cli.specs.ScriptInput.{IsScript}
use Rattle.picc_cli.specs.Trace.{Reads}

-- ---- faults
-- a file that is to be read has no content
abbrev pub LacksFile : Compared → Option Contents → Type 0
LacksFile asked old = Lacks old asked.input ⊎ Lacks old asked.script

abbrev pub is_fault : Ended → Bool
is_fault (Same events) = false
is_fault (Undefined kind line) = false
is_fault (Refused refusal) = false
is_fault CannotReadText = true
is_fault (NoScript end) = inputs.is_fault end
is_fault NoMemory = false

-- a comparison of runs can end so
abbrev pub IsRunEnd : Ended → Type 0
IsRunEnd (Same events) = Unit {0}
IsRunEnd (Undefined kind line) = Unit {0}
IsRunEnd (Refused refusal) = Unit {0}
IsRunEnd CannotReadText = ⊥
IsRunEnd (NoScript end) = ⊥
IsRunEnd NoMemory = Unit {0}

-- what is known of the text where a comparison of its runs ended so
abbrev pub RunKnows : List ℕ → Ended → Type 0
RunKnows text (Same events) = IsAcceptedText text
RunKnows text (Undefined kind line) = IsAcceptedText text
RunKnows text (Refused refusal) = Tells text refusal
RunKnows text CannotReadText = ⊥
RunKnows text (NoScript end) = ⊥
RunKnows text NoMemory = Unit {0}

-- ---- the printed line and the status
abbrev pub agree_line : ℕ → List ℕ
agree_line events = codes "agree " ++ decimal events ++ 10 ∷ []

abbrev pub last_line : Compared → Ended → List ℕ
last_line asked (Same events) = agree_line events
last_line asked (Undefined kind line) = undefined_line asked.input kind line
last_line asked (Refused refusal) = refusal_line asked.input refusal
last_line asked CannotReadText = cannot_read asked.input
last_line asked (NoScript end) = inputs.line_of asked.script end
last_line asked NoMemory = []

abbrev pub status_of : Ended → ℕ
status_of (Same events) = 0
status_of (Undefined kind line) = 4
status_of (Refused refusal) = 1
status_of CannotReadText = 3
status_of (NoScript end) = inputs.status_of end
status_of NoMemory = 9

-- It ended at the first file that has no content: the text comes before the script.
abbrev pub EndsAtMissing : Compared → Option Contents → Ended → Type 0
EndsAtMissing asked old ended =
    ((ended ≡ CannotReadText) × Lacks old asked.input) ⊎ ((ended ≡ NoScript CannotRead) × (Lacks old asked.input → ⊥) × Lacks old asked.script)

-- Over a sound host a fault is a file without a content, and each is one, where memory suffices up to it.
pub record FailsWithoutFiles (kind : Kind) (old : Option Contents) (asked : Compared) (ended : Ended) : Type 0 where
  pub only : IsTrue kind.is_sound → is_fault ended ≡ true → EndsAtMissing asked old ended
  pub missing : IsTrue kind.is_sound → LacksFile asked old → GivesUp (status_of ended)

-- the whole text of a comparison that ends so is its last line
abbrev pub IsText : Compared → Ended → List ℕ → Type 0
IsText asked ended text = text ≡ last_line asked ended

-- the line of the first file that has no content
abbrev pub TellsMissing : Compared → Option Contents → Option (List ℕ) → Option (List ℕ) → Type 0
TellsMissing asked files old new =
    (Lacks files asked.input × (new ≡ option_map (λ t. t ++ cannot_read asked.input) old))
    ⊎ ((Lacks files asked.input → ⊥) × Lacks files asked.script × (new ≡ option_map (λ t. t ++ cannot_read asked.script) old))

pub record AgreementPrints (kind : Kind) (asked : Compared) (files : Option Contents) (old new : Option (List ℕ)) (result : ℕ) : Type 0 where
  pub prints : Prints status_of (IsText asked) old new result
  -- over a sound host, where only files can be missing, the line says which
  pub sound : IsTrue kind.is_sound → result ≡ 3 → TellsMissing asked files old new

-- ---- what is known of the files
abbrev pub files_of : Compared → Asked
files_of asked = record { input = asked.input; script = asked.script; steps = asked.instructions }

-- What is known of the files of a comparison that ended so.
abbrev pub Knows : Compared → Contents → Ended → Type 0
Knows asked old (Same events) = Reads (files_of asked) old IsAcceptedText IsScript
Knows asked old (Undefined kind line) = Reads (files_of asked) old IsAcceptedText IsScript
Knows asked old (Refused refusal) = Reads (files_of asked) old (λ text. Tells text refusal) IsScript
Knows asked old (NoScript end) = inputs.HasNoScript old asked.script end
Knows asked old CannotReadText = Unit {0}
Knows asked old NoMemory = Unit {0}

-- With this status, and with these bytes printed, a comparison ended so, and what it told of the runs is just what is to be told.
pub record AgreementTells (Tell : Runs) (asked : Compared) (old : Contents) (before after : Option (List ℕ)) (result : ℕ) : Type 0 where
  pub ended : Ended
  pub knows : Knows asked old ended
  pub exact : IsExact Tell asked old ended
  pub last : IsLast (status_of ended) (last_line asked ended) before after result

-- How a build ends: what it makes of the files, what it prints, and its exit status.
use Rattle.std.specs.Prelude.{ℕ, ◌≡◌, ◌≤◌, ◌⊎◌, Bool, true, false, IsTrue, Option, Some, List, [], ◌∷◌, ◌++◌, length, take, codes}
use Rattle.host_io.specs.Host.{Kind, Contents, put, Lacks}
use Rattle.picc_cli.specs.declared.building.Outcome.{Outcome}
use Rattle.picc_cli.specs.declared.building.Outcome.TheVariants.{Built, Refused, Register, CannotRead, CannotWriteHex, CannotWriteMap, NoMemory}
use Rattle.picc_core.specs.Answers.{TellsBy}
use Rattle.picc_core.specs.Compiled.{Build, IsForeignBy, plain}
use Rattle.picc_core.specs.SecondChip.{second}
use Rattle.pic_chip.specs.declared.profile.Profile.{Profile}
use Rattle.pic_chip.specs.declared.profile.Profile.TheVariants.{Pic16F877a, Pic16F84a}
use Rattle.picc_cli.specs.Command.{Names}
use Rattle.picc_cli.specs.Lines.{cannot_read}
use Rattle.picc_cli.specs.Refusals.{refusal_line, register_line}

-- ---- the files
-- What is known of a text and of the texts of the two outputs.
abbrev pub Files : Type 1
Files = List ℕ → List ℕ → List ℕ → Type 0

-- the two outputs have the files of the input's text; all other names are as before
pub record Builds (Are : Files) (names : Names) (old : Contents) (new : Option Contents) : Type 0 where
  pub text : List ℕ
  pub hex : List ℕ
  pub map : List ℕ
  pub read : old names.input ≡ Some text
  pub built : Are text hex map
  pub files : new ≡ Some (put names.map map (put names.output hex old))

-- Why a text isn't built: it is refused by what the build accepts, and the refusal tells this of the text; or it names a register on this line that
-- the chip doesn't have.
abbrev pub TellsWhyBy : Build → List ℕ → Outcome → Type 0
TellsWhyBy b text (Refused refusal) = TellsBy b.RefusesFirst text refusal
TellsWhyBy b text (Register line) = IsForeignBy b text line
TellsWhyBy b text _ = ⊥

-- the build for a chip
abbrev pub build_for : Profile → Build
build_for Pic16F877a = plain
build_for Pic16F84a = second

-- the input is refused for this reason, and every file is as before
pub record RefusesBy (b : Build) (why : Outcome) (names : Names) (old : Contents) (new : Option Contents) : Type 0 where
  pub text : List ℕ
  pub read : old names.input ≡ Some text
  pub tells : TellsWhyBy b text why
  pub files : new ≡ Some old

abbrev pub Refuses : Outcome → Names → Contents → Option Contents → Type 0
Refuses why names = RefusesBy (build_for names.chip) why names

-- the HEX has a prefix of its bytes, or all of them and the map a prefix
pub record BuildsPartly (Are : Files) (names : Names) (old : Contents) (new : Option Contents) : Type 0 where
  pub text : List ℕ
  pub hex : List ℕ
  pub map : List ℕ
  pub read : old names.input ≡ Some text
  pub built : Are text hex map
  pub files : ((n : ℕ) × (n ≤ length hex) × (new ≡ Some (put names.output (take n hex) old)))
      ⊎ ((n : ℕ) × (n ≤ length map) × (new ≡ Some (put names.map (take n map) (put names.output hex old))))

-- every file is as before, or the outputs have prefixes of their bytes
abbrev pub BreaksOff : Files → Names → Contents → Option Contents → Type 0
BreaksOff Are names old new = (new ≡ Some old) ⊎ BuildsPartly Are names old new

abbrev pub WorkedOn : Files → Outcome → Names → Contents → Option Contents → Type 0
WorkedOn Are Built names old new = Builds Are names old new
WorkedOn Are (Refused refusal) names old new = Refuses (Refused refusal) names old new
WorkedOn Are (Register line) names old new = Refuses (Register line) names old new
WorkedOn Are CannotRead names old new = new ≡ Some old
WorkedOn Are CannotWriteHex names old new = BreaksOff Are names old new
WorkedOn Are CannotWriteMap names old new = BreaksOff Are names old new
WorkedOn Are NoMemory names old new = BreaksOff Are names old new

-- ---- faults
abbrev pub is_fault : Outcome → Bool
is_fault Built = false
is_fault (Refused refusal) = false
is_fault (Register line) = false
is_fault NoMemory = false
is_fault CannotRead = true
is_fault CannotWriteHex = true
is_fault CannotWriteMap = true

-- over a sound host it fails exactly where the input has no content
pub record FailsWithoutInput (kind : Kind) (old : Option Contents) (input : List ℕ) (outcome : Outcome) : Type 0 where
  pub only : IsTrue kind.is_sound → is_fault outcome ≡ true → (outcome ≡ CannotRead) × Lacks old input
  pub always : IsTrue kind.is_sound → Lacks old input → outcome ≡ CannotRead

-- ---- the printed line and the status
abbrev pub line_of : Names → Outcome → List ℕ
line_of names Built = []
line_of names NoMemory = []
line_of names (Refused refusal) = refusal_line names.input refusal
line_of names (Register line) = register_line names.input line
line_of names CannotRead = cannot_read names.input
line_of names CannotWriteHex = codes "cannot write " ++ (names.output ++ 10 ∷ [])
line_of names CannotWriteMap = codes "cannot write " ++ (names.map ++ 10 ∷ [])

abbrev pub status_of : Outcome → ℕ
status_of Built = 0
status_of (Refused refusal) = 1
status_of (Register line) = 1
status_of CannotRead = 3
status_of CannotWriteHex = 3
status_of CannotWriteMap = 3
status_of NoMemory = 9

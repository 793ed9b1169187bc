-- What the exit status of a command says.
use Rattle.std.specs.Prelude.{ℕ, ◌≡◌, ◌<◌, ◌≤◌, ◌⊎◌, IsTrue, Option, Some, None, List, ◌++◌, option_map}
use Rattle.host_io.specs.Host.{Kind, Contents, Lacks, PrintsPrefix, IsCounted}
use Rattle.picc_core.specs.Answers.{Tells}
use Rattle.picc_core.specs.Compiled as builds
use Rattle.picc_core.specs.Decided.{IsAcceptedBy, IsAcceptedText}
use Rattle.picc_core.specs.declared.refusal.Refusal.{Refusal}
use Rattle.picc_cli.specs.declared.building.Outcome.{Outcome}
use Rattle.picc_cli.specs.declared.tracing.Ended.{Ended}
use Rattle.picc_cli.specs.Agreement as agreement
use Rattle.picc_cli.specs.Built.{IsBuiltBy}
use Rattle.picc_cli.specs.Checked.{CheckPrints, CheckTells, CheckCompletes}
use Rattle.picc_cli.specs.Chip as chip
use Rattle.picc_cli.specs.Command.{Names, Asked, Compared, Form, Build, Trace, Simulate, Agree, Generate, Check}
use Rattle.picc_cli.specs.Lines.{usage_line, cannot_read}
use Rattle.picc_cli.specs.Outcome as build
use Rattle.picc_cli.specs.Outcome.{Files, Builds, RefusesBy, BreaksOff, TellsWhyBy, build_for}
use Rattle.picc_cli.specs.RunsTold.{RunsTell}
use Rattle.host_lines.specs.Said.{GivesUp}
use Rattle.picc_cli.specs.Simulation.{SimulationCompletes}
use Rattle.picc_cli.specs.Summary.{generated_text, GenerationTells}
use Rattle.picc_cli.specs.Trace as trace
use Rattle.picc_cli.specs.ScriptInput.{IsScript}
use Rattle.picc_cli.specs.Trace.{Knows, IsTraceText}

-- ---- the files, where the host tells what they held before
-- Of a build: what its files are said to be is the promise (`IsBuiltBy`), or that the passes made them besides (`files_for`).
pub record BuildHasFilesBy (b : builds.Build) (Are : Files) (names : Names) (old : Contents) (new : Option Contents) (result : ℕ) : Type 0 where
  pub built : result ≡ 0 → Builds Are names old new
  pub refused : result ≡ 1 → (why : Outcome) × RefusesBy b why names old new
  pub broken : GivesUp result → BreaksOff Are names old new

abbrev pub BuildHasFiles : Files → Names → Contents → Option Contents → ℕ → Type 0
BuildHasFiles Are names = BuildHasFilesBy (build_for names.chip) Are names

-- Only a build writes files.
abbrev pub HasFiles : Option Form → Contents → Option Contents → ℕ → Type 0
HasFiles None old new result = new ≡ Some old
HasFiles (Some (Build names)) old new result = BuildHasFiles (IsBuiltBy (build_for names.chip)) names old new result
HasFiles (Some (Trace asked)) old new result = new ≡ Some old
HasFiles (Some (Simulate asked)) old new result = new ≡ Some old
HasFiles (Some (Agree asked)) old new result = new ≡ Some old
HasFiles (Some (Generate functions)) old new result = new ≡ Some old
HasFiles (Some (Check hex)) old new result = new ≡ Some old

-- ---- the faults of the outside
-- a file that the command comes to has no content
abbrev pub LacksFile : Option Form → Option Contents → Type 0
LacksFile None old = ⊥
LacksFile (Some (Build names)) old = Lacks old names.input
LacksFile (Some (Trace asked)) old = Lacks old asked.input ⊎ Lacks old asked.script
LacksFile (Some (Simulate asked)) old = chip.LacksFile asked old
LacksFile (Some (Agree asked)) old = agreement.LacksFile asked old
LacksFile (Some (Generate functions)) old = ⊥
LacksFile (Some (Check hex)) old = Lacks old hex

-- 3 is answered only for a fault, and each of them is answered
pub record HasFaults (kind : Kind) (before now : ℕ) (form : Option Form) (old : Option Contents) (result : ℕ) : Type 0 where
  pub never_falls : before ≤ now
  pub only : result ≡ 3 → IsCounted kind before now
  pub each : before < now → GivesUp result
  -- over a sound host 3 is answered exactly where a file has no content
  pub sound : IsTrue kind.is_sound → result ≡ 3 → LacksFile form old
  pub missing : IsTrue kind.is_sound → LacksFile form old → GivesUp result

-- ---- which statuses there are, whatever the host tells
abbrev pub IsStatus : Option Form → ℕ → Type 0
IsStatus None result = (result ≡ 2) ⊎ GivesUp result
IsStatus (Some (Build names)) result = (result ≡ 0) ⊎ ((result ≡ 1) ⊎ GivesUp result)
IsStatus (Some (Trace asked)) result = (result ≡ 0) ⊎ ((result ≡ 1) ⊎ ((result ≡ 4) ⊎ ((result ≡ 5) ⊎ GivesUp result)))
IsStatus (Some (Simulate asked)) result = (result ≡ 0) ⊎ ((result ≡ 5) ⊎ ((result ≡ 6) ⊎ GivesUp result))
IsStatus (Some (Agree asked)) result = (result ≡ 0) ⊎ ((result ≡ 1) ⊎ ((result ≡ 4) ⊎ ((result ≡ 5) ⊎ GivesUp result)))
IsStatus (Some (Generate functions)) result = (result ≡ 0) ⊎ GivesUp result
IsStatus (Some (Check hex)) result = (result ≡ 0) ⊎ ((result ≡ 5) ⊎ ((result ≡ 7) ⊎ GivesUp result))

pub record HasStatus (form : Option Form) (result : ℕ) : Type 0 where
  pub known : IsStatus form result
  -- 2 is answered exactly where the words are of no form
  pub usage : result ≡ 2 → form ≡ None
  pub no_form : form ≡ None → (result ≡ 2) ⊎ GivesUp result

-- ---- the printed text
-- this text with this status, or a prefix of it where the printing failed
pub record TextPrints (text : List ℕ) (status : ℕ) (old new : Option (List ℕ)) (result : ℕ) : Type 0 where
  pub whole : result ≡ status → new ≡ option_map (λ t. t ++ text) old
  pub prefix : GivesUp result → PrintsPrefix old new text

pub record BuildPrints (kind : Kind) (names : Names) (old new : Option (List ℕ)) (result : ℕ) : Type 0 where
  pub nothing : result ≡ 0 → new ≡ old
  -- the line of a refusal
  pub error : result ≡ 1 → (why : Outcome) × (build.status_of why ≡ 1) × (new ≡ option_map (λ text. text ++ build.line_of names why) old)
  -- the whole line that is due, or a prefix of it where the printing failed
  pub prefix : GivesUp result → (outcome : Outcome) × PrintsPrefix old new (build.line_of names outcome)
  -- over a sound host, where only the input can be missing, the line says so
  pub sound : IsTrue kind.is_sound → result ≡ 3 → new ≡ option_map (λ text. text ++ cannot_read names.input) old

pub record TracePrints (kind : Kind) (asked : Asked) (files : Option Contents) (old new : Option (List ℕ)) (result : ℕ) : Type 0 where
  -- the lines of events and the last line, of a trace that ends with this status
  pub whole : GivesUp result ⊎ ((ended : Ended) × (text : List ℕ) × (trace.status_of ended ≡ result) × IsTraceText asked ended text × (new ≡ option_map (λ t. t ++ text) old))
  -- or a prefix of them
  pub prefix : GivesUp result → (ended : Ended) × (text : List ℕ) × IsTraceText asked ended text × PrintsPrefix old new text
  -- over a sound host, where only files can be missing, the line says which
  pub sound : IsTrue kind.is_sound → result ≡ 3
      → (Lacks files asked.input × (new ≡ option_map (λ text. text ++ cannot_read asked.input) old))
      ⊎ (Lacks files asked.script × (new ≡ option_map (λ text. text ++ cannot_read asked.script) old))

abbrev pub HasPrinted : Kind → Option Form → Option Contents → Option (List ℕ) → Option (List ℕ) → ℕ → Type 0
HasPrinted kind None files old new result = TextPrints usage_line 2 old new result
HasPrinted kind (Some (Build names)) files old new result = BuildPrints kind names old new result
HasPrinted kind (Some (Trace asked)) files old new result = TracePrints kind asked files old new result
HasPrinted kind (Some (Simulate asked)) files old new result = chip.SimulationPrints kind asked files old new result
HasPrinted kind (Some (Agree asked)) files old new result = agreement.AgreementPrints kind asked files old new result
HasPrinted kind (Some (Generate functions)) files old new result = TextPrints (generated_text functions) 0 old new result
HasPrinted kind (Some (Check hex)) files old new result = CheckPrints kind hex old new result

-- ---- where the host tells both
-- the line that is printed is that of a refusal that holds of the text
pub record BuildTells (b : builds.Build) (names : Names) (old : Contents) (new : Option Contents) (before after : Option (List ℕ)) : Type 0 where
  pub why : Outcome
  pub refuses : RefusesBy b why names old new
  pub printed : after ≡ option_map (λ text. text ++ build.line_of names why) before

-- what is printed holds of the text and of the script
pub record TraceTells (asked : Asked) (old : Contents) (before after : Option (List ℕ)) (result : ℕ) : Type 0 where
  pub ended : Ended
  pub text : List ℕ
  pub status : trace.status_of ended ≡ result
  pub knows : Knows asked old ended
  pub whole : IsTraceText asked ended text
  pub printed : after ≡ option_map (λ t. t ++ text) before

abbrev pub HasTold : Option Form → Contents → Option Contents → Option (List ℕ) → Option (List ℕ) → ℕ → Type 0
HasTold None old new before after result = Unit {0}
HasTold (Some (Build names)) old new before after result = result ≡ 1 → BuildTells (build_for names.chip) names old new before after
HasTold (Some (Trace asked)) old new before after result = GivesUp result ⊎ TraceTells asked old before after result
HasTold (Some (Agree asked)) old new before after result = agreement.AgreementTells RunsTell asked old before after result
HasTold (Some (Check hex)) old new before after result = CheckTells hex old before after result
-- what a simulation does is told with its board (HasSimulated)
HasTold (Some (Simulate asked)) old new before after result = Unit {0}
HasTold (Some (Generate functions)) old new before after result = result ≡ 0 → GenerationTells functions

-- ---- without a fault and with memory enough, each command ends as it is to end
-- some refusal holds of the text
abbrev pub IsRefusedText : List ℕ → Type 0
IsRefusedText text = (refusal : Refusal) × Tells text refusal

-- it isn't built, for some reason
abbrev pub IsRefusedTextBy : builds.Build → List ℕ → Type 0
IsRefusedTextBy b text = (why : Outcome) × TellsWhyBy b text why

-- An accepted text is built, and one that is refused for some reason isn't. Unless memory runs out one of the two comes, and the status
-- says which.
pub record BuildCompletes (b : builds.Build) (names : Names) (old : Contents) (result : ℕ) : Type 0 where
  pub ends : (text : List ℕ) → old names.input ≡ Some text → ((result ≡ 0) × IsAcceptedBy b.Accepts text) ⊎ (((result ≡ 1) × IsRefusedTextBy b text) ⊎ (result ≡ 9))
  pub accepted : (text : List ℕ) → old names.input ≡ Some text → IsAcceptedBy b.Accepts text → (result ≡ 0) ⊎ (result ≡ 9)
  pub refused : (text : List ℕ) (why : Outcome) → old names.input ≡ Some text → TellsWhyBy b text why → (result ≡ 1) ⊎ (result ≡ 9)

-- The status says that the text is accepted, or that it is refused, and that there is a script; or that there is none.
abbrev pub ReadsEnd : List ℕ → List ℕ → ℕ → Type 0
ReadsEnd text script result =
    (((result ≡ 0) ⊎ (result ≡ 4)) × IsScript script × IsAcceptedText text)
    ⊎ (((result ≡ 1) × IsScript script × IsRefusedText text) ⊎ (((result ≡ 5) × (IsScript script → ⊥)) ⊎ (result ≡ 9)))

-- The script comes first. Unless memory runs out the status says what script and text are.
pub record TraceCompletes (asked : Asked) (old : Contents) (result : ℕ) : Type 0 where
  pub ends : (text script : List ℕ) → old asked.input ≡ Some text → old asked.script ≡ Some script → ReadsEnd text script result
  pub no_script : (text script : List ℕ) → old asked.input ≡ Some text → old asked.script ≡ Some script → (IsScript script → ⊥) → (result ≡ 5) ⊎ (result ≡ 9)
  pub accepted : (text script : List ℕ) → old asked.input ≡ Some text → old asked.script ≡ Some script → IsScript script → IsAcceptedText text
      → (result ≡ 0) ⊎ ((result ≡ 4) ⊎ (result ≡ 9))
  pub refused : (text script : List ℕ) (refusal : Refusal) → old asked.input ≡ Some text → old asked.script ≡ Some script → IsScript script → Tells text refusal
      → (result ≡ 1) ⊎ (result ≡ 9)

-- as a trace of the same files
pub record AgreementCompletes (asked : Compared) (old : Contents) (result : ℕ) : Type 0 where
  pub ends : (result ≡ 0) ⊎ ((result ≡ 1) ⊎ ((result ≡ 4) ⊎ ((result ≡ 5) ⊎ (result ≡ 9))))
  pub files : TraceCompletes (agreement.files_of asked) old result

abbrev pub Completes : Option Form → Contents → ℕ → Type 0
Completes None old result = (result ≡ 2) ⊎ (result ≡ 9)
Completes (Some (Build names)) old result = BuildCompletes (build_for names.chip) names old result
Completes (Some (Trace asked)) old result = TraceCompletes asked old result
Completes (Some (Simulate asked)) old result = SimulationCompletes asked old result
Completes (Some (Agree asked)) old result = AgreementCompletes asked old result
-- a generated program is never refused
Completes (Some (Generate functions)) old result = (result ≡ 0) ⊎ (result ≡ 9)
Completes (Some (Check hex)) old result = CheckCompletes hex old result

abbrev pub IsComplete : Kind → ℕ → ℕ → Option Form → Contents → ℕ → Type 0
IsComplete kind before now form old result = (IsCounted kind before now → ⊥) → Completes form old result

-- How a trace ends: what is known of its files, what it prints, and its exit status.
use Rattle.std.specs.Prelude.{ℕ, ◌≡◌, ◌≤◌, ◌⊎◌, Bool, true, false, IsTrue, Option, Some, List, [], ◌∷◌, ◌++◌, length, option_map}
use Rattle.call_graph.specs.Copies.{AreCopies}
use Rattle.call_graph.specs.declared.types.FnCopy.{FnCopy}
use Rattle.c_typed.specs.Trees.{Program}
use Rattle.host_io.specs.Host.{Kind, Contents, Lacks, PrintsPrefix}
use Rattle.pic_world.specs.declared.Event.{Event}
use Rattle.pic_map.specs.EventText.{CanBeShown, event_text}
use Rattle.pic_map.specs.MapContent.{MapContent}
use Rattle.picc_core.specs.Answers.{Tells}
use Rattle.picc_core.specs.Decided.{IsAcceptedText}
use Rattle.ram_place.specs.Placement.{IsPlacing}
use Rattle.picc_cli.specs.declared.tracing.Ended.{Ended}
use Rattle.picc_cli.specs.declared.tracing.Ended.TheVariants.{Done, Undefined, Refused, CannotReadText, NoScript, CannotPrint, NoMemory}
use Rattle.picc_cli.specs.declared.inputs.FileEnd.TheVariants.{CannotRead}
use Rattle.picc_cli.specs.Command.{Asked}
use Rattle.picc_cli.specs.Inputs as inputs
use Rattle.picc_cli.specs.Lines.{cannot_read, undefined_line, event_lines}
use Rattle.picc_cli.specs.Refusals.{refusal_line}
use Rattle.picc_cli.specs.ScriptInput.{IsScript}

-- ---- the files
-- this holds of the text, and that of the script
pub record Reads (asked : Asked) (old : Contents) (OfText OfScript : List ℕ → Type 0) : Type 0 where
  pub text : List ℕ
  pub script : List ℕ
  pub has_text : old asked.input ≡ Some text
  pub has_script : old asked.script ≡ Some script
  pub of_text : OfText text
  pub of_script : OfScript script

-- What is known of the files of a trace that ended so.
abbrev pub Knows : Asked → Contents → Ended → Type 0
Knows asked old Done = Reads asked old IsAcceptedText IsScript
Knows asked old (Undefined kind line) = Reads asked old IsAcceptedText IsScript
Knows asked old (Refused refusal) = Reads asked old (λ text. Tells text refusal) IsScript
Knows asked old CannotReadText = Unit {0}
Knows asked old (NoScript end) = inputs.HasNoScript old asked.script end
Knows asked old CannotPrint = Unit {0}
Knows asked old NoMemory = Unit {0}

-- ---- faults
abbrev pub is_fault : Ended → Bool
is_fault Done = false
is_fault (Undefined kind line) = false
is_fault (Refused refusal) = false
is_fault CannotReadText = true
is_fault (NoScript end) = inputs.is_fault end
is_fault CannotPrint = true
is_fault NoMemory = false

-- over a sound host only a file without a content is a fault, and each is one, where memory suffices up to it
pub record FailsWithoutFiles (kind : Kind) (old : Option Contents) (asked : Asked) (ended : Ended) : Type 0 where
  pub only : IsTrue kind.is_sound → is_fault ended ≡ true → ((ended ≡ CannotReadText) × Lacks old asked.input) ⊎ ((ended ≡ NoScript CannotRead) × Lacks old asked.script)
  pub text : IsTrue kind.is_sound → Lacks old asked.input → ended ≡ CannotReadText
  pub script : IsTrue kind.is_sound → Lacks old asked.script → (ended ≡ CannotReadText) ⊎ ((ended ≡ NoScript CannotRead) ⊎ (ended ≡ NoMemory))

-- ---- the printed text
-- The map of a program: the copies of its functions, and where its objects and frames are to stand.
pub record IsMap (content : MapContent) : Type 0 where
  pub program : Program
  pub copies : List FnCopy
  pub are_copies : AreCopies program copies
  pub placed : IsPlacing program copies content.objects content.frames

abbrev pub AllShown : MapContent → List Event → Type 0
AllShown content [] = Unit {0}
AllShown content (e ∷ es) = CanBeShown content e × AllShown content es

-- The lines of at most so many events, each with a name that the map has.
pub record AreLines (content : MapContent) (most : ℕ) (text : List ℕ) : Type 0 where
  pub events : List Event
  pub few : length events ≤ most
  pub shown : AllShown content events
  pub lines : text ≡ event_lines content events

-- the lines of the events of a run of so many steps, by the map of a program: a step makes one event at most
pub record AreEventLines (steps : ℕ) (text : List ℕ) : Type 0 where
  pub content : MapContent
  pub map : IsMap content
  pub lines : AreLines content steps text

-- the line that comes last
abbrev pub last_line : Asked → Ended → List ℕ
last_line asked Done = []
last_line asked (Undefined kind line) = undefined_line asked.input kind line
last_line asked (Refused refusal) = refusal_line asked.input refusal
last_line asked CannotReadText = cannot_read asked.input
last_line asked (NoScript end) = inputs.line_of asked.script end
last_line asked CannotPrint = []
last_line asked NoMemory = []

-- What a run of so many steps that ended so has printed.
abbrev pub PrintsLines : ℕ → Option (List ℕ) → Option (List ℕ) → Type 0
PrintsLines steps old new = (text : List ℕ) × AreEventLines steps text × (new ≡ option_map (λ t. t ++ text) old)

abbrev pub BreaksLines : ℕ → Option (List ℕ) → Option (List ℕ) → Type 0
BreaksLines steps old new = (text : List ℕ) × AreEventLines steps text × PrintsPrefix old new text

abbrev pub Leads : ℕ → Ended → Option (List ℕ) → Option (List ℕ) → Type 0
Leads steps Done old new = PrintsLines steps old new
Leads steps (Undefined kind line) old new = PrintsLines steps old new
Leads steps CannotPrint old new = BreaksLines steps old new
Leads steps NoMemory old new = (new ≡ old) ⊎ BreaksLines steps old new
Leads steps (Refused refusal) old new = new ≡ old
Leads steps CannotReadText old new = new ≡ old
Leads steps (NoScript end) old new = new ≡ old

-- ---- one step
-- what a step that was taken has printed: nothing, or the line of its event
abbrev pub Takes : MapContent → Option (List ℕ) → Option (List ℕ) → Type 0
Takes content old new = (new ≡ old) ⊎ ((e : Event) × CanBeShown content e × (new ≡ option_map (λ t. t ++ event_text content e) old))

abbrev pub BreaksLine : MapContent → Option (List ℕ) → Option (List ℕ) → Type 0
BreaksLine content old new = (new ≡ old) ⊎ ((e : Event) × CanBeShown content e × PrintsPrefix old new (event_text content e))

-- what was printed with the step at which the run ended so
abbrev pub Stops : MapContent → Ended → Option (List ℕ) → Option (List ℕ) → Type 0
Stops content Done old new = new ≡ old
Stops content (Undefined kind line) old new = new ≡ old
Stops content CannotPrint old new = BreaksLine content old new
Stops content NoMemory old new = BreaksLine content old new
Stops content (Refused refusal) old new = ⊥
Stops content CannotReadText old new = ⊥
Stops content (NoScript end) old new = ⊥

-- a run can end so
abbrev pub IsRunEnd : Ended → Type 0
IsRunEnd Done = Unit {0}
IsRunEnd (Undefined kind line) = Unit {0}
IsRunEnd CannotPrint = Unit {0}
IsRunEnd NoMemory = Unit {0}
IsRunEnd (Refused refusal) = ⊥
IsRunEnd CannotReadText = ⊥
IsRunEnd (NoScript end) = ⊥

-- ---- the whole text
-- The whole text of a trace that ends so: the lines of its events and the last line.
abbrev pub HasEvents : Asked → Ended → List ℕ → Type 0
HasEvents asked Done text = AreEventLines asked.steps text
HasEvents asked (Undefined kind line) text = AreEventLines asked.steps text
HasEvents asked CannotPrint text = text ≡ []
HasEvents asked NoMemory text = text ≡ []
HasEvents asked (Refused refusal) text = text ≡ []
HasEvents asked CannotReadText text = text ≡ []
HasEvents asked (NoScript end) text = text ≡ []

pub record IsTraceText (asked : Asked) (ended : Ended) (text : List ℕ) : Type 0 where
  pub events : List ℕ
  pub has_events : HasEvents asked ended events
  pub whole : text ≡ events ++ last_line asked ended

-- ---- the status
abbrev pub status_of : Ended → ℕ
status_of Done = 0
status_of (Undefined kind line) = 4
status_of (Refused refusal) = 1
status_of CannotReadText = 3
status_of (NoScript end) = inputs.status_of end
status_of CannotPrint = 3
status_of NoMemory = 9

-- How a simulation ends: what is known of its files, what it prints, and its exit status.
use Rattle.std.specs.Prelude.{ℕ, ◌≡◌, ◌⊎◌, Bool, true, false, IsTrue, Option, Some, None, List, [], ◌∷◌, ◌++◌, codes, option_map}
use Rattle.host_io.specs.Host.{Kind, Contents, Lacks, PrintsPrefix}
use Rattle.pic_world.specs.declared.Event.{Event}
use Rattle.pic_map.specs.MapContent.{MapContent}
use Rattle.picc_cli.specs.declared.inputs.FileEnd.TheVariants.{CannotRead}
use Rattle.picc_cli.specs.declared.simulating.Ended.{Ended}
use Rattle.picc_cli.specs.declared.simulating.Ended.TheVariants.{Done, Unmodelled, NoHex, NoMap, NoScript, CannotPrint, NoMemory}
use Rattle.picc_cli.specs.Command.{Simulated}
use Rattle.picc_cli.specs.Inputs as inputs
use Rattle.picc_cli.specs.Inputs.{IsHexInput, IsMapInput, IsScriptInput, HasNoHex, HasNoMap, HasNoScript}
use Rattle.host_lines.specs.Said.{GivesUp, Prints}
use Rattle.picc_cli.specs.Lines.{cannot_read, event_lines, word_text}
use Rattle.picc_cli.specs.ScriptInput.{IsFile}
use Rattle.picc_cli.specs.Trace.{AllShown}

-- ---- the files
-- where the host tells contents, the name has a HEX file, or a map
abbrev pub HasHex : Option Contents → List ℕ → Type 0
HasHex None name = ⊥
HasHex (Some old) name = (image : List ℕ) × IsFile old name (IsHexInput image)

abbrev pub HasMap : Option Contents → List ℕ → Type 0
HasMap None name = ⊥
HasMap (Some old) name = (content : MapContent) × IsFile old name (IsMapInput content)

-- A file that a simulation comes to has no content: each one before it is such as it is to be.
abbrev pub LacksFile : Simulated → Option Contents → Type 0
LacksFile asked old = Lacks old asked.hex ⊎ ((HasHex old asked.hex × Lacks old asked.map) ⊎ (HasHex old asked.hex × HasMap old asked.map × Lacks old asked.script))

-- ---- faults
abbrev pub is_fault : Ended → Bool
is_fault Done = false
is_fault (Unmodelled at) = false
is_fault (NoHex end) = inputs.is_fault end
is_fault (NoMap end) = inputs.is_fault end
is_fault (NoScript end) = inputs.is_fault end
is_fault CannotPrint = true
is_fault NoMemory = false

-- it ended before the chip was run
abbrev pub ends_at_file : Ended → Bool
ends_at_file Done = false
ends_at_file (Unmodelled at) = false
ends_at_file (NoHex end) = true
ends_at_file (NoMap end) = true
ends_at_file (NoScript end) = true
ends_at_file CannotPrint = false
ends_at_file NoMemory = false

-- a run of the chip can end so
abbrev pub IsRunEnd : Ended → Type 0
IsRunEnd ended = ends_at_file ended ≡ false

-- ---- the printed line that comes last, and the status
abbrev pub unmodelled_text : ℕ → List ℕ
unmodelled_text at = codes "unmodelled " ++ word_text at ++ 10 ∷ []

abbrev pub last_line : Simulated → Ended → List ℕ
last_line asked Done = []
last_line asked (Unmodelled at) = unmodelled_text at
last_line asked (NoHex end) = inputs.line_of asked.hex end
last_line asked (NoMap end) = inputs.line_of asked.map end
last_line asked (NoScript end) = inputs.line_of asked.script end
last_line asked CannotPrint = []
last_line asked NoMemory = []

abbrev pub status_of : Ended → ℕ
status_of Done = 0
status_of (Unmodelled at) = 6
status_of (NoHex end) = inputs.status_of end
status_of (NoMap end) = inputs.status_of end
status_of (NoScript end) = inputs.status_of end
status_of CannotPrint = 3
status_of NoMemory = 9

-- It ended at the first file that has no content.
abbrev pub EndsAtMissing : Simulated → Option Contents → Ended → Type 0
EndsAtMissing asked old ended =
    ((ended ≡ NoHex CannotRead) × Lacks old asked.hex)
    ⊎ (((ended ≡ NoMap CannotRead) × HasHex old asked.hex × Lacks old asked.map)
    ⊎ ((ended ≡ NoScript CannotRead) × HasHex old asked.hex × HasMap old asked.map × Lacks old asked.script))

-- Over a sound host a fault is a file without a content that the simulation comes to, and each is one, where memory suffices
-- up to it.
pub record FailsWithoutFiles (kind : Kind) (old : Option Contents) (asked : Simulated) (ended : Ended) : Type 0 where
  pub only : IsTrue kind.is_sound → is_fault ended ≡ true → EndsAtMissing asked old ended
  pub missing : IsTrue kind.is_sound → LacksFile asked old → GivesUp (status_of ended)

-- ---- the printed text
-- the lines of events, each with a name that the map has
abbrev pub PrintsEvents : MapContent → Option (List ℕ) → Option (List ℕ) → Type 0
PrintsEvents content old new = (events : List Event) × AllShown content events × (new ≡ option_map (λ t. t ++ event_lines content events) old)

-- or a prefix of lines
abbrev pub BreaksEvents : MapContent → Option (List ℕ) → Option (List ℕ) → Type 0
BreaksEvents content old new = (events : List Event) × PrintsPrefix old new (event_lines content events)

-- What a run of the chip that ended so has printed, by the names of a map.
abbrev pub RunPrints : MapContent → Ended → Option (List ℕ) → Option (List ℕ) → Type 0
RunPrints content Done old new = PrintsEvents content old new
RunPrints content (Unmodelled at) old new = PrintsEvents content old new
RunPrints content CannotPrint old new = BreaksEvents content old new
RunPrints content NoMemory old new = BreaksEvents content old new
RunPrints content (NoHex end) old new = ⊥
RunPrints content (NoMap end) old new = ⊥
RunPrints content (NoScript end) old new = ⊥

-- What a simulation that ended so has printed before the last line: nothing, where a file was wanting.
abbrev pub Leads : Ended → Option (List ℕ) → Option (List ℕ) → Type 0
Leads ended old new = ((ends_at_file ended ≡ true) × (new ≡ old)) ⊎ ((content : MapContent) × RunPrints content ended old new)

-- The whole text of a simulation that ends so.
abbrev pub HasEvents : Ended → List ℕ → Type 0
HasEvents ended text = ((ends_at_file ended ≡ true) × (text ≡ [])) ⊎ ((content : MapContent) × (events : List Event) × (text ≡ event_lines content events))

abbrev pub IsChipText : Simulated → Ended → List ℕ → Type 0
IsChipText asked ended text = (events : List ℕ) × HasEvents ended events × (text ≡ events ++ last_line asked ended)

-- the line of the first file that has no content, where each one before it is such as it is to be
abbrev pub TellsMissing : Simulated → Option Contents → Option (List ℕ) → Option (List ℕ) → Type 0
TellsMissing asked files old new =
    (Lacks files asked.hex × (new ≡ option_map (λ t. t ++ cannot_read asked.hex) old))
    ⊎ ((HasHex files asked.hex × Lacks files asked.map × (new ≡ option_map (λ t. t ++ cannot_read asked.map) old))
    ⊎ (HasHex files asked.hex × HasMap files asked.map × Lacks files asked.script × (new ≡ option_map (λ t. t ++ cannot_read asked.script) old)))

pub record SimulationPrints (kind : Kind) (asked : Simulated) (files : Option Contents) (old new : Option (List ℕ)) (result : ℕ) : Type 0 where
  pub prints : Prints status_of (IsChipText asked) old new result
  -- over a sound host, where only files can be missing, the line says which
  pub sound : IsTrue kind.is_sound → result ≡ 3 → TellsMissing asked files old new

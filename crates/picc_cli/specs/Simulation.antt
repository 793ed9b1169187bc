-- What a simulation has done by its end: the files that it read, the run of the chip over the board, how the board's lists have
-- grown, and what was printed of the run.
use Rattle.std.specs.Prelude.{ℕ, ◌≡◌, ◌⊎◌, Bool, true, false, List, [], ◌++◌, replicate, Option, Some, None, IsSome, option_map}
use Rattle.host_io.specs.Host.{Contents, PrintsPrefix}
use Rattle.pic_world.specs.Arrivals.{arriving}
use Rattle.pic_world.specs.declared.Event.{Event}
use Rattle.pic_chip.specs.declared.Start.{Start}
use Rattle.pic_chip.specs.declared.profile.Profile.{Profile}
use Rattle.pic_chip.specs.declared.profile.Profile.TheVariants.{Pic16F877a, Pic16F84a}
use Rattle.pic_chip.specs.Machine.{Machine}
use Rattle.pic_chip.specs.Run.{Moment, Setting, moment}
use Rattle.pic_chip.specs.State.{State, reset}
use Rattle.pic_map.specs.MapContent.{MapContent, watch_of}
use Rattle.pic_map.specs.Tracing.{Tracing, looked}
use Rattle.pic_sim.specs.Board.{Lists, Followed}
use Rattle.pic_sim.specs.Going.{HasBytes, HasMasksBy, Known, WentBy}
use Rattle.pic_sim.specs.Kind as kinds
use Rattle.pic_sim.specs.Kind.{Kind}
use Rattle.pic_sim.specs.declared.board.Exchange.{Exchange}
use Rattle.pic_sim.specs.declared.running.SimEnd.{SimEnd}
use Rattle.pic_sim.specs.declared.running.SimEnd.TheVariants as sim
use Rattle.chip_84a.specs.Machine as second
use Rattle.chip_84a.specs.Run as second_run
use Rattle.chip_84a.specs.Simulated as second_kind
use Rattle.chip_84a.specs.declared.Start84.{Start84}
use Rattle.schedule.specs.ScriptFile.{ScriptContent}
use Rattle.picc_cli.specs.declared.simulating.Ended.{Ended}
use Rattle.picc_cli.specs.declared.simulating.Ended.TheVariants.{Done, Unmodelled, NoHex, NoMap, NoScript, CannotPrint, NoMemory}
use Rattle.picc_cli.specs.Chip.{last_line, status_of}
use Rattle.picc_cli.specs.Command.{Simulated, Form, Build, Trace, Simulate, Agree, Generate, Check}
use Rattle.picc_cli.specs.Inputs.{IsHexInput, IsMapInput, IsScriptInput, HasNoHex, HasNoMap, HasNoScript}
use Rattle.picc_cli.specs.Lines.{event_lines}
use Rattle.host_lines.specs.Said.{GivesUp, IsLast}
use Rattle.picc_cli.specs.ScriptInput.{IsFile}
use Rattle.picc_cli.specs.Trace.{AllShown}

-- ---- the run
-- what is remembered at the first moment, at which the program counter is 0
abbrev pub first_look : MapContent → Tracing
first_look map = looked 0 (record { watch = watch_of map; met = false; ended = false })

abbrev pub board_of : Lists → Option Followed → Known
board_of lists follows = record { lists = lists; follows = follows }

-- A board that was fed this script: one that follows scripts follows it.
pub record IsFed (script : ScriptContent) (before fed : Known) : Type 0 where
  pub same_lists : fed.lists ≡ before.lists
  pub follows : IsSome before.follows → fed.follows ≡ Some (record { input = script.input; arrivals = script.arrivals })

-- The run of so many instructions of this image, on a chip of this kind from a reset, over a board that was fed this script: the events
-- by the map, the board as it was left, and how the run ended. What such a run is, pic_sim defines; a law of each kind of chip says that
-- it is the run from reset of the chip's own definitions.
pub record IsRunBy (kind : Kind) (start : State) (image : List ℕ) (map : MapContent) (script : ScriptContent) (n : ℕ) (before now : Known) (events : List Event) (end : SimEnd) : Type 0 where
  pub fed : Known
  pub is_fed : IsFed script before fed
  pub chip : Machine
  pub tracing : Tracing
  pub went : WentBy kind image n (record { chip = record { state = start; index = 0 }; tracing = first_look map; events = []; board = fed }) (record { chip = chip; tracing = tracing; events = events; board = now }) end

-- ---- chips
-- What a simulation is said by: the run of an image over a board, and its stop and its trace by the chip's own definitions.
pub record Simulator : Type 1 where
  -- the run of so many instructions, seen by a map, over a board that is fed this script: what it was and became, the events, and how it ended
  pub Ran : List ℕ → MapContent → ScriptContent → ℕ → Known → Known → List Event → SimEnd → Type 0
  -- within so many instructions it comes to SLEEP, or to a word without a row
  pub stops : List ℕ → MapContent → ScriptContent → ℕ → Bool
  -- its trace at this moment
  pub trace : List ℕ → MapContent → ScriptContent → ℕ → List Event
  -- how many masks of flags differ
  pub masks : ℕ

-- a chip of this kind that begins so, and the moments of its run from there by its own definitions, with these input bytes and arrivals
abbrev pub simulator_by : Kind → State → (List ℕ → MapContent → ScriptContent → ℕ → Moment) → Simulator
simulator_by kind start moments = record {
  Ran = IsRunBy kind start;
  stops = λ image map script n. (moments image map script n).stopped;
  trace = λ image map script n. (moments image map script n).trace;
  masks = kind.masks;
}

-- ---- what was printed of it
-- the lines of all its events
pub record PrintsRunBy (s : Simulator) (image : List ℕ) (map : MapContent) (script : ScriptContent) (n : ℕ) (before now : Known) (end : SimEnd) (p q : Option (List ℕ)) : Type 0 where
  pub events : List Event
  pub run : s.Ran image map script n before now events end
  pub shown : AllShown map events
  pub printed : q ≡ option_map (λ t. t ++ event_lines map events) p

-- or a prefix of them
pub record BreaksRunBy (s : Simulator) (image : List ℕ) (map : MapContent) (script : ScriptContent) (n : ℕ) (before now : Known) (p q : Option (List ℕ)) : Type 0 where
  pub end : SimEnd
  pub events : List Event
  pub run : s.Ran image map script n before now events end
  pub printed : PrintsPrefix p q (event_lines map events)

-- What was printed of a run with these events and this end, where the simulation ended so.
abbrev pub IsPrinted : MapContent → List Event → SimEnd → Ended → Option (List ℕ) → Option (List ℕ) → Type 0
IsPrinted map events end Done p q = (end ≡ sim.Done) × AllShown map events × (q ≡ option_map (λ t. t ++ event_lines map events) p)
IsPrinted map events end (Unmodelled at) p q = (end ≡ sim.Unmodelled at) × AllShown map events × (q ≡ option_map (λ t. t ++ event_lines map events) p)
IsPrinted map events end CannotPrint p q = PrintsPrefix p q (event_lines map events)
IsPrinted map events end NoMemory p q = PrintsPrefix p q (event_lines map events)
IsPrinted map events end (NoHex why) p q = ⊥
IsPrinted map events end (NoMap why) p q = ⊥
IsPrinted map events end (NoScript why) p q = ⊥

-- the board's lists are as before, and nothing was printed
abbrev pub NothingRan : Known → Known → Option (List ℕ) → Option (List ℕ) → Type 0
NothingRan before now p q = (now.lists ≡ before.lists) × (q ≡ p)

-- What a run that ended so has done and printed.
abbrev pub RunsBy : Simulator → List ℕ → MapContent → ScriptContent → ℕ → Known → Known → Ended → Option (List ℕ) → Option (List ℕ) → Type 0
RunsBy s image map script n before now Done p q = PrintsRunBy s image map script n before now sim.Done p q
RunsBy s image map script n before now (Unmodelled at) p q = PrintsRunBy s image map script n before now (sim.Unmodelled at) p q
RunsBy s image map script n before now CannotPrint p q = BreaksRunBy s image map script n before now p q
RunsBy s image map script n before now NoMemory p q = NothingRan before now p q ⊎ BreaksRunBy s image map script n before now p q
RunsBy s image map script n before now (NoHex end) p q = ⊥
RunsBy s image map script n before now (NoMap end) p q = ⊥
RunsBy s image map script n before now (NoScript end) p q = ⊥

-- ---- the whole simulation
-- all three files are such as they are to be, and this is the run of what they hold
pub record SimulatesBy (s : Simulator) (asked : Simulated) (old : Contents) (before now : Known) (ended : Ended) (p q : Option (List ℕ)) : Type 0 where
  pub image : List ℕ
  pub map : MapContent
  pub script : ScriptContent
  pub hex_file : IsFile old asked.hex (IsHexInput image)
  pub map_file : IsFile old asked.map (IsMapInput map)
  pub script_file : IsFile old asked.script (IsScriptInput script)
  pub runs : RunsBy s image map script asked.instructions before now ended p q

pub record LacksMap (asked : Simulated) (old : Contents) (Of : Type 0) : Type 0 where
  pub image : List ℕ
  pub hex_file : IsFile old asked.hex (IsHexInput image)
  pub of_map : Of

pub record LacksScript (asked : Simulated) (old : Contents) (Of : Type 0) : Type 0 where
  pub image : List ℕ
  pub map : MapContent
  pub hex_file : IsFile old asked.hex (IsHexInput image)
  pub map_file : IsFile old asked.map (IsMapInput map)
  pub of_script : Of

-- What is known of a simulation that ended so: of its files, the first that isn't such as it is to be; where all are, the run.
abbrev pub KnowsBy : Simulator → Simulated → Contents → Known → Known → Ended → Option (List ℕ) → Option (List ℕ) → Type 0
KnowsBy s asked old before now Done p q = SimulatesBy s asked old before now Done p q
KnowsBy s asked old before now (Unmodelled at) p q = SimulatesBy s asked old before now (Unmodelled at) p q
KnowsBy s asked old before now CannotPrint p q = SimulatesBy s asked old before now CannotPrint p q
KnowsBy s asked old before now NoMemory p q = NothingRan before now p q ⊎ SimulatesBy s asked old before now NoMemory p q
KnowsBy s asked old before now (NoHex end) p q = HasNoHex old asked.hex end × NothingRan before now p q
KnowsBy s asked old before now (NoMap end) p q = LacksMap asked old (HasNoMap old asked.map end) × NothingRan before now p q
KnowsBy s asked old before now (NoScript end) p q = LacksScript asked old (HasNoScript old asked.script end) × NothingRan before now p q

-- ---- whether the run stops
-- From that reset on the board has answered as this script has it: its lists have grown by the next input bytes, and by the flags that
-- arrive at each index, as far as so many masks differ.
pub record Answers (count : ℕ) (script : ScriptContent) (before now : Known) : Type 0 where
  pub given : List Exchange
  pub raised : List ℕ
  pub given_now : now.lists.given ≡ before.lists.given ++ given
  pub raised_now : now.lists.raised ≡ before.lists.raised ++ raised
  pub bytes : HasBytes script.input 0 given
  pub masks : HasMasksBy count (arriving script.arrivals) 0 raised

-- The status of a run that stops within its instructions, and of one that doesn't, where neither a fault nor want of memory ends it.
abbrev pub ComesBy : Bool → ℕ → Type 0
ComesBy true result = (result ≡ 6) ⊎ GivesUp result
ComesBy false result = (result ≡ 0) ⊎ GivesUp result

-- Of three files that are such as they are to be.
pub record StopsAsRunBy (s : Simulator) (asked : Simulated) (old : Contents) (before now : Known) (result : ℕ) : Type 0 where
  -- the run by the script that the answers of the board are, whichever board it is,
  pub answered : (image : List ℕ) (map : MapContent) (script answers : ScriptContent)
      → IsFile old asked.hex (IsHexInput image) → IsFile old asked.map (IsMapInput map) → IsFile old asked.script (IsScriptInput script)
      → Answers s.masks answers before now → ComesBy (s.stops image map answers asked.instructions) result
  -- and of a board that follows scripts, and has given no byte before, the run by the script of the file
  pub followed : (image : List ℕ) (map : MapContent) (script : ScriptContent)
      → IsFile old asked.hex (IsHexInput image) → IsFile old asked.map (IsMapInput map) → IsFile old asked.script (IsScriptInput script)
      → IsSome before.follows → before.lists.given ≡ [] → ComesBy (s.stops image map script asked.instructions) result

-- ---- the trace of the run
-- all instructions were run, or all up to a word that isn't run, and no line of an event is left out
abbrev pub ran_whole : Ended → Bool
ran_whole Done = true
ran_whole (Unmodelled at) = true
ran_whole (NoHex end) = false
ran_whole (NoMap end) = false
ran_whole (NoScript end) = false
ran_whole CannotPrint = false
ran_whole NoMemory = false

-- the lines of the whole trace of the run by the chip's own definitions, up to this moment
abbrev pub PrintsTraceBy : Simulator → List ℕ → MapContent → ScriptContent → ℕ → Option (List ℕ) → Option (List ℕ) → Type 0
PrintsTraceBy s image map script n p q = q ≡ option_map (λ t. t ++ event_lines map (s.trace image map script n)) p

-- Of three files that are such as they are to be, where the run ended well.
pub record PrintsAsRunBy (s : Simulator) (asked : Simulated) (old : Contents) (before now : Known) (ended : Ended) (p middle : Option (List ℕ)) : Type 0 where
  -- the trace of the run by the script that the answers of the board are, whichever board it is,
  pub answered : (image : List ℕ) (map : MapContent) (script answers : ScriptContent)
      → IsFile old asked.hex (IsHexInput image) → IsFile old asked.map (IsMapInput map) → IsFile old asked.script (IsScriptInput script)
      → ran_whole ended ≡ true → Answers s.masks answers before now → PrintsTraceBy s image map answers asked.instructions p middle
  -- and of a board that follows scripts, and has given no byte before, of the run by the script of the file
  pub followed : (image : List ℕ) (map : MapContent) (script : ScriptContent)
      → IsFile old asked.hex (IsHexInput image) → IsFile old asked.map (IsMapInput map) → IsFile old asked.script (IsScriptInput script)
      → ran_whole ended ≡ true → IsSome before.follows → before.lists.given ≡ [] → PrintsTraceBy s image map script asked.instructions p middle

-- With this status, and with these bytes printed, a simulation ended so: `middle` is what was printed before its last line.
pub record SimulationTellsBy (s : Simulator) (asked : Simulated) (old : Contents) (before now : Known) (p q : Option (List ℕ)) (result : ℕ) : Type 0 where
  pub ended : Ended
  pub middle : Option (List ℕ)
  pub knows : KnowsBy s asked old before now ended p middle
  pub last : IsLast (status_of ended) (last_line asked ended) middle q result
  -- 6 comes just where the run stops, and 0 just where it doesn't
  pub stops : StopsAsRunBy s asked old before now result
  -- and where either comes, the trace of that run is printed
  pub traces : PrintsAsRunBy s asked old before now ended p middle

-- ---- the PIC16F877A
-- the chip after a reset, where all that is unknown then is 0
abbrev pub zeros : Start
zeros = record { w = 0; fsr = 0; flags = 0; ram = replicate 368 0 }

abbrev pub run_by : List ℕ → MapContent → ScriptContent → Setting
run_by image map script = record { image = image; watch = watch_of map; start = zeros; inputs = script.input; arrivals = script.arrivals }

abbrev pub first_moments : List ℕ → MapContent → ScriptContent → ℕ → Moment
first_moments image map script = moment (run_by image map script)

abbrev pub pic16f877a : Simulator
pic16f877a = simulator_by kinds.first (reset zeros) first_moments

-- ---- the PIC16F84A
abbrev pub second_zeros : Start84
second_zeros = record { w = 0; fsr = 0; flags = 0; ram = replicate 68 0 }

abbrev pub second_run_by : List ℕ → MapContent → ScriptContent → second_run.Setting
second_run_by image map script = record { image = image; watch = watch_of map; start = second_zeros; inputs = script.input; arrivals = script.arrivals }

abbrev pub second_moments : List ℕ → MapContent → ScriptContent → ℕ → Moment
second_moments image map script = second_run.moment (second_run_by image map script)

abbrev pub pic16f84a : Simulator
pic16f84a = simulator_by second_kind.second (second.reset second_zeros) second_moments

-- ---- the chip that is asked for
abbrev pub simulator_of : Profile → Simulator
simulator_of Pic16F877a = pic16f877a
simulator_of Pic16F84a = pic16f84a

abbrev pub Runs : Profile → List ℕ → MapContent → ScriptContent → ℕ → Known → Known → Ended → Option (List ℕ) → Option (List ℕ) → Type 0
Runs chip = RunsBy (simulator_of chip)

abbrev pub Simulates : Simulated → Contents → Known → Known → Ended → Option (List ℕ) → Option (List ℕ) → Type 0
Simulates asked = SimulatesBy (simulator_of asked.chip) asked

abbrev pub Knows : Simulated → Contents → Known → Known → Ended → Option (List ℕ) → Option (List ℕ) → Type 0
Knows asked = KnowsBy (simulator_of asked.chip) asked

abbrev pub StopsAsRun : Simulated → Contents → Known → Known → ℕ → Type 0
StopsAsRun asked = StopsAsRunBy (simulator_of asked.chip) asked

abbrev pub PrintsAsRun : Simulated → Contents → Known → Known → Ended → Option (List ℕ) → Option (List ℕ) → Type 0
PrintsAsRun asked = PrintsAsRunBy (simulator_of asked.chip) asked

abbrev pub SimulationTells : Simulated → Contents → Known → Known → Option (List ℕ) → Option (List ℕ) → ℕ → Type 0
SimulationTells asked = SimulationTellsBy (simulator_of asked.chip) asked

-- ---- forms
-- of the other forms this says nothing
abbrev pub HasSimulated : Option Form → Contents → Known → Known → Option (List ℕ) → Option (List ℕ) → ℕ → Type 0
HasSimulated None old before now p q result = Unit {0}
HasSimulated (Some (Build names)) old before now p q result = Unit {0}
HasSimulated (Some (Trace asked)) old before now p q result = Unit {0}
HasSimulated (Some (Simulate asked)) old before now p q result = SimulationTells asked old before now p q result
HasSimulated (Some (Agree asked)) old before now p q result = Unit {0}
HasSimulated (Some (Generate functions)) old before now p q result = Unit {0}
HasSimulated (Some (Check hex)) old before now p q result = Unit {0}

-- Without a fault, a simulation of three files that are such as they are to be runs the chip, and one of which a file isn't tells
-- it, unless memory runs out.
pub record SimulationCompletes (asked : Simulated) (old : Contents) (result : ℕ) : Type 0 where
  pub ends : (result ≡ 0) ⊎ ((result ≡ 5) ⊎ ((result ≡ 6) ⊎ (result ≡ 9)))
  pub runs : (image : List ℕ) (map : MapContent) (script : ScriptContent) → IsFile old asked.hex (IsHexInput image) → IsFile old asked.map (IsMapInput map) → IsFile old asked.script (IsScriptInput script)
      → (result ≡ 0) ⊎ ((result ≡ 6) ⊎ (result ≡ 9))
  pub no_hex : (bytes : List ℕ) → old asked.hex ≡ Some bytes → ((image : List ℕ) → IsHexInput image bytes → ⊥) → (result ≡ 5) ⊎ (result ≡ 9)
  pub no_map : (bytes : List ℕ) → old asked.map ≡ Some bytes → ((map : MapContent) → IsMapInput map bytes → ⊥) → (result ≡ 5) ⊎ (result ≡ 9)
  pub no_script : (bytes : List ℕ) → old asked.script ≡ Some bytes → ((script : ScriptContent) → IsScriptInput script bytes → ⊥) → (result ≡ 5) ⊎ (result ≡ 9)

-- What a trace prints is the run of the text's typed program by the definitions of the source: the lines of the events of so many steps.
use Rattle.std.specs.Prelude.{ℕ, ◌≡◌, ◌<◌, ◌≤◌, ◌⊎◌, true, List, ◌++◌, map, Option, Some, None, option_map}
use Rattle.c_typed.specs.Chains.{graph_of}
use Rattle.c_typed.specs.Roots.{broken_root}
use Rattle.c_typed.specs.Sound.{is_sound}
use Rattle.c_typed.specs.Trees.{Program}
use Rattle.call_graph.specs.Copies.{AreCopies}
use Rattle.call_graph.specs.Levels.{IsAcyclic}
use Rattle.call_graph.specs.declared.types.FnCopy.{FnCopy}
use Rattle.headline.specs.SourceOf.{setting_of}
use Rattle.host_io.specs.Host.{Contents, PrintsPrefix}
use Rattle.pic_map.specs.MapContent.{MapContent, ObjectLine, FrameLine}
use Rattle.pic_world.specs.World.{outside_of}
use Rattle.pic_world.specs.declared.Event.{Event}
use Rattle.picc_cli.specs.declared.tracing.Ended.{Ended}
use Rattle.picc_cli.specs.declared.tracing.Ended.TheVariants.{Done, Undefined, Refused, CannotReadText, NoScript, CannotPrint, NoMemory}
use Rattle.picc_cli.specs.Command.{Asked, Form, Build, Trace, Simulate, Agree, Generate, Check}
use Rattle.picc_cli.specs.Inputs.{IsScriptInput}
use Rattle.picc_cli.specs.Lines.{event_lines}
use Rattle.host_lines.specs.Said.{IsLast}
use Rattle.picc_cli.specs.ScriptInput.{IsFile}
use Rattle.picc_cli.specs.Trace.{AllShown, last_line, status_of}
use Rattle.picc_core.specs.Texts.{HasTree}
use Rattle.picc_core.specs.Typed.{IsTypedAs}
use Rattle.ram_place.specs.Placement.{IsPlacing}
use Rattle.schedule.specs.ScriptFile.{ScriptContent}
use Rattle.src_memory.specs.Shown.{address_of, shown}
use Rattle.src_rules.specs.Numbers.{ProgramHasNumbers}
use Rattle.src_rules.specs.Runs.{after, fault_after, is_idle_after, is_taken, take}
use Rattle.src_values.specs.Memory.{Setting}

module _ (s : Setting) (content : MapContent) where
  -- the events of a run's first n steps, as the map shows them
  abbrev pub events_by : ℕ → List Event
  events_by n = map (shown (address_of s.program content)) (after s n).world.trace

  -- what a text that is printed behind another one makes of it
  abbrev pub Prints : Option (List ℕ) → Option (List ℕ) → List Event → Type 0
  Prints old new events = new ≡ option_map (λ t. t ++ event_lines content events) old

  -- ---- a run
  -- how a run of `most` steps that ended so had gone on for n steps
  abbrev pub EndsBy : ℕ → ℕ → Ended → Type 0
  EndsBy most n Done = (n ≡ most) ⊎ (is_idle_after s n ≡ true)
  EndsBy most n (Undefined kind line) = (n < most) × (fault_after s n ≡ Some (record { kind = kind; line = line }))
  EndsBy most n _ = Unit {0}

  abbrev pub PrintsBy : ℕ → Option (List ℕ) → Option (List ℕ) → Ended → Type 0
  PrintsBy n old new Done = Prints old new (events_by n)
  PrintsBy n old new (Undefined kind line) = Prints old new (events_by n)
  PrintsBy n old new _ = PrintsPrefix old new (event_lines content (events_by n))

  -- The lines of the events of the first n steps, `most` of them at most, all of which were taken; or a prefix of these lines, where
  -- one couldn't be printed.
  pub record Ran (most : ℕ) (ended : Ended) (old new : Option (List ℕ)) : Type 0 where
    pub steps : ℕ
    pub few : steps ≤ most
    pub taken : (i : ℕ) → i < steps → is_taken (take s (after s i)) ≡ true
    pub end : EndsBy most steps ended
    pub printed : PrintsBy steps old new ended

-- ---- the map of a trace
abbrev pub map_of : List ObjectLine → List FrameLine → MapContent
map_of objects frames = record { main = 0; halt = 0; objects = objects; frames = frames }

-- ---- the whole
-- Both files are such as they are to be: the text has a tree, and by the rules on names and types a typed program, which keeps the rules
-- of typed programs, of roots and of recursion and whose numbers are of their types, with the copies of its functions, and the places of
-- its objects and frames. What is printed is its run under the script.
pub record Traces (asked : Asked) (old : Contents) (ended : Ended) (p q : Option (List ℕ)) : Type 0 where
  pub text : List ℕ
  pub script : ScriptContent
  pub program : Program
  pub copies : List FnCopy
  pub content : MapContent
  pub has_text : old asked.input ≡ Some text
  pub script_file : IsFile old asked.script (IsScriptInput script)
  pub tree : HasTree text
  pub typed : IsTypedAs text program
  pub sound : is_sound program ≡ true
  pub roots : broken_root program ≡ None
  pub acyclic : IsAcyclic (graph_of program)
  pub are_copies : AreCopies program copies
  pub placed : IsPlacing program copies content.objects content.frames
  pub numbers : ProgramHasNumbers program
  pub ran : Ran (setting_of program (outside_of script.input script.arrivals)) content asked.steps ended p q
  -- each event of the run, however long it goes on, has a name in the map
  pub named : (n : ℕ) → AllShown content (events_by (setting_of program (outside_of script.input script.arrivals)) content n)

-- Of a trace whose run began; where it didn't begin, nothing was printed.
abbrev pub RunsBy : Asked → Contents → Ended → Option (List ℕ) → Option (List ℕ) → Type 0
RunsBy asked old Done p q = Traces asked old Done p q
RunsBy asked old (Undefined kind line) p q = Traces asked old (Undefined kind line) p q
RunsBy asked old CannotPrint p q = Traces asked old CannotPrint p q
RunsBy asked old NoMemory p q = (q ≡ p) ⊎ Traces asked old NoMemory p q
RunsBy asked old (Refused refusal) p q = q ≡ p
RunsBy asked old CannotReadText p q = q ≡ p
RunsBy asked old (NoScript end) p q = q ≡ p

-- With this status, and with these bytes printed, a trace ended so: `middle` is what was printed before its last line.
pub record TraceRuns (asked : Asked) (old : Contents) (p q : Option (List ℕ)) (result : ℕ) : Type 0 where
  pub ended : Ended
  pub middle : Option (List ℕ)
  pub runs : RunsBy asked old ended p middle
  pub last : IsLast (status_of ended) (last_line asked ended) middle q result

-- of the other forms this says nothing
abbrev pub HasTraced : Option Form → Contents → Option (List ℕ) → Option (List ℕ) → ℕ → Type 0
HasTraced None old p q result = Unit {0}
HasTraced (Some (Build names)) old p q result = Unit {0}
HasTraced (Some (Trace asked)) old p q result = TraceRuns asked old p q result
HasTraced (Some (Simulate asked)) old p q result = Unit {0}
HasTraced (Some (Agree asked)) old p q result = Unit {0}
HasTraced (Some (Generate functions)) old p q result = Unit {0}
HasTraced (Some (Check hex)) old p q result = Unit {0}

-- Whether a simulation stops is whether the run of the chip's own definitions does, and the trace that it prints is that of this run.
use Rattle.std.proofs.Common.{◌≡◌, ℕ, inl, inr, ⊎_elim, Bool, true, false, Option, IsSome, List, [], ◌++◌, sym, ap, ◌∙◌, subst, option_map}
use Rattle.host_io.specs.Host.{Contents}
use Rattle.host_lines.specs.Said.{GivesUp, IsLast}
use Rattle.pic_map.proofs.FileLaws as maps
use Rattle.pic_map.specs.MapContent.{MapContent}
use Rattle.pic_map.specs.MapFile.{IsMapFile}
use Rattle.pic_sim.specs.Going.{Known}
use Rattle.schedule.proofs.FileLaws as scripts
use Rattle.schedule.specs.ScriptFile.{ScriptContent, IsScriptFile}
use Rattle.picc_cli.specs.declared.simulating.Ended.{Ended}
use Rattle.picc_cli.specs.declared.simulating.Ended.TheVariants.{Done, Unmodelled, NoHex, NoMap, NoScript, CannotPrint, NoMemory}
use Rattle.picc_cli.specs.Chip.{last_line, status_of}
use Rattle.picc_cli.specs.Command.{Simulated}
use Rattle.picc_cli.specs.Inputs.{IsHexInput, IsMapInput, IsScriptInput}
use Rattle.picc_cli.specs.Lines.{event_lines}
use Rattle.picc_cli.specs.ScriptInput.{IsFile}
use Rattle.picc_cli.specs.Simulation.{Answers, ComesBy, Knows, KnowsBy, PrintsAsRun, PrintsTraceBy, SimulatesBy, Simulator, StopsAsRun, ran_whole, simulator_of}
use Rattle.picc_cli.proofs.FilesKept.{same_bytes, hex_same, hex_kept, map_kept, script_kept}
use Rattle.picc_cli.proofs.Simulators.{IsSimulator, is_simulator}

-- ---- the files have one content
module _ (asked : Simulated) (o : Contents) where
  map_same : (a b : MapContent) → IsFile o asked.map (IsMapInput a) → IsFile o asked.map (IsMapInput b) → a ≡ b
  map_same a b (bytes, has, is) (others, there, also) =
      maps.one_only bytes a b is.file (subst (λ t. IsMapFile t b) (same_bytes o asked.map others bytes there has) also.file)

  script_same : (a b : ScriptContent) → IsFile o asked.script (IsScriptInput a) → IsFile o asked.script (IsScriptInput b) → a ≡ b
  script_same a b (bytes, has, is) (others, there, also) =
      scripts.one_only bytes a b is.file (subst (λ t. IsScriptFile t b) (same_bytes o asked.script others bytes there has) also.file)

module _ (s : Simulator) (is : IsSimulator s) (asked : Simulated) (o : Contents) (before now : Known) (p q : Option (List ℕ)) (result : ℕ) where
  comes_zero : (b : Bool) → b ≡ false → result ≡ 0 → ComesBy b result
  comes_zero false e is = inl is
  comes_zero true e is = absurd (cc)

  comes_six : (b : Bool) → b ≡ true → result ≡ 6 → ComesBy b result
  comes_six true e is = inl is
  comes_six false e is = absurd (cc)

  comes_up : (b : Bool) → GivesUp result → ComesBy b result
  comes_up true up = inr up
  comes_up false up = inr up

  -- ---- of three files that are such as they are to be
  module _ (image : List ℕ) (map : MapContent) (script : ScriptContent)
      (hex_file : IsFile o asked.hex (IsHexInput image)) (map_file : IsFile o asked.map (IsMapInput map)) (script_file : IsFile o asked.script (IsScriptInput script)) where
    -- the run that was made is that of what they hold
    held : (P : List ℕ → MapContent → ScriptContent → Type 0) (ended : Ended) (k : SimulatesBy s asked o before now ended p q) → P k.image k.map k.script → P image map script
    held P ended k h =
        subst (λ x. P x map script) (hex_same o asked.hex k.image image k.hex_file hex_file)
        (subst (λ x. P k.image x script) (map_same asked o k.map map k.map_file map_file)
        (subst (λ x. P k.image k.map x) (script_same asked o k.script script k.script_file script_file) h))

    answered_by : (ended : Ended) (answers : ScriptContent) → KnowsBy s asked o before now ended p q → result ≡ status_of ended → Answers s.masks answers before now
        → ComesBy (s.stops image map answers asked.instructions) result
    answered_by Done answers k e a =
        comes_zero _ (held (λ i m w. s.stops i m answers asked.instructions ≡ false) Done k (is.through k.image k.map k.script answers asked.instructions before now k.runs.events k.runs.run a).0) e
    answered_by (Unmodelled at) answers k e a =
        comes_six _ (held (λ i m w. s.stops i m answers asked.instructions ≡ true) (Unmodelled at) k (is.there k.image k.map k.script answers asked.instructions before now k.runs.events at k.runs.run a).0) e
    answered_by (NoHex end) answers k e a = comes_up _ (subst GivesUp (sym e) (hex_kept o asked.hex image end hex_file k.0))
    answered_by (NoMap end) answers k e a = comes_up _ (subst GivesUp (sym e) (map_kept o asked.map map end map_file k.0.of_map))
    answered_by (NoScript end) answers k e a = comes_up _ (subst GivesUp (sym e) (script_kept o asked.script script end script_file k.0.of_script))
    answered_by CannotPrint answers k e a = comes_up _ (inl e)
    answered_by NoMemory answers k e a = comes_up _ (inr e)

    -- a board that follows scripts gave the answers of the script
    given_through : SimulatesBy s asked o before now Done p q → IsSome before.follows → before.lists.given ≡ [] → Answers s.masks script before now
    given_through k follows none =
        held (λ i m w. Answers s.masks w before now) Done k (is.answers_through k.image k.map k.script asked.instructions before now follows none k.runs.events k.runs.run)

    given_there : (at : ℕ) → SimulatesBy s asked o before now (Unmodelled at) p q → IsSome before.follows → before.lists.given ≡ [] → Answers s.masks script before now
    given_there at k follows none =
        held (λ i m w. Answers s.masks w before now) (Unmodelled at) k (is.answers_there k.image k.map k.script asked.instructions before now follows none k.runs.events at k.runs.run)

    followed_by : (ended : Ended) → KnowsBy s asked o before now ended p q → result ≡ status_of ended → IsSome before.follows → before.lists.given ≡ []
        → ComesBy (s.stops image map script asked.instructions) result
    followed_by Done k e follows none = answered_by Done script k e (given_through k follows none)
    followed_by (Unmodelled at) k e follows none = answered_by (Unmodelled at) script k e (given_there at k follows none)
    followed_by (NoHex end) k e follows none = comes_up _ (subst GivesUp (sym e) (hex_kept o asked.hex image end hex_file k.0))
    followed_by (NoMap end) k e follows none = comes_up _ (subst GivesUp (sym e) (map_kept o asked.map map end map_file k.0.of_map))
    followed_by (NoScript end) k e follows none = comes_up _ (subst GivesUp (sym e) (script_kept o asked.script script end script_file k.0.of_script))
    followed_by CannotPrint k e follows none = comes_up _ (inl e)
    followed_by NoMemory k e follows none = comes_up _ (inr e)

    -- ---- the printed trace
    traced_by : (ended : Ended) (answers : ScriptContent) → KnowsBy s asked o before now ended p q → ran_whole ended ≡ true → Answers s.masks answers before now
        → PrintsTraceBy s image map answers asked.instructions p q
    traced_by Done answers k well a =
        held (λ i m w. PrintsTraceBy s i m answers asked.instructions p q) Done k
        (k.runs.printed ∙ ap (λ es. option_map (λ t. t ++ event_lines k.map es) p) (is.through k.image k.map k.script answers asked.instructions before now k.runs.events k.runs.run a).1)
    traced_by (Unmodelled at) answers k well a =
        held (λ i m w. PrintsTraceBy s i m answers asked.instructions p q) (Unmodelled at) k
        (k.runs.printed ∙ ap (λ es. option_map (λ t. t ++ event_lines k.map es) p) (is.there k.image k.map k.script answers asked.instructions before now k.runs.events at k.runs.run a).1)
    traced_by (NoHex end) answers k well a = absurd (cc)
    traced_by (NoMap end) answers k well a = absurd (cc)
    traced_by (NoScript end) answers k well a = absurd (cc)
    traced_by CannotPrint answers k well a = absurd (cc)
    traced_by NoMemory answers k well a = absurd (cc)

    traced_by_script : (ended : Ended) → KnowsBy s asked o before now ended p q → ran_whole ended ≡ true → IsSome before.follows → before.lists.given ≡ []
        → PrintsTraceBy s image map script asked.instructions p q
    traced_by_script Done k well follows none = traced_by Done script k well (given_through k follows none)
    traced_by_script (Unmodelled at) k well follows none = traced_by (Unmodelled at) script k well (given_there at k follows none)
    traced_by_script (NoHex end) k well follows none = absurd (cc)
    traced_by_script (NoMap end) k well follows none = absurd (cc)
    traced_by_script (NoScript end) k well follows none = absurd (cc)
    traced_by_script CannotPrint k well follows none = absurd (cc)
    traced_by_script NoMemory k well follows none = absurd (cc)

-- however it ended
pub stops_as_run : (asked : Simulated) (o : Contents) (before now : Known) (ended : Ended) (p middle q : Option (List ℕ)) (result : ℕ) → Knows asked o before now ended p middle
    → IsLast (status_of ended) (last_line asked ended) middle q result → StopsAsRun asked o before now result
stops_as_run asked o before now ended p middle q result knows last =
    record {
      answered = λ image map script answers a b c made.
          ⊎_elim
          (λ said. answered_by (simulator_of asked.chip) (is_simulator asked.chip) asked o before now p middle result image map script a b c ended answers knows said.0 made)
          (λ up. comes_up (simulator_of asked.chip) (is_simulator asked.chip) asked o before now p middle result ((simulator_of asked.chip).stops image map answers asked.instructions) up.0)
          last;
      followed = λ image map script a b c follows none.
          ⊎_elim
          (λ said. followed_by (simulator_of asked.chip) (is_simulator asked.chip) asked o before now p middle result image map script a b c ended knows said.0 follows none)
          (λ up. comes_up (simulator_of asked.chip) (is_simulator asked.chip) asked o before now p middle result ((simulator_of asked.chip).stops image map script asked.instructions) up.0)
          last;
    }

-- however it ended, where the run ended well its whole trace is printed
pub prints_as_run : (asked : Simulated) (o : Contents) (before now : Known) (ended : Ended) (p middle : Option (List ℕ)) → Knows asked o before now ended p middle
    → PrintsAsRun asked o before now ended p middle
prints_as_run asked o before now ended p middle knows =
    record {
      answered = λ image map script answers a b c well made. traced_by (simulator_of asked.chip) (is_simulator asked.chip) asked o before now p middle (status_of ended) image map script a b c ended answers knows well made;
      followed = λ image map script a b c well follows none. traced_by_script (simulator_of asked.chip) (is_simulator asked.chip) asked o before now p middle (status_of ended) image map script a b c ended knows well follows none;
    }

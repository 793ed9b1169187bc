-- What is told of the runs of a text's program: of its image on the chip, and of the source beside it.
use Rattle.std.specs.Prelude.{ℕ, ◌≡◌, List, None, Some}
use Rattle.c_typed.specs.Chains.{graph_of}
use Rattle.c_typed.specs.Roots.{broken_root}
use Rattle.c_typed.specs.Trees.{Program}
use Rattle.call_graph.specs.Levels.{IsAcyclic}
use Rattle.call_graph.specs.declared.types.FnCopy.{FnCopy}
use Rattle.headline.specs.OnChip.{setting_of}
use Rattle.headline.specs.SourceOf.{IsFaithfulTo}
use Rattle.host_io.specs.Host.{Contents}
use Rattle.pic_chip.specs.Run.{Setting}
use Rattle.pic_map.specs.MapContent.{MapContent}
use Rattle.picc_cli.specs.declared.comparing.Ended.{Ended}
use Rattle.picc_cli.specs.declared.comparing.Ended.TheVariants as ends
use Rattle.picc_cli.specs.Command.{Compared}
use Rattle.picc_cli.specs.Inputs.{IsScriptInput}
use Rattle.picc_cli.specs.ScriptInput.{IsFile}
use Rattle.picc_core.specs.Compiled.{IsPlaced}
use Rattle.picc_core.specs.Decided.{IsAcceptedText}
use Rattle.picc_core.specs.Typed.{IsTypedAs}
use Rattle.run_compare.specs.Agreement.{Tells}
use Rattle.run_compare.specs.declared.comparing.Agreed.{Agreed}
use Rattle.run_compare.specs.declared.comparing.Agreed.TheVariants.{Same, Undefined}
use Rattle.schedule.specs.Off.{last_free}
use Rattle.schedule.specs.ScriptFile.{ScriptContent}
use Rattle.schedule.specs.Watching.{zeros}

-- the run of an image under a script, from a start at which all that is unknown is 0, seen by a map
abbrev pub chip_run : List ℕ → MapContent → ScriptContent → Setting
chip_run image content script = setting_of content image zeros script.input script.arrivals

-- The text is accepted, and there are an image and a map of which the headline of its typed program holds. Of this
-- image's run under the script, up to the last moment of so many at which no run of the handler is under way, and of the source beside
-- it, just this is to be told: the length of the chip's trace, or the first undefined step of the source that counts.
pub record RunsTell (text : List ℕ) (script : ScriptContent) (n : ℕ) (agreed : Agreed) : Type 0 where
  pub accepted : IsAcceptedText text
  pub program : Program
  pub typed : IsTypedAs text program
  pub roots : broken_root program ≡ None
  pub acyclic : IsAcyclic (graph_of program)
  pub image : List ℕ
  pub content : MapContent
  pub placed : IsPlaced program content.objects content.frames
  pub faithful : IsFaithfulTo program content image
  pub told : (copies : List FnCopy) → Tells program copies content (chip_run image content script) (last_free (chip_run image content script) n) agreed

-- What is known of the runs of a text under a script for so many instructions, of which this is told.
abbrev pub Runs : Type 1
Runs = List ℕ → ScriptContent → ℕ → Agreed → Type 0

-- what is told where a comparison of a text's runs ended so
abbrev pub EndTells : Runs → List ℕ → ScriptContent → ℕ → Ended → Type 0
EndTells Tell text script n (ends.Same events) = Tell text script n (Same events)
EndTells Tell text script n (ends.Undefined kind line) = Tell text script n (Undefined kind line)
EndTells Tell text script n (ends.Refused refusal) = Unit {0}
EndTells Tell text script n ends.CannotReadText = Unit {0}
EndTells Tell text script n (ends.NoScript end) = Unit {0}
EndTells Tell text script n ends.NoMemory = Unit {0}

-- the same of the text and the script in these files
pub record FilesTell (Tell : Runs) (asked : Compared) (old : Contents) (agreed : Agreed) : Type 0 where
  pub text : List ℕ
  pub script : ScriptContent
  pub has_text : old asked.input ≡ Some text
  pub script_file : IsFile old asked.script (IsScriptInput script)
  pub runs : Tell text script asked.instructions agreed

-- A comparison that ended so tells just what is to be told of the runs.
abbrev pub IsExact : Runs → Compared → Contents → Ended → Type 0
IsExact Tell asked old (ends.Same events) = FilesTell Tell asked old (Same events)
IsExact Tell asked old (ends.Undefined kind line) = FilesTell Tell asked old (Undefined kind line)
IsExact Tell asked old (ends.Refused refusal) = Unit {0}
IsExact Tell asked old ends.CannotReadText = Unit {0}
IsExact Tell asked old (ends.NoScript end) = Unit {0}
IsExact Tell asked old ends.NoMemory = Unit {0}

-- What it means that a text is built.
use Rattle.std.specs.Prelude.{ℕ, ◌≡◌, List, None}
use Rattle.c_typed.specs.Chains.{graph_of}
use Rattle.c_typed.specs.Roots.{broken_root}
use Rattle.c_typed.specs.Trees.{Program}
use Rattle.call_graph.specs.Levels.{IsAcyclic}
use Rattle.hex_image.specs.HexFile.{IsHexFile}
use Rattle.hex_image.specs.HexText.{hex_text}
use Rattle.pic_map.specs.MapContent.{MapContent}
use Rattle.pic_map.specs.MapFile.{IsMapFile}
use Rattle.pic_map.specs.MapText.{map_text}
use Rattle.picc_core.specs.Compiled.{Build, plain}
use Rattle.picc_core.specs.Decided.{IsAcceptedBy}
use Rattle.picc_core.specs.Texts.{HasTree}
use Rattle.picc_core.specs.Typed.{IsTypedAs}

-- The text is accepted by the build. It has a tree, and by the rules on names and types a typed program, which breaks no rule on main and the
-- handler, in which no function reaches itself, and whose calls fit the return stack. The two files are a HEX file and a map file, each in the one
-- form that is written. The lines of the map are those of the program's objects and copies, where they are to stand. And the headline:
-- what the HEX file does on the chip, seen by the map, is what the program says. Which code the passes make of a program is no part of
-- it: that is said beside it (`IsMade`).
pub record IsBuiltBy (b : Build) (text hex map : List ℕ) : Type 0 where
  pub accepted : IsAcceptedBy b.Accepts text
  pub tree : HasTree text
  pub program : Program
  pub typed : IsTypedAs text program
  pub roots : broken_root program ≡ None
  pub acyclic : IsAcyclic (graph_of program)
  pub depth : ℕ
  pub within : b.TakesDepth program depth
  pub image : List ℕ
  pub content : MapContent
  pub hex_file : IsHexFile hex image
  pub written : hex ≡ hex_text image
  pub map_file : IsMapFile map content
  pub map_written : map ≡ map_text content
  pub placed : b.MapsTo program content.objects content.frames
  pub faithful : b.IsFaithful program content image

abbrev pub IsBuilt : List ℕ → List ℕ → List ℕ → Type 0
IsBuilt = IsBuiltBy plain

-- The sizes of a text's program.
use Rattle.std.specs.Prelude.{ℕ, ◌≡◌, List}
use Rattle.c_typed.specs.Trees.{Program}
use Rattle.call_graph.specs.Copies.{AreCopies, HasDepth}
use Rattle.call_graph.specs.declared.types.FnCopy.{FnCopy}
use Rattle.pic_map.specs.MapContent.{ObjectLine, FrameLine}
use Rattle.picc_core.specs.Blocks.{HasWords}
use Rattle.picc_core.specs.Texts.{HasTree}
use Rattle.picc_core.specs.Typed.{IsTypedAs}
use Rattle.ram_place.specs.Placement.{IsPlacing, addresses_covered}

-- The text has a tree, and these are the sizes of its typed program: the stated words of its blocks, how many addresses its objects and
-- frames cover, and the words of the return stack that its calls take.
pub record AreSizes (text : List ℕ) (words ram depth : ℕ) : Type 0 where
  pub tree : HasTree text
  pub program : Program
  pub typed : IsTypedAs text program
  pub copies : List FnCopy
  pub are_copies : AreCopies program copies
  pub has_depth : HasDepth program depth
  pub objects : List ObjectLine
  pub frames : List FrameLine
  pub placed : IsPlacing program copies objects frames
  pub covered : ram ≡ addresses_covered objects frames
  pub blocks : HasWords program words

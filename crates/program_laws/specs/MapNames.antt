-- The law, as it is read.
use Rattle.std.specs.Prelude.{◌≡◌, List}
use Rattle.std.specs.List.{All, AllPairs}
use Rattle.c_typed.specs.Trees.{Program}
use Rattle.call_graph.specs.Copies.{AreCopies}
use Rattle.call_graph.specs.declared.types.FnCopy.{FnCopy}
use Rattle.pic_map.specs.MapContent.{ObjectLine, FrameLine}
use Rattle.pic_map.specs.MapFile.{IsName}
use Rattle.ram_place.specs.Placement.{IsPlacing}
use Rattle.program_laws.specs.Named.{AreNamed}

-- two lines of frames differ in their root or in their name
abbrev pub AreOtherFrames : FrameLine → FrameLine → Type 0
AreOtherFrames f g = f.root ≡ g.root → f.name ≡ g.name → ⊥

-- Each line has a name as a map file has it, and each frame a root and a name of its own.
pub record HaveNames (os : List ObjectLine) (fs : List FrameLine) : Type 0 where
  pub objects : All (λ (line : ObjectLine). IsName line.name) os
  pub frames : All (λ (line : FrameLine). IsName line.name) fs
  pub apart : AllPairs AreOtherFrames fs

-- Where a program's names are those of a text, the lines of its objects and of the frames of its copies have names.
abbrev pub LinesAreNamed : Type 0
LinesAreNamed = (p : Program) (copies : List FnCopy) (objects : List ObjectLine) (frames : List FrameLine) → AreNamed p → AreCopies p copies → IsPlacing p copies objects frames → HaveNames objects frames

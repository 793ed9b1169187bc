-- A map file can tell the map of what the passes make, as far as its names are such as a map file has.
use Rattle.std.specs.Prelude.{ℕ, ◌≡◌, List, Some}
use Rattle.std.specs.List.{All}
use Rattle.c_typed.specs.Trees.{Program}
use Rattle.call_graph.specs.declared.types.FnCopy.{FnCopy}
use Rattle.core_code.specs.declared.code.CoreProgram.{CoreProgram}
use Rattle.pic_map.specs.MapContent.{MapContent, ObjectLine, FrameLine}
use Rattle.pic_map.specs.MapFile.{IsName}
use Rattle.pic_map.specs.MapText.{AreInRange}
use Rattle.pic_map.specs.declared.Placed.{Placed}
use Rattle.program_code.specs.Passed.{IsPassed}
use Rattle.ram_place.specs.Placement.{IsPlacing}
use Rattle.sym_code.specs.declared.code.BlockName.TheVariants.{Copy}
use Rattle.sym_code.specs.declared.code.Label.TheVariants.{Halt}
use Rattle.sym_code.specs.declared.code.SymBlock.{SymBlock}
use Rattle.code_place.specs.Places.{block_place, label_place}

abbrev pub MapsAreWritten : Type 0
MapsAreWritten =
    (p : Program) (copies : List FnCopy) (core : CoreProgram) (given made : List SymBlock) (placed : Placed) (at : List ℕ) (content : MapContent)
    → IsPassed p copies core given made placed at → IsPlacing p copies content.objects content.frames
    → block_place made at (Copy 0) ≡ Some content.main → label_place made at Halt ≡ Some content.halt
    → All (λ (line : ObjectLine). IsName line.name) content.objects → All (λ (line : FrameLine). IsName line.name) content.frames → AreInRange content

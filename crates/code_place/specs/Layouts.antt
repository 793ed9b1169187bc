-- The layout that objects and frames make where they are placed so, and the program that blocks make.
use Rattle.std.specs.Prelude.{ℕ, ◌/◌, List, map, Option}
use Rattle.pic_chip.specs.Run.{Range}
use Rattle.pic_map.specs.declared.FrameLine.{FrameLine}
use Rattle.pic_map.specs.declared.ObjLine.{ObjLine}
use Rattle.pic_map.specs.declared.Placed.{Placed}
use Rattle.sym_code.specs.Layout.{DataLayout, FrameRange}
use Rattle.sym_code.specs.Programs.{Program, block_in, no_tables}
use Rattle.sym_code.specs.declared.code.BlockName.{BlockName}
use Rattle.sym_code.specs.declared.code.SymBlock.{SymBlock}
use Rattle.code_place.specs.Instructions.{known}
use Rattle.code_place.specs.Pages.{page_words}
use Rattle.code_place.specs.Places.{block_place}

abbrev pub range_of : ObjLine → Range
range_of line = record { constant = line.fixed; address = line.address; size = line.size }

abbrev pub frame_of : FrameLine → FrameRange
frame_of line = record { root = line.root; address = line.address; size = line.size }

abbrev pub layout_of : Placed → DataLayout
layout_of placed = record { objects = map range_of placed.objects.items; frames = map frame_of placed.frames.items }

-- the program of some blocks, with the handler's copy where there is one; it has no table
abbrev pub program_of : List SymBlock → Option ℕ → Placed → Program
program_of blocks handler placed = record { block = block_in blocks; handler = handler; layout = layout_of placed; tables = no_tables }

-- the page of program memory in which a block stands
abbrev pub page_of : List SymBlock → List ℕ → BlockName → ℕ
page_of blocks at name = known (block_place blocks at name) / page_words

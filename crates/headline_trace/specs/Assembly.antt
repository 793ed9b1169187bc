-- What the chip is given of a program whose passes all answered: its image, its map, and how deep its calls go.
use Rattle.std.specs.Prelude.{ℕ, ◌≡◌, ◌<◌, ◌≤◌, List, [], length, map, Some, slice_get, slice_index_or}
use Rattle.std.specs.List.{All}
use Rattle.c_typed.specs.Trees.{Program}
use Rattle.call_graph.specs.Numbers.{handler_at}
use Rattle.call_graph.specs.declared.types.FnCopy.{FnCopy}
use Rattle.core_code.specs.declared.code.CoreProgram.{CoreProgram}
use Rattle.isr_save.specs.Start.{start_code}
use Rattle.lower_stmt.specs.Bodies.{first_bytes}
use Rattle.lower_stmt.specs.FirstBytes.{items_of}
use Rattle.lower_stmt.specs.Programs.{core_of}
use Rattle.pic_map.specs.MapContent.{MapContent, watch_of}
use Rattle.pic_map.specs.MapView.{object_of, frame_of}
use Rattle.pic_map.specs.declared.Placed.{Placed}
use Rattle.ram_place.specs.Placement.{IsPlacing}
use Rattle.select_wide.specs.Links.{IsFirst}
use Rattle.sym_code.specs.Layout.{object}
use Rattle.sym_code.specs.Programs.{block_in}
use Rattle.sym_code.specs.Selects.{bare}
use Rattle.sym_code.specs.declared.code.BlockName.TheVariants.{Start}
use Rattle.sym_code.specs.declared.code.SymBlock.{SymBlock}
use Rattle.chip_trace.specs.Arriving.{IsAssembled}
use Rattle.code_place.specs.Layouts.{layout_of}
use Rattle.program_code.specs.Passed.{IsPassed}
use Rattle.program_code.specs.Translated.{HasCalls, IsSpread, IsImage}
use Rattle.chip_trace.specs.Starting.{held_in}
use Rattle.headline_trace.specs.Linked.{full_setting}
use Rattle.headline_trace.specs.Selection.{limit_of}

-- Without its selects the start block is what sets each object to its first bytes, which are those of the program and have room.
pub record HasBeginning (p : Program) (copies : List FnCopy) (core : CoreProgram) (made : List SymBlock) (placed : Placed) : Type 0 where
  pub code : bare (block_in made Start) ≡ start_code (handler_at copies) core.statics.items
  pub sizes : (n : ℕ) → n < length core.statics.items → length (slice_index_or (held_in core.statics.items) n []) ≤ (object (layout_of placed) n).size
  pub first : All (All (IsFirst (held_in core.statics.items))) (held_in core.statics.items)
  pub statics_are : held_in core.statics.items ≡ (core_of p copies).first

abbrev pub BeginningIsHad : Type 0
BeginningIsHad =
    (p : Program) (copies : List FnCopy) (core : CoreProgram) (given made : List SymBlock) (placed : Placed) (at : List ℕ) → IsPassed p copies core given made placed at
    → IsPlacing p copies (map object_of placed.objects.items) (map frame_of placed.frames.items) → map items_of core.statics.items ≡ first_bytes p
    → HasBeginning p copies core made placed

-- All that the link between symbolic code and the chip is given.
abbrev pub AssemblyIsHad : Type 0
AssemblyIsHad =
    (p : Program) (copies : List FnCopy) (core : CoreProgram) (given made : List SymBlock) (placed : Placed) (at image : List ℕ) (content : MapContent)
    → IsPassed p copies core given made placed at → HasCalls p copies → IsSpread p copies placed → IsImage p core made placed at image content → slice_get at 0 ≡ Some 0
    → IsAssembled made at placed (handler_at copies) image (watch_of content) (full_setting made (handler_at copies) placed at (limit_of copies))

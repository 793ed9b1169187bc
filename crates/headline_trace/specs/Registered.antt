-- Which device registers the instructions of a program's blocks name: those that the program names.
use Rattle.std.specs.Prelude.{ℕ, ◌≡◌, ◌≤◌, Bool, true, List, length, map, Option, Some, slice_get}
use Rattle.c_typed.specs.Trees.{Program}
use Rattle.c_typed.specs.Views.{program_of}
use Rattle.c_typed.specs.declared.program.Typed.{Typed}
use Rattle.call_graph.specs.Numbers.{handler_at}
use Rattle.call_graph.specs.declared.types.FnCopy.{FnCopy}
use Rattle.chip_trace.specs.Keeping.{device_of, IsNamed}
use Rattle.core_code.specs.declared.code.CoreProgram.{CoreProgram}
use Rattle.flow_facts.specs.Thin.{IsThinned}
use Rattle.lower_stmt.specs.Bodies.{first_bytes}
use Rattle.lower_stmt.specs.FirstBytes.{items_of}
use Rattle.named_registers.specs.Registers.{names_register}
use Rattle.pic_map.specs.MapContent.{MapContent}
use Rattle.pic_map.specs.MapView.{object_of, frame_of}
use Rattle.pic_map.specs.declared.Placed.{Placed}
use Rattle.program_code.specs.Passed.{AreBlocks}
use Rattle.program_code.specs.Translated.{HasCalls, IsTranslation}
use Rattle.ram_place.specs.Placement.{IsPlacing}
use Rattle.sym_code.specs.Layout.{DataLayout}
use Rattle.sym_code.specs.Programs.{code_of}
use Rattle.sym_code.specs.declared.code.Sym.{Sym}
use Rattle.sym_code.specs.declared.code.SymBlock.{SymBlock}

-- an instruction's operand is no device register but one that is named
abbrev pub NamesOnly : (ℕ → Bool) → Sym → Type 0
NamesOnly named s = (address : ℕ) → device_of s ≡ Some address → named address ≡ true

-- so it is with each instruction of the blocks
abbrev pub BlocksNameOnly : (ℕ → Bool) → List SymBlock → Type 0
BlocksNameOnly named blocks = (k : ℕ) (block : SymBlock) → slice_get blocks k ≡ Some block → (i : ℕ) (s : Sym) → slice_get block.list.items i ≡ Some s → NamesOnly named s

-- In what the passes make of a program, whichever of them change anything, each device register that an instruction has as its operand is
-- one that a node of the program names. Helpers' routines and the start block name none.
abbrev pub MadeNameRegisters : Type 0
MadeNameRegisters =
    (typed : Typed) (copies : List FnCopy) (core : CoreProgram) (given lean whole made : List SymBlock) (placed : Placed) (at : List ℕ) → AreBlocks (program_of typed) copies core given lean whole placed → IsThinned (handler_at copies) at whole made → HasCalls (program_of typed) copies
    → IsPlacing (program_of typed) copies (map object_of placed.objects.items) (map frame_of placed.frames.items) → map items_of core.statics.items ≡ first_bytes (program_of typed)
    → length (program_of typed).statics ≤ 65535 → BlocksNameOnly (names_register (program_of typed)) made

-- So a register that the code names, of which an image and a map are made, is one that the program names.
abbrev pub CodeNamesRegisters : Type 0
CodeNamesRegisters =
    (p : Program) (copies : List FnCopy) (core : CoreProgram) (given made : List SymBlock) (placed : Placed) (at image : List ℕ) (content : MapContent) → IsTranslation p copies core given made placed at image content
    → (handler : Option ℕ) (layout : DataLayout) (address : ℕ) → IsNamed (code_of made handler layout) address → names_register p address ≡ true

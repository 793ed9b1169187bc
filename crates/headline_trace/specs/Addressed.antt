-- That what the instructions of a program's blocks name has an address: their bytes, and those whose address is a literal.
use Rattle.std.specs.Prelude.{ℕ, ◌≡◌, ◌≤◌, true, List, length, map, Some, None, slice_get}
use Rattle.std.specs.List.{All, AllZip}
use Rattle.c_typed.specs.Roots.{broken_root}
use Rattle.c_typed.specs.Sound.{is_sound}
use Rattle.c_typed.specs.Views.{program_of}
use Rattle.c_typed.specs.declared.program.Typed.{Typed}
use Rattle.call_graph.specs.Numbers.{handler_at}
use Rattle.call_graph.specs.declared.types.FnCopy.{FnCopy}
use Rattle.core_code.specs.declared.code.CoreProgram.{CoreProgram}
use Rattle.lower_stmt.specs.Bodies.{body_of, bodies_of, first_bytes}
use Rattle.lower_stmt.specs.FirstBytes.{items_of}
use Rattle.pic_map.specs.MapView.{object_of, frame_of}
use Rattle.pic_map.specs.declared.Placed.{Placed}
use Rattle.program_code.specs.Joined.{IsJoined}
use Rattle.program_code.specs.Passed.{AreBlocks, IsByteCode}
use Rattle.program_code.specs.Translated.{HasCalls}
use Rattle.ram_place.specs.Placement.{IsPlacing}
use Rattle.src_rules.specs.Numbers.{ProgramHasNumbers}
use Rattle.sym_code.specs.declared.code.SymBlock.{SymBlock}
use Rattle.bank_page.specs.Near.{AreNear, KeepNear}
use Rattle.bank_page.specs.Selected.{bare_lists}
use Rattle.flow_facts.specs.Thin.{IsThinned}
use Rattle.program_code.specs.Leaner.{IsLeaner}
use Rattle.program_code.specs.There.{HaveOperands, StandInside}

abbrev pub BlocksHaveOperands : Placed → List SymBlock → Type 0
BlocksHaveOperands placed blocks = (k : ℕ) (block : SymBlock) → slice_get blocks k ≡ Some block → HaveOperands placed block.list.items

abbrev pub BlocksStandInside : Placed → List SymBlock → Type 0
BlocksStandInside placed blocks = All (λ (block : SymBlock). StandInside placed block.list.items) blocks

-- Of a sound program, byte code of its copies, with operators on low bytes or as it is, and the blocks that are joined from it, each instruction's byte has an address where the
-- program's objects and frames are placed, and one of a frame stands within it. The number of a static object has two bytes.
abbrev pub OperandsHaveAddresses : Type 0
OperandsHaveAddresses =
    (typed : Typed) (copies : List FnCopy) (lowered core : CoreProgram) (given : List SymBlock) (placed : Placed) → is_sound (program_of typed) ≡ true → broken_root (program_of typed) ≡ None → ProgramHasNumbers (program_of typed)
    → map body_of lowered.bodies.items ≡ bodies_of (program_of typed) copies → IsByteCode lowered core → IsJoined core copies given → HasCalls (program_of typed) copies
    → IsPlacing (program_of typed) copies (map object_of placed.objects.items) (map frame_of placed.frames.items) → map items_of core.statics.items ≡ first_bytes (program_of typed)
    → length (program_of typed).statics ≤ 65535 → BlocksHaveOperands placed given × BlocksStandInside placed given

-- Selects name no byte, so blocks that differ in their selects alone have that in common.
abbrev pub SelectsKeepOperands : Type 0
SelectsKeepOperands = (placed : Placed) (given made : List SymBlock) → bare_lists made ≡ bare_lists given → BlocksHaveOperands placed given → BlocksHaveOperands placed made

-- Leaner blocks name no other byte; so what is made of them, with the selects that are left, has it too.
abbrev pub LeanKeepsOperands : Type 0
LeanKeepsOperands = (placed : Placed) (given lean : List SymBlock) → AllZip IsLeaner given lean → BlocksHaveOperands placed given → BlocksHaveOperands placed lean

abbrev pub MadeHaveOperands : Type 0
MadeHaveOperands =
    (typed : Typed) (copies : List FnCopy) (core : CoreProgram) (given lean whole made : List SymBlock) (placed : Placed) (at : List ℕ) → AreBlocks (program_of typed) copies core given lean whole placed → IsThinned (handler_at copies) at whole made → HasCalls (program_of typed) copies
    → IsPlacing (program_of typed) copies (map object_of placed.objects.items) (map frame_of placed.frames.items) → map items_of core.statics.items ≡ first_bytes (program_of typed)
    → length (program_of typed).statics ≤ 65535 → BlocksHaveOperands placed made

-- ---- below 100h
abbrev pub BlocksAreNear : Placed → List SymBlock → Type 0
BlocksAreNear placed blocks = (k : ℕ) (block : SymBlock) → slice_get blocks k ≡ Some block → AreNear placed block.list.items

-- Where objects and frames end below 100h, so does all that the blocks of a program name, leaner ones too: no select of what becomes of them
-- sets RP1.
abbrev pub WholeKeepNear : Type 0
WholeKeepNear =
    (typed : Typed) (copies : List FnCopy) (core : CoreProgram) (given lean whole : List SymBlock) (placed : Placed) → AreBlocks (program_of typed) copies core given lean whole placed → HasCalls (program_of typed) copies
    → IsPlacing (program_of typed) copies (map object_of placed.objects.items) (map frame_of placed.frames.items) → map items_of core.statics.items ≡ first_bytes (program_of typed)
    → length (program_of typed).statics ≤ 65535 → KeepNear placed whole

-- No block with its selects has more words than are stated of it, where the code is as it was selected; of leaner code that is tested when
-- the compiler runs. So each has room where blocks of the stated words are placed.
use Rattle.std.specs.Prelude.{ℕ, suc, ◌≡◌, ◌<◌, List, length, map, Some, slice_get}
use Rattle.c_typed.specs.Trees.{Program}
use Rattle.c_typed.specs.Views.{program_of}
use Rattle.c_typed.specs.declared.program.Typed.{Typed}
use Rattle.call_graph.specs.Copies.{AreCopies}
use Rattle.call_graph.specs.Numbers.{handler_at}
use Rattle.call_graph.specs.declared.types.FnCopy.{FnCopy}
use Rattle.core_code.specs.declared.code.CoreProgram.{CoreProgram}
use Rattle.lower_stmt.specs.Bodies.{body_of, bodies_of, first_bytes}
use Rattle.lower_stmt.specs.FirstBytes.{items_of}
use Rattle.pic_map.specs.MapView.{object_of, frame_of}
use Rattle.pic_map.specs.declared.Placed.{Placed}
use Rattle.program_code.specs.Passed.{AreBlocks}
use Rattle.program_code.specs.Stated.{IsPaged, AreStated}
use Rattle.program_code.specs.Translated.{HasCalls}
use Rattle.ram_place.specs.Placement.{IsPlacing}
use Rattle.sym_code.specs.declared.code.BlockName.TheVariants.{Start, Copy}
use Rattle.sym_code.specs.declared.code.SymBlock.{SymBlock}
use Rattle.code_place.specs.Sizes.{Fit}
use Rattle.flow_facts.specs.Thin.{IsThinned}

-- ---- stated words
-- Each block of a typed program with its selects has at most its stated words, where byte code is as it is lowered;
abbrev pub BlocksAreStated : Type 0
BlocksAreStated =
    (typed : Typed) (copies : List FnCopy) (core : CoreProgram) (given made : List SymBlock) (placed : Placed)
    → AreBlocks (program_of typed) copies core given given made placed → map body_of core.bodies.items ≡ bodies_of (program_of typed) copies → HasCalls (program_of typed) copies
    → IsPlacing (program_of typed) copies (map object_of placed.objects.items) (map frame_of placed.frames.items)
    → map items_of core.statics.items ≡ first_bytes (program_of typed) → AreStated (program_of typed) copies made

-- so it has without the selects that flow facts make needless.
abbrev pub TranslationsAreStated : Type 0
TranslationsAreStated =
    (typed : Typed) (copies : List FnCopy) (core : CoreProgram) (given whole made : List SymBlock) (placed : Placed) (at : List ℕ)
    → AreBlocks (program_of typed) copies core given given whole placed → map body_of core.bodies.items ≡ bodies_of (program_of typed) copies → IsThinned (handler_at copies) at whole made → HasCalls (program_of typed) copies
    → IsPlacing (program_of typed) copies (map object_of placed.objects.items) (map frame_of placed.frames.items)
    → map items_of core.statics.items ≡ first_bytes (program_of typed) → AreStated (program_of typed) copies made

-- ---- room
-- the block is that of this copy
pub record IsBlockFor (copies order : List FnCopy) (k : ℕ) (block : SymBlock) : Type 0 where
  pub number : ℕ
  pub copy : FnCopy
  pub named : block.name ≡ Copy number
  pub there : slice_get copies number ≡ Some copy
  pub in_order : slice_get order k ≡ Some copy

-- Behind the start block the blocks stand in the order of these copies.
pub record AreInOrder (copies order : List FnCopy) (made : List SymBlock) : Type 0 where
  pub first : (block : SymBlock) → slice_get made 0 ≡ Some block → block.name ≡ Start
  pub behind : (k : ℕ) (block : SymBlock) → slice_get made (suc k) ≡ Some block → IsBlockFor copies order k block

-- Where the addresses are those of the stated words in this order, each block has room.
abbrev pub BlocksFit : Type 0
BlocksFit =
    (p : Program) (copies : List FnCopy) (made : List SymBlock) (at : List ℕ) → (paged : IsPaged p copies at) → AreInOrder copies paged.order made
    → AreStated p copies made → Fit made at

-- What the passes make of a typed program stands in the order in which its words were given,
abbrev pub BlocksAreInOrder : Type 0
BlocksAreInOrder =
    (typed : Typed) (copies : List FnCopy) (core : CoreProgram) (given lean made : List SymBlock) (placed : Placed) (at : List ℕ)
    → AreBlocks (program_of typed) copies core given lean made placed → HasCalls (program_of typed) copies → (paged : IsPaged (program_of typed) copies at)
    → AreInOrder copies paged.order made

-- so each of its blocks has room at its address, leaner or not, where none has more words than are stated of it.
abbrev pub TranslationsFit : Type 0
TranslationsFit =
    (typed : Typed) (copies : List FnCopy) (core : CoreProgram) (given lean whole made : List SymBlock) (placed : Placed) (at : List ℕ)
    → AreBlocks (program_of typed) copies core given lean whole placed → IsThinned (handler_at copies) at whole made → HasCalls (program_of typed) copies → IsPaged (program_of typed) copies at
    → AreStated (program_of typed) copies made → Fit made at

-- A program whose blocks have addresses has few copies, since each block has a word.
abbrev pub CopiesAreFew : Type 0
CopiesAreFew = (p : Program) (copies : List FnCopy) (at : List ℕ) → IsPaged p copies at → AreCopies p copies → length copies < 8192

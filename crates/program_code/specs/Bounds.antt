-- What is promised of the words of blocks.
use Rattle.std.specs.Prelude.{◌≡◌, ℕ, ◌/◌, ◌<◌, ◌≤◌, true, false, List, [], ◌∷◌, Some, slice_get, map}
use Rattle.c_typed.specs.Calls.{statements_calls}
use Rattle.c_typed.specs.Room.{frame_size}
use Rattle.c_typed.specs.Sound.{is_sound}
use Rattle.c_typed.specs.Views.{program_of}
use Rattle.c_typed.specs.declared.program.Typed.{Typed}
use Rattle.c_typed.specs.Trees.{StructureTree, FunctionTree, Program}
use Rattle.c_typed.specs.declared.calls.FnId.TheVariants as callee
use Rattle.call_graph.specs.Copies.{AreCopies, HasDepth}
use Rattle.call_graph.specs.declared.types.FnCopy.{FnCopy}
use Rattle.ram_place.specs.Sizes.{block_words}
use Rattle.core_code.specs.View.{trees_in}
use Rattle.core_code.specs.declared.code.Body.{Body}
use Rattle.core_code.specs.declared.code.Byte.TheVariants as bytes
use Rattle.pic_map.specs.declared.Placed.{Placed}
use Rattle.sym_code.specs.Selects.{bare}
use Rattle.sym_code.specs.Words.{words_in}
use Rattle.sym_code.specs.declared.code.Sym.{Sym}
use Rattle.sym_code.specs.declared.code.SymBlock.{SymBlock}
use Rattle.code_place.specs.Addresses.{address_of}
use Rattle.bank_page.specs.Kinds.{byte_of}
use Rattle.bank_page.specs.Selected.{IsExact}
use Rattle.lower_stmt.specs.Bodies.{body_code}
use Rattle.lower_stmt.specs.Frames.{layout_for, ground_for}
use Rattle.select_wide.specs.Blocks.{block_code}
use Rattle.sym_code.specs.Layout.{frame, is_whole}
use Rattle.code_place.specs.Layouts.{layout_of}
use Rattle.program_code.specs.Naming.{HaveCopies}
use Rattle.program_code.specs.Counting.{counted}

-- a byte of the copy's frame stands in this bank
abbrev pub IsBanked : Placed → ℕ → ℕ → ℕ → Type 0
IsBanked placed c bank offset = (at : ℕ) × (address_of placed (bytes.Frame c offset) ≡ Some at) × (at / 128 ≡ bank)

-- each byte of the copy's frame that the instructions name stands in this bank
abbrev pub AreBanked : Placed → ℕ → ℕ → List Sym → Type 0
AreBanked placed c bank [] = Unit {0}
AreBanked placed c bank (s ∷ list) = ((offset : ℕ) → byte_of s ≡ Some (bytes.Frame c offset) → IsBanked placed c bank offset) × AreBanked placed c bank list

-- What becomes of a block without selects has at most the words that are counted for it.
abbrev pub SelectsAreCounted : Type 0
SelectsAreCounted =
    (placed : Placed) (given made : SymBlock) (c bank : ℕ) → IsExact placed given made → bare given.list.items ≡ given.list.items → AreBanked placed c bank given.list.items
    → words_in made.list.items ≤ counted c false false given.list.items

-- A program that keeps its typing rules, with the bytes of each structure once more.
pub record IsProgram (p : Program) : Type 0 where
  pub sound : is_sound p ≡ true
  pub sizes : p.sizes ≡ map (λ (s : StructureTree). s.size) p.structures

-- The definitions' program of a typed one keeps the bytes of each structure, so it is one where it is sound.
abbrev pub ProgramsKeepSizes : Type 0
ProgramsKeepSizes = (p : Typed) → is_sound (program_of p) ≡ true → IsProgram (program_of p)

-- Each function that a copy's function calls has a copy under the same root, since chains of calls are no longer than the program's depth.
abbrev pub CalledHaveCopies : Type 0
CalledHaveCopies =
    (p : Program) (copies : List FnCopy) (depth number function : ℕ) (copy : FnCopy) (f : FunctionTree) → is_sound p ≡ true → AreCopies p copies → HasDepth p depth → slice_get copies number ≡ Some copy → copy.function ≡ callee.User function → slice_get p.functions function ≡ Some f
    → HaveCopies (layout_for p copies copy.root f).copies (statements_calls f.body)

-- The code that is selected for the body of a function's copy, as it is lowered under the copy's root. The copies are those of the
-- program, and its chains of calls have a depth.
pub record IsCodeOf (p : Program) (copies : List FnCopy) (number : ℕ) (f : FunctionTree) (list : List Sym) : Type 0 where
  pub copy : FnCopy
  pub there : slice_get copies number ≡ Some copy
  pub function : ℕ
  pub is_function : copy.function ≡ callee.User function
  pub found : slice_get p.functions function ≡ Some f
  pub body : Body
  pub under : body.root ≡ copy.root
  pub lowered : trees_in body.code.items ≡ body_code (ground_for p copies number body.root f) f
  pub selected : list ≡ block_code copies number body
  pub known : AreCopies p copies
  pub depth : ℕ
  pub deep : HasDepth p depth

-- the block with such code
abbrev pub IsBlockOf : Program → List FnCopy → ℕ → FunctionTree → SymBlock → Type 0
IsBlockOf p copies number f block = IsCodeOf p copies number f block.list.items

-- Where frames stand, this one has room for the function's bytes, and stands whole in a bank.
pub record HasFrame (p : Program) (placed : Placed) (number : ℕ) (f : FunctionTree) : Type 0 where
  pub room : frame_size p.sizes f ≤ (frame (layout_of placed) number).size
  pub whole : is_whole (frame (layout_of placed) number).address (frame (layout_of placed) number).size ≡ true

-- Selection puts no select into the block of a function's copy.
abbrev pub BlocksAreBare : Type 0
BlocksAreBare = (p : Program) (copies : List FnCopy) (number : ℕ) (f : FunctionTree) (given : SymBlock) → IsProgram p → IsBlockOf p copies number f given → bare given.list.items ≡ given.list.items

-- an instruction names no byte of the copy's frame beyond so many
abbrev pub NamesWithin : ℕ → ℕ → List Sym → Type 0
NamesWithin c size [] = Unit {0}
NamesWithin c size (s ∷ list) = ((offset : ℕ) → byte_of s ≡ Some (bytes.Frame c offset) → offset < size) × NamesWithin c size list

-- The block of a function's copy names no byte of its frame beyond the stated ones.
abbrev pub BlocksKeepWithin : Type 0
BlocksKeepWithin = (p : Program) (copies : List FnCopy) (number : ℕ) (f : FunctionTree) (given : SymBlock) → IsProgram p → IsBlockOf p copies number f given → NamesWithin number (frame_size p.sizes f) given.list.items

-- The block of each copy of a function has at most the function's stated words, its selects among them.
abbrev pub WordsAreStated : Type 0
WordsAreStated =
    (p : Program) (copies : List FnCopy) (placed : Placed) (number : ℕ) (f : FunctionTree) (given made : SymBlock) → IsProgram p → (block : IsBlockOf p copies number f given) → IsExact placed given made → HasFrame p placed number f
    → words_in made.list.items ≤ block_words p (callee.User block.function)

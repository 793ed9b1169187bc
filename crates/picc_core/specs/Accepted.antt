-- When a typed program is accepted, and which refusal is its first otherwise. What comes before (tokens, trees, types) is said of
-- the text; here the order is: main and the handler; recursion; the return stack; data memory; a block over a page; all blocks.
use Rattle.std.specs.Prelude.{ℕ, ◌≡◌, ◌<◌, ◌≤◌, ◌⊎◌, true, List, length, sum, Some, None}
use Rattle.std.specs.List.{Contains}
use Rattle.std.specs.List.Sorted.{IsNonDecreasingBy, IsPermutation}
use Rattle.c_typed.specs.Chains.{graph_of}
use Rattle.c_typed.specs.Roots.{broken_root}
use Rattle.c_typed.specs.Sound.{is_sound}
use Rattle.c_typed.specs.Trees.{Program}
use Rattle.c_typed.specs.declared.calls.FnId.TheVariants as callee
use Rattle.call_graph.specs.Copies.{AreCopies, HasDepth, name_at}
use Rattle.call_graph.specs.Levels.{IsAcyclic, IsFirstRecursive}
use Rattle.call_graph.specs.declared.types.FnCopy.{FnCopy}
use Rattle.code_place.specs.Pages.{page_words, addresses, AreWithinPages, AreInMemory, PassesMemory}
use Rattle.pic_map.specs.MapContent.{ObjectLine, FrameLine}
use Rattle.ram_place.specs.Placement.{whole_below, IsPlacingIn, LacksObject, LacksFrame}
use Rattle.program_code.specs.Order.{rank}
use Rattle.program_code.specs.Stated.{copy_words, sizes}
use Rattle.picc_core.specs.declared.refusal.Refusal.{Refusal}
use Rattle.picc_core.specs.declared.refusal.Refusal.TheVariants.{Lex, Word, Directive, Syntax, Typing, Recursion, Roots, Depth, Ram, Code, Page, Limit}

-- ---- the order of code
-- The copies of main's root stand first, within a root the functions in order of definition, and helpers behind them.
pub record IsCodeOrder (copies order : List FnCopy) : Type 0 where
  pub same : IsPermutation copies order
  pub sorted : IsNonDecreasingBy rank order

-- ---- each part
-- its calls fit the return stack, which has eight words
pub record FitsStack (p : Program) : Type 0 where
  pub depth : ℕ
  pub exact : HasDepth p depth
  pub within : depth ≤ 8

-- its objects and the frames of its copies have addresses below the top of memory
pub record FitsMemoryBelow (top : ℕ) (p : Program) (copies : List FnCopy) : Type 0 where
  pub objects : List ObjectLine
  pub frames : List FrameLine
  pub placing : IsPlacingIn (whole_below p top) p copies objects frames

-- and in the whole memory
abbrev pub FitsMemory : Program → List FnCopy → Type 0
FitsMemory = FitsMemoryBelow 0x200

-- the block of a function's copy has more words than these
pub record IsOver (most : ℕ) (p : Program) (copies : List FnCopy) (number words : ℕ) : Type 0 where
  pub copy : FnCopy
  pub among : Contains copies copy
  pub function : copy.function ≡ callee.User number
  pub stated : words ≡ copy_words p copy
  pub over : most < words

-- of all of them the one that is defined first
pub record IsFirstOver (most : ℕ) (p : Program) (copies : List FnCopy) (name : List ℕ) (words : ℕ) : Type 0 where
  pub number : ℕ
  pub over : IsOver most p copies number words
  pub first : (other more : ℕ) → IsOver most p copies other more → number ≤ other
  pub named : name ≡ name_at p number

-- it is over a page
abbrev pub IsOverPage : Program → List FnCopy → ℕ → ℕ → Type 0
IsOverPage = IsOver page_words

abbrev pub IsFirstOverPage : Program → List FnCopy → List ℕ → ℕ → Type 0
IsFirstOverPage = IsFirstOver page_words

-- the first function that reaches itself
pub record IsRecursive (p : Program) (name : List ℕ) : Type 0 where
  pub number : ℕ
  pub there : number < length p.functions
  pub first : IsFirstRecursive (graph_of p) number
  pub named : name ≡ name_at p number

-- ---- the whole
-- A program of sound types is accepted: these are its copies, in the order of placing and in that of code.
pub record IsAccepted (p : Program) (copies order : List FnCopy) : Type 0 where
  pub typed : is_sound p ≡ true
  pub roots : broken_root p ≡ None
  pub acyclic : IsAcyclic (graph_of p)
  pub stack : FitsStack p
  pub known : AreCopies p copies
  pub memory : FitsMemory p copies
  pub in_order : IsCodeOrder copies order
  pub pages : AreWithinPages (sizes p order)
  pub code : AreInMemory (addresses (sizes p order))

-- up to its data memory nothing is wrong with it
pub record IsPlaceable (p : Program) (copies : List FnCopy) : Type 0 where
  pub roots : broken_root p ≡ None
  pub acyclic : IsAcyclic (graph_of p)
  pub stack : FitsStack p
  pub known : AreCopies p copies

-- all blocks are within pages, but pass the last one
pub record PassesPages (p : Program) (copies : List FnCopy) (words : ℕ) : Type 0 where
  pub order : List FnCopy
  pub in_order : IsCodeOrder copies order
  pub pages : AreWithinPages (sizes p order)
  pub passes : PassesMemory (addresses (sizes p order))
  pub total : words ≡ sum (sizes p order)

-- a program is accepted, with these copies
pub record AreAccepted (p : Program) (copies : List FnCopy) : Type 0 where
  pub order : List FnCopy
  pub accepted : IsAccepted p copies order

-- The first refusal of a program with sound types.
abbrev pub IsFirstRefusal : Program → Refusal → Type 0
IsFirstRefusal p (Roots kind) = broken_root p ≡ Some kind
IsFirstRefusal p (Recursion name) = (broken_root p ≡ None) × IsRecursive p name.items
IsFirstRefusal p (Depth depth) = (broken_root p ≡ None) × IsAcyclic (graph_of p) × HasDepth p depth × (8 < depth)
IsFirstRefusal p (Ram name) = (copies : List FnCopy) × IsPlaceable p copies × (LacksObject p name.items ⊎ LacksFrame p copies name.items)
IsFirstRefusal p (Page name words) = (copies : List FnCopy) × IsPlaceable p copies × FitsMemory p copies × IsFirstOverPage p copies name.items words
IsFirstRefusal p (Code words) = (copies : List FnCopy) × IsPlaceable p copies × FitsMemory p copies × PassesPages p copies words
IsFirstRefusal p (Lex line) = ⊥
IsFirstRefusal p (Word line) = ⊥
IsFirstRefusal p (Directive line) = ⊥
IsFirstRefusal p (Syntax line) = ⊥
IsFirstRefusal p (Typing kind line) = ⊥
IsFirstRefusal p (Limit kind line) = ⊥

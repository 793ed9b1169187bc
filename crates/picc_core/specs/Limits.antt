-- Acceptance within limits that are the chip's or lower: of data memory, of the words of a block, and of the words in all.
use Rattle.std.specs.Prelude.{ℕ, ◌≡◌, ◌<◌, ◌≤◌, ◌⊎◌, List, sum}
use Rattle.c_typed.specs.Trees.{Program}
use Rattle.call_graph.specs.declared.types.FnCopy.{FnCopy}
use Rattle.code_place.specs.Pages.{addresses, AreWithinPages, PassesMemory}
use Rattle.ram_place.specs.Placement.{whole_below, LacksObjectIn, LacksFrameIn}
use Rattle.program_code.specs.Stated.{sizes}
use Rattle.picc_core.specs.Accepted.{AreAccepted, FitsMemoryBelow, IsCodeOrder, IsFirstOver, IsFirstRefusal, IsOver, IsPlaceable}
use Rattle.picc_core.specs.declared.limits.Limits.{Limits}
use Rattle.picc_core.specs.declared.refusal.Refusal.{Refusal}
use Rattle.picc_core.specs.declared.refusal.Refusal.TheVariants.{Lex, Word, Directive, Syntax, Typing, Recursion, Roots, Depth, Ram, Code, Page, Limit}

-- those of the PIC16F877A: data memory ends at 200h, a page has 2,048 words, and program memory 8,192
abbrev pub whole_chip : Limits
whole_chip = record { top_of_memory = 0x200; words_of_block = 2048; words = 8192 }

-- those of the PIC16F84A, as far as both chips have memory: data memory from 20h on ends at 50h, and program memory has 1,024 words
abbrev pub second_chip : Limits
second_chip = record { top_of_memory = 0x50; words_of_block = 1024; words = 1024 }

-- no function's block has more words than the limit
abbrev pub NoneIsOver : ℕ → Program → List FnCopy → Type 0
NoneIsOver most p copies = (number words : ℕ) → IsOver most p copies number words → ⊥

-- what is asked for beyond what any program is asked for
pub record AreWithin (limits : Limits) (p : Program) (copies : List FnCopy) : Type 0 where
  pub memory : FitsMemoryBelow limits.top_of_memory p copies
  pub blocks : NoneIsOver limits.words_of_block p copies
  pub order : List FnCopy
  pub in_order : IsCodeOrder copies order
  pub words : sum (sizes p order) ≤ limits.words

-- a program is accepted within the limits, with these copies
pub record AreAcceptedWithin (limits : Limits) (p : Program) (copies : List FnCopy) : Type 0 where
  pub accepted : AreAccepted p copies
  pub within : AreWithin limits p copies

-- no block is over its limit, but they pass the last page or have more words in all
pub record PassesWords (limits : Limits) (p : Program) (copies : List FnCopy) (words : ℕ) : Type 0 where
  pub blocks : NoneIsOver limits.words_of_block p copies
  pub order : List FnCopy
  pub in_order : IsCodeOrder copies order
  pub pages : AreWithinPages (sizes p order)
  pub passes : PassesMemory (addresses (sizes p order)) ⊎ (limits.words < sum (sizes p order))
  pub total : words ≡ sum (sizes p order)

-- The first refusal of a program with sound types: the order is that of a program without further limits.
abbrev pub IsFirstRefusalWithin : Limits → Program → Refusal → Type 0
IsFirstRefusalWithin limits p (Ram name) =
    (copies : List FnCopy) × IsPlaceable p copies × (LacksObjectIn (whole_below p limits.top_of_memory) p name.items ⊎ LacksFrameIn (whole_below p limits.top_of_memory) p copies name.items)
IsFirstRefusalWithin limits p (Page name words) =
    (copies : List FnCopy) × IsPlaceable p copies × FitsMemoryBelow limits.top_of_memory p copies × IsFirstOver limits.words_of_block p copies name.items words
IsFirstRefusalWithin limits p (Code words) = (copies : List FnCopy) × IsPlaceable p copies × FitsMemoryBelow limits.top_of_memory p copies × PassesWords limits p copies words
IsFirstRefusalWithin limits p (Roots kind) = IsFirstRefusal p (Roots kind)
IsFirstRefusalWithin limits p (Recursion name) = IsFirstRefusal p (Recursion name)
IsFirstRefusalWithin limits p (Depth depth) = IsFirstRefusal p (Depth depth)
IsFirstRefusalWithin limits p (Lex line) = ⊥
IsFirstRefusalWithin limits p (Word line) = ⊥
IsFirstRefusalWithin limits p (Directive line) = ⊥
IsFirstRefusalWithin limits p (Syntax line) = ⊥
IsFirstRefusalWithin limits p (Typing kind line) = ⊥
IsFirstRefusalWithin limits p (Limit kind line) = ⊥

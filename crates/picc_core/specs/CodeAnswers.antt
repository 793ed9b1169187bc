-- What is said of a typed program whose blocks have no addresses.
use Rattle.std.specs.Prelude.{ℕ, ◌≡◌, ◌<◌, ◌≤◌, nat_lt, if◌then◌else◌, List, Option, Some, None}
use Rattle.std.specs.List.{Contains}
use Rattle.c_typed.specs.Trees.{Program}
use Rattle.call_graph.specs.declared.types.FnCopy.{FnCopy}
use Rattle.code_place.specs.Pages.{page_words}
use Rattle.code_place.specs.declared.PageError.{PageError}
use Rattle.code_place.specs.declared.PageError.TheVariants as pages
use Rattle.program_code.specs.Stated.{copy_words}
use Rattle.picc_core.specs.Accepted.{IsOver, IsFirstOverPage, IsFirstOver, PassesPages}
use Rattle.picc_core.specs.Limits.{NoneIsOver, PassesWords}
use Rattle.picc_core.specs.declared.limits.Limits.{Limits}
use Rattle.picc_core.specs.declared.refusal.CompileError.{CompileError}
use Rattle.picc_core.specs.declared.refusal.CompileError.TheVariants.{NoMemory, Refused}
use Rattle.picc_core.specs.declared.refusal.Refusal.{Refusal}
use Rattle.picc_core.specs.declared.refusal.Refusal.TheVariants.{Lex, Word, Directive, Syntax, Typing, Recursion, Roots, Depth, Ram, Code, Page, Limit}
use Rattle.picc_core.specs.declared.stages.OverPage.{OverPage}

-- Of the functions whose blocks have more words than these the one that is defined first, or that there is none.
abbrev pub TellsFirstOver : ℕ → Program → List FnCopy → Option OverPage → Type 0
TellsFirstOver most p copies None = NoneIsOver most p copies
TellsFirstOver most p copies (Some found) = IsOver most p copies found.number found.words × ((other more : ℕ) → IsOver most p copies other more → found.number ≤ other)

-- of two such functions the one that is defined first
abbrev pub earlier : Option OverPage → Option OverPage → Option OverPage
earlier None next = next
earlier (Some first) None = Some first
earlier (Some first) (Some second) = if nat_lt second.number first.number then Some second else Some first

-- a function's block is over a page, or all blocks pass the last one
abbrev pub IsOfCode : Program → List FnCopy → Refusal → Type 0
IsOfCode p copies (Page name words) = IsFirstOverPage p copies name.items words
IsOfCode p copies (Code words) = PassesPages p copies words
IsOfCode p copies (Lex line) = ⊥
IsOfCode p copies (Word line) = ⊥
IsOfCode p copies (Directive line) = ⊥
IsOfCode p copies (Syntax line) = ⊥
IsOfCode p copies (Typing kind line) = ⊥
IsOfCode p copies (Recursion name) = ⊥
IsOfCode p copies (Roots kind) = ⊥
IsOfCode p copies (Depth depth) = ⊥
IsOfCode p copies (Ram name) = ⊥
IsOfCode p copies (Limit kind line) = ⊥

abbrev pub TellsCode : Program → List FnCopy → CompileError → Type 0
TellsCode p copies NoMemory = Unit {0}
TellsCode p copies (Refused refusal) = IsOfCode p copies refusal

-- The error of the placing of blocks as one of a text: one over a page is told by the name of a function.
abbrev pub Explains : Program → List FnCopy → PageError → CompileError → Type 0
Explains p copies pages.NoMemory told = told ≡ NoMemory
Explains p copies (pages.Page block words) told = TellsCode p copies told
Explains p copies (pages.Code words) told = told ≡ Refused (Code words)

-- the block of some copy is over a page
pub record SomeIsOver (p : Program) (copies : List FnCopy) : Type 0 where
  pub copy : FnCopy
  pub among : Contains copies copy
  pub over : page_words < copy_words p copy

-- Where the error of the placing names a block over a page, it is that of a copy.
abbrev pub IsOfCopy : Program → List FnCopy → PageError → Type 0
IsOfCopy p copies pages.NoMemory = Unit {0}
IsOfCopy p copies (pages.Page block words) = SomeIsOver p copies
IsOfCopy p copies (pages.Code words) = Unit {0}

-- ---- within limits
abbrev pub IsOfCodeWithin : Limits → Program → List FnCopy → Refusal → Type 0
IsOfCodeWithin limits p copies (Page name words) = IsFirstOver limits.words_of_block p copies name.items words
IsOfCodeWithin limits p copies (Code words) = PassesWords limits p copies words
IsOfCodeWithin limits p copies refusal = IsOfCode p copies refusal

abbrev pub TellsCodeWithin : Limits → Program → List FnCopy → CompileError → Type 0
TellsCodeWithin limits p copies NoMemory = Unit {0}
TellsCodeWithin limits p copies (Refused refusal) = IsOfCodeWithin limits p copies refusal

-- What the answers of the placing say of the blocks.
use Rattle.std.specs.Prelude.{◌≡◌, ℕ, List, sum, Result, Ok, Err}
use Rattle.std.specs.Global.{Global}
use Rattle.std.specs.declared.vec.Vec.{Vec}
use Rattle.code_place.specs.Pages.{addresses, AreWithinPages, IsFirstOver, AreInMemory, PassesMemory}
use Rattle.code_place.specs.declared.PageError.{PageError}
use Rattle.code_place.specs.declared.PageError.TheVariants.{NoMemory, Page, Code}

-- The addresses are those of the placing where that stays in pages 0 to 3. A block over a page is told exactly where it is the
-- first. The sum of all words is told exactly where no block is over a page, and the placing passes page 3.
abbrev pub TellsPages : List ℕ → Result (Vec ℕ Global) PageError → Type 0
TellsPages blocks (Ok at) = AreWithinPages blocks × AreInMemory (addresses blocks) × (at.items ≡ addresses blocks)
TellsPages blocks (Err NoMemory) = Unit {0}
TellsPages blocks (Err (Page block words)) = IsFirstOver blocks block words
TellsPages blocks (Err (Code words)) = AreWithinPages blocks × PassesMemory (addresses blocks) × (words ≡ sum blocks)

-- How far a program's code goes on the chip, and what its instructions touch.
use Rattle.std.specs.Prelude.{ℕ, Bool, List}
use Rattle.c_typed.specs.Trees.{Program}
use Rattle.call_graph.specs.Copies.{AreCopies}
use Rattle.call_graph.specs.declared.types.FnCopy.{FnCopy}
use Rattle.pic_map.specs.MapContent.{MapContent}
use Rattle.program_code.specs.Stated.{sizes, end_of_code, IsPaged}
use Rattle.program_code.specs.Translated.{IsTranslated}
use Rattle.headline.specs.Keeps.{AllStayWithin}
use Rattle.headline.specs.SourceOf.{source_of}
use Rattle.headline_trace.specs.Registered.{BlocksNameOnly}

-- Before main is met, and while no step of the source is undefined, each run of the image stays within the code of the program's copies, which ends with the stated words of the last block, the map, and these
-- device registers.
pub record StaysWithinProgram (named : ℕ → Bool) (p : Program) (content : MapContent) (image : List ℕ) : Type 0 where
  pub copies : List FnCopy
  pub known : AreCopies p copies
  pub at : List ℕ
  pub paged : IsPaged p copies at
  pub all : AllStayWithin (source_of p copies content) content named (end_of_code 0 (sizes p paged.order)) image

-- So it is of what the passes make, whose instructions have no device register but these as their operands.
abbrev pub TranslationsStayWithin : Type 0
TranslationsStayWithin =
    (p : Program) (image : List ℕ) (content : MapContent) (named : ℕ → Bool) → (made : IsTranslated p image content) → BlocksNameOnly named made.made → StaysWithinProgram named p content image

-- What a compiled image keeps to where its source is defined: it runs no word behind its last block, and touches no more than its map and its
-- program name.
use Rattle.std.specs.Prelude.{ℕ, List}
use Rattle.c_typed.specs.Trees.{Program}
use Rattle.call_graph.specs.Copies.{AreCopies}
use Rattle.call_graph.specs.declared.types.FnCopy.{FnCopy}
use Rattle.headline.specs.Keeps.{AllStayWithin}
use Rattle.headline.specs.SourceOf.{source_of}
use Rattle.named_registers.specs.Registers.{names_register}
use Rattle.pic_map.specs.MapContent.{MapContent}
use Rattle.program_code.specs.Stated.{sizes, end_of_code, IsPaged}

-- Before main is met, and while no step of the source is undefined, each run of the image stays within the code of the program's copies, which ends
-- with the stated words of the last block, within the map, and within the device registers that the program names.
pub record IsKept (p : Program) (content : MapContent) (image : List ℕ) : Type 0 where
  pub copies : List FnCopy
  pub known : AreCopies p copies
  pub at : List ℕ
  pub paged : IsPaged p copies at
  pub all : AllStayWithin (source_of p copies content) content (names_register p) (end_of_code 0 (sizes p paged.order)) image

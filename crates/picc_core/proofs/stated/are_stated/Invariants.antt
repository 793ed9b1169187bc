use Rattle.std.proofs.Common.{◌≡◌, ◌<◌, ℕ, Some, slice_get}
use Rattle.c_typed.specs.Views.{program_of}
use Rattle.program_code.specs.Stated.{IsStated}
use Rattle.sym_code.specs.declared.code.SymBlock.{SymBlock}
use Rattle.picc_core.proofs.stated.are_stated.Given as goal

abbrev pub invariant-loop-block : goal.invariant-loop-block
invariant-loop-block l = (k : ℕ) (block : SymBlock) → k < l.block-index → slice_get l.blocks k ≡ Some block → IsStated (program_of l.typed) l.copies.list.items block

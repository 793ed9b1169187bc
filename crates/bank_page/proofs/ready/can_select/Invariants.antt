use Rattle.std.proofs.Common.{◌≡◌, ◌<◌, ℕ, Some, slice_get}
use Rattle.sym_code.specs.declared.code.SymBlock.{SymBlock}
use Rattle.bank_page.specs.Ready.{CanSelect}
use Rattle.bank_page.proofs.ready.can_select.Given as goal

abbrev pub invariant-loop-block : goal.invariant-loop-block
invariant-loop-block l = (k : ℕ) (block : SymBlock) → k < l.block-index → slice_get l.blocks k ≡ Some block → CanSelect l.placed block

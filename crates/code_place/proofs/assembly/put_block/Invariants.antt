use Rattle.std.proofs.Common.{◌≡◌, ◌+◌, take}
use Rattle.code_place.specs.Image.{written}
use Rattle.code_place.specs.Instructions.{words}
use Rattle.code_place.specs.Marks.{target_in}
use Rattle.sym_code.specs.Words.{words_in}
use Rattle.code_place.proofs.assembly.put_block.Given as goal

abbrev pub invariant-loop-sym : goal.invariant-loop-sym
invariant-loop-sym l = (l.pc ≡ l.at + words_in (take l.sym-index l.block.list.items)) × (l.image ≡ written l.initial.image l.at (words l.scope.placed.now (target_in l.scope.marks.now l.scope.inner.now) (take l.sym-index l.block.list.items)))

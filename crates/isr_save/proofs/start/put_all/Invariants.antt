use Rattle.std.proofs.Common.{◌≡◌, ◌++◌, take}
use Rattle.isr_save.proofs.start.put_all.Given as goal

abbrev pub invariant-loop-sym : goal.invariant-loop-sym
invariant-loop-sym l = (l.block.list.items ≡ l.initial.block.list.items ++ take l.sym-index l.list) × (l.block.name ≡ l.initial.block.name)

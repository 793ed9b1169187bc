use Rattle.std.proofs.Common.{◌≡◌, ◌++◌, drop}
use Rattle.isr_save.specs.Start.{objects_code}
use Rattle.isr_save.proofs.start.put_objects.Given as goal

abbrev pub invariant-loop-number : goal.invariant-loop-number
invariant-loop-number l = (l.block.list.items ++ objects_code l.number (drop l.number l.statics) ≡ l.fn.block.list.items ++ objects_code 0 l.statics) × (l.block.name ≡ l.fn.block.name)

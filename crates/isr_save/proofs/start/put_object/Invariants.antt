use Rattle.std.proofs.Common.{◌≡◌, ◌++◌, drop}
use Rattle.isr_save.specs.Start.{object_code}
use Rattle.isr_save.proofs.start.put_object.Given as goal

abbrev pub invariant-loop-number : goal.invariant-loop-number
invariant-loop-number l = (l.block.list.items ++ object_code l.object l.number (drop l.number l.bytes) ≡ l.fn.block.list.items ++ object_code l.object 0 l.bytes) × (l.block.name ≡ l.fn.block.name)

use Rattle.std.proofs.Common.{◌≡◌, if◌then◌else◌}
use Rattle.src_memory.specs.Cells.{cell_in, put_first}
use Rattle.src_values.specs.Objects.{same_object}
use Rattle.src_values.specs.Seen.{datum_of}
use Rattle.src_values.specs.declared.objects.Object.{Object}
use Rattle.src_memory.proofs.memory.Memory.put_value.Given as goal

abbrev pub invariant-loop-k : goal.invariant-loop-k
invariant-loop-k l = (o : Object) → cell_in l.self o ≡ if same_object o l.object then put_first (datum_of l.value) l.k (cell_in l.initial.self o) else cell_in l.initial.self o

use Rattle.std.proofs.Common.{◌≡◌, arith}
use Rattle.src_memory.specs.Cells.{put_first}
use Rattle.src_memory.proofs.Changes.{alike_first, puts_value, stays}
use Rattle.src_memory.proofs.Same.{one_object}
use Rattle.src_values.specs.Objects.{same_object}
use Rattle.src_values.specs.Seen.{datum_of}
use Rattle.src_values.specs.Values.{byte_count}
use Rattle.src_memory.proofs.memory.Memory.put_value.Goals as goal

pub returns-clause-memory : goal.returns-clause-memory
returns-clause-memory c =
    let all : c.loop-k.k ≡ byte_count (datum_of c.args.value) = omega (arith, c.loop-k-test.false, c.loop-k.auto.k-end, c.byte_count-k-end.ensures) in
    puts_value c.args.self.now c.loop-k.self c.args.object (datum_of c.args.value) c.loop-k.k all (λ o. one_object o c.args.object) c.loop-k.invariant

pub returns-clause-shape : goal.returns-clause-shape
returns-clause-shape c = stays (put_first (datum_of c.args.value) c.loop-k.k) (alike_first (datum_of c.args.value) c.loop-k.k) (λ o. same_object o c.args.object) c.args.self.now c.loop-k.self c.loop-k.invariant

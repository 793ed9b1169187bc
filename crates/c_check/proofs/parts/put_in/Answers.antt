use Rattle.c_tables.specs.Tables.{known_of}
use Rattle.c_terms.specs.Terms.{operand_of}
use Rattle.c_outline.specs.Slots.{begun_of, slot_of}
use Rattle.c_check.proofs.Beginning.{static_value}
use Rattle.c_check.proofs.parts.put_in.Goals as goal

pub returns-then-sink : goal.returns-then-sink
returns-then-sink c =
    let known = known_of c.args.checker.now in
    static_value (λ _. begun_of c.put_static.new.sink) c.put_static.result known (slot_of c.args.slot) c.args.inside (operand_of c.args.operand) (begun_of c.args.sink.now) c.value_line-line.result c.if-sink.true c.value_line-line.ensures (c.put_static.ensures known)

use Rattle.std.proofs.Common.{sym, drop}
use Rattle.src_values.specs.Seen.{datum_of}
use Rattle.src_machine.specs.Seen.{stack_of, memory_of}
use Rattle.src_machine.proofs.OtherStatements.{labels_lost}
use Rattle.src_machine.proofs.machine.Machine.compares_in.Goals as goal

pub returns-in_default-clause-tells : goal.returns-in_default-clause-tells
returns-in_default-clause-tells c = λ room same w. sym (labels_lost c.args.statement.now c.in_default.not-Switch (datum_of c.args.value) (drop c.args.next c.args.cases.now.items) (stack_of c.args.self.now) c.args.self.now.copy (memory_of c.args.self.now) w)

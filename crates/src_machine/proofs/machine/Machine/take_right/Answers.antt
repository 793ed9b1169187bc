use Rattle.std.proofs.Common.{sym}
use Rattle.src_machine.proofs.OtherNodes.{right_other}
use Rattle.src_machine.specs.Seen.{stack_of, memory_of, setting_of}
use Rattle.src_values.specs.Seen.{datum_of}
use Rattle.src_machine.proofs.machine.Machine.take_right.Goals as goal

pub returns-in_default-clause-tells : goal.returns-in_default-clause-tells
returns-in_default-clause-tells c = λ going o w. sym (right_other c.args.expr.now c.in_default.not-Binary c.in_default.not-Offset c.in_default.not-Difference c.in_default.not-Logical (setting_of c.args.self.now o) (datum_of c.args.left) (datum_of c.args.right) (stack_of c.args.self.now) c.args.self.now.copy (memory_of c.args.self.now) w)

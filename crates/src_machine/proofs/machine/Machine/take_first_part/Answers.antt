use Rattle.std.proofs.Common.{sym}
use Rattle.src_machine.proofs.OtherNodes.{first_lost}
use Rattle.src_machine.specs.Seen.{stack_of, memory_of, setting_of}
use Rattle.src_values.specs.Seen.{datum_of}
use Rattle.src_machine.proofs.machine.Machine.take_first_part.Goals as goal

pub returns-in_default-clause-tells : goal.returns-in_default-clause-tells
returns-in_default-clause-tells c = λ room o w. sym (first_lost c.args.expr.now c.in_default.not-Convert c.in_default.not-Cast c.in_default.not-Unary c.in_default.not-Binary c.in_default.not-Offset c.in_default.not-Difference c.in_default.not-Logical c.in_default.not-Conditional c.in_default.not-Comma (setting_of c.args.self.now o) (datum_of c.args.value) (stack_of c.args.self.now) c.args.self.now.copy (memory_of c.args.self.now) w)

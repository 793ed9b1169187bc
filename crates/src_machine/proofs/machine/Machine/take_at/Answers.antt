use Rattle.std.proofs.Common.{sym}
use Rattle.src_machine.proofs.OtherNodes.{at_lost}
use Rattle.src_machine.specs.Seen.{stack_of, memory_of, setting_of}
use Rattle.src_values.specs.Seen.{datum_of}
use Rattle.src_machine.proofs.machine.Machine.take_at.Goals as goal

pub returns-in_default-clause-tells : goal.returns-in_default-clause-tells
returns-in_default-clause-tells c = λ room o w. sym (at_lost c.args.expr.now c.in_default.not-Assign c.in_default.not-Update c.in_default.not-Step (setting_of c.args.self.now o) c.args.spot (datum_of c.args.value) (stack_of c.args.self.now) c.args.self.now.copy (memory_of c.args.self.now) w)

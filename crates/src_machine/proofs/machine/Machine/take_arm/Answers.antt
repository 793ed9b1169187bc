use Rattle.std.proofs.Common.{sym}
use Rattle.src_values.specs.Seen.{datum_of}
use Rattle.src_machine.specs.Seen.{stack_of, memory_of, setting_of}
use Rattle.src_machine.proofs.OtherStatements.{arm_taken_lost}
use Rattle.src_machine.proofs.machine.Machine.take_arm.Goals as goal

pub returns-in_default-clause-tells : goal.returns-in_default-clause-tells
returns-in_default-clause-tells c = λ room same o w. sym (arm_taken_lost c.args.statement.now c.in_default.not-If (setting_of c.args.self.now o) c.args.at (datum_of c.args.value) (stack_of c.args.self.now) c.args.self.now.copy (memory_of c.args.self.now) w)

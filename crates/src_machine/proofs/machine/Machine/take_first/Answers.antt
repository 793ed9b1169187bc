use Rattle.std.proofs.Common.{sym}
use Rattle.src_values.specs.Seen.{datum_of}
use Rattle.src_machine.specs.Seen.{stack_of, memory_of, setting_of}
use Rattle.src_machine.proofs.OtherStatements.{tests_lost}
use Rattle.src_machine.proofs.machine.Machine.take_first.Goals as goal

pub returns-in_default-clause-tells : goal.returns-in_default-clause-tells
returns-in_default-clause-tells c = λ room same o w. sym (tests_lost c.args.statement.now c.in_default.not-Expr c.in_default.not-InitScalar c.in_default.not-Loop c.in_default.not-Switch c.in_default.not-Return (setting_of c.args.self.now o) (datum_of c.args.value) (stack_of c.args.self.now) c.args.self.now.copy (memory_of c.args.self.now) w)

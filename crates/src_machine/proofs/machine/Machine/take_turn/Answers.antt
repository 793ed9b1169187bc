use Rattle.std.proofs.Common.{sym}
use Rattle.src_machine.specs.Seen.{stack_of, memory_of, setting_of}
use Rattle.src_machine.proofs.OtherStatements.{begins_lost, steps_lost}
use Rattle.src_machine.proofs.machine.Machine.take_turn.Goals as goal

pub returns-in_default-clause-begins : goal.returns-in_default-clause-begins
returns-in_default-clause-begins c = λ room same v o w. sym (begins_lost c.args.statement.now c.in_default.not-Loop (setting_of c.args.self.now o) v (stack_of c.args.self.now) c.args.self.now.copy (memory_of c.args.self.now) w)

pub returns-in_default-clause-steps : goal.returns-in_default-clause-steps
returns-in_default-clause-steps c = λ room same v o w. sym (steps_lost c.args.statement.now c.in_default.not-Loop (setting_of c.args.self.now o) v (stack_of c.args.self.now) c.args.self.now.copy (memory_of c.args.self.now) w)

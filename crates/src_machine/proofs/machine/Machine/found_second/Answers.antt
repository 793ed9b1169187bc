use Rattle.std.proofs.Common.{sym}
use Rattle.src_machine.proofs.OtherNodes.{second_found_lost}
use Rattle.src_machine.specs.Seen.{stack_of, memory_of, setting_of}
use Rattle.src_machine.proofs.machine.Machine.found_second.Goals as goal

pub returns-in_default-clause-tells : goal.returns-in_default-clause-tells
returns-in_default-clause-tells c = λ room o w. sym (second_found_lost c.args.expr.now c.in_default.not-StructAssign (setting_of c.args.self.now o) c.args.to c.args.from (stack_of c.args.self.now) c.args.self.now.copy (memory_of c.args.self.now) w)

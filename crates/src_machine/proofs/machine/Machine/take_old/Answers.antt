use Rattle.std.proofs.Common.{sym}
use Rattle.src_machine.proofs.OtherNodes.{old_lost}
use Rattle.src_machine.specs.Seen.{stack_of, memory_of, setting_of}
use Rattle.src_values.specs.Seen.{datum_of}
use Rattle.src_machine.proofs.machine.Machine.take_old.Goals as goal

pub returns-in_default-clause-tells : goal.returns-in_default-clause-tells
returns-in_default-clause-tells c = λ room o w. sym (old_lost c.args.expr.now c.in_default.not-Update (setting_of c.args.self.now o) c.args.spot (datum_of c.args.right) (datum_of c.args.old) (stack_of c.args.self.now) c.args.self.now.copy (memory_of c.args.self.now) w)

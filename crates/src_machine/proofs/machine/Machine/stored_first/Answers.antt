use Rattle.std.proofs.Common.{sym}
use Rattle.src_machine.proofs.OtherStages.{stored_first_lost}
use Rattle.src_machine.specs.Seen.{stack_of, memory_of, setting_of}
use Rattle.src_values.specs.Seen.{statement_in}
use Rattle.src_machine.proofs.machine.Machine.stored_first.Goals as goal

pub returns-in_default-clause-tells : goal.returns-in_default-clause-tells
returns-in_default-clause-tells c =
    let old = c.args.self.now in
    λ scalar o w. sym (stored_first_lost c.args.stage c.in_default.not-Fills (setting_of old o) (stack_of old) old.copy (memory_of old) w (statement_in c.args.code) scalar)

use Rattle.std.proofs.Common.{sym}
use Rattle.src_machine.proofs.OtherStages.{no_place_elsewhere}
use Rattle.src_machine.specs.Seen.{stack_of, memory_of, setting_of}
use Rattle.src_values.specs.Seen.{statement_in}
use Rattle.src_machine.proofs.machine.Machine.found_for.Goals as goal

pub returns-in_default-stage-clause-tells : goal.returns-in_default-stage-clause-tells
returns-in_default-stage-clause-tells c =
    let old = c.args.self.now in
    λ room o w. sym (no_place_elsewhere c.args.stage c.in_default-stage.not-AtItem (setting_of old o) c.args.from (stack_of old) old.copy (memory_of old) w (statement_in c.args.code))

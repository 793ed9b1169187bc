use Rattle.std.proofs.Common.{sym}
use Rattle.src_machine.proofs.OtherStages.{no_value_elsewhere}
use Rattle.src_machine.specs.Seen.{stack_of, memory_of, setting_of}
use Rattle.src_values.specs.Seen.{datum_of, statement_in}
use Rattle.src_machine.proofs.machine.Machine.take_for.Goals as goal

pub returns-in_default-stage-clause-tells : goal.returns-in_default-stage-clause-tells
returns-in_default-stage-clause-tells c =
    let old = c.args.self.now in
    let no = c.in_default-stage in
    λ room o w. sym (no_value_elsewhere c.args.stage no.not-Tests no.not-Begins no.not-Steps no.not-Picks no.not-AtItem (setting_of old o) (datum_of c.args.value) (stack_of old) old.copy (memory_of old) w (statement_in c.args.code))

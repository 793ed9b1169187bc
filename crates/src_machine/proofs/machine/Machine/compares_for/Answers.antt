use Rattle.std.proofs.Common.{drop, sym}
use Rattle.src_machine.proofs.OtherStages.{no_label_elsewhere}
use Rattle.src_machine.specs.Seen.{stack_of, memory_of}
use Rattle.src_values.specs.Seen.{datum_of, statement_in}
use Rattle.src_machine.proofs.machine.Machine.compares_for.Goals as goal

pub returns-in_default-stage-clause-tells : goal.returns-in_default-stage-clause-tells
returns-in_default-stage-clause-tells c =
    let old = c.args.self.now in
    λ room w. sym (no_label_elsewhere c.args.stage c.in_default-stage.not-Chooses (datum_of c.args.value) (drop c.args.next c.args.cases.now.items) (stack_of old) old.copy (memory_of old) w (statement_in c.args.code))

use Rattle.std.proofs.Common.{sym}
use Rattle.c_typed.specs.Views.{expression_of}
use Rattle.src_machine.proofs.OtherStages.{no_place_part}
use Rattle.src_machine.specs.Seen.{waiting, interrupted_in, memory_of, setting_of}
use Rattle.src_values.specs.Seen.{values_on, frames_behind, has_values}
use Rattle.src_machine.proofs.machine.Machine.found_in.Goals as goal

pub returns-in_default-clause-tells : goal.returns-in_default-clause-tells
returns-in_default-clause-tells c =
    let old = c.args.self.now in
    λ room o w. sym (no_place_part c.args.got c.in_default.not-Nothing c.in_default.not-At (setting_of old o) (values_on (waiting old)) c.args.spot (frames_behind (interrupted_in old) (has_values c.args.got) (waiting old)) old.copy (memory_of old) w (expression_of c.args.expr.now))

use Rattle.std.proofs.Common.{sym}
use Rattle.c_typed.specs.Views.{expression_of}
use Rattle.src_machine.proofs.OtherStages.{no_stored_part}
use Rattle.src_machine.specs.Seen.{stack_of, memory_of}
use Rattle.src_machine.proofs.machine.Machine.stored_in.Goals as goal

pub returns-in_default-clause-tells : goal.returns-in_default-clause-tells
returns-in_default-clause-tells c =
    let old = c.args.self.now in
    λ values w. sym (no_stored_part c.args.got c.in_default.not-Stores c.in_default.not-Copies values (stack_of old) old.copy (memory_of old) w (expression_of c.args.expr.now))

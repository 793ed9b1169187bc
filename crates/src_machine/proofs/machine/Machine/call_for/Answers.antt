use Rattle.std.proofs.Common.{ap, sym, true, ◌∙◌}
use Rattle.c_typed.specs.Views.{expression_of, program_of}
use Rattle.src_machine.proofs.Calls.{call_shown, calls_no_part}
use Rattle.src_machine.proofs.OtherNodes.{calls_lost}
use Rattle.src_machine.proofs.OtherStages.{none_passed_by}
use Rattle.src_machine.specs.Seen.{silent, waiting, interrupted_in, memory_of}
use Rattle.src_rules.specs.Step.{call_in}
use Rattle.src_values.specs.Seen.{got_in, has_values, values_on, frames_behind}
use Rattle.src_machine.proofs.machine.Machine.call_for.Goals as goal

pub returns-in-Call-clause-tells : goal.returns-in-Call-clause-tells
returns-in-Call-clause-tells c = λ room map w shape fit.
    let old = c.args.self.now in
    call_shown (program_of old.program.now) c.args.expr.now c.args.got c.in-Call.function c.in-Call.arguments c.in-Call.ty c.in-Call.line (values_on (waiting old)) (λ b. frames_behind (interrupted_in old) b (waiting old)) old.copy (memory_of old) w
    (silent c.call_with.result c.call_with.new.self w) c.in-Passed.is c.in-Call.is fit (λ fits. c.call_with.ensures.tells room map w shape fits)

-- another expression than a call
pub returns-in_default-expr-clause-tells : goal.returns-in_default-expr-clause-tells
returns-in_default-expr-clause-tells c = λ room map w shape fit.
    let old = c.args.self.now in
    let p = program_of old.program.now in
    let e = expression_of c.args.expr.now in
    sym (ap (λ got. call_in p e (got_in e got (values_on (waiting old))) (frames_behind (interrupted_in old) (has_values got) (waiting old)) old.copy (memory_of old) w) c.in-Passed.is
    ∙ calls_lost c.args.expr.now c.in_default-expr.not-Call p (values_on (waiting old)) (frames_behind (interrupted_in old) true (waiting old)) old.copy (memory_of old) w)

-- a call that hasn't all its arguments
pub returns-in_default-clause-tells : goal.returns-in_default-clause-tells
returns-in_default-clause-tells c = λ room map w shape fit.
    let old = c.args.self.now in
    sym (calls_no_part (program_of old.program.now) (expression_of c.args.expr.now) c.args.got (values_on (waiting old)) (frames_behind (interrupted_in old) (has_values c.args.got) (waiting old)) old.copy (memory_of old) w
    (none_passed_by c.args.got c.in_default.not-Passed))

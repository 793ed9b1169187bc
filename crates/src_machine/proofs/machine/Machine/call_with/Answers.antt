use Rattle.std.proofs.Common.{arith, sym, subst, ◌∙◌}
use Rattle.c_typed.specs.Views.{expression_of, program_of}
use Rattle.src_machine.proofs.Passing.{call_goes, values_split}
use Rattle.src_machine.specs.Passing.{FitFrom}
use Rattle.src_machine.specs.Seen.{silent}
use Rattle.src_rules.specs.Step.{copy_of}
use Rattle.src_machine.proofs.machine.Machine.call_with.Goals as goal

pub returns-clause-tells : goal.returns-clause-tells
returns-clause-tells c = λ room map w shape fit.
    let old = c.args.self.now in
    let mid = c.pass.new.self in
    let n = c.first_value-first.result in
    let all = c.first_value-first.ensures.all in
    let below = c.first_value-first.ensures.below in
    call_goes old mid (expression_of c.args.expr.now) c.args.function c.args.line n (silent c.begin_call.result c.begin_call.new.self w) w c.pass.ensures.others c.pass.ensures.waits all below
    (c.pass.ensures.memory (program_of old.program.now) map shape all (subst (FitFrom (program_of old.program.now) (copy_of old.copy.root c.args.function) 0) (values_split n old.stack.items all below) fit))
    (sym c.has_missing.ensures ∙ c.if-has_missing.false)
    (c.begin_call.ensures.tells (omega (arith, c.pass.ensures.len, c.pass.ensures.room, room)) w)

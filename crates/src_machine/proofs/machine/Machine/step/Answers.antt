use Rattle.std.proofs.Common.{sym, ◌∙◌}
use Rattle.src_machine.proofs.Going.{begins, goes_on, ended, never}
use Rattle.src_machine.proofs.machine.Machine.step.Goals as goal

pub loop-done-init : goal.loop-done-init
loop-done-init c = begins c.args.script.now c.args.self.now

pub loop-done-preserved : goal.loop-done-preserved
loop-done-preserved c =
    goes_on c.args.script.now c.args.self.now c.loop-done.self c.micro_step-taker.new.self c.loop-done._done c.micro_step-taker.result.0 c.micro_step-taker.result.1 c.micro_step-taker.result.2
    (sym c.end_of.ensures ∙ c.in-None.is) c.loop-done.invariant c.micro_step-taker.ensures.tells

pub returns-in-Some : goal.returns-in-Some
returns-in-Some c = λ s map w o can.
    ended c.args.script.now c.args.self.now c.loop-done.self c.micro_step-taker.new.self c.loop-done._done c.micro_step-taker.result.0 c.micro_step-taker.result.1 c.micro_step-taker.result.2 c.in-Some.end
    (sym c.end_of.ensures ∙ c.in-Some.is) c.loop-done.invariant c.micro_step-taker.ensures.tells s map w o can

pub returns : goal.returns
returns c = λ s map w o can.
    absurd (never c.args.script.now c.args.self.now c.loop-done.self c.loop-done._done c.loop-done.invariant c.loop-done-test.false s map w o can)

use Rattle.std.proofs.Common.{◌+◌, refl, ap, ◌∙◌, arith}
use Rattle.std.specs.Prelude.{if◌then◌else◌}
use Rattle.run_compare.proofs.SourceRuns.{events_few, idle, went}
use Rattle.run_compare.proofs.Steps.{taken_defined}
use Rattle.run_compare.proofs.source_run.SourceRun.step.Goals as goal

pub returns-in-Undefined-clause-took : goal.returns-in-Undefined-clause-took
returns-in-Undefined-clause-took c = λ s map o is. c.in-Undefined.ensures.ended s map c.args.self.now.steps o is.source

pub returns-in-Idle-clause-took : goal.returns-in-Idle-clause-took
returns-in-Idle-clause-took c = λ s map o is. c.in-Idle.ensures.ended s map c.args.self.now.steps o is.source

pub returns-in-Went-clause-took : goal.returns-in-Went-clause-took
returns-in-Went-clause-took c = λ s map o is. taken_defined s c.args.self.now.steps (c.in-Went.ensures.ended s map c.args.self.now.steps o is.source)

pub returns-in-Undefined-clause-goes : goal.returns-in-Undefined-clause-goes
returns-in-Undefined-clause-goes c = λ more s map o is. c.in-Undefined.ensures.ended s map c.args.self.now.steps o is.source

pub returns-in-Idle-clause-goes : goal.returns-in-Idle-clause-goes
returns-in-Idle-clause-goes c = λ more s map o is. idle s map c.args.self.now _ c.step.new.self is (c.in-Idle.ensures.follows s map c.args.self.now.steps o more is.source) refl refl refl

pub returns-in-Went-clause-goes : goal.returns-in-Went-clause-goes
returns-in-Went-clause-goes c = λ more s map o is.
    went s map c.args.self.now _ c.in-Went.event c.step.new.self is (c.in-Went.ensures.follows s map c.args.self.now.steps o more is.source) refl refl
    (c.plus-self.ensures (let e = events_few s map c.args.self.now is in omega (arith, e, more)) ∙ ap (λ b. c.args.self.now.events + (if b then 1 else 0)) c.is_some.ensures)

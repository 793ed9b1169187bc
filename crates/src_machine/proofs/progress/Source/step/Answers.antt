use Rattle.std.proofs.Common.{refl}
use Rattle.src_machine.proofs.Following.{ended, follows, never_defined}
use Rattle.src_machine.proofs.progress.Source.step.Goals as goal

pub returns-in-Some-clause-follows : goal.returns-in-Some-clause-follows
returns-in-Some-clause-follows c = λ s map n o l source. absurd (never_defined s map n c.args.self.now source c.in-Some.stop c.in-Some.is)

pub returns-clause-follows : goal.returns-clause-follows
returns-clause-follows c = λ s map n o l source.
    follows s map n c.args.self.now (record c.args.self.now { machine = c.step-taker.new.self }) c.note.new.self source c.step-taker.result.0 c.step-taker.result.1
    (c.step-taker.ensures s map source.world o source.can) c.note.ensures.machine l c.note.ensures.noted refl refl refl

pub returns-in-Some-clause-ended : goal.returns-in-Some-clause-ended
returns-in-Some-clause-ended c = λ s map n o source. absurd (never_defined s map n c.args.self.now source c.in-Some.stop c.in-Some.is)

pub returns-clause-ended : goal.returns-clause-ended
returns-clause-ended c = λ s map n o source.
    ended s map n c.args.self.now (record c.args.self.now { machine = c.step-taker.new.self }) source c.step-taker.result.0 c.step-taker.result.1 (c.step-taker.ensures s map source.world o source.can)

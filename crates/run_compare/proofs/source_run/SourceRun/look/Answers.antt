use Rattle.std.proofs.Common.{arith}
use Rattle.run_compare.proofs.SourceRuns.{looked_all, looked_fault, looked_idle, looked_long}
use Rattle.run_compare.proofs.source_run.SourceRun.look.Goals as goal
use Rattle.run_compare.specs.Looking.{fault_in}

pub loop-self-init : goal.loop-self-init
loop-self-init c = λ s map o is. is

pub loop-self-preserved : goal.loop-self-preserved
loop-self-preserved c = λ s map o is. c.in-Went.ensures.goes (let l = c.loop-self-test.true in let m = c.requires in omega (arith, l, m)) s map o (c.loop-self.invariant s map o is)

pub returns-then-self-longest-clause-looked : goal.returns-then-self-longest-clause-looked
returns-then-self-longest-clause-looked c = λ s map o is. looked_long s map c.loop-self.self (c.loop-self.invariant s map o is) c.args.most c.args.longest c.if-self-longest.true

pub returns-then-self-longest-clause-goes : goal.returns-then-self-longest-clause-goes
returns-then-self-longest-clause-goes c = λ s map o is. c.loop-self.invariant s map o is

pub returns-in-Idle-clause-looked : goal.returns-in-Idle-clause-looked
returns-in-Idle-clause-looked c = λ s map o is.
    let h = c.loop-self.invariant s map o is in
    looked_idle s map c.loop-self.self h c.args.most c.args.longest (c.in-Idle.ensures.took s map o h)

pub returns-in-Idle-clause-goes : goal.returns-in-Idle-clause-goes
returns-in-Idle-clause-goes c = λ s map o is. (c.in-Idle.ensures.goes (let l = c.loop-self-test.true in let m = c.requires in omega (arith, l, m)) s map o (c.loop-self.invariant s map o is)).1

pub returns-in-Undefined-clause-looked : goal.returns-in-Undefined-clause-looked
returns-in-Undefined-clause-looked c = λ s map o is.
    let h = c.loop-self.invariant s map o is in
    looked_fault s map c.loop-self.self h c.args.most c.args.longest (fault_in c.in-Undefined.fault) c.loop-self-test.true c.if-self-longest.false (c.in-Undefined.ensures.took s map o h)

pub returns-clause-looked : goal.returns-clause-looked
returns-clause-looked c = λ s map o is. looked_all s map c.loop-self.self (c.loop-self.invariant s map o is) c.args.most c.args.longest c.loop-self-test.false

pub returns-clause-goes : goal.returns-clause-goes
returns-clause-goes c = λ s map o is. c.loop-self.invariant s map o is

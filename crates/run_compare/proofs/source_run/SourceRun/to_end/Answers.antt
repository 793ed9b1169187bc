use Rattle.std.proofs.Common.{arith}
use Rattle.run_compare.proofs.SourceRuns.{defined_next, met_all, met_fault, met_idle, met_main, met_runs}
use Rattle.run_compare.proofs.source_run.SourceRun.to_end.Goals as goal
use Rattle.run_compare.specs.Looking.{fault_in}

pub loop-self-init : goal.loop-self-init
loop-self-init c = record { defined = λ s map o is. is.defined; behind = λ l s map o is. is }

pub loop-self-preserved : goal.loop-self-preserved
loop-self-preserved c =
    let l = c.loop-self-test.true in
    let m = c.requires in
    let e = c.in-Went.ensures.steps in
    let here = c.loop-self.invariant.behind (omega (arith, l, m)) in
    record {
      defined = λ s map o is. defined_next s c.loop-self.self.steps c.step.new.self.steps e (c.loop-self.invariant.defined s map o is) (c.in-Went.ensures.took s map o (here s map o is));
      behind = λ more s map o is. c.in-Went.ensures.goes (omega (arith, e, more)) s map o (here s map o is);
    }

pub returns-then-main_steps-most : goal.returns-then-main_steps-most
returns-then-main_steps-most c = λ s map o is.
    let l = c.loop-self-test.true in
    let q = c.requires in
    let e = c.main_steps.ensures in
    met_main s map c.loop-self.self (c.loop-self.invariant.behind (omega (arith, l, q)) s map o is) c.args.most c.args.runs (let m = c.if-main_steps-most.true in omega (arith, e, m))

pub returns-then-runs : goal.returns-then-runs
returns-then-runs c = λ s map o is.
    let l = c.loop-self-test.true in
    let q = c.requires in
    let e = c.runs.ensures in
    met_runs s map c.loop-self.self (c.loop-self.invariant.behind (omega (arith, l, q)) s map o is) c.args.most c.args.runs (let m = c.if-runs.true in omega (arith, e, m))

pub returns-in-Idle : goal.returns-in-Idle
returns-in-Idle c = λ s map o is.
    let l = c.loop-self-test.true in
    let q = c.requires in
    let h = c.loop-self.invariant.behind (omega (arith, l, q)) s map o is in
    met_idle s map c.loop-self.self h c.args.most c.args.runs (c.in-Idle.ensures.took s map o h)

pub returns-in-Undefined : goal.returns-in-Undefined
returns-in-Undefined c = λ s map o is.
    let l = c.loop-self-test.true in
    let q = c.requires in
    let h = c.loop-self.invariant.behind (omega (arith, l, q)) s map o is in
    let a = c.main_steps.ensures in
    let b = c.if-main_steps-most.false in
    let d = c.runs.ensures in
    let e = c.if-runs.false in
    met_fault s map c.loop-self.self h c.args.most c.args.runs (fault_in c.in-Undefined.fault) l (omega (arith, a, b)) (omega (arith, d, e)) (c.in-Undefined.ensures.took s map o h)

pub returns : goal.returns
returns c = λ s map o is. met_all s c.args.most c.args.runs c.loop-self.self.steps (c.loop-self.invariant.defined s map o is) c.loop-self-test.false

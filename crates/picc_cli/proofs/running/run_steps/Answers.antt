use Rattle.std.proofs.Common.{◌∙◌, arith, refl}
use Rattle.pic_map.specs.MapView.{content_of}
use Rattle.picc_cli.proofs.TracedRun.{run_begins, run_on, run_stops, run_ends}
use Rattle.picc_cli.proofs.TraceRun.{begins, took, stopped, all_taken}
use Rattle.picc_cli.proofs.running.run_steps.Goals as goal

pub loop-taken-init : goal.loop-taken-init
loop-taken-init g c = record {
  within = omega arith;
  lines = begins (content_of c.args.map.now) _;
  same_file = refl;
  same_contents = refl;
  same_kind = refl;
  ran = λ s outside begun. run_begins s _ _ _ begun;
  same_faults = refl;
}

pub take_step-requires : goal.take_step-requires
take_step-requires g c =
    let so_far = c.loop-taken.invariant in
    let begun = c.requires.begun in
    record {
      number = c.loop-taken.taken;
      few = omega arith;
      behind = record { setting = begun.setting; outside = begun.outside; objects = begun.objects; at = (so_far.ran begun.setting begun.outside begun.at).at };
    }

pub loop-taken-preserved : goal.loop-taken-preserved
loop-taken-preserved g c =
    let so_far = c.loop-taken.invariant in
    record {
      within = omega arith;
      ran = λ s outside begins. run_on s _ _ _ _ _ _ _ (so_far.ran s outside begins) (c.in-None.ensures.next s _ outside (omega arith) (so_far.ran s outside begins).at);
      lines = took _ _ _ _ _ so_far.lines c.in-None.ensures.goes_on;
      same_file = c.take_step.ensures.same_file ∙ so_far.same_file;
      same_contents = c.take_step.ensures.same_contents ∙ so_far.same_contents;
      same_kind = c.take_step.ensures.same_kind ∙ so_far.same_kind;
      same_faults = c.in-None.ensures.kept ∙ so_far.same_faults;
    }

pub returns-in-Some-clause-leads : goal.returns-in-Some-clause-leads
returns-in-Some-clause-leads g c =
    let so_far = c.loop-taken.invariant in
    stopped _ _ _ _ _ _ _ c.requires.map (omega arith) so_far.lines c.in-Some.ensures.stops

pub returns-clause-leads : goal.returns-clause-leads
returns-clause-leads g c =
    let so_far = c.loop-taken.invariant in
    all_taken _ _ _ _ _ c.requires.map so_far.within so_far.lines

pub returns-in-Some-clause-ran : goal.returns-in-Some-clause-ran
returns-in-Some-clause-ran g c = λ s outside begins.
    let so_far = c.loop-taken.invariant in
    run_stops s _ _ _ _ _ c.take_step.new.source _ _ _ (omega arith) (so_far.ran s outside begins) (c.in-Some.ensures.next s _ outside (omega arith) (so_far.ran s outside begins).at)

pub returns-clause-ran : goal.returns-clause-ran
returns-clause-ran g c = λ s outside begins.
    let so_far = c.loop-taken.invariant in
    run_ends s _ _ _ _ _ _ so_far.within (omega arith) (so_far.ran s outside begins)

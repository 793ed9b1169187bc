use Rattle.picc_cli.specs.CommandView.{asked_of}
use Rattle.picc_cli.proofs.TraceEnds.{trace_faults, trace_status, trace_printed, trace_told, trace_complete}
use Rattle.picc_cli.proofs.TracedWhole.{trace_told as runs_told}
use Rattle.picc_cli.proofs.tracing.trace.Goals as goal

pub returns-clause-faults : goal.returns-clause-faults
returns-clause-faults g c =
    trace_faults (asked_of c.args.asked) _ _ _ c.traced-ended.result _ _ _ _ _ _ c.traced-ended.ensures.cause c.traced-ended.ensures.sound c.traced-ended.ensures.same_kind c.report.ensures.said

pub returns-clause-status : goal.returns-clause-status
returns-clause-status g c = trace_status (asked_of c.args.asked) c.traced-ended.result _ _ _ _ _ _ c.report.ensures.said

pub returns-clause-printed : goal.returns-clause-printed
returns-clause-printed g c =
    trace_printed (asked_of c.args.asked) _ _ _ c.traced-ended.result _ _ _ _ _ _ c.traced-ended.ensures.sound c.traced-ended.ensures.same_kind c.traced-ended.ensures.leads c.report.ensures.said

pub returns-clause-told : goal.returns-clause-told
returns-clause-told g c =
    trace_told (asked_of c.args.asked) c.traced-ended.result _ (g.H.Host.contents c.report.new.host) _ _ _ _ _ _ _ c.traced-ended.ensures.knows c.traced-ended.ensures.leads c.report.ensures.said

pub returns-clause-complete : goal.returns-clause-complete
returns-clause-complete g c =
    trace_complete (asked_of c.args.asked) _ _ c.traced-ended.result _ _ _ _ _ _ _ c.traced-ended.ensures.knows c.traced-ended.ensures.cause c.traced-ended.ensures.same_kind c.report.ensures.said

pub returns-clause-traced : goal.returns-clause-traced
returns-clause-traced g c = runs_told (asked_of c.args.asked) c.traced-ended.result _ _ _ _ _ _ _ _ c.traced-ended.ensures.runs c.report.ensures.said

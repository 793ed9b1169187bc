use Rattle.picc_cli.specs.CommandView.{compared_of}
use Rattle.picc_cli.proofs.AgreementEnds.{agreement_made, agreement_told}
use Rattle.picc_cli.proofs.ChipEnds.{agree_complete, agree_faults, agree_status}
use Rattle.picc_cli.proofs.MissingTold.{agree_printed}
use Rattle.picc_cli.proofs.comparing.compare.Goals as goal

pub returns-clause-faults : goal.returns-clause-faults
returns-clause-faults g c =
    agree_faults (compared_of c.args.asked) c.compared-ended.result _ _ _ _ _ _ _ _ _ _ c.compared-ended.ensures.cause c.compared-ended.ensures.sound c.compared-ended.ensures.same_kind
    c.report.ensures.said

pub returns-clause-status : goal.returns-clause-status
returns-clause-status g c = agree_status (compared_of c.args.asked) c.compared-ended.result _ _ _ _ _ _ _ c.report.ensures.said

pub returns-clause-printed : goal.returns-clause-printed
returns-clause-printed g c =
    agree_printed (compared_of c.args.asked) c.compared-ended.result _ _ _ _ _ _ _ _ _ c.compared-ended.ensures.sound c.compared-ended.ensures.same_kind c.compared-ended.ensures.same_printed
    c.report.ensures.said

pub returns-clause-told : goal.returns-clause-told
returns-clause-told g c = agreement_told (compared_of c.args.asked) c.compared-ended.result _ (g.H.Host.contents c.report.new.host) _ _ _ _ _ _ _ c.compared-ended.ensures.knows c.compared-ended.ensures.exact c.compared-ended.ensures.same_printed c.report.ensures.said

pub returns-clause-made : goal.returns-clause-made
returns-clause-made g c = agreement_made (compared_of c.args.asked) c.compared-ended.result _ (g.H.Host.contents c.report.new.host) _ _ _ _ _ _ _ c.compared-ended.ensures.knows c.compared-ended.ensures.exact c.compared-ended.ensures.same_printed c.report.ensures.said

pub returns-clause-complete : goal.returns-clause-complete
returns-clause-complete g c = agree_complete (compared_of c.args.asked) (g.H.Host.kind c.args.host.now) (g.H.Host.faults c.args.host.now) _ (g.H.Host.contents c.args.host.now) (g.H.Host.contents c.report.new.host) c.report.result _ _ (returns-clause-faults g c) (returns-clause-status g c) (returns-clause-told g c)

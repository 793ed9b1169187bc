use Rattle.picc_cli.proofs.CheckEnds.{check_complete, check_faults, check_printed, check_status, check_told}
use Rattle.picc_cli.proofs.checking.check.Goals as goal

pub returns-clause-faults : goal.returns-clause-faults
returns-clause-faults g c =
    check_faults c.args.hex.now c.checked-ended.result _ _ _ _ _ _ _ _ _ _ c.checked-ended.ensures.cause c.checked-ended.ensures.sound c.checked-ended.ensures.same_kind c.report.ensures.said

pub returns-clause-status : goal.returns-clause-status
returns-clause-status g c = check_status c.args.hex.now c.checked-ended.result _ _ _ _ _ _ _ c.report.ensures.said

pub returns-clause-printed : goal.returns-clause-printed
returns-clause-printed g c =
    check_printed c.args.hex.now c.checked-ended.result _ _ _ _ _ _ _ _ _ c.checked-ended.ensures.sound c.checked-ended.ensures.same_kind c.checked-ended.ensures.same_printed
    c.report.ensures.said

pub returns-clause-told : goal.returns-clause-told
returns-clause-told g c =
    check_told c.args.hex.now c.checked-ended.result _ (g.H.Host.contents c.report.new.host) _ _ _ _ _ _ _ c.checked-ended.ensures.knows c.checked-ended.ensures.same_printed c.report.ensures.said

pub returns-clause-complete : goal.returns-clause-complete
returns-clause-complete g c =
    check_complete c.args.hex.now c.checked-ended.result (g.H.Host.contents c.args.host.now) (g.H.Host.kind c.args.host.now) _ (g.H.Host.faults c.args.host.now) _ _ _ _ _ c.checked-ended.ensures.knows
    c.report.ensures.said (returns-clause-faults g c) (returns-clause-status g c)

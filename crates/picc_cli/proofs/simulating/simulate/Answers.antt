use Rattle.picc_cli.specs.CommandView.{simulated_of}
use Rattle.picc_cli.proofs.ChipEnds.{chip_complete, chip_faults, chip_status, five_at_file}
use Rattle.picc_cli.proofs.MissingTold.{chip_printed}
use Rattle.picc_cli.proofs.SimulationEnds.{simulation_told}
use Rattle.picc_cli.proofs.simulating.simulate.Goals as goal

pub returns-clause-faults : goal.returns-clause-faults
returns-clause-faults g c =
    chip_faults (simulated_of c.args.asked) c.simulated-ended.result _ _ _ _ _ _ _ _ _ _ c.simulated-ended.ensures.cause c.simulated-ended.ensures.sound c.simulated-ended.ensures.same_kind
    c.report.ensures.said

pub returns-clause-status : goal.returns-clause-status
returns-clause-status g c = chip_status (simulated_of c.args.asked) c.simulated-ended.result _ _ _ _ _ _ _ c.report.ensures.said

pub returns-clause-printed : goal.returns-clause-printed
returns-clause-printed g c =
    chip_printed (simulated_of c.args.asked) c.simulated-ended.result _ _ _ _ _ _ _ _ _ c.simulated-ended.ensures.sound c.simulated-ended.ensures.same_kind c.simulated-ended.ensures.leads
    c.report.ensures.said

pub returns-clause-refused : goal.returns-clause-refused
returns-clause-refused g c = λ five. c.simulated-ended.ensures.same_board (five_at_file c.simulated-ended.result _ _ _ _ _ _ _ c.report.ensures.said five)

pub returns-clause-simulated : goal.returns-clause-simulated
returns-clause-simulated g c = simulation_told (simulated_of c.args.asked) c.simulated-ended.result _ _ _ _ _ _ _ _ _ _ c.simulated-ended.ensures.knows c.report.ensures.said

pub returns-clause-complete : goal.returns-clause-complete
returns-clause-complete g c = chip_complete (simulated_of c.args.asked) (g.H.Host.kind c.args.host.now) (g.H.Host.faults c.args.host.now) _ (g.H.Host.contents c.args.host.now) c.report.result _ _ _ _ (returns-clause-faults g c) (returns-clause-status g c) (returns-clause-simulated g c)

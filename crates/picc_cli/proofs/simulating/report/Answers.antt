use Rattle.picc_cli.proofs.simulating.report.Goals as goal

pub returns-in-Unmodelled-clause-said : goal.returns-in-Unmodelled-clause-said
returns-in-Unmodelled-clause-said g c = rw c.in-Unmodelled.is c.say_unmodelled.ensures.said

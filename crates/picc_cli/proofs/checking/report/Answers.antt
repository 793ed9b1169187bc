use Rattle.picc_cli.proofs.checking.report.Goals as goal

pub returns-in-Uncertified-clause-said : goal.returns-in-Uncertified-clause-said
returns-in-Uncertified-clause-said g c = rw c.in-Uncertified.is c.say_line.ensures.said

use Rattle.picc_cli.proofs.inputs.say_file_end.Goals as goal

pub returns-in-CannotRead-clause-said : goal.returns-in-CannotRead-clause-said
returns-in-CannotRead-clause-said g c = rw c.in-CannotRead.is c.say.ensures.said

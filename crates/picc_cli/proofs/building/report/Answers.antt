use Rattle.picc_cli.proofs.building.report.Goals as goal

pub returns-in-CannotRead-clause-said : goal.returns-in-CannotRead-clause-said
returns-in-CannotRead-clause-said g c = rw c.in-CannotRead.is c.say.ensures.said

pub returns-in-CannotWriteHex-clause-said : goal.returns-in-CannotWriteHex-clause-said
returns-in-CannotWriteHex-clause-said g c = rw c.in-CannotWriteHex.is c.say-in-CannotWriteHex.ensures.said

pub returns-in-CannotWriteMap-clause-said : goal.returns-in-CannotWriteMap-clause-said
returns-in-CannotWriteMap-clause-said g c = rw c.in-CannotWriteMap.is c.say-in-CannotWriteMap.ensures.said

pub returns-in-Register-clause-said : goal.returns-in-Register-clause-said
returns-in-Register-clause-said g c = rw c.in-Register.is c.say_located.ensures.said

use Rattle.picc_cli.proofs.tracing.report.Goals as goal

pub returns-in-Undefined-clause-said : goal.returns-in-Undefined-clause-said
returns-in-Undefined-clause-said g c = rw (c.in-Undefined.is, ← c.undef_text.ensures) c.say_located.ensures.said

pub returns-in-CannotReadText-clause-said : goal.returns-in-CannotReadText-clause-said
returns-in-CannotReadText-clause-said g c = rw c.in-CannotReadText.is c.say.ensures.said

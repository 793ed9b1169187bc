use Rattle.std.proofs.Common.{◌∙◌}
use Rattle.picc_cli.proofs.FormPrints.{says_text}
use Rattle.picc_cli.proofs.simulating.say_unmodelled.Goals as goal

pub returns-in-Ok-clause-said : goal.returns-in-Ok-clause-said
returns-in-Ok-clause-said g c = says_text _ _ _ _ _ _ _ _ _ (c.deref.ensures.value ∙ c.in-Ok.ensures) c.say_line.ensures.said

use Rattle.std.proofs.Common.{subst}
use Rattle.picc_cli.proofs.AgreementEnds.{compiled_tell}
use Rattle.picc_cli.proofs.comparing.runs.Goals as goal
use Rattle.picc_cli.specs.Made.{RunsMade}
use Rattle.schedule.specs.ScriptFile.{content_of}

pub returns-in-Ok-Same-clause-exact : goal.returns-in-Ok-Same-clause-exact
returns-in-Ok-Same-clause-exact c =
    subst (RunsMade c.args.text.now (content_of c.args.script.now) c.args.instructions) c.in-Ok-Same.field-0-is
    (compiled_tell c.args.text.now c.in-Ok.built c.args.script.now c.args.instructions c.in-Ok-Same.field-0 c.in-Ok.ensures.whole c.in-Ok.ensures.translated c.in-Ok-Same.ensures.exact)

pub returns-in-Ok-Undefined-clause-exact : goal.returns-in-Ok-Undefined-clause-exact
returns-in-Ok-Undefined-clause-exact c =
    subst (RunsMade c.args.text.now (content_of c.args.script.now) c.args.instructions) c.in-Ok-Undefined.field-0-is
    (compiled_tell c.args.text.now c.in-Ok.built c.args.script.now c.args.instructions c.in-Ok-Undefined.field-0 c.in-Ok.ensures.whole c.in-Ok.ensures.translated c.in-Ok-Undefined.ensures.exact)

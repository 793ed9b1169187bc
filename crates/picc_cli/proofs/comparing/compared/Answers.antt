use Rattle.schedule.specs.ScriptFile as script_file
use Rattle.picc_cli.specs.CommandView.{compared_of}
use Rattle.picc_cli.proofs.AgreementEnds.{runs_exact, runs_known}
use Rattle.picc_cli.proofs.comparing.compared.Goals as goal

pub returns-clause-knows : goal.returns-clause-knows
returns-clause-knows g c =
    runs_known (compared_of c.args.asked) _ _ c.runs.result _ _ (script_file.content_of c.in-Ok-script_in.script) c.in-Ok.ensures.bytes c.in-Ok.ensures.same_contents
    c.in-Ok-script_in.ensures.found c.deref.ensures.value c.runs.ensures.knows

pub returns-clause-exact : goal.returns-clause-exact
returns-clause-exact g c =
    runs_exact (compared_of c.args.asked) _ _ c.runs.result _ _ (script_file.content_of c.in-Ok-script_in.script) c.in-Ok.ensures.bytes c.in-Ok.ensures.same_contents
    c.in-Ok-script_in.ensures.found c.deref.ensures.value c.runs.ensures.exact

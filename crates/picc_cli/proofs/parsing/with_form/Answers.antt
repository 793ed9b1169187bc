use Rattle.std.proofs.Common.{◌∙◌, ap}
use Rattle.std.proofs.lemmas.Result.{IfOk-weaker}
use Rattle.clap.specs.Simple.{with_subcommand}
use Rattle.clap.specs.Words.{app_of}
use Rattle.picc_cli.proofs.parsing.with_form.Goals as goal

pub returns : goal.returns
returns c =
    IfOk-weaker c.subcommand-2.result _ _ (λ longer added. added.shape c.in_ok-form.ensures.1 ∙ ap (with_subcommand (app_of c.args.line)) c.in_ok-form.ensures.0) c.subcommand-2.ensures

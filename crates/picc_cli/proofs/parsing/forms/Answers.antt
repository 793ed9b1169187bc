use Rattle.std.proofs.Common.{◌∙◌, true, codes, ap}
use Rattle.std.proofs.lemmas.Result.{IfOk-weaker}
use Rattle.clap.specs.Simple.{App, app_of_fields, with_subcommand}
use Rattle.picc_cli.specs.Clap.{subcommand_shape}
use Rattle.picc_cli.proofs.parsing.forms.Goals as goal

pub returns : goal.returns
returns c =
    let top = ap app_of_fields c.disable_help_subcommand-line.ensures
    ∙ ap (λ f. app_of_fields (record f { disable_help_subcommand = true })) c.disable_help_flag.ensures
    ∙ ap (λ f. app_of_fields (record f { disable_help_flag = true; disable_help_subcommand = true })) c.no_binary_name.ensures
    ∙ ap (λ (a : App). record a { top = record a.top { no_binary_name = true; disable_help_flag = true; disable_help_subcommand = true } }) c.new.ensures.app in
    let one = c.in_ok-line.ensures ∙ ap (λ (a : App). with_subcommand a (subcommand_shape (codes "build") 3)) top in
    let two = c.in_ok-line-2.ensures ∙ ap (λ (a : App). with_subcommand a (subcommand_shape (codes "trace") 3)) one in
    let three = c.in_ok-line-3.ensures ∙ ap (λ (a : App). with_subcommand a (subcommand_shape (codes "sim") 4)) two in
    let four = c.in_ok-line-4.ensures ∙ ap (λ (a : App). with_subcommand a (subcommand_shape (codes "agree") 3)) three in
    let five = c.in_ok-line-5.ensures ∙ ap (λ (a : App). with_subcommand a (subcommand_shape (codes "gen") 1)) four in
    let six = c.in_ok-line-6.ensures ∙ ap (λ (a : App). with_subcommand a (subcommand_shape (codes "check") 1)) five in
    let seven = c.in_ok-line-7.ensures ∙ ap (λ (a : App). with_subcommand a (subcommand_shape (codes "build84") 3)) six in
    IfOk-weaker c.with_form-8.result _ _ (λ line added. added ∙ ap (λ (a : App). with_subcommand a (subcommand_shape (codes "sim84") 4)) seven) c.with_form-8.ensures

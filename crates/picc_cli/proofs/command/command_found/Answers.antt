use Rattle.std.proofs.Common.{◌∙◌, sym, ap, codes}
use Rattle.clap.specs.Words.{found_of, rows_of}
use Rattle.clap.proofs.WalkLemmas.{raw_values-rows}
use Rattle.picc_cli.specs.Command.{form_by_name}
use Rattle.picc_cli.proofs.WordsFound.{found_is, none_found}
use Rattle.picc_cli.proofs.command.command_found.Goals as goal

pub returns-in-Some-get_raw : goal.returns-in-Some-get_raw
returns-in-Some-get_raw c =
    let all = c.in-Some-get_raw.ensures ∙ raw_values-rows (found_of c.in-Some.inner.now) (codes "words") in
    let found = found_is c.args.matches.now c.in-Some.name.now (rows_of (found_of c.in-Some.inner.now)) _ c.in-Some.ensures.name c.in-Some.ensures.rows all in
    c.command_in.ensures ∙ sym (ap form_by_name found)

pub returns-in-None-get_raw : goal.returns-in-None-get_raw
returns-in-None-get_raw c =
    let all = c.in-None-get_raw.ensures ∙ raw_values-rows (found_of c.in-Some.inner.now) (codes "words") in
    let found = found_is c.args.matches.now c.in-Some.name.now (rows_of (found_of c.in-Some.inner.now)) _ c.in-Some.ensures.name c.in-Some.ensures.rows all in
    c.command_in-in-None-get_raw.ensures ∙ sym (ap form_by_name found)

pub returns-in-None : goal.returns-in-None
unfolding form_by_name
returns-in-None c = sym (ap form_by_name (none_found c.args.matches.now c.in-None.ensures.name))

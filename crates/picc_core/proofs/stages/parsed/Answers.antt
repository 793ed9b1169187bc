use Rattle.std.proofs.lemmas.Result.{err_from_is_err_and}
use Rattle.picc_core.proofs.Telling.{tree_told, parse_early, parse_told}
use Rattle.picc_core.proofs.stages.parsed.Goals as goal

pub returns-in_err-parse : goal.returns-in_err-parse
returns-in_err-parse c =
    let p = err_from_is_err_and c.from_residual.result c.from_residual.ensures.1 in
    record { answer = rw (p.1, p.2) (parse_told c.args.text.now c.args.toks.now c.parse.result c.in_err-parse.field-0.0 c.in_err-parse.was c.requires c.parse.ensures.limit c.parse.ensures.limit_only c.parse.ensures.no_tree); early = rw (p.1, p.2) (parse_early c.in_err-parse.field-0.0) }

use Rattle.std.proofs.Common.{◌≡◌, ◌∙◌, sym, true≢false}
use Rattle.clap.specs.Words.{app_of, kind_of}
use Rattle.clap.specs.declared.error.kind.ErrorKind.TheVariants as kinds
use Rattle.picc_cli.specs.Command.{words_of}
use Rattle.picc_cli.proofs.WordsFound.{parse_found, parse_refused}
use Rattle.picc_cli.proofs.parsing.parsed.Goals as goal

pub returns-in-Ok : goal.returns-in-Ok
returns-in-Ok c =
    parse_found c.in-Ok.matches (app_of c.in_ok-line.line) (words_of c.args.words.now) c.in_ok-line.ensures c.requires c.in-Ok.ensures.kinds c.in-Ok.ensures.matches

pub returns : goal.returns
returns c =
    let differs : kind_of c.in-Err.error ≡ kinds.OutOfMemory → ⊥ = λ same. let equal = rw (c.kind.ensures, same) at c.eq.ensures in true≢false (sym equal ∙ c.if-eq.false) in
    parse_refused (app_of c.in_ok-line.line) (words_of c.args.words.now) (kind_of c.in-Err.error ≡ kinds.OutOfMemory) c.in_ok-line.ensures c.requires c.in-Err.ensures.passes differs

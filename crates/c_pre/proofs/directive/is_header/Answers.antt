use Rattle.std.proofs.Common.{◌∙◌, ap}
use Rattle.c_pre.specs.Directive.{names_header}
use Rattle.c_pre.proofs.Headers.{header_is}
use Rattle.c_pre.proofs.directive.is_header.Goals as goal

pub returns-in-len5 : goal.returns-in-len5
returns-in-len5 c = c.names_header.ensures ∙ ap names_header c.word_of.ensures ∙ header_is c.args.text.now c.args.tokens.now _ _ c.in-len5.len_at_least c.in-len5.len_below

use Rattle.std.proofs.Common.{sym, ◌∙◌}
use Rattle.parse_expr.proofs.Unary.{others_are_not, first_is_void}
use Rattle.parse_expr.proofs.pointer.is_void.Goals as goal

pub returns-then-not-is_empty : goal.returns-then-not-is_empty
returns-then-not-is_empty c = others_are_not c.args.specs.now (sym c.is_empty.ensures ∙ c.if-not-is_empty.true)

pub returns : goal.returns
returns c = c.is_void_word.ensures ∙ first_is_void c.args.specs.now (sym c.is_empty.ensures ∙ c.if-not-is_empty.false)

use Rattle.std.proofs.Common.{sym, ap}
use Rattle.c_token.specs.declared.token.TokKind.TheVariants as kinds
use Rattle.type_rules.specs.Expressions.{selected}
use Rattle.type_rules.specs.Places.{pointed_member}
use Rattle.c_tables.specs.Tables.{known_of}
use Rattle.c_terms.specs.Terms.{term_of}
use Rattle.check_expr.proofs.Answering.{ends, goes}
use Rattle.check_expr.proofs.Signs.{selected_member}
use Rattle.check_expr.proofs.expression.selected.Goals as goal

pub returns-in_ok-pointer-in-Arrow : goal.returns-in_ok-pointer-in-Arrow
returns-in_ok-pointer-in-Arrow c = ends term_of _ _ _ _ (c.pointed_member.ensures (known_of c.used.new.checker)) (goes (λ x. pointed_member x c.args.name.now c.args.term.start) _ _ _ _ c.in_ok-pointer-in-Arrow.ensures (ap (λ p. selected (kinds.Punct p) (term_of c.args.term) c.args.name.now (known_of c.args.checker.now)) (sym c.in-Arrow.is)))

pub returns-in_default : goal.returns-in_default
returns-in_default c = ends term_of _ _ _ _ (c.member.ensures (known_of c.args.checker.now)) (selected_member c.args.punct (term_of c.args.term) c.args.name.now (known_of c.args.checker.now) c.in_default.not-Arrow)

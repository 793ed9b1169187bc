use Rattle.std.proofs.Common.{sym, ap}
use Rattle.c_token.specs.declared.token.TokKind.TheVariants as kinds
use Rattle.type_rules.specs.Expressions.{signed}
use Rattle.c_tables.specs.Tables.{known_of}
use Rattle.c_terms.specs.Terms.{term_of}
use Rattle.check_expr.proofs.Answering.{ends}
use Rattle.check_expr.proofs.prefixes.prefixed.Goals as goal

pub returns-in-Ampersand : goal.returns-in-Ampersand
returns-in-Ampersand c = ends term_of _ _ _ _ (c.address.ensures (known_of c.args.checker.now)) (ap (λ p. signed (kinds.Punct p) (term_of c.args.term) c.args.sign.line (known_of c.args.checker.now)) (sym c.in-Ampersand.is))

pub returns-in-Increment : goal.returns-in-Increment
returns-in-Increment c = ends term_of _ _ _ _ (c.stepped.ensures (known_of c.args.checker.now)) (ap (λ p. signed (kinds.Punct p) (term_of c.args.term) c.args.sign.line (known_of c.args.checker.now)) (sym c.in-Increment.is))

pub returns-in-Decrement : goal.returns-in-Decrement
returns-in-Decrement c = ends term_of _ _ _ _ (c.stepped-in-Decrement.ensures (known_of c.args.checker.now)) (ap (λ p. signed (kinds.Punct p) (term_of c.args.term) c.args.sign.line (known_of c.args.checker.now)) (sym c.in-Decrement.is))

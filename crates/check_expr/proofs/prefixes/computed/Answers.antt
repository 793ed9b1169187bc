use Rattle.std.proofs.Common.{sym, ap}
use Rattle.c_tables.specs.Tables.{known_of}
use Rattle.c_terms.specs.Terms.{operand_of, term_of}
use Rattle.check_expr.specs.Folds.{computed}
use Rattle.check_expr.proofs.Answering.{ends}
use Rattle.check_expr.proofs.prefixes.computed.Goals as goal

pub returns-in-Star : goal.returns-in-Star
returns-in-Star c = ends term_of _ _ _ _ (c.pointed.ensures (known_of c.args.checker.now)) (ap (λ p. computed p (operand_of c.args.operand) c.args.line (known_of c.args.checker.now)) (sym c.in-Star.is))

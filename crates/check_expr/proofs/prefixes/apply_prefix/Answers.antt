use Rattle.std.proofs.Common.{sym, ap}
use Rattle.c_tables.specs.Tables.{known_of}
use Rattle.c_terms.specs.Terms.{term_of}
use Rattle.check_expr.specs.Folds.{applied_by}
use Rattle.check_expr.specs.Kept.{applied_of}
use Rattle.check_expr.proofs.Answering.{ends}
use Rattle.check_expr.proofs.prefixes.apply_prefix.Goals as goal

pub returns-in-Sizeof : goal.returns-in-Sizeof
returns-in-Sizeof c = ends term_of _ _ _ _ (c.size_of_term.ensures (known_of c.args.checker.now)) (ap (λ p. applied_by (applied_of p) (term_of c.args.term) (known_of c.args.checker.now)) (sym c.in-Sizeof.is))

use Rattle.c_nodes.specs.Views.{expr_of}
use Rattle.c_tables.specs.Tables.{known_of}
use Rattle.c_terms.specs.Terms.{term_of}
use Rattle.c_check.proofs.Evaluated.{value_is}
use Rattle.c_check.proofs.values.evaluated.Goals as goal

pub returns : goal.returns
returns c = value_is (expr_of c.args.expr.now) (known_of c.args.checker.now) (known_of c.expression.new.checker) (known_of c.used.new.checker) (term_of c.in_ok-term.term) c.used.result c.in_ok-term.ensures c.used.ensures

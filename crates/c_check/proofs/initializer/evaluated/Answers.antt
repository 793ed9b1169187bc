use Rattle.c_nodes.specs.Views.{assign_of}
use Rattle.c_tables.specs.Tables.{known_of}
use Rattle.c_terms.specs.Terms.{term_of}
use Rattle.c_check.proofs.Evaluated.{value_is}
use Rattle.c_check.proofs.initializer.evaluated.Goals as goal

pub returns : goal.returns
returns c = value_is (assign_of c.args.value.now) (known_of c.args.checker.now) (known_of c.assign.new.checker) (known_of c.used.new.checker) (term_of c.in_ok-term.term) c.used.result c.in_ok-term.ensures c.used.ensures

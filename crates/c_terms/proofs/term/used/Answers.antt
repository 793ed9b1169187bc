use Rattle.c_tables.specs.Tables.{known_of}
use Rattle.c_terms.proofs.term.used.Goals as goal

pub returns : goal.returns
returns c = c.used_value.ensures (known_of c.args.checker.now)

use Rattle.c_tables.specs.Tables.{known_of}
use Rattle.check_expr.proofs.type_name.size_of_name.Goals as goal

pub returns : goal.returns
returns c = rw c.in_ok-ty.ensures (c.size_of_type.ensures (known_of c.type_named.new.checker))

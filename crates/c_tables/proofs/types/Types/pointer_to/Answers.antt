use Rattle.c_tables.specs.Tables.{types_in}
use Rattle.c_tables.proofs.Sights.{pointer_made}
use Rattle.c_tables.proofs.types.Types.pointer_to.Goals as goal

pub returns : goal.returns
returns c = λ known. pointer_made c.args.target c.in_ok-row.row (types_in c.args.self.now known) (types_in c.row.new.self known) (c.in_ok-row.ensures.said known)

use Rattle.std.proofs.Common.{if◌then◌else◌, ap}
use Rattle.type_rules.specs.Faults as kind
use Rattle.type_rules.specs.Rows as rows
use Rattle.c_tables.proofs.types.Types.second_body.Goals as goal

pub returns-in-Absent : goal.returns-in-Absent
returns-in-Absent c = λ known. ap (λ p. if rows.is_absent p then kind.Declare else kind.Again) (c.in-Absent.ensures known)

pub returns-in-Open : goal.returns-in-Open
returns-in-Open c = λ known. ap (λ p. if rows.is_absent p then kind.Declare else kind.Again) (c.in-Open.ensures known)

pub returns-in-Closed : goal.returns-in-Closed
returns-in-Closed c = λ known. ap (λ p. if rows.is_absent p then kind.Declare else kind.Again) (c.in-Closed.ensures known)

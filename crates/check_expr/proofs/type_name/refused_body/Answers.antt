use Rattle.check_expr.proofs.type_name.refused_body.Goals as goal

pub returns-in-Some-Structure : goal.returns-in-Some-Structure
returns-in-Some-Structure c known =
    let found = rw c.in-Some-Structure.field-0-is at (c.in-Some-Structure.ensures known) in
    rw (c.in-Some.is, ← c.deref.ensures.value, ← found) (c.second_body.ensures known)

pub returns-in-Some-Enumeration : goal.returns-in-Some-Enumeration
returns-in-Some-Enumeration c known =
    let found = rw c.in-Some-Enumeration.field-0-is at (c.in-Some-Enumeration.ensures known) in
    rw (c.in-Some.is, ← c.deref.ensures.value, ← found)

pub returns-in-None : goal.returns-in-None
returns-in-None c known = rw (c.in-Some.is, ← c.deref.ensures.value, ← c.in-None.ensures known)

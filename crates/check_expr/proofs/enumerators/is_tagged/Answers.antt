use Rattle.check_expr.proofs.enumerators.is_tagged.Goals as goal

pub returns-in-Some-tagged : goal.returns-in-Some-tagged
returns-in-Some-tagged c known = rw (c.in-Some.is, ← c.deref.ensures.value, ← c.in-Some-tagged.ensures known)

pub returns-in-None : goal.returns-in-None
returns-in-None c known = rw (c.in-Some.is, ← c.deref.ensures.value, ← c.in-None.ensures known)

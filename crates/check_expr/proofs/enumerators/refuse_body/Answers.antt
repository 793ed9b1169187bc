use Rattle.check_expr.proofs.enumerators.refuse_body.Goals as goal

pub returns-then-is_tagged : goal.returns-then-is_tagged
returns-then-is_tagged c known = rw (c.refused.ensures, ← c.if-is_tagged.ensures known)

pub returns-then-bodies : goal.returns-then-bodies
returns-then-bodies c known = rw (← c.if-is_tagged.ensures known, c.if-bodies.true)

pub returns-else-bodies : goal.returns-else-bodies
returns-else-bodies c known = rw (c.refused-else-bodies.ensures, ← c.if-is_tagged.ensures known, c.if-bodies.false)

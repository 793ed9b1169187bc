use Rattle.c_tables.specs.Tables.{types_in}
use Rattle.check_expr.specs.Views.{context_of}
use Rattle.check_expr.proofs.declarator.structure_of.Goals as goal

pub returns-in-Some : goal.returns-in-Some
returns-in-Some c known = rw (← c.in-Some.ensures known) (c.of_structure.ensures (context_of c.args.context) c.args.tag.now (types_in c.args.types.now known))

pub returns-then-declares_tags : goal.returns-then-declares_tags
returns-then-declares_tags c known = rw (← c.in-None.ensures known, ← c.if-declares_tags.ensures) (c.declare_tag.ensures known)

pub returns-else-declares_tags : goal.returns-else-declares_tags
returns-else-declares_tags c known = rw (c.refused.ensures, ← c.in-None.ensures known, ← c.if-declares_tags.ensures)

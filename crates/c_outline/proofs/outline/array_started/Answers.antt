use Rattle.std.proofs.Common.{sym}
use Rattle.c_tables.specs.Tables.{types_in}
use Rattle.c_outline.specs.Views.{outline_of}
use Rattle.c_outline.proofs.Outlining.{element_started, whole_started}
use Rattle.c_outline.proofs.outline.array_started.Goals as goal

pub returns-in-Some : goal.returns-in-Some
returns-in-Some c known = rw (element_started (outline_of c.args.outline) (outline_of c.args.outline).declared c.in-Some.element (types_in c.args.types.now known) (sym c.in-Some.ensures)) (c.element_started.ensures known)

pub returns-in-None : goal.returns-in-None
returns-in-None c known = rw (whole_started (outline_of c.args.outline) (outline_of c.args.outline).declared (types_in c.args.types.now known) (sym c.in-None.ensures)) (c.whole_started.ensures known)

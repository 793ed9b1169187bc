use Rattle.std.proofs.Common.{sym}
use Rattle.std.proofs.lemmas.Bool.{not-true, not-false}
use Rattle.c_nodes.specs.Words.{spell_tag}
use Rattle.c_tables.specs.Tables.{types_in}
use Rattle.check_expr.specs.Views.{context_of}
use Rattle.check_expr.proofs.Declaring.{opened_again, opened_inside, opened_well}
use Rattle.check_expr.proofs.declarator.opened.Goals as goal

pub returns-then-not-is_absent : goal.returns-then-not-is_absent
returns-then-not-is_absent c known = rw c.refused.ensures (opened_again (context_of c.args.context) (spell_tag c.args.tag.now) c.args.line c.in_ok-structure.structure (types_in c.args.types.now known) (types_in c.structure_in.new.types known) (c.in_ok-structure.ensures known) (sym (rw (c.progress.ensures known) at c.if-not-is_absent.ensures)))

pub returns-then-not-context : goal.returns-then-not-context
returns-then-not-context c known = rw c.refused-then-not-context.ensures (opened_inside (context_of c.args.context) (spell_tag c.args.tag.now) c.args.line c.in_ok-structure.structure (types_in c.args.types.now known) (types_in c.structure_in.new.types known) (c.in_ok-structure.ensures known) (sym (rw (c.progress.ensures known) at c.if-not-is_absent.ensures)) (not-true c.args.context.bodies c.if-not-context.true))

pub returns : goal.returns
returns c known = opened_well (context_of c.args.context) (spell_tag c.args.tag.now) c.args.line c.in_ok-structure.structure (types_in c.args.types.now known) (types_in c.structure_in.new.types known) (types_in c.set_progress.new.self known) (c.in_ok-structure.ensures known) (sym (rw (c.progress.ensures known) at c.if-not-is_absent.ensures)) (not-false c.args.context.bodies c.if-not-context.false) (c.set_progress.ensures known)

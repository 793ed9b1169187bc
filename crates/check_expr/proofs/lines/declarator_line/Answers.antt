use Rattle.c_nodes.specs.Words.{named}
use Rattle.c_nodes.specs.declared.expression.Binary.TheViews.{out-Declarator}
use Rattle.c_nodes.proofs.Shapes.{show_declarator}
use Rattle.check_expr.proofs.Pointers.{line_some, line_none}
use Rattle.check_expr.proofs.lines.declarator_line.Goals as goal

pub returns-in-Some : goal.returns-in-Some
returns-in-Some c = rw (show_declarator c.args.declarator.now) (line_some (out-Declarator c.args.declarator.now).pointers.items (named (out-Declarator c.args.declarator.now).name) c.in-Some.pointer.now (rw c.deref.ensures.value at c.in-Some.ensures.value))

pub returns-in-None : goal.returns-in-None
returns-in-None c = rw (show_declarator c.args.declarator.now) (line_none (out-Declarator c.args.declarator.now).pointers.items (named (out-Declarator c.args.declarator.now).name) (rw c.deref.ensures.value at c.in-None.ensures.value))

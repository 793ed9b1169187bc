use Rattle.std.proofs.Common.{sym, ap, ◌∙◌}
use Rattle.c_nodes.proofs.Shapes.{show_declarator}
use Rattle.type_rules.specs.Declarators.{name_in}
use Rattle.c_check.proofs.declaration.name_of.Goals as goal

pub returns : goal.returns
returns c = c.deref.ensures.value ∙ sym (ap name_in (show_declarator c.args.declarator.now))

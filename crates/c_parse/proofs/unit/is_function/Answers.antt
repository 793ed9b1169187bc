use Rattle.std.proofs.Common.{sym, ap, ◌∙◌}
use Rattle.c_nodes.specs.Programs.{is_function}
use Rattle.c_nodes.specs.declared.expression.Binary.TheViews.{out-Declarator}
use Rattle.c_nodes.proofs.Shapes.{show_declarator}
use Rattle.c_parse.proofs.LastSuffix.{last_is, none_is}
use Rattle.c_parse.proofs.unit.is_function.Goals as goal

pub returns-in-Some : goal.returns-in-Some
returns-in-Some c =
    let d = c.args.declarator.now in
    c.is_bracketed.ensures ∙ sym (ap is_function (show_declarator d) ∙ last_is (out-Declarator d).suffixes.items c.in-Some.suffix.now (rw c.deref.ensures.value at c.in-Some.ensures.value))

pub returns-in-None : goal.returns-in-None
returns-in-None c =
    let d = c.args.declarator.now in
    sym (ap is_function (show_declarator d) ∙ none_is (out-Declarator d).suffixes.items (rw c.deref.ensures.value at c.in-None.ensures.value))

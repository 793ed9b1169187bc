use Rattle.std.proofs.Common.{◌∙◌, ap, sym, subst, List}
use Rattle.c_pre.specs.declared.program.Free.{Free}
use Rattle.c_pre.specs.Directive.{table_of}
use Rattle.c_pre.specs.Replace.{limited}
use Rattle.c_pre.specs.Items.{Gives, events}
use Rattle.c_pre.proofs.Finishing.{decided_bad, decided_good}
use Rattle.c_pre.proofs.program.tokens_left.Goals as goal

pub returns-in-Some : goal.returns-in-Some
returns-in-Some c = decided_bad c.args.text.now c.args.raw.now _ _ _ c.in-Some.line c.in_ok-definitions.ensures.walks c.in-Some.is

pub returns : goal.returns
returns c =
    let table = table_of c.in_ok-definitions.field-0.definitions.list.items in
    subst (Gives c.replace_all.result)
    (sym (decided_good c.args.text.now c.args.raw.now table _ _ c.in_ok-definitions.ensures.walks c.in_default.is
    ∙ ap (λ (xs : List Free). limited 262144 (events c.args.text.now table xs)) (sym c.deref.ensures.value)))
    c.replace_all.ensures

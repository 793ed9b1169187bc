use Rattle.std.proofs.Common.{◌≡◌, Bool, true, Ok, subst, sym}
use Rattle.c_pre.specs.Directive.{table_of}
use Rattle.c_pre.specs.Items.{Adds}
use Rattle.c_pre.proofs.Defining.{takes_good}
use Rattle.c_pre.proofs.program.define.Goals as goal

pub returns-in-None-clause-takes : goal.returns-in-None-clause-takes
returns-in-None-clause-takes c =
    let good : c.in_ok-is_good.is_good ≡ true = c.if-not-is_good.false in
    takes_good c.args.text.now c.args.definition.name.now c.args.definition.list.now (table_of c.args.definitions.now.list.items) (table_of c.add.new.definitions.list.items)
    (subst (λ (b : Bool). Adds c.args.text.now c.args.definition.name.now c.args.definition.list.now (table_of c.args.definitions.now.list.items) (table_of c.add.new.definitions.list.items) (Ok b)) good c.in_ok-is_good.ensures.adds)
    (sym c.in-None.ensures)

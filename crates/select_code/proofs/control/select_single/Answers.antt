use Rattle.std.proofs.Common.{reverse, sym, ap, ◌∙◌}
use Rattle.core_code.specs.View.{tree_of, trees_in}
use Rattle.core_code.proofs.Views.{tree_convert}
use Rattle.select_code.proofs.Chains.{cut_nothing, control_nothing}
use Rattle.select_code.proofs.control.select_single.Goals as goal

pub returns-then-is_cut-clause-put : goal.returns-then-is_cut-clause-put
returns-then-is_cut-clause-put g c =
    let k = c.in-Convert in
    cut_nothing (g.W.Wide.code c.args.wide.now) c.args.ending (reverse c.args.loops.now.starts.items) (trees_in c.args.before.now) c.args.out.now.list.items (tree_of c.args.c.now) k.from k.to k.at
    (ap tree_of k.is ∙ tree_convert k.from k.to k.at) (sym c.is_cut.ensures ∙ c.if-is_cut.true)

pub returns-in-Many-clause-put : goal.returns-in-Many-clause-put
returns-in-Many-clause-put g c = control_nothing (g.W.Wide.code c.args.wide.now) c.args.ending (reverse c.args.loops.now.starts.items) (trees_in c.args.before.now) c.args.out.now.list.items c.args.c.now c.in-Many.is

pub returns-in-Many-2-clause-put : goal.returns-in-Many-2-clause-put
returns-in-Many-2-clause-put g c = control_nothing (g.W.Wide.code c.args.wide.now) c.args.ending (reverse c.args.loops.now.starts.items) (trees_in c.args.before.now) c.args.out.now.list.items c.args.c.now c.in-Many.is

pub returns-in-Many-3-clause-put : goal.returns-in-Many-3-clause-put
returns-in-Many-3-clause-put g c = control_nothing (g.W.Wide.code c.args.wide.now) c.args.ending (reverse c.args.loops.now.starts.items) (trees_in c.args.before.now) c.args.out.now.list.items c.args.c.now c.in-Many.is

use Rattle.picc_core.proofs.Founding.{copies_low, statics_low, ready, stated}
use Rattle.picc_core.proofs.Translating.{founded_at}
use Rattle.picc_core.proofs.compiling.codes_of.Goals as goal

pub lower-requires-clause-copies : goal.lower-requires-clause-copies
lower-requires-clause-copies c = copies_low c.args.front.now.typed c.args.front.now.copies.list.items c.args.front.now.placed c.args.front.now.at.items c.requires

pub lower-requires-clause-statics : goal.lower-requires-clause-statics
lower-requires-clause-statics c = statics_low c.args.front.now.typed c.args.front.now.copies.list.items c.args.front.now.placed c.args.front.now.at.items c.requires

pub joined-requires-clause-copies : goal.joined-requires-clause-copies
joined-requires-clause-copies c = copies_low c.args.front.now.typed c.args.front.now.copies.list.items c.args.front.now.placed c.args.front.now.at.items c.requires

pub joined-requires-clause-few : goal.joined-requires-clause-few
joined-requires-clause-few c = c.in_ok-core.ensures.few

pub joined-requires-clause-short : goal.joined-requires-clause-short
joined-requires-clause-short c = c.in_ok-core.ensures.short

pub symbolic_by-requires-clause-few : goal.symbolic_by-requires-clause-few
symbolic_by-requires-clause-few c = c.in_ok-core.ensures.few

pub symbolic_by-requires-clause-short : goal.symbolic_by-requires-clause-short
symbolic_by-requires-clause-short c = c.in_ok-core.ensures.short

pub symbolic_by-requires-clause-ready : goal.symbolic_by-requires-clause-ready
symbolic_by-requires-clause-ready c = ready c.args.front.now.typed c.args.front.now.copies.list.items c.args.front.now.placed c.args.front.now.at.items c.requires c.in_ok-core.core c.in_ok-core.ensures.bodies c.in_ok-core.ensures.statics

pub symbolic_by-requires-clause-founded : goal.symbolic_by-requires-clause-founded
symbolic_by-requires-clause-founded c = founded_at _ _ _ _ _ c.deref.ensures.value c.requires

pub returns-clause-stated : goal.returns-clause-stated
returns-clause-stated c =
    stated _ _ _ _ (founded_at _ _ _ _ _ c.deref.ensures.value c.requires) c.in_ok-core.core c.in_ok-core.ensures.bodies c.in_ok-core.ensures.statics
    c.in_ok-selected.selected.blocks.items c.in_ok-selected.ensures

use Rattle.std.proofs.Common.{sym, ◌∙◌}
use Rattle.vol_opt.specs.Marks.{type_marked}
use Rattle.vol_opt.proofs.Rows.{goes_on, found, nowhere}
use Rattle.vol_opt.proofs.volatile.Marks.has_marked_member.Goals as goal

pub loop-member-preserved : goal.loop-member-preserved
loop-member-preserved c = goes_on (type_marked c.args.self.now.targets.items c.args.self.now.structures.items) _ _ c.member-item.result _ c.loop-member-test.true c.member-item.is (sym c.is_marked.ensures ∙ c.if-is_marked.false) c.loop-member.invariant

pub returns-then-is_marked : goal.returns-then-is_marked
returns-then-is_marked c = found (type_marked c.args.self.now.targets.items c.args.self.now.structures.items) _ _ c.member-item.result _ c.loop-member-test.true c.member-item.is (sym c.is_marked.ensures ∙ c.if-is_marked.true) c.loop-member.invariant

pub returns : goal.returns
returns c = nowhere (type_marked c.args.self.now.targets.items c.args.self.now.structures.items) _ _ _ c.loop-member-test.false c.loop-member.invariant

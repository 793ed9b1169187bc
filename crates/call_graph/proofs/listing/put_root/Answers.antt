use Rattle.std.proofs.Common.{arith}
use Rattle.call_graph.proofs.Additions.{root_more, root_all}
use Rattle.call_graph.proofs.listing.put_root.Goals as goal

pub loop-level-preserved : goal.loop-level-preserved
loop-level-preserved c = root_more c.args.functions c.args.root c.args.found.now.levels.items c.deref.result.now c.loop-level.level c.args.list.now.items c.loop-level.list.items c.put_level.new.list.items c.deref.ensures.value c.loop-level.invariant c.in_ok-put_level.ensures

pub returns : goal.returns
returns c = root_all c.args.functions c.args.root c.args.found.now.levels.items c.args.found.now.longest c.loop-level.level c.args.list.now.items c.loop-level.list.items c.requires.most (omega arith) c.loop-level.invariant

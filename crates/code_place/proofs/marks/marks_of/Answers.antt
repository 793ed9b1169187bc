use Rattle.code_place.proofs.Marked.{marks_more}
use Rattle.code_place.proofs.Named.{somewhere}
use Rattle.code_place.proofs.Room.{room_at}
use Rattle.code_place.proofs.marks.marks_of.Goals as goal

pub unreachable-requires : goal.unreachable-requires
unreachable-requires c = somewhere _ c.args.s.now.blocks.items c.args.at.now _ c.block-item.result c.deref-block-items.ensures.value c.requires c.loop-number-test.true c.block-item.is c.in_default.ensures.lookup.0

pub put_labels-requires : goal.put_labels-requires
put_labels-requires c = room_at _ _ _ _ _ _ c.deref-block-items.ensures.value c.requires c.loop-number-test.true c.block-item.is c.in-Some.ensures.lookup.3.0 c.in-Some.ensures.lookup.1

pub loop-number-preserved : goal.loop-number-preserved
loop-number-preserved c = marks_more _ _ _ _ c.block-item.result _ c.loop-number.marks c.put_block.new.self c.put_labels.new.self c.deref-block-items.ensures.value c.loop-number-test.true c.block-item.is c.in-Some.ensures.lookup.3.0 c.in-Some.ensures.lookup.1 c.loop-number.invariant c.in_ok-put_block.ensures.names c.in_ok-put_block.ensures.halt c.in_ok-put_block.ensures.restore c.put_labels.ensures.names c.put_labels.ensures.halt c.put_labels.ensures.restore

use Rattle.bank_page.proofs.Programs.{ready_at, blocks_none, blocks_more, whole}
use Rattle.bank_page.proofs.selecting.selects_plain.Goals as goal

pub loop-block-init : goal.loop-block-init
loop-block-init c = blocks_none c.args.placed.now c.args.s.now.blocks.items c.new-blocks.result.items c.new-blocks.ensures.items

pub loop-block-preserved : goal.loop-block-preserved
loop-block-preserved c =
    let made = c.in_ok-made.ensures in
    blocks_more c.args.placed.now c.deref-block-items.result.now c.args.s.now.blocks.items c.loop-block.blocks.items c.put_made.new.blocks.items c.loop-block.block-index c.block-item.result c.in_ok-made.made c.deref-block-items.ensures.value c.loop-block-test.true c.block-item.is c.in_ok-put_made.ensures made.name made.bare made.apart made.right made.lean made.front made.few made.exact c.loop-block.invariant

pub returns-clause-names : goal.returns-clause-names
returns-clause-names c = (whole c.args.placed.now c.deref-block-items.result.now c.args.s.now.blocks.items c.loop-block.blocks.items c.loop-block.block-index c.deref-block-items.ensures.value c.loop-block-test.false c.loop-block.invariant).0

pub returns-clause-bare : goal.returns-clause-bare
returns-clause-bare c = (whole c.args.placed.now c.deref-block-items.result.now c.args.s.now.blocks.items c.loop-block.blocks.items c.loop-block.block-index c.deref-block-items.ensures.value c.loop-block-test.false c.loop-block.invariant).1

pub returns-clause-few : goal.returns-clause-few
returns-clause-few c = (whole c.args.placed.now c.deref-block-items.result.now c.args.s.now.blocks.items c.loop-block.blocks.items c.loop-block.block-index c.deref-block-items.ensures.value c.loop-block-test.false c.loop-block.invariant).3

pub returns-clause-front : goal.returns-clause-front
returns-clause-front c = (whole c.args.placed.now c.deref-block-items.result.now c.args.s.now.blocks.items c.loop-block.blocks.items c.loop-block.block-index c.deref-block-items.ensures.value c.loop-block-test.false c.loop-block.invariant).2

pub returns-clause-exact : goal.returns-clause-exact
returns-clause-exact c = (whole c.args.placed.now c.deref-block-items.result.now c.args.s.now.blocks.items c.loop-block.blocks.items c.loop-block.block-index c.deref-block-items.ensures.value c.loop-block-test.false c.loop-block.invariant).4

pub selected-requires : goal.selected-requires
selected-requires c =
    record { ready = ready_at c.args.placed.now c.deref-block-items.result.now c.args.s.now.blocks.items c.loop-block.block-index c.block-item.result c.deref-block-items.ensures.value c.loop-block-test.true c.block-item.is c.requires.ready }

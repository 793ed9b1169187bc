use Rattle.picc_core.proofs.BlockViews.{are_joined}
use Rattle.picc_core.proofs.joining.joined.Goals as goal

pub returns : goal.returns
returns c = record {
  whole =
      are_joined c.args.core.now c.args.copies.now.list.items _ c.insert.new.self.items _ _ _ c.in_ok-start_block.field-0 _ c.deref.ensures.value
      c.in_ok-insert.ensures.items c.in_ok-order.ensures.same c.in_ok-order.ensures.sorted c.in_ok-blocks.ensures.blocks c.in_ok-put_helpers.ensures c.in_ok-start_block.ensures.name
      c.in_ok-start_block.ensures.exact c.handler_of-handler.ensures;
}

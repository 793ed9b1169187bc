use Rattle.call_graph.proofs.Additions.{both_roots}
use Rattle.call_graph.proofs.listing.list_of.Goals as goal

pub returns : goal.returns
returns c = both_roots c.args.functions c.args.main.now c.args.handler.now c.new-list.result.items c.put_root.new.list.items c.put_handler.new.list.items c.new-list.ensures.items c.in_ok-put_root.ensures c.in_ok-put_handler.ensures

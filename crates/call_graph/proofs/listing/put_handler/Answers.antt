use Rattle.call_graph.proofs.Additions.{handler_some}
use Rattle.call_graph.proofs.listing.put_handler.Goals as goal

pub returns-in_ok-put_root-in-Some : goal.returns-in_ok-put_root-in-Some
returns-in_ok-put_root-in-Some c = handler_some c.args.functions c.args.handler.now c.in-Some.found c.args.list.now.items c.put_root.new.list.items c.in-Some.is c.in_ok-put_root-in-Some.ensures

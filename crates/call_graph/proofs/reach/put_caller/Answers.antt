use Rattle.call_graph.proofs.Callers.{put_once}
use Rattle.call_graph.proofs.reach.put_caller.Goals as goal

pub returns : goal.returns
returns c = put_once c.args.number c.args.callee c.args.callers.now c.index-callers-at.result c.push.new.self c.if-at-callers.false c.in_ok-push.ensures.items

use Rattle.std.proofs.Common.{◌≡◌, length, ◌∙◌, ap, arith}
use Rattle.live_frames.proofs.Connected.{callers_told, functions_told}
use Rattle.live_frames.proofs.live.Graph.new.Goals as goal

pub returns : goal.returns
returns c = ((c.len.ensures ∙ functions_told c.args.p.now.functions, c.in_ok-rows.ensures), record { few = omega (arith, functions_told c.args.p.now.functions); size = c.in_ok-callers.ensures.length ∙ ap length c.deref.ensures.value; callers = callers_told c.in_ok-rows.rows.items c.deref.result.now c.in_ok-callers.callers.items c.deref.ensures.value c.in_ok-callers.ensures.exact })

use Rattle.live_frames.proofs.Connected.{forward_told, backward_told}
use Rattle.live_frames.proofs.live.Graph.reach.Goals as goal

pub returns : goal.returns
returns c = record {
  forward = forward_told c.args.self.now.rows.items c.deref.result.now _ c.number_of-number.result c.in_ok-forward.forward.items c.deref.ensures.value c.number_of-number.ensures c.in_ok-forward.ensures.exact;
  backward = backward_told c.args.self.now.rows.items c.args.self.now.callers.items c.deref-2.result.now _ c.number_of-number.result c.in_ok-backward.backward.items c.deref-2.ensures.value c.number_of-number.ensures c.requires.within c.requires.sound.size c.requires.sound.callers c.in_ok-backward.ensures.exact;
}

use Rattle.std.proofs.Common.{◌≡◌, ℕ, ◌<◌, ◌⊎◌, ◌↔◌, true, map, drop}
use Rattle.call_graph.specs.Rows.{rows_of}
use Rattle.pic_map.specs.MapView.{frame_of}
use Rattle.live_frames.specs.Memory.{is_taken}
use Rattle.live_frames.specs.Together.{LiveFramesHave}
use Rattle.live_frames.proofs.live.Graph.take_frames.Given as goal

abbrev pub invariant-loop-number : goal.invariant-loop-number
invariant-loop-number l = (x : ℕ) → x < 512 → ((is_taken l.taken.marks x ≡ true) ⊎ LiveFramesHave (rows_of l.self.rows.items) l.self.functions l.copy (drop l.number l.others) (drop l.number (map frame_of l.frames)) x) ↔ ((is_taken l.fn.taken.marks x ≡ true) ⊎ LiveFramesHave (rows_of l.self.rows.items) l.self.functions l.copy l.others (map frame_of l.frames) x)

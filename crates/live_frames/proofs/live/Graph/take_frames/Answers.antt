use Rattle.std.proofs.Common.{◌≡◌, ℕ, ◌+◌, ◌≤◌, ◌⊎◌, inl, inr, true, length, map, drop, arith}
use Rattle.std.proofs.lemmas.List.{length-map}
use Rattle.std.proofs.lemmas.Option.{slice_get-get_or}
use Rattle.call_graph.specs.Rows.{rows_of}
use Rattle.pic_map.specs.MapView.{frame_of}
use Rattle.live_frames.specs.Memory.{is_taken}
use Rattle.live_frames.proofs.Connected.{live_at, live_past, live_done, got_of}
use Rattle.live_frames.proofs.live.Graph.take_frames.Goals as goal

pub returns-in_default : goal.returns-in_default
returns-in_default c = λ x small.
    let graph = rows_of c.args.self.now.rows.items in
    let lines = map frame_of c.args.frames.now in
    let past : length lines ≤ c.loop-number.number = omega (arith, length-map c.args.frames.now frame_of, c.in_default.ensures.lookup.3) in
    live_done _ _ _ (live_past graph c.args.self.now.functions c.args.copy c.args.others.now lines c.loop-number.number x (inr past)) (c.loop-number.invariant x small)

pub take_frame-requires-clause-within : goal.take_frame-requires-clause-within
take_frame-requires-clause-within c = c.requires.within c.loop-number.number _ (slice_get-get_or c.args.others.now c.loop-number.number _ c.loop-number-test.true)

pub loop-number-preserved : goal.loop-number-preserved
loop-number-preserved c = λ x small.
    let graph = rows_of c.args.self.now.rows.items in
    let lines = map frame_of c.args.frames.now in
    let number = c.loop-number.number in
    let found = got_of frame_of c.args.frames.now number c.in-Some.frame.now c.in-Some.ensures.lookup.3.0 c.in-Some.ensures.lookup.1 in
    live_at graph c.args.self.now.functions c.args.copy c.args.others.now lines number _ (frame_of c.in-Some.frame.now) (slice_get-get_or c.args.others.now number _ c.loop-number-test.true) found x _ _ _ (c.take_frame.ensures x small) (c.loop-number.invariant x small)

pub returns : goal.returns
returns c = λ x small.
    let graph = rows_of c.args.self.now.rows.items in
    let lines = map frame_of c.args.frames.now in
    live_done _ _ _ (live_past graph c.args.self.now.functions c.args.copy c.args.others.now lines c.loop-number.number x (inl c.loop-number-test.false)) (c.loop-number.invariant x small)

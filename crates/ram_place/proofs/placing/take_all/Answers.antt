use Rattle.std.proofs.Common.{◌≡◌, ℕ, ◌+◌, ◌≤◌, Bool, ◌||◌, List, length, map, drop, ap, arith, subst}
use Rattle.std.proofs.lemmas.List.{length-map, drop_all}
use Rattle.pic_map.specs.MapContent.{FrameLine}
use Rattle.pic_map.specs.MapView.{frame_of}
use Rattle.live_frames.specs.Memory.{is_taken}
use Rattle.ram_place.specs.Placement.{frames_have}
use Rattle.live_frames.proofs.Connected.{drop_got, got_of}
use Rattle.ram_place.proofs.Standing.{frames_have_more, frames_have_none}
use Rattle.ram_place.proofs.placing.take_all.Goals as goal

pub loop-frame-preserved : goal.loop-frame-preserved
loop-frame-preserved c = λ x small.
    let lines = map frame_of c.args.frames.now in
    let i = c.loop-frame.frame-index in
    let line = frame_of c.frame-item.result in
    let all = is_taken c.args.taken.now.marks x || frames_have lines x in
    let left = drop_got lines i line (got_of frame_of c.args.frames.now i c.frame-item.result c.loop-frame-test.true c.frame-item.is) in
    let P : List FrameLine → Type 0 = λ (list : List FrameLine). (is_taken c.loop-frame.taken.marks x || frames_have list x) ≡ all in
    frames_have_more line (drop (i + 1) lines) x (is_taken c.loop-frame.taken.marks x) (is_taken c.take.new.self.marks x) all (c.take.ensures x small) (subst P left (c.loop-frame.invariant x small))

pub returns : goal.returns
returns c = λ x small.
    let lines = map frame_of c.args.frames.now in
    let past : length lines ≤ c.loop-frame.frame-index = omega (arith, length-map c.args.frames.now frame_of, c.loop-frame-test.false) in
    frames_have_none (drop c.loop-frame.frame-index lines) x (is_taken c.loop-frame.taken.marks x) (is_taken c.args.taken.now.marks x || frames_have lines x) (drop_all c.loop-frame.frame-index lines past) (c.loop-frame.invariant x small)

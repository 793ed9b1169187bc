use Rattle.std.proofs.Common.{◌≡◌, length, map, sym, ap, ◌∙◌, subst, arith, Result, Err}
use Rattle.std.proofs.lemmas.Result.{err_from_is_err_and}
use Rattle.std.specs.Global.{Global}
use Rattle.std.specs.declared.vec.Vec.{Vec}
use Rattle.std.proofs.lemmas.Option.{slice_get-get_or}
use Rattle.c_typed.specs.Views.{program_of}
use Rattle.pic_map.specs.MapView.{object_of, frame_of}
use Rattle.pic_map.specs.declared.FrameLine.{FrameLine}
use Rattle.ram_place.specs.Answers.{TellsFrames}
use Rattle.ram_place.specs.declared.placing.PlaceError.{PlaceError}
use Rattle.ram_place.proofs.Told.{frames_none, frame_placed, frame_lost}
use Rattle.ram_place.proofs.placing.place_frames.Goals as goal

pub loop-copy-init : goal.loop-copy-init
loop-copy-init c = record {
  count = ap length c.new-frames.ensures.items;
  stand = frames_none c.args.top (program_of c.args.p.now) (map object_of c.args.objects.now.lines.items) c.args.list.now c.new-frames.result.items c.new-frames.ensures.items;
}

pub returns-in_err-line : goal.returns-in_err-line
returns-in_err-line c =
    let got = err_from_is_err_and c.from_residual.result c.from_residual.ensures.1 in
    let lost = frame_lost c.args.top (program_of c.args.p.now) (map object_of c.args.objects.now.lines.items) c.args.list.now c.loop-copy.frames.items c.deref.result.now c.loop-copy.copy-index _ c.deref.ensures.value c.loop-copy.invariant.count (slice_get-get_or c.args.list.now c.loop-copy.copy-index _ c.loop-copy-test.true) c.loop-copy.invariant.stand c.in_err-line.field-0.0 c.in_err-line.ensures in
    let P : Result (Vec FrameLine Global) PlaceError → Type 0 = λ (r : Result (Vec FrameLine Global) PlaceError). TellsFrames c.args.top (program_of c.args.p.now) (map object_of c.args.objects.now.lines.items) c.args.list.now r in
    subst P (sym (got.1 ∙ ap Err got.2)) lost

pub loop-copy-preserved : goal.loop-copy-preserved
loop-copy-preserved c =
    let next = frame_placed c.args.top (program_of c.args.p.now) (map object_of c.args.objects.now.lines.items) c.args.list.now c.loop-copy.frames.items c.deref.result.now c.put_frame.new.frames.items c.loop-copy.copy-index _ c.in_ok-line.line c.deref.ensures.value c.loop-copy.invariant.count (slice_get-get_or c.args.list.now c.loop-copy.copy-index _ c.loop-copy-test.true) c.loop-copy.invariant.stand c.in_ok-put_frame.ensures c.in_ok-line.ensures in
    record { count = next.0; stand = next.1 }

pub returns : goal.returns
returns c =
    let i = c.loop-copy.invariant in
    (omega (arith, i.count, c.loop-copy-test.false, c.loop-copy.auto.copy-index-end), i.stand)

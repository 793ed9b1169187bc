use Rattle.std.proofs.Common.{List, map, ap, ◌∙◌}
use Rattle.c_typed.specs.Views.{program_of}
use Rattle.pic_map.specs.MapView.{object_of, frame_of}
use Rattle.pic_map.specs.declared.FrameLine.{FrameLine}
use Rattle.ram_place.specs.Placement.{addresses_covered, but_below, kept}
use Rattle.ram_place.proofs.Lawful.{live_disjoint, frames_clear, objects_disjoint}
use Rattle.ram_place.proofs.Told.{all_placed, copies_in, whole_memory}
use Rattle.ram_place.proofs.placing.place_within.Goals as goal

pub place_frames-requires-clause-list : goal.place_frames-requires-clause-list
place_frames-requires-clause-list c = copies_in (program_of c.args.p.now) c.in_ok-graph.graph c.args.copies.now.list.items c.deref.result.now c.deref.ensures.value c.in_ok-graph.ensures.0 c.requires.known

pub returns : goal.returns
returns c =
    let p = program_of c.args.p.now in
    let e = but_below p c.args.without.now c.args.top in
    let copies = c.args.copies.now.list.items in
    let objects = map object_of c.in_ok-objects.objects.lines.items in
    let frames = map frame_of c.in_ok-frames.frames.items in
    let placing = all_placed e p c.in_ok-objects.objects copies c.deref.result.now c.in_ok-frames.frames c.deref.ensures.value c.in_ok-objects.ensures c.in_ok-frames.ensures in
    record {
      exact = placing;
      whole = whole_memory (kept p c.args.without.now) c.args.top p copies objects frames placing;
      apart = live_disjoint e p copies objects frames placing;
      clear = frames_clear e p copies objects frames placing;
      objects = objects_disjoint e p copies objects frames placing;
      ram = c.covered-ram.ensures ∙ ap (λ (list : List FrameLine). addresses_covered objects (map frame_of list)) c.deref-2.ensures.value;
    }

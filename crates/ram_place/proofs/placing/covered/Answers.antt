use Rattle.std.proofs.Common.{◌≡◌, ℕ, Bool, ◌||◌, map, ap, ◌∙◌}
use Rattle.pic_map.specs.MapView.{object_of, frame_of}
use Rattle.live_frames.specs.Memory.{is_taken}
use Rattle.ram_place.specs.Placement.{objects_have, frames_have}
use Rattle.live_frames.proofs.FreeRuns.{same_count}
use Rattle.ram_place.proofs.placing.covered.Goals as goal

pub returns : goal.returns
returns c =
    let objects = map object_of c.args.objects.now.lines.items in
    let frames = map frame_of c.args.frames.now in
    c.count.ensures ∙ same_count (is_taken c.take_all.new.taken.marks) (λ (x : ℕ). objects_have objects x || frames_have frames x) 512 (λ x small. c.take_all.ensures x small ∙ ap (λ (b : Bool). b || frames_have frames x) (c.requires x small))

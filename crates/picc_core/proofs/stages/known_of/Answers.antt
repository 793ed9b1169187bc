use Rattle.std.proofs.Common.{map}
use Rattle.std.proofs.lemmas.Result.{err_from_is_err_and}
use Rattle.c_typed.specs.Views.{program_of}
use Rattle.pic_map.specs.MapView.{object_of, frame_of}
use Rattle.program_laws.proofs.ObjectBytes.{start_within}
use Rattle.picc_core.proofs.Founding.{founded_on}
use Rattle.picc_core.proofs.OverPages.{are_within}
use Rattle.picc_core.proofs.Told.{code_refused, accepted}
use Rattle.picc_core.proofs.stages.known_of.Goals as goal

pub code_within-requires-clause-start : goal.code_within-requires-clause-start
code_within-requires-clause-start c =
    let placed = c.in_ok-placed.placed in
    let exact = c.in_ok-placed.ensures.exact in
    start_within (program_of c.args.typed) (map object_of placed.objects.items) exact.objects_stand exact.each_object c.in_ok-placed.ensures.objects

pub returns-in_err-at-clause-refused : goal.returns-in_err-at-clause-refused
returns-in_err-at-clause-refused c =
    let p = err_from_is_err_and c.from_residual-in_err-at.result c.from_residual-in_err-at.ensures.1 in
    let known = c.in_ok-copies.ensures in
    let placed = c.in_ok-placed.placed in
    rw (p.1, p.2) (code_refused c.args.limits (program_of c.args.typed) c.in_ok-copies.copies.list.items c.in_ok-copies.copies.depth (map object_of placed.objects.items) (map frame_of placed.frames.items) c.in_err-at.field-0.0
    known.roots known.recursion known.depth known.list c.in_ok-placed.ensures.below c.in_err-at.ensures.refused)

pub returns-clause-accepted : goal.returns-clause-accepted
returns-clause-accepted c =
    let known = c.in_ok-copies.ensures in
    let placed = c.in_ok-placed.placed in
    accepted c.args.typed c.in_ok-copies.copies.list.items c.in_ok-copies.copies.depth (map object_of placed.objects.items) (map frame_of placed.frames.items) _ _
    known.roots known.recursion known.depth known.list c.in_ok-placed.ensures.exact c.in_ok-at.ensures.blocks

pub returns-clause-founded : goal.returns-clause-founded
returns-clause-founded c =
    let known = c.in_ok-copies.ensures in
    let placed = c.in_ok-placed.ensures in
    founded_on c.args.typed c.in_ok-copies.copies.list.items c.in_ok-placed.placed _ c.in_ok-copies.copies.depth _ c.see_typed.ensures.sound c.see_typed.ensures.numbers known.roots known.recursion known.depth known.list
    placed.exact placed.apart placed.clear placed.objects c.in_ok-at.ensures.blocks

pub returns-clause-within : goal.returns-clause-within
returns-clause-within c =
    let placed = c.in_ok-placed.placed in
    are_within c.args.limits (program_of c.args.typed) c.in_ok-copies.copies.list.items c.in_ok-at.ensures.none (map object_of placed.objects.items) (map frame_of placed.frames.items) _ _
    c.in_ok-placed.ensures.below c.in_ok-at.ensures.blocks c.in_ok-at.ensures.few

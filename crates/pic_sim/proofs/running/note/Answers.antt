use Rattle.std.proofs.Common.{◌∙◌, ◌++◌, List, ap, sym, append_assoc, true, false}
use Rattle.pic_world.specs.declared.Event.{Event}
use Rattle.pic_chip.specs.Seen.{made_by}
use Rattle.pic_map.specs.Tracing.{tracing_of, list_of}
use Rattle.pic_sim.specs.Step.{shown_by}
use Rattle.pic_sim.proofs.Stepping.{shown-append, told_split}
use Rattle.pic_sim.proofs.running.note.Goals as goal

pub returns-clause-events : goal.returns-clause-events
returns-clause-events g c = λ told.
    let kind = g.C.Stepper.kind in
    let t = tracing_of c.args.tracer.now in
    let xs = made_by false c.args.accesses.read in
    let ys = made_by true c.args.accesses.write in
    let old = c.args.trace.now.events in
    let last = list_of c.at.result in
    let two = told_split kind xs ys told in
    c.push.ensures.events
    ∙ ap (λ (z : List Event). z ++ last) (c.note_access-2.ensures.events two.1)
    ∙ ap (λ (z : List Event). z ++ shown_by kind ys t ++ last) (c.note_access.ensures.events two.0)
    ∙ ap (λ (z : List Event). z ++ last) (append_assoc old (shown_by kind xs t) (shown_by kind ys t))
    ∙ ap (λ (z : List Event). old ++ z ++ last) (sym (shown-append kind c.requires.chip xs ys t))
    ∙ ap (λ (z : List Event). old ++ shown_by kind (xs ++ ys) t ++ z) c.at.ensures.told

use Rattle.std.proofs.Common.{sym, ◌∙◌}
use Rattle.std.proofs.lemmas.Bool.{ltb-false, ltb-true}
use Rattle.src_memory.specs.Cells.{memory_in}
use Rattle.src_memory.proofs.Reaching.{put_beyond, put_refused, put_shown, put_silent}
use Rattle.src_memory.proofs.memory.Memory.put_at.Goals as goal

pub returns-then-not-has-clause-access : goal.returns-then-not-has-clause-access
returns-then-not-has-clause-access c = λ s map live w shaped world alive few known.
    put_beyond s map live w c.args.self.now c.args.reach.root c.args.object c.args.offset c.args.byte c.args.world.now shaped
    (memory_in c.args.self.now) (ltb-false _ _ (sym c.has.ensures ∙ c.if-not-has.true))

pub returns-in-Some-clause-access : goal.returns-in-Some-clause-access
returns-in-Some-clause-access c = λ s map live w shaped world alive few known.
    put_refused s map live w c.args.self.now c.args.reach.root c.args.object c.args.offset c.args.byte c.args.world.now shaped
    c.args.reach.alive alive (ltb-true _ _ (sym c.has.ensures ∙ c.if-not-has.false)) (memory_in c.args.self.now) c.in-Some.kind c.in-Some.ensures

pub returns-in-Some-place-clause-access : goal.returns-in-Some-place-clause-access
returns-in-Some-place-clause-access c = λ s map live w shaped world alive few known.
    put_shown s map live w c.args.self.now c.args.reach.root c.args.object c.args.offset c.args.byte c.note.new.self shaped
    c.args.reach.alive alive (ltb-true _ _ (sym c.has.ensures ∙ c.if-not-has.false)) c.put.new.self c.put.ensures c.in-Some-place.cell c.shown-value.result
    c.in-None.ensures c.in-Some-place.ensures c.shown-value.ensures known (λ e. c.note.ensures s.outside w e world few)

pub returns-in-None-place-clause-access : goal.returns-in-None-place-clause-access
returns-in-None-place-clause-access c = λ s map live w shaped world alive few known.
    put_silent s map live w c.args.self.now c.args.reach.root c.args.object c.args.offset c.args.byte c.args.world.now shaped
    c.args.reach.alive alive (ltb-true _ _ (sym c.has.ensures ∙ c.if-not-has.false)) c.put.new.self c.put.ensures
    c.in-None.ensures c.in-None-place.ensures world

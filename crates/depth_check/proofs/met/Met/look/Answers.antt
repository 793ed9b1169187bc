use Rattle.std.proofs.Common.{◌∙◌, sym, ap}
use Rattle.depth_check.specs.Certificate.{seen}
use Rattle.depth_check.specs.Valid.{row_at, asks}
use Rattle.depth_check.proofs.Trail.{passed_by, looked}
use Rattle.depth_check.proofs.met.Met.look.Goals as goal

pub returns-in-None : goal.returns-in-None
returns-in-None c = passed_by c.args.image.now (seen c.args.h.now) c.args.self.now c.args.turn c.requires.underway c.requires.turn
    (ap (row_at c.args.h.now.rows.items) (sym c.place-at.ensures) ∙ ap (λ rows. row_at rows c.place-at.result) (sym c.deref.ensures.value) ∙ sym c.row_at.ensures ∙ c.in-None.is)

pub returns-in-Some : goal.returns-in-Some
returns-in-Some c = looked c.args.image.now (seen c.args.h.now) c.args.self.now c.args.turn c.requires.underway c.requires.turn c.meet.new.self c.meet-in-Some.new.self c.in-Some.row
    (ap (row_at c.args.h.now.rows.items) (sym c.place-at.ensures) ∙ ap (λ rows. row_at rows c.place-at.result) (sym c.deref.ensures.value) ∙ sym c.row_at.ensures ∙ c.in-Some.is)
    c.asked-first.result.0 c.asked-first.result.1
    (λ k. ap (λ z. asks c.args.image.now (seen c.args.h.now) c.in-Some.row z k) (sym c.instruction.ensures.same) ∙ c.asked-first.ensures k)
    c.meet.ensures c.meet-in-Some.ensures

use Rattle.std.proofs.Common.{[], sym, subst, option_to_list}
use Rattle.pic_chip.specs.Act.{accesses}
use Rattle.pic_sim.specs.Step.{IsWanted}
use Rattle.pic_sim.proofs.Accesses.{wants_outside}
use Rattle.pic_sim.proofs.Stepping.{acted}
use Rattle.pic_sim.proofs.running.act_on.Goals as goal

pub ask-requires : goal.ask-requires
ask-requires g c =
    let kind = g.C.Stepper.kind in
    subst IsWanted (sym (c.wants-wanted.ensures [])) (wants_outside kind c.requires.chip (accesses (kind.execute c.args.image.now []) (g.C.Stepper.machine c.begin.new.self).state))

pub returns-clause-acted : goal.returns-clause-acted
returns-clause-acted g c =
    let machine = g.C.Stepper.machine in
    acted g.C.Stepper.kind c.requires.chip c.args.image.now c.exec-end.result (machine c.args.chip.now) (machine c.begin.new.self) (machine c.exec-end.new.self) _ _ _ _ _ _ _ _
    c.index.result c.in_ok-mask.mask c.in_ok-input.input c.wants-wanted.result (option_to_list c.outside_write.result)
    c.in_ok-mask.ensures.raised c.in_ok-input.ensures.given c.in_ok-tell.ensures.taken
    c.in_ok-mask.ensures.same_follows c.in_ok-input.ensures.same_follows c.in_ok-tell.ensures.same_follows
    c.index.ensures c.in_ok-mask.ensures.by_script c.in_ok-input.ensures.by_script
    c.begin.ensures.state c.begin.ensures.index c.wants-wanted.ensures
    c.exec-end.ensures.state c.exec-end.ensures.accesses c.exec-end.ensures.stopped c.exec-end.ensures.index c.exec-end.ensures.unchanged
    c.outside_write.ensures.write

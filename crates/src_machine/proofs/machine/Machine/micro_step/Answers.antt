use Rattle.std.proofs.Common.{sym, ap, ◌∙◌, subst}
use Rattle.pic_world.specs.World.{arrived}
use Rattle.src_machine.proofs.Microsteps.{arrives, arrived_can, entered_told, acted_told, refused_told}
use Rattle.src_machine.specs.Seen.{stack_of, memory_of, state_in}
use Rattle.src_machine.specs.Stepping.{TellsStep}
use Rattle.src_memory.specs.Seen.{outside_by}
use Rattle.src_memory.specs.Shown.{address_of}
use Rattle.src_rules.specs.Step.{act}
use Rattle.src_values.specs.Seen.{focus_in}
use Rattle.src_machine.proofs.machine.Machine.micro_step.Goals as goal

pub returns-then-not-is_due : goal.returns-then-not-is_due
returns-then-not-is_due c = record {
  tells = λ s map w outside here.
      let before = c.args.self.now in
      let world = c.arrive.new.self in
      let turn = c.act_counted-taker in
      let is = arrives s.outside (outside_by c.args.script.now) before.world world w outside (c.arrive.ensures.world w) here.at.world in
      subst (λ one. TellsStep s map (state_in before w) turn.result.0 one turn.result.2 before turn.new.self) (sym c.is_some.ensures)
      (acted_told s map before turn.new.self world w turn.result.2 here is (ap (λ m. m.program) turn.ensures.others, ap (λ m. m.handler) turn.ensures.others) turn.ensures.shape turn.ensures.room turn.result.0 turn.result.1 turn.ensures.taker turn.ensures.line
      (sym (c.is_due.ensures s.outside (arrived s.outside w) is) ∙ c.if-not-is_due.true)
      (turn.ensures.tells s map (arrived s.outside w) outside (arrived_can s map before world w here is)) turn.ensures.rests);
}

pub returns-in-Some : goal.returns-in-Some
returns-in-Some c = record {
  tells = λ s map w outside here.
      let before = c.args.self.now in
      let world = c.arrive.new.self in
      let is = arrives s.outside (outside_by c.args.script.now) before.world world w outside (c.arrive.ensures.world w) here.at.world in
      entered_told s map before c.enter.new.self world w c.enter.result here is (ap (λ m. m.program) c.enter.ensures.others, ap (λ m. m.handler) c.enter.ensures.others) c.enter.ensures.shape c.enter.ensures.room c.in-Some.handler
      (sym (c.is_due.ensures s.outside (arrived s.outside w) is) ∙ c.if-not-is_due.false) c.in-Some.is c.enter.ensures.tells;
}

pub returns-in-None : goal.returns-in-None
returns-in-None c = record {
  tells = λ s map w outside here.
      let before = c.args.self.now in
      let world = c.arrive.new.self in
      let turn = c.act_counted-taker-in-None in
      let is = arrives s.outside (outside_by c.args.script.now) before.world world w outside (c.arrive.ensures.world w) here.at.world in
      subst (λ one. TellsStep s map (state_in before w) turn.result.0 one c.refused.result before turn.new.self) (sym c.is_some-in-None.ensures)
      (refused_told s map before turn.new.self world w c.refused.result here is (ap (λ m. m.program) turn.ensures.others, ap (λ m. m.handler) turn.ensures.others) turn.ensures.shape turn.ensures.room turn.result.0 turn.result.1 turn.ensures.taker turn.ensures.line
      (sym (c.is_due.ensures s.outside (arrived s.outside w) is) ∙ c.if-not-is_due.false) c.in-None.is
      (c.refused.ensures.tells s.outside (address_of s.program map) turn.new.self (act s (focus_in before.focus) (stack_of before) before.copy (memory_of before) (arrived s.outside w))
      (turn.ensures.tells s map (arrived s.outside w) outside (arrived_can s map before world w here is)))
      (λ idle. turn.ensures.rests (c.refused.ensures.idle idle)));
}

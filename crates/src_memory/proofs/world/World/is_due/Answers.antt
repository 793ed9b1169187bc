use Rattle.std.proofs.Common.{not, ◌&&◌, sym, ap, ◌∙◌}
use Rattle.pic_world.specs.Control as control
use Rattle.src_memory.specs.Seen.{control_in}
use Rattle.src_memory.proofs.Worlds.{is_due_by}
use Rattle.src_memory.proofs.world.World.is_due.Goals as goal

pub returns-then-not-self : goal.returns-then-not-self
returns-then-not-self c = λ o w h. c.due_by.ensures ∙ sym (ap (λ b. not b && control.is_due (control_in c.args.self.now)) c.if-not-self.true) ∙ is_due_by o c.args.self.now w h

pub returns-else-not-self : goal.returns-else-not-self
returns-else-not-self c = λ o w h. ap not c.if-not-self.false ∙ sym (ap (λ b. not b && control.is_due (control_in c.args.self.now)) c.if-not-self.false) ∙ is_due_by o c.args.self.now w h

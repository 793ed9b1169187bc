use Rattle.std.proofs.Common.{◌&&◌, sym, ap, ◌∙◌}
use Rattle.pic_world.specs.Control as control
use Rattle.src_memory.proofs.Worlds.{sets_gie_by}
use Rattle.src_memory.proofs.world.World.sets_gie.Goals as goal

pub returns-then-self : goal.returns-then-self
returns-then-self c = λ o w h. c.enables.ensures ∙ sym (ap (λ b. b && control.sets_gie c.args.address c.args.value) c.if-self.true) ∙ sets_gie_by o c.args.self.now w c.args.address c.args.value h

pub returns-else-self : goal.returns-else-self
returns-else-self c = λ o w h. c.if-self.false ∙ sym (ap (λ b. b && control.sets_gie c.args.address c.args.value) c.if-self.false) ∙ sets_gie_by o c.args.self.now w c.args.address c.args.value h

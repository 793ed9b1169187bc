use Rattle.src_memory.proofs.Worlds.{keeps_intcon, keeps_pie1, keeps_pir1}
use Rattle.src_memory.proofs.world.World.keep.Goals as goal

pub returns-then-address-eq-INTCON-clause-world : goal.returns-then-address-eq-INTCON-clause-world
returns-then-address-eq-INTCON-clause-world c = λ o w h. keeps_intcon o c.args.self.now w c.args.address c.args.value c.if-address-eq-INTCON.true h

pub returns-then-address-eq-PIR1-clause-world : goal.returns-then-address-eq-PIR1-clause-world
returns-then-address-eq-PIR1-clause-world c = λ o w h. keeps_pir1 o c.args.self.now w c.args.address c.args.value c.if-address-eq-PIR1.true h

pub returns-then-address-eq-PIE1-clause-world : goal.returns-then-address-eq-PIE1-clause-world
returns-then-address-eq-PIE1-clause-world c = λ o w h. keeps_pie1 o c.args.self.now w c.args.address c.args.value c.if-address-eq-PIE1.true h

use Rattle.src_memory.proofs.Worlds.{leaving}
use Rattle.src_memory.proofs.world.World.leave.Goals as goal

pub returns : goal.returns
returns c = λ o w h. leaving o c.args.self.now w c.set_bit-self.result c.set_bit-self.ensures h

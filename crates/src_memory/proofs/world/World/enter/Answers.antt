use Rattle.src_memory.proofs.Worlds.{entering}
use Rattle.src_memory.proofs.world.World.enter.Goals as goal

pub returns : goal.returns
returns c = λ o w h. entering o c.args.self.now w c.clear_bit-self.result c.clear_bit-self.ensures h

use Rattle.src_memory.proofs.Worlds.{arriving_now}
use Rattle.src_memory.proofs.world.World.arrive.Goals as goal

pub returns-then-not-self : goal.returns-then-not-self
returns-then-not-self c = record { world = λ w h. arriving_now c.args.script.now c.args.self.now w c.mask_at-mask.result c.mask_at-mask.ensures.value h }

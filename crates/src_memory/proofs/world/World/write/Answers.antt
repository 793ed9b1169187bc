use Rattle.std.proofs.Common.{arith}
use Rattle.pic_world.specs.World.{value_kept}
use Rattle.src_memory.proofs.world.World.write.Goals as goal

pub returns : goal.returns
returns c = λ o w e h few. c.note.ensures o (value_kept c.args.address c.args.value w) e (c.keep.ensures.world o w h) (omega (arith, c.keep.ensures.count))

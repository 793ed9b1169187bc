use Rattle.std.proofs.Common.{sym, ◌∙◌}
use Rattle.src_memory.proofs.Devices.{put_device}
use Rattle.src_memory.proofs.world.World.put_register.Goals as goal

pub returns : goal.returns
returns c = λ o a m w h few. put_device o a m c.write.new.self c.args.register c.args.value w (sym c.if-sets_gie.false ∙ c.sets_gie.ensures o w h) (λ e. c.write.ensures o w e h few)

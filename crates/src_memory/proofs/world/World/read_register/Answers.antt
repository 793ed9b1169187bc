use Rattle.src_memory.specs.Seen.{outside_by}
use Rattle.src_memory.proofs.Devices.{after_read, read_shown}
use Rattle.pic_world.specs.World.{device_value}
use Rattle.src_memory.proofs.world.World.read_register.Goals as goal

pub returns-clause-event : goal.returns-clause-event
returns-clause-event c = λ a w h. read_shown a c.args.register c.read-value.result (device_value (outside_by c.args.script.now) c.args.register w) (c.read-value.ensures.value w h)

pub returns-clause-world : goal.returns-clause-world
returns-clause-world c = λ w h few. after_read (outside_by c.args.script.now) (outside_by c.args.script.now) c.read-value.new.self c.args.register w (λ e. c.read-value.ensures.world w e h few)

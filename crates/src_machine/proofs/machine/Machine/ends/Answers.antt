use Rattle.pic_world.specs.World.{Ended}
use Rattle.src_machine.proofs.Tellings.{ended_tells}
use Rattle.src_machine.proofs.machine.Machine.ends.Goals as goal

pub returns-clause-tells : goal.returns-clause-tells
returns-clause-tells c = λ h o a w is few. ended_tells o a c.args.self.now c.note.new.self w h (c.note.ensures o w Ended is few)

use Rattle.src_memory.proofs.Changes.{freshens}
use Rattle.src_memory.proofs.memory.Memory.clear_copy.Goals as goal

pub returns-clause-memory : goal.returns-clause-memory
returns-clause-memory c = freshens c.args.self.now c.clear_frames.new.self c.args.copy c.clear_frames.ensures

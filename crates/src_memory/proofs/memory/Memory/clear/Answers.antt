use Rattle.src_memory.proofs.Changes.{clears}
use Rattle.src_memory.proofs.memory.Memory.clear.Goals as goal

pub returns-clause-memory : goal.returns-clause-memory
returns-clause-memory c = clears c.args.self.now c.clear_cells.new.self c.args.object c.clear_cells.ensures

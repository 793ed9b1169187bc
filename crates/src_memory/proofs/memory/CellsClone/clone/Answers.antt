use Rattle.std.proofs.Common.{refl}
use Rattle.src_memory.proofs.Clones.{cell_clones}
use Rattle.src_memory.proofs.memory.CellsClone.clone.Goals as goal

pub returns : goal.returns
returns c = record {
  cases = cell_clones c.args.self.now (record { bytes = c.in_ok-clone.field-0; address = c.args.self.now.address; watched = c.args.self.now.watched }) c.in_ok-clone.ensures.cases.0 refl refl;
}

use Rattle.src_memory.proofs.Clones.{memory_clones}
use Rattle.src_memory.proofs.memory.MemoryClone.clone.Goals as goal

pub returns : goal.returns
returns c = record {
  cases = memory_clones c.args.self.now (record { fixed = c.in_ok-clone.field-0; main = c.in_ok-clone-2.field-0; handler = c.in_ok-clone-3.field-0 })
      c.in_ok-clone.ensures.cases.0 c.in_ok-clone-2.ensures.cases.0 c.in_ok-clone-3.ensures.cases.0;
}

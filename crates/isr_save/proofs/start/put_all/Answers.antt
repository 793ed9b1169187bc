use Rattle.sym_code.proofs.WellFormed.{well_formed_at}
use Rattle.isr_save.proofs.start.put_all.Goals as goal

pub put-requires : goal.put-requires
put-requires c = well_formed_at _ _ _ c.requires c.loop-sym-test.true

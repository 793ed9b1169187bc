use Rattle.src_machine.proofs.Bytes.{refused_put}
use Rattle.src_machine.specs.Seen.{memory_of}
use Rattle.src_machine.proofs.machine.Machine.after_putting.Goals as goal

pub returns-in-Err-clause-tells : goal.returns-in-Err-clause-tells
returns-in-Err-clause-tells c = λ o a given h. refused_put o a given c.args.access c.in-Err.kind (memory_of c.args.self.now) c.args.self.now.world _ _ _ _ c.line.result c.undefined.result c.args.self.now c.in-Err.is h c.undefined.ensures.tells c.line.ensures

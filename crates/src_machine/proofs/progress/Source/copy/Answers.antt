use Rattle.std.proofs.Common.{refl}
use Rattle.src_machine.proofs.Copying.{copied}
use Rattle.src_machine.proofs.progress.Source.copy.Goals as goal

pub returns-clause-copies : goal.returns-clause-copies
returns-clause-copies c = λ s map n h.
    copied s map n c.args.self.now (record c.args.self.now { machine = c.in_ok-copy.field-0 }) c.in_ok-copy.ensures.copies refl refl refl h

use Rattle.std.proofs.Common.{arith}
use Rattle.src_machine.proofs.Passing.{gives_end, gives_shape}
use Rattle.src_machine.proofs.machine.Machine.give_values.Goals as goal

pub returns-clause-memory : goal.returns-clause-memory
returns-clause-memory c =
    gives_end c.args.self.now.stack.items c.args.copy c.args.first c.loop-at.number c.loop-at.at c.args.self.now.memory c.loop-at.self.memory
    (omega (arith, c.loop-at-test.false, c.len-at-end.ensures, c.args.self.now.stack.ok.0)) c.loop-at.invariant.2

pub returns-clause-shape : goal.returns-clause-shape
returns-clause-shape c =
    gives_shape c.args.self.now.stack.items c.args.copy c.args.first c.loop-at.number c.loop-at.at c.args.self.now.memory c.loop-at.self.memory c.loop-at.invariant.2

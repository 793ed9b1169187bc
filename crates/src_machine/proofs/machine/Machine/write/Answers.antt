use Rattle.std.proofs.Common.{arith, subst}
use Rattle.src_machine.specs.Seen.{stack_of, memory_of}
use Rattle.src_machine.specs.Telling.{Tells}
use Rattle.src_memory.specs.Shown.{address_of}
use Rattle.src_values.specs.Seen.{focus_in, datum_of}
use Rattle.src_machine.proofs.Bytes.{write_on, write_over, stored_tells, no_bit}
use Rattle.src_machine.proofs.machine.Machine.write.Goals as goal

pub returns-then-written_bytes-at-clause-tells : goal.returns-then-written_bytes-at-clause-tells
returns-then-written_bytes-at-clause-tells c = λ s map w here going room outside known next.
    subst (λ r. Tells s.outside (address_of s.program map) c.stored.result c.stored.new.self r) (write_over s c.args.spot (datum_of c.args.value) c.args.at (stack_of c.args.self.now) c.args.self.now.copy (memory_of c.args.self.now) w (omega (arith, c.if-written_bytes-at.true, c.written_bytes.ensures)))
    (stored_tells s map (address_of s.program map) c.stored.result c.args.self.now c.stored.new.self w here c.stored.ensures.others c.stored.ensures.quiet (c.stored.ensures.tells room s.outside w))

pub returns-in-Device-clause-tells : goal.returns-in-Device-clause-tells
returns-in-Device-clause-tells c = λ s map w here going room outside known next.
    subst (λ r. Tells s.outside (address_of s.program map) c.write_byte.result c.write_byte.new.self r)
    (write_on s c.args.spot (datum_of c.args.value) c.args.at (focus_in c.args.self.now.focus) (stack_of c.args.self.now) c.args.self.now.copy (memory_of c.args.self.now) w (omega (arith, c.if-written_bytes-at.false, c.written_bytes.ensures)) going (no_bit c.args.spot c.in-Device.is))
    (c.write_byte.ensures.tells s map w here going room known next)

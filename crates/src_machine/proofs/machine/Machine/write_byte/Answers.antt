use Rattle.std.proofs.Common.{◌+◌, sym, subst, ap}
use Rattle.src_machine.specs.Seen.{stack_of, memory_of, active_in}
use Rattle.src_machine.specs.Telling.{Tells}
use Rattle.src_memory.specs.Shape.{IsKnown}
use Rattle.src_memory.specs.Shown.{address_of}
use Rattle.src_rules.specs.Accesses.{after_putting}
use Rattle.src_values.specs.Accesses.{put_byte}
use Rattle.src_values.specs.Control as control
use Rattle.src_values.specs.Control.{line_at}
use Rattle.src_values.specs.Objects.{next_byte}
use Rattle.src_values.specs.Seen.{datum_of}
use Rattle.src_machine.proofs.Bytes.{put_told}
use Rattle.src_machine.proofs.machine.Machine.write_byte.Goals as goal

pub returns-clause-tells : goal.returns-clause-tells
returns-clause-tells c = λ s map w here going room known next.
    subst (λ byte. Tells s.outside (address_of s.program map) c.after_putting.result c.after_putting.new.self (after_putting (put_byte s (active_in c.args.self.now) c.args.self.now.copy.root c.args.spot byte (memory_of c.args.self.now) w) (control.Write (next_byte c.args.spot) (datum_of c.args.value) (c.args.at + 1)) c.args.self.now.copy (stack_of c.args.self.now) (line_at (stack_of c.args.self.now)))) c.byte_of.ensures
    (put_told s.outside (address_of s.program map) c.after_putting.result c.args.self.now c.put_byte-access.new.self c.after_putting.new.self _ _ _ c.put_byte-access.ensures.others
    (ap (λ x. control.Write x (datum_of c.args.value) (c.args.at + 1)) (c.next_byte-spot.ensures next))
    (c.after_putting.ensures.tells s.outside (address_of s.program map) _ (c.put_byte-access.ensures.access s map w here (subst (IsKnown s.program) (sym c.byte_of.ensures) known))))

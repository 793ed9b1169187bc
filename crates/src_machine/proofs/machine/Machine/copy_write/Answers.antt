use Rattle.std.proofs.Common.{subst, ap, ◌∙◌}
use Rattle.src_machine.specs.Seen.{stack_of, memory_of}
use Rattle.src_machine.specs.Telling.{Tells}
use Rattle.src_memory.specs.Shown.{address_of}
use Rattle.src_values.specs.Control as control
use Rattle.src_values.specs.Control.{line_at}
use Rattle.src_values.specs.Objects.{next_byte}
use Rattle.src_values.specs.Seen.{focus_in}
use Rattle.src_machine.proofs.Bytes.{put_told, copy_write_on}
use Rattle.src_machine.proofs.machine.Machine.copy_write.Goals as goal

pub returns-clause-tells : goal.returns-clause-tells
returns-clause-tells c = λ s map w here going room known to from.
    subst (λ r. Tells s.outside (address_of s.program map) c.after_putting.result c.after_putting.new.self r)
    (copy_write_on s c.args.to c.args.from c.args.byte c.args.left (focus_in c.args.self.now.focus) (stack_of c.args.self.now) c.args.self.now.copy (memory_of c.args.self.now) w going)
    (put_told s.outside (address_of s.program map) c.after_putting.result c.args.self.now c.put_byte-access.new.self c.after_putting.new.self _ _ _ c.put_byte-access.ensures.others
    (ap (λ x. control.CopyRead x c.next_byte-from.result c.args.left) (c.next_byte-to.ensures to) ∙ ap (λ x. control.CopyRead (next_byte c.args.to) x c.args.left) (c.next_byte-from.ensures from))
    (c.after_putting.ensures.tells s.outside (address_of s.program map) _ (c.put_byte-access.ensures.access s map w here known)))

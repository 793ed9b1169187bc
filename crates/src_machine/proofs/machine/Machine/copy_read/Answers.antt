use Rattle.std.proofs.Common.{◌-◌, arith, refl, subst, ap, ◌∙◌}
use Rattle.src_machine.specs.Seen.{stack_of, memory_of}
use Rattle.src_machine.specs.Telling.{Tells}
use Rattle.src_memory.specs.Shown.{address_of}
use Rattle.src_values.specs.Control.{line_at}
use Rattle.src_values.specs.Seen.{focus_in}
use Rattle.src_machine.proofs.Bytes.{copy_on, copy_over, took_from, refused_take, stored_tells}
use Rattle.src_machine.proofs.machine.Machine.copy_read.Goals as goal

pub returns-then-left-eq0-clause-tells : goal.returns-then-left-eq0-clause-tells
returns-then-left-eq0-clause-tells c = λ s map w here going room outside known.
    subst (λ r. Tells s.outside (address_of s.program map) c.stored.result c.stored.new.self r) (copy_over s c.args.to c.args.from c.args.left (stack_of c.args.self.now) c.args.self.now.copy (memory_of c.args.self.now) w c.if-left-eq0.true)
    (stored_tells s map (address_of s.program map) c.stored.result c.args.self.now c.stored.new.self w here c.stored.ensures.others c.stored.ensures.quiet (c.stored.ensures.tells room s.outside w))

pub returns-in-Ok-clause-tells : goal.returns-in-Ok-clause-tells
returns-in-Ok-clause-tells c = λ s map w here going room outside known.
    subst (λ r. Tells s.outside (address_of s.program map) c.after.result c.after.new.self r)
    (copy_on s c.args.to c.args.from c.args.left (c.args.left - 1) (focus_in c.args.self.now.focus) (stack_of c.args.self.now) c.args.self.now.copy (memory_of c.args.self.now) w (omega (arith, c.if-left-eq0.false)) going)
    (took_from s.outside (address_of s.program map) _ c.take_byte.result c.in-Ok.taken _ _ c.after.result c.args.self.now c.take_byte.new.self c.after.new.self _ c.in-Ok.is (c.take_byte.ensures.access s map w here outside known) c.after.ensures.outcome c.take_byte.ensures.others c.after.ensures.others
    refl)

pub returns-in-Err-clause-tells : goal.returns-in-Err-clause-tells
returns-in-Err-clause-tells c = λ s map w here going room outside known.
    subst (λ r. Tells s.outside (address_of s.program map) c.undefined.result c.take_byte.new.self r)
    (copy_on s c.args.to c.args.from c.args.left (c.args.left - 1) (focus_in c.args.self.now.focus) (stack_of c.args.self.now) c.args.self.now.copy (memory_of c.args.self.now) w (omega (arith, c.if-left-eq0.false)) going)
    (refused_take s.outside (address_of s.program map) _ c.take_byte.result c.in-Err.kind c.take_byte.new.self.world _ _ _ _ _ c.line.result c.undefined.result c.take_byte.new.self c.in-Err.is (c.take_byte.ensures.access s map w here outside known) c.undefined.ensures.tells (c.line.ensures ∙ ap (λ m. line_at (stack_of m)) c.take_byte.ensures.others))

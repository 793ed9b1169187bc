use Rattle.std.proofs.Common.{◌-◌, arith, subst, ap, ◌∙◌}
use Rattle.src_machine.specs.Seen.{stack_of, memory_of, active_in}
use Rattle.src_machine.specs.Telling.{Tells}
use Rattle.src_memory.specs.Shown.{address_of}
use Rattle.src_rules.specs.Accesses.{after_putting, behind_first}
use Rattle.src_values.specs.Accesses.{put_byte}
use Rattle.src_values.specs.Control as control
use Rattle.src_values.specs.Control.{line_at}
use Rattle.src_values.specs.Objects.{next_byte}
use Rattle.src_values.specs.Seen.{focus_in}
use Rattle.src_values.specs.declared.objects.Byte.TheVariants as bytes
use Rattle.src_machine.proofs.Bytes.{spell_on, spell_over, put_told, stored_tells}
use Rattle.src_machine.proofs.machine.Machine.spell.Goals as goal

pub returns-then-left-eq0-clause-tells : goal.returns-then-left-eq0-clause-tells
returns-then-left-eq0-clause-tells c = λ s map w here going room next.
    subst (λ r. Tells s.outside (address_of s.program map) c.stored.result c.stored.new.self r) (spell_over s c.args.spot c.args.text.now c.args.left (stack_of c.args.self.now) c.args.self.now.copy (memory_of c.args.self.now) w c.if-left-eq0.true)
    (stored_tells s map (address_of s.program map) c.stored.result c.args.self.now c.stored.new.self w here c.stored.ensures.others c.stored.ensures.quiet (c.stored.ensures.tells room s.outside w))

pub returns-clause-tells : goal.returns-clause-tells
returns-clause-tells c = λ s map w here going room next.
    subst (λ r. Tells s.outside (address_of s.program map) c.after_putting.result c.after_putting.new.self r)
    (spell_on s c.args.spot c.args.text.now c.args.left (c.args.left - 1) (focus_in c.args.self.now.focus) (stack_of c.args.self.now) c.args.self.now.copy (memory_of c.args.self.now) w (omega (arith, c.if-left-eq0.false)) going)
    (subst (λ first. Tells s.outside (address_of s.program map) c.after_putting.result c.after_putting.new.self (after_putting (put_byte s (active_in c.args.self.now) c.args.self.now.copy.root c.args.spot (bytes.Number first) (memory_of c.args.self.now) w) (control.Spell (next_byte c.args.spot) (behind_first c.args.text.now) (c.args.left - 1)) c.args.self.now.copy (stack_of c.args.self.now) (line_at (stack_of c.args.self.now)))) c.first_or_zero-first.ensures
    (put_told s.outside (address_of s.program map) c.after_putting.result c.args.self.now c.put_byte-access.new.self c.after_putting.new.self _ _ _ c.put_byte-access.ensures.others
    (ap (λ x. control.Spell x c.behind_first.result.now (c.args.left - 1)) (c.next_byte.ensures next) ∙ ap (λ x. control.Spell (next_byte c.args.spot) x (c.args.left - 1)) c.behind_first.ensures)
    (c.after_putting.ensures.tells s.outside (address_of s.program map) _ (c.put_byte-access.ensures.access s map w here (record {})))))

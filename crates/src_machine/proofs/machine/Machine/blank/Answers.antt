use Rattle.std.proofs.Common.{◌+◌, ◌-◌, arith, sym, subst, map, drop, ap, ◌∙◌}
use Rattle.src_machine.specs.Seen.{stack_of, memory_of, active_in, waiting, interrupted_in}
use Rattle.src_machine.specs.Telling.{Tells}
use Rattle.src_memory.specs.Shape.{IsShaped}
use Rattle.src_memory.specs.Shown.{address_of}
use Rattle.src_rules.specs.Accesses.{after_putting}
use Rattle.src_values.specs.Accesses.{put_byte}
use Rattle.src_values.specs.Control as control
use Rattle.src_values.specs.Control.{line_at}
use Rattle.src_values.specs.Objects.{behind, local_of}
use Rattle.src_values.specs.Seen.{focus_in, frames_in, list_on, list_seen}
use Rattle.c_typed.specs.Views.{item_of, program_of}
use Rattle.src_values.specs.Lists.{covered_from}
use Rattle.src_values.specs.declared.objects.Byte.TheVariants as bytes
use Rattle.src_machine.proofs.Bytes.{blank_on, blank_over, blank_start, put_told, stored_tells}
use Rattle.src_machine.proofs.machine.Machine.blank.Goals as goal

pub returns-then-end-at-clause-tells : goal.returns-then-end-at-clause-tells
returns-then-end-at-clause-tells c = λ few s placed w here going room.
    subst (λ r. Tells s.outside (address_of s.program placed) c.stored.result c.stored.new.self r)
    (blank_over s (local_of (program_of c.args.self.now.program.now) c.args.self.now.copy c.in-Some.local) c.saturating_add-at.result (c.args.end - c.args.at - c.covered_from.result) (stack_of c.args.self.now) c.args.self.now.copy (memory_of c.args.self.now) w (omega (arith, few, c.if-end-at.true, c.saturating_add-at.ensures, c.covered_from.ensures.bound))
    ∙ blank_start s (program_of c.args.self.now.program.now) c.args.at c.args.end c.in-Some.local (map item_of c.in-Some.items.now.items) c.covered_from.result c.saturating_add-at.result (stack_of c.args.self.now) c.args.self.now.copy (memory_of c.args.self.now) w here.program
    (ap (λ k. list_on (frames_in (interrupted_in c.args.self.now) k)) (sym c.top.ensures) ∙ sym (c.list_at.ensures (interrupted_in c.args.self.now) (drop 1 (waiting c.args.self.now))) ∙ ap list_seen c.in-Some.is)
    (c.covered_from.ensures.value ∙ ap (λ xs. covered_from (program_of c.args.self.now.program.now).sizes (map item_of xs) c.args.at (c.args.end - c.args.at)) c.deref.ensures.value)
    (omega (arith, few, c.ranges.at, c.saturating_add-at.ensures, c.covered_from.ensures.bound)))
    (stored_tells s placed (address_of s.program placed) c.stored.result c.args.self.now c.stored.new.self w here c.stored.ensures.others c.stored.ensures.quiet (c.stored.ensures.tells room s.outside w))

pub returns-clause-tells : goal.returns-clause-tells
returns-clause-tells c = λ few s placed w here going room.
    subst (λ r. Tells s.outside (address_of s.program placed) c.after_putting.result c.after_putting.new.self r)
    (blank_on s (local_of (program_of c.args.self.now.program.now) c.args.self.now.copy c.in-Some.local) c.saturating_add-at.result (c.args.end - c.args.at - c.covered_from.result) (c.args.end - c.saturating_add-at.result - 1) (focus_in c.args.self.now.focus) (stack_of c.args.self.now) c.args.self.now.copy (memory_of c.args.self.now) w (omega (arith, few, c.if-end-at.false, c.saturating_add-at.ensures, c.covered_from.ensures.bound)) going
    ∙ blank_start s (program_of c.args.self.now.program.now) c.args.at c.args.end c.in-Some.local (map item_of c.in-Some.items.now.items) c.covered_from.result c.saturating_add-at.result (stack_of c.args.self.now) c.args.self.now.copy (memory_of c.args.self.now) w here.program
    (ap (λ k. list_on (frames_in (interrupted_in c.args.self.now) k)) (sym c.top.ensures) ∙ sym (c.list_at.ensures (interrupted_in c.args.self.now) (drop 1 (waiting c.args.self.now))) ∙ ap list_seen c.in-Some.is)
    (c.covered_from.ensures.value ∙ ap (λ xs. covered_from (program_of c.args.self.now.program.now).sizes (map item_of xs) c.args.at (c.args.end - c.args.at)) c.deref.ensures.value)
    (omega (arith, few, c.ranges.at, c.saturating_add-at.ensures, c.covered_from.ensures.bound)))
    (subst (λ spot. Tells s.outside (address_of s.program placed) c.after_putting.result c.after_putting.new.self (after_putting (put_byte s (active_in c.args.self.now) c.args.self.now.copy.root spot (bytes.Number 0) (memory_of c.args.self.now) w) (control.Blank (c.saturating_add-at.result + 1) (c.args.end - c.saturating_add-at.result - 1)) c.args.self.now.copy (stack_of c.args.self.now) (line_at (stack_of c.args.self.now)))) (c.behind.ensures ∙ ap (λ object. behind object c.saturating_add-at.result) c.local_of.ensures)
    (put_told s.outside (address_of s.program placed) c.after_putting.result c.args.self.now c.put_byte-access.new.self c.after_putting.new.self _ _ _ c.put_byte-access.ensures.others
    (ap (λ n. control.Blank n (c.args.end - n)) (omega (arith, few, c.if-end-at.false, c.saturating_add-at-2.ensures)) ∙ ap (λ n. control.Blank (c.saturating_add-at.result + 1) n) (omega arith))
    (c.after_putting.ensures.tells s.outside (address_of s.program placed) _ (c.put_byte-access.ensures.access s placed w here (record {})))))

pub returns-clause-shape : goal.returns-clause-shape
returns-clause-shape c = λ p map h. subst (λ m. IsShaped p map m) (sym (ap (λ m. m.memory) c.after_putting.ensures.others)) (c.put_byte-access.ensures.shape p map h)

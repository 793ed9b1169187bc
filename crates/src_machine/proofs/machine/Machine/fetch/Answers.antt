use Rattle.std.proofs.Common.{◌<◌, ◌≤◌, arith, sym, subst, length, ap, ◌∙◌}
use Rattle.src_machine.specs.Seen.{stack_of, memory_of}
use Rattle.src_machine.specs.Telling.{Tells}
use Rattle.src_memory.specs.Shown.{address_of}
use Rattle.src_rules.specs.Accesses.{fetched}
use Rattle.src_values.specs.Control as control
use Rattle.src_values.specs.Control.{line_at}
use Rattle.src_values.specs.Objects.{next_byte}
use Rattle.src_values.specs.Seen.{focus_in, read_of}
use Rattle.c_typed.specs.Types.{type_bytes}
use Rattle.src_machine.proofs.Bytes.{fetch_on, fetch_over, took_from, refused_take, silent_tells}
use Rattle.src_machine.proofs.machine.Machine.fetch.Goals as goal

pub returns-then-bytes_of-count-clause-tells : goal.returns-then-bytes_of-count-clause-tells
returns-then-bytes_of-count-clause-tells c = λ s map w here going outside known next few.
    silent_tells s map (address_of s.program map) c.fetched.result c.args.self.now c.fetched.new.self w _ here c.fetched.ensures.others c.fetched.ensures.quiet
    (c.fetched.ensures.tells w ∙ ap (λ v. fetched v (stack_of c.args.self.now) c.args.self.now.copy (memory_of c.args.self.now) w) c.value_from.ensures
    ∙ fetch_over s c.args.spot (read_of c.args.read) c.read_ty-ty.result (stack_of c.args.self.now) c.args.self.now.copy (memory_of c.args.self.now) w c.read_ty-ty.ensures
    (subst (λ p. type_bytes p.sizes c.read_ty-ty.result ≤ length (read_of c.args.read)) (sym here.program) (omega (arith, c.if-bytes_of-count.true, c.bytes_of.ensures, c.count.ensures))))

pub returns-in-Ok-clause-tells : goal.returns-in-Ok-clause-tells
returns-in-Ok-clause-tells c = λ s map w here going outside known next few.
    subst (λ r. Tells s.outside (address_of s.program map) c.after.result c.after.new.self r)
    (fetch_on s c.args.spot (read_of c.args.read) c.read_ty-ty.result (focus_in c.args.self.now.focus) (stack_of c.args.self.now) c.args.self.now.copy (memory_of c.args.self.now) w c.read_ty-ty.ensures
    (subst (λ p. length (read_of c.args.read) < type_bytes p.sizes c.read_ty-ty.result) (sym here.program) (omega (arith, c.if-bytes_of-count.false, c.bytes_of.ensures, c.count.ensures))) going)
    (took_from s.outside (address_of s.program map) _ c.take_byte.result c.in-Ok.taken _ _ c.after.result c.args.self.now c.take_byte.new.self c.after.new.self _ c.in-Ok.is (c.take_byte.ensures.access s map w here outside known) c.after.ensures.outcome c.take_byte.ensures.others c.after.ensures.others
    (ap (λ x. control.Fetch x (read_of c.and-read.result)) (c.next_byte-spot.ensures next) ∙ ap (λ x. control.Fetch (next_byte c.args.spot) x) (c.and-read.ensures (let four = subst (λ ty. type_bytes s.program.sizes ty ≤ 4) (sym c.read_ty-ty.ensures) few in let less = subst (λ p. length (read_of c.args.read) < type_bytes p.sizes c.read_ty-ty.result) (sym here.program) (omega (arith, c.if-bytes_of-count.false, c.bytes_of.ensures, c.count.ensures)) in omega (arith, four, less)))))

pub returns-in-Err-clause-tells : goal.returns-in-Err-clause-tells
returns-in-Err-clause-tells c = λ s map w here going outside known next few.
    subst (λ r. Tells s.outside (address_of s.program map) c.undefined.result c.take_byte.new.self r)
    (fetch_on s c.args.spot (read_of c.args.read) c.read_ty-ty.result (focus_in c.args.self.now.focus) (stack_of c.args.self.now) c.args.self.now.copy (memory_of c.args.self.now) w c.read_ty-ty.ensures
    (subst (λ p. length (read_of c.args.read) < type_bytes p.sizes c.read_ty-ty.result) (sym here.program) (omega (arith, c.if-bytes_of-count.false, c.bytes_of.ensures, c.count.ensures))) going)
    (refused_take s.outside (address_of s.program map) _ c.take_byte.result c.in-Err.kind c.take_byte.new.self.world _ _ _ _ _ c.line.result c.undefined.result c.take_byte.new.self c.in-Err.is (c.take_byte.ensures.access s map w here outside known) c.undefined.ensures.tells (c.line.ensures ∙ ap (λ m. line_at (stack_of m)) c.take_byte.ensures.others))

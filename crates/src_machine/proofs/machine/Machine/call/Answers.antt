use Rattle.std.proofs.Common.{◌≡◌, ◌∷◌, Some, arith, sym, ap, subst, ◌∙◌}
use Rattle.c_typed.specs.Views.{program_of, expression_of}
use Rattle.pic_map.specs.MapContent.{MapContent}
use Rattle.pic_world.specs.World.{World}
use Rattle.src_machine.specs.Passing.{FitCall}
use Rattle.src_machine.specs.Seen.{silent, waiting, interrupted_in, memory_of, HasRoom}
use Rattle.src_machine.specs.Telling.{with_taken}
use Rattle.src_memory.specs.Shape.{IsShaped}
use Rattle.src_rules.specs.Step.{call, call_in}
use Rattle.src_values.specs.Control.{In}
use Rattle.src_values.specs.Seen.{values_on, frames_behind, frames_in, got_in, has_values}
use Rattle.src_values.specs.declared.objects.Byte.{Byte}
use Rattle.src_machine.proofs.machine.Machine.call.Goals as goal

pub returns-in-In-clause-tells : goal.returns-in-In-clause-tells
returns-in-In-clause-tells c = λ room map w shape fit.
    let old = c.args.self.now in
    let e = c.in-In.expr in
    let got = c.in-In.got in
    let h = c.take_off.ensures.waits ∙ ap (λ r. with_taken r (waiting c.take_off.new.self)) (c.in-Some.is ∙ ap Some c.in-In.is) in
    let tells = subst (λ m. HasRoom 3 m → (map : MapContent) (w : World Byte) → IsShaped (program_of m.program.now) map m.memory → FitCall (program_of m.program.now) m.copy (In (expression_of e.now) (got_in (expression_of e.now) got (values_on (waiting m))) ∷ frames_behind (interrupted_in m) (has_values got) (waiting m)) → silent c.call_for.result c.call_for.new.self w ≡ call_in (program_of m.program.now) (expression_of e.now) (got_in (expression_of e.now) got (values_on (waiting m))) (frames_behind (interrupted_in m) (has_values got) (waiting m)) m.copy (memory_of m) w) c.take_off.ensures.others c.call_for.ensures.tells in
    tells (omega (arith, c.in-Some.ensures.len, c.take_off.ensures.room, room)) map w shape (subst (λ k. FitCall (program_of old.program.now) old.copy (frames_in (interrupted_in old) k)) h fit)
    ∙ sym (ap (λ k. call (program_of old.program.now) (frames_in (interrupted_in old) k) old.copy (memory_of old) w) h)

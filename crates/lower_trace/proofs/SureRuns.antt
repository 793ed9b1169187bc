-- What is sure of values holds at the start of a run, and each micro-step keeps it.
use Rattle.std.proofs.Common.{◌≡◌, true, Option, subst}
use Rattle.c_typed.specs.Sound.{is_sound}
use Rattle.pic_world.specs.World.{Happening}
use Rattle.src_rules.specs.Standing.{Stands}
use Rattle.src_rules.specs.State.{State, Went}
use Rattle.src_rules.specs.Step.{start, step}
use Rattle.src_values.specs.declared.objects.Byte.{Byte}
use Rattle.lower_trace.proofs.CodeLeft.{Scene, source_in}
use Rattle.lower_trace.proofs.Fitting.{FocusFits, StackFits}
use Rattle.lower_trace.proofs.Opens.{FocusOpen, KeepsOpen, MemoryOpen, StackOpen}
use Rattle.lower_trace.proofs.OpensStep.{start_opens, step_opens}
use Rattle.lower_trace.proofs.Sure.{FocusSure, KeepsSure, StackSure}
use Rattle.lower_trace.proofs.SureOn.{step_sure}

pub record IsSure (z : Scene) (t : State) : Type 0 where
  pub focus : FocusSure t.focus t.stack
  pub stack : StackSure z t.copy t.stack
  -- no pointer leads to a const static object
  pub opened : MemoryOpen z.program t.memory × FocusOpen z.program t.focus t.stack × StackOpen z.program t.stack

pub sure_first : (z : Scene) → is_sound z.program ≡ true → IsSure z (start (source_in z))
unfolding start
sure_first z sound = record { focus = tt; stack = tt; opened = start_opens z sound }

pub sure_next : (z : Scene) → is_sound z.program ≡ true → (t u : State) (event : Option (Happening Byte)) → Stands z.program t → FocusFits z t.copy t.focus t.stack → StackFits z t.copy t.stack → IsSure z t → step (source_in z) t ≡ Went u event → IsSure z u
sure_next z sound t u event stands focus stack sure e =
    let k = subst (KeepsSure z) e (step_sure z t stands focus stack sure.focus sure.stack) in
    let o = subst (KeepsOpen z.program) e (step_opens z sound t stands sure.opened.1 sure.opened.0 sure.opened.2) in
    record { focus = k.0; stack = k.1; opened = o }

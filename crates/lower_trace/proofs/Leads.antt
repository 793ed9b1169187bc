-- Which machines stand for a state, and what byte code does behind a micro-step, at which costs.
use Rattle.std.proofs.Common.{◌≡◌, ℕ, ◌≤◌, ◌⊎◌, inl, inr, false, if◌then◌else◌, List, Some, None, refl, ap, ◌∙◌, ⊎_elim, arith}
use Rattle.core_code.specs.Machine.{Machine, Setting}
use Rattle.pic_world.specs.World.{World, arrived, is_due}
use Rattle.src_rules.proofs.Changes.{entry_is_behind}
use Rattle.src_rules.specs.Laws.{leaves_handler}
use Rattle.src_rules.specs.State.{State, Outcome, Went, Undefined, Idle, Lost, state}
use Rattle.src_rules.specs.Step.{act, interrupted, enters, step}
use Rattle.src_values.specs.Control.{Focus, Pending}
use Rattle.src_values.specs.Memory as source
use Rattle.src_values.specs.Objects.{handler_in}
use Rattle.src_values.specs.declared.objects.Byte.{Byte}
use Rattle.src_values.specs.declared.objects.CopyOf.{CopyOf}
use Rattle.lower_trace.proofs.Beginnings.{Follow}
use Rattle.lower_trace.proofs.CodeLeft.{Scene, core_in, source_in}
use Rattle.lower_trace.proofs.Ends.{Again, FollowOn}
use Rattle.lower_trace.proofs.Known.{Known}
use Rattle.lower_trace.proofs.Mirrors.{Mirrors}
use Rattle.lower_trace.proofs.Operations.{Comes}
use Rattle.lower_trace.proofs.Prices.{most_at, least_at}
use Rattle.lower_trace.proofs.Waiting.{Waiting}

-- Byte code stands at the same place, or behind a `continue` before its jump, where no handler is due, or it waits.
abbrev pub Meets : Scene → State → Machine → Type 0
Meets z t c = Mirrors z t c ⊎ (Again z t.copy t.focus t.stack t.memory t.world c × (enters (source_in z) t ≡ false)) ⊎ Waiting z t c

-- where the source ends a micro-step so, byte code comes to a machine that stands for the next state
abbrev pub Arrives : Scene → ℕ → ℕ → Machine → Outcome → Type 0
Arrives z most least c (Went u event) = Comes (core_in z) (Meets z u) most least c
Arrives z most least c (Undefined kind line) = Unit {0}
Arrives z most least c Idle = Unit {0}
Arrives z most least c Lost = Unit {0}

-- The costs are within the prices of the focus and the stack.
pub record Led (z : Scene) (x : Focus) (k : List Pending) (c : Machine) (o : Outcome) : Type 0 where
  pub most : ℕ
  pub least : ℕ
  pub on : Arrives z most least c o
  pub low : most ≤ most_at z.program x k
  pub high : least_at z.program x k ≤ least

-- where the source doesn't go on nothing is to be shown
pub led_nowhere : (z : Scene) (x : Focus) (k : List Pending) (c : Machine) (o : Outcome) → ((q l : ℕ) → Arrives z q l c o) → Led z x k c o
led_nowhere z x k c o f = record { most = 0; least = least_at z.program x k; on = f 0 (least_at z.program x k); low = omega arith; high = omega arith }

pub comes_map : (g : Setting) (T U : Machine → Type 0) (q l : ℕ) (c : Machine) → ((d : Machine) → T d → U d) → Comes g T q l c → Comes g U q l c
comes_map g T U q l c f r = record { count = r.count; place = r.place; walk = r.walk; is = f r.place r.is }

-- what a law of a single kind of step gives
pub led_by : (z : Scene) (x : Focus) (k : List Pending) (q l : ℕ) (c : Machine) (o : Outcome) → q ≤ most_at z.program x k → least_at z.program x k ≤ l → Follow z q l c o → Led z x k c o
led_by z x k q l c (Went u event) low high f = record { most = q; least = l; on = comes_map (core_in z) (Mirrors z u) (Meets z u) q l c (λ d h. inl h) f; low = low; high = high }
led_by z x k q l c (Undefined kind line) low high f = record { most = q; least = l; on = tt; low = low; high = high }
led_by z x k q l c Idle low high f = record { most = q; least = l; on = tt; low = low; high = high }
led_by z x k q l c Lost low high f = record { most = q; least = l; on = tt; low = low; high = high }

-- The law of a focus and a stack: no handler is due, and byte code stands at the same place.
abbrev pub Law : Scene → Focus → List Pending → Type 0
Law z x k = (cp : CopyOf) (l : source.Memory) (w : World Byte) (c : Machine) → Known z (state cp x k l w) → is_due (arrived z.outside w) ≡ false → Mirrors z (state cp x k l w) c → Led z x k c (act (source_in z) x k cp l (arrived z.outside w))

-- ---- micro-steps that make no event
abbrev pub IsSilent : Outcome → Type 0
IsSilent (Went u event) = event ≡ None
IsSilent _ = Unit {0}

-- Behind one that makes no event no handler is due.
quiet_behind : (z : Scene) (x : Focus) (k : List Pending) (cp : CopyOf) (l : source.Memory) (w : World Byte) (u : State) → leaves_handler (state cp x k l w) ≡ false → is_due (arrived z.outside w) ≡ false → act (source_in z) x k cp l (arrived z.outside w) ≡ Went u None → enters (source_in z) u ≡ false
unfolding step
quiet_behind z x k cp l w u stays due e =
    entry_is_behind (source_in z) (state cp x k l w) u None
    (ap (λ b. if b then interrupted (source_in z) (handler_in z.program) x k cp l (arrived z.outside w) else act (source_in z) x k cp l (arrived z.outside w)) due ∙ e)
    refl stays

some_none : {A : Type 0} {x : A} → Some x ≡ None → ⊥
some_none e = cc

pub on_led : (z : Scene) (o : Outcome) (q n : ℕ) (x : Focus) (k : List Pending) (cp : CopyOf) (l : source.Memory) (w : World Byte) (c : Machine) → act (source_in z) x k cp l (arrived z.outside w) ≡ o → IsSilent o → leaves_handler (state cp x k l w) ≡ false → is_due (arrived z.outside w) ≡ false
    → q ≤ most_at z.program x k → least_at z.program x k ≤ n → FollowOn z q n c o → Led z x k c o
on_led z (Went u (Some event)) q n x k cp l w c e s stays due low high f = absurd (some_none s)
on_led z (Went u None) q n x k cp l w c e s stays due low high f =
    record {
      most = q;
      least = n;
      on = comes_map (core_in z) (λ d. Mirrors z u d ⊎ Again z u.copy u.focus u.stack u.memory u.world d) (Meets z u) q n c (λ d h. ⊎_elim (λ m. inl m) (λ a. inr (inl (a, quiet_behind z x k cp l w u stays due e))) h) f;
      low = low;
      high = high;
    }
on_led z (Undefined kind line) q n x k cp l w c e s stays due low high f = record { most = q; least = n; on = tt; low = low; high = high }
on_led z Idle q n x k cp l w c e s stays due low high f = record { most = q; least = n; on = tt; low = low; high = high }
on_led z Lost q n x k cp l w c e s stays due low high f = record { most = q; least = n; on = tt; low = low; high = high }

-- Steps of the source that byte code takes together with a later one: it stays where it stands for the state before.
use Rattle.core_code.specs.Machine.{Machine}
use Rattle.lower_trace.proofs.Beginnings.{Follow}
use Rattle.lower_trace.proofs.CodeLeft.{Scene, core_in}
use Rattle.lower_trace.proofs.Mirrors.{Mirrors}
use Rattle.lower_trace.proofs.Operations.{Comes}
use Rattle.pic_world.specs.World.{World, arrived, is_due}
use Rattle.src_rules.specs.State.{Idle, Lost, Outcome, State, Undefined, Went, state}
use Rattle.src_values.specs.Accesses.{is_unset}
use Rattle.src_values.specs.Control.{CopyRead, CopyWrite, Focus, Pending, callers}
use Rattle.src_values.specs.Memory as source
use Rattle.src_values.specs.Objects.{is_alive, object_bytes}
use Rattle.src_values.specs.declared.objects.Byte as value
use Rattle.src_values.specs.declared.objects.CopyOf.{CopyOf}
use Rattle.src_values.specs.declared.objects.Object.TheVariants as objects
use Rattle.src_values.specs.declared.objects.Pointer.TheVariants.{Into}
use Rattle.src_values.specs.declared.objects.Spot as spot
use Rattle.src_values.specs.declared.objects.Spot.TheVariants as spots
use Rattle.std.proofs.Common.{List, false, inl, suc, true, ℕ, ◌<◌, ◌∷◌, ◌≡◌, ◌⊎◌}

-- A byte of a variable was read to be copied. Byte code reads and writes it by one operation, which is still to come; no handler can
-- come between.
pub record CopyPauses (z : Scene) (to : spot.Spot) (d : CopyOf) (i f : ℕ) (byte : value.Byte) (left : ℕ) (cp : CopyOf) (k : List Pending) (l : source.Memory) (w : World value.Byte) (c : Machine) : Type 0 where
  pub stands : Mirrors z (state cp (CopyRead to (spots.Memory (Into (objects.Variable d i) f)) (suc left)) k l w) c
  pub same : l (objects.Variable d i) f ≡ byte
  pub set : is_unset byte ≡ false
  pub inside : f < object_bytes z.program (objects.Variable d i)
  pub alive : is_alive (cp ∷ callers k) (objects.Variable d i) ≡ true
  pub quiet : is_due (arrived z.outside w) ≡ false

abbrev pub Pauses : Scene → Focus → CopyOf → List Pending → source.Memory → World value.Byte → Machine → Type 0
Pauses z (CopyWrite to (spots.Memory (Into (objects.Variable d i) f)) byte left) cp k l w c = CopyPauses z to d i f byte left cp k l w c
Pauses z _ cp k l w c = ⊥

abbrev pub Paused : Scene → State → Machine → Type 0
Paused z t c = Pauses z t.focus t.copy t.stack t.memory t.world c

-- which machines stand for a state
abbrev pub Stands : Scene → State → Machine → Type 0
Stands z t c = Mirrors z t c ⊎ Paused z t c

-- what byte code does where the source ends a micro-step so, at these costs
abbrev pub Leads : Scene → ℕ → ℕ → Machine → Outcome → Type 0
Leads z q l c (Went u event) = Comes (core_in z) (Stands z u) q l c
Leads z q l c (Undefined kind line) = Unit {0}
Leads z q l c Idle = Unit {0}
Leads z q l c Lost = Unit {0}

pub leads : (z : Scene) (q l : ℕ) (c : Machine) (o : Outcome) → Follow z q l c o → Leads z q l c o
leads z q l c (Went u event) h = record { count = h.count; place = h.place; walk = h.walk; is = inl h.is }
leads z q l c (Undefined kind line) h = tt
leads z q l c Idle h = tt
leads z q l c Lost h = tt

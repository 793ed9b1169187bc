-- Where byte code waits while the source goes on: the count of a shift by a constant is under way, or a byte was read that is to be
-- copied between fixed places. Byte code stands where it stood before, and no handler is due.
use Rattle.c_typed.specs.Trees as tree
use Rattle.core_code.specs.Machine.{Machine}
use Rattle.core_puts.specs.Bytes.{behind}
use Rattle.lower_expr.specs.Spots.{spot_of}
use Rattle.lower_expr.specs.declared.places.Spot as place
use Rattle.lower_expr.specs.declared.places.Spot.TheVariants.{Fixed}
use Rattle.lower_stmt.specs.Ground.{local_byte}
use Rattle.lower_trace.proofs.CodeLeft.{Scene, ground_in, held}
use Rattle.lower_trace.proofs.Folding.{FoldPauses}
use Rattle.lower_trace.proofs.Pausing.{Paused, Pauses}
use Rattle.pic_world.specs.World.{World, arrived, is_due, world_as}
use Rattle.src_rules.specs.State.{State, state}
use Rattle.src_values.specs.Control.{CopyWrite, Doing, Focus, In, Items, Over, Pending}
use Rattle.src_values.specs.Memory as source
use Rattle.src_values.specs.declared.objects.Byte.{Byte}
use Rattle.src_values.specs.declared.objects.CopyOf.{CopyOf}
use Rattle.src_values.specs.declared.objects.Object.TheVariants.{Variable}
use Rattle.src_values.specs.declared.objects.Pointer.TheVariants.{Into}
use Rattle.src_values.specs.declared.objects.Spot.TheVariants.{Memory}
use Rattle.std.proofs.Common.{List, false, ◌∷◌, ◌≡◌}

abbrev pub BothFixed : place.Spot → place.Spot → Type 0
BothFixed (Fixed to) (Fixed from) = Unit {0}
BothFixed p q = ⊥

-- The node that copies does so between fixed places.
abbrev pub AreFixed : Scene → CopyOf → List Pending → Type 0
AreFixed z cp (In (tree.StructAssign sought other size line) got ∷ k) = BothFixed (spot_of (ground_in z cp).layout (ground_in z cp).copy sought) (spot_of (ground_in z cp).layout (ground_in z cp).copy other)
AreFixed z cp (Doing (tree.InitList local all line) (Items (tree.Struct offset other size) rest) ∷ k) = BothFixed (Fixed (behind (local_byte (ground_in z cp) local) offset)) (spot_of (ground_in z cp).layout (ground_in z cp).copy other)
AreFixed z cp k = ⊥

pub data Waiting (z : Scene) (t : State) (c : Machine) : Type 0 where
  CountWaits : FoldPauses z t c → Waiting z t c
  CopyWaits : AreFixed z t.copy t.stack → Paused z t c → Waiting z t c

-- ---- what both have in common
pauses_quiet : (z : Scene) (x : Focus) (cp : CopyOf) (k : List Pending) (l : source.Memory) (w : World Byte) (c : Machine) → Pauses z x cp k l w c → is_due (arrived z.outside w) ≡ false
pauses_quiet z (CopyWrite to (Memory (Into (Variable d i) f)) byte left) cp k l w c p = p.quiet
pauses_quiet z _ cp k l w c p = absurd p

-- no handler is due
pub waits_quiet : (z : Scene) (t : State) (c : Machine) → Waiting z t c → is_due (arrived z.outside t.world) ≡ false
waits_quiet z t c (CountWaits p) = p.state_is.quiet
waits_quiet z t c (CopyWaits fixed p) = pauses_quiet z t.focus t.copy t.stack t.memory t.world c p

pauses_world : (z : Scene) (x : Focus) (cp : CopyOf) (k : List Pending) (l : source.Memory) (w : World Byte) (c : Machine) → Pauses z x cp k l w c → arrived z.outside c.world ≡ world_as (held z) (arrived z.outside w)
pauses_world z (CopyWrite to (Memory (Into (Variable d i) f)) byte left) cp k l w c p = p.stands.world
pauses_world z _ cp k l w c p = absurd p

-- the world is the same
pub waits_world : (z : Scene) (t : State) (c : Machine) → Waiting z t c → arrived z.outside c.world ≡ world_as (held z) (arrived z.outside t.world)
waits_world z t c (CountWaits p) = p.state_is.stands.world
waits_world z t c (CopyWaits fixed p) = pauses_world z t.focus t.copy t.stack t.memory t.world c p

-- Where main has ended it doesn't wait.
pub over_waits : (z : Scene) (cp : CopyOf) (k : List Pending) (l : source.Memory) (w : World Byte) (c : Machine) → Waiting z (state cp Over k l w) c → ⊥
over_waits z cp k l w c (CountWaits p) = p.state_is.value
over_waits z cp k l w c (CopyWaits fixed p) = p

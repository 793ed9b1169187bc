-- The law of bytes that a node writes, put together from its forms and its places.
use Rattle.std.proofs.Common.{◌≡◌, ℕ, ◌<◌, List, ◌∷◌, sym, ap, ◌∙◌, subst, arith}
use Rattle.std.specs.List.{All}
use Rattle.c_ints.specs.declared.operators.BinOp.{BinOp}
use Rattle.c_typed.specs.Trees as tree
use Rattle.c_typed.specs.Trees.{Expression, Place}
use Rattle.c_typed.specs.Types.{place_type, type_bytes, type_of}
use Rattle.c_typed.specs.declared.expression.StepOp.{StepOp}
use Rattle.c_typed.specs.declared.types.Ty.{Ty}
use Rattle.pic_world.specs.World.{World, arrived}
use Rattle.src_rules.proofs.Rules.{assign_rule, step_rule, update_rule}
use Rattle.src_rules.specs.Parts.{IsPlaceOf}
use Rattle.src_rules.specs.Standing.{HasType, IsSpotOf, stepped}
use Rattle.src_rules.specs.State.{state}
use Rattle.src_rules.specs.Step.{act}
use Rattle.src_values.specs.Control.{CopyRead, CopyWrite, Focus, Stores, Write, Pending, In}
use Rattle.src_values.specs.Data as datum
use Rattle.src_values.specs.Data.{Datum}
use Rattle.src_values.specs.Memory as source
use Rattle.src_values.specs.declared.objects.Byte.{Byte}
use Rattle.src_values.specs.declared.objects.CopyOf.{CopyOf}
use Rattle.src_values.specs.declared.objects.Object.TheVariants as objects
use Rattle.src_values.specs.declared.objects.Pointer.{Pointer}
use Rattle.src_values.specs.declared.objects.Pointer.TheVariants.{Null, Into}
use Rattle.src_values.specs.declared.objects.Spot.{Spot}
use Rattle.src_values.specs.declared.objects.Spot.TheVariants as spots
use Rattle.lower_trace.specs.Lowering.{IsLowerable}
use Rattle.lower_trace.proofs.CodeLeft.{Scene, source_in}
use Rattle.lower_trace.proofs.FixedWrites.{IsOpen}
use Rattle.lower_trace.proofs.Known.{Known}
use Rattle.lower_trace.proofs.Leads.{Led, Law}
use Rattle.lower_trace.proofs.LedBitWrites.{KeepsValue, bit_writes}
use Rattle.lower_trace.proofs.LedNodes.{NodeLed, assign_device, assign_memory, step_device, step_memory, update_device, update_memory, keeps_postfix}
use Rattle.lower_trace.proofs.LedFetches.{bit_place}
use Rattle.lower_trace.proofs.LedValues.{pointer_two}
use Rattle.lower_trace.proofs.Mirrors.{Mirrors}
use Rattle.lower_trace.proofs.Opens.{IsOpenSpot}
use Rattle.lower_trace.proofs.Sure.{IsKept}

-- ---- no place that is written is one of a const static object
open_spot : (z : Scene) (spot : Spot) → IsOpenSpot z.program spot → IsOpen z spot
open_spot z (spots.Memory (Into (objects.Fixed i) f)) h = h
open_spot z (spots.Memory (Into (objects.Variable d i) f)) h = tt
open_spot z (spots.Memory Null) h = tt
open_spot z (spots.Device a) h = tt
open_spot z (spots.Bit r n) h = tt

pub stores_open : (z : Scene) (e : Expression) (start : Spot) (u : Datum) (x : Focus) (k : List Pending) (cp : CopyOf) (l : source.Memory) (w : World Byte) → Known z (state cp x (In e (Stores start u) ∷ k) l w) → IsOpen z start
stores_open z e start u x k cp l w known = open_spot z start known.sure.opened.2.1.0

-- a structure is copied there
pub copies_open : (z : Scene) (to from : Spot) (left : ℕ) (k : List Pending) (cp : CopyOf) (l : source.Memory) (w : World Byte) → Known z (state cp (CopyRead to from left) k l w) → IsOpen z to
copies_open z to from left k cp l w known = open_spot z to known.sure.opened.1

pub carries_open : (z : Scene) (to from : Spot) (byte : Byte) (left : ℕ) (k : List Pending) (cp : CopyOf) (l : source.Memory) (w : World Byte) → Known z (state cp (CopyWrite to from byte left) k l w) → IsOpen z to
carries_open z to from byte left k cp l w known = open_spot z to known.sure.opened.1.0

module _ (z : Scene) (given : IsLowerable z.program z.copies) (input : All (λ byte. byte < 256) z.outside.input) where
  -- ---- bits
  kept_value : (e : Expression) (u v : Datum) → IsKept e u v → KeepsValue e u v
  kept_value (tree.Step op sought operation size ty line) u v h = λ old. h (sym (keeps_postfix op) ∙ old)
  kept_value _ u v h = h

  -- a bit holds no pointer
  bit_no_pointer : (sought : Place) (ty : Ty) (r n : ℕ) (x : Pointer) (cp : CopyOf) → (place_type sought).ty ≡ ty → IsPlaceOf z.program cp.function sought → IsSpotOf z.program cp sought (spots.Bit r n) → HasType z.program ty (datum.Pointer x) → ⊥
  bit_no_pointer sought ty r n x cp rule there at t =
      let two = pointer_two z.program.sizes ty t.0 in
      let one = ap (type_bytes z.program.sizes) (sym rule ∙ (bit_place z cp sought r n there at).1) in
      absurd (omega arith)

  pointer_apart : (e : Expression) (r n : ℕ) (x : Pointer) (u : Datum) (spot : Spot) (at : ℕ) (k : List Pending) (cp : CopyOf) (l : source.Memory) (w : World Byte) → Known z (state cp (Write spot (datum.Pointer x) at) (In e (Stores (spots.Bit r n) u) ∷ k) l w) → HasType z.program (type_of e) (datum.Pointer x) → ⊥
  pointer_apart (tree.Assign sought right ty line) r n x u spot at k cp l w known t = let st = known.stands.stack in bit_no_pointer sought ty r n x cp (assign_rule z.program sought right ty line st.0.0).0 st.0.1 st.2.0 t
  pointer_apart (tree.Update op sought right operation size ty line) r n x u spot at k cp l w known t = let st = known.stands.stack in bit_no_pointer sought ty r n x cp (update_rule z.program op sought right operation size ty line st.0.0).0 st.0.1 st.2.0 t
  pointer_apart (tree.Step op sought operation size ty line) r n x u spot at k cp l w known t = let st = known.stands.stack in bit_no_pointer sought ty r n x cp (step_rule z.program op sought operation size ty line st.0.0).0 st.0.1 st.2.0 t
  pointer_apart _ r n x u spot at k cp l w known t = known.stands.stack.2.0

  bits_led : (e : Expression) (r n : ℕ) (spot : Spot) (u v : Datum) (at : ℕ) (k : List Pending) → Law z (Write spot v at) (In e (Stores (spots.Bit r n) u) ∷ k)
  bits_led e r n spot u (datum.Number q) at k cp l w c known due h = bit_writes z given input e r n u q spot at k (kept_value e u (datum.Number q) known.sure.focus.1) cp l w c known due h
  bits_led e r n spot u (datum.Pointer x) at k cp l w c known due h = let f = known.stands.focus in absurd (pointer_apart e r n x u spot at k cp l w known (subst (λ y. HasType z.program y (datum.Pointer x)) f.node.1 f.typed))
  bits_led e r n spot u datum.Missing at k cp l w c known due h = let some = known.sure.focus.0 in absurd (omega arith)

  -- ---- by the place, which is none of a bit
  abbrev IsPlain : Spot → Type 0
  IsPlain (spots.Bit r n) = ⊥
  IsPlain _ = Unit {0}

  assign_led : (start : Spot) (sought : Place) (right : Expression) (ty : Ty) (line : ℕ) (v : Datum) (at : ℕ) (k : List Pending) → IsPlain start → NodeLed z (tree.Assign sought right ty line) start v v at k
  assign_led (spots.Memory x) sought right ty line v at k plain = assign_memory z given input x sought right ty line v at k
  assign_led (spots.Device a) sought right ty line v at k plain = assign_device z given input a sought right ty line v at k
  assign_led (spots.Bit r n) sought right ty line v at k plain = absurd plain

  update_led : (start : Spot) (op : BinOp) (sought : Place) (right : Expression) (operation : Ty) (size : ℕ) (ty : Ty) (line : ℕ) (v : Datum) (at : ℕ) (k : List Pending) → IsPlain start → NodeLed z (tree.Update op sought right operation size ty line) start v v at k
  update_led (spots.Memory x) op sought right operation size ty line v at k plain = update_memory z given input x op sought right operation size ty line v at k
  update_led (spots.Device a) op sought right operation size ty line v at k plain = update_device z given input a op sought right operation size ty line v at k
  update_led (spots.Bit r n) op sought right operation size ty line v at k plain = absurd plain

  step_led : (start : Spot) (op : StepOp) (sought : Place) (operation : Ty) (size : ℕ) (ty : Ty) (line : ℕ) (u v : Datum) (at : ℕ) (k : List Pending) → IsPlain start → NodeLed z (tree.Step op sought operation size ty line) start u v at k
  step_led (spots.Memory x) op sought operation size ty line u v at k plain = step_memory z given input x op sought operation size ty line u v at k
  step_led (spots.Device a) op sought operation size ty line u v at k plain = step_device z given input a op sought operation size ty line u v at k
  step_led (spots.Bit r n) op sought operation size ty line u v at k plain = absurd plain

  -- ---- the byte that comes next
  -- the place that the frame speaks of, and the value that it stores
  node_led : (e : Expression) (start spot : Spot) (u v : Datum) (at : ℕ) (k : List Pending) → NodeLed z e start u v at k → Law z (Write spot v at) (In e (Stores start u) ∷ k)
  node_led e start spot u v at k led cp l w c known due h =
      let K = In e (Stores start u) ∷ k in
      let f = known.stands.focus in
      let here : f.start ≡ start = f.node.0 in
      let is : spot ≡ stepped at start = f.there ∙ ap (stepped at) here in
      let t : HasType z.program (type_of e) v = subst (λ y. HasType z.program y v) f.node.1 f.typed in
      subst (λ y. Led z (Write y v at) K c (act (source_in z) (Write y v at) K cp l (arrived z.outside w))) (sym is)
      (led cp l w c (subst (λ y. Known z (state cp (Write y v at) K l w)) is known) due (stores_open z e start u (Write spot v at) k cp l w known) t (subst (λ y. Mirrors z (state cp (Write y v at) K l w) c) is h))

  kept_led : (e : Expression) (start spot : Spot) (u v : Datum) (at : ℕ) (k : List Pending) → u ≡ v → NodeLed z e start v v at k → Law z (Write spot v at) (In e (Stores start u) ∷ k)
  kept_led e start spot u v at k same led = subst (λ y. Law z (Write spot v at) (In e (Stores start y) ∷ k)) (sym same) (node_led e start spot v v at k led)

  plain_led : (e : Expression) (start spot : Spot) (u v : Datum) (at : ℕ) (k : List Pending) → IsPlain start → Law z (Write spot v at) (In e (Stores start u) ∷ k)
  plain_led (tree.Assign sought right ty line) start spot u v at k plain cp l w c known due h =
      kept_led (tree.Assign sought right ty line) start spot u v at k known.sure.focus.1 (assign_led start sought right ty line v at k plain) cp l w c known due h
  plain_led (tree.Update op sought right operation size ty line) start spot u v at k plain cp l w c known due h =
      kept_led (tree.Update op sought right operation size ty line) start spot u v at k known.sure.focus.1 (update_led start op sought right operation size ty line v at k plain) cp l w c known due h
  plain_led (tree.Step op sought operation size ty line) start spot u v at k plain cp l w c known due h =
      node_led (tree.Step op sought operation size ty line) start spot u v at k (step_led start op sought operation size ty line u v at k plain) cp l w c known due h
  plain_led _ start spot u v at k plain cp l w c known due h = absurd known.stands.stack.2.0

  -- A byte of a value is written, or what follows the last one.
  pub node_writes : (e : Expression) (start spot : Spot) (u v : Datum) (at : ℕ) (k : List Pending) → Law z (Write spot v at) (In e (Stores start u) ∷ k)
  node_writes e (spots.Bit r n) spot u v at k = bits_led e r n spot u v at k
  node_writes e (spots.Memory x) spot u v at k = plain_led e (spots.Memory x) spot u v at k tt
  node_writes e (spots.Device a) spot u v at k = plain_led e (spots.Device a) spot u v at k tt

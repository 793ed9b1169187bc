-- The laws of bytes that a node writes, put together: assignments, updates and steps, at fixed places and behind pointers.
use Rattle.std.proofs.Common.{◌≡◌, ℕ, ◌<◌, nat_lt, false, List, ◌∷◌, refl, sym, ap, ◌∙◌, arith}
use Rattle.std.specs.List.{All}
use Rattle.c_ints.specs.declared.operators.BinOp.{BinOp}
use Rattle.c_typed.specs.Trees as tree
use Rattle.c_typed.specs.Trees.{Expression, Place}
use Rattle.c_typed.specs.Types.{type_bytes, type_of}
use Rattle.c_typed.specs.declared.expression.StepOp.{StepOp}
use Rattle.c_typed.specs.declared.expression.StepOp.TheVariants as shapes
use Rattle.c_typed.specs.declared.types.Ty.{Ty}
use Rattle.core_code.specs.Machine.{Machine}
use Rattle.core_code.specs.declared.code.Byte as code
use Rattle.lower_expr.specs.Rows.{keeps_old}
use Rattle.lower_expr.specs.Spots.{pointer_bytes, spot_of}
use Rattle.lower_expr.specs.declared.places.Spot as place
use Rattle.lower_expr.specs.declared.places.Spot.TheVariants.{Fixed, Bit, Computed}
use Rattle.pic_world.specs.World.{World, arrived, is_due}
use Rattle.src_rules.proofs.Places.{spot_there}
use Rattle.src_rules.proofs.Rules.{assign_rule, update_rule, step_rule}
use Rattle.src_rules.specs.Runs.{one_if}
use Rattle.src_rules.specs.Standing.{HasType, stepped}
use Rattle.src_rules.specs.State.{State, state}
use Rattle.src_rules.specs.Step.{act}
use Rattle.src_values.specs.Control.{Stores, Write, Pending, In}
use Rattle.src_values.specs.Data as datum
use Rattle.src_values.specs.Data.{Datum}
use Rattle.src_values.specs.Memory as source
use Rattle.src_values.specs.Values.{byte_count, is_postfix}
use Rattle.src_values.specs.declared.objects.Byte.{Byte}
use Rattle.src_values.specs.declared.objects.CopyOf.{CopyOf}
use Rattle.src_values.specs.declared.objects.Pointer.{Pointer}
use Rattle.src_values.specs.declared.objects.Spot.{Spot}
use Rattle.src_values.specs.declared.objects.Spot.TheVariants as spots
use Rattle.lower_trace.specs.Lowering.{IsLowerable}
use Rattle.lower_trace.proofs.CodeLeft.{Scene, ground_in, source_in}
use Rattle.lower_trace.proofs.Costs.{either}
use Rattle.lower_trace.proofs.Fitting.{typed_bytes, width_is}
use Rattle.lower_trace.proofs.FixedWrites.{IsFor, IsOpen}
use Rattle.lower_trace.proofs.Known.{Known, around, front, reached_below, reaches}
use Rattle.lower_trace.proofs.Leads.{Led, led_by}
use Rattle.lower_trace.proofs.LedFetches.{device_fixed, device_one, memory_no_bit}
use Rattle.lower_trace.proofs.LedLists.{own_low}
use Rattle.lower_trace.proofs.LedValues.{IsTested, around_in, number_tested, pointer_tested, pointer_two}
use Rattle.lower_trace.proofs.Mirrors.{Mirrors}
use Rattle.lower_trace.proofs.NodeRooms.{assign_ahead, step_ahead, step_wider, update_ahead}
use Rattle.lower_trace.proofs.PriceTests.{IsNoBit, all_written, write_room, write_one}
use Rattle.lower_trace.proofs.Scenes.{scene_laws}
use Rattle.lower_trace.proofs.Stored.{assign_write, step_write, update_write}
use Rattle.lower_trace.proofs.StoredPointed.{pointed_assign, pointed_step_write, pointed_update_write}

-- ---- values that are written
pub tested_of : (z : Scene) (ty : Ty) (v : Datum) → HasType z.program ty v → 0 < byte_count v → IsTested z ty v
tested_of z ty (datum.Number q) t some = number_tested z ty q t
tested_of z ty (datum.Pointer x) t some = pointer_tested z ty x t
tested_of z ty datum.Missing t some = absurd (omega arith)

-- a register has one byte, and so takes no pointer
pub for_start : (z : Scene) (start : Spot) (ty : Ty) (v : Datum) → HasType z.program ty v → 0 < byte_count v → ((a : ℕ) → start ≡ spots.Device a → type_bytes z.program.sizes ty ≡ 1) → IsFor start v
for_start z (spots.Device a) ty (datum.Number q) t some one = tt
for_start z (spots.Device a) ty (datum.Pointer x) t some one = let two = pointer_two z.program.sizes ty t.0 in let single = one a refl in absurd (omega arith)
for_start z (spots.Device a) ty datum.Missing t some one = absurd (omega arith)
for_start z (spots.Memory x) ty v t some one = tt
for_start z (spots.Bit r n) ty v t some one = tt

-- a form that keeps the old value is a postfix form
pub keeps_postfix : (op : StepOp) → keeps_old op ≡ is_postfix op
keeps_postfix shapes.PreIncrement = refl
keeps_postfix shapes.PreDecrement = refl
keeps_postfix shapes.PostIncrement = refl
keeps_postfix shapes.PostDecrement = refl

memory_apart : (x : Pointer) (a : ℕ) → spots.Memory x ≡ spots.Device a → ⊥
memory_apart x a e = cc

abbrev pub writing_of : Expression → Spot → Datum → Datum → ℕ → List Pending → CopyOf → source.Memory → World Byte → State
writing_of e start u v at k cp l w = state cp (Write (stepped at start) v at) (In e (Stores start u) ∷ k) l w

-- what follows a write of a byte at a place that was found
abbrev pub NodeLed : Scene → Expression → Spot → Datum → Datum → ℕ → List Pending → Type 0
NodeLed z e start u v at k =
    (cp : CopyOf) (l : source.Memory) (w : World Byte) (c : Machine) → Known z (writing_of e start u v at k cp l w) → is_due (arrived z.outside w) ≡ false → IsOpen z start → HasType z.program (type_of e) v → Mirrors z (writing_of e start u v at k cp l w) c
    → Led z (Write (stepped at start) v at) (In e (Stores start u) ∷ k) c (act (source_in z) (Write (stepped at start) v at) (In e (Stores start u) ∷ k) cp l (arrived z.outside w))

abbrev pub IsOne : Scene → Spot → Ty → Type 0
IsOne z start ty = (a : ℕ) → start ≡ spots.Device a → type_bytes z.program.sizes ty ≡ 1

-- where byte code finds the place
abbrev pub found_as : Scene → CopyOf → Place → place.Spot
found_as z cp sought = spot_of (ground_in z cp).layout (ground_in z cp).copy sought

module _ (z : Scene) (given : IsLowerable z.program z.copies) (input : All (λ byte. byte < 256) z.outside.input) where
  -- ---- assignments
  assign_fixed : (from : code.Byte) (sought : Place) (right : Expression) (ty : Ty) (line : ℕ) (start : Spot) (v : Datum) (at : ℕ) (k : List Pending) (cp : CopyOf) (l : source.Memory) (w : World Byte) (c : Machine) → found_as z cp sought ≡ Fixed from → IsOne z start ty → IsNoBit start
      → Known z (writing_of (tree.Assign sought right ty line) start v v at k cp l w) → is_due (arrived z.outside w) ≡ false → IsOpen z start → HasType z.program ty v → Mirrors z (writing_of (tree.Assign sought right ty line) start v v at k cp l w) c
      → Led z (Write (stepped at start) v at) (In (tree.Assign sought right ty line) (Stores start v) ∷ k) c (act (source_in z) (Write (stepped at start) v at) (In (tree.Assign sought right ty line) (Stores start v) ∷ k) cp l (arrived z.outside w))
  unfolding act
  assign_fixed from sought right ty line start v at k cp l w c is one plain known due opened t h =
      let e = tree.Assign sought right ty line in
      let x = writing_of e start v v at k cp l w in
      let s = known.stands in
      let st = s.stack in
      let some = known.sure.focus.0 in
      let tested = tested_of z ty v t some in
      let few = tested.few in
      let all = tested.all in
      let a = around z given input x known in
      let r = assign_ahead z given input cp s.reached k sought right ty line st.0.0 known.stack.0 in
      let same = all_written start at v plain in
      led_by z _ _ (either (nat_lt at (byte_count v)) 6 0) (one_if (nat_lt at (byte_count v))) c _ (write_room (stepped at start) v at 6 0 28 same (omega arith) (omega arith)) (write_one (stepped at start) v at same)
      (assign_write z (scene_laws z given) cp l sought right ty line start from v at k w c
      (record {
        place = record { spot = is; there = st.0.1; found = st.2.0; one = one };
        around = a;
        below = around_in z cp e (Stores start v) k a;
        reach = reached_below z given input x known;
        low = front z given input x known;
        front = r.front;
        open_is = opened;
        fit = for_start z start ty v t some one;
        all = all;
        few = omega arith;
        room = r.room;
        own_room = own_low z given input cp s.reached;
      })
      (width_is z cp ty (omega arith)) due h)

  assign_pointed : (x : Pointer) (sought : Place) (right : Expression) (ty : Ty) (line : ℕ) (v : Datum) (at : ℕ) (k : List Pending) (cp : CopyOf) (l : source.Memory) (w : World Byte) (c : Machine) → found_as z cp sought ≡ Computed
      → Known z (writing_of (tree.Assign sought right ty line) (spots.Memory x) v v at k cp l w) → is_due (arrived z.outside w) ≡ false → IsOpen z (spots.Memory x) → HasType z.program ty v → Mirrors z (writing_of (tree.Assign sought right ty line) (spots.Memory x) v v at k cp l w) c
      → Led z (Write (stepped at (spots.Memory x)) v at) (In (tree.Assign sought right ty line) (Stores (spots.Memory x) v) ∷ k) c (act (source_in z) (Write (stepped at (spots.Memory x)) v at) (In (tree.Assign sought right ty line) (Stores (spots.Memory x) v) ∷ k) cp l (arrived z.outside w))
  unfolding act
  assign_pointed x sought right ty line v at k cp l w c is known due opened t h =
      let e = tree.Assign sought right ty line in
      let y = writing_of e (spots.Memory x) v v at k cp l w in
      let s = known.stands in
      let st = s.stack in
      let some = known.sure.focus.0 in
      let tested = tested_of z ty v t some in
      let few = tested.few in
      let all = tested.all in
      let a = around z given input y known in
      let r = assign_ahead z given input cp s.reached k sought right ty line st.0.0 known.stack.0 in
      let two = ap pointer_bytes is in
      let far = r.far in
      let same = all_written (spots.Memory x) at v tt in
      led_by z _ _ (either (nat_lt at (byte_count v)) 20 24) (one_if (nat_lt at (byte_count v))) c _ (write_room (stepped at (spots.Memory x)) v at 20 24 28 same (omega arith) (omega arith)) (write_one (stepped at (spots.Memory x)) v at same)
      (pointed_assign z (scene_laws z given) cp l sought right ty line x v at k w c
      (record {
        place = record { spot = is; there = spot_there z.program cp sought (spots.Memory x) s.reached st.0.1 st.2.0; some = omega arith; few = omega arith };
        around = a;
        below = around_in z cp e (Stores (spots.Memory x) v) k a;
        reached = reached_below z given input y known;
        low = front z given input y known;
        reach = reaches z given input y known;
        open_is = opened;
        all = all;
        apart = omega arith;
        room = r.room;
        front = r.ahead;
      })
      (width_is z cp ty (omega arith)) due h)

  assign_in_memory : (s : place.Spot) (x : Pointer) (sought : Place) (right : Expression) (ty : Ty) (line : ℕ) (v : Datum) (at : ℕ) (k : List Pending) (cp : CopyOf) (l : source.Memory) (w : World Byte) (c : Machine) → found_as z cp sought ≡ s
      → Known z (writing_of (tree.Assign sought right ty line) (spots.Memory x) v v at k cp l w) → is_due (arrived z.outside w) ≡ false → IsOpen z (spots.Memory x) → HasType z.program ty v → Mirrors z (writing_of (tree.Assign sought right ty line) (spots.Memory x) v v at k cp l w) c
      → Led z (Write (stepped at (spots.Memory x)) v at) (In (tree.Assign sought right ty line) (Stores (spots.Memory x) v) ∷ k) c (act (source_in z) (Write (stepped at (spots.Memory x)) v at) (In (tree.Assign sought right ty line) (Stores (spots.Memory x) v) ∷ k) cp l (arrived z.outside w))
  assign_in_memory (Fixed from) x sought right ty line v at k cp l w c is known due opened t h = assign_fixed from sought right ty line (spots.Memory x) v at k cp l w c is (λ a e. absurd (memory_apart x a e)) tt known due opened t h
  assign_in_memory (Bit r n) x sought right ty line v at k cp l w c is known due opened t h = absurd (memory_no_bit z cp sought x r n known.stands.stack.2.0 is)
  assign_in_memory Computed x sought right ty line v at k cp l w c is known due opened t h = assign_pointed x sought right ty line v at k cp l w c is known due opened t h

  pub assign_memory : (x : Pointer) (sought : Place) (right : Expression) (ty : Ty) (line : ℕ) (v : Datum) (at : ℕ) (k : List Pending) → NodeLed z (tree.Assign sought right ty line) (spots.Memory x) v v at k
  assign_memory x sought right ty line v at k cp l w c known due opened t h = assign_in_memory (found_as z cp sought) x sought right ty line v at k cp l w c refl known due opened t h

  pub assign_device : (a : ℕ) (sought : Place) (right : Expression) (ty : Ty) (line : ℕ) (v : Datum) (at : ℕ) (k : List Pending) → NodeLed z (tree.Assign sought right ty line) (spots.Device a) v v at k
  assign_device a sought right ty line v at k cp l w c known due opened t h =
      let st = known.stands.stack in
      let fixed = device_fixed z cp sought a st.2.0 in
      let rule = (assign_rule z.program sought right ty line st.0.0).0 in
      assign_fixed fixed.0 sought right ty line (spots.Device a) v at k cp l w c fixed.1 (λ b e. sym (ap (type_bytes z.program.sizes) rule) ∙ device_one z cp sought a st.0.1 st.2.0) tt known due opened t h

  -- ---- updates
  update_fixed : (from : code.Byte) (op : BinOp) (sought : Place) (right : Expression) (operation : Ty) (size : ℕ) (ty : Ty) (line : ℕ) (start : Spot) (v : Datum) (at : ℕ) (k : List Pending) (cp : CopyOf) (l : source.Memory) (w : World Byte) (c : Machine) → found_as z cp sought ≡ Fixed from → IsOne z start ty → IsNoBit start
      → Known z (writing_of (tree.Update op sought right operation size ty line) start v v at k cp l w) → is_due (arrived z.outside w) ≡ false → IsOpen z start → HasType z.program ty v → Mirrors z (writing_of (tree.Update op sought right operation size ty line) start v v at k cp l w) c
      → Led z (Write (stepped at start) v at) (In (tree.Update op sought right operation size ty line) (Stores start v) ∷ k) c (act (source_in z) (Write (stepped at start) v at) (In (tree.Update op sought right operation size ty line) (Stores start v) ∷ k) cp l (arrived z.outside w))
  unfolding act
  update_fixed from op sought right operation size ty line start v at k cp l w c is one plain known due opened t h =
      let e = tree.Update op sought right operation size ty line in
      let x = writing_of e start v v at k cp l w in
      let s = known.stands in
      let st = s.stack in
      let some = known.sure.focus.0 in
      let tested = tested_of z ty v t some in
      let few = tested.few in
      let all = tested.all in
      let a = around z given input x known in
      let both = update_ahead z given input cp s.reached k op sought right operation size ty line st.0.0 known.stack.0 in
      let r = both.0 in
      let far = r.far in
      let same = all_written start at v plain in
      led_by z _ _ (either (nat_lt at (byte_count v)) 6 24) (one_if (nat_lt at (byte_count v))) c _ (write_room (stepped at start) v at 6 24 28 same (omega arith) (omega arith)) (write_one (stepped at start) v at same)
      (update_write z (scene_laws z given) cp l op sought right operation size ty line start from v at k w c
      (record {
        place = record { spot = is; there = st.0.1; found = st.2.0; one = one };
        around = a;
        below = around_in z cp e (Stores start v) k a;
        reach = reached_below z given input x known;
        low = front z given input x known;
        front = r.front;
        open_is = opened;
        fit = for_start z start ty v t some one;
        all = all;
        few = omega arith;
        room = r.room;
        own_room = own_low z given input cp s.reached;
      })
      both.1 r.ahead (omega arith) due h)

  update_pointed : (x : Pointer) (op : BinOp) (sought : Place) (right : Expression) (operation : Ty) (size : ℕ) (ty : Ty) (line : ℕ) (v : Datum) (at : ℕ) (k : List Pending) (cp : CopyOf) (l : source.Memory) (w : World Byte) (c : Machine) → found_as z cp sought ≡ Computed
      → Known z (writing_of (tree.Update op sought right operation size ty line) (spots.Memory x) v v at k cp l w) → is_due (arrived z.outside w) ≡ false → IsOpen z (spots.Memory x) → HasType z.program ty v → Mirrors z (writing_of (tree.Update op sought right operation size ty line) (spots.Memory x) v v at k cp l w) c
      → Led z (Write (stepped at (spots.Memory x)) v at) (In (tree.Update op sought right operation size ty line) (Stores (spots.Memory x) v) ∷ k) c (act (source_in z) (Write (stepped at (spots.Memory x)) v at) (In (tree.Update op sought right operation size ty line) (Stores (spots.Memory x) v) ∷ k) cp l (arrived z.outside w))
  unfolding act
  update_pointed x op sought right operation size ty line v at k cp l w c is known due opened t h =
      let e = tree.Update op sought right operation size ty line in
      let y = writing_of e (spots.Memory x) v v at k cp l w in
      let s = known.stands in
      let st = s.stack in
      let some = known.sure.focus.0 in
      let tested = tested_of z ty v t some in
      let few = tested.few in
      let all = tested.all in
      let a = around z given input y known in
      let both = update_ahead z given input cp s.reached k op sought right operation size ty line st.0.0 known.stack.0 in
      let r = both.0 in
      let two = ap pointer_bytes is in
      let far = r.far in
      let same = all_written (spots.Memory x) at v tt in
      led_by z _ _ (either (nat_lt at (byte_count v)) 20 24) (one_if (nat_lt at (byte_count v))) c _ (write_room (stepped at (spots.Memory x)) v at 20 24 28 same (omega arith) (omega arith)) (write_one (stepped at (spots.Memory x)) v at same)
      (pointed_update_write z (scene_laws z given) cp l op sought right operation size ty line x v at k w c
      (record {
        place = record { spot = is; there = spot_there z.program cp sought (spots.Memory x) s.reached st.0.1 st.2.0; some = omega arith; few = omega arith };
        around = a;
        below = around_in z cp e (Stores (spots.Memory x) v) k a;
        reached = reached_below z given input y known;
        low = front z given input y known;
        reach = reaches z given input y known;
        open_is = opened;
        all = all;
        apart = omega arith;
        room = r.room;
        front = r.ahead;
      })
      both.1 due h)

  update_in_memory : (s : place.Spot) (x : Pointer) (op : BinOp) (sought : Place) (right : Expression) (operation : Ty) (size : ℕ) (ty : Ty) (line : ℕ) (v : Datum) (at : ℕ) (k : List Pending) (cp : CopyOf) (l : source.Memory) (w : World Byte) (c : Machine) → found_as z cp sought ≡ s
      → Known z (writing_of (tree.Update op sought right operation size ty line) (spots.Memory x) v v at k cp l w) → is_due (arrived z.outside w) ≡ false → IsOpen z (spots.Memory x) → HasType z.program ty v → Mirrors z (writing_of (tree.Update op sought right operation size ty line) (spots.Memory x) v v at k cp l w) c
      → Led z (Write (stepped at (spots.Memory x)) v at) (In (tree.Update op sought right operation size ty line) (Stores (spots.Memory x) v) ∷ k) c (act (source_in z) (Write (stepped at (spots.Memory x)) v at) (In (tree.Update op sought right operation size ty line) (Stores (spots.Memory x) v) ∷ k) cp l (arrived z.outside w))
  update_in_memory (Fixed from) x op sought right operation size ty line v at k cp l w c is known due opened t h = update_fixed from op sought right operation size ty line (spots.Memory x) v at k cp l w c is (λ a e. absurd (memory_apart x a e)) tt known due opened t h
  update_in_memory (Bit r n) x op sought right operation size ty line v at k cp l w c is known due opened t h = absurd (memory_no_bit z cp sought x r n known.stands.stack.2.0 is)
  update_in_memory Computed x op sought right operation size ty line v at k cp l w c is known due opened t h = update_pointed x op sought right operation size ty line v at k cp l w c is known due opened t h

  pub update_memory : (x : Pointer) (op : BinOp) (sought : Place) (right : Expression) (operation : Ty) (size : ℕ) (ty : Ty) (line : ℕ) (v : Datum) (at : ℕ) (k : List Pending) → NodeLed z (tree.Update op sought right operation size ty line) (spots.Memory x) v v at k
  update_memory x op sought right operation size ty line v at k cp l w c known due opened t h = update_in_memory (found_as z cp sought) x op sought right operation size ty line v at k cp l w c refl known due opened t h

  pub update_device : (a : ℕ) (op : BinOp) (sought : Place) (right : Expression) (operation : Ty) (size : ℕ) (ty : Ty) (line : ℕ) (v : Datum) (at : ℕ) (k : List Pending) → NodeLed z (tree.Update op sought right operation size ty line) (spots.Device a) v v at k
  update_device a op sought right operation size ty line v at k cp l w c known due opened t h =
      let st = known.stands.stack in
      let fixed = device_fixed z cp sought a st.2.0 in
      let rule = (update_rule z.program op sought right operation size ty line st.0.0).0 in
      update_fixed fixed.0 op sought right operation size ty line (spots.Device a) v at k cp l w c fixed.1 (λ b e. sym (ap (type_bytes z.program.sizes) rule) ∙ device_one z cp sought a st.0.1 st.2.0) tt known due opened t h

  -- ---- steps
  step_fixed : (from : code.Byte) (op : StepOp) (sought : Place) (operation : Ty) (size : ℕ) (ty : Ty) (line : ℕ) (start : Spot) (u v : Datum) (at : ℕ) (k : List Pending) (cp : CopyOf) (l : source.Memory) (w : World Byte) (c : Machine) → found_as z cp sought ≡ Fixed from → IsOne z start ty → IsNoBit start
      → Known z (writing_of (tree.Step op sought operation size ty line) start u v at k cp l w) → is_due (arrived z.outside w) ≡ false → IsOpen z start → HasType z.program ty v → Mirrors z (writing_of (tree.Step op sought operation size ty line) start u v at k cp l w) c
      → Led z (Write (stepped at start) v at) (In (tree.Step op sought operation size ty line) (Stores start u) ∷ k) c (act (source_in z) (Write (stepped at start) v at) (In (tree.Step op sought operation size ty line) (Stores start u) ∷ k) cp l (arrived z.outside w))
  unfolding act
  step_fixed from op sought operation size ty line start u v at k cp l w c is one plain known due opened t h =
      let e = tree.Step op sought operation size ty line in
      let x = writing_of e start u v at k cp l w in
      let s = known.stands in
      let st = s.stack in
      let some = known.sure.focus.0 in
      let tested = tested_of z ty v t some in
      let few = tested.few in
      let all = tested.all in
      let a = around z given input x known in
      let wider = step_wider z.program operation ty (step_rule z.program op sought operation size ty line st.0.0).1 in
      let three = step_ahead z given input cp s.reached k op sought operation size ty line st.0.0 known.stack.0 wider in
      let r = three.0 in
      let far = r.far in
      let high = three.1.higher in
      let same = all_written start at v plain in
      led_by z _ _ (either (nat_lt at (byte_count v)) 6 24) (one_if (nat_lt at (byte_count v))) c _ (write_room (stepped at start) v at 6 24 28 same (omega arith) (omega arith)) (write_one (stepped at start) v at same)
      (step_write z (scene_laws z given) cp l op sought operation size ty line start from v u at k w c
      (record {
        place = record { spot = is; there = st.0.1; found = st.2.0; one = one };
        around = a;
        below = around_in z cp e (Stores start u) k a;
        reach = reached_below z given input x known;
        low = front z given input x known;
        front = r.front;
        open_is = opened;
        fit = for_start z start ty v t some one;
        all = all;
        few = omega arith;
        room = r.room;
        own_room = own_low z given input cp s.reached;
      })
      three.2 r.ahead (omega arith) (omega arith) three.1.room (typed_bytes z.program ty u st.2.1) (λ old. known.sure.focus.1 (sym (keeps_postfix op) ∙ old)) due h)

  step_pointed : (x : Pointer) (op : StepOp) (sought : Place) (operation : Ty) (size : ℕ) (ty : Ty) (line : ℕ) (u v : Datum) (at : ℕ) (k : List Pending) (cp : CopyOf) (l : source.Memory) (w : World Byte) (c : Machine) → found_as z cp sought ≡ Computed
      → Known z (writing_of (tree.Step op sought operation size ty line) (spots.Memory x) u v at k cp l w) → is_due (arrived z.outside w) ≡ false → IsOpen z (spots.Memory x) → HasType z.program ty v → Mirrors z (writing_of (tree.Step op sought operation size ty line) (spots.Memory x) u v at k cp l w) c
      → Led z (Write (stepped at (spots.Memory x)) v at) (In (tree.Step op sought operation size ty line) (Stores (spots.Memory x) u) ∷ k) c (act (source_in z) (Write (stepped at (spots.Memory x)) v at) (In (tree.Step op sought operation size ty line) (Stores (spots.Memory x) u) ∷ k) cp l (arrived z.outside w))
  unfolding act
  step_pointed x op sought operation size ty line u v at k cp l w c is known due opened t h =
      let e = tree.Step op sought operation size ty line in
      let y = writing_of e (spots.Memory x) u v at k cp l w in
      let s = known.stands in
      let st = s.stack in
      let some = known.sure.focus.0 in
      let tested = tested_of z ty v t some in
      let few = tested.few in
      let all = tested.all in
      let a = around z given input y known in
      let wider = step_wider z.program operation ty (step_rule z.program op sought operation size ty line st.0.0).1 in
      let three = step_ahead z given input cp s.reached k op sought operation size ty line st.0.0 known.stack.0 wider in
      let r = three.0 in
      let two = ap pointer_bytes is in
      let far = r.far in
      let high = three.1.higher in
      let same = all_written (spots.Memory x) at v tt in
      led_by z _ _ (either (nat_lt at (byte_count v)) 20 24) (one_if (nat_lt at (byte_count v))) c _ (write_room (stepped at (spots.Memory x)) v at 20 24 28 same (omega arith) (omega arith)) (write_one (stepped at (spots.Memory x)) v at same)
      (pointed_step_write z (scene_laws z given) cp l op sought operation size ty line x v u at k w c
      (record {
        place = record { spot = is; there = spot_there z.program cp sought (spots.Memory x) s.reached st.0.1 st.2.0; some = omega arith; few = omega arith };
        around = a;
        below = around_in z cp e (Stores (spots.Memory x) u) k a;
        reached = reached_below z given input y known;
        low = front z given input y known;
        reach = reaches z given input y known;
        open_is = opened;
        all = all;
        apart = omega arith;
        room = r.room;
        front = r.ahead;
      })
      three.2 (omega arith) three.1.room (typed_bytes z.program ty u st.2.1) (λ old. known.sure.focus.1 (sym (keeps_postfix op) ∙ old)) due h)

  step_in_memory : (s : place.Spot) (x : Pointer) (op : StepOp) (sought : Place) (operation : Ty) (size : ℕ) (ty : Ty) (line : ℕ) (u v : Datum) (at : ℕ) (k : List Pending) (cp : CopyOf) (l : source.Memory) (w : World Byte) (c : Machine) → found_as z cp sought ≡ s
      → Known z (writing_of (tree.Step op sought operation size ty line) (spots.Memory x) u v at k cp l w) → is_due (arrived z.outside w) ≡ false → IsOpen z (spots.Memory x) → HasType z.program ty v → Mirrors z (writing_of (tree.Step op sought operation size ty line) (spots.Memory x) u v at k cp l w) c
      → Led z (Write (stepped at (spots.Memory x)) v at) (In (tree.Step op sought operation size ty line) (Stores (spots.Memory x) u) ∷ k) c (act (source_in z) (Write (stepped at (spots.Memory x)) v at) (In (tree.Step op sought operation size ty line) (Stores (spots.Memory x) u) ∷ k) cp l (arrived z.outside w))
  step_in_memory (Fixed from) x op sought operation size ty line u v at k cp l w c is known due opened t h = step_fixed from op sought operation size ty line (spots.Memory x) u v at k cp l w c is (λ a e. absurd (memory_apart x a e)) tt known due opened t h
  step_in_memory (Bit r n) x op sought operation size ty line u v at k cp l w c is known due opened t h = absurd (memory_no_bit z cp sought x r n known.stands.stack.2.0 is)
  step_in_memory Computed x op sought operation size ty line u v at k cp l w c is known due opened t h = step_pointed x op sought operation size ty line u v at k cp l w c is known due opened t h

  pub step_memory : (x : Pointer) (op : StepOp) (sought : Place) (operation : Ty) (size : ℕ) (ty : Ty) (line : ℕ) (u v : Datum) (at : ℕ) (k : List Pending) → NodeLed z (tree.Step op sought operation size ty line) (spots.Memory x) u v at k
  step_memory x op sought operation size ty line u v at k cp l w c known due opened t h = step_in_memory (found_as z cp sought) x op sought operation size ty line u v at k cp l w c refl known due opened t h

  pub step_device : (a : ℕ) (op : StepOp) (sought : Place) (operation : Ty) (size : ℕ) (ty : Ty) (line : ℕ) (u v : Datum) (at : ℕ) (k : List Pending) → NodeLed z (tree.Step op sought operation size ty line) (spots.Device a) u v at k
  step_device a op sought operation size ty line u v at k cp l w c known due opened t h =
      let st = known.stands.stack in
      let fixed = device_fixed z cp sought a st.2.0 in
      let rule = (step_rule z.program op sought operation size ty line st.0.0).0 in
      step_fixed fixed.0 op sought operation size ty line (spots.Device a) u v at k cp l w c fixed.1 (λ b e. sym (ap (type_bytes z.program.sizes) rule) ∙ device_one z cp sought a st.0.1 st.2.0) tt known due opened t h

-- The laws of nodes that write a bit of a register, put together: the register is read, and behind its write the node has its value.
use Rattle.std.proofs.Common.{◌≡◌, ℕ, ℤ, zero, suc, ◌+◌, ◌<◌, ◌≤◌, false, List, ◌∷◌, refl, sym, ap, ◌∙◌, subst, arith}
use Rattle.std.specs.List.{All}
use Rattle.c_ints.specs.Quantity.{Quantity}
use Rattle.c_ints.specs.Range.{IsInRange, bytes_of}
use Rattle.c_ints.specs.declared.operators.BinOp.{BinOp}
use Rattle.c_ints.specs.declared.types.IntTy.TheVariants as int
use Rattle.c_typed.specs.Room.{place_room, room}
use Rattle.c_typed.specs.Sameness.{is_pointer}
use Rattle.c_typed.specs.Trees as tree
use Rattle.c_typed.specs.Trees.{Expression, Place}
use Rattle.c_typed.specs.Types.{form_of, place_bytes, place_type, type_bytes, value_bytes}
use Rattle.c_typed.specs.declared.expression.StepOp.{StepOp}
use Rattle.c_typed.specs.declared.types.Ty.{Ty}
use Rattle.c_typed.specs.declared.types.Ty.TheVariants as types
use Rattle.core_code.specs.Bytes.{Held, Memory, with_bytes}
use Rattle.core_code.specs.Machine.{Machine}
use Rattle.core_code.specs.declared.code.Byte.TheVariants.{Frame}
use Rattle.core_puts.specs.Bytes.{operation_type}
use Rattle.lower_expr.specs.Layout.{place_width, width}
use Rattle.lower_expr.specs.Lowering.{behind_pointer}
use Rattle.lower_expr.specs.Rows.{keeps_old}
use Rattle.lower_expr.specs.Spots.{spot_of}
use Rattle.lower_expr.specs.declared.places.Spot.TheVariants.{Bit}
use Rattle.pic_world.specs.World.{World, arrived, is_due}
use Rattle.src_rules.proofs.Rules.{assign_rule, step_rule, update_rule}
use Rattle.src_rules.specs.Standing.{HasType, stepped}
use Rattle.src_rules.specs.State.{state}
use Rattle.src_rules.specs.Step.{act}
use Rattle.src_values.specs.Control.{Write, Pending, In, Stores}
use Rattle.src_values.specs.Data as datum
use Rattle.src_values.specs.Data.{Datum}
use Rattle.src_values.specs.Memory as source
use Rattle.src_values.specs.Values.{byte_count, written_bytes}
use Rattle.src_values.specs.declared.objects.Byte as value
use Rattle.src_values.specs.declared.objects.CopyOf.{CopyOf}
use Rattle.src_values.specs.declared.objects.Spot.{Spot}
use Rattle.src_values.specs.declared.objects.Spot.TheVariants as spots
use Rattle.lower_trace.specs.Lowering.{IsLowerable}
use Rattle.lower_trace.proofs.BitEnds.{assign_bit, step_bit, update_bit}
use Rattle.lower_trace.proofs.BitReads.{BitPlace}
use Rattle.lower_trace.proofs.BitWrites.{write_bit}
use Rattle.lower_trace.proofs.CodeLeft.{Scene, base, code_after, core_in, ground_in, number, source_in, stored, writing, writing_at}
use Rattle.lower_trace.proofs.Fitting.{pointer_at, step_operation, value_at, width_is}
use Rattle.lower_trace.proofs.Giving.{value_high}
use Rattle.lower_trace.proofs.Kept.{own_root}
use Rattle.lower_trace.proofs.Known.{Known, around, resumables, small}
use Rattle.lower_trace.proofs.Leads.{Led, Law, led_by}
use Rattle.lower_trace.proofs.LedBits.{assign_waits, step_waits, update_waits}
use Rattle.lower_trace.proofs.LedFetches.{bit_place}
use Rattle.lower_trace.proofs.LedHelped.{same_int_type}
use Rattle.lower_trace.proofs.LedValues.{around_in, int_some}
use Rattle.lower_trace.proofs.Mirrors.{Holds, Mirrors}
use Rattle.lower_trace.proofs.Operations.{beyond_is}
use Rattle.lower_trace.proofs.Rooms.{assign_parts, pointer_is, update_parts}
use Rattle.lower_trace.proofs.Scenes.{frame_is, scene_laws}

-- The value that the node keeps is the one that is written; a step may keep the old one.
abbrev pub KeepsValue : Expression → Datum → Datum → Type 0
KeepsValue (tree.Step op place operation size ty line) u v = keeps_old op ≡ false → u ≡ v
KeepsValue _ u v = u ≡ v

abbrev pub char : ℤ → Datum
char number = datum.Number (record { ty = int.UChar; number = number })

char_few : (z : Scene) (ty : Ty) (u : Datum) → ty ≡ types.Int int.UChar → HasType z.program ty u → byte_count u ≤ 1
char_few z ty (datum.Number q) e t = let w = ap bytes_of (same_int_type q.ty int.UChar (sym t.0 ∙ e)) in omega arith
char_few z ty (datum.Pointer x) e t = absurd (let p = sym (ap is_pointer e) ∙ t.0 in cc)
char_few z ty datum.Missing e t = omega arith

module _ (z : Scene) (given : IsLowerable z.program z.copies) (input : All (λ byte. byte < 256) z.outside.input) where
  -- ---- the register is read
  first_on : (e : Expression) (sought : Place) (r n count : ℕ) (u : Datum) (x : ℤ) (k : List Pending) (cp : CopyOf) (l : source.Memory) (w : World value.Byte) (c : Machine) → Known z (state cp (Write (spots.Bit r n) (char x) 0) (In e (Stores (spots.Bit r n) u) ∷ k) l w) → is_due (arrived z.outside w) ≡ false
      → BitPlace z cp sought r n → IsInRange int.UChar x → base (ground_in z cp) k ≤ stored (ground_in z cp) (base (ground_in z cp) k) e → stored (ground_in z cp) (base (ground_in z cp) k) e + 1 ≤ (core_in z).program.frame_bytes (number z cp)
      → ((a : Spot) (i : ℕ) → writing_at z (ground_in z cp) (In e (Stores (spots.Bit r n) u) ∷ k) a i
      ≡ writing z (ground_in z cp).layout.root (spot_of (ground_in z cp).layout (ground_in z cp).copy sought) a (Frame (ground_in z cp).copy (base (ground_in z cp) k)) (Frame (ground_in z cp).copy (stored (ground_in z cp) (base (ground_in z cp) k) e)) count i (code_after (ground_in z cp) (In e (Stores (spots.Bit r n) u) ∷ k)))
      → ((m : Memory) (h : ℕ → Held) → Holds z (ground_in z cp) (In e (Stores (spots.Bit r n) u) ∷ k) m → Holds z (ground_in z cp) (In e (Stores (spots.Bit r n) u) ∷ k) (with_bytes m (Frame (number z cp) (stored (ground_in z cp) (base (ground_in z cp) k) e)) 1 h))
      → Mirrors z (state cp (Write (spots.Bit r n) (char x) 0) (In e (Stores (spots.Bit r n) u) ∷ k) l w) c → Led z (Write (spots.Bit r n) (char x) 0) (In e (Stores (spots.Bit r n) u) ∷ k) c (act (source_in z) (Write (spots.Bit r n) (char x) 0) (In e (Stores (spots.Bit r n) u) ∷ k) cp l (arrived z.outside w))
  unfolding act
  first_on e sought r n count u x k cp l w c known due bit range high room code kept h =
      let K = In e (Stores (spots.Bit r n) u) ∷ k in
      let t = state cp (Write (spots.Bit r n) (char x) 0) K l w in
      let g = ground_in z cp in
      let b = base g k in
      let from = stored g b e in
      let front = value_high z cp k (around_in z cp e (Stores (spots.Bit r n) u) k (around z given input t known)) in
      led_by z _ _ 57 1 c _ (omega arith) (omega arith)
      (write_bit z (scene_laws z given) cp K l known.stands.reached (resumables z t known) r n count from (Frame g.copy b)
      (λ a i. code a i ∙ ap (λ y. writing z g.layout.root y a (Frame g.copy b) (Frame g.copy from) count i (code_after g K)) bit.spot ∙ ap (λ y. writing z y (Bit r n) a (Frame g.copy b) (Frame g.copy from) count i (code_after g K)) (own_root z cp))
      refl room (omega arith) kept bit.known bit.small x 0 w c range due h)

  first_in : (e : Expression) (r n : ℕ) (u : Datum) (x : ℤ) (k : List Pending) → IsInRange int.UChar x → Law z (Write (spots.Bit r n) (char x) 0) (In e (Stores (spots.Bit r n) u) ∷ k)
  unfolding room
  first_in (tree.Assign sought right ty line) r n u x k range cp l w c known due h =
      let e = tree.Assign sought right ty line in
      let t = state cp (Write (spots.Bit r n) (char x) 0) (In e (Stores (spots.Bit r n) u) ∷ k) l w in
      let s = known.stands in
      let g = ground_in z cp in
      let b = base g k in
      let sizes = z.program.sizes in
      let bit = (bit_place z cp sought r n s.stack.0.1 s.stack.2.0).0 in
      let below = around_in z cp e (Stores (spots.Bit r n) u) k (around z given input t known) in
      let less = small z given input cp s.reached in
      let f = frame_is z given cp s.reached in
      let fits = known.stack.0 in
      let q = (assign_parts (place_room sizes sought) (form_of sought) (room sizes right) (value_bytes sizes right)).2 in
      let pb = pointer_is g.layout g.copy sought in
      let at = pointer_at z cp less b sought (omega arith) in
      let high : b ≤ stored g b e = omega arith in
      first_on e sought r n (width g.layout ty) u x k cp l w c known due bit range high (omega arith) (λ a i. refl)
      (λ m hb y. assign_waits z cp k m hb below r n sought bit.spot right ty line (spots.Bit r n) u (stored g b e) high y) h
  first_in (tree.Update op sought right operation size ty line) r n u x k range cp l w c known due h =
      let e = tree.Update op sought right operation size ty line in
      let t = state cp (Write (spots.Bit r n) (char x) 0) (In e (Stores (spots.Bit r n) u) ∷ k) l w in
      let s = known.stands in
      let g = ground_in z cp in
      let b = base g k in
      let sizes = z.program.sizes in
      let bit = (bit_place z cp sought r n s.stack.0.1 s.stack.2.0).0 in
      let below = around_in z cp e (Stores (spots.Bit r n) u) k (around z given input t known) in
      let less = small z given input cp s.reached in
      let f = frame_is z given cp s.reached in
      let fits = known.stack.0 in
      let q = (update_parts (place_room sizes sought) (form_of sought) (place_bytes sizes sought) (room sizes right) (value_bytes sizes right) (type_bytes sizes operation)).2 in
      let pb = pointer_is g.layout g.copy sought in
      let at = pointer_at z cp less b sought (omega arith) in
      let left = value_at z cp less (behind_pointer g.layout g.copy b sought) right (omega arith) in
      let high : b ≤ stored g b e = omega arith in
      first_on e sought r n (place_width g.layout sought) u x k cp l w c known due bit range high (omega arith) (λ a i. refl)
      (λ m hb y. update_waits z cp k m hb below r n sought bit.spot op right operation size ty line (spots.Bit r n) u (stored g b e) high y) h
  first_in (tree.Step op sought operation size ty line) r n u x k range cp l w c known due h =
      let e = tree.Step op sought operation size ty line in
      let t = state cp (Write (spots.Bit r n) (char x) 0) (In e (Stores (spots.Bit r n) u) ∷ k) l w in
      let s = known.stands in
      let g = ground_in z cp in
      let b = base g k in
      let sizes = z.program.sizes in
      let bit = (bit_place z cp sought r n s.stack.0.1 s.stack.2.0).0 in
      let below = around_in z cp e (Stores (spots.Bit r n) u) k (around z given input t known) in
      let less = small z given input cp s.reached in
      let f = frame_is z given cp s.reached in
      let fits = known.stack.0 in
      let rule = step_rule z.program op sought operation size ty line s.stack.0.0 in
      let q = (update_parts (place_room sizes sought) (form_of sought) (place_bytes sizes sought) 2 2 (type_bytes sizes operation)).2 in
      let pb = pointer_is g.layout g.copy sought in
      let at = pointer_at z cp less b sought (omega arith) in
      let o = step_operation z cp less operation ty rule.1 in
      let o0 = o.0 in
      let o1 = o.1 in
      let some = (int_some (operation_type operation)).0 in
      let wo = width_is z cp operation (omega arith) in
      let new = beyond_is (behind_pointer g.layout g.copy b sought) (width g.layout operation) (omega arith) in
      let old = beyond_is (stored g b e) (width g.layout operation) (omega arith) in
      let high : b ≤ stored g b e = omega arith in
      first_on e sought r n (place_width g.layout sought) u x k cp l w c known due bit range high (omega arith) (λ a i. refl)
      (λ m hb y. step_waits z cp k m hb below r n sought bit.spot op operation size ty line (spots.Bit r n) u (stored g b e) high (omega arith) y) h
  first_in _ r n u x k range cp l w c known due h = absurd known.stands.stack.2.0

  -- ---- behind the write
  assign_last : (sought : Place) (right : Expression) (ty : Ty) (line r n : ℕ) (v : Datum) (k : List Pending) → Law z (Write (spots.Bit r n) v 1) (In (tree.Assign sought right ty line) (Stores (spots.Bit r n) v) ∷ k)
  unfolding act
  assign_last sought right ty line r n v k cp l w c known due h =
      let s = known.stands in
      let bit = (bit_place z cp sought r n s.stack.0.1 s.stack.2.0).0 in
      let less = small z given input cp s.reached in
      let fits = known.stack.0 in
      led_by z _ _ 28 0 c _ (omega arith) (omega arith) (assign_bit z (scene_laws z given) cp l sought right ty line r n v k w c bit.spot (omega arith) due h)

  update_last : (op : BinOp) (sought : Place) (right : Expression) (operation : Ty) (size : ℕ) (ty : Ty) (line r n : ℕ) (v : Datum) (k : List Pending) → Law z (Write (spots.Bit r n) v 1) (In (tree.Update op sought right operation size ty line) (Stores (spots.Bit r n) v) ∷ k)
  unfolding act room
  update_last op sought right operation size ty line r n v k cp l w c known due h =
      let e = tree.Update op sought right operation size ty line in
      let t = state cp (Write (spots.Bit r n) v 1) (In e (Stores (spots.Bit r n) v) ∷ k) l w in
      let s = known.stands in
      let g = ground_in z cp in
      let b = base g k in
      let sizes = z.program.sizes in
      let bit = bit_place z cp sought r n s.stack.0.1 s.stack.2.0 in
      let below = around_in z cp e (Stores (spots.Bit r n) v) k (around z given input t known) in
      let less = small z given input cp s.reached in
      let f = frame_is z given cp s.reached in
      let fits = known.stack.0 in
      let q = (update_parts (place_room sizes sought) (form_of sought) (place_bytes sizes sought) (room sizes right) (value_bytes sizes right) (type_bytes sizes operation)).2 in
      let pb = pointer_is g.layout g.copy sought in
      let at = pointer_at z cp less b sought (omega arith) in
      let left = value_at z cp less (behind_pointer g.layout g.copy b sought) right (omega arith) in
      let one = ap (type_bytes sizes) bit.1 in
      let wide = width_is z cp (place_type sought).ty (omega arith) in
      led_by z _ _ 28 0 c _ (omega arith) (omega arith) (update_bit z (scene_laws z given) cp l op sought right operation size ty line r n v k w c bit.0.spot below (wide ∙ one) (omega arith) (omega arith) (omega arith) due h)

  step_last : (op : StepOp) (sought : Place) (operation : Ty) (size : ℕ) (ty : Ty) (line r n : ℕ) (u v : Datum) (k : List Pending) → (keeps_old op ≡ false → u ≡ v) → Law z (Write (spots.Bit r n) v 1) (In (tree.Step op sought operation size ty line) (Stores (spots.Bit r n) u) ∷ k)
  unfolding act room
  step_last op sought operation size ty line r n u v k keeps cp l w c known due h =
      let e = tree.Step op sought operation size ty line in
      let t = state cp (Write (spots.Bit r n) v 1) (In e (Stores (spots.Bit r n) u) ∷ k) l w in
      let s = known.stands in
      let g = ground_in z cp in
      let b = base g k in
      let sizes = z.program.sizes in
      let bit = bit_place z cp sought r n s.stack.0.1 s.stack.2.0 in
      let below = around_in z cp e (Stores (spots.Bit r n) u) k (around z given input t known) in
      let less = small z given input cp s.reached in
      let f = frame_is z given cp s.reached in
      let fits = known.stack.0 in
      let rule = step_rule z.program op sought operation size ty line s.stack.0.0 in
      let q = (update_parts (place_room sizes sought) (form_of sought) (place_bytes sizes sought) 2 2 (type_bytes sizes operation)).2 in
      let pb = pointer_is g.layout g.copy sought in
      let at = pointer_at z cp less b sought (omega arith) in
      let o1 = (step_operation z cp less operation ty rule.1).1 in
      let wo = width_is z cp operation (omega arith) in
      let new = beyond_is (behind_pointer g.layout g.copy b sought) (width g.layout operation) (omega arith) in
      let old = beyond_is (stored g b e) (width g.layout operation) (omega arith) in
      let one = ap (type_bytes sizes) bit.1 in
      let wide = width_is z cp (place_type sought).ty (omega arith) in
      led_by z _ _ 28 0 c _ (omega arith) (omega arith)
      (step_bit z (scene_laws z given) cp l op sought operation size ty line r n v u k w c bit.0.spot below (wide ∙ one) (omega arith) (omega arith) (omega arith) (omega arith) (char_few z ty u (sym rule.0 ∙ bit.1) s.stack.2.1) keeps due h)

  last_in : (e : Expression) (r n : ℕ) (u v : Datum) (k : List Pending) → KeepsValue e u v → Law z (Write (spots.Bit r n) v 1) (In e (Stores (spots.Bit r n) u) ∷ k)
  last_in (tree.Assign sought right ty line) r n u v k keeps = subst (λ y. Law z (Write (spots.Bit r n) v 1) (In (tree.Assign sought right ty line) (Stores (spots.Bit r n) y) ∷ k)) (sym keeps) (assign_last sought right ty line r n v k)
  last_in (tree.Update op sought right operation size ty line) r n u v k keeps =
      subst (λ y. Law z (Write (spots.Bit r n) v 1) (In (tree.Update op sought right operation size ty line) (Stores (spots.Bit r n) y) ∷ k)) (sym keeps) (update_last op sought right operation size ty line r n v k)
  last_in (tree.Step op sought operation size ty line) r n u v k keeps = step_last op sought operation size ty line r n u v k keeps
  last_in _ r n u v k keeps = λ cp l w c known due h. absurd known.stands.stack.2.0

  -- ---- both
  one_char : (sought : Place) (ty : Ty) (q : Quantity) → (place_type sought).ty ≡ ty → (place_type sought).ty ≡ types.Int int.UChar → ty ≡ types.Int q.ty → q.ty ≡ int.UChar
  one_char sought ty q a b e = same_int_type q.ty int.UChar (sym e ∙ sym a ∙ b)

  char_type : (e : Expression) (r n : ℕ) (u : Datum) (q : Quantity) (at : ℕ) (k : List Pending) (cp : CopyOf) (l : source.Memory) (w : World value.Byte) → Known z (state cp (Write (spots.Bit r n) (datum.Number q) at) (In e (Stores (spots.Bit r n) u) ∷ k) l w) → (q.ty ≡ int.UChar) × IsInRange q.ty q.number
  char_type (tree.Assign sought right ty line) r n u q at k cp l w known =
      let s = known.stands in
      let t = subst (λ y. HasType z.program y (datum.Number q)) s.focus.node.1 s.focus.typed in
      (one_char sought ty q (assign_rule z.program sought right ty line s.stack.0.0).0 (bit_place z cp sought r n s.stack.0.1 s.stack.2.0).1 t.0, t.1)
  char_type (tree.Update op sought right operation size ty line) r n u q at k cp l w known =
      let s = known.stands in
      let t = subst (λ y. HasType z.program y (datum.Number q)) s.focus.node.1 s.focus.typed in
      (one_char sought ty q (update_rule z.program op sought right operation size ty line s.stack.0.0).0 (bit_place z cp sought r n s.stack.0.1 s.stack.2.0).1 t.0, t.1)
  char_type (tree.Step op sought operation size ty line) r n u q at k cp l w known =
      let s = known.stands in
      let t = subst (λ y. HasType z.program y (datum.Number q)) s.focus.node.1 s.focus.typed in
      (one_char sought ty q (step_rule z.program op sought operation size ty line s.stack.0.0).0 (bit_place z cp sought r n s.stack.0.1 s.stack.2.0).1 t.0, t.1)
  char_type _ r n u q at k cp l w known = absurd known.stands.stack.2.0

  write_at_bit : (e : Expression) (r n : ℕ) (u : Datum) (x : ℤ) (at : ℕ) (k : List Pending) → IsInRange int.UChar x → at ≤ 1 → KeepsValue e u (char x) → Law z (Write (spots.Bit r n) (char x) at) (In e (Stores (spots.Bit r n) u) ∷ k)
  write_at_bit e r n u x zero k range le keeps = first_in e r n u x k range
  write_at_bit e r n u x (suc zero) k range le keeps = last_in e r n u (char x) k keeps
  write_at_bit e r n u x (suc (suc at)) k range le keeps = absurd (omega arith)

  -- A node writes a bit with the value that it keeps, or a step with its new value: the register is read, and behind its write the node ends.
  pub bit_writes : (e : Expression) (r n : ℕ) (u : Datum) (q : Quantity) (spot : Spot) (at : ℕ) (k : List Pending) → KeepsValue e u (datum.Number q) → Law z (Write spot (datum.Number q) at) (In e (Stores (spots.Bit r n) u) ∷ k)
  bit_writes e r n u q spot at k keeps cp l w c known due h =
      let f = known.stands.focus in
      let part = f.part in
      let few = ap (λ y. written_bytes y (datum.Number q)) f.node.0 in
      let is : spot ≡ spots.Bit r n = f.there ∙ ap (stepped at) f.node.0 in
      let here = subst (λ y. Known z (state cp (Write y (datum.Number q) at) (In e (Stores (spots.Bit r n) u) ∷ k) l w)) is known in
      let t = char_type e r n u q at k cp l w here in
      let same : datum.Number q ≡ char q.number = ap (λ y. datum.Number (record { ty = y; number = q.number })) t.0 in
      subst (λ y. Law z (Write y (datum.Number q) at) (In e (Stores (spots.Bit r n) u) ∷ k)) (sym is)
      (subst (λ v. Law z (Write (spots.Bit r n) v at) (In e (Stores (spots.Bit r n) u) ∷ k)) (sym same)
      (write_at_bit e r n u q.number at k (subst (λ y. IsInRange y q.number) t.0 t.1) (omega arith) (subst (λ v. KeepsValue e u v) same keeps))) cp l w c known due h

-- The law of the write of a register of which a bit is written, put together; and what waits keeps what it has while a bit is written.
use Rattle.std.proofs.Common.{◌≡◌, ℕ, ◌+◌, ◌<◌, ◌≤◌, inr, List, ◌∷◌, sym, ap, ◌∙◌, subst, arith}
use Rattle.std.specs.List.{All}
use Rattle.c_typed.specs.Trees as tree
use Rattle.c_typed.specs.Trees.{Expression, Place}
use Rattle.c_typed.specs.declared.expression.StepOp.{StepOp}
use Rattle.c_typed.specs.declared.types.Ty.{Ty}
use Rattle.core_code.specs.Bytes.{Held, Memory, with_bytes}
use Rattle.core_code.specs.declared.code.Byte.TheVariants.{Frame}
use Rattle.core_puts.specs.Bytes.{beyond}
use Rattle.lower_expr.specs.Layout.{place_width, width}
use Rattle.lower_expr.specs.Spots.{spot_of}
use Rattle.lower_expr.specs.declared.places.Spot as place
use Rattle.lower_expr.specs.declared.places.Spot.TheVariants.{Bit, Computed, Fixed}
use Rattle.src_rules.specs.Standing.{IsSpotOf, stepped}
use Rattle.src_rules.specs.Step.{act}
use Rattle.src_values.specs.Control.{PutBit, Fills, Items, Pending, In, Doing, Stores}
use Rattle.src_values.specs.Data.{Datum}
use Rattle.src_values.specs.declared.objects.CopyOf.{CopyOf}
use Rattle.src_values.specs.declared.objects.Object.{Object}
use Rattle.src_values.specs.declared.objects.Pointer.TheVariants.{Null, Into}
use Rattle.src_values.specs.declared.objects.Spot.{Spot}
use Rattle.src_values.specs.declared.objects.Spot.TheVariants as spots
use Rattle.src_values.specs.Objects.{behind}
use Rattle.lower_trace.specs.Lowering.{IsLowerable}
use Rattle.lower_trace.proofs.BitWrites.{put_bit_goes}
use Rattle.lower_trace.proofs.Changing.{above_written, holds_above}
use Rattle.lower_trace.proofs.CodeLeft.{Scene, base, code_after, ground_in, number, stored, writing}
use Rattle.lower_trace.proofs.Giving.{Around}
use Rattle.lower_trace.proofs.Kept.{own_copy}
use Rattle.lower_trace.proofs.Leads.{Law, led_by}
use Rattle.lower_trace.proofs.LedFetches.{bit_place}
use Rattle.lower_trace.proofs.Mirrors.{HasDatum, Holds, IsAt}
use Rattle.lower_trace.proofs.Written.{bytes_clear}

-- ---- a bit stands at one spot
bit_start : (r n : ℕ) (start : Spot) → spots.Bit r n ≡ stepped 0 start → start ≡ spots.Bit r n
bit_start r n (spots.Device a) e = absurd (cc)
bit_start r n (spots.Bit register bit) e = sym e
bit_start r n (spots.Memory Null) e = absurd (cc)
bit_start r n (spots.Memory (Into object offset)) e = absurd (cc)

no_object : (r n : ℕ) (object : Object) (offset : ℕ) → spots.Bit r n ≡ stepped 0 (behind object offset) → ⊥
no_object r n object offset e = cc

module _ (z : Scene) (given : IsLowerable z.program z.copies) (input : All (λ byte. byte < 256) z.outside.input) where
  bits_in : (e : Expression) (start : Spot) (u : Datum) (register number : ℕ) (v : Datum) (old : ℕ) (k : List Pending) → Law z (PutBit register number v old) (In e (Stores start u) ∷ k)
  unfolding act
  bits_in (tree.Assign sought value ty line) start u register number v old k cp l w c known due h =
      let e = tree.Assign sought value ty line in
      let s = known.stands in
      let f = s.focus.0 in
      let g = ground_in z cp in
      let b = base g k in
      let is = bit_start register number start (f.there ∙ ap (stepped 0) f.node.0) in
      let bit = (bit_place z cp sought register number s.stack.0.1 (subst (λ y. IsSpotOf z.program cp sought y) is s.stack.2.0)).0 in
      led_by z _ _ 3 0 c _ (omega arith) (omega arith)
      (put_bit_goes z cp (In e (Stores start u) ∷ k) l register number bit.known
      (ap (λ y. writing z g.layout.root y (spots.Bit register number) (Frame g.copy b) (Frame g.copy (stored g b e)) (width g.layout ty) 1 (code_after g (In e (Stores start u) ∷ k))) bit.spot) v old w c due h)
  bits_in (tree.Update op sought value operation size ty line) start u register number v old k cp l w c known due h =
      let e = tree.Update op sought value operation size ty line in
      let s = known.stands in
      let f = s.focus.0 in
      let g = ground_in z cp in
      let b = base g k in
      let is = bit_start register number start (f.there ∙ ap (stepped 0) f.node.0) in
      let bit = (bit_place z cp sought register number s.stack.0.1 (subst (λ y. IsSpotOf z.program cp sought y) is s.stack.2.0)).0 in
      led_by z _ _ 3 0 c _ (omega arith) (omega arith)
      (put_bit_goes z cp (In e (Stores start u) ∷ k) l register number bit.known
      (ap (λ y. writing z g.layout.root y (spots.Bit register number) (Frame g.copy b) (Frame g.copy (stored g b e)) (place_width g.layout sought) 1 (code_after g (In e (Stores start u) ∷ k))) bit.spot) v old w c due h)
  bits_in (tree.Step op sought operation size ty line) start u register number v old k cp l w c known due h =
      let e = tree.Step op sought operation size ty line in
      let s = known.stands in
      let f = s.focus.0 in
      let g = ground_in z cp in
      let b = base g k in
      let is = bit_start register number start (f.there ∙ ap (stepped 0) f.node.0) in
      let bit = (bit_place z cp sought register number s.stack.0.1 (subst (λ y. IsSpotOf z.program cp sought y) is s.stack.2.0)).0 in
      led_by z _ _ 3 0 c _ (omega arith) (omega arith)
      (put_bit_goes z cp (In e (Stores start u) ∷ k) l register number bit.known
      (ap (λ y. writing z g.layout.root y (spots.Bit register number) (Frame g.copy b) (Frame g.copy (stored g b e)) (place_width g.layout sought) 1 (code_after g (In e (Stores start u) ∷ k))) bit.spot) v old w c due h)
  bits_in _ start u register number v old k cp l w c known due h = absurd known.stands.stack.2.0

  -- The register is written with the bit in it.
  pub bits : (register number : ℕ) (v : Datum) (old : ℕ) (k : List Pending) → Law z (PutBit register number v old) k
  bits register number v old (In e (Stores start u) ∷ k) cp l w c known due h = bits_in e start u register number v old k cp l w c known due h
  bits register number v old (Doing (tree.InitScalar local e line) Fills ∷ k) cp l w c known due h = let f = known.stands.focus.0 in absurd (no_object register number _ 0 (f.there ∙ ap (stepped 0) f.node.0))
  bits register number v old (Doing (tree.InitList local all line) (Items (tree.Scalar offset e) rest) ∷ k) cp l w c known due h = let f = known.stands.focus.0 in absurd (no_object register number _ offset (f.there ∙ ap (stepped 0) f.node.0))
  bits register number v old _ cp l w c known due h = absurd known.stands.focus.0.node

-- ---- what waits while a bit is written
bit_at : (z : Scene) (n b r bit_is : ℕ) (s : place.Spot) (at : Spot) (m m' : Memory) → s ≡ Bit r bit_is → IsAt z n b s at m → IsAt z n b s at m'
bit_at z n b r bit_is (Bit register bit) at m m' e h = h
bit_at z n b r bit_is (Fixed byte) at m m' e h = absurd (cc)
bit_at z n b r bit_is Computed at m m' e h = absurd (cc)

module _ (z : Scene) (cp : CopyOf) (k : List Pending) (m : Memory) (held_bytes : ℕ → Held) (around : Around z cp k) (register bit_is : ℕ) (sought : Place) (spot : spot_of (ground_in z cp).layout (ground_in z cp).copy sought ≡ Bit register bit_is) where
  -- an assignment keeps what it has where the byte of its value changes
  pub assign_waits : (value : Expression) (ty : Ty) (line : ℕ) (at : Spot) (u : Datum) (from : ℕ) → base (ground_in z cp) k ≤ from → Holds z (ground_in z cp) (In (tree.Assign sought value ty line) (Stores at u) ∷ k) m → Holds z (ground_in z cp) (In (tree.Assign sought value ty line) (Stores at u) ∷ k) (with_bytes m (Frame (number z cp) from) 1 held_bytes)
  assign_waits value ty line at u from high h =
      let m' = with_bytes m (Frame (number z cp) from) 1 held_bytes in
      (bit_at z (ground_in z cp).copy (base (ground_in z cp) k) register bit_is (spot_of (ground_in z cp).layout (ground_in z cp).copy sought) at m m' spot h.0, holds_above z cp k m m' from around high (above_written (number z cp) from from 1 m held_bytes (omega arith)) h.1)

  pub update_waits : (op : _) (value : Expression) (operation : Ty) (size : ℕ) (ty : Ty) (line : ℕ) (at : Spot) (u : Datum) (from : ℕ) → base (ground_in z cp) k ≤ from → Holds z (ground_in z cp) (In (tree.Update op sought value operation size ty line) (Stores at u) ∷ k) m → Holds z (ground_in z cp) (In (tree.Update op sought value operation size ty line) (Stores at u) ∷ k) (with_bytes m (Frame (number z cp) from) 1 held_bytes)
  update_waits op value operation size ty line at u from high h =
      let m' = with_bytes m (Frame (number z cp) from) 1 held_bytes in
      (bit_at z (ground_in z cp).copy (base (ground_in z cp) k) register bit_is (spot_of (ground_in z cp).layout (ground_in z cp).copy sought) at m m' spot h.0, holds_above z cp k m m' from around high (above_written (number z cp) from from 1 m held_bytes (omega arith)) h.1)

  -- the old value of a step stands behind the new one
  old_waits : (old from : ℕ) (u : Datum) → from + 1 ≤ old → HasDatum z (ground_in z cp).copy old u m → HasDatum z (ground_in z cp).copy old u (with_bytes m (Frame (number z cp) from) 1 held_bytes)
  old_waits old from u le h i lt =
      ap (λ n. with_bytes m (Frame (number z cp) from) 1 held_bytes (Frame n (old + i))) (own_copy z cp)
      ∙ bytes_clear m (number z cp) from 1 held_bytes (Frame (number z cp) (old + i)) (inr (inr (omega arith)))
      ∙ ap (λ n. m (Frame n (old + i))) (sym (own_copy z cp)) ∙ h i lt

  pub step_waits : (op : StepOp) (operation : Ty) (size : ℕ) (ty : Ty) (line : ℕ) (at : Spot) (u : Datum) (from : ℕ) → base (ground_in z cp) k ≤ from
      → from + 1 ≤ beyond (stored (ground_in z cp) (base (ground_in z cp) k) (tree.Step op sought operation size ty line)) (width (ground_in z cp).layout operation)
      → Holds z (ground_in z cp) (In (tree.Step op sought operation size ty line) (Stores at u) ∷ k) m → Holds z (ground_in z cp) (In (tree.Step op sought operation size ty line) (Stores at u) ∷ k) (with_bytes m (Frame (number z cp) from) 1 held_bytes)
  step_waits op operation size ty line at u from high behind_it h =
      let g = ground_in z cp in
      let b = base g k in
      let e = tree.Step op sought operation size ty line in
      let m' = with_bytes m (Frame (number z cp) from) 1 held_bytes in (
        (bit_at z g.copy b register bit_is (spot_of g.layout g.copy sought) at m m' spot h.0.0, λ want. old_waits (beyond (stored g b e) (width g.layout operation)) from u behind_it (h.0.1 want)),
        holds_above z cp k m m' from around high (above_written (number z cp) from from 1 m held_bytes (omega arith)) h.1,
      )

-- How far into its object an access is: the number of the byte behind it fits.
use Rattle.std.proofs.Common.{ℕ, ◌+◌, ◌<◌, ◌≤◌, List, ◌∷◌, length, sym, ◌∙◌, subst, arith}
use Rattle.c_typed.specs.Trees as tree
use Rattle.c_typed.specs.Trees.{Expression, Place, Program}
use Rattle.c_typed.specs.declared.types.Ty.{Ty}
use Rattle.src_rules.proofs.Accessing.{fetches_at}
use Rattle.src_rules.proofs.Giving.{int_few}
use Rattle.src_rules.proofs.Places.{spot_placed}
use Rattle.src_rules.proofs.Sizes.{any_small}
use Rattle.src_rules.proofs.Storing.{bit_start, writes_bit}
use Rattle.src_rules.proofs.Writing.{local_size, local_placed, scalar_there, list_there, item_within}
use Rattle.src_rules.specs.Laws.{IsProper}
use Rattle.src_rules.specs.Parts.{IsExpressionOf, local_bytes}
use Rattle.src_rules.specs.Standing.{IsReached, IsPlaced, stepped, IsWritten, Writes, Spells, BlanksOf, FetchStands, WriteStands, SpellStands, StackStands}
use Rattle.src_values.specs.Control.{Stores, Fills, Items, Blanks, Pending, In, Doing}
use Rattle.src_values.specs.Data.{Datum, Number, Pointer, Missing}
use Rattle.src_values.specs.Objects.{local_of}
use Rattle.src_values.specs.Seen.{has_next}
use Rattle.src_values.specs.Values.{byte_count, written_bytes}
use Rattle.src_values.specs.declared.objects.Byte.{Byte}
use Rattle.src_values.specs.declared.objects.CopyOf.{CopyOf}
use Rattle.src_values.specs.declared.objects.Pointer.TheVariants.{Null, Into}
use Rattle.src_values.specs.declared.objects.Spot.{Spot}
use Rattle.src_values.specs.declared.objects.Spot.TheVariants as spots

-- ---- what a node writes
written_placed : (p : Program) (c : CopyOf) (e : Expression) (start : Spot) → IsReached p c → IsExpressionOf p c.function e → IsWritten p c e start → IsPlaced p start
written_placed p c (tree.Assign place value ty line) start r e s = spot_placed p c place start r e.1 s
written_placed p c (tree.Update op place value operation size ty line) start r e s = spot_placed p c place start r e.1 s
written_placed p c (tree.Step op place operation size ty line) start r e s = spot_placed p c place start r e.1 s
written_placed p c _ start r e s = absurd s

writes_placed : (p : Program) (c : CopyOf) (k : List Pending) (start : Spot) (ty : Ty) → IsReached p c → StackStands p c k → Writes p c k start ty → IsPlaced p start
writes_placed p c (In e (Stores spot v) ∷ k) start ty r st n = rw n.0 (written_placed p c e spot r st.0 st.2.0)
writes_placed p c (Doing (tree.InitScalar local e line) Fills ∷ k) start ty r st n = rw n.0 (local_placed p c local 0 r (scalar_there p c local e st.0.1) (omega arith))
writes_placed p c (Doing (tree.InitList local all line) (Items (tree.Scalar offset e) rest) ∷ k) start ty r st n =
    rw n.0 (local_placed p c local offset r (list_there p c local all st.0.1) (let l = item_within p c.function (local_bytes p c.function local) st.2.0 (tree.Scalar offset e) rest st.2.1 in omega arith))
writes_placed p c _ start ty r st n = absurd n

spells_placed : (p : Program) (c : CopyOf) (k : List Pending) (start : Spot) (whole : List ℕ) (size done : ℕ) → IsReached p c → StackStands p c k → Spells p c k start whole size → done ≤ size → IsPlaced p (stepped done start)
spells_placed p c (Doing (tree.InitList local all line) (Items (tree.Text offset text bytes) rest) ∷ k) start whole size done r st n d =
    rw n.0 (local_placed p c local (offset + done) r (list_there p c local all st.0.1) (let l = item_within p c.function (local_bytes p c.function local) st.2.0 (tree.Text offset text bytes) rest st.2.1 in let e = n.2 in omega arith))
spells_placed p c _ start whole size done r st n d = absurd n

value_few : (v : Datum) → byte_count v ≤ 4
value_few (Number q) = int_few q.ty
value_few (Pointer x) = omega arith
value_few Missing = omega arith

written_few : (spot : Spot) (v : Datum) → written_bytes spot v ≤ 4
written_few (spots.Device address) v = value_few v
written_few (spots.Bit register number) v = omega arith
written_few (spots.Memory x) v = value_few v

-- ---- the number of the byte behind it fits
module _ (p : Program) (proper : IsProper p) where
  pub far_next : (n : ℕ) (spot : Spot) → IsPlaced p spot → n ≤ 65535 → has_next (stepped n spot)
  far_next n (spots.Device address) h l = tt
  far_next n (spots.Bit register number) h l = tt
  far_next n (spots.Memory Null) h l = tt
  far_next n (spots.Memory (Into object offset)) h l = let small = any_small p proper object in let at = h.1 in omega arith

  pub near_next : (spot : Spot) → IsPlaced p spot → has_next spot
  near_next (spots.Device address) h = tt
  near_next (spots.Bit register number) h = tt
  near_next (spots.Memory Null) h = tt
  near_next (spots.Memory (Into object offset)) h = let small = any_small p proper object in let at = h.1 in omega arith

  pub fetch_next : (c : CopyOf) (k : List Pending) (spot : Spot) (read : List Byte) → IsReached p c → StackStands p c k → FetchStands p k spot read → has_next spot
  fetch_next c k spot read r st h =
      let x = fetches_at p c k h.start h.node st in
      let part = h.part in
      let few = h.few in
      rw h.at (far_next (length read) h.start (spot_placed p c x.place h.start r x.part x.at) (omega arith))

  pub write_next : (c : CopyOf) (k : List Pending) (spot : Spot) (v : Datum) (at : ℕ) → IsReached p c → StackStands p c k → WriteStands p c k spot v at → has_next spot
  write_next c k spot v at r st h =
      let part = h.part in
      let few = written_few h.start v in
      rw h.there (far_next at h.start (writes_placed p c k h.start h.type r st h.node) (omega arith))

  pub spell_next : (c : CopyOf) (k : List Pending) (spot : Spot) (text : List ℕ) (left : ℕ) → IsReached p c → StackStands p c k → SpellStands p c k spot text left → has_next spot
  spell_next c k spot text left r st h =
      let all = h.all in
      rw h.written (near_next (stepped h.done h.start) (spells_placed p c k h.start h.whole h.size h.done r st h.node (omega arith)))

  pub blanks_small : (c : CopyOf) (k : List Pending) (size : ℕ) → BlanksOf p c k size → size ≤ 65535
  blanks_small c (Doing (tree.InitList local all line) Blanks ∷ k) size n = rw (n ∙ sym (local_size p c local)) (any_small p proper (local_of p c local))
  blanks_small c _ size n = absurd n

-- a bit of a register
pub bit_small : (p : Program) (c : CopyOf) (k : List Pending) (register number : ℕ) (v : Datum) (at : ℕ) → StackStands p c k → WriteStands p c k (spots.Bit register number) v at → number < 8
bit_small p c k register number v at st h = writes_bit p c k register number h.type st (subst (λ q. Writes p c k q h.type) (bit_start at h.start register number h.there) h.node)

-- Pointers that are moved by numbers of elements.
use Rattle.c_ints.specs.Range.{bytes_of}
use Rattle.c_ints.specs.declared.operators.BinOp.TheVariants as ops
use Rattle.c_ints.specs.declared.operators.BinOp.{BinOp}
use Rattle.c_ints.specs.declared.types.IntTy.TheVariants as int
use Rattle.c_typed.specs.Trees.{Program}
use Rattle.core_code.specs.Bytes as core_bytes
use Rattle.core_code.specs.Bytes.{Held, Memory, misses, same_byte, with_bytes}
use Rattle.core_code.specs.Cost.{binary_cost}
use Rattle.core_code.specs.Machine.{Machine, Task, Do as Todo, Waiting, extent, is_own}
use Rattle.core_code.specs.Operands.{fits_together, is_helped, number_left}
use Rattle.core_code.specs.Tree as code
use Rattle.core_code.specs.Values as core
use Rattle.core_code.specs.Values.{Extent, binary_value, right_type, value_in}
use Rattle.core_code.specs.declared.code.Byte.TheVariants.{Frame}
use Rattle.lower_trace.proofs.Changing.{OnlyAbove, above_written}
use Rattle.lower_trace.proofs.CodeLeft.{Scene, core_in}
use Rattle.lower_trace.proofs.Kept.{SceneLaws}
use Rattle.lower_trace.proofs.Mirrors.{HasDatum}
use Rattle.lower_trace.proofs.Moving.{binary_any_then, moved_so, pointer_value}
use Rattle.lower_trace.proofs.Operating.{itself, value_number}
use Rattle.lower_trace.proofs.Operations.{Comes, own_frame, or_second}
use Rattle.lower_trace.proofs.Placed.{Placed}
use Rattle.lower_trace.proofs.Scaling.{uint, uint_range}
use Rattle.lower_trace.proofs.Written.{both, bytes_clear, bytes_there}
use Rattle.lower_trace.specs.Lowering.{object_as, offset_as}
use Rattle.pic_world.specs.World.{World, arrived, is_due}
use Rattle.src_rules.specs.Standing.{IsThere}
use Rattle.src_values.specs.Data as datum
use Rattle.src_values.specs.Objects.{moved}
use Rattle.src_values.specs.declared.objects.Pointer.TheVariants.{Into, Null}
use Rattle.src_values.specs.declared.objects.Pointer.{Pointer}
use Rattle.std.proofs.Common.{Bool, List, None, Option, Some, [], ap, arith, false, if◌then◌else◌, inr, pos, refl, subst, suc, sym, true, zero, ℕ, ℤ, ◌*◌, ◌+ℤ◌, ◌+◌, ◌<◌, ◌∙◌, ◌∷◌, ◌≡◌, ◌≤◌}
use Rattle.std.proofs.lemmas.Grind.{common_steps}
use Rattle.std.proofs.lemmas.Int.{ints}
use Rattle.std.specs.Ordering.{int_eq}
use Rattle.std.specs.Prelude.{unwrap_or}
use Rattle.std.proofs.Common.{neg_ℤ}

-- whether a pointer is moved back
abbrev pub mover : Bool → BinOp
mover true = ops.Sub
mover false = ops.Add

abbrev pub signed : Bool → ℕ → ℤ
signed true n = neg_ℤ (pos n)
signed false n = pos n

abbrev pub behind_by : ℕ → Pointer → ℕ
behind_by d Null = d
behind_by d (Into o f) = f

abbrev pub PointsThere : Program → Pointer → Type 0
PointsThere p Null = Unit {0}
PointsThere p (Into o f) = IsThere p o

mover_fits : (minus : Bool) (count : Option ℕ) (n b at : ℕ) → misses (Frame n b) 2 (Frame n at) 2 ≡ true → fits_together (mover minus) int.UInt count (Frame n b) (Frame n b) (Frame n at) ≡ true
unfolding fits_together
mover_fits true count n b at e = both _ _ (itself n b 2) (rw e refl)
mover_fits false count n b at e = both _ _ (itself n b 2) (or_second (same_byte (Frame n b) (Frame n at)) _ e)

mover_moves : (minus : Bool) (e : Extent) (x : core_bytes.Place) (num : ℕ) → binary_value e (mover minus) int.UInt (core.Pointer x) (core.Number (uint num)) ≡ core.moved e x.object (pos x.offset +ℤ signed minus num)
unfolding binary_value
mover_moves true e x num = refl
mover_moves false e x num = refl

mover_alone : (minus : Bool) (count : Option ℕ) → is_helped (mover minus) count ≡ false
mover_alone true count = refl
mover_alone false count = refl

mover_right : (minus : Bool) → right_type (mover minus) int.UInt ≡ int.UInt
mover_right true = refl
mover_right false = refl

mover_cost : (minus : Bool) (count : Option ℕ) → binary_cost (mover minus) count 2 ≤ 20
mover_cost true count = omega arith
mover_cost false count = omega arith

mover_null : (minus : Bool) (e : Extent) → binary_value e (mover minus) int.UInt (core.Number (uint 0)) (core.Number (uint 0)) ≡ Some (core.Number (uint 0))
unfolding binary_value
mover_null true e = refl
mover_null false e = refl

-- the number that a pointer's code moves by is the one that the source moves by, modulo 65,536
pub record SameMove (minus : Bool) (num : ℕ) (by : ℤ) : Type 0 where
  pub j : ℕ
  pub i : ℕ
  pub same : signed minus num +ℤ pos (j * 65536) ≡ by +ℤ pos (i * 65536)

pub null_moved : (z : Scene) (by : ℤ) (y : Pointer) → moved z.program Null by ≡ Some y → (y ≡ Null) × (by ≡ pos 0)
unfolding moved
null_moved z by y e = null_case (int_eq by (pos 0)) refl e
  where
    zero_is : (by : ℤ) → int_eq by (pos 0) ≡ true → by ≡ pos 0
    zero_is by e = grind (arith, ints, common_steps)

    null_case : (b : Bool) → int_eq by (pos 0) ≡ b → (if b then Some Null else None) ≡ Some y → (y ≡ Null) × (by ≡ pos 0)
    null_case true is e = (ap (λ x. unwrap_or x Null) (sym e), zero_is by is)
    null_case false is e = absurd (cc)

pub no_move : (minus : Bool) (num : ℕ) (by : ℤ) → num < 65536 → SameMove minus num by → by ≡ pos 0 → num ≡ 0
no_move true num by lt s e = alike num s.j s.i (s.same ∙ ap (λ x. x +ℤ pos (s.i * 65536)) e) lt
  where
    alike : (num j i : ℕ) → neg_ℤ (pos num) +ℤ pos (j * 65536) ≡ pos 0 +ℤ pos (i * 65536) → num < 65536 → num ≡ 0
    alike num j i e lt = omega (arith, ints)
no_move false num by lt s e = alike num s.j s.i (s.same ∙ ap (λ x. x +ℤ pos (s.i * 65536)) e) lt
  where
    alike : (num j i : ℕ) → pos num +ℤ pos (j * 65536) ≡ pos 0 +ℤ pos (i * 65536) → num < 65536 → num ≡ 0
    alike num j i e lt = omega (arith, ints)

pub null_byte : (j : ℕ) → j < 2 → core.byte_of (core.Number (uint 0)) j ≡ core_bytes.Number 0
null_byte zero lt = refl
null_byte (suc zero) lt = refl
null_byte (suc (suc j)) lt = absurd (omega arith)

module _ (z : Scene) (laws : SceneLaws z) where
  -- a pointer moves where it stands, by a number that stands elsewhere
  pub pointer_sum_then : (minus : Bool) (x y : Pointer) (by : ℤ) (num n b at : ℕ) (T : Machine → Type 0) (s : List Waiting) (w : World Held) (due : is_due w ≡ false) (now : arrived (core_in z).outside w ≡ w) (r : List Task) (m : Memory) (c : Machine) (q l : ℕ) → PointsThere z.program x → moved z.program x by ≡ Some y → num < 65536 → SameMove minus num by
      → misses (Frame n b) 2 (Frame n at) 2 ≡ true → b + 2 ≤ (core_in z).program.frame_bytes n → at + 2 ≤ (core_in z).program.frame_bytes n → HasDatum z n b (datum.Pointer x) m → HasDatum z n at (datum.Number (uint num)) m
      → Placed (core_in z) n None (Todo [] (code.Binary (mover minus) int.UInt (Frame n b) (Frame n b) (Frame n at)) ∷ r) s m w c
      → ((d : Machine) (m' : Memory) → ((t : ℕ) → b + 2 ≤ t → m' (Frame n t) ≡ m (Frame n t)) → OnlyAbove n b m m' → HasDatum z n b (datum.Pointer y) m' → Placed (core_in z) n None r s m' w d → Comes (core_in z) T q l d) → Comes (core_in z) T (20 + q) l c
  unfolding extent
  pointer_sum_then minus Null y by num n b at T s w due now r m c q l there is lt same apart room from hx hy p next =
      let null = null_moved z by y is in
      let none = no_move minus num by lt same null.1 in
      let zero_there : HasDatum z n at (datum.Number (uint 0)) m = subst (λ t. HasDatum z n at (datum.Number (uint t)) m) none hy in
      let null_there : HasDatum z n b (datum.Number (uint 0)) m = λ j few. hx j few ∙ sym (null_byte j few) in
      let m' = with_bytes m (Frame n b) 2 (core.byte_of (core.Number (uint 0))) in
      binary_any_then (core_in z) T n s w due now (mover minus) int.UInt (Frame n b) (Frame n b) (Frame n at) (core.Number (uint 0)) (core.Number (uint 0)) (core.Number (uint 0)) r m c q l 20
      (λ before. mover_fits minus (number_left before (Frame n at)) n b at apart) (mover_alone minus) (own_frame (core_in z).program n b 2 room) (ap (λ t. is_own (core_in z).program n (Frame n at) (bytes_of t)) (mover_right minus) ∙ own_frame (core_in z).program n at 2 from)
      (value_number z n b (uint 0) m (uint_range 0 (omega arith)) null_there) (ap (λ t. value_in t m (Frame n at)) (mover_right minus) ∙ value_number z n at (uint 0) m (uint_range 0 (omega arith)) zero_there)
      (λ s' e. mover_null minus (extent (core_in z).program n s')) (own_frame (core_in z).program n b 2 room) (mover_cost minus) p
      (λ d pd. next d m' (λ t le. bytes_clear m n b 2 (core.byte_of (core.Number (uint 0))) (Frame n t) (inr (inr (omega arith)))) (above_written n b b 2 m (core.byte_of (core.Number (uint 0))) (omega arith))
      (subst (λ t. HasDatum z n b (datum.Pointer t) m') (sym null.0) (λ j few. bytes_there m n b 2 (core.byte_of (core.Number (uint 0))) j few ∙ null_byte j few)) pd)
  pointer_sum_then minus (Into o f) y by num n b at T s w due now r m c q l there is lt same apart room from hx hy p next =
      let mv = λ (s' : List Waiting). moved_so z laws (extent (core_in z).program n s') o f by (signed minus num) same.j same.i y (λ t. refl) there same.same is in
      let t = behind_by 0 y in
      let offset_is : (s' : List Waiting) → (mv s').offset ≡ t = λ s'. ap (behind_by 0) (sym (mv s').is) in
      let y_is : y ≡ Into o t = (mv []).is ∙ ap (Into o) (offset_is []) in
      let result = core.Pointer (record { object = object_as z.copies o; offset = offset_as z.program o + t }) in
      let from_is : core_bytes.Place = record { object = object_as z.copies o; offset = offset_as z.program o + f } in
      let gives : (s' : List Waiting) → binary_value (extent (core_in z).program n s') (mover minus) int.UInt (core.Pointer from_is) (core.Number (uint num)) ≡ Some result =
      λ s'. mover_moves minus (extent (core_in z).program n s') from_is num ∙ (mv s').core_is ∙ ap (λ t. Some (core.Pointer (record { object = object_as z.copies o; offset = offset_as z.program o + t }))) (offset_is s') in
      let m' = with_bytes m (Frame n b) 2 (core.byte_of result) in
      binary_any_then (core_in z) T n s w due now (mover minus) int.UInt (Frame n b) (Frame n b) (Frame n at) (core.Pointer from_is) (core.Number (uint num)) result r m c q l 20
      (λ before. mover_fits minus (number_left before (Frame n at)) n b at apart) (mover_alone minus) (own_frame (core_in z).program n b 2 room) (ap (λ t. is_own (core_in z).program n (Frame n at) (bytes_of t)) (mover_right minus) ∙ own_frame (core_in z).program n at 2 from)
      (pointer_value z n b o f m hx) (ap (λ t. value_in t m (Frame n at)) (mover_right minus) ∙ value_number z n at (uint num) m (uint_range num lt) hy)
      (λ s' e. gives s') (own_frame (core_in z).program n b 2 room) (mover_cost minus) p
      (λ d pd. next d m' (λ t le. bytes_clear m n b 2 (core.byte_of result) (Frame n t) (inr (inr (omega arith)))) (above_written n b b 2 m (core.byte_of result) (omega arith))
      (subst (λ t. HasDatum z n b (datum.Pointer t) m') (sym y_is) (λ j few. bytes_there m n b 2 (core.byte_of result) j few)) pd)

-- A number of elements and a pointer, which stands behind it: the sum goes to the number's place.
use Rattle.c_ints.specs.Quantity.{Quantity}
use Rattle.c_ints.specs.Range.{IsInRange, bytes_of, pattern}
use Rattle.c_ints.specs.declared.operators.BinOp.TheVariants as ops
use Rattle.c_ints.specs.declared.types.IntTy.TheVariants as int
use Rattle.c_typed.specs.Trees as tree
use Rattle.c_typed.specs.Trees.{Expression}
use Rattle.c_typed.specs.Types.{type_of}
use Rattle.c_typed.specs.declared.types.Ty.{Ty}
use Rattle.core_code.specs.Bytes as core_bytes
use Rattle.core_code.specs.Bytes.{Held, Memory, is_same_or_misses, misses, with_bytes}
use Rattle.core_code.specs.Machine.{Machine, Task, Do as Todo, Waiting, extent}
use Rattle.core_code.specs.Operands.{fits_together}
use Rattle.core_code.specs.Tree as code
use Rattle.core_code.specs.Values as core
use Rattle.core_code.specs.Values.{Extent, binary_value, value_in}
use Rattle.core_code.specs.declared.code.Byte.TheVariants.{Frame}
use Rattle.core_puts.specs.Bytes as lower
use Rattle.core_puts.specs.Bytes.{beyond}
use Rattle.c_typed.specs.Sameness.{is_pointer}
use Rattle.core_puts.specs.Puts.{operator}
use Rattle.lower_expr.specs.Rows.{offset_row, scaled}
use Rattle.lower_trace.proofs.Beginnings.{Follow}
use Rattle.lower_trace.proofs.Changing.{OnlyAbove, above_then, above_written, agrees_above, datum_above, holds_above, lower_above}
use Rattle.lower_trace.proofs.CodeLeft.{Scene, base, code_after, core_in, ground_in, held, number, source_in, stack_after, todo, wanted}
use Rattle.lower_trace.proofs.Constants.{again_below, due_below}
use Rattle.lower_trace.proofs.Flow.{arrive}
use Rattle.lower_trace.proofs.Giving.{Around, placed_of, value_high}
use Rattle.lower_trace.proofs.Kept.{SceneLaws, own_copy}
use Rattle.lower_trace.proofs.Members.{if_datum}
use Rattle.lower_trace.proofs.Mirrors.{HasDatum, Mirrors}
use Rattle.lower_trace.proofs.Moving.{binary_any_then, moved_so, pointer_value}
use Rattle.lower_trace.proofs.Offsets.{bits_there, distance_is, few_pattern, moved_by, one_size, same_distance}
use Rattle.lower_trace.proofs.Operating.{itself, value_number}
use Rattle.lower_trace.proofs.Operations.{Comes, beyond_is, comes_within, le_true, own_frame, or_second}
use Rattle.lower_trace.proofs.Placed.{Placed, todo_join}
use Rattle.lower_trace.proofs.PointerSums.{PointsThere, SameMove, behind_by, no_move, null_byte, null_moved}
use Rattle.lower_trace.proofs.Scaling.{scaled_then, uint, uint_range}
use Rattle.lower_trace.proofs.Written.{both, bytes_there}
use Rattle.lower_trace.specs.Lowering.{object_as, offset_as}
use Rattle.pic_world.specs.World.{World, arrived, is_due, world_as}
use Rattle.src_rules.specs.Giving.{answered, take_in}
use Rattle.src_rules.specs.State.{state}
use Rattle.src_values.specs.Control.{In, One, Pending, Holds as Value, active}
use Rattle.src_values.specs.Data as datum
use Rattle.src_values.specs.Memory as source
use Rattle.src_values.specs.Objects.{moved}
use Rattle.src_values.specs.Values.{distance, offset_answer, pointer_or_outside}
use Rattle.src_values.specs.declared.objects.Byte as value
use Rattle.src_values.specs.declared.objects.CopyOf.{CopyOf}
use Rattle.src_values.specs.declared.objects.Pointer.TheVariants.{Into, Null}
use Rattle.src_values.specs.declared.objects.Pointer.{Pointer}
use Rattle.std.proofs.Common.{Bool, List, None, Option, Some, [], ap, arith, false, if◌then◌else◌, nat_eq, not, pos, refl, subst, sym, true, ℕ, ℤ, ◌%◌, ◌*◌, ◌++◌, ◌+ℤ◌, ◌+◌, ◌<◌, ◌∙◌, ◌∷◌, ◌≡◌, ◌≤◌}

-- the two operands of a sum, the pointer being the left one or the right one
pub data Order : Type 0 where
  PointerFirst : Order
  PointerLast : Order

abbrev first_at : Order → ℕ → ℕ → ℕ
first_at PointerFirst pointer index = pointer
first_at PointerLast pointer index = index

abbrev last_at : Order → ℕ → ℕ → ℕ
last_at PointerFirst pointer index = index
last_at PointerLast pointer index = pointer

abbrev ordered : {A : Type 0} → Order → A → A → A
ordered PointerFirst x y = x
ordered PointerLast x y = y

moves_so : (e : Extent) (order : Order) (x : core_bytes.Place) (num : ℕ) → binary_value e ops.Add int.UInt (ordered order (core.Pointer x) (core.Number (uint num))) (ordered order (core.Number (uint num)) (core.Pointer x)) ≡ core.moved e x.object (pos x.offset +ℤ pos num)
unfolding binary_value
moves_so e PointerFirst x num = refl
moves_so e PointerLast x num = refl

adds_none : (e : Extent) → binary_value e ops.Add int.UInt (core.Number (uint 0)) (core.Number (uint 0)) ≡ Some (core.Number (uint 0))
unfolding binary_value
adds_none e = refl

sum_fits_at : (count : Option ℕ) (n to x y : ℕ) → is_same_or_misses 2 (Frame n to) (Frame n x) ≡ true → is_same_or_misses 2 (Frame n to) (Frame n y) ≡ true → fits_together ops.Add int.UInt count (Frame n to) (Frame n x) (Frame n y) ≡ true
unfolding fits_together
sum_fits_at count n to x y e f = both _ _ e f

apart_high : (n b y : ℕ) → b + 2 ≤ y → is_same_or_misses 2 (Frame n b) (Frame n y) ≡ true
apart_high n b y le = let e = le_true (b + 2) y le in or_second _ _ (or_second (not (nat_eq n n)) _ (rw e refl))

there_at : {A : Type 0} (P : A → ℕ → Type 0) (order : Order) (x y : A) (px py : ℕ) → P x px → P y py → P (ordered order x y) (first_at order px py)
there_at P PointerFirst x y px py h i = h
there_at P PointerLast x y px py h i = i

then_at : {A : Type 0} (P : A → ℕ → Type 0) (order : Order) (x y : A) (px py : ℕ) → P x px → P y py → P (ordered order y x) (last_at order px py)
then_at P PointerFirst x y px py h i = i
then_at P PointerLast x y px py h i = h

module _ (z : Scene) (laws : SceneLaws z) where
  -- a pointer that stands at px is moved by the number at py, and goes to b
  pub sum_into_then : (order : Order) (x y : Pointer) (by : ℤ) (num n b px py : ℕ) (T : Machine → Type 0) (s : List Waiting) (w : World Held) (due : is_due w ≡ false) (now : arrived (core_in z).outside w ≡ w) (r : List Task) (m : Memory) (c : Machine) (q l : ℕ) → PointsThere z.program x → moved z.program x by ≡ Some y → num < 65536 → SameMove false num by
      → is_same_or_misses 2 (Frame n b) (Frame n px) ≡ true → is_same_or_misses 2 (Frame n b) (Frame n py) ≡ true → b + 2 ≤ (core_in z).program.frame_bytes n → px + 2 ≤ (core_in z).program.frame_bytes n → py + 2 ≤ (core_in z).program.frame_bytes n → HasDatum z n px (datum.Pointer x) m → HasDatum z n py (datum.Number (uint num)) m
      → Placed (core_in z) n None (Todo [] (code.Binary ops.Add int.UInt (Frame n b) (Frame n (first_at order px py)) (Frame n (last_at order px py))) ∷ r) s m w c
      → ((d : Machine) (m' : Memory) → OnlyAbove n b m m' → HasDatum z n b (datum.Pointer y) m' → Placed (core_in z) n None r s m' w d → Comes (core_in z) T q l d) → Comes (core_in z) T (20 + q) l c
  unfolding extent
  sum_into_then order Null y by num n b px py T s w due now r m c q l there is lt same fx fy room rx ry hx hy p next =
      let null = null_moved z by y is in
      let none = no_move false num by lt same null.1 in
      let first = first_at order px py in
      let last = last_at order px py in
      let zero_number : HasDatum z n py (datum.Number (uint 0)) m = subst (λ t. HasDatum z n py (datum.Number (uint t)) m) none hy in
      let zero_pointer : HasDatum z n px (datum.Number (uint 0)) m = λ j few. hx j few ∙ sym (null_byte j few) in
      let v1 : value_in int.UInt m (Frame n px) ≡ Some (core.Number (uint 0)) = value_number z n px (uint 0) m (uint_range 0 (omega arith)) zero_pointer in
      let v2 : value_in int.UInt m (Frame n py) ≡ Some (core.Number (uint 0)) = value_number z n py (uint 0) m (uint_range 0 (omega arith)) zero_number in
      let zero = core.Number (uint 0) in
      let m' = with_bytes m (Frame n b) 2 (core.byte_of zero) in
      binary_any_then (core_in z) T n s w due now ops.Add int.UInt (Frame n b) (Frame n first) (Frame n last) zero zero zero r m c q l 20
      (λ before. sum_fits_at _ n b first last (there_at {A = ℕ} (λ u t. is_same_or_misses 2 (Frame n b) (Frame n t) ≡ true) order 0 0 px py fx fy) (then_at {A = ℕ} (λ u t. is_same_or_misses 2 (Frame n b) (Frame n t) ≡ true) order 0 0 px py fx fy)) (λ count. refl)
      (own_frame (core_in z).program n first 2 (there_at {A = ℕ} (λ u t. t + 2 ≤ (core_in z).program.frame_bytes n) order 0 0 px py rx ry)) (own_frame (core_in z).program n last 2 (then_at {A = ℕ} (λ u t. t + 2 ≤ (core_in z).program.frame_bytes n) order 0 0 px py rx ry))
      (there_at {A = ℕ} (λ u t. value_in int.UInt m (Frame n t) ≡ Some zero) order 0 0 px py v1 v2) (then_at {A = ℕ} (λ u t. value_in int.UInt m (Frame n t) ≡ Some zero) order 0 0 px py v1 v2)
      (λ s' e. adds_none (extent (core_in z).program n s')) (own_frame (core_in z).program n b 2 room) (λ count. omega arith) p
      (λ d pd. next d m' (above_written n b b 2 m (core.byte_of zero) (omega arith))
      (subst (λ t. HasDatum z n b (datum.Pointer t) m') (sym null.0) (λ j few. bytes_there m n b 2 (core.byte_of zero) j few ∙ null_byte j few)) pd)
  sum_into_then order (Into o f) y by num n b px py T s w due now r m c q l there is lt same fx fy room rx ry hx hy p next =
      let mv = λ (s' : List Waiting). moved_so z laws (extent (core_in z).program n s') o f by (pos num) same.j same.i y (λ t. refl) there same.same is in
      let t = behind_by 0 y in
      let first = first_at order px py in
      let last = last_at order px py in
      let offset_is : (s' : List Waiting) → (mv s').offset ≡ t = λ s'. ap (behind_by 0) (sym (mv s').is) in
      let y_is : y ≡ Into o t = (mv []).is ∙ ap (Into o) (offset_is []) in
      let result = core.Pointer (record { object = object_as z.copies o; offset = offset_as z.program o + t }) in
      let from_is : core_bytes.Place = record { object = object_as z.copies o; offset = offset_as z.program o + f } in
      let gives : (s' : List Waiting) → binary_value (extent (core_in z).program n s') ops.Add int.UInt (ordered order (core.Pointer from_is) (core.Number (uint num))) (ordered order (core.Number (uint num)) (core.Pointer from_is)) ≡ Some result =
      λ s'. moves_so (extent (core_in z).program n s') order from_is num ∙ (mv s').core_is ∙ ap (λ i. Some (core.Pointer (record { object = object_as z.copies o; offset = offset_as z.program o + i }))) (offset_is s') in
      let v1 : value_in int.UInt m (Frame n px) ≡ Some (core.Pointer from_is) = pointer_value z n px o f m hx in
      let v2 : value_in int.UInt m (Frame n py) ≡ Some (core.Number (uint num)) = value_number z n py (uint num) m (uint_range num lt) hy in
      let m' = with_bytes m (Frame n b) 2 (core.byte_of result) in
      binary_any_then (core_in z) T n s w due now ops.Add int.UInt (Frame n b) (Frame n first) (Frame n last) (ordered order (core.Pointer from_is) (core.Number (uint num))) (ordered order (core.Number (uint num)) (core.Pointer from_is)) result r m c q l 20
      (λ before. sum_fits_at _ n b first last (there_at {A = ℕ} (λ u i. is_same_or_misses 2 (Frame n b) (Frame n i) ≡ true) order 0 0 px py fx fy) (then_at {A = ℕ} (λ u i. is_same_or_misses 2 (Frame n b) (Frame n i) ≡ true) order 0 0 px py fx fy)) (λ count. refl)
      (own_frame (core_in z).program n first 2 (there_at {A = ℕ} (λ u i. i + 2 ≤ (core_in z).program.frame_bytes n) order 0 0 px py rx ry)) (own_frame (core_in z).program n last 2 (then_at {A = ℕ} (λ u i. i + 2 ≤ (core_in z).program.frame_bytes n) order 0 0 px py rx ry))
      (there_at (λ u i. value_in int.UInt m (Frame n i) ≡ Some u) order (core.Pointer from_is) (core.Number (uint num)) px py v1 v2) (then_at (λ u i. value_in int.UInt m (Frame n i) ≡ Some u) order (core.Pointer from_is) (core.Number (uint num)) px py v1 v2)
      (λ s' e. gives s') (own_frame (core_in z).program n b 2 room) (λ count. omega arith) p
      (λ d pd. next d m' (above_written n b b 2 m (core.byte_of result) (omega arith))
      (subst (λ i. HasDatum z n b (datum.Pointer i) m') (sym y_is) (λ j few. bytes_there m n b 2 (core.byte_of result) j few)) pd)

  turned_then : (one : Bool) (size : ℕ) (x y : Pointer) (q : Quantity) (n b : ℕ) (T : Machine → Type 0) (s : List Waiting) (w : World Held) (due : is_due w ≡ false) (now : arrived (core_in z).outside w ≡ w) (r : List Task) (m : Memory) (c : Machine) → nat_eq size 1 ≡ one → bytes_of q.ty ≡ 2 → IsInRange q.ty q.number → 1 ≤ size → size < 2199023255552 → PointsThere z.program x
      → moved z.program x (moved_by false size q.number) ≡ Some y → b + 4 ≤ (core_in z).program.frame_bytes n → (one ≡ false → b + 6 ≤ (core_in z).program.frame_bytes n) → HasDatum z n (b + 2) (datum.Pointer x) m → HasDatum z n b (datum.Number q) m
      → Placed (core_in z) n None (todo (if one then operator ops.Add int.UInt (Frame n b) (Frame n (b + 2)) ∷ [] else (scaled (Frame n (b + 4)) (Frame n b) size ++ code.Binary ops.Add int.UInt (Frame n b) (Frame n (b + 2)) (Frame n (b + 4)) ∷ [])) r) s m w c
      → ((d : Machine) (m' : Memory) → OnlyAbove n b m m' → HasDatum z n b (datum.Pointer y) m' → Placed (core_in z) n None r s m' w d → Comes (core_in z) T 0 0 d) → Comes (core_in z) T 1632 0 c
  turned_then true size x y q n b T s w due now r m c one two range some few there is room far_room hx hq p next =
      let num = pattern q.ty q.number in
      let lt = few_pattern q.ty q.number two range in
      let hn : HasDatum z n b (datum.Number (uint (num * size % 65536))) m = subst (λ t. HasDatum z n b (datum.Number (uint t)) m) (one_size num size one lt) (bits_there z n b q m two range hq) in
      comes_within (core_in z) T (20 + 0) 0 1632 0 c
      (sum_into_then PointerLast x y (moved_by false size q.number) (num * size % 65536) n b (b + 2) b T s w due now r m c 0 0 there is (omega arith) (same_distance false q.ty q.number size two range)
      (apart_high n b (b + 2) (omega arith)) (itself n b 2) (omega arith) (omega arith) (omega arith) hx hn p next)
      (omega arith) (omega arith)
  turned_then false size x y q n b T s w due now r m c one two range some few there is room far_room hx hq p next =
      let num = pattern q.ty q.number in
      let lt = few_pattern q.ty q.number two range in
      let hn = bits_there z n b q m two range hq in
      let far_in = far_room refl in
      comes_within (core_in z) T (1612 + (20 + 0)) 0 1632 0 c
      (scaled_then z (core_in z) T n s w due now (laws.small n) size num (b + 4) b (Todo [] (code.Binary ops.Add int.UInt (Frame n b) (Frame n (b + 2)) (Frame n (b + 4))) ∷ r) m c (20 + 0) 0 some few lt (omega arith) (omega arith) hn
      (subst (λ t. Placed (core_in z) n None t s m w c) (todo_join (scaled (Frame n (b + 4)) (Frame n b) size) (code.Binary ops.Add int.UInt (Frame n b) (Frame n (b + 2)) (Frame n (b + 4)) ∷ []) r) p)
      (λ d1 m1 above1 h1 p1.
      sum_into_then PointerFirst x y (moved_by false size q.number) (num * size % 65536) n b (b + 2) (b + 4) T s w due now r m1 d1 0 0 there is (omega arith) (same_distance false q.ty q.number size two range)
      (apart_high n b (b + 2) (omega arith)) (apart_high n b (b + 4) (omega arith)) (omega arith) (omega arith) (omega arith)
      (datum_above z n (b + 2) (b + 4) (datum.Pointer x) m m1 (pointer_few x) above1 hx) h1 p1
      (λ d m' above h pd. next d m' (above_then n b m m1 m' (lower_above n b (b + 4) m m1 (omega arith) above1) above) h pd)))
      (omega arith) (omega arith)
    where
      pointer_few : (x : Pointer) → b + 2 + 2 ≤ b + 4
      pointer_few x = omega arith

  turned_case : (o : Option Pointer) (left right : Expression) (size : ℕ) (ty : Ty) (line : ℕ) (x : Pointer) (q : Quantity) (k : List Pending) (cp : CopyOf) (l : source.Memory) (w : World value.Byte) (c : Machine) → moved z.program x (moved_by false size q.number) ≡ o → Around z cp k → is_pointer (type_of left) ≡ false → bytes_of q.ty ≡ 2 → IsInRange q.ty q.number → 1 ≤ size → size < 2199023255552 → PointsThere z.program x
      → base (ground_in z cp) k + (if nat_eq size 1 then 4 else 6) ≤ (core_in z).program.frame_bytes (number z cp) → is_due (arrived z.outside w) ≡ false
      → Mirrors z (state cp (Value (datum.Pointer x)) (In (tree.Offset ops.Add left right size ty line) (One (datum.Number q)) ∷ k) l w) c
      → Follow z 1632 0 c (answered (pointer_or_outside o) line k cp l (arrived z.outside w))
  unfolding active
  turned_case None left right size ty line x q k cp l w c is around points two range some few there room due h = tt
  turned_case (Some y) left right size ty line x q k cp l w c is around points two range some few there room due h =
      let e = tree.Offset ops.Add left right size ty line in
      let g = ground_in z cp in
      let n = number z cp in
      let b = base g k in
      let small = laws.small n in
      let one = nat_eq size 1 in
      let in_four : b + 4 ≤ (core_in z).program.frame_bytes n = four_in one b ((core_in z).program.frame_bytes n) room in
      let W = world_as (held z) (arrived z.outside w) in
      let T = Mirrors z (state cp (Value (datum.Pointer y)) k l (arrived z.outside w)) in
      let second : beyond b 2 ≡ b + 2 = beyond_is b 2 (omega arith) in
      let third : beyond b 4 ≡ b + 4 = beyond_is b 4 (omega arith) in
      let now : todo (offset_row ops.Add (Frame g.copy b) (is_pointer (type_of left)) size) (code_after g k) ≡ todo (if one then operator ops.Add int.UInt (Frame n b) (Frame n (b + 2)) ∷ [] else (scaled (Frame n (b + 4)) (Frame n b) size ++ code.Binary ops.Add int.UInt (Frame n b) (Frame n (b + 2)) (Frame n (b + 4)) ∷ [])) (code_after g k) =
      ap (λ t. todo (offset_row ops.Add (Frame g.copy b) t size) (code_after g k)) points
      ∙ ap (λ t. todo (if one then operator ops.Add int.UInt (Frame g.copy b) (Frame g.copy t) ∷ [] else (scaled (lower.behind (Frame g.copy b) 4) (Frame g.copy b) size ++ code.Binary ops.Add int.UInt (Frame g.copy b) (Frame g.copy t) (lower.behind (Frame g.copy b) 4) ∷ [])) (code_after g k)) second
      ∙ ap (λ t. todo (if one then operator ops.Add int.UInt (Frame g.copy b) (Frame g.copy (b + 2)) ∷ [] else (scaled (Frame g.copy t) (Frame g.copy b) size ++ code.Binary ops.Add int.UInt (Frame g.copy b) (Frame g.copy (b + 2)) (Frame g.copy t) ∷ [])) (code_after g k)) third
      ∙ ap (λ t. todo (if one then operator ops.Add int.UInt (Frame t b) (Frame t (b + 2)) ∷ [] else (scaled (Frame t (b + 4)) (Frame t b) size ++ code.Binary ops.Add int.UInt (Frame t b) (Frame t (b + 2)) (Frame t (b + 4)) ∷ [])) (code_after g k)) (own_copy z cp) in
      let hq : HasDatum z n b (datum.Number q) c.memory = subst (λ t. HasDatum z t b (datum.Number q) c.memory) (own_copy z cp) h.holds.0 in
      let hx : HasDatum z n (b + 2) (datum.Pointer x) c.memory = subst (λ t. HasDatum z n t (datum.Pointer x) c.memory) second (subst (λ t. HasDatum z t (beyond b 2) (datum.Pointer x) c.memory) (own_copy z cp) h.value) in
      turned_then one size x y q n b T (stack_after z g k) W (due_below z (arrived z.outside w) due) (again_below z w) (code_after g k) c.memory c refl two range some few there is in_four (six_in one b ((core_in z).program.frame_bytes n) room) hx hq
      (subst (λ t. Placed (core_in z) n None t (stack_after z g k) c.memory W c) now (placed_of z (state cp (Value (datum.Pointer x)) (In e (One (datum.Number q)) ∷ k) l w) c h))
      (λ d m' above hy pd.
      arrive z cp (Value (datum.Pointer y)) k l w m' d pd
      (agrees_above z laws cp (active cp (Value (datum.Pointer y)) k) l c.memory m' b around.reached (value_high z cp k around) above h.agrees)
      (holds_above z cp k c.memory m' b around (omega arith) above h.holds.1)
      (if_datum z (wanted k) g.copy b (datum.Pointer y) m' (subst (λ t. HasDatum z t b (datum.Pointer y) m') (sym (own_copy z cp)) hy)))
    where
      four_in : (one : Bool) (b frame : ℕ) → b + (if one then 4 else 6) ≤ frame → b + 4 ≤ frame
      four_in true b frame le = omega arith
      four_in false b frame le = omega arith

      six_in : (one : Bool) (b frame : ℕ) → b + (if one then 4 else 6) ≤ frame → one ≡ false → b + 6 ≤ frame
      six_in true b frame le e = absurd (cc)
      six_in false b frame le e = le

  -- the pointer's value is there, and the number that was there before is added
  pub turned_given : (left right : Expression) (size : ℕ) (ty : Ty) (line : ℕ) (x : Pointer) (q : Quantity) (k : List Pending) (cp : CopyOf) (l : source.Memory) (w : World value.Byte) (c : Machine) → Around z cp k → is_pointer (type_of left) ≡ false → bytes_of q.ty ≡ 2 → IsInRange q.ty q.number → 1 ≤ size → size < 2199023255552 → PointsThere z.program x
      → base (ground_in z cp) k + (if nat_eq size 1 then 4 else 6) ≤ (core_in z).program.frame_bytes (number z cp) → is_due (arrived z.outside w) ≡ false
      → Mirrors z (state cp (Value (datum.Pointer x)) (In (tree.Offset ops.Add left right size ty line) (One (datum.Number q)) ∷ k) l w) c
      → Follow z 1632 0 c (take_in (source_in z) (tree.Offset ops.Add left right size ty line) (One (datum.Number q)) (datum.Pointer x) k cp l (arrived z.outside w))
  unfolding offset_answer
  turned_given left right size ty line x q k cp l w c around points two range some few there room due h =
      turned_case (moved z.program x (distance ops.Add size q.number)) left right size ty line x q k cp l w c (ap (λ t. moved z.program x t) (sym (distance_is false size q.number))) around points two range some few there room due h

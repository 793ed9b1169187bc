-- Steps of pointers: a pointer goes to the next element, or to the one before.
use Rattle.c_ints.specs.Operators.{cut_to}
use Rattle.c_ints.specs.Quantity.{Quantity}
use Rattle.c_ints.specs.Range.{cut, pattern}
use Rattle.c_ints.specs.declared.operators.BinOp.{BinOp}
use Rattle.c_ints.specs.declared.types.IntTy.TheVariants as int
use Rattle.c_typed.specs.Trees as tree
use Rattle.c_typed.specs.Trees.{Place}
use Rattle.c_typed.specs.Types.{place_type}
use Rattle.c_typed.specs.Words.{step_operator}
use Rattle.c_typed.specs.declared.expression.StepOp.TheVariants as shapes
use Rattle.c_typed.specs.declared.expression.StepOp.{StepOp}
use Rattle.c_typed.specs.declared.types.Ty.TheVariants as types
use Rattle.core_code.specs.Bytes.{misses}
use Rattle.core_code.specs.Machine.{Machine, Do as Todo}
use Rattle.core_code.specs.Tree as code
use Rattle.core_code.specs.declared.code.Byte.TheVariants.{Frame}
use Rattle.core_puts.specs.Bytes as lower
use Rattle.core_puts.specs.Bytes.{beyond}
use Rattle.lower_expr.specs.Layout.{place_width, width}
use Rattle.lower_expr.specs.Lowering.{behind_pointer}
use Rattle.core_puts.specs.Puts.{copies_if, operator}
use Rattle.lower_expr.specs.Rows.{keeps_old, widened, written_row}
use Rattle.lower_expr.specs.Spots.{pointer_bytes, spot_of}
use Rattle.lower_trace.proofs.Beginnings.{Follow}
use Rattle.lower_trace.proofs.Changing.{above_then, agrees_above, datum_above, holds_above, keep_then, lower_above}
use Rattle.lower_trace.proofs.CodeLeft.{Scene, base, code_after, core_in, ground_in, held, left_of, number, right_of, source_in, stack_after, stored, todo, wanted, writing}
use Rattle.lower_trace.proofs.Constants.{again_below, due_below}
use Rattle.lower_trace.proofs.Flow.{arrive}
use Rattle.lower_trace.proofs.Giving.{Around, placed_of, value_high}
use Rattle.lower_trace.proofs.Increments.{keeps_is}
use Rattle.lower_trace.proofs.Kept.{SceneLaws, at_same, own_copy}
use Rattle.lower_trace.proofs.Mirrors.{HasDatum, Mirrors}
use Rattle.lower_trace.proofs.Offsets.{distance_is, moved_by, one_element, same_distance}
use Rattle.lower_trace.proofs.Operations.{beyond_is, comes_within, le_true, or_second}
use Rattle.lower_trace.proofs.Placed.{Placed}
use Rattle.lower_trace.proofs.PointerSums.{PointsThere, SameMove, mover, null_moved, pointer_sum_then, signed}
use Rattle.lower_trace.proofs.Scaling.{uint}
use Rattle.lower_trace.proofs.Takes.{first_standing}
use Rattle.lower_trace.proofs.Updating.{changed_code, row_writes}
use Rattle.lower_trace.proofs.Written.{and_right}
use Rattle.pic_world.specs.World.{World, arrived, is_due, world_as}
use Rattle.src_rules.specs.Giving.{changes, take_in}
use Rattle.src_rules.specs.Standing.{IsPointer}
use Rattle.src_rules.specs.State.{state}
use Rattle.src_values.specs.Control.{At, In, Pending, Stores, Holds as Value, Write, active}
use Rattle.src_values.specs.Data as datum
use Rattle.src_values.specs.Memory as source
use Rattle.src_values.specs.Objects.{moved, object_bytes}
use Rattle.src_values.specs.Values.{byte_count, change_answer, converted, distance, is_postfix, offset_answer, pointer_or_outside, then_converted}
use Rattle.src_values.specs.declared.objects.Byte as value
use Rattle.src_values.specs.declared.objects.CopyOf.{CopyOf}
use Rattle.src_values.specs.declared.objects.Object as object
use Rattle.src_values.specs.declared.objects.Pointer.TheVariants.{Into, Null}
use Rattle.src_values.specs.declared.objects.Pointer.{Pointer}
use Rattle.src_values.specs.declared.objects.Spot as spot
use Rattle.std.proofs.Common.{Bool, List, None, Option, Some, [], ap, arith, false, if◌then◌else◌, inr, nat_eq, nat_le, not, pos, refl, subst, sym, true, unsigned_abs, ℕ, ◌%◌, ◌&&◌, ◌*◌, ◌+ℤ◌, ◌+◌, ◌<◌, ◌∙◌, ◌∷◌, ◌≡◌, ◌≤◌, ◌||◌}
use Rattle.std.proofs.lemmas.Grind.{common_steps}
use Rattle.std.proofs.lemmas.Int.{ints}
use Rattle.std.specs.Prelude.{int_lt}

pub step_minus : StepOp → Bool
step_minus shapes.PreIncrement = false
step_minus shapes.PostIncrement = false
step_minus shapes.PreDecrement = true
step_minus shapes.PostDecrement = true

step_mover : (op : StepOp) → step_operator op ≡ mover (step_minus op)
unfolding step_minus
step_mover shapes.PreIncrement = refl
step_mover shapes.PostIncrement = refl
step_mover shapes.PreDecrement = refl
step_mover shapes.PostDecrement = refl

-- what the change of a pointer's place needs
pub record Moves (z : Scene) (cp : CopyOf) (k : List Pending) (sought : Place) (left right count : ℕ) : Type 0 where
  pub around : Around z cp k
  pub target : ℕ
  pub place : (place_type sought).ty ≡ types.Pointer target
  pub wide : place_width (ground_in z cp).layout sought ≡ 2
  pub count_is : count ≡ 2
  pub right_is : right ≡ base (ground_in z cp) k + pointer_bytes (spot_of (ground_in z cp).layout (ground_in z cp).copy sought)
  pub left_is : left ≡ right + count
  pub room : left + 4 ≤ (core_in z).program.frame_bytes (number z cp)

one_step : (size : ℕ) → size < 65536 → pattern int.Int (pos 1) * size % 65536 ≡ size
one_step size lt = let e : pattern int.Int (pos 1) ≡ 1 = omega (arith, ints) in let f : pattern int.Int (pos 1) * size ≡ 1 * size = ap (λ t. t * size) e in omega arith

size_number : (size : ℕ) → size < 65536 → cut_to int.UInt (pos size) ≡ uint size
size_number size lt = ap (λ t. record { ty = int.UInt; number = t }) (cut_size size lt)
  where
    cut_size : (size : ℕ) → size < 65536 → cut int.UInt (pos size) ≡ pos size
    cut_size size lt = omega (arith, ints)

one_int : (cut_to int.Int (pos 1)).number ≡ pos 1
one_int = omega (arith, ints)

pub misses_under : (n b y : ℕ) → y + 2 ≤ b → misses (Frame n b) 2 (Frame n y) 2 ≡ true
misses_under n b y le = or_second (not (nat_eq n n)) _ (or_second (nat_le (b + 2) y) (nat_le (y + 2) b) (le_true (y + 2) b le))

-- ---- elements that are larger than any object
none_few : (minus : Bool) (size : ℕ) → signed minus size ≡ pos 0 → size < 65536
none_few true size e = omega (arith, ints, e)
none_few false size e = omega (arith, ints, e)

inside_few : (minus : Bool) (f size bytes : ℕ) → int_lt (pos f +ℤ signed minus size) (pos 0) ≡ false → int_lt (pos bytes) (pos f +ℤ signed minus size) ≡ false → f ≤ 65535 → bytes ≤ 65535 → size < 65536
inside_few true f size bytes a b start few = grind (ints, arith, common_steps)
inside_few false f size bytes a b start few = grind (ints, arith, common_steps)

range_few : (minus : Bool) (f size : ℕ) (o : object.Object) (bytes : ℕ) (y : Pointer) (out : Bool) → (int_lt (pos f +ℤ signed minus size) (pos 0) || int_lt (pos bytes) (pos f +ℤ signed minus size)) ≡ out → (if out then None else Some (Into o (unsigned_abs (pos f +ℤ signed minus size)))) ≡ Some y → f ≤ 65535 → bytes ≤ 65535 → size < 65536
range_few minus f size o bytes y true is e start few = absurd (cc)
range_few minus f size o bytes y false is e start few = let parts = neither (int_lt (pos f +ℤ signed minus size) (pos 0)) (int_lt (pos bytes) (pos f +ℤ signed minus size)) is in inside_few minus f size bytes parts.0 parts.1 start few
  where
    neither : (a b : Bool) → (a || b) ≡ false → (a ≡ false) × (b ≡ false)
    neither true b e = absurd (cc)
    neither false b e = (refl, e)

signed_few : (z : Scene) (minus : Bool) (x y : Pointer) (size : ℕ) → ((o : object.Object) → object_bytes z.program o ≤ 65535) → IsPointer z.program x → moved z.program x (signed minus size) ≡ Some y → size < 65536
unfolding moved
signed_few z minus Null y size small h e = none_few minus size (null_moved z (signed minus size) y e).1
signed_few z minus (Into o f) y size small h e =
    let few = small o in
    let at = h.1 in
    range_few minus f size o (object_bytes z.program o) y (int_lt (pos f +ℤ signed minus size) (pos 0) || int_lt (pos (object_bytes z.program o)) (pos f +ℤ signed minus size)) refl e (omega (arith, few, at)) few

-- a pointer goes on by an element only within its object
pub step_few : (z : Scene) (minus : Bool) (x y : Pointer) (size : ℕ) → ((o : object.Object) → object_bytes z.program o ≤ 65535) → IsPointer z.program x → moved z.program x (moved_by minus size (pos 1)) ≡ Some y → size < 65536
step_few z minus x y size small h e = signed_few z minus x y size small h (sym (ap (moved z.program x) (one_element minus size)) ∙ e)

-- the source's new value
pub pointer_changed : (z : Scene) (live : List CopyOf) (op : BinOp) (from to size : ℕ) (x : Pointer) (q : Quantity) → change_answer z.program live op (types.Pointer from) size (types.Pointer to) (datum.Pointer x) (datum.Number q) ≡ then_converted (types.Pointer to) (pointer_or_outside (moved z.program x (distance op size q.number)))
unfolding change_answer offset_answer
pointer_changed z live op from to size x q = refl

module _ (z : Scene) (laws : SceneLaws z) where
  step_case : (o : Option Pointer) (op : StepOp) (to : Place) (row size line : ℕ) (at : spot.Spot) (x : Pointer) (left_at right_at count : ℕ) (k : List Pending) (cp : CopyOf) (l : source.Memory) (w : World value.Byte) (c : Machine) → moved z.program x (moved_by (step_minus op) size (pos 1)) ≡ o → 1 ≤ size → ((y : Pointer) → o ≡ Some y → size < 65536) → PointsThere z.program x → width (ground_in z cp).layout (types.Pointer row) ≡ count
      → beyond (behind_pointer (ground_in z cp).layout (ground_in z cp).copy (base (ground_in z cp) k) to) (width (ground_in z cp).layout (types.Pointer row)) ≡ left_at → behind_pointer (ground_in z cp).layout (ground_in z cp).copy (base (ground_in z cp) k) to ≡ right_at
      → (p : Moves z cp k to left_at right_at count) → is_due (arrived z.outside w) ≡ false
      → Mirrors z (state cp (Value (datum.Pointer x)) (In (tree.Step op to (types.Pointer row) size (types.Pointer p.target) line) (At at) ∷ k) l w) c
      → Follow z 44 0 c (changes (then_converted (types.Pointer p.target) (pointer_or_outside o)) (tree.Step op to (types.Pointer row) size (types.Pointer p.target) line) at (is_postfix op) (datum.Pointer x) line k cp l (arrived z.outside w))
  unfolding active converted
  step_case None op to row size line at x left_at right_at count k cp l w c is some small there count_is left_is right_is p due h = tt
  step_case (Some y) op to row size line at x left_at right_at count k cp l w c is some small there count_is left_is right_is p due h =
      let few = small y refl in
      let e = tree.Step op to (types.Pointer row) size (types.Pointer p.target) line in
      let g = ground_in z cp in
      let n = number z cp in
      let b = base g k in
      let s = spot_of g.layout g.copy to in
      let i = place_width g.layout to in
      let W = world_as (held z) (arrived z.outside w) in
      let f = step_operator op in
      let v = datum.Pointer y in
      let u = if is_postfix op then datum.Pointer x else v in
      let T = Mirrors z (state cp (Write at v 0) (In e (Stores at u) ∷ k) l (arrived z.outside w)) in
      let low = laws.small n in
      let pw = p.wide in
      let pc = p.count_is in
      let pr = p.right_is in
      let pl = p.left_is in
      let room = p.room in
      let wide = width g.layout (types.Pointer row) in
      let keeps = wanted k && keeps_old op in
      let kept = beyond left_at count in
      let kept_is : kept ≡ left_at + count = beyond_is left_at count (omega arith) in
      let A = Frame g.copy b in
      let L = Frame g.copy left_at in
      let rest = code_after g (In e (Stores at u) ∷ k) in
      let R = todo (written_row s g.layout.root A L i) rest in
      let now : code_after g (In e (At at) ∷ k) ≡ todo (copies_if keeps (Frame n kept) (Frame n left_at) i) (Todo [] (code.Binary (mover (step_minus op)) int.UInt (Frame n left_at) (Frame n left_at) (Frame n right_at)) ∷ R) =
      changed_code (place_type to).ty (types.Pointer row) (wanted k) (keeps_old op) wide (operator f int.UInt (left_of s A wide) (right_of s A) ∷ []) s g.layout.root A i (code_after g k)
      ∙ ap (λ t. todo (widened t (types.Pointer row) (left_of s A wide)) (todo (copies_if keeps (lower.behind (left_of s A wide) wide) (left_of s A wide) i) (Todo [] (code.Binary f int.UInt (left_of s A wide) (left_of s A wide) (right_of s A)) ∷ todo (written_row s g.layout.root A (left_of s A wide) i) rest))) p.place
      ∙ ap (λ t. todo (copies_if keeps (lower.behind (Frame g.copy t) wide) (Frame g.copy t) i) (Todo [] (code.Binary f int.UInt (Frame g.copy t) (Frame g.copy t) (right_of s A)) ∷ todo (written_row s g.layout.root A (Frame g.copy t) i) rest)) left_is
      ∙ ap (λ t. todo (copies_if keeps (lower.behind L t) L i) (Todo [] (code.Binary f int.UInt L L (right_of s A)) ∷ R)) count_is
      ∙ ap (λ t. todo (copies_if keeps (Frame g.copy kept) L i) (Todo [] (code.Binary f int.UInt L L (Frame g.copy t)) ∷ R)) right_is
      ∙ ap (λ t. todo (copies_if keeps (Frame t kept) (Frame t left_at) i) (Todo [] (code.Binary f int.UInt (Frame t left_at) (Frame t left_at) (Frame t right_at)) ∷ R)) (own_copy z cp)
      ∙ ap (λ t. todo (copies_if keeps (Frame n kept) (Frame n left_at) i) (Todo [] (code.Binary t int.UInt (Frame n left_at) (Frame n left_at) (Frame n right_at)) ∷ R)) (step_mover op) in
      let hx : HasDatum z n left_at (datum.Pointer x) c.memory = subst (λ t. HasDatum z t left_at (datum.Pointer x) c.memory) (own_copy z cp) (subst (λ t. HasDatum z g.copy t (datum.Pointer x) c.memory) left_is h.value) in
      let hy : HasDatum z n right_at (datum.Number (uint size)) c.memory = subst (λ t. HasDatum z n right_at (datum.Number t) c.memory) (size_number size few) (subst (λ t. HasDatum z t right_at (datum.Number (cut_to int.UInt (pos size))) c.memory) (own_copy z cp) (subst (λ t. HasDatum z g.copy t (datum.Number (cut_to int.UInt (pos size))) c.memory) right_is h.holds.0.1)) in
      let later : R ≡ writing z g.layout.root s at A (Frame g.copy (stored g b e)) i 0 rest =
      row_writes z g.layout.root s at A L i rest ∙ ap (λ t. writing z g.layout.root s at A (Frame g.copy t) i 0 rest) (sym left_is) in
      let old_at : beyond (stored g b e) wide ≡ kept = ap (λ t. beyond t wide) left_is ∙ ap (beyond left_at) count_is in
      let same : SameMove (step_minus op) size (moved_by (step_minus op) size (pos 1)) = subst (λ t. SameMove (step_minus op) t (moved_by (step_minus op) size (pos 1))) (one_step size few) (same_distance (step_minus op) int.Int (pos 1) size refl (omega (arith, ints), omega (arith, ints))) in
      comes_within (core_in z) T (24 + (20 + 0)) 0 44 0 c
      (keep_then z (core_in z) T n (stack_after z g k) W (due_below z (arrived z.outside w) due) (again_below z w) low keeps kept left_at i (Todo [] (code.Binary (mover (step_minus op)) int.UInt (Frame n left_at) (Frame n left_at) (Frame n right_at)) ∷ R) c.memory c (20 + 0) 0 (omega arith) (omega arith) (omega arith) (omega arith)
      (subst (λ t. Placed (core_in z) n None t (stack_after z g k) c.memory W c) now (placed_of z (state cp (Value (datum.Pointer x)) (In e (At at) ∷ k) l w) c h))
      (λ d1 m1 above1 keep1 p1.
      let low1 = lower_above n left_at kept c.memory m1 (omega arith) above1 in
      pointer_sum_then z laws (step_minus op) x y (moved_by (step_minus op) size (pos 1)) size n left_at right_at T (stack_after z g k) W (due_below z (arrived z.outside w) due) (again_below z w) R m1 d1 0 0 there is few same (misses_under n left_at right_at (omega arith)) (omega arith) (omega arith)
      (datum_above z n left_at kept (datum.Pointer x) c.memory m1 (pointer_few x left_at kept (omega arith)) above1 hx)
      (datum_above z n right_at left_at (datum.Number (uint size)) c.memory m1 (omega arith) low1 hy) p1
      (λ d m' far above2 hr pd.
      let only = above_then n left_at c.memory m1 m' low1 above2 in
      arrive z cp (Write at v 0) (In e (Stores at u) ∷ k) l w m' d (subst (λ t. Placed (core_in z) n None t (stack_after z g k) m' W d) later pd)
      (agrees_above z laws cp (active cp (Write at v 0) (In e (Stores at u) ∷ k)) l c.memory m' left_at p.around.reached (let q = value_high z cp k p.around in omega arith) only h.agrees) (
        (
          at_same z g.copy b s at c.memory m' (λ t ge lt. subst (λ j. m' (Frame j t) ≡ c.memory (Frame j t)) (sym (own_copy z cp)) (only (Frame n t) (inr (omega arith)))) h.holds.0.0,
          λ want.
              subst (λ t. HasDatum z g.copy (beyond (stored g b e) wide) (if t then datum.Pointer x else v) m') (sym (sym (keeps_is op) ∙ and_right (wanted k) (keeps_old op) want))
              (λ j lt. ap (λ t. m' (Frame t (beyond (stored g b e) wide + j))) (own_copy z cp) ∙ ap (λ t. m' (Frame n (t + j))) old_at ∙ far (kept + j) (omega arith) ∙ keep1 want j (let q = two_bytes x in omega arith) ∙ hx j lt),
        ),
        holds_above z cp k c.memory m' left_at p.around (omega arith) only h.holds.1,
      )
      (subst (λ y. HasDatum z g.copy (stored g b e) y m') (sym (first_standing at v))
      (λ j lt. ap (λ t. m' (Frame t (stored g b e + j))) (own_copy z cp) ∙ ap (λ t. m' (Frame n (t + j))) left_is ∙ hr j lt)))))
      (omega arith) (omega arith)
    where
      two_bytes : (x : Pointer) → byte_count (datum.Pointer x) ≡ 2
      two_bytes x = refl

      pointer_few : (x : Pointer) (left_at kept : ℕ) → left_at + 2 ≤ kept → left_at + byte_count (datum.Pointer x) ≤ kept
      pointer_few x left_at kept le = le

  pub step_moved : (op : StepOp) (to : Place) (row size line : ℕ) (at : spot.Spot) (x : Pointer) (left_at right_at count : ℕ) (k : List Pending) (cp : CopyOf) (l : source.Memory) (w : World value.Byte) (c : Machine) → 1 ≤ size → ((y : Pointer) → moved z.program x (moved_by (step_minus op) size (pos 1)) ≡ Some y → size < 65536) → PointsThere z.program x → width (ground_in z cp).layout (types.Pointer row) ≡ count
      → beyond (behind_pointer (ground_in z cp).layout (ground_in z cp).copy (base (ground_in z cp) k) to) (width (ground_in z cp).layout (types.Pointer row)) ≡ left_at → behind_pointer (ground_in z cp).layout (ground_in z cp).copy (base (ground_in z cp) k) to ≡ right_at
      → (p : Moves z cp k to left_at right_at count) → is_due (arrived z.outside w) ≡ false
      → Mirrors z (state cp (Value (datum.Pointer x)) (In (tree.Step op to (types.Pointer row) size (types.Pointer p.target) line) (At at) ∷ k) l w) c
      → Follow z 44 0 c (take_in (source_in z) (tree.Step op to (types.Pointer row) size (types.Pointer p.target) line) (At at) (datum.Pointer x) k cp l (arrived z.outside w))
  step_moved op to row size line at x left_at right_at count k cp l w c some few there count_is left_is right_is p due h =
      subst (λ a. Follow z 44 0 c (changes a (tree.Step op to (types.Pointer row) size (types.Pointer p.target) line) at (is_postfix op) (datum.Pointer x) line k cp l (arrived z.outside w)))
      (sym (pointer_changed z (active cp (Value (datum.Pointer x)) k) (step_operator op) row p.target size x (cut_to int.Int (pos 1))))
      (step_case (moved z.program x (distance (step_operator op) size (cut_to int.Int (pos 1)).number)) op to row size line at x left_at right_at count k cp l w c same some (λ y e. few y (same ∙ e)) there count_is left_is right_is p due h)
    where
      same : moved z.program x (moved_by (step_minus op) size (pos 1)) ≡ moved z.program x (distance (step_operator op) size (cut_to int.Int (pos 1)).number)
      same = ap (λ t. moved z.program x t) (sym (distance_is (step_minus op) size (pos 1))) ∙ ap (λ t. moved z.program x (distance t size (pos 1))) (sym (step_mover op)) ∙ ap (λ t. moved z.program x (distance (step_operator op) size t)) (sym one_int)

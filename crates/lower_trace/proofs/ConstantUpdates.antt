-- Updates by shifts whose count is a constant: it is set behind the read of the place.
use Rattle.c_ints.specs.Operators as numbers
use Rattle.c_ints.specs.Operators.{cut_to, has_no_value, outcome}
use Rattle.c_ints.specs.Quantity.{Quantity}
use Rattle.c_ints.specs.Range.{IsInRange, bytes_of, pattern}
use Rattle.c_ints.specs.declared.operators.BinOp.{BinOp}
use Rattle.c_ints.specs.declared.types.IntTy.TheVariants as int
use Rattle.c_ints.specs.declared.types.IntTy.{IntTy}
use Rattle.c_typed.specs.Folding.{constant_bits}
use Rattle.c_typed.specs.Trees as tree
use Rattle.c_typed.specs.Trees.{Expression, Place}
use Rattle.c_typed.specs.Sameness.{is_scalar}
use Rattle.c_typed.specs.Types.{place_type}
use Rattle.c_typed.specs.declared.types.Ty.TheVariants as types
use Rattle.c_typed.specs.declared.types.Ty.{Ty}
use Rattle.core_code.specs.Bytes as bytes
use Rattle.core_code.specs.Bytes.{with_bytes}
use Rattle.core_code.specs.Machine.{Machine, Do as Todo}
use Rattle.core_code.specs.Tree as code
use Rattle.core_code.specs.Tree.{many}
use Rattle.core_code.specs.Values as core
use Rattle.core_code.specs.Values.{right_type, value_in}
use Rattle.core_code.specs.declared.code.Byte.TheVariants.{Frame}
use Rattle.core_code.specs.declared.code.Byte.{Byte}
use Rattle.core_puts.specs.Bytes as lower
use Rattle.core_puts.specs.Bytes.{beyond, byte_at}
use Rattle.lower_expr.specs.Layout.{place_width, value_width}
use Rattle.lower_expr.specs.Lowering.{behind_pointer, change_code, expr_code, shifts_by_constant, update_of}
use Rattle.core_puts.specs.Puts.{copies_if, sets}
use Rattle.lower_expr.specs.Rows.{change_of, change_row, shift_row, update_row, widened, wider, written_row}
use Rattle.lower_expr.specs.Spots.{pointer_bytes, spot_of}
use Rattle.lower_trace.proofs.Beginnings.{Follow, rests}
use Rattle.lower_trace.proofs.Changing.{OnlyAbove, above_then, above_written, agrees_above, holds_above, lower_above, widen_then}
use Rattle.lower_trace.proofs.CodeLeft.{Scene, base, code_after, core_in, ground_in, held, left_of, number, right_of, source_in, stack_after, stored, todo, wanted, writing}
use Rattle.lower_trace.proofs.Constants.{again_below, byte_is, due_below}
use Rattle.lower_trace.proofs.ConstantShifts.{exact_many_then, exact_sets_then, exact_shift_then, known_sets, shift_typed}
use Rattle.lower_trace.proofs.Flow.{arrive}
use Rattle.lower_trace.proofs.Giving.{Around, placed_of, value_high}
use Rattle.lower_trace.proofs.Helped.{Shifts, count_small, count_there, shift_bad, shift_right}
use Rattle.lower_trace.proofs.Kept.{SceneLaws, at_same, bytes_small, own_copy}
use Rattle.lower_trace.proofs.Mirrors.{HasBits, HasDatum, Mirrors}
use Rattle.lower_trace.proofs.Narrowing.{narrow_bytes}
use Rattle.lower_trace.proofs.Operating.{value_number}
use Rattle.lower_trace.proofs.Operations.{Comes, comes_within}
use Rattle.lower_trace.proofs.Placed.{Placed}
use Rattle.lower_trace.proofs.Places.{in_place_none}
use Rattle.lower_trace.proofs.Takes.{first_standing}
use Rattle.lower_trace.proofs.Updating.{changed_code, row_writes, update_row_is}
use Rattle.lower_trace.proofs.Written.{and_false, bytes_clear, bytes_there}
use Rattle.pic_world.specs.World.{World, arrived, is_due, world_as}
use Rattle.src_rules.proofs.Values.{in_range}
use Rattle.src_rules.specs.Giving.{changes, take_in}
use Rattle.src_rules.specs.State.{state}
use Rattle.src_values.specs.Control.{At, AtWith, Fetch, Found, In, Nothing, Pending, Stores, Holds as Value, Write, active}
use Rattle.src_values.specs.Data as datum
use Rattle.src_values.specs.Data.{Datum}
use Rattle.src_values.specs.Memory as source
use Rattle.src_values.specs.Values.{bad_right, binary_answer, change_answer, converted, number_or_overflow, then_converted, unless_bad}
use Rattle.src_values.specs.declared.objects.Byte as value
use Rattle.src_values.specs.declared.objects.Byte.TheVariants as values
use Rattle.src_values.specs.declared.objects.CopyOf.{CopyOf}
use Rattle.src_values.specs.declared.objects.Spot as spot
use Rattle.src_values.specs.declared.objects.Undef.{Undef}
use Rattle.std.proofs.Common.{Bool, List, None, Option, Some, [], ap, arith, false, if◌then◌else◌, inr, nat_lt, pos, refl, subst, suc, sym, true, ℕ, ◌%◌, ◌*◌, ◌++◌, ◌+◌, ◌/◌, ◌^◌, ◌∙◌, ◌∷◌, ◌≡◌, ◌≤◌}

-- What an update by a shift needs whose count is a constant of so many bytes, one more than `less`.
pub record ShiftsPlace (z : Scene) (cp : CopyOf) (k : List Pending) (sought : Place) (right : Expression) (left_at right_at less : ℕ) (to : IntTy) (x y : Quantity) : Type 0 where
  pub around : Around z cp k
  pub place : (place_type sought).ty ≡ types.Int x.ty
  pub wide : place_width (ground_in z cp).layout sought ≡ bytes_of x.ty
  pub range : IsInRange x.ty x.number
  pub wider_is : bytes_of x.ty ≤ bytes_of to
  pub two : nat_lt 1 (bytes_of to) ≡ true
  pub bits_are : pattern y.ty y.number ≡ constant_bits right
  pub count_is : value_width (ground_in z cp).layout right ≡ bytes_of y.ty
  pub some : bytes_of y.ty ≡ suc less
  pub right_is : right_at ≡ base (ground_in z cp) k + pointer_bytes (spot_of (ground_in z cp).layout (ground_in z cp).copy sought)
  pub left_is : left_at ≡ right_at + suc less
  pub room : left_at + bytes_of to ≤ (core_in z).program.frame_bytes (number z cp)

module _ (z : Scene) (laws : SceneLaws z) where
  -- the count's value is there, and byte code stands where the place was found: the place is read
  count_reads : (op : BinOp) (to : Place) (right : Expression) (operation : Ty) (size : ℕ) (ty : Ty) (line : ℕ) (at : spot.Spot) (v : Datum) (k : List Pending) (cp : CopyOf) (l : source.Memory) (w : World value.Byte) (c : Machine) → shifts_by_constant op right ≡ true → HasBits right v
      → Mirrors z (state cp (Found at) (In (tree.Update op to right operation size ty line) Nothing ∷ k) l w) c
      → Comes (core_in z) (Mirrors z (state cp (Fetch at []) (In (tree.Update op to right operation size ty line) (AtWith at v) ∷ k) l (arrived z.outside w))) 0 0 c
  unfolding active
  count_reads op to right operation size ty line at v k cp l w c constant bits_are h =
      let e = tree.Update op to right operation size ty line in
      let g = ground_in z cp in
      let b = base g k in
      let s = spot_of g.layout g.copy to in
      let row = update_row (update_of (wanted k) g.layout op to right operation size) s g.layout.root (Frame g.copy b) (place_width g.layout to) (place_type to).ty in
      rests z cp (Found at) (Fetch at []) (In e Nothing ∷ k) (In e (AtWith at v) ∷ k) l l w c h refl
      (ap (λ f. todo (change_code f (expr_code g.layout g.copy (behind_pointer g.layout g.copy b to) true right) ++ row) (code_after g k)) constant
      ∙ update_row_is z (wanted k) g.layout op to right operation size s at g.layout.root (Frame g.copy b) (place_width g.layout to) (place_type to).ty (code_after g k))
      refl h.agrees ((h.value to refl, λ plain. absurd (let q = sym constant ∙ plain in cc), λ e. bits_are), h.holds.1) (λ i lt. absurd (in_place_none s at i lt))

  pub count_given : (op : BinOp) (to : Place) (right : Expression) (operation : Ty) (size : ℕ) (ty : Ty) (line : ℕ) (at : spot.Spot) (v : Datum) (k : List Pending) (cp : CopyOf) (l : source.Memory) (w : World value.Byte) (c : Machine) → shifts_by_constant op right ≡ true → HasBits right v → is_scalar ty ≡ true
      → Mirrors z (state cp (Found at) (In (tree.Update op to right operation size ty line) Nothing ∷ k) l w) c
      → Follow z 0 0 c (take_in (source_in z) (tree.Update op to right operation size ty line) (At at) v k cp l (arrived z.outside w))
  count_given op to right operation size (types.Int t) line at v k cp l w c constant bits_are scalar h = count_reads op to right operation size (types.Int t) line at v k cp l w c constant bits_are h
  count_given op to right operation size (types.Pointer row) line at v k cp l w c constant bits_are scalar h = count_reads op to right operation size (types.Pointer row) line at v k cp l w c constant bits_are h
  count_given op to right operation size types.Void line at v k cp l w c constant bits_are scalar h = absurd (cc)
  count_given op to right operation size (types.Array element count room) line at v k cp l w c constant bits_are scalar h = absurd (cc)
  count_given op to right operation size (types.Struct number) line at v k cp l w c constant bits_are scalar h = absurd (cc)

  -- the place's value is there: it is shifted
  update_case : (bad : Option Undef) (o : Option Quantity) (op : BinOp) (to : Place) (right : Expression) (t : IntTy) (size line : ℕ) (at : spot.Spot) (x y : Quantity) (left_at right_at less : ℕ) (k : List Pending) (cp : CopyOf) (l : source.Memory) (w : World value.Byte) (c : Machine) → bad_right op (types.Int t) (datum.Number y) ≡ bad → outcome op (cut_to t x.number) y ≡ o → Shifts op → shifts_by_constant op right ≡ true
      → beyond (behind_pointer (ground_in z cp).layout (ground_in z cp).copy (base (ground_in z cp) k) to) (value_width (ground_in z cp).layout right) ≡ left_at → behind_pointer (ground_in z cp).layout (ground_in z cp).copy (base (ground_in z cp) k) to ≡ right_at
      → ShiftsPlace z cp k to right left_at right_at less t x y → is_due (arrived z.outside w) ≡ false
      → Mirrors z (state cp (Value (datum.Number x)) (In (tree.Update op to right (types.Int t) size (types.Int x.ty) line) (AtWith at (datum.Number y)) ∷ k) l w) c
      → Follow z 94 0 c (changes (then_converted (types.Int x.ty) (unless_bad bad (number_or_overflow o))) (tree.Update op to right (types.Int t) size (types.Int x.ty) line) at false (datum.Number x) line k cp l (arrived z.outside w))
  unfolding active converted
  update_case (Some kind) o op to right t size line at x y left_at right_at less k cp l w c bad_is is shift constant left_is right_is p due h = tt
  update_case None None op to right t size line at x y left_at right_at less k cp l w c bad_is is shift constant left_is right_is p due h = tt
  update_case None (Some r) op to right t size line at x y left_at right_at less k cp l w c bad_is is shift constant left_is right_is p due h =
      let e = tree.Update op to right (types.Int t) size (types.Int x.ty) line in
      let g = ground_in z cp in
      let n = number z cp in
      let b = base g k in
      let s = spot_of g.layout g.copy to in
      let i = place_width g.layout to in
      let W = world_as (held z) (arrived z.outside w) in
      let due_is = due_below z (arrived z.outside w) due in
      let now_is = again_below z w in
      let v = datum.Number (cut_to x.ty r.number) in
      let T = Mirrors z (state cp (Write at v 0) (In e (Stores at v) ∷ k) l (arrived z.outside w)) in
      let small = laws.small n in
      let few = bytes_small t in
      let part = bytes_small x.ty in
      let count_few = bytes_small y.ty in
      let pw = p.wide in
      let pr = p.right_is in
      let pl = p.left_is in
      let ps = p.some in
      let le = p.wider_is in
      let room = p.room in
      let cw = value_width g.layout right in
      let A = Frame g.copy b in
      let L = Frame g.copy left_at in
      let N = constant_bits right in
      let rest = code_after g (In e (Stores at v) ∷ k) in
      let R = todo (written_row s g.layout.root A L i) rest in
      let change = λ (f : Bool) (a : Byte). change_row (change_of f (types.Int t) size N) op t a (right_of s A) cw in
      let shifted = code.Binary op t (Frame n left_at) (Frame n left_at) (Frame n right_at) in
      let ts = sets (Frame n right_at) N (suc less) ++ shifted ∷ [] in
      let now : code_after g (In e (AtWith at (datum.Number y)) ∷ k) ≡ todo (wider x.ty t (Frame n left_at)) (Todo [] (many ts) ∷ R) =
      changed_code (place_type to).ty (types.Int t) (wanted k) false cw (change (shifts_by_constant op right) (left_of s A cw)) s g.layout.root A i (code_after g k)
      ∙ ap (λ f. todo (widened (place_type to).ty (types.Int t) (left_of s A cw)) (todo (copies_if f (lower.behind (left_of s A cw) cw) (left_of s A cw) i) (todo (change (shifts_by_constant op right) (left_of s A cw)) (todo (written_row s g.layout.root A (left_of s A cw) i) rest)))) (and_false (wanted k) false refl)
      ∙ ap (λ f. todo (widened f (types.Int t) (left_of s A cw)) (todo (change (shifts_by_constant op right) (left_of s A cw)) (todo (written_row s g.layout.root A (left_of s A cw) i) rest))) p.place
      ∙ ap (λ f. todo (wider x.ty t (left_of s A cw)) (todo (change f (left_of s A cw)) (todo (written_row s g.layout.root A (left_of s A cw) i) rest))) constant
      ∙ ap (λ f. todo (wider x.ty t (Frame g.copy f)) (Todo [] (shift_row op t (Frame g.copy f) (right_of s A) N cw) ∷ todo (written_row s g.layout.root A (Frame g.copy f) i) rest)) left_is
      ∙ ap (λ f. todo (wider x.ty t L) (Todo [] (shift_row op t L (Frame g.copy f) N cw) ∷ R)) right_is
      ∙ ap (λ f. todo (wider x.ty t L) (Todo [] (shift_row op t L (Frame g.copy right_at) N f) ∷ R)) (p.count_is ∙ p.some)
      ∙ ap (λ f. todo (wider x.ty t (Frame f left_at)) (Todo [] (shift_row op t (Frame f left_at) (Frame f right_at) N (suc less)) ∷ R)) (own_copy z cp) in
      let hx : HasDatum z n left_at (datum.Number x) c.memory = subst (λ f. HasDatum z f left_at (datum.Number x) c.memory) (own_copy z cp) (subst (λ f. HasDatum z g.copy f (datum.Number x) c.memory) left_is h.value) in
      let later : R ≡ writing z g.layout.root s at A (Frame g.copy (stored g b e)) i 0 rest =
      row_writes z g.layout.root s at A L i rest ∙ ap (λ f. writing z g.layout.root s at A (Frame g.copy f) i 0 rest) (sym left_is) in
      let x0 = cut_to t x.number in
      let rt = shift_right op t shift in
      let q = count_small t y.number (shift_bad op t y shift bad_is) in
      let u : Quantity = record { ty = int.UChar; number = pos q.0 } in
      let alike : outcome op x0 u ≡ outcome op x0 y = ap (λ j. if has_no_value op t x0.number j then None else Some (cut_to (numbers.type_of op t) (numbers.exact op t x0.number j))) (sym q.1) in
      let typed : bytes_of r.ty ≡ bytes_of t = shift_typed op x0 y r shift is in
      let set_bits = λ (j : ℕ). bytes.Number (byte_at N j) in
      comes_within (core_in z) T (24 + (4 * suc less + (52 + 0))) 0 94 0 c
      (widen_then z (core_in z) T n (stack_after z g k) W due_is now_is small t x left_at (Todo [] (many ts) ∷ R) c.memory c (4 * suc less + (52 + 0)) 0 p.range le room hx
      (subst (λ f. Placed (core_in z) n None f (stack_after z g k) c.memory W c) now (placed_of z (state cp (Value (datum.Number x)) (In e (AtWith at (datum.Number y)) ∷ k) l w) c h))
      (λ d1 m1 above1 h1 p1.
      exact_many_then (core_in z) T n None (stack_after z g k) W due_is now_is ts R m1 d1 (4 * suc less + (52 + 0)) 0 p1
      (λ after d2 x2. exact_sets_then (core_in z) T n None (stack_after z g k) W due_is now_is (suc less) [] (shifted ∷ []) right_at N after R m1 d2 (52 + 0) 0 (omega arith) (omega arith) x2
      (λ d3 x3.
      let m2 = with_bytes m1 (Frame n right_at) (suc less) set_bits in
      let h2 : HasDatum z n left_at (datum.Number x0) m2 = λ j lt. bytes_clear m1 n right_at (suc less) set_bits (Frame n (left_at + j)) (inr (inr (omega arith))) ∙ h1 j lt in
      let hy : HasDatum z n right_at (datum.Number y) m2 = λ j lt. bytes_there m1 n right_at (suc less) set_bits j (omega arith) ∙ ap bytes.Number (byte_is N j (omega arith)) ∙ ap (λ f. held z (values.Number (f / 256 ^ j % 256))) (sym p.bits_are) in
      exact_shift_then z laws T n (stack_after z g k) W due_is now_is op t (sets (Frame n right_at) N (suc less)) left_at right_at (byte_at N 0) x0 u r after R m2 d3 0 0 shift p.two (known_sets n right_at N less (omega arith)) room (let f = ap bytes_of rt in omega arith) (omega arith)
      (value_number z n left_at x0 m2 (in_range t x.number) h2) (ap (λ ty. value_in ty m2 (Frame n right_at)) rt ∙ count_there z n right_at q.0 y m2 q.1 q.2 hy) (alike ∙ is) x3
      (λ d4 p4.
      let m3 = with_bytes m2 (Frame n left_at) (bytes_of r.ty) (core.byte_of (core.Number r)) in
      let only : OnlyAbove n right_at c.memory m3 =
      above_then n right_at c.memory m1 m3 (lower_above n right_at left_at c.memory m1 (omega arith) above1)
      (above_then n right_at m1 m2 m3 (above_written n right_at right_at (suc less) m1 set_bits (omega arith)) (above_written n right_at left_at (bytes_of r.ty) m2 (core.byte_of (core.Number r)) (omega arith))) in
      arrive z cp (Write at v 0) (In e (Stores at v) ∷ k) l w m3 d4 (subst (λ f. Placed (core_in z) n None f (stack_after z g k) m3 W d4) later p4)
      (agrees_above z laws cp (active cp (Write at v 0) (In e (Stores at v) ∷ k)) l c.memory m3 right_at p.around.reached (let f = value_high z cp k p.around in omega arith) only h.agrees) (
        at_same z g.copy b s at c.memory m3 (λ f ge lt. subst (λ j. m3 (Frame j f) ≡ c.memory (Frame j f)) (sym (own_copy z cp)) (only (Frame n f) (inr (omega arith)))) h.holds.0.0,
        holds_above z cp k c.memory m3 right_at p.around (omega arith) only h.holds.1,
      )
      (subst (λ f. HasDatum z g.copy (stored g b e) f m3) (sym (first_standing at v))
      (λ j lt. ap (λ f. m3 (Frame f (stored g b e + j))) (own_copy z cp) ∙ ap (λ f. m3 (Frame n (f + j))) left_is ∙ bytes_there m2 n left_at (bytes_of r.ty) (core.byte_of (core.Number r)) j (omega arith) ∙ ap (λ f. held z (values.Number f)) (sym (narrow_bytes r.ty x.ty r.number j (omega arith) lt)))))))))
      (omega arith) (omega arith)

  pub constant_update : (op : BinOp) (to : Place) (right : Expression) (t : IntTy) (size line : ℕ) (at : spot.Spot) (x y : Quantity) (left_at right_at less : ℕ) (k : List Pending) (cp : CopyOf) (l : source.Memory) (w : World value.Byte) (c : Machine) → Shifts op → shifts_by_constant op right ≡ true
      → beyond (behind_pointer (ground_in z cp).layout (ground_in z cp).copy (base (ground_in z cp) k) to) (value_width (ground_in z cp).layout right) ≡ left_at → behind_pointer (ground_in z cp).layout (ground_in z cp).copy (base (ground_in z cp) k) to ≡ right_at
      → ShiftsPlace z cp k to right left_at right_at less t x y → is_due (arrived z.outside w) ≡ false
      → Mirrors z (state cp (Value (datum.Number x)) (In (tree.Update op to right (types.Int t) size (types.Int x.ty) line) (AtWith at (datum.Number y)) ∷ k) l w) c
      → Follow z 94 0 c (take_in (source_in z) (tree.Update op to right (types.Int t) size (types.Int x.ty) line) (AtWith at (datum.Number y)) (datum.Number x) k cp l (arrived z.outside w))
  unfolding change_answer converted binary_answer
  constant_update op to right t size line at x y left_at right_at less k cp l w c shift constant left_is right_is p due h =
      update_case (bad_right op (types.Int t) (datum.Number y)) (outcome op (cut_to t x.number) y) op to right t size line at x y left_at right_at less k cp l w c refl refl shift constant left_is right_is p due h

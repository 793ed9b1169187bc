-- Updates of pointers: a pointer goes on, or back, by a number of elements.
use Rattle.c_ints.specs.Quantity.{Quantity}
use Rattle.c_ints.specs.Range.{IsInRange, bytes_of}
use Rattle.c_ints.specs.declared.types.IntTy.TheVariants as int
use Rattle.c_typed.specs.Folding.{constant_bits}
use Rattle.c_typed.specs.Trees as tree
use Rattle.c_typed.specs.Trees.{Expression, Place}
use Rattle.c_typed.specs.Types.{place_type}
use Rattle.c_typed.specs.declared.types.Ty.TheVariants as types
use Rattle.core_code.specs.Machine.{Machine}
use Rattle.core_code.specs.declared.code.Byte.TheVariants.{Frame}
use Rattle.core_code.specs.declared.code.Byte.{Byte}
use Rattle.core_puts.specs.Bytes as lower
use Rattle.core_puts.specs.Bytes.{beyond}
use Rattle.lower_expr.specs.Layout.{place_width, value_width}
use Rattle.lower_expr.specs.Lowering.{behind_pointer, shifts_by_constant}
use Rattle.core_puts.specs.Puts.{copies_if, operator}
use Rattle.lower_expr.specs.Rows as rows
use Rattle.lower_expr.specs.Rows.{change_of, change_row, scaled, widened, written_row}
use Rattle.lower_expr.specs.Spots.{spot_of}
use Rattle.lower_trace.proofs.Beginnings.{Follow}
use Rattle.lower_trace.proofs.Changing.{agrees_above, holds_above}
use Rattle.lower_trace.proofs.CodeLeft.{Scene, base, code_after, core_in, ground_in, held, left_of, number, right_of, source_in, stack_after, stored, todo, wanted, writing}
use Rattle.lower_trace.proofs.Constants.{again_below, due_below}
use Rattle.lower_trace.proofs.Flow.{arrive}
use Rattle.lower_trace.proofs.Giving.{placed_of, value_high}
use Rattle.lower_trace.proofs.Kept.{SceneLaws, at_same, own_copy}
use Rattle.lower_trace.proofs.Mirrors.{HasDatum, Mirrors}
use Rattle.lower_trace.proofs.Offsets.{distance_is, elements_then, moved_by}
use Rattle.lower_trace.proofs.Operations.{beyond_is}
use Rattle.lower_trace.proofs.Placed.{Placed}
use Rattle.lower_trace.proofs.PointerSteps.{Moves, misses_under, pointer_changed}
use Rattle.lower_trace.proofs.PointerSums.{PointsThere, mover}
use Rattle.lower_trace.proofs.Takes.{first_standing}
use Rattle.lower_trace.proofs.Updating.{changed_code, row_writes}
use Rattle.lower_trace.proofs.Written.{and_false}
use Rattle.pic_world.specs.World.{World, arrived, is_due, world_as}
use Rattle.src_rules.specs.Giving.{changes, take_in}
use Rattle.src_rules.specs.State.{state}
use Rattle.src_values.specs.Control.{AtWith, In, Pending, Stores, Holds as Value, Write, active}
use Rattle.src_values.specs.Data as datum
use Rattle.src_values.specs.Memory as source
use Rattle.src_values.specs.Objects.{moved}
use Rattle.src_values.specs.Values.{converted, distance, pointer_or_outside, then_converted}
use Rattle.src_values.specs.declared.objects.Byte as value
use Rattle.src_values.specs.declared.objects.CopyOf.{CopyOf}
use Rattle.src_values.specs.declared.objects.Pointer.{Pointer}
use Rattle.src_values.specs.declared.objects.Spot as spot
use Rattle.std.proofs.Common.{Bool, List, None, Option, Some, [], ap, arith, false, if◌then◌else◌, inr, nat_eq, refl, subst, sym, true, ℕ, ◌++◌, ◌+◌, ◌<◌, ◌∙◌, ◌∷◌, ◌≡◌, ◌≤◌}

mover_plain : (minus : Bool) (right : Expression) → shifts_by_constant (mover minus) right ≡ false
mover_plain true right = refl
mover_plain false right = refl

module _ (z : Scene) (laws : SceneLaws z) where
  update_case : (o : Option Pointer) (minus : Bool) (to : Place) (right : Expression) (row size line : ℕ) (at : spot.Spot) (x : Pointer) (q : Quantity) (left_at right_at count : ℕ) (k : List Pending) (cp : CopyOf) (l : source.Memory) (w : World value.Byte) (c : Machine) → moved z.program x (moved_by minus size q.number) ≡ o → bytes_of q.ty ≡ 2 → IsInRange q.ty q.number → 1 ≤ size → size < 2199023255552 → PointsThere z.program x
      → beyond (behind_pointer (ground_in z cp).layout (ground_in z cp).copy (base (ground_in z cp) k) to) (value_width (ground_in z cp).layout right) ≡ left_at → behind_pointer (ground_in z cp).layout (ground_in z cp).copy (base (ground_in z cp) k) to ≡ right_at
      → (p : Moves z cp k to left_at right_at count) → is_due (arrived z.outside w) ≡ false
      → Mirrors z (state cp (Value (datum.Pointer x)) (In (tree.Update (mover minus) to right (types.Pointer row) size (types.Pointer p.target) line) (AtWith at (datum.Number q)) ∷ k) l w) c
      → Follow z 1632 0 c (changes (then_converted (types.Pointer p.target) (pointer_or_outside o)) (tree.Update (mover minus) to right (types.Pointer row) size (types.Pointer p.target) line) at false (datum.Pointer x) line k cp l (arrived z.outside w))
  unfolding active converted
  update_case None minus to right row size line at x q left_at right_at count k cp l w c is two range some few there left_is right_is p due h = tt
  update_case (Some y) minus to right row size line at x q left_at right_at count k cp l w c is two range some few there left_is right_is p due h =
      let op = mover minus in
      let e = tree.Update op to right (types.Pointer row) size (types.Pointer p.target) line in
      let g = ground_in z cp in
      let n = number z cp in
      let b = base g k in
      let s = spot_of g.layout g.copy to in
      let i = place_width g.layout to in
      let W = world_as (held z) (arrived z.outside w) in
      let v = datum.Pointer y in
      let T = Mirrors z (state cp (Write at v 0) (In e (Stores at v) ∷ k) l (arrived z.outside w)) in
      let small = laws.small n in
      let pw = p.wide in
      let pc = p.count_is in
      let pr = p.right_is in
      let pl = p.left_is in
      let room = p.room in
      let cw = value_width g.layout right in
      let A = Frame g.copy b in
      let L = Frame g.copy left_at in
      let one = nat_eq size 1 in
      let rest = code_after g (In e (Stores at v) ∷ k) in
      let R = todo (written_row s g.layout.root A L i) rest in
      let behind_is : beyond left_at 2 ≡ left_at + 2 = beyond_is left_at 2 (omega arith) in
      let change = λ (f : Bool) (t : Byte). change_row (change_of f (types.Pointer row) size (constant_bits right)) op int.UInt t (right_of s A) cw in
      let now : code_after g (In e (AtWith at (datum.Number q)) ∷ k) ≡ todo (if one then operator op int.UInt (Frame n left_at) (Frame n right_at) ∷ [] else (scaled (Frame n (left_at + 2)) (Frame n right_at) size ++ operator op int.UInt (Frame n left_at) (Frame n (left_at + 2)) ∷ [])) R =
      changed_code (place_type to).ty (types.Pointer row) (wanted k) false cw (change (shifts_by_constant op right) (left_of s A cw)) s g.layout.root A i (code_after g k)
      ∙ ap (λ f. todo (widened (place_type to).ty (types.Pointer row) (left_of s A cw)) (todo (copies_if f (lower.behind (left_of s A cw) cw) (left_of s A cw) i) (todo (change (shifts_by_constant op right) (left_of s A cw)) (todo (written_row s g.layout.root A (left_of s A cw) i) rest)))) (and_false (wanted k) false refl)
      ∙ ap (λ t. todo (widened t (types.Pointer row) (left_of s A cw)) (todo (change (shifts_by_constant op right) (left_of s A cw)) (todo (written_row s g.layout.root A (left_of s A cw) i) rest))) p.place
      ∙ ap (λ f. todo (change f (left_of s A cw)) (todo (written_row s g.layout.root A (left_of s A cw) i) rest)) (mover_plain minus right)
      ∙ ap (λ t. todo (rows.moved op (Frame g.copy t) (right_of s A) (lower.behind (Frame g.copy t) 2) size) (todo (written_row s g.layout.root A (Frame g.copy t) i) rest)) left_is
      ∙ ap (λ t. todo (rows.moved op L (right_of s A) (Frame g.copy t) size) R) behind_is
      ∙ ap (λ t. todo (rows.moved op L (Frame g.copy t) (Frame g.copy (left_at + 2)) size) R) right_is
      ∙ ap (λ t. todo (rows.moved op (Frame t left_at) (Frame t right_at) (Frame t (left_at + 2)) size) R) (own_copy z cp) in
      let hx : HasDatum z n left_at (datum.Pointer x) c.memory = subst (λ t. HasDatum z t left_at (datum.Pointer x) c.memory) (own_copy z cp) (subst (λ t. HasDatum z g.copy t (datum.Pointer x) c.memory) left_is h.value) in
      let hy : HasDatum z n right_at (datum.Number q) c.memory = subst (λ t. HasDatum z t right_at (datum.Number q) c.memory) (own_copy z cp) (subst (λ t. HasDatum z g.copy t (datum.Number q) c.memory) right_is (h.holds.0.1 (mover_plain minus right))) in
      let later : R ≡ writing z g.layout.root s at A (Frame g.copy (stored g b e)) i 0 rest =
      row_writes z g.layout.root s at A L i rest ∙ ap (λ t. writing z g.layout.root s at A (Frame g.copy t) i 0 rest) (sym left_is) in
      elements_then z laws one minus size x y q n left_at right_at (left_at + 2) T (stack_after z g k) W (due_below z (arrived z.outside w) due) (again_below z w) R c.memory c refl two range some few there is (omega arith) (omega arith) (misses_under n left_at right_at (omega arith)) (omega arith) (omega arith) (λ no. omega arith) hx hy
      (subst (λ t. Placed (core_in z) n None t (stack_after z g k) c.memory W c) now (placed_of z (state cp (Value (datum.Pointer x)) (In e (AtWith at (datum.Number q)) ∷ k) l w) c h))
      (λ d m' only hr pd.
      arrive z cp (Write at v 0) (In e (Stores at v) ∷ k) l w m' d (subst (λ t. Placed (core_in z) n None t (stack_after z g k) m' W d) later pd)
      (agrees_above z laws cp (active cp (Write at v 0) (In e (Stores at v) ∷ k)) l c.memory m' left_at p.around.reached (let q = value_high z cp k p.around in omega arith) only h.agrees) (
        at_same z g.copy b s at c.memory m' (λ t ge lt. subst (λ j. m' (Frame j t) ≡ c.memory (Frame j t)) (sym (own_copy z cp)) (only (Frame n t) (inr (omega arith)))) h.holds.0.0,
        holds_above z cp k c.memory m' left_at p.around (omega arith) only h.holds.1,
      )
      (subst (λ y. HasDatum z g.copy (stored g b e) y m') (sym (first_standing at v))
      (λ j lt. ap (λ t. m' (Frame t (stored g b e + j))) (own_copy z cp) ∙ ap (λ t. m' (Frame n (t + j))) left_is ∙ hr j lt)))

  pub update_moved : (minus : Bool) (to : Place) (right : Expression) (row size line : ℕ) (at : spot.Spot) (x : Pointer) (q : Quantity) (left_at right_at count : ℕ) (k : List Pending) (cp : CopyOf) (l : source.Memory) (w : World value.Byte) (c : Machine) → bytes_of q.ty ≡ 2 → IsInRange q.ty q.number → 1 ≤ size → size < 2199023255552 → PointsThere z.program x
      → beyond (behind_pointer (ground_in z cp).layout (ground_in z cp).copy (base (ground_in z cp) k) to) (value_width (ground_in z cp).layout right) ≡ left_at → behind_pointer (ground_in z cp).layout (ground_in z cp).copy (base (ground_in z cp) k) to ≡ right_at
      → (p : Moves z cp k to left_at right_at count) → is_due (arrived z.outside w) ≡ false
      → Mirrors z (state cp (Value (datum.Pointer x)) (In (tree.Update (mover minus) to right (types.Pointer row) size (types.Pointer p.target) line) (AtWith at (datum.Number q)) ∷ k) l w) c
      → Follow z 1632 0 c (take_in (source_in z) (tree.Update (mover minus) to right (types.Pointer row) size (types.Pointer p.target) line) (AtWith at (datum.Number q)) (datum.Pointer x) k cp l (arrived z.outside w))
  update_moved minus to right row size line at x q left_at right_at count k cp l w c two range some few there left_is right_is p due h =
      subst (λ a. Follow z 1632 0 c (changes a (tree.Update (mover minus) to right (types.Pointer row) size (types.Pointer p.target) line) at false (datum.Pointer x) line k cp l (arrived z.outside w)))
      (sym (pointer_changed z (active cp (Value (datum.Pointer x)) k) (mover minus) row p.target size x q))
      (update_case (moved z.program x (distance (mover minus) size q.number)) minus to right row size line at x q left_at right_at count k cp l w c (ap (λ t. moved z.program x t) (sym (distance_is minus size q.number))) two range some few there left_is right_is p due h)

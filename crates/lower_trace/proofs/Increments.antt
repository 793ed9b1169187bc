-- Steps: the number that a step counts by is set, the place is read, and its value is changed.
use Rattle.c_ints.proofs.Cut.{bits_kept}
use Rattle.c_ints.specs.Operators.{cut_to, value_of}
use Rattle.c_ints.specs.Quantity.{Quantity}
use Rattle.c_ints.specs.Range.{bytes_of, cut, pattern}
use Rattle.c_ints.specs.declared.types.IntTy.{IntTy}
use Rattle.c_typed.specs.Sameness.{is_scalar}
use Rattle.c_typed.specs.Trees as tree
use Rattle.c_typed.specs.Trees.{Place}
use Rattle.c_typed.specs.Types.{place_type}
use Rattle.c_typed.specs.Words.{step_operator}
use Rattle.c_typed.specs.declared.expression.StepOp.TheVariants as shapes
use Rattle.c_typed.specs.declared.expression.StepOp.{StepOp}
use Rattle.c_typed.specs.declared.types.Ty.TheVariants as types
use Rattle.c_typed.specs.declared.types.Ty.{Ty}
use Rattle.core_code.specs.Bytes as bytes
use Rattle.core_code.specs.Bytes.{with_bytes}
use Rattle.core_code.specs.Machine.{Machine, Do as Todo}
use Rattle.core_code.specs.Tree as code
use Rattle.core_code.specs.declared.code.Byte.TheVariants.{Frame}
use Rattle.core_puts.specs.Bytes as lower
use Rattle.core_puts.specs.Bytes.{beyond, byte_at, operation_type}
use Rattle.lower_expr.specs.Layout.{place_width, width}
use Rattle.lower_expr.specs.Lowering.{behind_pointer, step_of}
use Rattle.core_puts.specs.Puts.{copies_if, operator, sets}
use Rattle.lower_expr.specs.Rows.{keeps_old, step_number, step_row, update_row, widened, wider, written_row}
use Rattle.lower_expr.specs.Spots.{pointer_bytes, spot_of}
use Rattle.lower_trace.proofs.Beginnings.{Follow}
use Rattle.lower_trace.proofs.Changing.{IsSum, above_written, agrees_above, change_then, holds_above, sum_type}
use Rattle.lower_trace.proofs.CodeLeft.{Scene, base, code_after, core_in, ground_in, held, left_of, number, right_of, source_in, stack_after, stored, todo, wanted, writing}
use Rattle.lower_trace.proofs.Constants.{again_below, byte_is, due_below}
use Rattle.lower_trace.proofs.Flow.{arrive}
use Rattle.lower_trace.proofs.Giving.{Around, placed_of, value_high}
use Rattle.lower_trace.proofs.Kept.{SceneLaws, at_same, bytes_small, own_copy}
use Rattle.lower_trace.proofs.Mirrors.{HasDatum, Mirrors}
use Rattle.lower_trace.proofs.Narrowing.{low_bytes, narrow_bytes}
use Rattle.lower_trace.proofs.Operations.{Comes, beyond_is, comes_within, sets_then}
use Rattle.lower_trace.proofs.Placed.{Placed, todo_join}
use Rattle.lower_trace.proofs.Places.{in_place_none}
use Rattle.lower_trace.proofs.Takes.{first_standing}
use Rattle.lower_trace.proofs.Updating.{Changes, changed_code, number_changed, row_writes, step_row_is}
use Rattle.lower_trace.proofs.Written.{and_right, bytes_there}
use Rattle.pic_world.specs.World.{World, arrived, is_due, world_as}
use Rattle.src_rules.proofs.Values.{in_range}
use Rattle.src_rules.specs.Expressions.{found_in}
use Rattle.src_rules.specs.Giving.{changes, take_in}
use Rattle.src_rules.specs.State.{state}
use Rattle.src_values.specs.Control.{At, Fetch, Found, In, Nothing, Pending, Stores, Holds as Value, Write, active}
use Rattle.src_values.specs.Data as datum
use Rattle.src_values.specs.Memory as source
use Rattle.src_values.specs.Values.{is_postfix}
use Rattle.src_values.specs.declared.objects.Byte as value
use Rattle.src_values.specs.declared.objects.Byte.TheVariants as values
use Rattle.src_values.specs.declared.objects.CopyOf.{CopyOf}
use Rattle.src_values.specs.declared.objects.Spot as spot
use Rattle.std.proofs.Common.{List, None, [], ap, arith, false, if◌then◌else◌, inr, pos, refl, subst, sym, true, ℕ, ◌%◌, ◌&&◌, ◌*◌, ◌+◌, ◌/◌, ◌<◌, ◌^◌, ◌∙◌, ◌∷◌, ◌≡◌, ◌≤◌}

step_sum : (op : StepOp) → IsSum (step_operator op)
step_sum shapes.PreIncrement = tt
step_sum shapes.PreDecrement = tt
step_sum shapes.PostIncrement = tt
step_sum shapes.PostDecrement = tt

pub keeps_is : (op : StepOp) → keeps_old op ≡ is_postfix op
keeps_is shapes.PreIncrement = refl
keeps_is shapes.PreDecrement = refl
keeps_is shapes.PostIncrement = refl
keeps_is shapes.PostDecrement = refl

-- the bytes of a number that was set are those of the number in a type
set_byte : (ty : IntTy) (n i : ℕ) → i < bytes_of ty → byte_at n i ≡ pattern ty (cut ty (pos n)) / 256 ^ i % 256
set_byte ty n i lt = let few = bytes_small ty in byte_is n i (omega arith) ∙ sym (low_bytes ty n i lt) ∙ ap (λ x. x / 256 ^ i % 256) (sym (bits_kept ty n))

module _ (z : Scene) (laws : SceneLaws z) where
  -- a place was found: the number is set, and the place is read
  step_reads : (op : StepOp) (to : Place) (operation : Ty) (size : ℕ) (ty : Ty) (line : ℕ) (at : spot.Spot) (k : List Pending) (cp : CopyOf) (l : source.Memory) (w : World value.Byte) (c : Machine) → Around z cp k → width (ground_in z cp).layout operation ≡ bytes_of (operation_type operation)
      → behind_pointer (ground_in z cp).layout (ground_in z cp).copy (base (ground_in z cp) k) to ≡ base (ground_in z cp) k + pointer_bytes (spot_of (ground_in z cp).layout (ground_in z cp).copy to)
      → behind_pointer (ground_in z cp).layout (ground_in z cp).copy (base (ground_in z cp) k) to + bytes_of (operation_type operation) ≤ (core_in z).program.frame_bytes (number z cp) → is_due (arrived z.outside w) ≡ false
      → Mirrors z (state cp (Found at) (In (tree.Step op to operation size ty line) Nothing ∷ k) l w) c
      → Comes (core_in z) (Mirrors z (state cp (Fetch at []) (In (tree.Step op to operation size ty line) (At at) ∷ k) l (arrived z.outside w))) 16 0 c
  unfolding active
  step_reads op to operation size ty line at k cp l w c around wide behind_is room due h =
      let e = tree.Step op to operation size ty line in
      let g = ground_in z cp in
      let n = number z cp in
      let b = base g k in
      let s = spot_of g.layout g.copy to in
      let p = behind_pointer g.layout g.copy b to in
      let num = step_number operation size in
      let t = operation_type operation in
      let i = bytes_of t in
      let few = bytes_small t in
      let W = world_as (held z) (arrived z.outside w) in
      let T = Mirrors z (state cp (Fetch at []) (In e (At at) ∷ k) l (arrived z.outside w)) in
      let m' = with_bytes c.memory (Frame n p) i (λ j. bytes.Number (byte_at num j)) in
      let only = above_written n p p i c.memory (λ j. bytes.Number (byte_at num j)) (omega arith) in
      let R = todo (update_row (step_of (wanted k) g.layout op operation) s g.layout.root (Frame g.copy b) (place_width g.layout to) (place_type to).ty) (code_after g k) in
      let now : todo (step_row (step_of (wanted k) g.layout op operation) num s g.layout.root (Frame g.copy b) (place_width g.layout to) (place_type to).ty) (code_after g k) ≡ todo (sets (Frame n p) num i) R =
      todo_join (sets (Frame g.copy p) num (width g.layout operation)) (update_row (step_of (wanted k) g.layout op operation) s g.layout.root (Frame g.copy b) (place_width g.layout to) (place_type to).ty) (code_after g k)
      ∙ ap (λ x. todo (sets (Frame g.copy p) num x) R) wide ∙ ap (λ x. todo (sets (Frame x p) num i) R) (own_copy z cp) in
      comes_within (core_in z) T (4 * i + 0) 0 16 0 c
      (sets_then (core_in z) T n None (stack_after z g k) W (due_below z (arrived z.outside w) due) (again_below z w) i p num R c.memory c 0 0 room (let q = laws.small n in omega arith)
      (subst (λ x. Placed (core_in z) n None x (stack_after z g k) c.memory W c) now (placed_of z (state cp (Found at) (In e Nothing ∷ k) l w) c h))
      (λ d pd.
      arrive z cp (Fetch at []) (In e (At at) ∷ k) l w m' d
      (subst (λ x. Placed (core_in z) n None x (stack_after z g k) m' W d) (step_row_is z (wanted k) g.layout op operation s at g.layout.root (Frame g.copy b) (place_width g.layout to) (place_type to).ty (code_after g k)) pd)
      (agrees_above z laws cp (active cp (Fetch at []) (In e (At at) ∷ k)) l c.memory m' p around.reached (let q = value_high z cp k around in omega arith) only h.agrees) (
        (
          at_same z g.copy b s at c.memory m' (λ y ge lt. subst (λ j. m' (Frame j y) ≡ c.memory (Frame j y)) (sym (own_copy z cp)) (only (Frame n y) (inr (omega arith)))) (h.value to refl),
          λ j lt. ap (λ x. m' (Frame x (p + j))) (own_copy z cp) ∙ bytes_there c.memory n p i (λ y. bytes.Number (byte_at num y)) j lt ∙ ap bytes.Number (set_byte t num j lt),
        ),
        holds_above z cp k c.memory m' p around (omega arith) only h.holds.1,
      )
      (λ j lt. absurd (in_place_none s at j lt))))
      (omega arith) (omega arith)

  pub found_step : (op : StepOp) (to : Place) (operation : Ty) (size : ℕ) (ty : Ty) (line : ℕ) (at : spot.Spot) (k : List Pending) (cp : CopyOf) (l : source.Memory) (w : World value.Byte) (c : Machine) → is_scalar ty ≡ true → Around z cp k → width (ground_in z cp).layout operation ≡ bytes_of (operation_type operation)
      → behind_pointer (ground_in z cp).layout (ground_in z cp).copy (base (ground_in z cp) k) to ≡ base (ground_in z cp) k + pointer_bytes (spot_of (ground_in z cp).layout (ground_in z cp).copy to)
      → behind_pointer (ground_in z cp).layout (ground_in z cp).copy (base (ground_in z cp) k) to + bytes_of (operation_type operation) ≤ (core_in z).program.frame_bytes (number z cp) → is_due (arrived z.outside w) ≡ false
      → Mirrors z (state cp (Found at) (In (tree.Step op to operation size ty line) Nothing ∷ k) l w) c
      → Follow z 16 0 c (found_in (source_in z) (tree.Step op to operation size ty line) Nothing at k cp l (arrived z.outside w))
  found_step op to operation size (types.Int t) line at k cp l w c scalar around wide behind_is room due h = step_reads op to operation size (types.Int t) line at k cp l w c around wide behind_is room due h
  found_step op to operation size (types.Pointer row) line at k cp l w c scalar around wide behind_is room due h = step_reads op to operation size (types.Pointer row) line at k cp l w c around wide behind_is room due h
  found_step op to operation size types.Void line at k cp l w c scalar around wide behind_is room due h = absurd (cc)
  found_step op to operation size (types.Array element count bytes_is) line at k cp l w c scalar around wide behind_is room due h = absurd (cc)
  found_step op to operation size (types.Struct number_is) line at k cp l w c scalar around wide behind_is room due h = absurd (cc)

  -- the value of the place is there: it goes up or down by one
  pub step_changed : (op : StepOp) (to : Place) (o : IntTy) (size line : ℕ) (at : spot.Spot) (x : Quantity) (left_at right_at count : ℕ) (k : List Pending) (cp : CopyOf) (l : source.Memory) (w : World value.Byte) (c : Machine) → width (ground_in z cp).layout (types.Int o) ≡ count
      → beyond (behind_pointer (ground_in z cp).layout (ground_in z cp).copy (base (ground_in z cp) k) to) (width (ground_in z cp).layout (types.Int o)) ≡ left_at → behind_pointer (ground_in z cp).layout (ground_in z cp).copy (base (ground_in z cp) k) to ≡ right_at
      → Changes z cp (tree.Step op to (types.Int o) size (types.Int x.ty) line) k to left_at right_at count o x → is_due (arrived z.outside w) ≡ false
      → Mirrors z (state cp (Value (datum.Number x)) (In (tree.Step op to (types.Int o) size (types.Int x.ty) line) (At at) ∷ k) l w) c
      → Follow z (78 + 10 * bytes_of o) 0 c (take_in (source_in z) (tree.Step op to (types.Int o) size (types.Int x.ty) line) (At at) (datum.Number x) k cp l (arrived z.outside w))
  unfolding active
  step_changed op to o size line at x left_at right_at count k cp l w c count_is left_is right_is p due h =
      let e = tree.Step op to (types.Int o) size (types.Int x.ty) line in
      let g = ground_in z cp in
      let n = number z cp in
      let b = base g k in
      let s = spot_of g.layout g.copy to in
      let i = place_width g.layout to in
      let W = world_as (held z) (arrived z.outside w) in
      let y = cut_to o (pos 1) in
      let f = step_operator op in
      let sum = step_sum op in
      let r = value_of f (cut_to o x.number) y in
      let v = datum.Number (cut_to x.ty r.number) in
      let u = if is_postfix op then datum.Number x else v in
      let T = Mirrors z (state cp (Write at v 0) (In e (Stores at u) ∷ k) l (arrived z.outside w)) in
      let small = laws.small n in
      let few = bytes_small o in
      let part = bytes_small x.ty in
      let pw = p.wide in
      let pc = p.count_is in
      let pr = p.right_is in
      let pl = p.left_is in
      let le = p.wider_is in
      let room = p.room in
      let wide = width g.layout (types.Int o) in
      let keeps = wanted k && keeps_old op in
      let kept = beyond left_at count in
      let kept_is : kept ≡ left_at + count = beyond_is left_at count (omega arith) in
      let A = Frame g.copy b in
      let L = Frame g.copy left_at in
      let rest = code_after g (In e (Stores at u) ∷ k) in
      let R = todo (written_row s g.layout.root A L i) rest in
      let now : code_after g (In e (At at) ∷ k) ≡ todo (wider x.ty o (Frame n left_at)) (todo (copies_if keeps (Frame n kept) (Frame n left_at) i) (Todo [] (code.Binary f o (Frame n left_at) (Frame n left_at) (Frame n right_at)) ∷ R)) =
      changed_code (place_type to).ty (types.Int o) (wanted k) (keeps_old op) wide (operator f o (left_of s A wide) (right_of s A) ∷ []) s g.layout.root A i (code_after g k)
      ∙ ap (λ t. todo (widened t (types.Int o) (left_of s A wide)) (todo (copies_if keeps (lower.behind (left_of s A wide) wide) (left_of s A wide) i) (Todo [] (code.Binary f o (left_of s A wide) (left_of s A wide) (right_of s A)) ∷ todo (written_row s g.layout.root A (left_of s A wide) i) rest))) p.place
      ∙ ap (λ t. todo (wider x.ty o (Frame g.copy t)) (todo (copies_if keeps (lower.behind (Frame g.copy t) wide) (Frame g.copy t) i) (Todo [] (code.Binary f o (Frame g.copy t) (Frame g.copy t) (right_of s A)) ∷ todo (written_row s g.layout.root A (Frame g.copy t) i) rest))) left_is
      ∙ ap (λ t. todo (wider x.ty o L) (todo (copies_if keeps (lower.behind L t) L i) (Todo [] (code.Binary f o L L (right_of s A)) ∷ R))) count_is
      ∙ ap (λ t. todo (wider x.ty o L) (todo (copies_if keeps (Frame g.copy kept) L i) (Todo [] (code.Binary f o L L (Frame g.copy t)) ∷ R))) right_is
      ∙ ap (λ t. todo (wider x.ty o (Frame t left_at)) (todo (copies_if keeps (Frame t kept) (Frame t left_at) i) (Todo [] (code.Binary f o (Frame t left_at) (Frame t left_at) (Frame t right_at)) ∷ R))) (own_copy z cp) in
      let hx : HasDatum z n left_at (datum.Number x) c.memory = subst (λ t. HasDatum z t left_at (datum.Number x) c.memory) (own_copy z cp) (subst (λ t. HasDatum z g.copy t (datum.Number x) c.memory) left_is h.value) in
      let hy : HasDatum z n right_at (datum.Number y) c.memory = subst (λ t. HasDatum z t right_at (datum.Number y) c.memory) (own_copy z cp) (subst (λ t. HasDatum z g.copy t (datum.Number y) c.memory) right_is h.holds.0.1) in
      let later : R ≡ writing z g.layout.root s at A (Frame g.copy (stored g b e)) i 0 rest =
      row_writes z g.layout.root s at A L i rest ∙ ap (λ t. writing z g.layout.root s at A (Frame g.copy t) i 0 rest) (sym left_is) in
      let old_at : beyond (stored g b e) wide ≡ kept = ap (λ t. beyond t wide) left_is ∙ ap (beyond left_at) count_is in
      subst (λ a. Follow z (78 + 10 * bytes_of o) 0 c (changes a e at (is_postfix op) (datum.Number x) line k cp l (arrived z.outside w))) (sym (number_changed z (active cp (Value (datum.Number x)) k) f o size x y sum))
      (comes_within (core_in z) T (24 + (24 + (10 * bytes_of o + 30 + 0))) 0 (78 + 10 * bytes_of o) 0 c
      (change_then z (core_in z) T n (stack_after z g k) W (due_below z (arrived z.outside w) due) (again_below z w) f o x y keeps left_at right_at kept i R c.memory c 0 0 small sum p.range (in_range o (pos 1)) refl le (omega arith) (omega arith) (omega arith) (omega arith) (omega arith) (omega arith) (omega arith) hx hy
      (subst (λ t. Placed (core_in z) n None t (stack_after z g k) c.memory W c) now (placed_of z (state cp (Value (datum.Number x)) (In e (At at) ∷ k) l w) c h))
      (λ d m' only hr keep pd.
      arrive z cp (Write at v 0) (In e (Stores at u) ∷ k) l w m' d (subst (λ t. Placed (core_in z) n None t (stack_after z g k) m' W d) later pd)
      (agrees_above z laws cp (active cp (Write at v 0) (In e (Stores at u) ∷ k)) l c.memory m' left_at p.around.reached (let q = value_high z cp k p.around in omega arith) only h.agrees) (
        (
          at_same z g.copy b s at c.memory m' (λ t ge lt. subst (λ j. m' (Frame j t) ≡ c.memory (Frame j t)) (sym (own_copy z cp)) (only (Frame n t) (inr (omega arith)))) h.holds.0.0,
          λ want.
              subst (λ t. HasDatum z g.copy (beyond (stored g b e) wide) (if t then datum.Number x else v) m') (sym (sym (keeps_is op) ∙ and_right (wanted k) (keeps_old op) want))
              (λ j lt. ap (λ t. m' (Frame t (beyond (stored g b e) wide + j))) (own_copy z cp) ∙ ap (λ t. m' (Frame n (t + j))) old_at ∙ keep want j (omega arith)),
        ),
        holds_above z cp k c.memory m' left_at p.around (omega arith) only h.holds.1,
      )
      (subst (λ y. HasDatum z g.copy (stored g b e) y m') (sym (first_standing at v))
      (λ j lt. ap (λ t. m' (Frame t (stored g b e + j))) (own_copy z cp) ∙ ap (λ t. m' (Frame n (t + j))) left_is ∙ hr j (let st = ap bytes_of (sum_type f o sum) in omega arith) ∙ ap (λ t. held z (values.Number t)) (sym (narrow_bytes r.ty x.ty r.number j (let st = ap bytes_of (sum_type f o sum) in omega arith) lt))))))
      (omega arith) (omega arith))

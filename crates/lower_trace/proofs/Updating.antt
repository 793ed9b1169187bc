-- Updates and steps of numbers: the place is read, its value is changed in place, and written.
use Rattle.c_ints.specs.Operators.{cut_to, value_of}
use Rattle.c_ints.specs.Quantity.{Quantity}
use Rattle.c_ints.specs.Range.{IsInRange, bytes_of}
use Rattle.c_ints.specs.declared.operators.BinOp.{BinOp}
use Rattle.c_ints.specs.declared.types.IntTy.{IntTy}
use Rattle.c_typed.specs.Folding.{constant_bits}
use Rattle.c_typed.specs.Sameness.{is_scalar}
use Rattle.c_typed.specs.Trees as tree
use Rattle.c_typed.specs.Trees.{Expression, Place}
use Rattle.c_typed.specs.Types.{place_type}
use Rattle.c_typed.specs.Words.{step_operator}
use Rattle.c_typed.specs.declared.expression.StepOp.{StepOp}
use Rattle.c_typed.specs.declared.types.Ty.TheVariants as types
use Rattle.c_typed.specs.declared.types.Ty.{Ty}
use Rattle.core_code.specs.Bytes.{is_private}
use Rattle.core_code.specs.Machine.{Machine, Task, Do as Todo}
use Rattle.core_code.specs.Tree as code
use Rattle.core_code.specs.Tree.{Tree}
use Rattle.core_code.specs.declared.code.Byte.TheVariants.{Frame}
use Rattle.core_code.specs.declared.code.Byte.{Byte}
use Rattle.core_puts.specs.Bytes as lower
use Rattle.core_puts.specs.Bytes.{beyond, operation_type}
use Rattle.lower_expr.specs.Layout.{Layout, place_width, value_width, width}
use Rattle.lower_expr.specs.Lowering.{behind_pointer, shifts_by_constant, step_of, update_of}
use Rattle.core_puts.specs.Puts.{copies_if, operator}
use Rattle.lower_expr.specs.Rows.{change_of, change_row, keeps_old, read_row, update_row, widened, wider, written_row}
use Rattle.lower_expr.specs.Spots.{pointer_bytes, spot_of}
use Rattle.lower_expr.specs.declared.places.Spot as place
use Rattle.lower_expr.specs.declared.places.Spot.TheVariants.{Bit, Computed, Fixed}
use Rattle.lower_trace.proofs.Beginnings.{Follow, rests}
use Rattle.lower_trace.proofs.Changing.{IsSum, agrees_above, change_then, holds_above, sum_plain, sum_type}
use Rattle.lower_trace.proofs.CodeLeft.{Scene, base, changed_rest, code_after, copies_from, core_in, ground_in, held, left_of, number, plain, reading, right_of, source_in, stack_after, stored, todo, wanted, writing, written_rest}
use Rattle.lower_trace.proofs.Computing.{plain_answer}
use Rattle.lower_trace.proofs.Constants.{again_below, due_below}
use Rattle.lower_trace.proofs.Flow.{arrive}
use Rattle.lower_trace.proofs.Giving.{Around, placed_of, value_high}
use Rattle.lower_trace.proofs.Kept.{SceneLaws, at_same, bytes_small, own_copy}
use Rattle.lower_trace.proofs.Mirrors.{HasDatum, Mirrors}
use Rattle.lower_trace.proofs.Narrowing.{narrow_bytes}
use Rattle.lower_trace.proofs.Operations.{Comes, beyond_is, comes_within}
use Rattle.lower_trace.proofs.Placed.{Placed, todo_join}
use Rattle.lower_trace.proofs.Places.{copies_are, in_place_none, putting_none}
use Rattle.lower_trace.proofs.Takes.{first_standing}
use Rattle.lower_trace.proofs.Written.{and_false}
use Rattle.pic_world.specs.World.{World, arrived, is_due, world_as}
use Rattle.pic_world.specs.declared.Root.{Root}
use Rattle.src_rules.specs.Giving.{changes, take_in}
use Rattle.src_rules.specs.State.{state}
use Rattle.src_values.specs.Control.{At, AtWith, Fetch, In, Pending, Stores, Holds as Value, Write, active}
use Rattle.src_values.specs.Data as datum
use Rattle.src_values.specs.Data.{Datum}
use Rattle.src_values.specs.Memory as source
use Rattle.src_values.specs.Values as answers
use Rattle.src_values.specs.Values.{change_answer, converted, then_converted}
use Rattle.src_values.specs.declared.objects.Byte as value
use Rattle.src_values.specs.declared.objects.Byte.TheVariants as values
use Rattle.src_values.specs.declared.objects.CopyOf.{CopyOf}
use Rattle.src_values.specs.declared.objects.Spot as spot
use Rattle.std.proofs.Common.{Bool, List, None, [], ap, arith, false, if◌then◌else◌, inr, refl, subst, sym, true, ℕ, ◌&&◌, ◌*◌, ◌+◌, ◌-◌, ◌∙◌, ◌∷◌, ◌≡◌, ◌≤◌}

-- ---- code
pub reading_row : (z : Scene) (s : place.Spot) (at : spot.Spot) (pointer to : Byte) (count : ℕ) (r : List Task) → todo (read_row s pointer to count) r ≡ reading z s at pointer to count [] r
reading_row z (Fixed from) at pointer to count r =
    ap (λ y. todo y r) (copies_are to from count)
    ∙ (let e : count ≡ count - 0 = omega arith in ap (λ y. todo (copies_from to from 0 y) r) e)
    ∙ sym (putting_none (if is_private from then false else true) z to (todo (copies_from to from 0 (count - 0)) r))
reading_row z (Bit register bit) at pointer to count r = refl
reading_row z Computed at pointer to count r = refl

pub row_writes : (z : Scene) (root : Root) (s : place.Spot) (at : spot.Spot) (pointer from : Byte) (count : ℕ) (r : List Task) → todo (written_row s root pointer from count) r ≡ writing z root s at pointer from count 0 r
row_writes z root (Fixed to) at pointer from count r =
    ap (λ y. todo y r) (copies_are to from count) ∙ (let e : count ≡ count - 0 = omega arith in ap (λ y. todo (copies_from to from 0 y) r) e)
row_writes z root (Bit register bit) at pointer from count r = refl
row_writes z root Computed at pointer from count r = refl

-- an update's code from the read of its place on
pub update_row_is : (z : Scene) (w : Bool) (l : Layout) (op : BinOp) (to : Place) (right : Expression) (operation : Ty) (size : ℕ) (s : place.Spot) (where_is : spot.Spot) (root : Root) (at : Byte) (bytes : ℕ) (from : Ty) (r : List Task)
    → todo (update_row (update_of w l op to right operation size) s root at bytes from) r
    ≡ reading z s where_is at (left_of s at (value_width l right)) bytes [] (todo (changed_rest from operation w false (value_width l right) (change_row (change_of (shifts_by_constant op right) operation size (constant_bits right)) op (operation_type operation) (left_of s at (value_width l right)) (right_of s at) (value_width l right)) s root at bytes) r)
update_row_is z w l op to right operation size s where_is root at bytes from r =
    let split : todo (update_row (update_of w l op to right operation size) s root at bytes from) r ≡ todo (read_row s at (left_of s at (value_width l right)) bytes) (todo (changed_rest from operation w false (value_width l right) (change_row (change_of (shifts_by_constant op right) operation size (constant_bits right)) op (operation_type operation) (left_of s at (value_width l right)) (right_of s at) (value_width l right)) s root at bytes) r) = simp todo_join in
    split
    ∙ reading_row z s where_is at (left_of s at (value_width l right)) bytes (todo (changed_rest from operation w false (value_width l right) (change_row (change_of (shifts_by_constant op right) operation size (constant_bits right)) op (operation_type operation) (left_of s at (value_width l right)) (right_of s at) (value_width l right)) s root at bytes) r)

pub step_row_is : (z : Scene) (w : Bool) (l : Layout) (op : StepOp) (operation : Ty) (s : place.Spot) (where_is : spot.Spot) (root : Root) (at : Byte) (bytes : ℕ) (from : Ty) (r : List Task)
    → todo (update_row (step_of w l op operation) s root at bytes from) r
    ≡ reading z s where_is at (left_of s at (width l operation)) bytes [] (todo (changed_rest from operation w (keeps_old op) (width l operation) (operator (step_operator op) (operation_type operation) (left_of s at (width l operation)) (right_of s at) ∷ []) s root at bytes) r)
step_row_is z w l op operation s where_is root at bytes from r =
    let split : todo (update_row (step_of w l op operation) s root at bytes from) r ≡ todo (read_row s at (left_of s at (width l operation)) bytes) (todo (changed_rest from operation w (keeps_old op) (width l operation) (operator (step_operator op) (operation_type operation) (left_of s at (width l operation)) (right_of s at) ∷ []) s root at bytes) r) = simp todo_join in
    split
    ∙ reading_row z s where_is at (left_of s at (width l operation)) bytes (todo (changed_rest from operation w (keeps_old op) (width l operation) (operator (step_operator op) (operation_type operation) (left_of s at (width l operation)) (right_of s at) ∷ []) s root at bytes) r)

pub changed_code : (from operation : Ty) (wanted_is keeps : Bool) (count : ℕ) (change : List Tree) (s : place.Spot) (root : Root) (at : Byte) (bytes : ℕ) (r : List Task)
    → todo (changed_rest from operation wanted_is keeps count change s root at bytes) r
    ≡ todo (widened from operation (left_of s at count)) (todo (copies_if (wanted_is && keeps) (lower.behind (left_of s at count) count) (left_of s at count) bytes) (todo change (todo (written_row s root at (left_of s at count) bytes) (todo (written_rest wanted_is keeps count s at bytes) r))))
changed_code from operation wanted_is keeps count change s root at bytes r = simp todo_join

change_plain : (constant : Bool) (op : BinOp) (o : IntTy) (size number : ℕ) (at right : Byte) (count : ℕ) → constant ≡ false → change_row (change_of constant (types.Int o) size number) op o at right count ≡ code.Binary op o at at right ∷ []
change_plain constant op o size number at right count e = rw e refl

module _ (z : Scene) where
  -- ---- the right operand has its value: the place is read
  update_reads : (op : BinOp) (to : Place) (right : Expression) (operation : Ty) (size : ℕ) (ty : Ty) (line : ℕ) (at : spot.Spot) (v : Datum) (k : List Pending) (cp : CopyOf) (l : source.Memory) (w : World value.Byte) (c : Machine)
      → Mirrors z (state cp (Value v) (In (tree.Update op to right operation size ty line) (At at) ∷ k) l w) c
      → Comes (core_in z) (Mirrors z (state cp (Fetch at []) (In (tree.Update op to right operation size ty line) (AtWith at v) ∷ k) l (arrived z.outside w))) 0 0 c
  unfolding active
  update_reads op to right operation size ty line at v k cp l w c h =
      let e = tree.Update op to right operation size ty line in
      let g = ground_in z cp in
      let b = base g k in
      rests z cp (Value v) (Fetch at []) (In e (At at) ∷ k) (In e (AtWith at v) ∷ k) l l w c h refl
      (update_row_is z (wanted k) g.layout op to right operation size (spot_of g.layout g.copy to) at g.layout.root (Frame g.copy b) (place_width g.layout to) (place_type to).ty (code_after g k))
      refl h.agrees ((h.holds.0.0, λ e. h.value, λ e. absurd (let q = sym e ∙ h.holds.0.1 in cc)), h.holds.1) (λ i lt. absurd (in_place_none (spot_of g.layout g.copy to) at i lt))

  pub update_given : (op : BinOp) (to : Place) (right : Expression) (operation : Ty) (size : ℕ) (ty : Ty) (line : ℕ) (at : spot.Spot) (v : Datum) (k : List Pending) (cp : CopyOf) (l : source.Memory) (w : World value.Byte) (c : Machine) → is_scalar ty ≡ true
      → Mirrors z (state cp (Value v) (In (tree.Update op to right operation size ty line) (At at) ∷ k) l w) c
      → Follow z 0 0 c (take_in (source_in z) (tree.Update op to right operation size ty line) (At at) v k cp l (arrived z.outside w))
  update_given op to right operation size (types.Int t) line at v k cp l w c scalar h = update_reads op to right operation size (types.Int t) line at v k cp l w c h
  update_given op to right operation size (types.Pointer row) line at v k cp l w c scalar h = update_reads op to right operation size (types.Pointer row) line at v k cp l w c h
  update_given op to right operation size types.Void line at v k cp l w c scalar h = absurd (cc)
  update_given op to right operation size (types.Array element count bytes) line at v k cp l w c scalar h = absurd (cc)
  update_given op to right operation size (types.Struct number) line at v k cp l w c scalar h = absurd (cc)

-- ---- the value of the place is there: it is changed
-- what an update or a step of a number needs
pub record Changes (z : Scene) (cp : CopyOf) (e : Expression) (k : List Pending) (sought : Place) (left right count : ℕ) (to : IntTy) (x : Quantity) : Type 0 where
  pub around : Around z cp k
  pub place : (place_type sought).ty ≡ types.Int x.ty
  pub wide : place_width (ground_in z cp).layout sought ≡ bytes_of x.ty
  pub range : IsInRange x.ty x.number
  pub wider_is : bytes_of x.ty ≤ bytes_of to
  pub count_is : count ≡ bytes_of to
  pub right_is : right ≡ base (ground_in z cp) k + pointer_bytes (spot_of (ground_in z cp).layout (ground_in z cp).copy sought)
  pub left_is : left ≡ right + count
  pub room : left + count + bytes_of x.ty ≤ (core_in z).program.frame_bytes (number z cp)

pub number_changed : (z : Scene) (live : List CopyOf) (op : BinOp) (to : IntTy) (size : ℕ) (x y : Quantity) → IsSum op → change_answer z.program live op (types.Int to) size (types.Int x.ty) (datum.Number x) (datum.Number y) ≡ answers.Gives (datum.Number (cut_to x.ty (value_of op (cut_to to x.number) y).number))
unfolding change_answer converted
number_changed z live op to size x y sum = ap (then_converted (types.Int x.ty)) (plain_answer z.program live op (types.Int to) (cut_to to x.number) y (sum_plain op sum))

module _ (z : Scene) (laws : SceneLaws z) where
  pub update_changed : (op : BinOp) (to : Place) (right : Expression) (o : IntTy) (size line : ℕ) (at : spot.Spot) (x y : Quantity) (left_at right_at count : ℕ) (k : List Pending) (cp : CopyOf) (l : source.Memory) (w : World value.Byte) (c : Machine) → IsSum op → shifts_by_constant op right ≡ false → y.ty ≡ o → IsInRange y.ty y.number → value_width (ground_in z cp).layout right ≡ count
      → beyond (behind_pointer (ground_in z cp).layout (ground_in z cp).copy (base (ground_in z cp) k) to) (value_width (ground_in z cp).layout right) ≡ left_at → behind_pointer (ground_in z cp).layout (ground_in z cp).copy (base (ground_in z cp) k) to ≡ right_at
      → Changes z cp (tree.Update op to right (types.Int o) size (types.Int x.ty) line) k to left_at right_at count o x → is_due (arrived z.outside w) ≡ false
      → Mirrors z (state cp (Value (datum.Number x)) (In (tree.Update op to right (types.Int o) size (types.Int x.ty) line) (AtWith at (datum.Number y)) ∷ k) l w) c
      → Follow z (78 + 10 * bytes_of o) 0 c (take_in (source_in z) (tree.Update op to right (types.Int o) size (types.Int x.ty) line) (AtWith at (datum.Number y)) (datum.Number x) k cp l (arrived z.outside w))
  unfolding active
  update_changed op to right o size line at x y left_at right_at count k cp l w c sum plain yt yr count_is left_is right_is p due h =
      let e = tree.Update op to right (types.Int o) size (types.Int x.ty) line in
      let g = ground_in z cp in
      let n = number z cp in
      let b = base g k in
      let s = spot_of g.layout g.copy to in
      let i = place_width g.layout to in
      let W = world_as (held z) (arrived z.outside w) in
      let r = value_of op (cut_to o x.number) y in
      let v = datum.Number (cut_to x.ty r.number) in
      let T = Mirrors z (state cp (Write at v 0) (In e (Stores at v) ∷ k) l (arrived z.outside w)) in
      let small = laws.small n in
      let few = bytes_small o in
      let part = bytes_small x.ty in
      let pw = p.wide in
      let pc = p.count_is in
      let pr = p.right_is in
      let pl = p.left_is in
      let le = p.wider_is in
      let room = p.room in
      let kept = beyond left_at count in
      let kept_is : kept ≡ left_at + count = beyond_is left_at count (omega arith) in
      let R = todo (written_row s g.layout.root (Frame g.copy b) (Frame g.copy left_at) i) (code_after g (In e (Stores at v) ∷ k)) in
      let L = Frame g.copy left_at in
      let now : code_after g (In e (AtWith at (datum.Number y)) ∷ k) ≡ todo (wider x.ty o (Frame n left_at)) (todo (copies_if false (Frame n kept) (Frame n left_at) i) (Todo [] (code.Binary op o (Frame n left_at) (Frame n left_at) (Frame n right_at)) ∷ R)) =
      changed_code (place_type to).ty (types.Int o) (wanted k) false (value_width g.layout right) (change_row (change_of (shifts_by_constant op right) (types.Int o) size (constant_bits right)) op o (left_of s (Frame g.copy b) (value_width g.layout right)) (right_of s (Frame g.copy b)) (value_width g.layout right)) s g.layout.root (Frame g.copy b) i (code_after g k)
      ∙ ap (λ f. todo (widened (place_type to).ty (types.Int o) (left_of s (Frame g.copy b) (value_width g.layout right))) (todo (copies_if f (lower.behind (left_of s (Frame g.copy b) (value_width g.layout right)) (value_width g.layout right)) (left_of s (Frame g.copy b) (value_width g.layout right)) i) (todo (change_row (change_of (shifts_by_constant op right) (types.Int o) size (constant_bits right)) op o (left_of s (Frame g.copy b) (value_width g.layout right)) (right_of s (Frame g.copy b)) (value_width g.layout right)) (todo (written_row s g.layout.root (Frame g.copy b) (left_of s (Frame g.copy b) (value_width g.layout right)) i) (code_after g (In e (Stores at v) ∷ k)))))) (and_false (wanted k) false refl)
      ∙ ap (λ t. todo (widened t (types.Int o) (left_of s (Frame g.copy b) (value_width g.layout right))) (todo (change_row (change_of (shifts_by_constant op right) (types.Int o) size (constant_bits right)) op o (left_of s (Frame g.copy b) (value_width g.layout right)) (right_of s (Frame g.copy b)) (value_width g.layout right)) (todo (written_row s g.layout.root (Frame g.copy b) (left_of s (Frame g.copy b) (value_width g.layout right)) i) (code_after g (In e (Stores at v) ∷ k))))) p.place
      ∙ ap (λ t. todo (wider x.ty o (left_of s (Frame g.copy b) (value_width g.layout right))) (todo t (todo (written_row s g.layout.root (Frame g.copy b) (left_of s (Frame g.copy b) (value_width g.layout right)) i) (code_after g (In e (Stores at v) ∷ k))))) (change_plain (shifts_by_constant op right) op o size (constant_bits right) (left_of s (Frame g.copy b) (value_width g.layout right)) (right_of s (Frame g.copy b)) (value_width g.layout right) plain)
      ∙ ap (λ t. todo (wider x.ty o (Frame g.copy t)) (Todo [] (code.Binary op o (Frame g.copy t) (Frame g.copy t) (right_of s (Frame g.copy b))) ∷ todo (written_row s g.layout.root (Frame g.copy b) (Frame g.copy t) i) (code_after g (In e (Stores at v) ∷ k)))) left_is
      ∙ ap (λ t. todo (wider x.ty o L) (Todo [] (code.Binary op o L L (Frame g.copy t)) ∷ R)) right_is
      ∙ ap (λ t. todo (wider x.ty o (Frame t left_at)) (Todo [] (code.Binary op o (Frame t left_at) (Frame t left_at) (Frame t right_at)) ∷ R)) (own_copy z cp) in
      let hx : HasDatum z n left_at (datum.Number x) c.memory = subst (λ t. HasDatum z t left_at (datum.Number x) c.memory) (own_copy z cp) (subst (λ t. HasDatum z g.copy t (datum.Number x) c.memory) left_is h.value) in
      let hy : HasDatum z n right_at (datum.Number y) c.memory = subst (λ t. HasDatum z t right_at (datum.Number y) c.memory) (own_copy z cp) (subst (λ t. HasDatum z g.copy t (datum.Number y) c.memory) right_is (h.holds.0.1 plain)) in
      let later : R ≡ writing z g.layout.root s at (Frame g.copy b) (Frame g.copy (stored g b e)) i 0 (code_after g (In e (Stores at v) ∷ k)) =
      row_writes z g.layout.root s at (Frame g.copy b) L i (code_after g (In e (Stores at v) ∷ k)) ∙ ap (λ t. writing z g.layout.root s at (Frame g.copy b) (Frame g.copy t) i 0 (code_after g (In e (Stores at v) ∷ k))) (sym left_is) in
      subst (λ a. Follow z (78 + 10 * bytes_of o) 0 c (changes a e at false (datum.Number x) line k cp l (arrived z.outside w))) (sym (number_changed z (active cp (Value (datum.Number x)) k) op o size x y sum))
      (comes_within (core_in z) T (24 + (24 + (10 * bytes_of o + 30 + 0))) 0 (78 + 10 * bytes_of o) 0 c
      (change_then z (core_in z) T n (stack_after z g k) W (due_below z (arrived z.outside w) due) (again_below z w) op o x y false left_at right_at kept i R c.memory c 0 0 small sum p.range yr yt le (omega arith) (omega arith) (omega arith) (omega arith) (omega arith) (omega arith) (omega arith) hx hy
      (subst (λ f. Placed (core_in z) n None f (stack_after z g k) c.memory W c) now (placed_of z (state cp (Value (datum.Number x)) (In e (AtWith at (datum.Number y)) ∷ k) l w) c h))
      (λ d m' only hr keep pd.
      arrive z cp (Write at v 0) (In e (Stores at v) ∷ k) l w m' d (subst (λ f. Placed (core_in z) n None f (stack_after z g k) m' W d) later pd)
      (agrees_above z laws cp (active cp (Write at v 0) (In e (Stores at v) ∷ k)) l c.memory m' left_at p.around.reached (let q = value_high z cp k p.around in omega arith) only h.agrees) (
        at_same z g.copy b s at c.memory m' (λ t ge lt. subst (λ j. m' (Frame j t) ≡ c.memory (Frame j t)) (sym (own_copy z cp)) (only (Frame n t) (inr (omega arith)))) h.holds.0.0,
        holds_above z cp k c.memory m' left_at p.around (omega arith) only h.holds.1,
      )
      (subst (λ y. HasDatum z g.copy (stored g b e) y m') (sym (first_standing at v))
      (λ j lt. ap (λ t. m' (Frame t (stored g b e + j))) (own_copy z cp) ∙ ap (λ t. m' (Frame n (t + j))) left_is ∙ hr j (let st = ap bytes_of (sum_type op o sum) in omega arith) ∙ ap (λ t. held z (values.Number t)) (sym (narrow_bytes r.ty x.ty r.number j (let st = ap bytes_of (sum_type op o sum) in omega arith) lt))))))
      (omega arith) (omega arith))

-- Updates by operators that a helper computes: products, quotients, remainders, and shifts by a count that isn't constant.
use Rattle.c_ints.specs.Operators as numbers
use Rattle.c_ints.specs.Operators.{cut_to, has_no_value, outcome}
use Rattle.c_ints.specs.Quantity.{Quantity}
use Rattle.c_ints.specs.Range.{IsInRange, bytes_of}
use Rattle.c_ints.specs.declared.operators.BinOp.{BinOp}
use Rattle.c_ints.specs.declared.types.IntTy.TheVariants as int
use Rattle.c_ints.specs.declared.types.IntTy.{IntTy}
use Rattle.c_typed.specs.Folding.{constant_bits}
use Rattle.c_typed.specs.Trees as tree
use Rattle.c_typed.specs.Trees.{Expression, Place}
use Rattle.c_typed.specs.Types.{is_constant, place_type}
use Rattle.c_typed.specs.declared.types.Ty.TheVariants as types
use Rattle.core_code.specs.Bytes.{Memory, with_bytes}
use Rattle.core_code.specs.Machine.{Machine, Do as Todo}
use Rattle.core_code.specs.Tree as code
use Rattle.core_code.specs.Values as core
use Rattle.core_code.specs.Values.{right_type, value_in}
use Rattle.core_code.specs.declared.code.Byte.TheVariants.{Frame}
use Rattle.core_code.specs.declared.code.Byte.{Byte}
use Rattle.core_puts.specs.Bytes as lower
use Rattle.core_puts.specs.Bytes.{beyond}
use Rattle.lower_expr.specs.Layout.{place_width, value_width}
use Rattle.lower_expr.specs.Lowering.{behind_pointer, shifts_by_constant}
use Rattle.core_puts.specs.Puts.{copies_if}
use Rattle.lower_expr.specs.Rows.{change_of, change_row, widened, wider, written_row}
use Rattle.lower_expr.specs.Spots.{pointer_bytes, spot_of}
use Rattle.lower_trace.proofs.Beginnings.{Follow}
use Rattle.lower_trace.proofs.Changing.{above_written, agrees_above, datum_above, holds_above, widen_then}
use Rattle.lower_trace.proofs.CodeLeft.{Scene, base, code_after, core_in, ground_in, held, left_of, number, plain, right_of, source_in, stack_after, stored, todo, wanted, writing}
use Rattle.lower_trace.proofs.Constants.{again_below, due_below}
use Rattle.lower_trace.proofs.Flow.{arrive}
use Rattle.lower_trace.proofs.Giving.{Around, agrees_same, placed_of, value_high}
use Rattle.lower_trace.proofs.Helped.{IsProduct, MayHelp, RightAs, Shifts, count_small, count_there, helped_then, helped_unshared, outcome_type, product_helps, product_right, shift_bad, shift_helps, shift_right, spoiled, spoiled_frame, spoiled_object, spoiled_others}
use Rattle.lower_trace.proofs.Kept.{SceneLaws, at_same, bytes_small, own_copy}
use Rattle.lower_trace.proofs.Mirrors.{HasDatum, Mirrors}
use Rattle.lower_trace.proofs.Narrowing.{narrow_bytes}
use Rattle.lower_trace.proofs.Operating.{value_number}
use Rattle.lower_trace.proofs.Operations.{comes_within}
use Rattle.lower_trace.proofs.Placed.{Placed}
use Rattle.lower_trace.proofs.Returning.{Resumables, holds_frames}
use Rattle.lower_trace.proofs.Takes.{first_standing}
use Rattle.lower_trace.proofs.Updating.{changed_code, row_writes}
use Rattle.lower_trace.proofs.Written.{and_false, bytes_there}
use Rattle.pic_world.specs.World.{World, arrived, is_due, world_as}
use Rattle.src_rules.proofs.Values.{in_range}
use Rattle.src_rules.specs.Giving.{changes, take_in}
use Rattle.src_rules.specs.State.{state}
use Rattle.src_values.specs.Control.{AtWith, In, Pending, Stores, Holds as Value, Write, active}
use Rattle.src_values.specs.Data as datum
use Rattle.src_values.specs.Memory as source
use Rattle.src_values.specs.Values.{bad_right, binary_answer, change_answer, converted, number_or_overflow, then_converted, unless_bad}
use Rattle.src_values.specs.declared.objects.Byte as value
use Rattle.src_values.specs.declared.objects.Byte.TheVariants as values
use Rattle.src_values.specs.declared.objects.CopyOf.{CopyOf}
use Rattle.src_values.specs.declared.objects.Spot as spot
use Rattle.src_values.specs.declared.objects.Undef.{Undef}
use Rattle.std.proofs.Common.{Bool, List, None, Option, Some, [], ap, arith, false, if◌then◌else◌, inr, nat_lt, pos, refl, subst, sym, true, ℕ, ◌&&◌, ◌+◌, ◌∙◌, ◌∷◌, ◌≡◌, ◌≤◌}

-- What an update by an operator needs that a helper may compute.
pub record Helps (z : Scene) (cp : CopyOf) (k : List Pending) (sought : Place) (left_at right_at count : ℕ) (op : BinOp) (to : IntTy) (x y : Quantity) : Type 0 where
  pub around : Around z cp k
  pub resumable : Resumables cp.root k
  pub place : (place_type sought).ty ≡ types.Int x.ty
  pub wide : place_width (ground_in z cp).layout sought ≡ bytes_of x.ty
  pub range : IsInRange x.ty x.number
  pub wider_is : bytes_of x.ty ≤ bytes_of to
  pub two : nat_lt 1 (bytes_of to) ≡ true
  pub there : (core_in z).program.helped (number z cp) op to ≡ true
  pub right_is : right_at ≡ base (ground_in z cp) k + pointer_bytes (spot_of (ground_in z cp).layout (ground_in z cp).copy sought)
  pub left_is : left_at ≡ right_at + count
  pub fits : bytes_of y.ty ≤ count
  pub reads : right_at + bytes_of (right_type op to) ≤ (core_in z).program.frame_bytes (number z cp)
  pub room : left_at + bytes_of to ≤ (core_in z).program.frame_bytes (number z cp)

module _ (z : Scene) (laws : SceneLaws z) where
  update_case : (bad : Option Undef) (o : Option Quantity) (op : BinOp) (to : Place) (right : Expression) (t : IntTy) (size line : ℕ) (at : spot.Spot) (x y : Quantity) (left_at right_at count : ℕ) (k : List Pending) (cp : CopyOf) (l : source.Memory) (w : World value.Byte) (c : Machine) → outcome op (cut_to t x.number) y ≡ o → (bad ≡ None → (m : Memory) → HasDatum z (number z cp) right_at (datum.Number y) m → RightAs z op (cut_to t x.number) y (number z cp) right_at m) → MayHelp op → shifts_by_constant op right ≡ false
      → beyond (behind_pointer (ground_in z cp).layout (ground_in z cp).copy (base (ground_in z cp) k) to) (value_width (ground_in z cp).layout right) ≡ left_at → behind_pointer (ground_in z cp).layout (ground_in z cp).copy (base (ground_in z cp) k) to ≡ right_at
      → Helps z cp k to left_at right_at count op t x y → is_due (arrived z.outside w) ≡ false
      → Mirrors z (state cp (Value (datum.Number x)) (In (tree.Update op to right (types.Int t) size (types.Int x.ty) line) (AtWith at (datum.Number y)) ∷ k) l w) c
      → Follow z 2162 0 c (changes (then_converted (types.Int x.ty) (unless_bad bad (number_or_overflow o))) (tree.Update op to right (types.Int t) size (types.Int x.ty) line) at false (datum.Number x) line k cp l (arrived z.outside w))
  unfolding active converted
  update_case (Some kind) o op to right t size line at x y left_at right_at count k cp l w c is right_as may plain left_is right_is p due h = tt
  update_case None None op to right t size line at x y left_at right_at count k cp l w c is right_as may plain left_is right_is p due h = tt
  update_case None (Some r) op to right t size line at x y left_at right_at count k cp l w c is right_as may plain left_is right_is p due h =
      let e = tree.Update op to right (types.Int t) size (types.Int x.ty) line in
      let g = ground_in z cp in
      let n = number z cp in
      let b = base g k in
      let s = spot_of g.layout g.copy to in
      let i = place_width g.layout to in
      let W = world_as (held z) (arrived z.outside w) in
      let due_is = due_below z (arrived z.outside w) due in
      let now_is = again_below z w in
      let v = datum.Number (cut_to x.ty r.number) in
      let T = Mirrors z (state cp (Write at v 0) (In e (Stores at v) ∷ k) l (arrived z.outside w)) in
      let small = laws.small n in
      let few = bytes_small t in
      let part = bytes_small x.ty in
      let pw = p.wide in
      let pr = p.right_is in
      let pl = p.left_is in
      let pf = p.fits in
      let le = p.wider_is in
      let room = p.room in
      let cw = value_width g.layout right in
      let A = Frame g.copy b in
      let L = Frame g.copy left_at in
      let rest = code_after g (In e (Stores at v) ∷ k) in
      let R = todo (written_row s g.layout.root A L i) rest in
      let typed : bytes_of r.ty ≡ bytes_of t = ap bytes_of (outcome_type (has_no_value op t (cut_to t x.number).number y.number) op (cut_to t x.number) y r is) ∙ ap bytes_of (helped_unshared op t may) in
      let change = λ (f : Bool) (a : Byte). change_row (change_of f (types.Int t) size (constant_bits right)) op t a (right_of s A) cw in
      let now : code_after g (In e (AtWith at (datum.Number y)) ∷ k) ≡ todo (wider x.ty t (Frame n left_at)) (Todo [] (code.Binary op t (Frame n left_at) (Frame n left_at) (Frame n right_at)) ∷ R) =
      changed_code (place_type to).ty (types.Int t) (wanted k) false cw (change (shifts_by_constant op right) (left_of s A cw)) s g.layout.root A i (code_after g k)
      ∙ ap (λ f. todo (widened (place_type to).ty (types.Int t) (left_of s A cw)) (todo (copies_if f (lower.behind (left_of s A cw) cw) (left_of s A cw) i) (todo (change (shifts_by_constant op right) (left_of s A cw)) (todo (written_row s g.layout.root A (left_of s A cw) i) rest)))) (and_false (wanted k) false refl)
      ∙ ap (λ f. todo (widened f (types.Int t) (left_of s A cw)) (todo (change (shifts_by_constant op right) (left_of s A cw)) (todo (written_row s g.layout.root A (left_of s A cw) i) rest))) p.place
      ∙ ap (λ f. todo (wider x.ty t (left_of s A cw)) (todo (change f (left_of s A cw)) (todo (written_row s g.layout.root A (left_of s A cw) i) rest))) plain
      ∙ ap (λ f. todo (wider x.ty t (Frame g.copy f)) (Todo [] (code.Binary op t (Frame g.copy f) (Frame g.copy f) (right_of s A)) ∷ todo (written_row s g.layout.root A (Frame g.copy f) i) rest)) left_is
      ∙ ap (λ f. todo (wider x.ty t L) (Todo [] (code.Binary op t L L (Frame g.copy f)) ∷ R)) right_is
      ∙ ap (λ f. todo (wider x.ty t (Frame f left_at)) (Todo [] (code.Binary op t (Frame f left_at) (Frame f left_at) (Frame f right_at)) ∷ R)) (own_copy z cp) in
      let hx : HasDatum z n left_at (datum.Number x) c.memory = subst (λ f. HasDatum z f left_at (datum.Number x) c.memory) (own_copy z cp) (subst (λ f. HasDatum z g.copy f (datum.Number x) c.memory) left_is h.value) in
      let hy : HasDatum z n right_at (datum.Number y) c.memory = subst (λ f. HasDatum z f right_at (datum.Number y) c.memory) (own_copy z cp) (subst (λ f. HasDatum z g.copy f (datum.Number y) c.memory) right_is (h.holds.0.1 plain)) in
      let later : R ≡ writing z g.layout.root s at A (Frame g.copy (stored g b e)) i 0 rest =
      row_writes z g.layout.root s at A L i rest ∙ ap (λ f. writing z g.layout.root s at A (Frame g.copy f) i 0 rest) (sym left_is) in
      comes_within (core_in z) T (24 + (2138 + 0)) 0 2162 0 c
      (widen_then z (core_in z) T n (stack_after z g k) W due_is now_is small t x left_at (Todo [] (code.Binary op t (Frame n left_at) (Frame n left_at) (Frame n right_at)) ∷ R) c.memory c (2138 + 0) 0 p.range le room hx
      (subst (λ f. Placed (core_in z) n None f (stack_after z g k) c.memory W c) now (placed_of z (state cp (Value (datum.Number x)) (In e (AtWith at (datum.Number y)) ∷ k) l w) c h))
      (λ d1 m1 above1 h1 p1.
      let ra = right_as refl m1 (datum_above z n right_at left_at (datum.Number y) c.memory m1 (omega arith) above1 hy) in
      helped_then z (core_in z) T n (stack_after z g k) W due_is now_is op t left_at right_at (cut_to t x.number) ra.u r R m1 d1 0 0 may p.two few p.there room p.reads (omega arith) (value_number z n left_at (cut_to t x.number) m1 (in_range t x.number) h1) ra.there (ra.alike ∙ is) p1
      (λ helped d pd.
      let m2 = spoiled helped ((core_in z).program.root n) m1 in
      let m' = with_bytes m2 (Frame n left_at) (bytes_of r.ty) (core.byte_of (core.Number r)) in
      let above2 = above_written n left_at left_at (bytes_of r.ty) m2 (core.byte_of (core.Number r)) (omega arith) in
      arrive z cp (Write at v 0) (In e (Stores at v) ∷ k) l w m' d (subst (λ f. Placed (core_in z) n None f (stack_after z g k) m' W d) later pd)
      (agrees_above z laws cp (active cp (Write at v 0) (In e (Stores at v) ∷ k)) l m2 m' left_at p.around.reached (let q = value_high z cp k p.around in omega arith) above2
      (agrees_same z (active cp (Write at v 0) (In e (Stores at v) ∷ k)) l m1 m2 (λ o a th lt. spoiled_object z helped ((core_in z).program.root n) m1 o a)
      (agrees_above z laws cp (active cp (Write at v 0) (In e (Stores at v) ∷ k)) l c.memory m1 left_at p.around.reached (let q = value_high z cp k p.around in omega arith) above1 h.agrees))) (
        at_same z g.copy b s at c.memory m' (λ f ge lt. subst (λ j. m' (Frame j f) ≡ c.memory (Frame j f)) (sym (own_copy z cp)) (above2 (Frame n f) (inr (omega arith)) ∙ spoiled_frame helped ((core_in z).program.root n) m1 n f ∙ above1 (Frame n f) (inr (omega arith)))) h.holds.0.0,
        holds_above z cp k m2 m' left_at p.around (omega arith) above2 (holds_frames z cp.root cp k m1 m2 p.resumable (λ j f. spoiled_frame helped ((core_in z).program.root n) m1 j f) (spoiled_others helped ((core_in z).program.root n) cp.root m1 (laws.roots cp p.around.reached)) (holds_above z cp k c.memory m1 left_at p.around (omega arith) above1 h.holds.1)),
      )
      (subst (λ q. HasDatum z g.copy (stored g b e) q m') (sym (first_standing at v))
      (λ j lt. ap (λ f. m' (Frame f (stored g b e + j))) (own_copy z cp) ∙ ap (λ f. m' (Frame n (f + j))) left_is ∙ bytes_there m2 n left_at (bytes_of r.ty) (core.byte_of (core.Number r)) j (omega arith) ∙ ap (λ f. held z (values.Number f)) (sym (narrow_bytes r.ty x.ty r.number j (omega arith) lt)))))))
      (omega arith) (omega arith)

  pub update_product : (op : BinOp) (to : Place) (right : Expression) (t : IntTy) (size line : ℕ) (at : spot.Spot) (x y : Quantity) (left_at right_at count : ℕ) (k : List Pending) (cp : CopyOf) (l : source.Memory) (w : World value.Byte) (c : Machine) → IsProduct op → y.ty ≡ t → IsInRange y.ty y.number
      → beyond (behind_pointer (ground_in z cp).layout (ground_in z cp).copy (base (ground_in z cp) k) to) (value_width (ground_in z cp).layout right) ≡ left_at → behind_pointer (ground_in z cp).layout (ground_in z cp).copy (base (ground_in z cp) k) to ≡ right_at
      → Helps z cp k to left_at right_at count op t x y → is_due (arrived z.outside w) ≡ false
      → Mirrors z (state cp (Value (datum.Number x)) (In (tree.Update op to right (types.Int t) size (types.Int x.ty) line) (AtWith at (datum.Number y)) ∷ k) l w) c
      → Follow z 2162 0 c (take_in (source_in z) (tree.Update op to right (types.Int t) size (types.Int x.ty) line) (AtWith at (datum.Number y)) (datum.Number x) k cp l (arrived z.outside w))
  unfolding change_answer converted binary_answer
  update_product op to right t size line at x y left_at right_at count k cp l w c product yt yr left_is right_is p due h =
      let pr = product_right op t product in
      update_case (bad_right op (types.Int t) (datum.Number y)) (outcome op (cut_to t x.number) y) op to right t size line at x y left_at right_at count k cp l w c refl
      (λ none m hy. record { u = y; there = ap (λ q. value_in q m (Frame (number z cp) right_at)) (pr.0 ∙ sym yt) ∙ value_number z (number z cp) right_at y m yr hy; alike = refl })
      (product_helps op product) (ap (λ f. f && is_constant right) pr.1) left_is right_is p due h

  pub update_shift : (op : BinOp) (to : Place) (right : Expression) (t : IntTy) (size line : ℕ) (at : spot.Spot) (x y : Quantity) (left_at right_at count : ℕ) (k : List Pending) (cp : CopyOf) (l : source.Memory) (w : World value.Byte) (c : Machine) → Shifts op → shifts_by_constant op right ≡ false
      → beyond (behind_pointer (ground_in z cp).layout (ground_in z cp).copy (base (ground_in z cp) k) to) (value_width (ground_in z cp).layout right) ≡ left_at → behind_pointer (ground_in z cp).layout (ground_in z cp).copy (base (ground_in z cp) k) to ≡ right_at
      → Helps z cp k to left_at right_at count op t x y → is_due (arrived z.outside w) ≡ false
      → Mirrors z (state cp (Value (datum.Number x)) (In (tree.Update op to right (types.Int t) size (types.Int x.ty) line) (AtWith at (datum.Number y)) ∷ k) l w) c
      → Follow z 2162 0 c (take_in (source_in z) (tree.Update op to right (types.Int t) size (types.Int x.ty) line) (AtWith at (datum.Number y)) (datum.Number x) k cp l (arrived z.outside w))
  unfolding change_answer converted binary_answer
  update_shift op to right t size line at x y left_at right_at count k cp l w c shift plain left_is right_is p due h =
      let rt = shift_right op t shift in
      let x0 = cut_to t x.number in
      update_case (bad_right op (types.Int t) (datum.Number y)) (outcome op x0 y) op to right t size line at x y left_at right_at count k cp l w c refl
      (λ none m hy.
      let q = count_small t y.number (shift_bad op t y shift none) in
      record {
        u = record { ty = int.UChar; number = pos q.0 };
        there = ap (λ ty. value_in ty m (Frame (number z cp) right_at)) rt ∙ count_there z (number z cp) right_at q.0 y m q.1 q.2 hy;
        alike = ap (λ i. if has_no_value op t x0.number i then None else Some (cut_to (numbers.type_of op t) (numbers.exact op t x0.number i))) (sym q.1);
      })
      (shift_helps op shift) plain left_is right_is p due h

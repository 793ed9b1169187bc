-- How many words each kind of expression takes, given those of its parts.
use Rattle.std.proofs.Common.{◌≡◌, ℕ, ◌+◌, ◌*◌, ◌≤◌, Bool, true, false, ◌&&◌, List, [], ◌∷◌, ◌++◌, refl, sym, ap, ◌∙◌, subst, arith}
use Rattle.c_ints.specs.Range.{bytes_of}
use Rattle.c_ints.specs.declared.operators.BinOp.{BinOp}
use Rattle.c_ints.specs.declared.operators.BinOp.TheVariants as binop
use Rattle.c_ints.specs.declared.operators.UnOp.{UnOp}
use Rattle.c_ints.specs.declared.operators.UnOp.TheVariants as unop
use Rattle.c_ints.specs.declared.types.IntTy.TheVariants.{UInt}
use Rattle.c_typed.specs.Folding.{constant_bits}
use Rattle.c_typed.specs.Room.{arguments_bytes}
use Rattle.c_typed.specs.Rules.{unary_fits, binary_fits, moves_by, update_fits, step_fits}
use Rattle.c_typed.specs.Trees as tree
use Rattle.c_typed.specs.Trees.{Expression, Expressions, Place, Program}
use Rattle.c_typed.specs.Types.{type_bytes, type_of, place_type, place_bytes, form_of, member_form, is_constant}
use Rattle.c_typed.specs.Words.{read_words, store_words, address_words, convert_words, unary_words, operator_words, change_words, offset_words, update_words, struct_words, step_operator, step_words}
use Rattle.c_typed.specs.declared.expression.LogicalOp.{LogicalOp}
use Rattle.c_typed.specs.declared.expression.PlaceForm.{PlaceForm}
use Rattle.c_typed.specs.declared.expression.PlaceForm.TheVariants as form
use Rattle.c_typed.specs.declared.expression.StepOp.{StepOp}
use Rattle.c_typed.specs.declared.expression.StepOp.TheVariants.{PreIncrement, PreDecrement, PostIncrement, PostDecrement}
use Rattle.c_typed.specs.declared.types.Ty.{Ty}
use Rattle.c_typed.specs.declared.types.Ty.TheVariants.{Void, Int, Pointer}
use Rattle.call_graph.specs.declared.types.FnCopy.{FnCopy}
use Rattle.core_code.specs.Tree as code
use Rattle.core_code.specs.Tree.{Tree}
use Rattle.core_code.specs.declared.code.Byte.{Byte}
use Rattle.core_code.specs.declared.code.Byte.TheVariants as bytes
use Rattle.core_puts.specs.Bytes.{beyond, behind, operation_type}
use Rattle.lower_expr.specs.Layout.{Layout, width, value_width, place_width}
use Rattle.lower_expr.specs.Lowering.{shifts_by_constant, change_code, arguments_width, update_of, step_of}
use Rattle.core_puts.specs.Puts.{copies_if, sets, operator, test_size, choice}
use Rattle.lower_expr.specs.Rows.{is_shift, type_of_size, unary_row, binary_row, value_row, read_row, written_row, widened, logical_row, tested, change_of, change_row, given_byte, update_row, step_row, step_number, keeps_old, called_row, struct_row, assigned_row, address_row}
use Rattle.lower_expr.specs.Spots.{spot_of, member_spot, pointer_bytes}
use Rattle.lower_expr.specs.declared.places.Spot.{Spot}
use Rattle.lower_expr.specs.declared.places.Spot.TheVariants.{Fixed, Bit, Computed}
use Rattle.pic_world.specs.declared.Root.{Root}
use Rattle.select_code.specs.declared.control.Ending.{Ending}
use Rattle.program_code.proofs.Chain.{never}
use Rattle.program_code.proofs.Paying.{IsMine, own_frame}
use Rattle.program_code.proofs.Operators.{whole_bytes, binary_most}
use Rattle.program_code.proofs.Lowered.{Takes, takes_on, takes_more, takes_none, test_most}
use Rattle.program_code.proofs.Puts.{mine_lower, sets_takes, near_if, widened_takes, operator_takes, choice_takes, test_four}
use Rattle.program_code.proofs.Rows.{form_at, some_bytes, sum_words, binary_takes, minus_takes, not_takes, bang_takes, truth_takes, logical_takes, moved_takes, address_takes, read_takes, value_takes, written_takes, assigned_takes, called_takes, struct_takes}
use Rattle.program_code.proofs.Typing.{Operates, OnInteger, OnPointer, unary_number, binary_number, binary_small, update_operates, step_operates}

-- ---- sizes
pub width_within : (l : Layout) (ty : Ty) → width l ty ≤ type_bytes l.sizes ty
unfolding beyond
width_within l ty = omega arith

beyond_within : (before w : ℕ) → beyond before w ≤ before + w
unfolding beyond
beyond_within before w = omega arith

-- as many bytes, as far as 16 bits hold them, and at least one
pub width_some : (l : Layout) (ty : Ty) → 1 ≤ type_bytes l.sizes ty → 1 ≤ width l ty
unfolding beyond
width_some l ty e = omega (arith, e)

pub form_same : (l : Layout) (c : ℕ) (place : Place) → form_at (spot_of l c place) ≡ form_of place
unfolding spot_of
form_same l c (tree.Name object ty line) = refl
form_same l c (tree.Bit register bit line) = refl
form_same l c (tree.Deref pointer ty line) = refl
form_same l c (tree.Member whole member offset ty line) = by_spot (spot_of l c whole) (form_of whole) (form_same l c whole)
  where
    by_spot : (spot : Spot) (f : PlaceForm) → form_at spot ≡ f → form_at (member_spot spot offset) ≡ member_form f
    by_spot (Fixed byte) f e = ap member_form e
    by_spot (Bit register bit) f e = ap member_form e
    by_spot Computed f e = ap member_form e

read_more : (f : PlaceForm) (w v : ℕ) → w ≤ v → read_words f w ≤ read_words f v
read_more form.Fixed w v l = omega (arith, l)
read_more form.Bit w v l = omega arith
read_more form.Computed w v l = omega (arith, l)

store_more : (f : PlaceForm) (w v : ℕ) → w ≤ v → store_words f w ≤ store_words f v
store_more form.Fixed w v l = omega (arith, l)
store_more form.Bit w v l = omega arith
store_more form.Computed w v l = omega (arith, l)

-- a place's reads and writes, by its form and no fewer bytes
pub reached_words : (l : Layout) (c : ℕ) (place : Place) (w v : ℕ) → w ≤ v → read_words (form_at (spot_of l c place)) w ≤ read_words (form_of place) v
reached_words l c place w v h =
    let e = ap (λ f. read_words f w) (form_same l c place) in
    let m = read_more (form_of place) w v h in
    omega (arith, e, m)

pub stored_words : (l : Layout) (c : ℕ) (place : Place) (w v : ℕ) → w ≤ v → store_words (form_at (spot_of l c place)) w ≤ store_words (form_of place) v
stored_words l c place w v h =
    let e = ap (λ f. store_words f w) (form_same l c place) in
    let m = store_more (form_of place) w v h in
    omega (arith, e, m)

module _ (list : List FnCopy) (root : Root) (end : Ending) (l : Layout) (c : ℕ) where
  -- the first temporary byte
  abbrev pub base_byte : ℕ → Byte
  base_byte base = bytes.Frame c base

  pub mine : (base : ℕ) → IsMine c (bytes.Frame c base)
  mine base = own_frame c base

  pub constant_node : (base number w : ℕ) → Takes list root end c (4 * w) (sets (bytes.Frame c base) number w)
  constant_node base number w = sets_takes list root end c (bytes.Frame c base) number w (mine base)

  pub read_node : (base : ℕ) (place : Place) (ty : Ty) (n : ℕ) (address : List Tree) → Takes list root end c n address
      → Takes list root end c (read_words (form_of place) (type_bytes l.sizes ty) + n) (address ++ value_row (spot_of l c place) (bytes.Frame c base) (width l ty))
  read_node base place ty n address p =
      let spot = spot_of l c place in
      let m = reached_words l c place (width l ty) (type_bytes l.sizes ty) (width_within l ty) in
      takes_more list root end c (n + read_words (form_at spot) (width l ty)) (read_words (form_of place) (type_bytes l.sizes ty) + n) (address ++ value_row spot (bytes.Frame c base) (width l ty)) (omega (arith, m))
      (takes_on list root end c n (read_words (form_at spot) (width l ty)) address (value_row spot (bytes.Frame c base) (width l ty)) p (value_takes list root end c spot (bytes.Frame c base) (width l ty) (mine base)))

  pub address_node : (base : ℕ) (place : Place) (n : ℕ) (address : List Tree) → Takes list root end c n address
      → Takes list root end c (address_words (form_of place) + n) (address ++ address_row (spot_of l c place) (bytes.Frame c base))
  address_node base place n address p =
      let spot = spot_of l c place in
      let e = ap address_words (form_same l c place) in
      takes_more list root end c (n + address_words (form_at spot)) (address_words (form_of place) + n) (address ++ address_row spot (bytes.Frame c base)) (omega (arith, e))
      (takes_on list root end c n (address_words (form_at spot)) address (address_row spot (bytes.Frame c base)) p (address_takes list root end c spot (bytes.Frame c base) (mine base)))

  pub convert_node : (base : ℕ) (from to : Ty) (n : ℕ) (operand : List Tree) → Takes list root end c n operand
      → Takes list root end c (convert_words (type_bytes l.sizes from) (type_bytes l.sizes to) + n) (operand ++ widened from to (bytes.Frame c base))
  convert_node base from to n operand p =
      let w = convert_words (type_bytes l.sizes from) (type_bytes l.sizes to) in
      takes_more list root end c (n + w) (w + n) (operand ++ widened from to (bytes.Frame c base)) (omega arith) (takes_on list root end c n w operand (widened from to (bytes.Frame c base)) p (widened_takes list root end c l.sizes from to (bytes.Frame c base) (mine base)))

  unary_takes : (op : UnOp) (base : ℕ) (from ty : Ty) → unary_fits op from ty ≡ true → Takes list root end c (unary_words op (type_bytes l.sizes from) (type_bytes l.sizes ty)) (unary_row op (operation_type ty) (bytes.Frame c base) (width l from))
  unary_takes unop.Plus base from ty e = takes_more list root end c 0 (convert_words (type_bytes l.sizes from) (type_bytes l.sizes ty)) [] (omega arith) (takes_none list root end c)
  unary_takes unop.Minus base from ty e =
      let same = unary_number l.sizes from ty e in
      takes_more list root end c (10 * bytes_of (operation_type ty)) (10 * type_bytes l.sizes ty) (unary_row unop.Minus (operation_type ty) (bytes.Frame c base) (width l from)) (omega (arith, same)) (minus_takes list root end c (operation_type ty) (bytes.Frame c base) (mine base))
  unary_takes unop.Not base from ty e =
      let same = unary_number l.sizes from ty e in
      takes_more list root end c (4 * bytes_of (operation_type ty)) (4 * type_bytes l.sizes ty) (unary_row unop.Not (operation_type ty) (bytes.Frame c base) (width l from)) (omega (arith, same)) (not_takes list root end c (operation_type ty) (bytes.Frame c base) (mine base))
  unary_takes unop.Bang base from ty e =
      let of_size = type_of_size (width l from) in
      let b = whole_bytes of_size in
      let same = b.1 in
      let few = b.2 in
      takes_more list root end c (bytes_of of_size + 8) (4 * type_bytes l.sizes from + 16) (code.Unary unop.Bang of_size (bytes.Frame c base) ∷ []) (omega (arith, same, few)) (bang_takes list root end c of_size (bytes.Frame c base) (mine base))

  pub unary_node : (op : UnOp) (base : ℕ) (from ty : Ty) (n : ℕ) (operand : List Tree) → unary_fits op from ty ≡ true → Takes list root end c n operand
      → Takes list root end c (unary_words op (type_bytes l.sizes from) (type_bytes l.sizes ty) + n) (operand ++ unary_row op (operation_type ty) (bytes.Frame c base) (width l from))
  unary_node op base from ty n operand e p =
      let w = unary_words op (type_bytes l.sizes from) (type_bytes l.sizes ty) in
      takes_more list root end c (n + w) (w + n) (operand ++ unary_row op (operation_type ty) (bytes.Frame c base) (width l from)) (omega arith) (takes_on list root end c n w operand (unary_row op (operation_type ty) (bytes.Frame c base) (width l from)) p (unary_takes op base from ty e))

  -- an operand that has no code takes nothing
  pub right_takes : (left_out : Bool) (n : ℕ) (right : List Tree) → Takes list root end c n right → Takes list root end c n (change_code left_out right)
  right_takes true n right p = takes_more list root end c 0 n [] (omega arith) (takes_none list root end c)
  right_takes false n right p = p

  pub binary_node : (p : Program) (op : BinOp) (base : ℕ) (left right ty : Ty) (constant : Bool) (count n m : ℕ) (first second : List Tree) → binary_fits p op left right ty ≡ true → Takes list root end c n first → Takes list root end c m second
      → Takes list root end c (operator_words op constant (type_bytes l.sizes left) + (n + m)) (first ++ change_code (is_shift op && constant) second ++ binary_row (is_shift op && constant) op (operation_type left) (bytes.Frame c base) (bytes.Frame c (beyond base (width l left))) count (width l right))
  binary_node p op base left right ty constant count n m first second e f s =
      let shifts = is_shift op && constant in
      let row = binary_row shifts op (operation_type left) (bytes.Frame c base) (bytes.Frame c (beyond base (width l left))) count (width l right) in
      let same = ap (operator_words op constant) (binary_number l.sizes p op left right ty e) in
      let small = binary_small l.sizes p op left right ty e in
      let w = width_within l right in
      takes_more list root end c (n + m + operator_words op constant (bytes_of (operation_type left))) (operator_words op constant (type_bytes l.sizes left) + (n + m)) (first ++ change_code shifts second ++ row) (omega (arith, same))
      (takes_on list root end c (n + m) (operator_words op constant (bytes_of (operation_type left))) (first ++ change_code shifts second) row (takes_on list root end c n m first (change_code shifts second) f (right_takes shifts m second s))
      (binary_takes list root end c shifts op constant (operation_type left) (bytes.Frame c base) (bytes.Frame c (beyond base (width l left))) count (width l right) (mine base) (mine (beyond base (width l left))) refl (λ k. omega (arith, small, w))))

  pub three_node : (n m k : ℕ) (first second row : List Tree) → Takes list root end c n first → Takes list root end c m second → Takes list root end c k row → Takes list root end c (k + (n + m)) (first ++ second ++ row)
  three_node n m k first second row f s r = takes_more list root end c (n + m + k) (k + (n + m)) (first ++ second ++ row) (omega arith) (takes_on list root end c (n + m) k (first ++ second) row (takes_on list root end c n m first second f s) r)

  pub logical_node : (op : LogicalOp) (base : ℕ) (left right : Ty) (n m : ℕ) (first second : List Tree) → Takes list root end c n first → Takes list root end c m second
      → Takes list root end c (4 * type_bytes l.sizes left + 4 * type_bytes l.sizes right + 30 + (n + m)) (first ++ logical_row op (bytes.Frame c base) (width l left) (second ++ tested (bytes.Frame c base) (width l right) 1 0 ∷ []) ∷ [])
  logical_node op base left right n m first second f s =
      let at = bytes.Frame c base in
      let inner = second ++ tested at (width l right) 1 0 ∷ [] in
      let a = width_within l left in
      let b = width_within l right in
      takes_more list root end c (n + (4 * width l left + 13 + (m + (4 * width l right + 17)))) (4 * type_bytes l.sizes left + 4 * type_bytes l.sizes right + 30 + (n + m)) (first ++ logical_row op at (width l left) inner ∷ []) (omega (arith, a, b))
      (takes_on list root end c n (4 * width l left + 13 + (m + (4 * width l right + 17))) first (logical_row op at (width l left) inner ∷ []) f
      (logical_takes list root end c op at (width l left) (m + (4 * width l right + 17)) inner (mine base)
      (takes_on list root end c m (4 * width l right + 17) second (tested at (width l right) 1 0 ∷ []) s (truth_takes list root end c at (width l right) (mine base)))))

  pub choice_node : (base : ℕ) (condition : Ty) (n h f : ℕ) (first held failed : List Tree) → Takes list root end c n first → Takes list root end c h held → Takes list root end c f failed
      → Takes list root end c (4 * type_bytes l.sizes condition + 20 + (n + (h + f))) (first ++ choice (bytes.Frame c base) (width l condition) held failed ∷ [])
  choice_node base condition n h f first held failed p q r =
      let t = test_four (width l condition) in
      let w = width_within l condition in
      let row = choice (bytes.Frame c base) (width l condition) held failed in
      takes_more list root end c (n + (test_most (test_size (width l condition)) + 7 + h + f)) (4 * type_bytes l.sizes condition + 20 + (n + (h + f))) (first ++ row ∷ []) (omega (arith, t, w))
      (takes_on list root end c n (test_most (test_size (width l condition)) + 7 + h + f) first (row ∷ []) p (choice_takes list root end c (bytes.Frame c base) (width l condition) h f held failed (mine base) q r))

  -- ---- assignments
  pub assign_node : (wanted : Bool) (r : Root) (base : ℕ) (place : Place) (ty : Ty) (n m : ℕ) (address value : List Tree) → Takes list root end c n address → Takes list root end c m value
      → Takes list root end c (store_words (form_of place) (type_bytes l.sizes ty) + (n + m)) (address ++ value ++ assigned_row wanted (spot_of l c place) r (bytes.Frame c base) (width l ty))
  assign_node wanted r base place ty n m address value p q =
      let s = stored_words l c place (width l ty) (type_bytes l.sizes ty) (width_within l ty) in
      let row = assigned_row wanted (spot_of l c place) r (bytes.Frame c base) (width l ty) in
      takes_more list root end c (store_words (form_at (spot_of l c place)) (width l ty) + (n + m)) (store_words (form_of place) (type_bytes l.sizes ty) + (n + m)) (address ++ value ++ row) (omega (arith, s))
      (three_node n m (store_words (form_at (spot_of l c place)) (width l ty)) address value row p q (assigned_takes list root end c wanted (spot_of l c place) r (bytes.Frame c base) (width l ty) (mine base)))

  pub struct_node : (r : Root) (base : ℕ) (place from : Place) (size n m : ℕ) (address other : List Tree) → Takes list root end c n address → Takes list root end c m other
      → Takes list root end c (struct_words (form_of place) (form_of from) size + (n + m)) (address ++ other ++ struct_row r (spot_of l c place) (spot_of l c from) (bytes.Frame c base) size)
  struct_node r base place from size n m address other p q =
      let row = struct_row r (spot_of l c place) (spot_of l c from) (bytes.Frame c base) size in
      let e = ap (λ f. struct_words f (form_at (spot_of l c from)) size) (form_same l c place) ∙ ap (λ f. struct_words (form_of place) f size) (form_same l c from) in
      subst (λ (k : ℕ). Takes list root end c (k + (n + m)) (address ++ other ++ row)) e
      (three_node n m (struct_words (form_at (spot_of l c place)) (form_at (spot_of l c from)) size) address other row p q (struct_takes list root end c r (spot_of l c place) (spot_of l c from) (bytes.Frame c base) size (mine base)))

  -- ---- updates
  change_takes : (op : BinOp) (constant : Bool) (place value operation : Ty) (left right : Byte) (number size count : ℕ) → IsMine c left → IsMine c right → Operates l.sizes op place value operation → (type_bytes l.sizes value ≤ 4 → (is_shift op && constant) ≡ true → count ≤ 4)
      → Takes list root end c (change_words op constant operation (type_bytes l.sizes operation) size) (change_row (change_of (is_shift op && constant) operation size number) op (operation_type operation) left right count)
  change_takes op constant place value operation left right number size count h g (OnInteger ty is room small) few =
      subst (λ (t : Ty). Takes list root end c (change_words op constant t (type_bytes l.sizes t) size) (change_row (change_of (is_shift op && constant) t size number) op (operation_type t) left right count)) (sym is)
      (by_shift (is_shift op && constant) refl)
    where
      by_shift : (b : Bool) → (is_shift op && constant) ≡ b → Takes list root end c (operator_words op constant (bytes_of ty)) (change_row (change_of b (Int ty) size number) op ty left right count)
      by_shift true e = binary_takes list root end c true op constant ty left right number count h g e (λ k. few small e)
      by_shift false e = binary_takes list root end c false op constant ty left right number count h g e (λ k. never k)
  change_takes op constant place value operation left right number size count h g (OnPointer target is room moves) few =
      subst (λ (t : Ty). Takes list root end c (change_words op constant t (type_bytes l.sizes t) size) (change_row (change_of (is_shift op && constant) t size number) op (operation_type t) left right count)) (sym is)
      (subst (λ (b : Bool). Takes list root end c (offset_words size) (change_row (change_of b (Pointer target) size number) op (operation_type (Pointer target)) left right count)) (sym (no_shift op constant moves))
      (moved_takes list root end c op left right (behind left 2) size moves h g (mine_lower c left 2 h)))
    where
      no_shift : (op : BinOp) (constant : Bool) → moves_by op ≡ true → (is_shift op && constant) ≡ false
      no_shift binop.Add constant e = refl
      no_shift binop.Sub constant e = refl
      no_shift binop.Shl constant e = never e
      no_shift binop.Shr constant e = never e
      no_shift binop.Mul constant e = never e
      no_shift binop.Div constant e = never e
      no_shift binop.Rem constant e = never e
      no_shift binop.Lt constant e = never e
      no_shift binop.Gt constant e = never e
      no_shift binop.Le constant e = never e
      no_shift binop.Ge constant e = never e
      no_shift binop.Eq constant e = never e
      no_shift binop.Ne constant e = never e
      no_shift binop.And constant e = never e
      no_shift binop.Xor constant e = never e
      no_shift binop.Or constant e = never e

  given_mine : (keeps : Bool) (old left : Byte) → IsMine c old → IsMine c left → IsMine c (given_byte keeps old left)
  given_mine true old left h g = h
  given_mine false old left h g = g

  -- so many words of the operator, and the others by the bytes of the place
  update_at_takes : (operation : Ty) (kept wanted : Bool) (change : List Tree) (spot : Spot) (r : Root) (w : ℕ) (from : Ty) (at left old value : Byte) (k : ℕ) → IsMine c at → IsMine c left → IsMine c old → IsMine c value → Takes list root end c k change
      → Takes list root end c (read_words (form_at spot) w + convert_words (type_bytes l.sizes from) (type_bytes l.sizes operation) + (2 * w + 2) + k + store_words (form_at spot) w + (2 * w + 2))
      (read_row spot at left w ++ widened from operation left ++ copies_if kept old left w ++ change ++ written_row spot r at left w ++ copies_if wanted at value w)
  update_at_takes operation kept wanted change spot r w from at left old value k h g f v p =
      let a = read_row spot at left w in
      let b = widened from operation left in
      let d = copies_if kept old left w in
      let s = written_row spot r at left w in
      let x = read_words (form_at spot) w in
      let y = convert_words (type_bytes l.sizes from) (type_bytes l.sizes operation) in
      let z = store_words (form_at spot) w in
      let m = 2 * w + 2 in
      takes_on list root end c (x + y + m + k + z) m (a ++ b ++ d ++ change ++ s) (copies_if wanted at value w)
      (takes_on list root end c (x + y + m + k) z (a ++ b ++ d ++ change) s
      (takes_on list root end c (x + y + m) k (a ++ b ++ d) change
      (takes_on list root end c (x + y) m (a ++ b) d
      (takes_on list root end c x y a b (read_takes list root end c spot at left w h g) (widened_takes list root end c l.sizes from operation left g))
      (near_if list root end c kept old left w f g))
      p)
      (written_takes list root end c spot r at left w h g))
      (near_if list root end c wanted at value w h v)

  operates_room : (op : BinOp) (place value operation : Ty) → Operates l.sizes op place value operation → (type_bytes l.sizes place ≤ type_bytes l.sizes operation) × (1 ≤ type_bytes l.sizes operation)
  operates_room op place value operation (OnInteger ty is room small) =
      let e = ap (type_bytes l.sizes) is in
      let some = some_bytes ty in
      (omega (arith, e, room), omega (arith, e, some))
  operates_room op place value operation (OnPointer target is room moves) =
      let e = ap (type_bytes l.sizes) is in
      (omega (arith, e, room), omega (arith, e))

  pub update_node : (p : Program) (wanted : Bool) (op : BinOp) (place : Place) (value : Expression) (operation : Ty) (size : ℕ) (ty : Ty) (r : Root) (base n m : ℕ) (address other : List Tree) → update_fits p op (place_type place) (type_of value) operation size ty ≡ true
      → Takes list root end c n address → Takes list root end c m other
      → Takes list root end c (update_words op (is_constant value) (form_of place) (place_bytes l.sizes place) operation (type_bytes l.sizes operation) size + (n + m))
      (address ++ change_code (shifts_by_constant op value) other ++ update_row (update_of wanted l op place value operation size) (spot_of l c place) r (bytes.Frame c base) (place_width l place) (place_type place).ty)
  update_node p wanted op place value operation size ty r base n m address other e f g =
      let operates = update_operates l.sizes p op (place_type place) (type_of value) operation size ty e in
      let room = operates_room op (place_type place).ty (type_of value) operation operates in
      let count = width_within l (type_of value) in
      let at = bytes.Frame c base in
      let spot = spot_of l c place in
      let right = behind at (pointer_bytes spot) in
      let left = behind right (value_width l value) in
      let old = behind left (value_width l value) in
      let h = mine base in
      let y = mine_lower c at (pointer_bytes spot) h in
      let x = mine_lower c right (value_width l value) y in
      let o = mine_lower c left (value_width l value) x in
      let w = place_width l place in
      let within = width_within l (place_type place).ty in
      let reads = reached_words l c place w (place_bytes l.sizes place) within in
      let stores = stored_words l c place w (place_bytes l.sizes place) within in
      let K = change_words op (is_constant value) operation (type_bytes l.sizes operation) size in
      let less = room.0 in
      let some = room.1 in
      let all = read_words (form_at spot) w + convert_words (place_bytes l.sizes place) (type_bytes l.sizes operation) + (2 * w + 2) + K + store_words (form_at spot) w + (2 * w + 2) in
      let change = change_row (change_of (shifts_by_constant op value) operation size (constant_bits value)) op (operation_type operation) left right (value_width l value) in
      takes_more list root end c (all + (n + m)) (update_words op (is_constant value) (form_of place) (place_bytes l.sizes place) operation (type_bytes l.sizes operation) size + (n + m))
      (address ++ change_code (shifts_by_constant op value) other ++ update_row (update_of wanted l op place value operation size) spot r at w (place_type place).ty) (omega (arith, within, reads, stores, less, some))
      (three_node n m all address (change_code (shifts_by_constant op value) other) (update_row (update_of wanted l op place value operation size) spot r at w (place_type place).ty) f (right_takes (shifts_by_constant op value) m other g)
      (update_at_takes operation (wanted && false) wanted change spot r w (place_type place).ty at left old left K h x o x
      (change_takes op (is_constant value) (place_type place).ty (type_of value) operation left right (constant_bits value) size (value_width l value) x y operates (λ small shift. omega (arith, small, count)))))

  -- ---- steps
  step_change : (op : BinOp) (place operation : Ty) (left right : Byte) (size : ℕ) → moves_by op ≡ true → IsMine c left → IsMine c right → Operates l.sizes op place Void operation
      → Takes list root end c (change_words op true operation (type_bytes l.sizes operation) size) (operator op (operation_type operation) left right ∷ [])
  step_change op place operation left right size moves h g (OnInteger ty is room small) =
      subst (λ (t : Ty). Takes list root end c (change_words op true t (type_bytes l.sizes t) size) (operator op (operation_type t) left right ∷ [])) (sym is)
      (binary_takes list root end c false op true ty left right 0 0 h g (no_shift op moves) (λ k. never k))
    where
      no_shift : (op : BinOp) → moves_by op ≡ true → (is_shift op && true) ≡ false
      no_shift binop.Add e = refl
      no_shift binop.Sub e = refl
      no_shift binop.Shl e = never e
      no_shift binop.Shr e = never e
      no_shift binop.Mul e = never e
      no_shift binop.Div e = never e
      no_shift binop.Rem e = never e
      no_shift binop.Lt e = never e
      no_shift binop.Gt e = never e
      no_shift binop.Le e = never e
      no_shift binop.Ge e = never e
      no_shift binop.Eq e = never e
      no_shift binop.Ne e = never e
      no_shift binop.And e = never e
      no_shift binop.Xor e = never e
      no_shift binop.Or e = never e
  step_change op place operation left right size moves h g (OnPointer target is room moves_too) =
      let w = sum_words op 2 moves in
      subst (λ (t : Ty). Takes list root end c (change_words op true t (type_bytes l.sizes t) size) (operator op (operation_type t) left right ∷ [])) (sym is)
      (takes_more list root end c (binary_most op 2 + 2) (offset_words size) (operator op UInt left right ∷ []) (omega (arith, w)) (operator_takes list root end c op UInt left right h g))

  step_moves : (op : StepOp) → moves_by (step_operator op) ≡ true
  step_moves PreIncrement = refl
  step_moves PreDecrement = refl
  step_moves PostIncrement = refl
  step_moves PostDecrement = refl

  pub step_node : (p : Program) (wanted : Bool) (op : StepOp) (place : Place) (operation : Ty) (size : ℕ) (ty : Ty) (r : Root) (base n : ℕ) (address : List Tree) → step_fits p (place_type place) operation size ty ≡ true → Takes list root end c n address
      → Takes list root end c (step_words op (form_of place) (place_bytes l.sizes place) operation (type_bytes l.sizes operation) size + n)
      (address ++ step_row (step_of wanted l op operation) (step_number operation size) (spot_of l c place) r (bytes.Frame c base) (place_width l place) (place_type place).ty)
  step_node p wanted op place operation size ty r base n address e f =
      let at = bytes.Frame c base in
      let spot = spot_of l c place in
      let by = step_operator op in
      let operates = step_operates l.sizes p by (place_type place) operation size ty (step_moves op) e in
      let room = operates_room by (place_type place).ty Void operation operates in
      let K = change_words by true operation (type_bytes l.sizes operation) size in
      let count = width_within l operation in
      let w = place_width l place in
      let within = width_within l (place_type place).ty in
      let reads = reached_words l c place w (place_bytes l.sizes place) within in
      let stores = stored_words l c place w (place_bytes l.sizes place) within in
      let right = behind at (pointer_bytes spot) in
      let left = behind right (width l operation) in
      let old = behind left (width l operation) in
      let h = mine base in
      let g = mine_lower c at (pointer_bytes spot) h in
      let x = mine_lower c right (width l operation) g in
      let o = mine_lower c left (width l operation) x in
      let less = room.0 in
      let some = room.1 in
      let all = read_words (form_at spot) w + convert_words (place_bytes l.sizes place) (type_bytes l.sizes operation) + (2 * w + 2) + K + store_words (form_at spot) w + (2 * w + 2) in
      let row = step_row (step_of wanted l op operation) (step_number operation size) spot r at w (place_type place).ty in
      takes_more list root end c (n + (4 * width l operation + all)) (step_words op (form_of place) (place_bytes l.sizes place) operation (type_bytes l.sizes operation) size + n) (address ++ row)
      (omega (arith, count, within, reads, stores, less, some))
      (takes_on list root end c n (4 * width l operation + all) address row f
      (takes_on list root end c (4 * width l operation) all (sets right (step_number operation size) (width l operation)) (update_row (step_of wanted l op operation) spot r at w (place_type place).ty) (sets_takes list root end c right (step_number operation size) (width l operation) g)
      (update_at_takes operation (wanted && keeps_old op) wanted (operator by (operation_type operation) left right ∷ []) spot r w (place_type place).ty at left old (given_byte (keeps_old op) old left) K h x o (given_mine (keeps_old op) old left o x)
      (step_change by (place_type place).ty operation left right size (step_moves op) x g operates))))

  -- ---- calls
  arguments_within : (before : ℕ) (es : Expressions) → arguments_width l before es ≤ before + arguments_bytes l.sizes es
  unfolding beyond
  arguments_within before tree.NoExpression = omega arith
  arguments_within before (tree.AndExpression e es) =
      let more = arguments_within (beyond before (value_width l e)) es in
      let w = width_within l (type_of e) in
      let b = beyond_within before (value_width l e) in
      omega (arith, more, w, b)

  pub call_node : (wanted : Bool) (r : Root) (callee base : ℕ) (es : Expressions) (ty : Ty) (n : ℕ) (given : List Tree) → Takes list root end c n given
      → Takes list root end c (6 * arguments_bytes l.sizes es + 6 * type_bytes l.sizes ty + 6 + n) (given ++ called_row wanted r callee (bytes.Frame c base) (arguments_width l 0 es) (width l ty))
  call_node wanted r callee base es ty n given p =
      let a = arguments_within 0 es in
      let w = width_within l ty in
      let row = called_row wanted r callee (bytes.Frame c base) (arguments_width l 0 es) (width l ty) in
      takes_more list root end c (n + (6 * arguments_width l 0 es + 6 * width l ty + 6)) (6 * arguments_bytes l.sizes es + 6 * type_bytes l.sizes ty + 6 + n) (given ++ row) (omega (arith, a, w))
      (takes_on list root end c n (6 * arguments_width l 0 es + 6 * width l ty + 6) given row p (called_takes list root end c wanted r callee (bytes.Frame c base) (arguments_width l 0 es) (width l ty) (mine base)))

-- Each kind of expression names bytes alone that are there, given that its parts do, and that its frame has its room.
use Rattle.std.proofs.Common.{◌≡◌, ℕ, ◌+◌, ◌*◌, ◌≤◌, Bool, true, false, not, ◌&&◌, max, nat_lt, if◌then◌else◌, List, [], ◌∷◌, ◌++◌, Option, Some, None, slice_get, refl, sym, ap, subst, arith}
use Rattle.std.proofs.lemmas.Grind.{common_steps}
use Rattle.c_ints.specs.Range.{bytes_of}
use Rattle.c_ints.specs.declared.operators.BinOp.{BinOp}
use Rattle.c_ints.specs.declared.operators.UnOp.{UnOp}
use Rattle.c_ints.specs.declared.operators.UnOp.TheVariants as unop
use Rattle.c_ints.specs.declared.types.IntTy.TheVariants as int
use Rattle.c_typed.specs.Fits.{source_of, goes_to, keeps_from, returns_type, params_of, fits, place_fits, arguments_fit, Used}
use Rattle.c_typed.specs.Folding.{constant_bits}
use Rattle.c_typed.specs.Room.{address_bytes, unary_room, arguments_bytes, variables_bytes, room}
use Rattle.c_typed.specs.Rules.{read_fits, unary_fits, binary_fits, assign_fits, is_writable, update_fits, step_fits, moves_by, moves}
use Rattle.c_typed.specs.Sameness.{same_type, is_array, is_scalar, is_promoted}
use Rattle.c_typed.specs.Trees as tree
use Rattle.c_typed.specs.Trees.{Expression, Expressions, Place, VariableTree, FunctionTree, Program}
use Rattle.c_typed.specs.Types.{type_bytes, value_bytes, type_of, place_type, place_bytes, form_of}
use Rattle.c_typed.specs.Words.{step_operator}
use Rattle.c_typed.specs.declared.expression.StepOp.{StepOp}
use Rattle.c_typed.specs.declared.expression.StepOp.TheVariants.{PreIncrement, PreDecrement, PostIncrement, PostDecrement}
use Rattle.c_typed.specs.declared.expression.LogicalOp.{LogicalOp}
use Rattle.c_typed.specs.declared.types.Ty.{Ty}
use Rattle.c_typed.specs.declared.types.Ty.TheVariants.{Void, Int, Pointer}
use Rattle.core_code.specs.Tree as code
use Rattle.core_code.specs.Tree.{Tree}
use Rattle.core_code.specs.declared.code.Byte.{Byte}
use Rattle.core_code.specs.declared.code.Byte.TheVariants as bytes
use Rattle.core_puts.specs.Bytes.{beyond, behind, operation_type}
use Rattle.lower_expr.specs.Layout.{Layout, width, value_width, place_width, copy_of}
use Rattle.lower_expr.specs.Lowering.{shifts_by_constant, change_code, arguments_width, update_of, step_of}
use Rattle.core_puts.specs.Puts.{copies_if, sets, operator, choice}
use Rattle.lower_expr.specs.Rows.{tested, type_of_size, unary_row, logical_row, binary_row, widened, read_row, written_row, value_row, assigned_row, called_row, change_of, change_row, given_byte, keeps_old, update_row, step_row, step_number}
use Rattle.lower_expr.specs.Spots.{spot_of, pointer_bytes}
use Rattle.lower_expr.specs.declared.places.Spot.{Spot}
use Rattle.named_registers.specs.Registers.{place_registers}
use Rattle.program_code.specs.Naming.{Memory, HasBytes, Lies, TreeLies, RegistersFit, count_bytes}
use Rattle.program_code.proofs.Chain.{never}
use Rattle.program_code.proofs.Rows.{some_bytes}
use Rattle.program_code.proofs.Typing.{Operates, OnInteger, OnPointer, and_first, and_last, unary_number, binary_number, update_operates, step_operates}
use Rattle.program_code.proofs.Nodes.{width_within}
use Rattle.program_code.proofs.Segments.{promoted_two}
use Rattle.program_code.proofs.Rooms.{same_type_bytes}
use Rattle.program_code.proofs.Standing.{Stand, at_base, binary_right, pointer_same, beyond_within, spot_lies, bit_has}
use Rattle.program_code.proofs.Lying.{count_within, AllLie, lie_on, less, past, SpotLies, BitHas, sets_lie, copies_if_lie, widened_lie, choice_lie, tested_lie, operator_lie, logical_lie, shift_lie, binary_lie, moved_lie, value_lie, read_lie, written_lie, assigned_lie, called_lie}

not_below : (a b : ℕ) → nat_lt a b ≡ false → b ≤ a
not_below a b e = grind (arith, common_steps)

-- The unsigned type of so many bytes has no more, but for one byte where there are none and four where there are three.
few_of_size : (n : ℕ) → bytes_of (type_of_size n) ≤ n + 2
few_of_size n = by (nat_lt n 2) (nat_lt n 4) refl
  where
    by : (one two : Bool) → nat_lt n 2 ≡ one → bytes_of (if one then int.UChar else if two then int.UInt else int.ULong) ≤ n + 2
    by true two e = omega arith
    by false true e = omega arith
    by false false e = let l = not_below n 2 e in omega (arith, l)

module _ (c size : ℕ) (memory : Memory) (l : Layout) (p : Program) (f : FunctionTree) (has : Stand c size memory l p f) where
  pub read_within : (base : ℕ) (place : Place) (ty : Ty) (address : List Tree) → place_fits p f place ≡ true → RegistersFit memory (place_registers place) → read_fits (place_type place) ty ≡ true → base + (address_bytes (form_of place) + type_bytes l.sizes ty) ≤ size → AllLie memory address
      → AllLie memory (address ++ value_row (spot_of l c place) (bytes.Frame c base) (width l ty))
  read_within base place ty address h named rule b q =
      let spot = spot_of l c place in
      let same = same_type_bytes l.sizes (place_type place).ty ty (and_first (same_type (place_type place).ty ty) (not (is_array ty)) rule) in
      let w = width_within l ty in
      let pointer = pointer_same l c place in
      lie_on memory address (value_row spot (bytes.Frame c base) (width l ty)) q
      (value_lie memory spot (bytes.Frame c base) (width l ty) (spot_lies c size memory l p f has place (width l ty) h named (omega (arith, w, same))) (at_base c size memory l p f has (pointer_bytes spot + width l ty) base (omega (arith, b, w, pointer)))
      (subst (λ (k : ℕ). BitHas memory k spot) (ap (beyond 0) same) (bit_has c size memory l p f has place)))

  pub convert_within : (base : ℕ) (from to : Ty) (operand : List Tree) → base + type_bytes l.sizes to ≤ size → AllLie memory operand → AllLie memory (operand ++ widened from to (bytes.Frame c base))
  convert_within base from to operand b q = lie_on memory operand (widened from to (bytes.Frame c base)) q (widened_lie memory l.sizes from to (bytes.Frame c base) (at_base c size memory l p f has (type_bytes l.sizes to) base b))

  number_lies : (op : UnOp) (base : ℕ) (from ty : Ty) → (is_promoted from && same_type from ty) ≡ true → base + (type_bytes l.sizes from + type_bytes l.sizes ty) ≤ size → TreeLies memory (code.Unary op (operation_type ty) (bytes.Frame c base))
  number_lies op base from ty rule b =
      let number = unary_number l.sizes from ty rule in
      let two = promoted_two l.sizes from (and_first (is_promoted from) (same_type from ty) rule) in
      (at_base c size memory l p f has (bytes_of (operation_type ty)) base (omega (arith, b, number)), at_base c size memory l p f has 2 base (omega (arith, b, two)))

  unary_lies : (op : UnOp) (base operand : ℕ) (from ty : Ty) → unary_fits op from ty ≡ true → base + unary_room op operand (type_bytes l.sizes from) (type_bytes l.sizes ty) ≤ size → AllLie memory (unary_row op (operation_type ty) (bytes.Frame c base) (width l from))
  unary_lies unop.Plus base operand from ty rule b = tt
  unary_lies unop.Minus base operand from ty rule b = (number_lies unop.Minus base from ty rule (omega (arith, b)), tt)
  unary_lies unop.Not base operand from ty rule b = (number_lies unop.Not base from ty rule (omega (arith, b)), tt)
  unary_lies unop.Bang base operand from ty rule b =
      let w = width_within l from in
      let of_size = type_of_size (width l from) in
      let few = few_of_size (width l from) in
      ((at_base c size memory l p f has (bytes_of of_size) base (omega (arith, b, w, few)), at_base c size memory l p f has 2 base (omega (arith, b))), tt)

  pub unary_within : (op : UnOp) (base operand : ℕ) (from ty : Ty) (first : List Tree) → unary_fits op from ty ≡ true → base + unary_room op operand (type_bytes l.sizes from) (type_bytes l.sizes ty) ≤ size → AllLie memory first
      → AllLie memory (first ++ unary_row op (operation_type ty) (bytes.Frame c base) (width l from))
  unary_within op base operand from ty first rule b q = lie_on memory first (unary_row op (operation_type ty) (bytes.Frame c base) (width l from)) q (unary_lies op base operand from ty rule b)

  pub left_out : (b : Bool) (right : List Tree) → AllLie memory right → AllLie memory (change_code b right)
  left_out true right q = tt
  left_out false right q = q

  pub binary_within : (op : BinOp) (shifts : Bool) (base count : ℕ) (left right ty : Ty) (first second : List Tree) → binary_fits p op left right ty ≡ true → base + (type_bytes l.sizes left + type_bytes l.sizes right + type_bytes l.sizes ty + 2) ≤ size → AllLie memory first → AllLie memory second
      → AllLie memory (first ++ change_code shifts second ++ binary_row shifts op (operation_type left) (bytes.Frame c base) (bytes.Frame c (beyond base (width l left))) count (width l right))
  binary_within op shifts base count left right ty first second rule b q r =
      let number = binary_number l.sizes p op left right ty rule in
      let counts = binary_right l.sizes p op left right ty rule in
      let w = width_within l left in
      let v = width_within l right in
      let next = beyond_within base (width l left) in
      let n = type_bytes l.sizes left + type_bytes l.sizes right + type_bytes l.sizes ty + 2 in
      lie_on memory (first ++ change_code shifts second) (binary_row shifts op (operation_type left) (bytes.Frame c base) (bytes.Frame c (beyond base (width l left))) count (width l right))
      (lie_on memory first (change_code shifts second) q (left_out shifts second r))
      (binary_lie memory shifts op (operation_type left) (bytes.Frame c base) (bytes.Frame c (beyond base (width l left))) count (width l right) n (type_bytes l.sizes right) (omega (arith, number)) (omega arith) (at_base c size memory l p f has n base b) v counts
      (at_base c size memory l p f has (type_bytes l.sizes right) (beyond base (width l left)) (omega (arith, b, w, next))))

  pub assign_within : (wanted : Bool) (base : ℕ) (place : Place) (ty : Ty) (n : ℕ) (address value : List Tree) → place_fits p f place ≡ true → RegistersFit memory (place_registers place) → assign_fits (place_type place) ty ≡ true → type_bytes l.sizes ty ≤ n → base + (address_bytes (form_of place) + n + 2) ≤ size → AllLie memory address → AllLie memory value
      → AllLie memory (address ++ value ++ assigned_row wanted (spot_of l c place) l.root (bytes.Frame c base) (width l ty))
  assign_within wanted base place ty n address value h named rule m b q r =
      let spot = spot_of l c place in
      let same = same_type_bytes l.sizes (place_type place).ty ty (and_last (is_writable (place_type place)) (same_type (place_type place).ty ty) rule) in
      let w = width_within l ty in
      let pointer = pointer_same l c place in
      lie_on memory (address ++ value) (assigned_row wanted spot l.root (bytes.Frame c base) (width l ty)) (lie_on memory address value q r)
      (assigned_lie memory wanted spot l.root (bytes.Frame c base) (width l ty) (spot_lies c size memory l p f has place (width l ty) h named (omega (arith, w, same))) (at_base c size memory l p f has (pointer_bytes spot + width l ty + 2) base (omega (arith, b, w, pointer, m))))

  pub logical_within : (op : LogicalOp) (base n m : ℕ) (left right : Ty) (first second : List Tree) → type_bytes l.sizes left ≤ n → type_bytes l.sizes right ≤ m → base + max n (max m 2) ≤ size → AllLie memory first → AllLie memory second
      → AllLie memory (first ++ logical_row op (bytes.Frame c base) (width l left) (second ++ tested (bytes.Frame c base) (width l right) 1 0 ∷ []) ∷ [])
  logical_within op base n m left right first second x y b q r =
      let at = bytes.Frame c base in
      let w = width_within l left in
      let v = width_within l right in
      let two = at_base c size memory l p f has 2 base (omega (arith, b)) in
      lie_on memory first (logical_row op at (width l left) (second ++ tested at (width l right) 1 0 ∷ []) ∷ []) q (
        logical_lie memory op at (width l left) (second ++ tested at (width l right) 1 0 ∷ []) (at_base c size memory l p f has (width l left) base (omega (arith, b, w, x))) two
            (lie_on memory second (tested at (width l right) 1 0 ∷ []) r (tested_lie memory at (width l right) 1 0 (at_base c size memory l p f has (width l right) base (omega (arith, b, v, y))) two, tt)),
        tt,
      )

  pub choice_within : (base n : ℕ) (condition : Ty) (first held failed : List Tree) → type_bytes l.sizes condition ≤ n → base + n ≤ size → AllLie memory first → AllLie memory held → AllLie memory failed → AllLie memory (first ++ choice (bytes.Frame c base) (width l condition) held failed ∷ [])
  choice_within base n condition first held failed x b q r s =
      let w = width_within l condition in
      lie_on memory first (choice (bytes.Frame c base) (width l condition) held failed ∷ []) q (choice_lie memory (bytes.Frame c base) (width l condition) held failed (at_base c size memory l p f has (width l condition) base (omega (arith, b, w, x))) r s, tt)

  -- ---- updates
  two_bytes : (op : BinOp) (place value operation : Ty) → Operates l.sizes op place value operation → (bytes_of (operation_type operation) ≡ type_bytes l.sizes operation) × (type_bytes l.sizes place ≤ type_bytes l.sizes operation)
  two_bytes op place value operation (OnInteger ty is room small) =
      let e = ap (type_bytes l.sizes) is in
      let g = ap (λ (t : Ty). bytes_of (operation_type t)) is in
      (omega (arith, e, g), omega (arith, e, room))
  two_bytes op place value operation (OnPointer target is room moves) =
      let e = ap (type_bytes l.sizes) is in
      let g = ap (λ (t : Ty). bytes_of (operation_type t)) is in
      (omega (arith, e, g), omega (arith, e, room))

  change_lies : (op : BinOp) (constant : Bool) (place value operation : Ty) (left right : Byte) (number elements count n m : ℕ) → Operates l.sizes op place value operation → type_bytes l.sizes operation ≤ n → 4 ≤ n → Lies memory n left → count ≤ m → type_bytes l.sizes operation ≤ m → 2 ≤ m → Lies memory m right
      → AllLie memory (change_row (change_of constant operation elements number) op (operation_type operation) left right count)
  change_lies op constant place value operation left right number elements count n m (OnInteger ty is room small) x four h j k two g =
      subst (λ (t : Ty). AllLie memory (change_row (change_of constant t elements number) op (operation_type t) left right count)) (sym is) (by_constant constant)
    where
      e : type_bytes l.sizes operation ≡ bytes_of ty
      e = ap (type_bytes l.sizes) is

      by_constant : (b : Bool) → AllLie memory (change_row (change_of b (Int ty) elements number) op ty left right count)
      by_constant b =
          let same = e in
          by_bool b (omega (arith, x, same)) (omega (arith, four)) (count_within op (bytes_of ty) m (omega (arith, k, same)) (omega (arith, two)))
        where
          by_bool : (b : Bool) → bytes_of ty ≤ n → 2 ≤ n → count_bytes op (bytes_of ty) ≤ m → AllLie memory (change_row (change_of b (Int ty) elements number) op ty left right count)
          by_bool true u v z = (shift_lie memory op ty left right number count n m u v h j z g, tt)
          by_bool false u v z = (operator_lie memory op ty left right n m u v h z g, tt)
  change_lies op constant place value operation left right number elements count n m (OnPointer target is room moves) x four h j k two g =
      subst (λ (t : Ty). AllLie memory (change_row (change_of constant t elements number) op (operation_type t) left right count)) (sym is) (by_bool constant)
    where
      by_bool : (b : Bool) → AllLie memory (change_row (change_of b (Pointer target) elements number) op int.UInt left right count)
      by_bool true = (shift_lie memory op int.UInt left right number count n m (omega (arith, four)) (omega (arith, four)) h j (count_within op 2 m two (omega (arith, two))) g, tt)
      by_bool false = moved_lie memory op left right (behind left 2) elements (less memory n 2 left (omega (arith, four)) h) (less memory m 2 right two g) (past memory n 2 2 left (omega (arith, four)) h)

  -- the place's value is read behind so many bytes, changed there, and written
  update_lies : (operation : Ty) (kept wanted : Bool) (change : List Tree) (spot : Spot) (w : ℕ) (from : Ty) (at left old value : Byte) → SpotLies memory w spot → BitHas memory w spot → Lies memory (pointer_bytes spot) at → Lies memory w at → Lies memory w left → Lies memory 2 left → Lies memory (type_bytes l.sizes operation) left
      → (kept ≡ true → Lies memory w old) → (wanted ≡ true → Lies memory w value) → AllLie memory change
      → AllLie memory (read_row spot at left w ++ widened from operation left ++ copies_if kept old left w ++ change ++ written_row spot l.root at left w ++ copies_if wanted at value w)
  update_lies operation kept wanted change spot w from at left old value s bit h a g two o k v q =
      let b = widened from operation left in
      let d = copies_if kept old left w in
      let z = written_row spot l.root at left w in
      let r = read_row spot at left w in
      lie_on memory (r ++ b ++ d ++ change ++ z) (copies_if wanted at value w)
      (lie_on memory (r ++ b ++ d ++ change) z
      (lie_on memory (r ++ b ++ d) change
      (lie_on memory (r ++ b) d
      (lie_on memory r b (read_lie memory spot at left w s h g bit) (widened_lie memory l.sizes from operation left o))
      (copies_if_lie memory kept old left w (λ e. (k e, g))))
      q)
      (written_lie memory spot l.root at left w s h g two))
      (copies_if_lie memory wanted at value w (λ e. (a, v e)))

  pub update_within : (wanted : Bool) (op : BinOp) (place : Place) (value : Expression) (operation : Ty) (elements : ℕ) (ty : Ty) (base : ℕ) (address other : List Tree) → update_fits p op (place_type place) (type_of value) operation elements ty ≡ true → place_fits p f place ≡ true → RegistersFit memory (place_registers place)
      → base + (address_bytes (form_of place) + value_bytes l.sizes value + place_bytes l.sizes place + 3 * type_bytes l.sizes operation + 2) ≤ size → AllLie memory address → AllLie memory other
      → AllLie memory (address ++ change_code (shifts_by_constant op value) other ++ update_row (update_of wanted l op place value operation elements) (spot_of l c place) l.root (bytes.Frame c base) (place_width l place) (place_type place).ty)
  update_within wanted op place value operation elements ty base address other rule h named b q r =
      let operates = update_operates l.sizes p op (place_type place) (type_of value) operation elements ty rule in
      let two = two_bytes op (place_type place).ty (type_of value) operation operates in
      let room = two.1 in
      let at = bytes.Frame c base in
      let spot = spot_of l c place in
      let count = width_within l (type_of value) in
      let w = width_within l (place_type place).ty in
      let pointer = pointer_same l c place in
      let O = type_bytes l.sizes operation in
      let V = value_bytes l.sizes value in
      let P = place_bytes l.sizes place in
      let N = pointer_bytes spot + V + P + 3 * O + 2 in
      let all = at_base c size memory l p f has N base (omega (arith, b, pointer)) in
      let M = V + P + 3 * O + 2 in
      let right = behind at (pointer_bytes spot) in
      let there = past memory N M (pointer_bytes spot) at (omega arith) all in
      let K = P + 3 * O + 2 in
      let left = behind right (value_width l value) in
      let here = past memory M K (value_width l value) right (omega (arith, count)) there in
      let old = behind left (value_width l value) in
      let change = change_row (change_of (shifts_by_constant op value) operation elements (constant_bits value)) op (operation_type operation) left right (value_width l value) in
      let small = type_some operation operates in
      lie_on memory (address ++ change_code (shifts_by_constant op value) other) (update_row (update_of wanted l op place value operation elements) spot l.root at (place_width l place) (place_type place).ty)
      (lie_on memory address (change_code (shifts_by_constant op value) other) q (left_out (shifts_by_constant op value) other r))
      (update_lies operation (wanted && false) wanted change spot (place_width l place) (place_type place).ty at left old left (spot_lies c size memory l p f has place (place_width l place) h named w) (bit_has c size memory l p f has place) (less memory N (pointer_bytes spot) at (omega arith) all)
      (less memory N (place_width l place) at (omega (arith, w)) all) (less memory K (place_width l place) left (omega (arith, w)) here) (less memory K 2 left (omega arith) here) (less memory K O left (omega arith) here)
      (λ e. never (not_both wanted e)) (λ e. less memory K (place_width l place) left (omega (arith, w)) here)
      (change_lies op (shifts_by_constant op value) (place_type place).ty (type_of value) operation left right (constant_bits value) elements (value_width l value) K M operates (omega arith) (omega (arith, small)) here (omega (arith, count)) (omega arith) (omega arith) there))
    where
      not_both : (a : Bool) → (a && false) ≡ true → false ≡ true
      not_both true e = e
      not_both false e = e

      type_some : (operation : Ty) → Operates l.sizes op (place_type place).ty (type_of value) operation → 1 ≤ type_bytes l.sizes operation
      type_some operation (OnInteger t is room few) = let e = ap (type_bytes l.sizes) is in let s = some_bytes t in omega (arith, e, s)
      type_some operation (OnPointer target is room moves) = let e = ap (type_bytes l.sizes) is in omega (arith, e)

  pub step_within : (wanted : Bool) (op : StepOp) (place : Place) (operation : Ty) (elements : ℕ) (ty : Ty) (base : ℕ) (address : List Tree) → step_fits p (place_type place) operation elements ty ≡ true → place_fits p f place ≡ true → RegistersFit memory (place_registers place)
      → base + (address_bytes (form_of place) + 2 + place_bytes l.sizes place + 3 * type_bytes l.sizes operation + 2) ≤ size → AllLie memory address
      → AllLie memory (address ++ step_row (step_of wanted l op operation) (step_number operation elements) (spot_of l c place) l.root (bytes.Frame c base) (place_width l place) (place_type place).ty)
  step_within wanted op place operation elements ty base address rule h named b q =
      let by = step_operator op in
      let operates = step_operates l.sizes p by (place_type place) operation elements ty (step_moves op) rule in
      let two = two_bytes by (place_type place).ty Void operation operates in
      let number = two.0 in
      let room = two.1 in
      let at = bytes.Frame c base in
      let spot = spot_of l c place in
      let count = width_within l operation in
      let w = width_within l (place_type place).ty in
      let pointer = pointer_same l c place in
      let O = type_bytes l.sizes operation in
      let P = place_bytes l.sizes place in
      let N = pointer_bytes spot + 2 + P + 3 * O + 2 in
      let all = at_base c size memory l p f has N base (omega (arith, b, pointer)) in
      let M = 2 + P + 3 * O + 2 in
      let right = behind at (pointer_bytes spot) in
      let there = past memory N M (pointer_bytes spot) at (omega arith) all in
      let K = 2 + P + 2 * O + 2 in
      let left = behind right (width l operation) in
      let here = past memory M K (width l operation) right (omega (arith, count)) there in
      let J = 2 + P + O + 2 in
      let old = behind left (width l operation) in
      let kept = past memory K J (width l operation) left (omega (arith, count)) here in
      let change = operator by (operation_type operation) left right in
      let within = less memory K (place_width l place) left (omega (arith, w)) here in
      let before = less memory J (place_width l place) old (omega (arith, w)) kept in
      lie_on memory address (step_row (step_of wanted l op operation) (step_number operation elements) spot l.root at (place_width l place) (place_type place).ty) q
      (lie_on memory (sets right (step_number operation elements) (width l operation)) (update_row (step_of wanted l op operation) spot l.root at (place_width l place) (place_type place).ty) (sets_lie memory right (step_number operation elements) (width l operation) (less memory M (width l operation) right (omega (arith, count)) there))
      (update_lies operation (wanted && keeps_old op) wanted (change ∷ []) spot (place_width l place) (place_type place).ty at left old (given_byte (keeps_old op) old left) (spot_lies c size memory l p f has place (place_width l place) h named w) (bit_has c size memory l p f has place) (less memory N (pointer_bytes spot) at (omega arith) all)
      (less memory N (place_width l place) at (omega (arith, w)) all) within (less memory K 2 left (omega arith) here) (less memory K O left (omega arith) here)
      (λ e. before) (λ e. one_of (keeps_old op) old left before within)
      (operator_lie memory by (operation_type operation) left right K M (omega (arith, number)) (omega arith) here (count_within by (bytes_of (operation_type operation)) M (omega (arith, number)) (omega arith)) there, tt)))
    where
      one_of : (keeps : Bool) (old left : Byte) → Lies memory (place_width l place) old → Lies memory (place_width l place) left → Lies memory (place_width l place) (given_byte keeps old left)
      one_of true old left x y = x
      one_of false old left x y = y

      step_moves : (op : StepOp) → moves_by (step_operator op) ≡ true
      step_moves PreIncrement = refl
      step_moves PreDecrement = refl
      step_moves PostIncrement = refl
      step_moves PostDecrement = refl

  -- ---- calls
  arguments_within : (before : ℕ) (es : Expressions) → arguments_width l before es ≤ before + arguments_bytes l.sizes es
  arguments_within before tree.NoExpression = omega arith
  arguments_within before (tree.AndExpression e es) =
      let more = arguments_within (beyond before (value_width l e)) es in
      let w = width_within l (type_of e) in
      let b = beyond_within before (value_width l e) in
      omega (arith, more, w, b)

  -- the bytes of the arguments are those of the parameters
  arguments_fewer : (es : Expressions) (vs : List VariableTree) → arguments_fit p f es vs ≡ true → arguments_bytes l.sizes es ≤ variables_bytes p.sizes vs
  unfolding arguments_fit
  arguments_fewer tree.NoExpression vs h = omega arith
  arguments_fewer (tree.AndExpression e es) [] h = never h
  arguments_fewer (tree.AndExpression e es) (v ∷ vs) h =
      let goes = goes_to p (source_of e) (type_of e) v.ty.ty in
      let keeps = same_type (type_of e) v.ty.ty && keeps_from p (source_of e) v.ty.ty in
      let same = same_type_bytes l.sizes (type_of e) v.ty.ty (and_first (same_type (type_of e) v.ty.ty) (keeps_from p (source_of e) v.ty.ty) (and_last (is_scalar v.ty.ty) keeps (and_first goes (fits p f Used e && arguments_fit p f es vs) h))) in
      let sizes = ap (λ (s : List ℕ). type_bytes s v.ty.ty) has.sizes in
      let more = arguments_fewer es vs (and_last (fits p f Used e) (arguments_fit p f es vs) (and_last goes (fits p f Used e && arguments_fit p f es vs) h)) in
      omega (arith, same, sizes, more)

  -- a call's answer has four bytes at most
  few_returned : (o : Option FunctionTree) (function : ℕ) (ty : Ty) → slice_get p.functions function ≡ o → returns_type o ty ≡ true → type_bytes l.sizes ty ≤ 4
  few_returned None function ty there h = never h
  few_returned (Some g) function ty there h =
      let same = same_type_bytes l.sizes g.result ty h in
      let sizes = ap (λ (s : List ℕ). type_bytes s g.result) has.sizes in
      let few = has.results function g there in
      omega (arith, same, sizes, few)

  pub call_within : (wanted : Bool) (function base : ℕ) (es : Expressions) (ty : Ty) (given : List Tree) → returns_type (slice_get p.functions function) ty ≡ true → arguments_fit p f es (params_of (slice_get p.functions function)) ≡ true
      → HasBytes (memory.frames (copy_of l function)) (variables_bytes p.sizes (params_of (slice_get p.functions function))) → base + max (arguments_bytes l.sizes es) (type_bytes l.sizes ty) ≤ size → AllLie memory given
      → AllLie memory (given ++ called_row wanted l.root (copy_of l function) (bytes.Frame c base) (arguments_width l 0 es) (width l ty))
  call_within wanted function base es ty given rule fit room b q =
      let a = arguments_within 0 es in
      let w = width_within l ty in
      let few = few_returned (slice_get p.functions function) function ty refl rule in
      let params = params_of (slice_get p.functions function) in
      let fewer = arguments_fewer es params fit in
      let n = max (arguments_bytes l.sizes es) (type_bytes l.sizes ty) in
      lie_on memory given (called_row wanted l.root (copy_of l function) (bytes.Frame c base) (arguments_width l 0 es) (width l ty)) q
      (called_lie memory wanted l.root (copy_of l function) (bytes.Frame c base) (arguments_width l 0 es) (width l ty) n (variables_bytes p.sizes params) (omega (arith, a, fewer)) room (omega (arith, w, few)) (omega (arith, a)) (omega (arith, w)) (at_base c size memory l p f has n base b))

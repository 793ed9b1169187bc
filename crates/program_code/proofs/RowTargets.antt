-- The rows that expressions are lowered to call nothing, but for that of a call.
use Rattle.std.proofs.Common.{◌≡◌, ℕ, zero, suc, ◌/◌, ◌%◌, Bool, true, false, ◌&&◌, nat_eq, nat_lt, if◌then◌else◌, List, [], ◌∷◌, ◌++◌, Option, Some, None, refl}
use Rattle.c_ints.specs.declared.operators.BinOp.{BinOp}
use Rattle.c_ints.specs.declared.operators.BinOp.TheVariants as binop
use Rattle.c_ints.specs.declared.operators.UnOp.{UnOp}
use Rattle.c_ints.specs.declared.operators.UnOp.TheVariants as unop
use Rattle.c_ints.specs.declared.types.IntTy.{IntTy}
use Rattle.c_ints.specs.declared.types.IntTy.TheVariants.{UInt}
use Rattle.c_typed.specs.Folding.{constant_bits}
use Rattle.c_typed.specs.Trees.{Expression, Place}
use Rattle.c_typed.specs.Words.{step_operator}
use Rattle.c_typed.specs.declared.expression.LogicalOp.{LogicalOp}
use Rattle.c_typed.specs.declared.expression.LogicalOp.TheVariants as logical
use Rattle.c_typed.specs.declared.expression.StepOp.{StepOp}
use Rattle.c_typed.specs.declared.types.Ty.{Ty}
use Rattle.c_typed.specs.declared.types.Ty.TheVariants.{Void, Int, Pointer, Array, Struct}
use Rattle.core_code.specs.Tree as code
use Rattle.core_code.specs.Tree.{Tree, trees_of}
use Rattle.core_code.specs.declared.code.Byte.{Byte}
use Rattle.core_code.specs.declared.code.Byte.TheVariants.{Frame, Result}
use Rattle.core_puts.specs.Bytes.{behind, beyond, byte_at, is_wider, number_type, operation_type}
use Rattle.lower_expr.specs.Layout.{Layout, width, value_width}
use Rattle.lower_expr.specs.Lowering.{pointer_code, shifts_by_constant, update_of, step_of}
use Rattle.core_puts.specs.Puts.{copies, copies_if, sets, operator, choice}
use Rattle.lower_expr.specs.Rows.{wider, widened_number, widened, tested, type_of_size, unary_row, logical_row, shift_row, binary_row, odd_part, multiples, scaled, moved, moved_right, offset_row, quotient_row, difference_row, member_row, address_row, read_row, value_row, written_row, kept_row, assigned_row, change_of, change_row, given_byte, keeps_old, update_row, step_row, called_row, side_of, taken, given, advance, structure_bytes, through_row, struct_row}
use Rattle.lower_expr.specs.Spots.{pointer_bytes}
use Rattle.lower_expr.specs.declared.places.Spot.{Spot}
use Rattle.lower_expr.specs.declared.places.Spot.TheVariants.{Fixed, Bit, Computed}
use Rattle.pic_world.specs.declared.Root.{Root}
use Rattle.program_code.specs.Calling.{calls_below, all_below}

pub record AreBelow (limit : ℕ) (list : List Tree) : Type 0 where
  pub is : all_below limit (trees_of list) ≡ true

-- ---- lists
pub and_true : (a b : Bool) → a ≡ true → b ≡ true → (a && b) ≡ true
and_true true b e h = h
and_true false b e h = absurd (cc)

pub none : (limit : ℕ) → AreBelow limit []
(none limit) = record { is = refl }

pub more : (limit : ℕ) (t : Tree) (list : List Tree) → calls_below limit t ≡ true → AreBelow limit list → AreBelow limit (t ∷ list)
more limit t list e h = record { is = and_true (calls_below limit t) (all_below limit (trees_of list)) e h.is }

pub one : (limit : ℕ) (t : Tree) → calls_below limit t ≡ true → AreBelow limit (t ∷ [])
one limit t e = more limit t [] e (none limit)

pub join : (limit : ℕ) (xs ys : List Tree) → AreBelow limit xs → AreBelow limit ys → AreBelow limit (xs ++ ys)
join limit [] ys p q = q
join limit (x ∷ xs) ys p q = by (calls_below limit x) refl (λ e. join limit xs ys (record { is = e }) q) p.is where
  by : (b : Bool) → calls_below limit x ≡ b → (all_below limit (trees_of xs) ≡ true → AreBelow limit (xs ++ ys)) → (b && all_below limit (trees_of xs)) ≡ true → AreBelow limit (x ∷ xs ++ ys)
  by true is below e = more limit x (xs ++ ys) is (below e)
  by false is below e = absurd (cc)

pub either : (limit : ℕ) (b : Bool) (xs ys : List Tree) → AreBelow limit xs → AreBelow limit ys → AreBelow limit (if b then xs else ys)
either limit true xs ys p q = p
either limit false xs ys p q = q

-- ---- bytes
pub copies_below : (limit : ℕ) (to from : Byte) (count : ℕ) → AreBelow limit (copies to from count)
unfolding copies
copies_below limit to from zero = none limit
copies_below limit to from (suc k) = join limit (copies to from k) (code.Copy (behind to k) (behind from k) ∷ []) (copies_below limit to from k) (one limit (code.Copy (behind to k) (behind from k)) refl)

pub copies_if_below : (limit : ℕ) (wanted : Bool) (to from : Byte) (count : ℕ) → AreBelow limit (copies_if wanted to from count)
copies_if_below limit wanted to from count = either limit wanted (copies to from count) [] (copies_below limit to from count) (none limit)

pub sets_below : (limit : ℕ) (to : Byte) (number count : ℕ) → AreBelow limit (sets to number count)
unfolding sets
sets_below limit to number zero = none limit
sets_below limit to number (suc k) =
    join limit (sets to number k) (code.Set (behind to k) (byte_at number k) ∷ []) (sets_below limit to number k) (one limit (code.Set (behind to k) (byte_at number k)) refl)

pub choice_below : (limit : ℕ) (test : Byte) (size : ℕ) (held failed : List Tree) → AreBelow limit held → AreBelow limit failed → calls_below limit (choice test size held failed) ≡ true
choice_below limit test size held failed h f = and_true (all_below limit (trees_of held)) (all_below limit (trees_of failed)) h.is f.is

-- ---- operators
wider_below : (limit : ℕ) (from to : IntTy) (at : Byte) → AreBelow limit (wider from to at)
wider_below limit from to at = either limit (is_wider from to) (code.Convert from to at ∷ []) [] (one limit (code.Convert from to at) refl) (none limit)

widened_number_below : (limit : ℕ) (from to : Option IntTy) (at : Byte) → AreBelow limit (widened_number from to at)
widened_number_below limit None to at = none limit
widened_number_below limit (Some from) None at = none limit
widened_number_below limit (Some from) (Some to) at = wider_below limit from to at

pub widened_below : (limit : ℕ) (from to : Ty) (at : Byte) → AreBelow limit (widened from to at)
widened_below limit from to at = widened_number_below limit (number_type from) (number_type to) at

pub tested_below : (limit : ℕ) (at : Byte) (size held failed : ℕ) → calls_below limit (tested at size held failed) ≡ true
tested_below limit at size held failed = choice_below limit at size (sets at held 2) (sets at failed 2) (sets_below limit at held 2) (sets_below limit at failed 2)

pub unary_below : (limit : ℕ) (op : UnOp) (ty : IntTy) (at : Byte) (size : ℕ) → AreBelow limit (unary_row op ty at size)
unary_below limit unop.Plus ty at size = none limit
unary_below limit unop.Minus ty at size = one limit (code.Unary unop.Minus ty at) refl
unary_below limit unop.Not ty at size = one limit (code.Unary unop.Not ty at) refl
unary_below limit unop.Bang ty at size = one limit (code.Unary unop.Bang (type_of_size size) at) refl

pub logical_below : (limit : ℕ) (op : LogicalOp) (at : Byte) (size : ℕ) (other : List Tree) → AreBelow limit other → calls_below limit (logical_row op at size other) ≡ true
logical_below limit logical.And at size other h = choice_below limit at size other (sets at 0 2) h (sets_below limit at 0 2)
logical_below limit logical.Or at size other h = choice_below limit at size (sets at 1 2) other (sets_below limit at 1 2) h

shift_below : (limit : ℕ) (op : BinOp) (ty : IntTy) (at right : Byte) (count size : ℕ) → calls_below limit (shift_row op ty at right count size) ≡ true
shift_below limit op ty at right count size = (join limit (sets right count size) (operator op ty at right ∷ []) (sets_below limit right count size) (one limit (operator op ty at right) refl)).is

pub binary_below : (limit : ℕ) (shifts : Bool) (op : BinOp) (ty : IntTy) (at right : Byte) (count size : ℕ) → AreBelow limit (binary_row shifts op ty at right count size)
binary_below limit true op ty at right count size = one limit (shift_row op ty at right count size) (shift_below limit op ty at right count size)
binary_below limit false op ty at right count size = one limit (operator op ty at right) refl

odd_below : (limit : ℕ) (to from : Byte) (size : ℕ) → AreBelow limit (odd_part to from size)
odd_below limit to from size = either limit (nat_eq (size % 2) 1) (operator binop.Add UInt to from ∷ []) [] (one limit (operator binop.Add UInt to from) refl) (none limit)

multiples_below : (limit : ℕ) (to from : Byte) (size digits : ℕ) → AreBelow limit (multiples to from size digits)
unfolding multiples
multiples_below limit to from size zero = none limit
multiples_below limit to from size (suc digits) =
    either limit (nat_lt size 2) [] (multiples to from (size / 2) digits ++ operator binop.Add UInt to to ∷ [] ++ odd_part to from size) (none limit)
    (join limit (multiples to from (size / 2) digits ++ operator binop.Add UInt to to ∷ []) (odd_part to from size)
    (join limit (multiples to from (size / 2) digits) (operator binop.Add UInt to to ∷ []) (multiples_below limit to from (size / 2) digits) (one limit (operator binop.Add UInt to to) refl))
    (odd_below limit to from size))

scaled_below : (limit : ℕ) (to from : Byte) (size : ℕ) → AreBelow limit (scaled to from size)
scaled_below limit to from size = join limit (copies to from 2) (multiples to from size 64) (copies_below limit to from 2) (multiples_below limit to from size 64)

moved_below : (limit : ℕ) (op : BinOp) (at index count : Byte) (size : ℕ) → AreBelow limit (moved op at index count size)
moved_below limit op at index count size =
    either limit (nat_eq size 1) (operator op UInt at index ∷ []) (scaled count index size ++ operator op UInt at count ∷ []) (one limit (operator op UInt at index) refl)
    (join limit (scaled count index size) (operator op UInt at count ∷ []) (scaled_below limit count index size) (one limit (operator op UInt at count) refl))

moved_right_below : (limit : ℕ) (at : Byte) (size : ℕ) → AreBelow limit (moved_right at size)
moved_right_below limit at size =
    either limit (nat_eq size 1) (operator binop.Add UInt at (behind at 2) ∷ []) (scaled (behind at 4) at size ++ code.Binary binop.Add UInt at (behind at 2) (behind at 4) ∷ [])
    (one limit (operator binop.Add UInt at (behind at 2)) refl)
    (join limit (scaled (behind at 4) at size) (code.Binary binop.Add UInt at (behind at 2) (behind at 4) ∷ []) (scaled_below limit (behind at 4) at size) (one limit (code.Binary binop.Add UInt at (behind at 2) (behind at 4)) refl))

pub offset_below : (limit : ℕ) (op : BinOp) (at : Byte) (points : Bool) (size : ℕ) → AreBelow limit (offset_row op at points size)
offset_below limit op at true size = moved_below limit op at (behind at 2) (behind at 4) size
offset_below limit op at false size = moved_right_below limit at size

pub difference_below : (limit : ℕ) (at : Byte) (size : ℕ) → AreBelow limit (difference_row at size)
difference_below limit at size =
    either limit (nat_lt 32767 size) (sets at 0 2) _ (sets_below limit at 0 2)
    (join limit (operator binop.Sub UInt at (behind at 2) ∷ []) (quotient_row at size) (one limit (operator binop.Sub UInt at (behind at 2)) refl)
    (either limit (nat_eq size 1) [] _ (none limit) (join limit (sets (behind at 2) size 2) _ (sets_below limit (behind at 2) size 2) (one limit _ refl))))

pub member_below : (limit : ℕ) (at : Byte) (offset : ℕ) (number : Byte) → AreBelow limit (member_row at offset number)
member_below limit at offset number = either limit (nat_eq offset 0) [] _ (none limit) (join limit (sets number offset 2) _ (sets_below limit number offset 2) (one limit _ refl))

-- ---- places
pub pointer_below : (limit : ℕ) (spot : Spot) (address : List Tree) → AreBelow limit address → AreBelow limit (pointer_code spot address)
pointer_below limit (Fixed byte) address h = none limit
pointer_below limit (Bit register bit) address h = none limit
pointer_below limit Computed address h = h

pub address_below : (limit : ℕ) (spot : Spot) (at : Byte) → AreBelow limit (address_row spot at)
address_below limit (Fixed byte) at = one limit (code.Address at byte) refl
address_below limit (Bit register bit) at = none limit
address_below limit Computed at = none limit

read_below : (limit : ℕ) (spot : Spot) (pointer to : Byte) (count : ℕ) → AreBelow limit (read_row spot pointer to count)
read_below limit (Fixed from) pointer to count = copies_below limit to from count
read_below limit (Bit register bit) pointer to count = one limit (code.BitRead to register bit) refl
read_below limit Computed pointer to count = one limit (code.Load to pointer count) refl

pub value_below : (limit : ℕ) (spot : Spot) (at : Byte) (count : ℕ) → AreBelow limit (value_row spot at count)
value_below limit (Fixed from) at count = copies_below limit at from count
value_below limit (Bit register bit) at count = one limit (code.BitRead at register bit) refl
value_below limit Computed at count = join limit (code.Load (behind at 2) at count ∷ []) (copies at (behind at 2) count) (one limit (code.Load (behind at 2) at count) refl) (copies_below limit at (behind at 2) count)

written_below : (limit : ℕ) (spot : Spot) (root : Root) (pointer from : Byte) (count : ℕ) → AreBelow limit (written_row spot root pointer from count)
written_below limit (Fixed to) root pointer from count = copies_below limit to from count
written_below limit (Bit register bit) root pointer from count = record { is = refl }
written_below limit Computed root pointer from count = one limit (code.Store pointer from count) refl

kept_below : (limit : ℕ) (wanted : Bool) (spot : Spot) (at value : Byte) (count : ℕ) → AreBelow limit (kept_row wanted spot at value count)
kept_below limit wanted (Fixed to) at value count = none limit
kept_below limit wanted (Bit register bit) at value count = none limit
kept_below limit wanted Computed at value count = copies_if_below limit wanted at value count

pub assigned_below : (limit : ℕ) (wanted : Bool) (spot : Spot) (root : Root) (at : Byte) (count : ℕ) → AreBelow limit (assigned_row wanted spot root at count)
assigned_below limit wanted spot root at count =
    join limit (written_row spot root at (behind at (pointer_bytes spot)) count) (kept_row wanted spot at (behind at (pointer_bytes spot)) count)
    (written_below limit spot root at (behind at (pointer_bytes spot)) count) (kept_below limit wanted spot at (behind at (pointer_bytes spot)) count)

-- ---- updates
change_below : (limit : ℕ) (constant : Bool) (operation : Ty) (size number : ℕ) (op : BinOp) (ty : IntTy) (at right : Byte) (count : ℕ) → AreBelow limit (change_row (change_of constant operation size number) op ty at right count)
change_below limit true operation size number op ty at right count = one limit (shift_row op ty at right number count) (shift_below limit op ty at right number count)
change_below limit false (Pointer target) size number op ty at right count = moved_below limit op at right (behind at 2) size
change_below limit false Void size number op ty at right count = one limit (operator op ty at right) refl
change_below limit false (Int kind) size number op ty at right count = one limit (operator op ty at right) refl
change_below limit false (Array element length bytes) size number op ty at right count = one limit (operator op ty at right) refl
change_below limit false (Struct structure) size number op ty at right count = one limit (operator op ty at right) refl

changed_below : (limit : ℕ) (spot : Spot) (root : Root) (bytes : ℕ) (from operation : Ty) (at left old keeping : Byte) (keeps wanted : Bool) (row : List Tree) → AreBelow limit row
    → AreBelow limit (read_row spot at left bytes ++ widened from operation left ++ copies_if keeps old left bytes ++ row ++ written_row spot root at left bytes ++ copies_if wanted at keeping bytes)
changed_below limit spot root bytes from operation at left old keeping keeps wanted row h =
    join limit _ _ (join limit _ _ (join limit _ _ (join limit _ _ (join limit _ _ (read_below limit spot at left bytes) (widened_below limit from operation left)) (copies_if_below limit keeps old left bytes)) h)
    (written_below limit spot root at left bytes)) (copies_if_below limit wanted at keeping bytes)

pub update_below : (limit : ℕ) (wanted : Bool) (l : Layout) (op : BinOp) (place : Place) (value : Expression) (operation : Ty) (size : ℕ) (spot : Spot) (root : Root) (at : Byte) (bytes : ℕ) (from : Ty)
    → AreBelow limit (update_row (update_of wanted l op place value operation size) spot root at bytes from)
update_below limit wanted l op place value operation size spot root at bytes from =
    let count = value_width l value in
    let right = behind at (pointer_bytes spot) in
    let left = behind right count in
    changed_below limit spot root bytes from operation at left (behind left count) left (wanted && false) wanted _
    (change_below limit (shifts_by_constant op value) operation size (constant_bits value) op (operation_type operation) left right count)

pub step_below : (limit : ℕ) (wanted : Bool) (l : Layout) (op : StepOp) (operation : Ty) (number : ℕ) (spot : Spot) (root : Root) (at : Byte) (bytes : ℕ) (from : Ty)
    → AreBelow limit (step_row (step_of wanted l op operation) number spot root at bytes from)
step_below limit wanted l op operation number spot root at bytes from =
    let count = width l operation in
    let right = behind at (pointer_bytes spot) in
    let left = behind right count in
    join limit _ _ (sets_below limit right number count)
    (changed_below limit spot root bytes from operation at left (behind left count) (given_byte (keeps_old op) (behind left count) left) (wanted && keeps_old op) wanted _
    (one limit (operator (step_operator op) (operation_type operation) left right) refl))

pub called_below : (limit : ℕ) (wanted : Bool) (root : Root) (callee : ℕ) (at : Byte) (arguments count : ℕ) → nat_lt callee limit ≡ true → AreBelow limit (called_row wanted root callee at arguments count)
called_below limit wanted root callee at arguments count h =
    join limit (copies (Frame callee 0) at arguments ++ code.Call callee ∷ []) (copies_if wanted at (Result root 0) count)
    (join limit (copies (Frame callee 0) at arguments) (code.Call callee ∷ []) (copies_below limit (Frame callee 0) at arguments) (one limit (code.Call callee) h)) (copies_if_below limit wanted at (Result root 0) count)

-- ---- structures
taken_below : (limit : ℕ) (to : Byte) (spot : Spot) (pointer : Byte) (i : ℕ) → calls_below limit (taken to (side_of spot pointer) i) ≡ true
taken_below limit to (Fixed byte) pointer i = refl
taken_below limit to (Bit register bit) pointer i = refl
taken_below limit to Computed pointer i = refl

stored_below : (limit : ℕ) (spot : Spot) (pointer from : Byte) (i : ℕ) → calls_below limit (given (side_of spot pointer) from i) ≡ true
stored_below limit (Fixed byte) pointer from i = refl
stored_below limit (Bit register bit) pointer from i = refl
stored_below limit Computed pointer from i = refl

advance_below : (limit : ℕ) (spot : Spot) (pointer byte : Byte) → AreBelow limit (advance (side_of spot pointer) byte)
advance_below limit (Fixed x) pointer byte = none limit
advance_below limit (Bit register bit) pointer byte = one limit (operator binop.Add UInt pointer byte) refl
advance_below limit Computed pointer byte = one limit (operator binop.Add UInt pointer byte) refl

structure_bytes_below : (limit : ℕ) (to from : Spot) (a b byte temporary : Byte) (size : ℕ) → AreBelow limit (structure_bytes (side_of to a) (side_of from b) byte temporary size)
unfolding structure_bytes
structure_bytes_below limit to from a b byte temporary zero = none limit
structure_bytes_below limit to from a b byte temporary (suc i) =
    join limit _ _ (join limit _ _ (join limit _ _ (structure_bytes_below limit to from a b byte temporary i)
    (either limit (nat_eq i 0) [] (advance (side_of to a) byte ++ advance (side_of from b) byte) (none limit)
    (join limit (advance (side_of to a) byte) (advance (side_of from b) byte) (advance_below limit to a byte) (advance_below limit from b byte))))
    (one limit (taken temporary (side_of from b) i) (taken_below limit temporary from b i))) (one limit (given (side_of to a) temporary i) (stored_below limit to a temporary i))

through_below : (limit : ℕ) (root : Root) (place from : Spot) (at : Byte) (size : ℕ) → AreBelow limit (through_row root place from at size)
through_below limit root place from at size =
    let b = behind at (pointer_bytes place) in
    more limit _ _ refl (more limit _ _ refl (structure_bytes_below limit place from at b (Result root 0) (behind b (pointer_bytes from)) size))

pub struct_below : (limit : ℕ) (root : Root) (place from : Spot) (at : Byte) (size : ℕ) → AreBelow limit (struct_row root place from at size)
struct_below limit root (Fixed to) (Fixed byte) at size = copies_below limit to byte (beyond 0 size)
struct_below limit root (Fixed to) (Bit register bit) at size = through_below limit root (Fixed to) (Bit register bit) at size
struct_below limit root (Fixed to) Computed at size = through_below limit root (Fixed to) Computed at size
struct_below limit root (Bit register bit) from at size = through_below limit root (Bit register bit) from at size
struct_below limit root Computed from at size = through_below limit root Computed from at size

-- The rows that expressions are lowered to set bytes alone.
use Rattle.std.proofs.Common.{◌≡◌, ℕ, zero, suc, ◌/◌, ◌%◌, Bool, true, false, ◌&&◌, nat_eq, nat_lt, if◌then◌else◌, List, [], ◌∷◌, ◌++◌, Option, Some, None, refl, arith}
use Rattle.std.proofs.lemmas.Bool.{lt-ltb}
use Rattle.c_ints.specs.declared.operators.BinOp.{BinOp}
use Rattle.c_ints.specs.declared.operators.BinOp.TheVariants as binop
use Rattle.c_ints.specs.declared.operators.UnOp.{UnOp}
use Rattle.c_ints.specs.declared.operators.UnOp.TheVariants as unop
use Rattle.c_ints.specs.declared.types.IntTy.{IntTy}
use Rattle.c_ints.specs.declared.types.IntTy.TheVariants.{UInt}
use Rattle.c_typed.specs.Folding.{constant_bits}
use Rattle.c_typed.specs.Trees.{Expression, Place}
use Rattle.c_typed.specs.Words.{step_operator}
use Rattle.c_typed.specs.declared.expression.LogicalOp.{LogicalOp}
use Rattle.c_typed.specs.declared.expression.LogicalOp.TheVariants as logical
use Rattle.c_typed.specs.declared.expression.StepOp.{StepOp}
use Rattle.c_typed.specs.declared.types.Ty.{Ty}
use Rattle.c_typed.specs.declared.types.Ty.TheVariants.{Void, Int, Pointer, Array, Struct}
use Rattle.core_code.specs.Tree as code
use Rattle.core_code.specs.Tree.{Tree, trees_of}
use Rattle.core_code.specs.declared.code.Byte.{Byte}
use Rattle.core_code.specs.declared.code.Byte.TheVariants.{Frame, Result}
use Rattle.core_puts.specs.Bytes.{behind, beyond, byte_at, is_wider, number_type, operation_type}
use Rattle.lower_expr.specs.Layout.{Layout, width, value_width}
use Rattle.lower_expr.specs.Lowering.{pointer_code, shifts_by_constant, update_of, step_of}
use Rattle.core_puts.specs.Puts.{copies, copies_if, sets, operator, choice}
use Rattle.lower_expr.specs.Rows.{wider, widened_number, widened, tested, type_of_size, unary_row, logical_row, shift_row, binary_row, odd_part, multiples, scaled, moved, moved_right, offset_row, quotient_row, difference_row, member_row, address_row, read_row, value_row, written_row, kept_row, assigned_row, change_of, change_row, given_byte, keeps_old, update_row, step_row, called_row, side_of, taken, given, advance, structure_bytes, through_row, struct_row}
use Rattle.lower_expr.specs.Spots.{pointer_bytes}
use Rattle.lower_expr.specs.declared.places.Spot.{Spot}
use Rattle.lower_expr.specs.declared.places.Spot.TheVariants.{Fixed, Bit, Computed}
use Rattle.pic_world.specs.declared.Root.{Root}
use Rattle.chip_trace.specs.Arriving.{is_near}
use Rattle.headline_trace.specs.Plain.{is_given, all_given}

pub record AreGiven (list : List Tree) : Type 0 where
  pub is : all_given (trees_of list) ≡ true

-- ---- lists
pub and_true : (a b : Bool) → a ≡ true → b ≡ true → (a && b) ≡ true
and_true true b e h = h
and_true false b e h = absurd (cc)

pub none : AreGiven []
none = record { is = refl }

pub more : (t : Tree) (list : List Tree) → is_given t ≡ true → AreGiven list → AreGiven (t ∷ list)
more t list e h = record { is = and_true (is_given t) (all_given (trees_of list)) e h.is }

pub one : (t : Tree) → is_given t ≡ true → AreGiven (t ∷ [])
one t e = more t [] e none

pub join : (xs ys : List Tree) → AreGiven xs → AreGiven ys → AreGiven (xs ++ ys)
join [] ys p q = q
join (x ∷ xs) ys p q = by (is_given x) refl (λ e. join xs ys (record { is = e }) q) p.is where
  by : (b : Bool) → is_given x ≡ b → (all_given (trees_of xs) ≡ true → AreGiven (xs ++ ys)) → (b && all_given (trees_of xs)) ≡ true → AreGiven (x ∷ xs ++ ys)
  by true is below e = more x (xs ++ ys) is (below e)
  by false is below e = absurd (cc)

pub either : (b : Bool) (xs ys : List Tree) → AreGiven xs → AreGiven ys → AreGiven (if b then xs else ys)
either true xs ys p q = p
either false xs ys p q = q

-- ---- bytes
small_byte : (n k : ℕ) → nat_lt (byte_at n k) 256 ≡ true
unfolding byte_at
small_byte n k = by (nat_eq k 0) (nat_eq k 1) (nat_eq k 2) (nat_eq k 3) where
  by : (a b c d : Bool) → nat_lt (if a then n % 0x100 else if b then n / 0x100 % 0x100 else if c then n / 0x10000 % 0x100 else if d then n / 0x1000000 % 0x100 else 0) 256 ≡ true
  by true b c d = lt-ltb (n % 0x100) 256 (omega arith)
  by false true c d = lt-ltb (n / 0x100 % 0x100) 256 (omega arith)
  by false false true d = lt-ltb (n / 0x10000 % 0x100) 256 (omega arith)
  by false false false true = lt-ltb (n / 0x1000000 % 0x100) 256 (omega arith)
  by false false false false = refl

pub copies_given : (to from : Byte) (count : ℕ) → AreGiven (copies to from count)
unfolding copies
copies_given to from zero = none
copies_given to from (suc k) = join (copies to from k) (code.Copy (behind to k) (behind from k) ∷ []) (copies_given to from k) (one (code.Copy (behind to k) (behind from k)) refl)

pub copies_if_given : (wanted : Bool) (to from : Byte) (count : ℕ) → AreGiven (copies_if wanted to from count)
copies_if_given wanted to from count = either wanted (copies to from count) [] (copies_given to from count) none

pub sets_given : (to : Byte) (number count : ℕ) → AreGiven (sets to number count)
unfolding sets
sets_given to number zero = none
sets_given to number (suc k) =
    join (sets to number k) (code.Set (behind to k) (byte_at number k) ∷ []) (sets_given to number k) (one (code.Set (behind to k) (byte_at number k)) (small_byte number k))

pub choice_given : (test : Byte) (size : ℕ) (held failed : List Tree) → AreGiven held → AreGiven failed → is_given (choice test size held failed) ≡ true
choice_given test size held failed h f = and_true (all_given (trees_of held)) (all_given (trees_of failed)) h.is f.is

-- ---- operators
wider_given : (from to : IntTy) (at : Byte) → AreGiven (wider from to at)
wider_given from to at = either (is_wider from to) (code.Convert from to at ∷ []) [] (one (code.Convert from to at) refl) none

widened_number_given : (from to : Option IntTy) (at : Byte) → AreGiven (widened_number from to at)
widened_number_given None to at = none
widened_number_given (Some from) None at = none
widened_number_given (Some from) (Some to) at = wider_given from to at

pub widened_given : (from to : Ty) (at : Byte) → AreGiven (widened from to at)
widened_given from to at = widened_number_given (number_type from) (number_type to) at

pub tested_given : (at : Byte) (size held failed : ℕ) → is_given (tested at size held failed) ≡ true
tested_given at size held failed = choice_given at size (sets at held 2) (sets at failed 2) (sets_given at held 2) (sets_given at failed 2)

pub unary_given : (op : UnOp) (ty : IntTy) (at : Byte) (size : ℕ) → AreGiven (unary_row op ty at size)
unary_given unop.Plus ty at size = none
unary_given unop.Minus ty at size = one (code.Unary unop.Minus ty at) refl
unary_given unop.Not ty at size = one (code.Unary unop.Not ty at) refl
unary_given unop.Bang ty at size = one (code.Unary unop.Bang (type_of_size size) at) refl

pub logical_given : (op : LogicalOp) (at : Byte) (size : ℕ) (other : List Tree) → AreGiven other → is_given (logical_row op at size other) ≡ true
logical_given logical.And at size other h = choice_given at size other (sets at 0 2) h (sets_given at 0 2)
logical_given logical.Or at size other h = choice_given at size (sets at 1 2) other (sets_given at 1 2) h

shift_given : (op : BinOp) (ty : IntTy) (at right : Byte) (count size : ℕ) → is_given (shift_row op ty at right count size) ≡ true
shift_given op ty at right count size = (join (sets right count size) (operator op ty at right ∷ []) (sets_given right count size) (one (operator op ty at right) refl)).is

pub binary_given : (shifts : Bool) (op : BinOp) (ty : IntTy) (at right : Byte) (count size : ℕ) → AreGiven (binary_row shifts op ty at right count size)
binary_given true op ty at right count size = one (shift_row op ty at right count size) (shift_given op ty at right count size)
binary_given false op ty at right count size = one (operator op ty at right) refl

odd_given : (to from : Byte) (size : ℕ) → AreGiven (odd_part to from size)
odd_given to from size = either (nat_eq (size % 2) 1) (operator binop.Add UInt to from ∷ []) [] (one (operator binop.Add UInt to from) refl) none

multiples_given : (to from : Byte) (size digits : ℕ) → AreGiven (multiples to from size digits)
unfolding multiples
multiples_given to from size zero = none
multiples_given to from size (suc digits) =
    either (nat_lt size 2) [] (multiples to from (size / 2) digits ++ operator binop.Add UInt to to ∷ [] ++ odd_part to from size) none
    (join (multiples to from (size / 2) digits ++ operator binop.Add UInt to to ∷ []) (odd_part to from size)
    (join (multiples to from (size / 2) digits) (operator binop.Add UInt to to ∷ []) (multiples_given to from (size / 2) digits) (one (operator binop.Add UInt to to) refl))
    (odd_given to from size))

scaled_given : (to from : Byte) (size : ℕ) → AreGiven (scaled to from size)
scaled_given to from size = join (copies to from 2) (multiples to from size 64) (copies_given to from 2) (multiples_given to from size 64)

moved_given : (op : BinOp) (at index count : Byte) (size : ℕ) → AreGiven (moved op at index count size)
moved_given op at index count size =
    either (nat_eq size 1) (operator op UInt at index ∷ []) (scaled count index size ++ operator op UInt at count ∷ []) (one (operator op UInt at index) refl)
    (join (scaled count index size) (operator op UInt at count ∷ []) (scaled_given count index size) (one (operator op UInt at count) refl))

moved_right_given : (at : Byte) (size : ℕ) → AreGiven (moved_right at size)
moved_right_given at size =
    either (nat_eq size 1) (operator binop.Add UInt at (behind at 2) ∷ []) (scaled (behind at 4) at size ++ code.Binary binop.Add UInt at (behind at 2) (behind at 4) ∷ [])
    (one (operator binop.Add UInt at (behind at 2)) refl)
    (join (scaled (behind at 4) at size) (code.Binary binop.Add UInt at (behind at 2) (behind at 4) ∷ []) (scaled_given (behind at 4) at size) (one (code.Binary binop.Add UInt at (behind at 2) (behind at 4)) refl))

pub offset_given : (op : BinOp) (at : Byte) (points : Bool) (size : ℕ) → AreGiven (offset_row op at points size)
offset_given op at true size = moved_given op at (behind at 2) (behind at 4) size
offset_given op at false size = moved_right_given at size

pub difference_given : (at : Byte) (size : ℕ) → AreGiven (difference_row at size)
difference_given at size =
    either (nat_lt 32767 size) (sets at 0 2) _ (sets_given at 0 2)
    (join (operator binop.Sub UInt at (behind at 2) ∷ []) (quotient_row at size) (one (operator binop.Sub UInt at (behind at 2)) refl)
    (either (nat_eq size 1) [] _ none (join (sets (behind at 2) size 2) _ (sets_given (behind at 2) size 2) (one _ refl))))

pub member_given : (at : Byte) (offset : ℕ) (number : Byte) → AreGiven (member_row at offset number)
member_given at offset number = either (nat_eq offset 0) [] _ none (join (sets number offset 2) _ (sets_given number offset 2) (one _ refl))

-- ---- places
-- a byte whose address may be a literal
abbrev pub IsNearSpot : Spot → Type 0
IsNearSpot (Fixed byte) = is_near byte ≡ true
IsNearSpot (Bit register bit) = Unit {0}
IsNearSpot Computed = Unit {0}

pub pointer_given : (spot : Spot) (address : List Tree) → AreGiven address → AreGiven (pointer_code spot address)
pointer_given (Fixed byte) address h = none
pointer_given (Bit register bit) address h = none
pointer_given Computed address h = h

pub address_given : (spot : Spot) (at : Byte) → IsNearSpot spot → AreGiven (address_row spot at)
address_given (Fixed byte) at near = one (code.Address at byte) near
address_given (Bit register bit) at near = none
address_given Computed at near = none

read_given : (spot : Spot) (pointer to : Byte) (count : ℕ) → AreGiven (read_row spot pointer to count)
read_given (Fixed from) pointer to count = copies_given to from count
read_given (Bit register bit) pointer to count = one (code.BitRead to register bit) refl
read_given Computed pointer to count = one (code.Load to pointer count) refl

pub value_given : (spot : Spot) (at : Byte) (count : ℕ) → AreGiven (value_row spot at count)
value_given (Fixed from) at count = copies_given at from count
value_given (Bit register bit) at count = one (code.BitRead at register bit) refl
value_given Computed at count = join (code.Load (behind at 2) at count ∷ []) (copies at (behind at 2) count) (one (code.Load (behind at 2) at count) refl) (copies_given at (behind at 2) count)

written_given : (spot : Spot) (root : Root) (pointer from : Byte) (count : ℕ) → AreGiven (written_row spot root pointer from count)
written_given (Fixed to) root pointer from count = copies_given to from count
written_given (Bit register bit) root pointer from count = record { is = refl }
written_given Computed root pointer from count = one (code.Store pointer from count) refl

kept_given : (wanted : Bool) (spot : Spot) (at value : Byte) (count : ℕ) → AreGiven (kept_row wanted spot at value count)
kept_given wanted (Fixed to) at value count = none
kept_given wanted (Bit register bit) at value count = none
kept_given wanted Computed at value count = copies_if_given wanted at value count

pub assigned_given : (wanted : Bool) (spot : Spot) (root : Root) (at : Byte) (count : ℕ) → AreGiven (assigned_row wanted spot root at count)
assigned_given wanted spot root at count =
    join (written_row spot root at (behind at (pointer_bytes spot)) count) (kept_row wanted spot at (behind at (pointer_bytes spot)) count)
    (written_given spot root at (behind at (pointer_bytes spot)) count) (kept_given wanted spot at (behind at (pointer_bytes spot)) count)

-- ---- updates
change_given : (constant : Bool) (operation : Ty) (size number : ℕ) (op : BinOp) (ty : IntTy) (at right : Byte) (count : ℕ) → AreGiven (change_row (change_of constant operation size number) op ty at right count)
change_given true operation size number op ty at right count = one (shift_row op ty at right number count) (shift_given op ty at right number count)
change_given false (Pointer target) size number op ty at right count = moved_given op at right (behind at 2) size
change_given false Void size number op ty at right count = one (operator op ty at right) refl
change_given false (Int kind) size number op ty at right count = one (operator op ty at right) refl
change_given false (Array element length bytes) size number op ty at right count = one (operator op ty at right) refl
change_given false (Struct structure) size number op ty at right count = one (operator op ty at right) refl

changed_given : (spot : Spot) (root : Root) (bytes : ℕ) (from operation : Ty) (at left old keeping : Byte) (keeps wanted : Bool) (row : List Tree) → AreGiven row
    → AreGiven (read_row spot at left bytes ++ widened from operation left ++ copies_if keeps old left bytes ++ row ++ written_row spot root at left bytes ++ copies_if wanted at keeping bytes)
changed_given spot root bytes from operation at left old keeping keeps wanted row h =
    join _ _ (join _ _ (join _ _ (join _ _ (join _ _ (read_given spot at left bytes) (widened_given from operation left)) (copies_if_given keeps old left bytes)) h)
    (written_given spot root at left bytes)) (copies_if_given wanted at keeping bytes)

pub update_given : (wanted : Bool) (l : Layout) (op : BinOp) (place : Place) (value : Expression) (operation : Ty) (size : ℕ) (spot : Spot) (root : Root) (at : Byte) (bytes : ℕ) (from : Ty)
    → AreGiven (update_row (update_of wanted l op place value operation size) spot root at bytes from)
update_given wanted l op place value operation size spot root at bytes from =
    let count = value_width l value in
    let right = behind at (pointer_bytes spot) in
    let left = behind right count in
    changed_given spot root bytes from operation at left (behind left count) left (wanted && false) wanted _
    (change_given (shifts_by_constant op value) operation size (constant_bits value) op (operation_type operation) left right count)

pub step_given : (wanted : Bool) (l : Layout) (op : StepOp) (operation : Ty) (number : ℕ) (spot : Spot) (root : Root) (at : Byte) (bytes : ℕ) (from : Ty)
    → AreGiven (step_row (step_of wanted l op operation) number spot root at bytes from)
step_given wanted l op operation number spot root at bytes from =
    let count = width l operation in
    let right = behind at (pointer_bytes spot) in
    let left = behind right count in
    join _ _ (sets_given right number count)
    (changed_given spot root bytes from operation at left (behind left count) (given_byte (keeps_old op) (behind left count) left) (wanted && keeps_old op) wanted _
    (one (operator (step_operator op) (operation_type operation) left right) refl))

pub called_given : (wanted : Bool) (root : Root) (callee : ℕ) (at : Byte) (arguments count : ℕ) → AreGiven (called_row wanted root callee at arguments count)
called_given wanted root callee at arguments count =
    join (copies (Frame callee 0) at arguments ++ code.Call callee ∷ []) (copies_if wanted at (Result root 0) count)
    (join (copies (Frame callee 0) at arguments) (code.Call callee ∷ []) (copies_given (Frame callee 0) at arguments) (one (code.Call callee) refl)) (copies_if_given wanted at (Result root 0) count)

-- ---- structures
taken_given : (to : Byte) (spot : Spot) (pointer : Byte) (i : ℕ) → is_given (taken to (side_of spot pointer) i) ≡ true
taken_given to (Fixed byte) pointer i = refl
taken_given to (Bit register bit) pointer i = refl
taken_given to Computed pointer i = refl

stored_given : (spot : Spot) (pointer from : Byte) (i : ℕ) → is_given (given (side_of spot pointer) from i) ≡ true
stored_given (Fixed byte) pointer from i = refl
stored_given (Bit register bit) pointer from i = refl
stored_given Computed pointer from i = refl

advance_given : (spot : Spot) (pointer byte : Byte) → AreGiven (advance (side_of spot pointer) byte)
advance_given (Fixed x) pointer byte = none
advance_given (Bit register bit) pointer byte = one (operator binop.Add UInt pointer byte) refl
advance_given Computed pointer byte = one (operator binop.Add UInt pointer byte) refl

structure_bytes_given : (to from : Spot) (a b byte temporary : Byte) (size : ℕ) → AreGiven (structure_bytes (side_of to a) (side_of from b) byte temporary size)
unfolding structure_bytes
structure_bytes_given to from a b byte temporary zero = none
structure_bytes_given to from a b byte temporary (suc i) =
    join _ _ (join _ _ (join _ _ (structure_bytes_given to from a b byte temporary i)
    (either (nat_eq i 0) [] (advance (side_of to a) byte ++ advance (side_of from b) byte) none
    (join (advance (side_of to a) byte) (advance (side_of from b) byte) (advance_given to a byte) (advance_given from b byte))))
    (one (taken temporary (side_of from b) i) (taken_given temporary from b i))) (one (given (side_of to a) temporary i) (stored_given to a temporary i))

through_given : (root : Root) (place from : Spot) (at : Byte) (size : ℕ) → AreGiven (through_row root place from at size)
through_given root place from at size =
    let b = behind at (pointer_bytes place) in
    more _ _ refl (more _ _ refl (structure_bytes_given place from at b (Result root 0) (behind b (pointer_bytes from)) size))

pub struct_given : (root : Root) (place from : Spot) (at : Byte) (size : ℕ) → AreGiven (struct_row root place from at size)
struct_given root (Fixed to) (Fixed byte) at size = copies_given to byte (beyond 0 size)
struct_given root (Fixed to) (Bit register bit) at size = through_given root (Fixed to) (Bit register bit) at size
struct_given root (Fixed to) Computed at size = through_given root (Fixed to) Computed at size
struct_given root (Bit register bit) from at size = through_given root (Bit register bit) from at size
struct_given root Computed from at size = through_given root Computed from at size

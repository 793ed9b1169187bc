-- In the rows that expressions are lowered to operators work on bytes of the copy's frame and on results.
use Rattle.std.proofs.Common.{◌≡◌, ℕ, zero, suc, ◌/◌, ◌%◌, Bool, true, false, ◌&&◌, nat_eq, nat_lt, if◌then◌else◌, List, [], ◌∷◌, ◌++◌, Option, Some, None, refl, arith}
use Rattle.c_ints.specs.declared.operators.BinOp.{BinOp}
use Rattle.c_ints.specs.declared.operators.BinOp.TheVariants as binop
use Rattle.c_ints.specs.declared.operators.UnOp.{UnOp}
use Rattle.c_ints.specs.declared.operators.UnOp.TheVariants as unop
use Rattle.c_ints.specs.declared.types.IntTy.{IntTy}
use Rattle.c_ints.specs.declared.types.IntTy.TheVariants.{UChar, UInt}
use Rattle.c_ints.specs.declared.types.IntTy.TheVariants as intty
use Rattle.c_typed.specs.Folding.{constant_bits}
use Rattle.c_typed.specs.Trees.{Expression, Place}
use Rattle.c_typed.specs.Words.{step_operator}
use Rattle.c_typed.specs.declared.expression.LogicalOp.{LogicalOp}
use Rattle.c_typed.specs.declared.expression.LogicalOp.TheVariants as logical
use Rattle.c_typed.specs.declared.expression.StepOp.{StepOp}
use Rattle.c_typed.specs.declared.types.Ty.{Ty}
use Rattle.c_typed.specs.declared.types.Ty.TheVariants.{Void, Int, Pointer, Array, Struct}
use Rattle.core_code.specs.Tree as code
use Rattle.core_code.specs.Tree.{Tree, trees_of}
use Rattle.core_code.specs.declared.code.Byte.{Byte}
use Rattle.core_code.specs.declared.code.Byte.TheVariants.{Static, Frame, Result, Device}
use Rattle.core_puts.specs.Bytes.{behind, beyond, byte_at, is_wider, number_type, operation_type}
use Rattle.lower_expr.specs.Layout.{Layout, width, value_width}
use Rattle.lower_expr.specs.Lowering.{pointer_code, shifts_by_constant, update_of, step_of}
use Rattle.core_puts.specs.Puts.{copies, copies_if, sets, operator, choice}
use Rattle.lower_expr.specs.Rows.{wider, widened_number, widened, tested, type_of_size, unary_row, logical_row, shift_row, binary_row, odd_part, multiples, scaled, moved, moved_right, offset_row, quotient_row, difference_row, member_row, address_row, read_row, value_row, written_row, kept_row, assigned_row, change_of, change_row, given_byte, keeps_old, update_row, step_row, called_row, side_of, taken, given, advance, structure_bytes, through_row, struct_row}
use Rattle.lower_expr.specs.Spots.{pointer_bytes}
use Rattle.lower_expr.specs.declared.places.Spot.{Spot}
use Rattle.lower_expr.specs.declared.places.Spot.TheVariants.{Fixed, Bit, Computed}
use Rattle.pic_world.specs.declared.Root.{Root}
use Rattle.program_code.specs.Close.{is_close, works_close, all_close}
use Rattle.program_code.proofs.ListSkips.{and_true}

pub record AreClose (c : ℕ) (list : List Tree) : Type 0 where
  pub is : all_close c (trees_of list) ≡ true

module _ (c : ℕ) where
  -- ---- lists
  pub none : AreClose c []
  none = record { is = refl }

  pub more : (t : Tree) (list : List Tree) → works_close c t ≡ true → AreClose c list → AreClose c (t ∷ list)
  more t list e h = record { is = and_true (works_close c t) (all_close c (trees_of list)) e h.is }

  pub one : (t : Tree) → works_close c t ≡ true → AreClose c (t ∷ [])
  one t e = more t [] e none

  pub join : (xs ys : List Tree) → AreClose c xs → AreClose c ys → AreClose c (xs ++ ys)
  join [] ys p q = q
  join (x ∷ xs) ys p q = by (works_close c x) refl (λ e. join xs ys (record { is = e }) q) p.is where
    by : (b : Bool) → works_close c x ≡ b → (all_close c (trees_of xs) ≡ true → AreClose c (xs ++ ys)) → (b && all_close c (trees_of xs)) ≡ true → AreClose c (x ∷ xs ++ ys)
    by true is below e = more x (xs ++ ys) is (below e)
    by false is below e = absurd (cc)

  pub either : (b : Bool) (xs ys : List Tree) → AreClose c xs → AreClose c ys → AreClose c (if b then xs else ys)
  either true xs ys p q = p
  either false xs ys p q = q

  -- ---- bytes
  abbrev pub Close : Byte → Type 0
  Close byte = is_close c byte ≡ true

  pub close_behind : (byte : Byte) (k : ℕ) → Close byte → Close (behind byte k)
  close_behind (Static object offset) k e = e
  close_behind (Frame copy offset) k e = e
  close_behind (Result root n) k e = e
  close_behind (Device address) k e = e

  pub works : (op : BinOp) (ty : IntTy) (to left right : Byte) → Close to → Close left → Close right → works_close c (code.Binary op ty to left right) ≡ true
  works op ty to left right d e f = and_true (is_close c to) (is_close c left && is_close c right) d (and_true (is_close c left) (is_close c right) e f)

  operates : (op : BinOp) (ty : IntTy) (at right : Byte) → Close at → Close right → AreClose c (operator op ty at right ∷ [])
  operates op ty at right e f = one (operator op ty at right) (works op ty at at right e e f)

  pub copies_close : (to from : Byte) (count : ℕ) → AreClose c (copies to from count)
  unfolding copies
  copies_close to from zero = none
  copies_close to from (suc k) = join (copies to from k) (code.Copy (behind to k) (behind from k) ∷ []) (copies_close to from k) (one (code.Copy (behind to k) (behind from k)) refl)

  pub copies_if_close : (wanted : Bool) (to from : Byte) (count : ℕ) → AreClose c (copies_if wanted to from count)
  copies_if_close wanted to from count = either wanted (copies to from count) [] (copies_close to from count) none

  pub sets_close : (to : Byte) (number count : ℕ) → AreClose c (sets to number count)
  unfolding sets
  sets_close to number zero = none
  sets_close to number (suc k) = join (sets to number k) (code.Set (behind to k) (byte_at number k) ∷ []) (sets_close to number k) (one (code.Set (behind to k) (byte_at number k)) refl)

  pub choice_close : (test : Byte) (size : ℕ) (held failed : List Tree) → AreClose c held → AreClose c failed → works_close c (choice test size held failed) ≡ true
  choice_close test size held failed h f = and_true (all_close c (trees_of held)) (all_close c (trees_of failed)) h.is f.is

  -- ---- operators
  wider_close : (from to : IntTy) (at : Byte) → AreClose c (wider from to at)
  wider_close from to at = either (is_wider from to) (code.Convert from to at ∷ []) [] (one (code.Convert from to at) refl) none

  widened_number_close : (from to : Option IntTy) (at : Byte) → AreClose c (widened_number from to at)
  widened_number_close None to at = none
  widened_number_close (Some from) None at = none
  widened_number_close (Some from) (Some to) at = wider_close from to at

  pub widened_close : (from to : Ty) (at : Byte) → AreClose c (widened from to at)
  widened_close from to at = widened_number_close (number_type from) (number_type to) at

  pub tested_close : (at : Byte) (size held failed : ℕ) → works_close c (tested at size held failed) ≡ true
  tested_close at size held failed = choice_close at size (sets at held 2) (sets at failed 2) (sets_close at held 2) (sets_close at failed 2)

  pub unary_close : (op : UnOp) (ty : IntTy) (at : Byte) (size : ℕ) → AreClose c (unary_row op ty at size)
  unary_close unop.Plus ty at size = none
  unary_close unop.Minus ty at size = one (code.Unary unop.Minus ty at) refl
  unary_close unop.Not ty at size = one (code.Unary unop.Not ty at) refl
  unary_close unop.Bang ty at size = one (code.Unary unop.Bang (type_of_size size) at) refl

  pub logical_close : (op : LogicalOp) (at : Byte) (size : ℕ) (other : List Tree) → AreClose c other → works_close c (logical_row op at size other) ≡ true
  logical_close logical.And at size other h = choice_close at size other (sets at 0 2) h (sets_close at 0 2)
  logical_close logical.Or at size other h = choice_close at size (sets at 1 2) other (sets_close at 1 2) h

  shift_close : (op : BinOp) (ty : IntTy) (at right : Byte) (count size : ℕ) → Close at → Close right → works_close c (shift_row op ty at right count size) ≡ true
  shift_close op ty at right count size e f = (join (sets right count size) (operator op ty at right ∷ []) (sets_close right count size) (operates op ty at right e f)).is

  pub binary_close : (shifts : Bool) (op : BinOp) (ty : IntTy) (at right : Byte) (count size : ℕ) → Close at → Close right → AreClose c (binary_row shifts op ty at right count size)
  binary_close true op ty at right count size e f = one (shift_row op ty at right count size) (shift_close op ty at right count size e f)
  binary_close false op ty at right count size e f = operates op ty at right e f

  odd_close : (to from : Byte) (size : ℕ) → Close to → Close from → AreClose c (odd_part to from size)
  odd_close to from size e f = either (nat_eq (size % 2) 1) (operator binop.Add UInt to from ∷ []) [] (operates binop.Add UInt to from e f) none

  multiples_close : (to from : Byte) (size digits : ℕ) → Close to → Close from → AreClose c (multiples to from size digits)
  unfolding multiples
  multiples_close to from size zero e f = none
  multiples_close to from size (suc digits) e f =
      either (nat_lt size 2) [] (multiples to from (size / 2) digits ++ operator binop.Add UInt to to ∷ [] ++ odd_part to from size) none
      (join (multiples to from (size / 2) digits ++ operator binop.Add UInt to to ∷ []) (odd_part to from size)
      (join (multiples to from (size / 2) digits) (operator binop.Add UInt to to ∷ []) (multiples_close to from (size / 2) digits e f) (operates binop.Add UInt to to e e))
      (odd_close to from size e f))

  scaled_close : (to from : Byte) (size : ℕ) → Close to → Close from → AreClose c (scaled to from size)
  scaled_close to from size e f = join (copies to from 2) (multiples to from size 64) (copies_close to from 2) (multiples_close to from size 64 e f)

  moved_close : (op : BinOp) (at index count : Byte) (size : ℕ) → Close at → Close index → Close count → AreClose c (moved op at index count size)
  moved_close op at index count size d e f =
      either (nat_eq size 1) (operator op UInt at index ∷ []) (scaled count index size ++ operator op UInt at count ∷ []) (operates op UInt at index d e)
      (join (scaled count index size) (operator op UInt at count ∷ []) (scaled_close count index size f e) (operates op UInt at count d f))

  moved_right_close : (at : Byte) (size : ℕ) → Close at → AreClose c (moved_right at size)
  moved_right_close at size e =
      let two = close_behind at 2 e in
      let four = close_behind at 4 e in
      either (nat_eq size 1) (operator binop.Add UInt at (behind at 2) ∷ []) (scaled (behind at 4) at size ++ code.Binary binop.Add UInt at (behind at 2) (behind at 4) ∷ [])
      (operates binop.Add UInt at (behind at 2) e two)
      (join (scaled (behind at 4) at size) (code.Binary binop.Add UInt at (behind at 2) (behind at 4) ∷ []) (scaled_close (behind at 4) at size four e)
      (one (code.Binary binop.Add UInt at (behind at 2) (behind at 4)) (works binop.Add UInt at (behind at 2) (behind at 4) e two four)))

  pub offset_close : (op : BinOp) (at : Byte) (points : Bool) (size : ℕ) → Close at → AreClose c (offset_row op at points size)
  offset_close op at true size e = moved_close op at (behind at 2) (behind at 4) size e (close_behind at 2 e) (close_behind at 4 e)
  offset_close op at false size e = moved_right_close at size e

  quotient_close : (at : Byte) (size : ℕ) → Close at → AreClose c (quotient_row at size)
  quotient_close at size e =
      either (nat_eq size 1) [] (sets (behind at 2) size 2 ++ operator binop.Div intty.Int at (behind at 2) ∷ []) none
      (join (sets (behind at 2) size 2) (operator binop.Div intty.Int at (behind at 2) ∷ []) (sets_close (behind at 2) size 2) (operates binop.Div intty.Int at (behind at 2) e (close_behind at 2 e)))

  pub difference_close : (at : Byte) (size : ℕ) → Close at → AreClose c (difference_row at size)
  difference_close at size e =
      either (nat_lt 32767 size) (sets at 0 2) (operator binop.Sub UInt at (behind at 2) ∷ [] ++ quotient_row at size) (sets_close at 0 2)
      (join (operator binop.Sub UInt at (behind at 2) ∷ []) (quotient_row at size) (operates binop.Sub UInt at (behind at 2) e (close_behind at 2 e)) (quotient_close at size e))

  pub member_close : (at : Byte) (offset : ℕ) (number : Byte) → Close at → Close number → AreClose c (member_row at offset number)
  member_close at offset number e f =
      either (nat_eq offset 0) [] (sets number offset 2 ++ operator binop.Add UInt at number ∷ []) none
      (join (sets number offset 2) (operator binop.Add UInt at number ∷ []) (sets_close number offset 2) (operates binop.Add UInt at number e f))

  -- ---- places
  pub pointer_close : (spot : Spot) (address : List Tree) → AreClose c address → AreClose c (pointer_code spot address)
  pointer_close (Fixed byte) address h = none
  pointer_close (Bit register bit) address h = none
  pointer_close Computed address h = h

  pub address_close : (spot : Spot) (at : Byte) → AreClose c (address_row spot at)
  address_close (Fixed byte) at = one (code.Address at byte) refl
  address_close (Bit register bit) at = none
  address_close Computed at = none

  read_close : (spot : Spot) (pointer to : Byte) (count : ℕ) → AreClose c (read_row spot pointer to count)
  read_close (Fixed from) pointer to count = copies_close to from count
  read_close (Bit register bit) pointer to count = one (code.BitRead to register bit) refl
  read_close Computed pointer to count = one (code.Load to pointer count) refl

  pub value_close : (spot : Spot) (at : Byte) (count : ℕ) → AreClose c (value_row spot at count)
  value_close (Fixed from) at count = copies_close at from count
  value_close (Bit register bit) at count = one (code.BitRead at register bit) refl
  value_close Computed at count = join (code.Load (behind at 2) at count ∷ []) (copies at (behind at 2) count) (one (code.Load (behind at 2) at count) refl) (copies_close at (behind at 2) count)

  written_close : (spot : Spot) (root : Root) (pointer from : Byte) (count : ℕ) → Close from → AreClose c (written_row spot root pointer from count)
  written_close (Fixed to) root pointer from count e = copies_close to from count
  written_close (Bit register bit) root pointer from count e =
      more (code.Set (Result root 0) 1) (operator binop.And UChar from (Result root 0) ∷ code.BitWrite register bit from ∷ []) refl
      (more (operator binop.And UChar from (Result root 0)) (code.BitWrite register bit from ∷ []) (works binop.And UChar from from (Result root 0) e e refl) (one (code.BitWrite register bit from) refl))
  written_close Computed root pointer from count e = one (code.Store pointer from count) refl

  kept_close : (wanted : Bool) (spot : Spot) (at value : Byte) (count : ℕ) → AreClose c (kept_row wanted spot at value count)
  kept_close wanted (Fixed to) at value count = none
  kept_close wanted (Bit register bit) at value count = none
  kept_close wanted Computed at value count = copies_if_close wanted at value count

  pub assigned_close : (wanted : Bool) (spot : Spot) (root : Root) (at : Byte) (count : ℕ) → Close at → AreClose c (assigned_row wanted spot root at count)
  assigned_close wanted spot root at count e =
      join (written_row spot root at (behind at (pointer_bytes spot)) count) (kept_row wanted spot at (behind at (pointer_bytes spot)) count)
      (written_close spot root at (behind at (pointer_bytes spot)) count (close_behind at (pointer_bytes spot) e)) (kept_close wanted spot at (behind at (pointer_bytes spot)) count)

  -- ---- updates
  change_close : (constant : Bool) (operation : Ty) (size number : ℕ) (op : BinOp) (ty : IntTy) (at right : Byte) (count : ℕ) → Close at → Close right → AreClose c (change_row (change_of constant operation size number) op ty at right count)
  change_close true operation size number op ty at right count e f = one (shift_row op ty at right number count) (shift_close op ty at right number count e f)
  change_close false (Pointer target) size number op ty at right count e f = moved_close op at right (behind at 2) size e f (close_behind at 2 e)
  change_close false Void size number op ty at right count e f = operates op ty at right e f
  change_close false (Int kind) size number op ty at right count e f = operates op ty at right e f
  change_close false (Array element length bytes) size number op ty at right count e f = operates op ty at right e f
  change_close false (Struct structure) size number op ty at right count e f = operates op ty at right e f

  changed_close : (spot : Spot) (root : Root) (bytes : ℕ) (from operation : Ty) (at left old keeping : Byte) (keeps wanted : Bool) (row : List Tree) → Close left → AreClose c row
      → AreClose c (read_row spot at left bytes ++ widened from operation left ++ copies_if keeps old left bytes ++ row ++ written_row spot root at left bytes ++ copies_if wanted at keeping bytes)
  changed_close spot root bytes from operation at left old keeping keeps wanted row e h =
      join _ _ (join _ _ (join _ _ (join _ _ (join _ _ (read_close spot at left bytes) (widened_close from operation left)) (copies_if_close keeps old left bytes)) h)
      (written_close spot root at left bytes e)) (copies_if_close wanted at keeping bytes)

  pub update_close : (wanted : Bool) (l : Layout) (op : BinOp) (place : Place) (value : Expression) (operation : Ty) (size : ℕ) (spot : Spot) (root : Root) (at : Byte) (bytes : ℕ) (from : Ty) → Close at
      → AreClose c (update_row (update_of wanted l op place value operation size) spot root at bytes from)
  update_close wanted l op place value operation size spot root at bytes from e =
      let count = value_width l value in
      let right = behind at (pointer_bytes spot) in
      let left = behind right count in
      let first = close_behind at (pointer_bytes spot) e in
      let second = close_behind right count first in
      changed_close spot root bytes from operation at left (behind left count) left (wanted && false) wanted _ second
      (change_close (shifts_by_constant op value) operation size (constant_bits value) op (operation_type operation) left right count second first)

  pub step_close : (wanted : Bool) (l : Layout) (op : StepOp) (operation : Ty) (number : ℕ) (spot : Spot) (root : Root) (at : Byte) (bytes : ℕ) (from : Ty) → Close at
      → AreClose c (step_row (step_of wanted l op operation) number spot root at bytes from)
  step_close wanted l op operation number spot root at bytes from e =
      let count = width l operation in
      let right = behind at (pointer_bytes spot) in
      let left = behind right count in
      let first = close_behind at (pointer_bytes spot) e in
      let second = close_behind right count first in
      join _ _ (sets_close right number count)
      (changed_close spot root bytes from operation at left (behind left count) (given_byte (keeps_old op) (behind left count) left) (wanted && keeps_old op) wanted _ second
      (operates (step_operator op) (operation_type operation) left right second first))

  pub called_close : (wanted : Bool) (root : Root) (callee : ℕ) (at : Byte) (arguments count : ℕ) → AreClose c (called_row wanted root callee at arguments count)
  called_close wanted root callee at arguments count =
      join (copies (Frame callee 0) at arguments ++ code.Call callee ∷ []) (copies_if wanted at (Result root 0) count)
      (join (copies (Frame callee 0) at arguments) (code.Call callee ∷ []) (copies_close (Frame callee 0) at arguments) (one (code.Call callee) refl)) (copies_if_close wanted at (Result root 0) count)

  -- ---- structures
  taken_close : (to : Byte) (spot : Spot) (pointer : Byte) (i : ℕ) → works_close c (taken to (side_of spot pointer) i) ≡ true
  taken_close to (Fixed byte) pointer i = refl
  taken_close to (Bit register bit) pointer i = refl
  taken_close to Computed pointer i = refl

  stored_close : (spot : Spot) (pointer from : Byte) (i : ℕ) → works_close c (given (side_of spot pointer) from i) ≡ true
  stored_close (Fixed byte) pointer from i = refl
  stored_close (Bit register bit) pointer from i = refl
  stored_close Computed pointer from i = refl

  advance_close : (spot : Spot) (pointer byte : Byte) → Close pointer → Close byte → AreClose c (advance (side_of spot pointer) byte)
  advance_close (Fixed x) pointer byte e f = none
  advance_close (Bit register bit) pointer byte e f = operates binop.Add UInt pointer byte e f
  advance_close Computed pointer byte e f = operates binop.Add UInt pointer byte e f

  structure_bytes_close : (to from : Spot) (a b byte temporary : Byte) (size : ℕ) → Close a → Close b → Close byte → AreClose c (structure_bytes (side_of to a) (side_of from b) byte temporary size)
  unfolding structure_bytes
  structure_bytes_close to from a b byte temporary zero d e f = none
  structure_bytes_close to from a b byte temporary (suc i) d e f =
      join _ _ (join _ _ (join _ _ (structure_bytes_close to from a b byte temporary i d e f)
      (either (nat_eq i 0) [] (advance (side_of to a) byte ++ advance (side_of from b) byte) none
      (join (advance (side_of to a) byte) (advance (side_of from b) byte) (advance_close to a byte d f) (advance_close from b byte e f))))
      (one (taken temporary (side_of from b) i) (taken_close temporary from b i))) (one (given (side_of to a) temporary i) (stored_close to a temporary i))

  through_close : (root : Root) (place from : Spot) (at : Byte) (size : ℕ) → Close at → AreClose c (through_row root place from at size)
  through_close root place from at size e =
      let b = behind at (pointer_bytes place) in
      more _ _ refl (more _ _ refl (structure_bytes_close place from at b (Result root 0) (behind b (pointer_bytes from)) size e (close_behind at (pointer_bytes place) e) refl))

  pub struct_close : (root : Root) (place from : Spot) (at : Byte) (size : ℕ) → Close at → AreClose c (struct_row root place from at size)
  struct_close root (Fixed to) (Fixed byte) at size e = copies_close to byte (beyond 0 size)
  struct_close root (Fixed to) (Bit register bit) at size e = through_close root (Fixed to) (Bit register bit) at size e
  struct_close root (Fixed to) Computed at size e = through_close root (Fixed to) Computed at size e
  struct_close root (Bit register bit) from at size e = through_close root (Bit register bit) from at size e
  struct_close root Computed from at size e = through_close root Computed from at size e

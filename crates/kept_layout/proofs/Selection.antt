-- What selection names.
use Rattle.std.proofs.Common.{◌≡◌, ℕ, zero, suc, ◌+◌, ◌-◌, ◌/◌, ◌%◌, Bool, true, false, cond, ◌&&◌, nat_eq, ltb, if◌then◌else◌, List, [], ◌∷◌, ◌++◌, length, Option, Some, None, option_map, refl, sym, ap, ◌∙◌}
use Rattle.std.specs.List.{list_all}
use Rattle.c_ints.specs.Range.{bytes_of}
use Rattle.c_ints.specs.declared.operators.BinOp.{BinOp}
use Rattle.c_ints.specs.declared.operators.BinOp.TheVariants as binop
use Rattle.c_ints.specs.declared.operators.UnOp.{UnOp}
use Rattle.c_ints.specs.declared.operators.UnOp.TheVariants as unop
use Rattle.c_ints.specs.declared.types.IntTy.{IntTy}
use Rattle.c_typed.specs.Calls.{int_helper}
use Rattle.c_typed.specs.declared.calls.Helper.{Helper}
use Rattle.call_graph.specs.Numbers.{copy_of}
use Rattle.call_graph.specs.declared.types.FnCopy.{FnCopy}
use Rattle.core_code.specs.Bytes.{same_byte}
use Rattle.core_code.specs.Operands.{number_left}
use Rattle.core_code.specs.Tree as code
use Rattle.core_code.specs.Tree.{Tree, Trees, list_of, trees_of}
use Rattle.core_code.specs.declared.code.Byte.{Byte}
use Rattle.core_code.specs.declared.code.Byte.TheVariants as bytes
use Rattle.pic_world.specs.declared.Root.{Root}
use Rattle.kept_code.specs.Naming.{byte_keeps, tree_keeps, trees_keep, code_keeps}
use Rattle.sym_code.specs.declared.code.BitOperation.{BitOperation}
use Rattle.sym_code.specs.declared.code.BitOperation.TheVariants.{Bcf, Bsf, Btfsc, Btfss}
use Rattle.sym_code.specs.declared.code.FileOperation.{FileOperation}
use Rattle.sym_code.specs.declared.code.FileOperation.TheVariants.{Movf, Andwf, Iorwf, Xorwf, Comf, Incf, Incfsz, Rlf, Rrf}
use Rattle.sym_code.specs.declared.code.Into.{Into}
use Rattle.sym_code.specs.declared.code.Into.TheVariants.{W, File}
use Rattle.sym_code.specs.declared.code.Label.{Label}
use Rattle.sym_code.specs.declared.code.Literal.TheVariants.{Number, Low, High}
use Rattle.sym_code.specs.declared.code.LiteralOperation.TheVariants.{Movlw, Xorlw}
use Rattle.sym_code.specs.declared.code.Register.TheVariants.{Fsr, Indf}
use Rattle.sym_code.specs.declared.code.Sym.{Sym}
use Rattle.select_code.specs.Pieces.{byte_behind, file_code, store_code, clear_code, number_code, flag_code, bit_code, is_clearable, set_code, copy_code, ors_code, test_code, first_label, second_label, label_code, goto_code, jump_code, unless_code, bit_read_code, bit_write_code}
use Rattle.select_code.specs.Selected.{leave_code, jump_target, goes_to, IfForm, Jumps, Leaps, Half, Other, Whole, if_form, if_code, short_turn, turned, loop_code, code_of, first_code, parts_code}
use Rattle.select_code.specs.Sized.{is_cut}
use Rattle.select_code.specs.declared.control.Ending.{Ending}
use Rattle.select_code.specs.declared.control.Ending.TheVariants as ending
use Rattle.select_code.specs.declared.pieces.Flag.{Flag}
use Rattle.select_code.specs.declared.pieces.Flag.TheVariants.{Carry, Zero, Irp}
use Rattle.select_wide.specs.Calls.{enter_code, copy_call_code, any_call_code}
use Rattle.select_wide.specs.Comparisons.{difference_bits_code, differences_code, equality_code, turn_code, signs_code, links_code, order_code}
use Rattle.select_wide.specs.Moves.{copies_code, stores_code, clears_code}
use Rattle.select_wide.specs.Pieces.{rising, register_code, register_store_code, literal_code, nonzero_code, if_bit_code, pair_code, choice_code, truth_code, sign_code}
use Rattle.select_wide.specs.Pointers.{address_code, pointer_code, advance_code, load_byte_code, load_code, store_byte_code, store_all_code}
use Rattle.select_wide.specs.Selection.{way_of, shifted_code, binary_code, wide_code}
use Rattle.select_wide.specs.Shifts.{raised_code, bytes_up_code, bytes_down_code, bytes_way_code, bytes_code, bit_up_code, bit_down_code, bit_shift_code, bit_shifts_code, in_place_code, moved_code, shift_code}
use Rattle.select_wide.specs.Single.{is_signed, complement_code, increment_byte_code, increment_code, bang_code, unary_code, widening_code}
use Rattle.select_wide.specs.Sums.{further_code, link_code, apart_code, chain_byte_code, chain_operation, unless_carried, chain_code, sum_code, bits_byte_code, bits_at_code, bits_code}
use Rattle.select_wide.specs.declared.operands.Chain.{Chain}
use Rattle.select_wide.specs.declared.operands.Chain.TheVariants.{Sum, Difference}
use Rattle.select_wide.specs.declared.operands.Way.{Way}
use Rattle.select_wide.specs.declared.operands.Way.TheVariants.{Left, Right, SignedRight}
use Rattle.kept_layout.specs.Selection.{no_object, sym_keeps, tree_spares, trees_spare, SelectionKeepsNames}
use Rattle.kept_layout.proofs.Owners.{never, left_of, right_of}

module _ (named : ℕ → Bool) where
  abbrev N : List Sym → Type 0
  N list = list_all (sym_keeps named) list ≡ true

  abbrev B : Byte → Type 0
  B byte = byte_keeps named byte ≡ true

  -- a byte of no static object
  abbrev O : Byte → Type 0
  O byte = byte_keeps no_object byte ≡ true

  abbrev Needs : Into → Byte → Type 0
  Needs W byte = B byte
  Needs File byte = O byte

  alone : (a : Bool) → a ≡ true → (a && true) ≡ true
  alone a e = ap (λ (b : Bool). b && true) e

  on : (xs ys : List Sym) → N xs → N ys → N (xs ++ ys)
  on [] ys p q = q
  on (s ∷ xs) ys p q = ap (λ (b : Bool). b && list_all (sym_keeps named) (xs ++ ys)) (left_of (sym_keeps named s) (list_all (sym_keeps named) xs) p) ∙ on xs ys (right_of (sym_keeps named s) (list_all (sym_keeps named) xs) p) q

  either : (b : Bool) (xs ys : List Sym) → (b ≡ true → N xs) → (b ≡ false → N ys) → N (if b then xs else ys)
  either true xs ys p q = p refl
  either false xs ys p q = q refl

  own : (byte : Byte) → O byte → B byte
  own (bytes.Static n offset) e = never (sym e)
  own (bytes.Frame c offset) e = refl
  own (bytes.Result r k) e = refl
  own (bytes.Device address) e = refl

  needs : (into : Into) (byte : Byte) → O byte → Needs into byte
  needs W byte e = own byte e
  needs File byte e = e

  behind : (byte : Byte) (k : ℕ) → B byte → B (byte_behind byte k)
  behind (bytes.Static n offset) k e = e
  behind (bytes.Frame c offset) k e = refl
  behind (bytes.Result r j) k e = refl
  behind (bytes.Device address) k e = refl

  behind_own : (byte : Byte) (k : ℕ) → O byte → O (byte_behind byte k)
  behind_own (bytes.Static n offset) k e = e
  behind_own (bytes.Frame c offset) k e = refl
  behind_own (bytes.Result r j) k e = refl
  behind_own (bytes.Device address) k e = refl

  behind_needs : (into : Into) (byte : Byte) (k : ℕ) → Needs into byte → Needs into (byte_behind byte k)
  behind_needs W byte k e = behind byte k e
  behind_needs File byte k e = behind_own byte k e

  -- the same byte is of no static object either
  same_own : (to left : Byte) → same_byte to left ≡ true → O to → O left
  same_own (bytes.Static n j) left e o = never (sym o)
  same_own (bytes.Frame c j) (bytes.Static m k) e o = never (sym e)
  same_own (bytes.Result r j) (bytes.Static m k) e o = never (sym e)
  same_own (bytes.Device a) (bytes.Static m k) e o = never (sym e)
  same_own (bytes.Frame c j) (bytes.Frame d k) e o = refl
  same_own (bytes.Frame c j) (bytes.Result s k) e o = refl
  same_own (bytes.Frame c j) (bytes.Device b) e o = refl
  same_own (bytes.Result r j) (bytes.Frame d k) e o = refl
  same_own (bytes.Result r j) (bytes.Result s k) e o = refl
  same_own (bytes.Result r j) (bytes.Device b) e o = refl
  same_own (bytes.Device a) (bytes.Frame d k) e o = refl
  same_own (bytes.Device a) (bytes.Result s k) e o = refl
  same_own (bytes.Device a) (bytes.Device b) e o = refl

  -- ---- single instructions
  file : (op : FileOperation) (byte : Byte) (into : Into) → Needs into byte → N (file_code op byte into)
  file op byte W h = alone (byte_keeps named byte) h
  file op byte File h = alone (byte_keeps no_object byte) h

  store : (byte : Byte) → B byte → N (store_code byte)
  store byte h = alone (byte_keeps named byte) h

  if_bit : (byte : Byte) (n : ℕ) → B byte → N (if_bit_code byte n)
  if_bit byte n h = alone (byte_keeps named byte) h

  flag : (op : BitOperation) (f : Flag) → N (flag_code op f)
  flag Bcf f = refl
  flag Bsf f = refl
  flag Btfsc f = refl
  flag Btfss f = refl

  set : (byte : Byte) (value : ℕ) → B byte → N (set_code byte value)
  set byte value h = by (nat_eq value 0 && is_clearable byte) (store byte h) (on (number_code value) (store_code byte) refl (store byte h))
    where
      by : (b : Bool) → N (clear_code byte) → N (number_code value ++ store_code byte) → N (cond b (clear_code byte) (number_code value ++ store_code byte))
      by true p q = p
      by false p q = q

  copy : (to from : Byte) → B to → B from → N (copy_code to from)
  copy to from h g = on (file_code Movf from W) (store_code to) (file Movf from W g) (store to h)

  rise : (f : ℕ → List Sym) → ((k : ℕ) → N (f k)) → (n : ℕ) → N (rising f n)
  rise f h zero = refl
  rise f h (suc k) = on (rising f k) (f k) (rise f h k) (h k)

  pair : (op : FileOperation) (left right : Byte) (into : Into) → Needs into left → B right → N (pair_code op left right into)
  pair op left right into h g = on (file_code Movf right W) (file_code op left into) (file Movf right W g) (file op left into h)

  -- ---- several bytes
  copies : (to from : Byte) → B to → B from → (n : ℕ) → N (copies_code to from n)
  copies to from h g n = rise (λ k. copy_code (byte_behind to k) (byte_behind from k)) (λ k. copy (byte_behind to k) (byte_behind from k) (behind to k h) (behind from k g)) n

  stores : (to : Byte) → B to → (n : ℕ) → N (stores_code to n)
  stores to h n = rise (λ k. store_code (byte_behind to k)) (λ k. store (byte_behind to k) (behind to k h)) n

  clears : (to : Byte) → B to → (n : ℕ) → N (clears_code to n)
  clears to h n = rise (λ k. set_code (byte_behind to k) 0) (λ k. set (byte_behind to k) 0 (behind to k h)) n

  choice : (usual : ℕ) (test : BitOperation) (f : Flag) (other : ℕ) → N (choice_code usual test f other)
  choice usual test f other = on (number_code usual ++ flag_code test f) (number_code other) (on (number_code usual) (flag_code test f) refl (flag test f)) refl

  truth : (to : Byte) → B to → N (truth_code to)
  truth to h = on (store_code to) (set_code (byte_behind to 1) 0) (store to h) (set (byte_behind to 1) 0 (behind to 1 h))

  sign : (top : Byte) → B top → N (sign_code top)
  sign top h = on (number_code 0 ++ if_bit_code top 7) (number_code 255) (on (number_code 0) (if_bit_code top 7) refl (if_bit top 7 h)) refl

  -- ---- sums and bit operations
  further : (chain : Chain) (left right : Byte) (into : Into) → Needs into left → B right → N (further_code chain left right into)
  further chain left right into h g =
      on (file_code Movf right W ++ flag_code (unless_carried chain) Carry ++ file_code Incfsz right W) (file_code (chain_operation chain) left into)
      (on (file_code Movf right W ++ flag_code (unless_carried chain) Carry) (file_code Incfsz right W) (on (file_code Movf right W) (flag_code (unless_carried chain) Carry) (file Movf right W g) (flag (unless_carried chain) Carry)) (file Incfsz right W g))
      (file (chain_operation chain) left into h)

  link : (chain : Chain) (left right : Byte) (into : Into) → Needs into left → B right → (k : ℕ) → N (link_code chain left right into k)
  link chain left right into h g k =
      either (nat_eq k 0) (pair_code (chain_operation chain) left right into) (further_code chain (byte_behind left k) (byte_behind right k) into)
      (λ e. pair (chain_operation chain) left right into h g) (λ e. further chain (byte_behind left k) (byte_behind right k) into (behind_needs into left k h) (behind right k g))

  apart : (chain : Chain) (to left right : Byte) → O to → B left → B right → (k : ℕ) → N (apart_code chain to left right k)
  apart chain to left right o h g k =
      either (nat_eq k 0) (pair_code (chain_operation chain) left right W ++ store_code to) (copy_code (byte_behind to k) (byte_behind left k) ++ further_code chain (byte_behind to k) (byte_behind right k) File)
      (λ e. on (pair_code (chain_operation chain) left right W) (store_code to) (pair (chain_operation chain) left right W h g) (store to (own to o)))
      (λ e. on (copy_code (byte_behind to k) (byte_behind left k)) (further_code chain (byte_behind to k) (byte_behind right k) File) (copy (byte_behind to k) (byte_behind left k) (behind to k (own to o)) (behind left k h))
      (further chain (byte_behind to k) (byte_behind right k) File (behind_own to k o) (behind right k g)))

  chained : (chain : Chain) (to left right : Byte) → O to → B left → B right → (n : ℕ) → N (chain_code chain to left right n)
  chained chain to left right o h g n =
      rise (chain_byte_code chain to left right)
      (λ k. either (same_byte to left) (link_code chain left right File k) (apart_code chain to left right k) (λ e. link chain left right File (same_own to left e o) g k) (λ e. apart chain to left right o h g k)) n

  sum : (to left right : Byte) → O to → B left → B right → (n : ℕ) → N (sum_code to left right n)
  sum to left right o h g n = either (same_byte to right) (chain_code Sum to right left n) (chain_code Sum to left right n) (λ e. chained Sum to right left o g h n) (λ e. chained Sum to left right o h g n)

  bits_byte : (op : FileOperation) (to left right : Byte) → O to → B left → B right → N (bits_byte_code op to left right)
  bits_byte op to left right o h g =
      either (same_byte to left) (pair_code op left right File) (pair_code op left right W ++ store_code to)
      (λ e. pair op left right File (same_own to left e o) g) (λ e. on (pair_code op left right W) (store_code to) (pair op left right W h g) (store to (own to o)))

  bits : (op : FileOperation) (to left right : Byte) → O to → B left → B right → (n : ℕ) → N (bits_code op to left right n)
  bits op to left right o h g n = rise (bits_at_code op to left right) (λ k. bits_byte op (byte_behind to k) (byte_behind left k) (byte_behind right k) (behind_own to k o) (behind left k h) (behind right k g)) n

  -- ---- comparisons
  differences : (to left right : Byte) → O to → B left → B right → (n : ℕ) → N (differences_code to left right n)
  differences to left right o h g n =
      rise (difference_bits_code to left right)
      (λ k. on (pair_code Xorwf (byte_behind left k) (byte_behind right k) W) (if nat_eq k 0 then store_code to else file_code Iorwf to File) (pair Xorwf (byte_behind left k) (byte_behind right k) W (behind left k h) (behind right k g))
      (either (nat_eq k 0) (store_code to) (file_code Iorwf to File) (λ e. store to (own to o)) (λ e. file Iorwf to File o))) n

  equality : (usual : ℕ) (to left right : Byte) → O to → B left → B right → (n : ℕ) → N (equality_code usual to left right n)
  equality usual to left right o h g n =
      on (differences_code to left right n ++ choice_code usual Btfsc Zero (1 - usual)) (truth_code to)
      (on (differences_code to left right n) (choice_code usual Btfsc Zero (1 - usual)) (differences to left right o h g n) (choice usual Btfsc Zero (1 - usual))) (truth to (own to o))

  turn : (top : Byte) → B top → N (turn_code top)
  turn top h = on (if_bit_code top 7) (literal_code Xorlw (Number 1)) (if_bit top 7 h) refl

  signs : (signed : Bool) (left right : Byte) → B left → B right → N (signs_code signed left right)
  signs true left right h g = on (turn_code left) (turn_code right) (turn left h) (turn right g)
  signs false left right h g = refl

  order : (signed : Bool) (usual : ℕ) (to left right : Byte) → O to → B left → B right → (n : ℕ) → N (order_code signed usual to left right n)
  order signed usual to left right o h g n =
      on (links_code left right n ++ choice_code usual Btfss Carry (1 - usual) ++ signs_code signed (byte_behind left (n - 1)) (byte_behind right (n - 1))) (truth_code to)
      (on (links_code left right n ++ choice_code usual Btfss Carry (1 - usual)) (signs_code signed (byte_behind left (n - 1)) (byte_behind right (n - 1)))
      (on (links_code left right n) (choice_code usual Btfss Carry (1 - usual)) (rise (link_code Difference left right W) (λ k. link Difference left right W h g k) n) (choice usual Btfss Carry (1 - usual)))
      (signs signed (byte_behind left (n - 1)) (byte_behind right (n - 1)) (behind left (n - 1) h) (behind right (n - 1) g)))
      (truth to (own to o))

  -- ---- shifts
  bytes_up : (at : Byte) → B at → (n k : ℕ) → N (bytes_up_code at n k)
  bytes_up at h n k =
      on (raised_code at n k) (clears_code at k)
      (rise (λ j. copy_code (byte_behind at (n - 1 - j)) (byte_behind at (n - 1 - j - k))) (λ j. copy (byte_behind at (n - 1 - j)) (byte_behind at (n - 1 - j - k)) (behind at (n - 1 - j) h) (behind at (n - 1 - j - k) h)) (n - k))
      (clears at h k)

  bytes_down : (signed : Bool) (at : Byte) → B at → (n k : ℕ) → N (bytes_down_code signed at n k)
  bytes_down true at h n k =
      on (copies_code at (byte_behind at k) (n - k)) (sign_code (byte_behind at (n - k - 1)) ++ stores_code (byte_behind at (n - k)) k) (copies at (byte_behind at k) h (behind at k h) (n - k))
      (on (sign_code (byte_behind at (n - k - 1))) (stores_code (byte_behind at (n - k)) k) (sign (byte_behind at (n - k - 1)) (behind at (n - k - 1) h)) (stores (byte_behind at (n - k)) (behind at (n - k) h) k))
  bytes_down false at h n k =
      on (copies_code at (byte_behind at k) (n - k)) (clears_code (byte_behind at (n - k)) k) (copies at (byte_behind at k) h (behind at k h) (n - k)) (clears (byte_behind at (n - k)) (behind at (n - k) h) k)

  bytes_way : (way : Way) (at : Byte) → B at → (n k : ℕ) → N (bytes_way_code way at n k)
  bytes_way Left at h n k = bytes_up at h n k
  bytes_way Right at h n k = bytes_down false at h n k
  bytes_way SignedRight at h n k = bytes_down true at h n k

  bit_up : (at : Byte) → O at → (n : ℕ) → N (bit_up_code at n)
  bit_up at o n = rise (λ k. file_code Rlf (byte_behind at k) File) (λ k. file Rlf (byte_behind at k) File (behind_own at k o)) n

  bit_down : (at : Byte) → O at → (n : ℕ) → N (bit_down_code at n)
  bit_down at o n = rise (λ k. file_code Rrf (byte_behind at (n - 1 - k)) File) (λ k. file Rrf (byte_behind at (n - 1 - k)) File (behind_own at (n - 1 - k) o)) n

  bit_shift : (way : Way) (at : Byte) → O at → (n k : ℕ) → N (bit_shift_code way at n k)
  bit_shift Left at o n k = on (flag_code Bcf Carry) (bit_up_code (byte_behind at k) (n - k)) refl (bit_up (byte_behind at k) (behind_own at k o) (n - k))
  bit_shift Right at o n k = on (flag_code Bcf Carry) (bit_down_code at (n - k)) refl (bit_down at o (n - k))
  bit_shift SignedRight at o n k = on (file_code Rlf (byte_behind at (n - k - 1)) W) (bit_down_code at (n - k)) (file Rlf (byte_behind at (n - k - 1)) W (behind at (n - k - 1) (own at o))) (bit_down at o (n - k))

  in_place : (way : Way) (at : Byte) → O at → (n count : ℕ) → N (in_place_code way at n count)
  in_place way at o n count =
      on (bytes_code way at n (count / 8)) (bit_shifts_code way at n (count / 8) (count % 8))
      (either (nat_eq (count / 8) 0) [] (bytes_way_code way at n (count / 8)) (λ e. refl) (λ e. bytes_way way at (own at o) n (count / 8)))
      (rise (λ k. bit_shift_code way at n (count / 8)) (λ k. bit_shift way at o n (count / 8)) (count % 8))

  shift : (way : Way) (to left : Byte) → O to → B left → (n count : ℕ) → N (shift_code way to left n count)
  shift way to left o h n count =
      on (moved_code to left n) (if ltb (count / 8) n then in_place_code way to n count else [])
      (either (same_byte to left) [] (copies_code to left n) (λ e. refl) (λ e. copies to left (own to o) h n))
      (either (ltb (count / 8) n) (in_place_code way to n count) [] (λ e. in_place way to o n count) (λ e. refl))

  -- ---- one operand
  complement : (at : Byte) → O at → (n : ℕ) → N (complement_code at n)
  complement at o n = rise (λ k. file_code Comf (byte_behind at k) File) (λ k. file Comf (byte_behind at k) File (behind_own at k o)) n

  increment : (at : Byte) → O at → (n : ℕ) → N (increment_code at n)
  increment at o n =
      rise (increment_byte_code at)
      (λ k. on (if nat_eq k 0 then [] else flag_code Btfsc Zero) (file_code Incf (byte_behind at k) File) (either (nat_eq k 0) [] (flag_code Btfsc Zero) (λ e. refl) (λ e. refl)) (file Incf (byte_behind at k) File (behind_own at k o))) n

  ors : (first : Byte) → B first → (n : ℕ) → N (ors_code first n)
  ors first h zero = refl
  ors first h (suc k) = on (ors_code first k) (file_code Iorwf (byte_behind first (suc k)) W) (ors first h k) (file Iorwf (byte_behind first (suc k)) W (behind first (suc k) h))

  tests : (at : Byte) → B at → (n : ℕ) → N (test_code at n)
  tests at h zero = refl
  tests at h (suc k) = on (file_code Movf at W) (ors_code at k) (file Movf at W h) (ors at h k)

  bang : (at : Byte) → O at → (n : ℕ) → N (bang_code at n)
  bang at o n =
      on (test_code at n ++ nonzero_code ++ choice_code 0 Btfss Carry 1) (truth_code at)
      (on (test_code at n ++ nonzero_code) (choice_code 0 Btfss Carry 1) (on (test_code at n) nonzero_code (tests at (own at o) n) refl) refl) (truth at (own at o))

  unary : (op : UnOp) (ty : IntTy) (at : Byte) → O at → N (unary_code op ty at)
  unary unop.Plus ty at o = refl
  unary unop.Minus ty at o = on (complement_code at (bytes_of ty)) (increment_code at (bytes_of ty)) (complement at o (bytes_of ty)) (increment at o (bytes_of ty))
  unary unop.Not ty at o = complement at o (bytes_of ty)
  unary unop.Bang ty at o = bang at o (bytes_of ty)

  widening : (from to : IntTy) (at : Byte) → B at → N (widening_code from to at)
  widening from to at h =
      either (is_signed from) (sign_code (byte_behind at (bytes_of from - 1)) ++ stores_code (byte_behind at (bytes_of from)) (bytes_of to - bytes_of from)) (clears_code (byte_behind at (bytes_of from)) (bytes_of to - bytes_of from))
      (λ e. on (sign_code (byte_behind at (bytes_of from - 1))) (stores_code (byte_behind at (bytes_of from)) (bytes_of to - bytes_of from)) (sign (byte_behind at (bytes_of from - 1)) (behind at (bytes_of from - 1) h)) (stores (byte_behind at (bytes_of from)) (behind at (bytes_of from) h) (bytes_of to - bytes_of from)))
      (λ e. clears (byte_behind at (bytes_of from)) (behind at (bytes_of from) h) (bytes_of to - bytes_of from))

  -- ---- pointers
  address : (to place : Byte) → B to → N (address_code to place)
  address to place h =
      on (literal_code Movlw (Low place) ++ store_code to ++ literal_code Movlw (High place)) (store_code (byte_behind to 1))
      (on (literal_code Movlw (Low place) ++ store_code to) (literal_code Movlw (High place)) (on (literal_code Movlw (Low place)) (store_code to) refl (store to h)) refl) (store (byte_behind to 1) (behind to 1 h))

  pointed : (pointer : Byte) → B pointer → N (pointer_code pointer)
  pointed pointer h =
      on (file_code Movf pointer W ++ register_store_code Fsr ++ flag_code Bcf Irp ++ if_bit_code (byte_behind pointer 1) 0) (flag_code Bsf Irp)
      (on (file_code Movf pointer W ++ register_store_code Fsr ++ flag_code Bcf Irp) (if_bit_code (byte_behind pointer 1) 0)
      (on (file_code Movf pointer W ++ register_store_code Fsr) (flag_code Bcf Irp) (on (file_code Movf pointer W) (register_store_code Fsr) (file Movf pointer W h) refl) refl) (if_bit (byte_behind pointer 1) 0 (behind pointer 1 h)))
      refl

  advance : (k : ℕ) → N (advance_code k)
  advance k = by (nat_eq k 0)
    where
      by : (b : Bool) → N (if b then [] else register_code Incf Fsr File)
      by true = refl
      by false = refl

  load : (to pointer : Byte) → B to → B pointer → (n : ℕ) → N (load_code to pointer n)
  load to pointer h g n =
      on (pointer_code pointer) (rising (load_byte_code to) n) (pointed pointer g)
      (rise (load_byte_code to) (λ k. on (advance_code k ++ register_code Movf Indf W) (store_code (byte_behind to k)) (on (advance_code k) (register_code Movf Indf W) (advance k) refl) (store (byte_behind to k) (behind to k h))) n)

  store_all : (pointer from : Byte) → B pointer → B from → (n : ℕ) → N (store_all_code pointer from n)
  store_all pointer from g h n =
      on (pointer_code pointer) (rising (store_byte_code from) n) (pointed pointer g)
      (rise (store_byte_code from) (λ k. on (advance_code k ++ file_code Movf (byte_behind from k) W) (register_store_code Indf) (on (advance_code k) (file_code Movf (byte_behind from k) W) (advance k) (file Movf (byte_behind from k) W (behind from k h))) refl) n)

  -- ---- helpers
  module _ (root : Root) (to left right : Byte) (o : O to) (h : B left) (g : B right) where
    copy_call : (copy : Option ℕ) (w n : ℕ) → N (copy_call_code copy root to left right w n)
    copy_call None w n = refl
    copy_call (Some c) w n =
        on (copies_code (bytes.Frame c 0) left w ++ copies_code (byte_behind (bytes.Frame c 0) w) right n ++ enter_code c) (copies_code to (bytes.Result root 0) w)
        (on (copies_code (bytes.Frame c 0) left w ++ copies_code (byte_behind (bytes.Frame c 0) w) right n) (enter_code c)
        (on (copies_code (bytes.Frame c 0) left w) (copies_code (byte_behind (bytes.Frame c 0) w) right n) (copies (bytes.Frame c 0) left refl h w) (copies (byte_behind (bytes.Frame c 0) w) right refl g n)) refl)
        (copies to (bytes.Result root 0) (own to o) refl w)

    any_call : (helper : Option Helper) (list : List FnCopy) (w n : ℕ) → N (any_call_code helper list root to left right w n)
    any_call None list w n = refl
    any_call (Some helper) list w n = copy_call (copy_of list root helper) w n

    shifted : (count : Option ℕ) (list : List FnCopy) (op : BinOp) (ty : IntTy) → N (shifted_code count list root op ty to left right)
    shifted None list op ty = any_call (int_helper op false ty) list (bytes_of ty) 1
    shifted (Some count) list op ty = shift (way_of op (is_signed ty)) to left o h (bytes_of ty) count

    binary : (list : List FnCopy) (before : List Tree) (op : BinOp) (ty : IntTy) → N (binary_code list root before op ty to left right)
    binary list before binop.Add ty = sum to left right o h g (bytes_of ty)
    binary list before binop.Sub ty = chained Difference to left right o h g (bytes_of ty)
    binary list before binop.And ty = bits Andwf to left right o h g (bytes_of ty)
    binary list before binop.Xor ty = bits Xorwf to left right o h g (bytes_of ty)
    binary list before binop.Or ty = bits Iorwf to left right o h g (bytes_of ty)
    binary list before binop.Eq ty = equality 0 to left right o h g (bytes_of ty)
    binary list before binop.Ne ty = equality 1 to left right o h g (bytes_of ty)
    binary list before binop.Lt ty = order (is_signed ty) 0 to left right o h g (bytes_of ty)
    binary list before binop.Ge ty = order (is_signed ty) 1 to left right o h g (bytes_of ty)
    binary list before binop.Gt ty = order (is_signed ty) 0 to right left o g h (bytes_of ty)
    binary list before binop.Le ty = order (is_signed ty) 1 to right left o g h (bytes_of ty)
    binary list before binop.Shl ty = shifted (number_left before right) list binop.Shl ty
    binary list before binop.Shr ty = shifted (number_left before right) list binop.Shr ty
    binary list before binop.Mul ty = any_call (int_helper binop.Mul false ty) list (bytes_of ty) (bytes_of ty)
    binary list before binop.Div ty = any_call (int_helper binop.Div false ty) list (bytes_of ty) (bytes_of ty)
    binary list before binop.Rem ty = any_call (int_helper binop.Rem false ty) list (bytes_of ty) (bytes_of ty)

  -- ---- control
  goes : (o : Option Label) → N (goes_to o)
  goes None = refl
  goes (Some label) = refl

  leaves : (end : Ending) → N (leave_code end)
  leaves ending.Halt = refl
  leaves ending.Restore = refl
  leaves ending.Return = refl

  if_all : (form : IfForm) (at : ℕ) (test : List Sym) (holds fails : ℕ → List Sym) → N test → ((n : ℕ) → N (holds n)) → ((n : ℕ) → N (fails n)) → N (if_code form at test holds fails)
  if_all (Jumps to) at test holds fails t h e = on test (jump_code to) t refl
  if_all (Leaps to) at test holds fails t h e = on test (unless_code to) t refl
  if_all Half at test holds fails t h e =
      let head = test ++ jump_code (second_label at) in
      on (head ++ holds (at + length head)) (label_code (second_label at)) (on head (holds (at + length head)) (on test (jump_code (second_label at)) t refl) (h (at + length head))) refl
  if_all Other at test holds fails t h e =
      let head = test ++ unless_code (second_label at) in
      on (head ++ fails (at + length head)) (label_code (second_label at)) (on head (fails (at + length head)) (on test (unless_code (second_label at)) t refl) (e (at + length head))) refl
  if_all Whole at test holds fails t h e =
      let head = test ++ jump_code (first_label at) in
      let body = holds (at + length head) in
      let middle = head ++ body ++ goto_code (second_label at) ++ label_code (first_label at) in
      on (middle ++ fails (at + length middle)) (label_code (second_label at))
      (on middle (fails (at + length middle))
      (on (head ++ body ++ goto_code (second_label at)) (label_code (first_label at)) (on (head ++ body) (goto_code (second_label at)) (on head body (on test (jump_code (first_label at)) t refl) (h (at + length head))) refl) refl)
      (e (at + length middle)))
      refl

  turned_all : (o : Option ℕ) (short : ℕ → List Sym) (whole : List Sym) (top : Label) → ((n : ℕ) → N (short n)) → N whole → N (turned (option_map short o) whole top)
  turned_all None short whole top s w = on whole (goto_code top) w refl
  turned_all (Some count) short whole top s w = s count

  loop_all : (at : ℕ) (turn : List Sym) → N turn → N (loop_code at turn)
  loop_all at turn t = on (label_code (first_label at) ++ turn) (label_code (second_label at)) (on (label_code (first_label at)) turn refl t) refl

  bit_reads : (to : Byte) (register bit : ℕ) → B to → N (bit_read_code to register bit)
  bit_reads to register bit h = on (number_code 0 ++ bit_code Btfsc (bytes.Device register) (bit % 8) ++ number_code 1) (store_code to) refl (store to h)

  bit_writes : (at register bit : ℕ) (from : Byte) → B from → N (bit_write_code at register bit from)
  bit_writes at register bit from h = ap (λ (b : Bool). b && true) h

  cut : (b : Bool) (xs : List Sym) → N xs → N (cond b [] xs)
  cut true xs h = refl
  cut false xs h = h

  module _ (lent : ℕ → Bool) (copies_of : List FnCopy) (root : Root) (end : Ending) where
    abbrev wide : ℕ → List Tree → Tree → List Sym
    wide at before tree = wide_code copies_of root before tree

    abbrev K : Tree → Type 0
    K t = tree_keeps named lent t ≡ true

    abbrev S : Tree → Type 0
    S t = tree_spares t ≡ true

    mutual
      unfolding tree_keeps

      code_all : (loops : List ℕ) (at : ℕ) (before : List Tree) (t : Tree) → K t → S t → N (code_of wide end loops at before t)
      code_all loops at before (code.Many parts) k s = parts_all loops at [] parts (length (list_of parts)) k s
      code_all loops at before (code.If test size holds fails) k s =
          let inner = right_of (byte_keeps named test) (tree_keeps named lent holds && tree_keeps named lent fails) k in
          if_all (if_form loops holds fails) at (test_code test size) (λ n. code_of wide end loops n [] holds) (λ n. code_of wide end loops n [] fails) (tests test (left_of (byte_keeps named test) (tree_keeps named lent holds && tree_keeps named lent fails) k) size)
          (λ n. code_all loops n [] holds (left_of (tree_keeps named lent holds) (tree_keeps named lent fails) inner) (left_of (tree_spares holds) (tree_spares fails) s))
          (λ n. code_all loops n [] fails (right_of (tree_keeps named lent holds) (tree_keeps named lent fails) inner) (right_of (tree_spares holds) (tree_spares fails) s))
      code_all loops at before (code.Loop body) k s =
          loop_all at (turned (option_map (λ count. first_code wide end (at ∷ loops) (at + 1) count body) (short_turn body)) (code_of wide end (at ∷ loops) (at + 1) [] body) (first_label at))
          (turned_all (short_turn body) (λ count. first_code wide end (at ∷ loops) (at + 1) count body) (code_of wide end (at ∷ loops) (at + 1) [] body) (first_label at)
          (λ count. first_all (at ∷ loops) (at + 1) count body k s) (code_all (at ∷ loops) (at + 1) [] body k s))
      code_all loops at before (code.Set to value) k s = set to value k
      code_all loops at before (code.Address to place) k s = address to place (left_of (byte_keeps named to) (byte_keeps lent place) k)
      code_all loops at before (code.Copy to from) k s = copy to from (left_of (byte_keeps named to) (byte_keeps named from) k) (right_of (byte_keeps named to) (byte_keeps named from) k)
      code_all loops at before (code.Load to pointer count) k s = load to pointer (left_of (byte_keeps named to) (byte_keeps named pointer) k) (right_of (byte_keeps named to) (byte_keeps named pointer) k) count
      code_all loops at before (code.Store pointer from count) k s = store_all pointer from (left_of (byte_keeps named pointer) (byte_keeps named from) k) (right_of (byte_keeps named pointer) (byte_keeps named from) k) count
      code_all loops at before (code.Unary op ty to) k s = unary op ty to s
      code_all loops at before (code.Binary op ty to left right) k s =
          let inner = right_of (byte_keeps named to) (byte_keeps named left && byte_keeps named right) k in
          binary root to left right s (left_of (byte_keeps named left) (byte_keeps named right) inner) (right_of (byte_keeps named left) (byte_keeps named right) inner) copies_of before op ty
      code_all loops at before (code.Convert from to place) k s = cut (is_cut from to) (widening_code from to place) (widening from to place k)
      code_all loops at before (code.BitRead to register bit) k s = bit_reads to register bit k
      code_all loops at before (code.BitWrite register bit from) k s = bit_writes at register bit from k
      code_all loops at before (code.Call copy) k s = refl
      code_all loops at before code.Leave k s = leaves end
      code_all loops at before (code.Exit count) k s = goes (jump_target loops (code.Exit count))
      code_all loops at before (code.Again count) k s = goes (jump_target loops (code.Again count))

      first_all : (loops : List ℕ) (at count : ℕ) (t : Tree) → K t → S t → N (first_code wide end loops at count t)
      first_all loops at count (code.Many parts) k s = parts_all loops at [] parts count k s
      first_all loops at count t k s = refl

      parts_all : (loops : List ℕ) (at : ℕ) (before : List Tree) (ts : Trees) (count : ℕ) → trees_keep named lent ts ≡ true → trees_spare ts ≡ true → N (parts_code wide end loops at before ts count)
      parts_all loops at before code.NoTree count k s = refl
      parts_all loops at before (code.AndTree part parts) zero k s = refl
      parts_all loops at before (code.AndTree part parts) (suc count) k s =
          let one = code_of wide end loops at before part in
          on one (parts_code wide end loops (at + length one) (before ++ part ∷ []) parts count)
          (code_all loops at before part (left_of (tree_keeps named lent part) (trees_keep named lent parts) k) (left_of (tree_spares part) (trees_spare parts) s))
          (parts_all loops (at + length one) (before ++ part ∷ []) parts count (right_of (tree_keeps named lent part) (trees_keep named lent parts) k) (right_of (tree_spares part) (trees_spare parts) s))

    list_keeps : (ts : List Tree) → code_keeps named lent ts ≡ true → trees_keep named lent (trees_of ts) ≡ true
    unfolding tree_keeps
    list_keeps [] k = refl
    list_keeps (t ∷ ts) k = ap (λ (b : Bool). b && trees_keep named lent (trees_of ts)) (left_of (tree_keeps named lent t) (code_keeps named lent ts) k) ∙ list_keeps ts (right_of (tree_keeps named lent t) (code_keeps named lent ts) k)

    list_spares : (ts : List Tree) → list_all tree_spares ts ≡ true → trees_spare (trees_of ts) ≡ true
    list_spares [] s = refl
    list_spares (t ∷ ts) s = ap (λ (b : Bool). b && trees_spare (trees_of ts)) (left_of (tree_spares t) (list_all tree_spares ts) s) ∙ list_spares ts (right_of (tree_spares t) (list_all tree_spares ts) s)

pub selection_keeps : SelectionKeepsNames
selection_keeps named lent copies root end parts k s = parts_all named lent copies root end [] 0 [] (trees_of parts) (length parts) (list_keeps named lent copies root end parts k) (list_spares named lent copies root end parts s)

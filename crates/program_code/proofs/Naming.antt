-- The code of an operation names bytes alone that are there, where those that the operation names are, with those behind them.
use Rattle.std.proofs.Common.{◌≡◌, ℕ, zero, suc, ◌+◌, ◌-◌, ◌/◌, ◌%◌, ◌≤◌, ◌<◌, Bool, true, false, cond, ◌&&◌, nat_eq, min, ltb, if◌then◌else◌, List, [], ◌∷◌, ◌++◌, length, Option, Some, None, option_map, refl, subst, arith}
use Rattle.std.proofs.lemmas.Bool.{ltb-true, leb-false}
use Rattle.std.proofs.lemmas.Option.{none-some, same_Some}
use Rattle.pic_world.specs.declared.Root.{Root}
use Rattle.c_ints.specs.Range.{bytes_of}
use Rattle.c_ints.specs.declared.operators.BinOp.{BinOp}
use Rattle.c_ints.specs.declared.operators.BinOp.TheVariants as binop
use Rattle.c_ints.specs.declared.operators.UnOp.{UnOp}
use Rattle.c_ints.specs.declared.operators.UnOp.TheVariants as unop
use Rattle.c_ints.specs.declared.types.IntTy.{IntTy}
use Rattle.c_ints.specs.declared.types.IntTy.TheVariants as intty
use Rattle.c_typed.specs.Calls.{by_type, int_helper}
use Rattle.c_typed.specs.declared.calls.Helper.{Helper}
use Rattle.c_typed.specs.declared.calls.Helper.TheVariants as helper
use Rattle.call_graph.specs.Numbers.{copy_of}
use Rattle.call_graph.specs.declared.types.FnCopy.{FnCopy}
use Rattle.core_code.specs.Bytes.{same_byte}
use Rattle.core_code.specs.Operands.{number_left}
use Rattle.core_code.specs.Tree as code
use Rattle.core_code.specs.Tree.{Tree, Trees, list_of}
use Rattle.core_code.specs.declared.code.Byte.{Byte}
use Rattle.core_code.specs.declared.code.Byte.TheVariants as bytes
use Rattle.sym_code.specs.declared.code.BitOperation.{BitOperation}
use Rattle.sym_code.specs.declared.code.BitOperation.TheVariants.{Bcf, Bsf, Btfsc, Btfss}
use Rattle.sym_code.specs.declared.code.FileOperation.{FileOperation}
use Rattle.sym_code.specs.declared.code.FileOperation.TheVariants.{Movf, Andwf, Iorwf, Xorwf, Comf, Incf, Incfsz, Rlf, Rrf}
use Rattle.sym_code.specs.declared.code.Into.{Into}
use Rattle.sym_code.specs.declared.code.Into.TheVariants.{W, File}
use Rattle.sym_code.specs.declared.code.Label.{Label}
use Rattle.sym_code.specs.declared.code.Register.TheVariants.{Fsr, Indf}
use Rattle.sym_code.specs.declared.code.Sym.{Sym}
use Rattle.ram_place.specs.Helpers.{frame_bytes}
use Rattle.select_code.specs.Pieces.{byte_behind, file_code, store_code, clear_code, number_code, flag_code, bit_code, is_clearable, set_code, copy_code, ors_code, test_code, first_label, second_label, label_code, goto_code, jump_code, unless_code, bit_read_code, bit_write_code}
use Rattle.select_code.specs.Selected.{leave_code, jump_target, goes_to, IfForm, Jumps, Leaps, Half, Other, Whole, if_form, if_code, short_turn, turned, loop_code, code_of, first_code, parts_code}
use Rattle.select_code.specs.Sized.{is_cut}
use Rattle.select_code.specs.declared.control.Ending.{Ending}
use Rattle.select_code.specs.declared.control.Ending.TheVariants as ending
use Rattle.select_code.specs.declared.pieces.Flag.{Flag}
use Rattle.select_code.specs.declared.pieces.Flag.TheVariants.{Carry, Zero}
use Rattle.select_wide.specs.Calls.{enter_code, copy_call_code, any_call_code}
use Rattle.select_wide.specs.Comparisons.{difference_bits_code, differences_code, equality_code, turn_code, signs_code, links_code, order_code}
use Rattle.select_wide.specs.Moves.{copies_code, stores_code, clears_code}
use Rattle.select_wide.specs.Pieces.{rising, register_code, register_store_code, nonzero_code, if_bit_code, pair_code, choice_code, truth_code, sign_code}
use Rattle.select_wide.specs.Pointers.{address_code, pointer_code, advance_code, load_byte_code, load_code, store_byte_code, store_all_code}
use Rattle.select_wide.specs.Selection.{way_of, shifted_code, binary_code, wide_code}
use Rattle.select_wide.specs.Shifts.{raised_code, bytes_down_code, bytes_way_code, bit_up_code, bit_down_code, bit_shift_code, bit_shifts_code, in_place_code, shift_code}
use Rattle.select_wide.specs.Single.{is_signed, complement_code, increment_byte_code, increment_code, unary_code, widening_code}
use Rattle.select_wide.specs.Sums.{further_code, link_code, apart_code, chain_byte_code, chain_operation, unless_carried, chain_code, sum_code, bits_at_code, bits_code}
use Rattle.select_wide.specs.declared.operands.Chain.{Chain}
use Rattle.select_wide.specs.declared.operands.Chain.TheVariants.{Sum, Difference}
use Rattle.select_wide.specs.declared.operands.Way.{Way}
use Rattle.select_wide.specs.declared.operands.Way.TheVariants.{Left, Right, SignedRight}
use Rattle.program_code.specs.Naming.{Memory, HasBytes, Lies, Points, TreeLies, TreesLie, SymsLie, answer_bytes, count_bytes}
use Rattle.program_code.proofs.Lying.{has_fewer, less, of_result, of_callee}
use Rattle.program_code.proofs.Operators.{whole_bytes}

-- a helper's frame has room for both operands
abbrev HasRoom : (ℕ → ℕ) → ℕ → Helper → Type 0
HasRoom count w h = w + count w ≤ frame_bytes h

room_by : (s2 u2 s4 u4 : Helper) (count : ℕ → ℕ) → HasRoom count 2 s2 → HasRoom count 2 u2 → HasRoom count 4 s4 → HasRoom count 4 u4 → (ty : IntTy) (h : Helper) → by_type s2 u2 s4 u4 ty ≡ Some h → HasRoom count (bytes_of ty) h
room_by s2 u2 s4 u4 count a b c d intty.Char h e = absurd (none-some h e)
room_by s2 u2 s4 u4 count a b c d intty.SChar h e = absurd (none-some h e)
room_by s2 u2 s4 u4 count a b c d intty.UChar h e = absurd (none-some h e)
room_by s2 u2 s4 u4 count a b c d intty.Short h e = subst (HasRoom count 2) (same_Some s2 h e) a
room_by s2 u2 s4 u4 count a b c d intty.UShort h e = subst (HasRoom count 2) (same_Some u2 h e) b
room_by s2 u2 s4 u4 count a b c d intty.Int h e = subst (HasRoom count 2) (same_Some s2 h e) a
room_by s2 u2 s4 u4 count a b c d intty.UInt h e = subst (HasRoom count 2) (same_Some u2 h e) b
room_by s2 u2 s4 u4 count a b c d intty.Long h e = subst (HasRoom count 4) (same_Some s4 h e) c
room_by s2 u2 s4 u4 count a b c d intty.ULong h e = subst (HasRoom count 4) (same_Some u4 h e) d

helper_room : (op : BinOp) (ty : IntTy) (h : Helper) → int_helper op false ty ≡ Some h → bytes_of ty + count_bytes op (bytes_of ty) ≤ frame_bytes h
helper_room binop.Mul ty h e = room_by helper.Mul2 helper.Mul2 helper.Mul4 helper.Mul4 (λ w. w) (omega arith) (omega arith) (omega arith) (omega arith) ty h e
helper_room binop.Div ty h e = room_by helper.Divs2 helper.Divu2 helper.Divs4 helper.Divu4 (λ w. w) (omega arith) (omega arith) (omega arith) (omega arith) ty h e
helper_room binop.Rem ty h e = room_by helper.Rems2 helper.Remu2 helper.Rems4 helper.Remu4 (λ w. w) (omega arith) (omega arith) (omega arith) (omega arith) ty h e
helper_room binop.Shl ty h e = room_by helper.Shl2 helper.Shl2 helper.Shl4 helper.Shl4 (λ w. 1) (omega arith) (omega arith) (omega arith) (omega arith) ty h e
helper_room binop.Shr ty h e = room_by helper.Shrs2 helper.Shru2 helper.Shrs4 helper.Shru4 (λ w. 1) (omega arith) (omega arith) (omega arith) (omega arith) ty h e
helper_room binop.Add ty h e = absurd (none-some h e)
helper_room binop.Sub ty h e = absurd (none-some h e)
helper_room binop.Lt ty h e = absurd (none-some h e)
helper_room binop.Gt ty h e = absurd (none-some h e)
helper_room binop.Le ty h e = absurd (none-some h e)
helper_room binop.Ge ty h e = absurd (none-some h e)
helper_room binop.Eq ty h e = absurd (none-some h e)
helper_room binop.Ne ty h e = absurd (none-some h e)
helper_room binop.And ty h e = absurd (none-some h e)
helper_room binop.Xor ty h e = absurd (none-some h e)
helper_room binop.Or ty h e = absurd (none-some h e)

module _ (memory : Memory) where
  -- the instructions of a list name bytes alone that are there
  abbrev AreIn : List Sym → Type 0
  AreIn list = SymsLie memory list

  pub lies_less : (n m : ℕ) (byte : Byte) → m ≤ n → Lies memory n byte → Lies memory m byte
  lies_less n m byte l h = less memory n m byte l h

  pub lies_behind : (n m i : ℕ) (byte : Byte) → i + m ≤ n → Lies memory n byte → Lies memory m (byte_behind byte i)
  lies_behind n m i (bytes.Frame copy k) l h = has_fewer (memory.frames copy) (k + n) (min (k + i) 65535 + m) (omega (arith, l)) h
  lies_behind n m i (bytes.Static object k) l h = has_fewer (memory.objects object) (k + n) (min (k + i) 65535 + m) (omega (arith, l)) h
  lies_behind n m i (bytes.Result r k) l h = omega (arith, l, h)
  lies_behind n m i (bytes.Device address) l h =
      let low = h.0 in
      let one = h.1 in
      (omega arith, omega (arith, l, one), λ some. subst (λ (a : ℕ). memory.devices a ≡ true) (omega (arith, l, low, one, some)) (h.2 (omega (arith, l, some))))

  in_on : (xs ys : List Sym) → AreIn xs → AreIn ys → AreIn (xs ++ ys)
  in_on [] ys p q = q
  in_on (s ∷ xs) ys p q = (p.0, in_on xs ys p.1 q)

  -- ---- single instructions
  in_file : (op : FileOperation) (byte : Byte) (into : Into) → Lies memory 1 byte → AreIn (file_code op byte into)
  in_file op byte into h = (h, tt)

  in_store : (byte : Byte) → Lies memory 1 byte → AreIn (store_code byte)
  in_store byte h = (h, tt)

  in_clear : (byte : Byte) → Lies memory 1 byte → AreIn (clear_code byte)
  in_clear byte h = (h, tt)

  in_bit : (op : BitOperation) (byte : Byte) (n : ℕ) → Lies memory 1 byte → AreIn (bit_code op byte n)
  in_bit op byte n h = (h, tt)

  in_number : (value : ℕ) → AreIn (number_code value)
  in_number value = (tt, tt)

  in_flag : (op : BitOperation) (flag : Flag) → AreIn (flag_code op flag)
  in_flag op flag = (tt, tt)

  in_goto : (label : Label) → AreIn (goto_code label)
  in_goto label = (tt, tt)

  in_label : (label : Label) → AreIn (label_code label)
  in_label label = (tt, tt)

  -- ---- bytes
  in_set : (byte : Byte) (value : ℕ) → Lies memory 1 byte → AreIn (set_code byte value)
  in_set byte value h = by_clear (nat_eq value 0 && is_clearable byte)
    where
      by_clear : (b : Bool) → AreIn (cond b (clear_code byte) (number_code value ++ store_code byte))
      by_clear true = in_clear byte h
      by_clear false = in_on (number_code value) (store_code byte) (in_number value) (in_store byte h)

  in_copy : (to from : Byte) → Lies memory 1 to → Lies memory 1 from → AreIn (copy_code to from)
  in_copy to from h g = in_on (file_code Movf from W) (store_code to) (in_file Movf from W g) (in_store to h)

  in_rising : (code : ℕ → List Sym) (w : ℕ) → ((k : ℕ) → k < w → AreIn (code k)) → AreIn (rising code w)
  in_rising code zero h = tt
  in_rising code (suc w) h = in_on (rising code w) (code w) (in_rising code w (λ k l. h k (omega (arith, l)))) (h w (omega arith))

  in_copies : (to from : Byte) (w : ℕ) → Lies memory w to → Lies memory w from → AreIn (copies_code to from w)
  in_copies to from w h g = in_rising (λ k. copy_code (byte_behind to k) (byte_behind from k)) w (λ k l. in_copy (byte_behind to k) (byte_behind from k) (lies_behind w 1 k to (omega (arith, l)) h) (lies_behind w 1 k from (omega (arith, l)) g))

  in_stores : (to : Byte) (w : ℕ) → Lies memory w to → AreIn (stores_code to w)
  in_stores to w h = in_rising (λ k. store_code (byte_behind to k)) w (λ k l. in_store (byte_behind to k) (lies_behind w 1 k to (omega (arith, l)) h))

  in_clears : (to : Byte) (w : ℕ) → Lies memory w to → AreIn (clears_code to w)
  in_clears to w h = in_rising (λ k. set_code (byte_behind to k) 0) w (λ k l. in_set (byte_behind to k) 0 (lies_behind w 1 k to (omega (arith, l)) h))

  in_ors : (first : Byte) (n w : ℕ) → w < n → Lies memory n first → AreIn (ors_code first w)
  in_ors first n zero l h = tt
  in_ors first n (suc w) l h = in_on (ors_code first w) (file_code Iorwf (byte_behind first (suc w)) W) (in_ors first n w (omega (arith, l)) h) (in_file Iorwf (byte_behind first (suc w)) W (lies_behind n 1 (suc w) first (omega (arith, l)) h))

  in_test : (test : Byte) (w : ℕ) → Lies memory w test → AreIn (test_code test w)
  in_test test zero h = (tt, tt)
  in_test test (suc w) h = in_on (file_code Movf test W) (ors_code test w) (in_file Movf test W (lies_less (suc w) 1 test (omega arith) h)) (in_ors test (suc w) w (omega arith) h)

  -- ---- addresses and pointers
  in_address : (to place : Byte) → Lies memory 2 to → Points memory place → AreIn (address_code to place)
  in_address to place h p =
      let zero_first = lies_less 2 1 to (omega arith) h in
      let last = lies_behind 2 1 1 to (omega arith) h in
      (p, ((in_store to zero_first).0, (p, in_store (byte_behind to 1) last)))

  in_pointer : (pointer : Byte) → Lies memory 2 pointer → AreIn (pointer_code pointer)
  in_pointer pointer h =
      ((in_file Movf pointer W (lies_less 2 1 pointer (omega arith) h)).0, (tt, (tt, ((in_bit Btfsc (byte_behind pointer 1) 0 (lies_behind 2 1 1 pointer (omega arith) h)).0, (tt, tt)))))

  in_advance : (k : ℕ) → AreIn (advance_code k)
  in_advance k = by_first (nat_eq k 0)
    where
      by_first : (b : Bool) → AreIn (if b then [] else register_code Incf Fsr File)
      by_first true = tt
      by_first false = (tt, tt)

  in_load : (to pointer : Byte) (w : ℕ) → Lies memory w to → Lies memory 2 pointer → AreIn (load_code to pointer w)
  in_load to pointer w h g =
      in_on (pointer_code pointer) (rising (load_byte_code to) w) (in_pointer pointer g)
      (in_rising (load_byte_code to) w (λ k l.
      in_on (advance_code k ++ register_code Movf Indf W) (store_code (byte_behind to k))
      (in_on (advance_code k) (register_code Movf Indf W) (in_advance k) (tt, tt)) (in_store (byte_behind to k) (lies_behind w 1 k to (omega (arith, l)) h))))

  in_store_all : (pointer from : Byte) (w : ℕ) → Lies memory 2 pointer → Lies memory w from → AreIn (store_all_code pointer from w)
  in_store_all pointer from w h g =
      in_on (pointer_code pointer) (rising (store_byte_code from) w) (in_pointer pointer h)
      (in_rising (store_byte_code from) w (λ k l.
      in_on (advance_code k ++ file_code Movf (byte_behind from k) W) (register_store_code Indf)
      (in_on (advance_code k) (file_code Movf (byte_behind from k) W) (in_advance k) (in_file Movf (byte_behind from k) W (lies_behind w 1 k from (omega (arith, l)) g))) (tt, tt)))

  -- ---- sums and the like
  in_pair : (op : FileOperation) (left right : Byte) (into : Into) → Lies memory 1 left → Lies memory 1 right → AreIn (pair_code op left right into)
  in_pair op left right into h g = in_on (file_code Movf right W) (file_code op left into) (in_file Movf right W g) (in_file op left into h)

  in_further : (chain : Chain) (left right : Byte) (into : Into) → Lies memory 1 left → Lies memory 1 right → AreIn (further_code chain left right into)
  in_further chain left right into h g =
      in_on (file_code Movf right W ++ flag_code (unless_carried chain) Carry ++ file_code Incfsz right W) (file_code (chain_operation chain) left into)
      (in_on (file_code Movf right W ++ flag_code (unless_carried chain) Carry) (file_code Incfsz right W)
      (in_on (file_code Movf right W) (flag_code (unless_carried chain) Carry) (in_file Movf right W g) (in_flag (unless_carried chain) Carry)) (in_file Incfsz right W g))
      (in_file (chain_operation chain) left into h)

  in_link : (chain : Chain) (left right : Byte) (into : Into) (w k : ℕ) → k < w → Lies memory w left → Lies memory w right → AreIn (link_code chain left right into k)
  in_link chain left right into w k l h g = by_first (nat_eq k 0)
    where
      by_first : (b : Bool) → AreIn (if b then pair_code (chain_operation chain) left right into else further_code chain (byte_behind left k) (byte_behind right k) into)
      by_first true = in_pair (chain_operation chain) left right into (lies_less w 1 left (omega (arith, l)) h) (lies_less w 1 right (omega (arith, l)) g)
      by_first false = in_further chain (byte_behind left k) (byte_behind right k) into (lies_behind w 1 k left (omega (arith, l)) h) (lies_behind w 1 k right (omega (arith, l)) g)

  in_apart : (chain : Chain) (to left right : Byte) (w k : ℕ) → k < w → Lies memory w to → Lies memory w left → Lies memory w right → AreIn (apart_code chain to left right k)
  in_apart chain to left right w k l h g f = by_first (nat_eq k 0)
    where
      by_first : (b : Bool) → AreIn (if b then pair_code (chain_operation chain) left right W ++ store_code to else copy_code (byte_behind to k) (byte_behind left k) ++ further_code chain (byte_behind to k) (byte_behind right k) File)
      by_first true = in_on (pair_code (chain_operation chain) left right W) (store_code to) (in_pair (chain_operation chain) left right W (lies_less w 1 left (omega (arith, l)) g) (lies_less w 1 right (omega (arith, l)) f)) (in_store to (lies_less w 1 to (omega (arith, l)) h))
      by_first false =
          in_on (copy_code (byte_behind to k) (byte_behind left k)) (further_code chain (byte_behind to k) (byte_behind right k) File) (in_copy (byte_behind to k) (byte_behind left k) (lies_behind w 1 k to (omega (arith, l)) h) (lies_behind w 1 k left (omega (arith, l)) g))
          (in_further chain (byte_behind to k) (byte_behind right k) File (lies_behind w 1 k to (omega (arith, l)) h) (lies_behind w 1 k right (omega (arith, l)) f))

  in_chain : (chain : Chain) (to left right : Byte) (w : ℕ) → Lies memory w to → Lies memory w left → Lies memory w right → AreIn (chain_code chain to left right w)
  in_chain chain to left right w h g f = in_rising (chain_byte_code chain to left right) w (λ k l. by_same k l (same_byte to left))
    where
      by_same : (k : ℕ) → k < w → (b : Bool) → AreIn (if b then link_code chain left right File k else apart_code chain to left right k)
      by_same k l true = in_link chain left right File w k l g f
      by_same k l false = in_apart chain to left right w k l h g f

  in_sum : (to left right : Byte) (w : ℕ) → Lies memory w to → Lies memory w left → Lies memory w right → AreIn (sum_code to left right w)
  in_sum to left right w h g f = by_same (same_byte to right)
    where
      by_same : (b : Bool) → AreIn (if b then chain_code Sum to right left w else chain_code Sum to left right w)
      by_same true = in_chain Sum to right left w h f g
      by_same false = in_chain Sum to left right w h g f

  in_bits : (op : FileOperation) (to left right : Byte) (w : ℕ) → Lies memory w to → Lies memory w left → Lies memory w right → AreIn (bits_code op to left right w)
  in_bits op to left right w h g f = in_rising (bits_at_code op to left right) w (λ k l. by_same (byte_behind to k) (byte_behind left k) (byte_behind right k) (same_byte (byte_behind to k) (byte_behind left k)) (lies_behind w 1 k to (omega (arith, l)) h) (lies_behind w 1 k left (omega (arith, l)) g) (lies_behind w 1 k right (omega (arith, l)) f))
    where
      by_same : (to left right : Byte) (b : Bool) → Lies memory 1 to → Lies memory 1 left → Lies memory 1 right → AreIn (if b then pair_code op left right File else pair_code op left right W ++ store_code to)
      by_same to left right true h g f = in_pair op left right File g f
      by_same to left right false h g f = in_on (pair_code op left right W) (store_code to) (in_pair op left right W g f) (in_store to h)

  -- ---- comparisons
  in_choice : (usual : ℕ) (test : BitOperation) (flag : Flag) (other : ℕ) → AreIn (choice_code usual test flag other)
  in_choice usual test flag other = in_on (number_code usual ++ flag_code test flag) (number_code other) (in_on (number_code usual) (flag_code test flag) (in_number usual) (in_flag test flag)) (in_number other)

  in_truth : (to : Byte) → Lies memory 2 to → AreIn (truth_code to)
  in_truth to h = in_on (store_code to) (set_code (byte_behind to 1) 0) (in_store to (lies_less 2 1 to (omega arith) h)) (in_set (byte_behind to 1) 0 (lies_behind 2 1 1 to (omega arith) h))

  in_equality : (usual : ℕ) (to left right : Byte) (w : ℕ) → Lies memory 2 to → Lies memory w left → Lies memory w right → AreIn (equality_code usual to left right w)
  in_equality usual to left right w h g f =
      in_on (differences_code to left right w ++ choice_code usual Btfsc Zero (1 - usual)) (truth_code to)
      (in_on (differences_code to left right w) (choice_code usual Btfsc Zero (1 - usual))
      (in_rising (difference_bits_code to left right) w (λ k l.
      in_on (pair_code Xorwf (byte_behind left k) (byte_behind right k) W) (if nat_eq k 0 then store_code to else file_code Iorwf to File) (in_pair Xorwf (byte_behind left k) (byte_behind right k) W (lies_behind w 1 k left (omega (arith, l)) g) (lies_behind w 1 k right (omega (arith, l)) f)) (last (nat_eq k 0))))
      (in_choice usual Btfsc Zero (1 - usual)))
      (in_truth to h)
    where
      last : (b : Bool) → AreIn (if b then store_code to else file_code Iorwf to File)
      last true = in_store to (lies_less 2 1 to (omega arith) h)
      last false = in_file Iorwf to File (lies_less 2 1 to (omega arith) h)

  in_turn : (top : Byte) → Lies memory 1 top → AreIn (turn_code top)
  in_turn top h = ((in_bit Btfsc top 7 h).0, (tt, tt))

  in_signs : (signed : Bool) (left right : Byte) → Lies memory 1 left → Lies memory 1 right → AreIn (signs_code signed left right)
  in_signs true left right h g = in_on (turn_code left) (turn_code right) (in_turn left h) (in_turn right g)
  in_signs false left right h g = tt

  in_order : (signed : Bool) (usual : ℕ) (to left right : Byte) (w : ℕ) → 1 ≤ w → Lies memory 2 to → Lies memory w left → Lies memory w right → AreIn (order_code signed usual to left right w)
  in_order signed usual to left right w some h g f =
      let signs = signs_code signed (byte_behind left (w - 1)) (byte_behind right (w - 1)) in
      let choice = choice_code usual Btfss Carry (1 - usual) in
      in_on (links_code left right w ++ choice ++ signs) (truth_code to)
      (in_on (links_code left right w ++ choice) signs
      (in_on (links_code left right w) choice (in_rising (link_code Difference left right W) w (λ k l. in_link Difference left right W w k l g f)) (in_choice usual Btfss Carry (1 - usual)))
      (in_signs signed (byte_behind left (w - 1)) (byte_behind right (w - 1)) (lies_behind w 1 (w - 1) left (omega (arith, some)) g) (lies_behind w 1 (w - 1) right (omega (arith, some)) f)))
      (in_truth to h)

  -- ---- operators on one value
  in_complement : (at : Byte) (w : ℕ) → Lies memory w at → AreIn (complement_code at w)
  in_complement at w h = in_rising (λ k. file_code Comf (byte_behind at k) File) w (λ k l. in_file Comf (byte_behind at k) File (lies_behind w 1 k at (omega (arith, l)) h))

  in_increment : (at : Byte) (w : ℕ) → Lies memory w at → AreIn (increment_code at w)
  in_increment at w h = in_rising (increment_byte_code at) w (λ k l. in_on (if nat_eq k 0 then [] else flag_code Btfsc Zero) (file_code Incf (byte_behind at k) File) (front (nat_eq k 0)) (in_file Incf (byte_behind at k) File (lies_behind w 1 k at (omega (arith, l)) h)))
    where
      front : (b : Bool) → AreIn (if b then [] else flag_code Btfsc Zero)
      front true = tt
      front false = in_flag Btfsc Zero

  in_unary : (op : UnOp) (ty : IntTy) (at : Byte) → Lies memory (bytes_of ty) at → Lies memory 2 at → AreIn (unary_code op ty at)
  in_unary unop.Plus ty at h g = tt
  in_unary unop.Minus ty at h g = in_on (complement_code at (bytes_of ty)) (increment_code at (bytes_of ty)) (in_complement at (bytes_of ty) h) (in_increment at (bytes_of ty) h)
  in_unary unop.Not ty at h g = in_complement at (bytes_of ty) h
  in_unary unop.Bang ty at h g =
      let w = bytes_of ty in
      in_on (test_code at w ++ nonzero_code ++ choice_code 0 Btfss Carry 1) (truth_code at)
      (in_on (test_code at w ++ nonzero_code) (choice_code 0 Btfss Carry 1) (in_on (test_code at w) nonzero_code (in_test at w h) (tt, tt)) (in_choice 0 Btfss Carry 1)) (in_truth at g)

  in_sign : (top : Byte) → Lies memory 1 top → AreIn (sign_code top)
  in_sign top h = in_on (number_code 0 ++ if_bit_code top 7) (number_code 255) (in_on (number_code 0) (if_bit_code top 7) (in_number 0) (in_bit Btfsc top 7 h)) (in_number 255)

  in_widening : (from to : IntTy) (at : Byte) → bytes_of from ≤ bytes_of to → Lies memory (bytes_of to) at → AreIn (widening_code from to at)
  in_widening from to at l h = by_signed (is_signed from)
    where
      some : 1 ≤ bytes_of from
      some = let b = whole_bytes from in let e = b.1 in omega (arith, e)

      new : Lies memory (bytes_of to - bytes_of from) (byte_behind at (bytes_of from))
      new = lies_behind (bytes_of to) (bytes_of to - bytes_of from) (bytes_of from) at (omega (arith, l)) h

      by_signed : (b : Bool) → AreIn (if b then sign_code (byte_behind at (bytes_of from - 1)) ++ stores_code (byte_behind at (bytes_of from)) (bytes_of to - bytes_of from) else clears_code (byte_behind at (bytes_of from)) (bytes_of to - bytes_of from))
      by_signed true =
          let m = some in
          in_on (sign_code (byte_behind at (bytes_of from - 1))) (stores_code (byte_behind at (bytes_of from)) (bytes_of to - bytes_of from)) (in_sign (byte_behind at (bytes_of from - 1)) (lies_behind (bytes_of to) 1 (bytes_of from - 1) at (omega (arith, l, m)) h)) (in_stores (byte_behind at (bytes_of from)) (bytes_of to - bytes_of from) new)
      by_signed false = in_clears (byte_behind at (bytes_of from)) (bytes_of to - bytes_of from) new

  -- ---- shifts by a constant
  in_up : (at : Byte) (w : ℕ) → Lies memory w at → AreIn (bit_up_code at w)
  in_up at w h = in_rising (λ k. file_code Rlf (byte_behind at k) File) w (λ k l. in_file Rlf (byte_behind at k) File (lies_behind w 1 k at (omega (arith, l)) h))

  in_down : (at : Byte) (w : ℕ) → Lies memory w at → AreIn (bit_down_code at w)
  in_down at w h = in_rising (λ k. file_code Rrf (byte_behind at (w - 1 - k)) File) w (λ k l. in_file Rrf (byte_behind at (w - 1 - k)) File (lies_behind w 1 (w - 1 - k) at (omega (arith, l)) h))

  in_bit_shift : (way : Way) (at : Byte) (w m : ℕ) → m < w → Lies memory w at → AreIn (bit_shift_code way at w m)
  in_bit_shift Left at w m l h = in_on (flag_code Bcf Carry) (bit_up_code (byte_behind at m) (w - m)) (in_flag Bcf Carry) (in_up (byte_behind at m) (w - m) (lies_behind w (w - m) m at (omega (arith, l)) h))
  in_bit_shift Right at w m l h = in_on (flag_code Bcf Carry) (bit_down_code at (w - m)) (in_flag Bcf Carry) (in_down at (w - m) (lies_less w (w - m) at (omega (arith, l)) h))
  in_bit_shift SignedRight at w m l h =
      in_on (file_code Rlf (byte_behind at (w - m - 1)) W) (bit_down_code at (w - m)) (in_file Rlf (byte_behind at (w - m - 1)) W (lies_behind w 1 (w - m - 1) at (omega (arith, l)) h)) (in_down at (w - m) (lies_less w (w - m) at (omega (arith, l)) h))

  in_bytes_down : (signed : Bool) (at : Byte) (w m : ℕ) → m < w → Lies memory w at → AreIn (bytes_down_code signed at w m)
  in_bytes_down signed at w m l h =
      in_on (copies_code at (byte_behind at m) (w - m)) (if signed then sign_code (byte_behind at (w - m - 1)) ++ stores_code (byte_behind at (w - m)) m else clears_code (byte_behind at (w - m)) m)
      (in_copies at (byte_behind at m) (w - m) (lies_less w (w - m) at (omega (arith, l)) h) (lies_behind w (w - m) m at (omega (arith, l)) h)) (by_signed signed)
    where
      free : Lies memory m (byte_behind at (w - m))
      free = lies_behind w m (w - m) at (omega (arith, l)) h

      by_signed : (b : Bool) → AreIn (if b then sign_code (byte_behind at (w - m - 1)) ++ stores_code (byte_behind at (w - m)) m else clears_code (byte_behind at (w - m)) m)
      by_signed true = in_on (sign_code (byte_behind at (w - m - 1))) (stores_code (byte_behind at (w - m)) m) (in_sign (byte_behind at (w - m - 1)) (lies_behind w 1 (w - m - 1) at (omega (arith, l)) h)) (in_stores (byte_behind at (w - m)) m free)
      by_signed false = in_clears (byte_behind at (w - m)) m free

  in_bytes_way : (way : Way) (at : Byte) (w m : ℕ) → m < w → Lies memory w at → AreIn (bytes_way_code way at w m)
  in_bytes_way Left at w m l h =
      in_on (raised_code at w m) (clears_code at m)
      (in_rising (λ k. copy_code (byte_behind at (w - 1 - k)) (byte_behind at (w - 1 - k - m))) (w - m) (λ k j. in_copy (byte_behind at (w - 1 - k)) (byte_behind at (w - 1 - k - m)) (lies_behind w 1 (w - 1 - k) at (omega (arith, l, j)) h) (lies_behind w 1 (w - 1 - k - m) at (omega (arith, l, j)) h)))
      (in_clears at m (lies_less w m at (omega (arith, l)) h))
  in_bytes_way Right at w m l h = in_bytes_down false at w m l h
  in_bytes_way SignedRight at w m l h = in_bytes_down true at w m l h

  in_shift : (way : Way) (to left : Byte) (w count : ℕ) → Lies memory w to → Lies memory w left → AreIn (shift_code way to left w count)
  in_shift way to left w count h g = in_on (if same_byte to left then [] else copies_code to left w) (if ltb (count / 8) w then in_place_code way to w count else []) (moved (same_byte to left)) (by_below (ltb (count / 8) w) refl)
    where
      moved : (b : Bool) → AreIn (if b then [] else copies_code to left w)
      moved true = tt
      moved false = in_copies to left w h g

      by_none : (b : Bool) → count / 8 < w → AreIn (if b then [] else bytes_way_code way to w (count / 8))
      by_none true l = tt
      by_none false l = in_bytes_way way to w (count / 8) l h

      by_below : (b : Bool) → ltb (count / 8) w ≡ b → AreIn (if b then in_place_code way to w count else [])
      by_below false e = tt
      by_below true e =
          let l = ltb-true (count / 8) w e in
          in_on (if nat_eq (count / 8) 0 then [] else bytes_way_code way to w (count / 8)) (bit_shifts_code way to w (count / 8) (count % 8)) (by_none (nat_eq (count / 8) 0) l)
          (in_rising (λ k. bit_shift_code way to w (count / 8)) (count % 8) (λ k j. in_bit_shift way to w (count / 8) l h))

  -- ---- calls of helpers, whose frames have room for the operands
  module _ (list : List FnCopy) (root : Root) (roomy : (h : Helper) (d : ℕ) → copy_of list root h ≡ Some d → HasBytes (memory.frames d) (frame_bytes h)) where
    in_helper : (o : Option ℕ) (to left right : Byte) (w count n : ℕ) → w ≤ 4 → w + count ≤ n → ((d : ℕ) → o ≡ Some d → HasBytes (memory.frames d) n) → Lies memory w to → Lies memory w left → Lies memory count right → AreIn (copy_call_code o root to left right w count)
    in_helper None to left right w count n small few room h g f = tt
    in_helper (Some d) to left right w count n small few room h g f =
        let whole = of_callee memory d (w + count) n few (room d refl) in
        let first = copies_code (bytes.Frame d 0) left w in
        let second = copies_code (byte_behind (bytes.Frame d 0) w) right count in
        in_on (first ++ second ++ enter_code d) (copies_code to (bytes.Result root 0) w)
        (in_on (first ++ second) (enter_code d)
        (in_on first second (in_copies (bytes.Frame d 0) left w (lies_less (w + count) w (bytes.Frame d 0) (omega arith) whole) g) (in_copies (byte_behind (bytes.Frame d 0) w) right count (lies_behind (w + count) count w (bytes.Frame d 0) (omega arith) whole) f)) (tt, tt))
        (in_copies to (bytes.Result root 0) w h (of_result memory root w small))

    in_helped : (o : Option Helper) (to left right : Byte) (w count : ℕ) → w ≤ 4 → ((h : Helper) → o ≡ Some h → w + count ≤ frame_bytes h) → Lies memory w to → Lies memory w left → Lies memory count right → AreIn (any_call_code o list root to left right w count)
    in_helped None to left right w count small few h g f = tt
    in_helped (Some one) to left right w count small few h g f = in_helper (copy_of list root one) to left right w count (frame_bytes one) small (few one refl) (roomy one) h g f

    few_bytes : (ty : IntTy) → bytes_of ty ≤ 4
    few_bytes ty = let b = whole_bytes ty in let e = b.1 in let l = b.2 in omega (arith, e, l)

    in_called : (op : BinOp) (ty : IntTy) (to left right : Byte) → Lies memory (bytes_of ty) to → Lies memory (bytes_of ty) left → Lies memory (count_bytes op (bytes_of ty)) right → AreIn (any_call_code (int_helper op false ty) list root to left right (bytes_of ty) (count_bytes op (bytes_of ty)))
    in_called op ty to left right h g f = in_helped (int_helper op false ty) to left right (bytes_of ty) (count_bytes op (bytes_of ty)) (few_bytes ty) (helper_room op ty) h g f

    in_shifted : (o : Option ℕ) (op : BinOp) (ty : IntTy) (to left right : Byte) → count_bytes op (bytes_of ty) ≡ 1 → Lies memory (bytes_of ty) to → Lies memory (bytes_of ty) left → Lies memory 1 right → AreIn (shifted_code o list root op ty to left right)
    in_shifted None op ty to left right one h g f = in_helped (int_helper op false ty) to left right (bytes_of ty) 1 (few_bytes ty) (λ x e. let room = helper_room op ty x e in omega (arith, room, one)) h g f
    in_shifted (Some count) op ty to left right one h g f = in_shift (way_of op (is_signed ty)) to left (bytes_of ty) count h g

    some_width : (ty : IntTy) → 1 ≤ bytes_of ty
    some_width ty = let b = whole_bytes ty in let e = b.1 in omega (arith, e)

    in_binary : (before : List Tree) (op : BinOp) (ty : IntTy) (to left right : Byte) → Lies memory (answer_bytes op (bytes_of ty)) to → Lies memory (bytes_of ty) left → Lies memory (count_bytes op (bytes_of ty)) right → AreIn (binary_code list root before op ty to left right)
    in_binary before binop.Add ty to left right h g f = in_sum to left right (bytes_of ty) h g f
    in_binary before binop.Sub ty to left right h g f = in_chain Difference to left right (bytes_of ty) h g f
    in_binary before binop.And ty to left right h g f = in_bits Andwf to left right (bytes_of ty) h g f
    in_binary before binop.Xor ty to left right h g f = in_bits Xorwf to left right (bytes_of ty) h g f
    in_binary before binop.Or ty to left right h g f = in_bits Iorwf to left right (bytes_of ty) h g f
    in_binary before binop.Eq ty to left right h g f = in_equality 0 to left right (bytes_of ty) h g f
    in_binary before binop.Ne ty to left right h g f = in_equality 1 to left right (bytes_of ty) h g f
    in_binary before binop.Lt ty to left right h g f = in_order (is_signed ty) 0 to left right (bytes_of ty) (some_width ty) h g f
    in_binary before binop.Ge ty to left right h g f = in_order (is_signed ty) 1 to left right (bytes_of ty) (some_width ty) h g f
    in_binary before binop.Gt ty to left right h g f = in_order (is_signed ty) 0 to right left (bytes_of ty) (some_width ty) h f g
    in_binary before binop.Le ty to left right h g f = in_order (is_signed ty) 1 to right left (bytes_of ty) (some_width ty) h f g
    in_binary before binop.Shl ty to left right h g f = in_shifted (number_left before right) binop.Shl ty to left right refl h g f
    in_binary before binop.Shr ty to left right h g f = in_shifted (number_left before right) binop.Shr ty to left right refl h g f
    in_binary before binop.Mul ty to left right h g f = in_called binop.Mul ty to left right h g f
    in_binary before binop.Div ty to left right h g f = in_called binop.Div ty to left right h g f
    in_binary before binop.Rem ty to left right h g f = in_called binop.Rem ty to left right h g f

    -- ---- operations wherever they stand
    module _ (end : Ending) where
      abbrev tree_code : List ℕ → ℕ → List Tree → Tree → List Sym
      tree_code loops at before t = code_of (λ at before tree. wide_code list root before tree) end loops at before t

      abbrev trees_code : List ℕ → ℕ → List Tree → Trees → ℕ → List Sym
      trees_code loops at before ts count = parts_code (λ at before tree. wide_code list root before tree) end loops at before ts count

      in_goes : (o : Option Label) → AreIn (goes_to o)
      in_goes None = tt
      in_goes (Some to) = in_goto to

      in_leave : (e : Ending) → AreIn (leave_code e)
      in_leave ending.Halt = (tt, tt)
      in_leave ending.Restore = (tt, tt)
      in_leave ending.Return = (tt, tt)

      in_jump : (label : Label) → AreIn (jump_code label)
      in_jump label = in_on (flag_code Btfsc Zero) (goto_code label) (in_flag Btfsc Zero) (in_goto label)

      in_unless : (label : Label) → AreIn (unless_code label)
      in_unless label = in_on (flag_code Btfss Zero) (goto_code label) (in_flag Btfss Zero) (in_goto label)

      in_if : (form : IfForm) (at : ℕ) (test : List Sym) (holds fails : ℕ → List Sym) → AreIn test → ((k : ℕ) → AreIn (holds k)) → ((k : ℕ) → AreIn (fails k)) → AreIn (if_code form at test holds fails)
      in_if (Jumps to) at test holds fails p q r = in_on test (jump_code to) p (in_jump to)
      in_if (Leaps to) at test holds fails p q r = in_on test (unless_code to) p (in_unless to)
      in_if Half at test holds fails p q r =
          let head = test ++ jump_code (second_label at) in
          in_on (head ++ holds (at + length head)) (label_code (second_label at)) (in_on head (holds (at + length head)) (in_on test (jump_code (second_label at)) p (in_jump (second_label at))) (q (at + length head))) (in_label (second_label at))
      in_if Other at test holds fails p q r =
          let head = test ++ unless_code (second_label at) in
          in_on (head ++ fails (at + length head)) (label_code (second_label at)) (in_on head (fails (at + length head)) (in_on test (unless_code (second_label at)) p (in_unless (second_label at))) (r (at + length head))) (in_label (second_label at))
      in_if Whole at test holds fails p q r =
          let head = test ++ jump_code (first_label at) in
          let middle = head ++ holds (at + length head) ++ goto_code (second_label at) ++ label_code (first_label at) in
          in_on (middle ++ fails (at + length middle)) (label_code (second_label at))
          (in_on middle (fails (at + length middle))
          (in_on (head ++ holds (at + length head) ++ goto_code (second_label at)) (label_code (first_label at))
          (in_on (head ++ holds (at + length head)) (goto_code (second_label at)) (in_on head (holds (at + length head)) (in_on test (jump_code (first_label at)) p (in_jump (first_label at))) (q (at + length head))) (in_goto (second_label at)))
          (in_label (first_label at)))
          (r (at + length middle)))
          (in_label (second_label at))

      in_turned : (o : Option (List Sym)) (whole : List Sym) (top : Label) → ((s : List Sym) → o ≡ Some s → AreIn s) → AreIn whole → AreIn (turned o whole top)
      in_turned None whole top p q = in_on whole (goto_code top) q (in_goto top)
      in_turned (Some short) whole top p q = p short refl

      in_loop : (at : ℕ) (turn : List Sym) → AreIn turn → AreIn (loop_code at turn)
      in_loop at turn h = in_on (label_code (first_label at) ++ turn) (label_code (second_label at)) (in_on (label_code (first_label at)) turn (in_label (first_label at)) h) (in_label (second_label at))

      in_mapped : (o : Option ℕ) (first : ℕ → List Sym) → ((k : ℕ) → AreIn (first k)) → (s : List Sym) → option_map first o ≡ Some s → AreIn s
      in_mapped None first h s e = absurd (none-some s e)
      in_mapped (Some k) first h s e = subst AreIn (same_Some (first k) s e) (h k)

      in_read : (to : Byte) (register bit : ℕ) → Lies memory 1 to → Lies memory 1 (bytes.Device register) → AreIn (bit_read_code to register bit)
      in_read to register bit h b =
          in_on (number_code 0 ++ bit_code Btfsc (bytes.Device register) (bit % 8) ++ number_code 1) (store_code to)
          (in_on (number_code 0 ++ bit_code Btfsc (bytes.Device register) (bit % 8)) (number_code 1) (in_on (number_code 0) (bit_code Btfsc (bytes.Device register) (bit % 8)) (in_number 0) (in_bit Btfsc (bytes.Device register) (bit % 8) b)) (in_number 1)) (in_store to h)

      in_write : (at register bit : ℕ) (from : Byte) → Lies memory 1 from → Lies memory 1 (bytes.Device register) → AreIn (bit_write_code at register bit from)
      in_write at register bit from h b =
          ((in_bit Btfss from 0 h).0, (tt, ((in_bit Bsf (bytes.Device register) (bit % 8) b).0, (tt, (tt, ((in_bit Bcf (bytes.Device register) (bit % 8) b).0, (tt, tt)))))))

      in_convert : (from to : IntTy) (at : Byte) (cut : Bool) → is_cut from to ≡ cut → Lies memory (bytes_of to) at → AreIn (cond cut [] (widening_code from to at))
      in_convert from to at true e h = tt
      in_convert from to at false e h = let l = leb-false (bytes_of to) (bytes_of from) e in in_widening from to at (omega (arith, l)) h

      mutual
        pub in_tree : (loops : List ℕ) (at : ℕ) (before : List Tree) (t : Tree) → TreeLies memory t → AreIn (tree_code loops at before t)
        in_tree loops at before (code.Set to value) h = in_set to value h
        in_tree loops at before (code.Address to place) h = in_address to place h.0 h.1
        in_tree loops at before (code.Copy to from) h = in_copy to from h.0 h.1
        in_tree loops at before (code.Load to pointer count) h = in_load to pointer count h.0 h.1
        in_tree loops at before (code.Store pointer from count) h = in_store_all pointer from count h.0 h.1
        in_tree loops at before (code.Unary op ty to) h = in_unary op ty to h.0 h.1
        in_tree loops at before (code.Binary op ty to left right) h = in_binary before op ty to left right h.0 h.1 h.2
        in_tree loops at before (code.Convert from to place) h = in_convert from to place (is_cut from to) refl h
        in_tree loops at before (code.BitRead to register bit) h = in_read to register bit h.0 h.1
        in_tree loops at before (code.BitWrite register bit from) h = in_write at register bit from h.0 h.1
        in_tree loops at before (code.Call copy) h = (tt, tt)
        in_tree loops at before code.Leave h = in_leave end
        in_tree loops at before (code.Many parts) h = in_trees loops at [] parts (length (list_of parts)) h
        in_tree loops at before (code.If test count holds fails) h =
            in_if (if_form loops holds fails) at (test_code test count) (λ n. tree_code loops n [] holds) (λ n. tree_code loops n [] fails) (in_test test count h.0) (λ n. in_tree loops n [] holds h.1) (λ n. in_tree loops n [] fails h.2)
        in_tree loops at before (code.Loop body) h =
            let first = λ (count : ℕ). first_code (λ at before tree. wide_code list root before tree) end (at ∷ loops) (at + 1) count body in
            in_loop at (turned (option_map first (short_turn body)) (tree_code (at ∷ loops) (at + 1) [] body) (first_label at))
            (in_turned (option_map first (short_turn body)) (tree_code (at ∷ loops) (at + 1) [] body) (first_label at) (in_mapped (short_turn body) first (λ k. in_first (at ∷ loops) (at + 1) k body h)) (in_tree (at ∷ loops) (at + 1) [] body h))
        in_tree loops at before (code.Exit count) h = in_goes (jump_target loops (code.Exit count))
        in_tree loops at before (code.Again count) h = in_goes (jump_target loops (code.Again count))

        in_first : (loops : List ℕ) (at count : ℕ) (t : Tree) → TreeLies memory t → AreIn (first_code (λ at before tree. wide_code list root before tree) end loops at count t)
        in_first loops at count (code.Many parts) h = in_trees loops at [] parts count h
        in_first loops at count t h = tt

        pub in_trees : (loops : List ℕ) (at : ℕ) (before : List Tree) (ts : Trees) (count : ℕ) → TreesLie memory ts → AreIn (trees_code loops at before ts count)
        in_trees loops at before code.NoTree count h = tt
        in_trees loops at before (code.AndTree part parts) zero h = tt
        in_trees loops at before (code.AndTree part parts) (suc count) h =
            in_on (tree_code loops at before part) (trees_code loops (at + length (tree_code loops at before part)) (before ++ part ∷ []) parts count) (in_tree loops at before part h.0) (in_trees loops (at + length (tree_code loops at before part)) (before ++ part ∷ []) parts count h.1)

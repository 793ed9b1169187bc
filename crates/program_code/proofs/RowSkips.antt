-- In what is selected for an operation each skip is paired, where operators work on bytes of the copy's frame.
use Rattle.std.proofs.Common.{◌≡◌, ℕ, zero, suc, ◌-◌, ◌/◌, ◌%◌, ◌<◌, Bool, true, false, ◌&&◌, ◌||◌, nat_eq, if◌then◌else◌, List, [], ◌∷◌, ◌++◌, Option, Some, None, is_none, refl, ap, arith}
use Rattle.std.specs.Prelude.{cond}
use Rattle.std.proofs.Math.Dec.{ltb}
use Rattle.c_ints.specs.Range.{bytes_of}
use Rattle.c_ints.specs.declared.operators.BinOp.{BinOp}
use Rattle.c_ints.specs.declared.operators.BinOp.TheVariants as binop
use Rattle.c_ints.specs.declared.operators.UnOp.{UnOp}
use Rattle.c_ints.specs.declared.operators.UnOp.TheVariants as unop
use Rattle.c_ints.specs.declared.types.IntTy.{IntTy}
use Rattle.c_typed.specs.Calls.{int_helper}
use Rattle.c_typed.specs.declared.calls.Helper.{Helper}
use Rattle.call_graph.specs.Numbers.{copy_of}
use Rattle.call_graph.specs.declared.types.FnCopy.{FnCopy}
use Rattle.core_code.specs.Operands.{number_left}
use Rattle.core_code.specs.Tree as trees
use Rattle.core_code.specs.Tree.{Tree, Trees}
use Rattle.core_code.specs.declared.code.Byte.{Byte}
use Rattle.core_code.specs.declared.code.Byte.TheVariants.{Static, Frame, Result, Device}
use Rattle.pic_world.specs.declared.Root.{Root}
use Rattle.select_code.specs.Pieces.{set_code, ors_code, test_code, clear_code, number_code, store_code, is_clearable, byte_behind}
use Rattle.select_wide.specs.Calls.{helper_call_code, copy_call_code, any_call_code}
use Rattle.select_wide.specs.Comparisons.{differences_code, equality_code, signs_code, links_code, order_code}
use Rattle.select_wide.specs.Moves.{copies_code, stores_code, clears_code}
use Rattle.select_wide.specs.Pieces.{rising, pair_code, nonzero_code, choice_code, truth_code}
use Rattle.select_wide.specs.Pointers.{address_code, load_code, store_all_code, advance_code}
use Rattle.select_wide.specs.Selection.{way_of, shifted_code, binary_code, wide_code}
use Rattle.select_wide.specs.Shifts.{raised_code, bytes_down_code, bytes_way_code, bytes_code, bit_shift_code, in_place_code, moved_code, shift_code}
use Rattle.select_wide.specs.Single.{is_signed, complement_code, increment_byte_code, increment_code, bang_code, unary_code, widening_code}
use Rattle.select_wide.specs.Sums.{chain_operation, further_code, link_code, apart_code, chain_code, sum_code, bits_code}
use Rattle.select_wide.specs.declared.operands.Chain.{Chain}
use Rattle.select_wide.specs.declared.operands.Chain.TheVariants.{Sum, Difference}
use Rattle.select_wide.specs.declared.operands.Way.{Way}
use Rattle.select_wide.specs.declared.operands.Way.TheVariants.{Left, Right, SignedRight}
use Rattle.sym_code.specs.declared.code.Operand.TheVariants as operand
use Rattle.sym_code.specs.declared.code.Sym.{Sym}
use Rattle.sym_code.specs.declared.code.Sym.TheVariants as sym
use Rattle.bank_page.specs.Kinds.{skips_by_file, byte_named}
use Rattle.program_code.specs.Close.{is_own, is_close, works_close}
use Rattle.program_code.specs.Paired.{is_home, goes_quiet, goes_home, goes_alone, is_paired, are_paired}
use Rattle.program_code.proofs.ListSkips as lists
use Rattle.program_code.proofs.ListSkips.{both, and_true, or_third}
use Rattle.core_code.specs.Bytes.{same_byte}
use Rattle.select_code.specs.Pieces.{file_code, flag_code, copy_code}
use Rattle.select_code.specs.declared.pieces.Flag.{Flag}
use Rattle.select_code.specs.declared.pieces.Flag.TheVariants.{Carry, Zero}
use Rattle.sym_code.specs.declared.code.BitOperation.{BitOperation}
use Rattle.sym_code.specs.declared.code.BitOperation.TheVariants.{Btfsc, Btfss}
use Rattle.sym_code.specs.declared.code.FileOperation.{FileOperation}
use Rattle.sym_code.specs.declared.code.FileOperation.TheVariants.{Addwf, Andwf, Incf, Incfsz, Iorwf, Subwf, Xorwf}
use Rattle.sym_code.specs.declared.code.Into.{Into}
use Rattle.sym_code.specs.declared.code.Into.TheVariants.{W, File}
use Rattle.select_wide.specs.Calls.{enter_code}

-- ---- bytes
pub close_behind : (c : ℕ) (byte : Byte) (k : ℕ) → is_close c byte ≡ true → is_close c (byte_behind byte k) ≡ true
close_behind c (Static object offset) k e = e
close_behind c (Frame copy offset) k e = e
close_behind c (Result root n) k e = e
close_behind c (Device address) k e = e

home_named : (c : ℕ) (byte : Byte) → is_close c byte ≡ true → is_home (is_own c) (byte_named (operand.Byte byte)) ≡ true
home_named c (Static object offset) e = absurd (cc)
home_named c (Frame copy offset) e = e
home_named c (Result root n) e = refl
home_named c (Device address) e = absurd (cc)

-- a skip behind another one, and what stands behind both, where both bytes are the frame's
two : (q n p m r l : Bool) → r ≡ true → l ≡ true → ((q || ((r && (l && true)) || n)) && ((p || ((r && (l && true)) || m)) && true)) ≡ true
two true n true m r l e f = refl
two true n false m true true e f = refl
two false n true m true true e f = refl
two false n false m true true e f = refl
two q n p m false l e f = absurd (cc)
two q n p m r false e f = absurd (cc)

module _ (c : ℕ) where
  abbrev pub Fine : List Sym → Type 0
  Fine list = are_paired (is_own c) list ≡ true

  pub joined : (xs ys : List Sym) → Fine xs → Fine ys → Fine (xs ++ ys)
  joined xs ys p q = lists.joined (is_own c) xs ys p q

  pub either : (b : Bool) (xs ys : List Sym) → Fine xs → Fine ys → Fine (if b then xs else ys)
  either b xs ys p q = lists.either (is_own c) b xs ys p q

  up : (code : ℕ → List Sym) → ((k : ℕ) → Fine (code k)) → (n : ℕ) → Fine (rising code n)
  up code p n = lists.up (is_own c) code p n

  pub set_fine : (to : Byte) (value : ℕ) → Fine (set_code to value)
  set_fine to value = by (nat_eq value 0 && is_clearable to) where
    by : (b : Bool) → Fine (cond b (clear_code to) (number_code value ++ store_code to))
    by true = refl
    by false = refl

  ors_fine : (first : Byte) (k : ℕ) → Fine (ors_code first k)
  ors_fine first zero = refl
  ors_fine first (suc k) = joined (ors_code first k) _ (ors_fine first k) refl

  pub test_fine : (test : Byte) (size : ℕ) → Fine (test_code test size)
  test_fine test zero = refl
  test_fine test (suc k) = ors_fine test k

  copies_fine : (to from : Byte) (count : ℕ) → Fine (copies_code to from count)
  copies_fine to from count = up _ (λ k. refl) count

  stores_fine : (to : Byte) (count : ℕ) → Fine (stores_code to count)
  stores_fine to count = up _ (λ k. refl) count

  clears_fine : (to : Byte) (count : ℕ) → Fine (clears_code to count)
  clears_fine to count = up _ (λ k. set_fine (byte_behind to k) 0) count

  truth_fine : (to : Byte) → Fine (truth_code to)
  truth_fine to = set_fine (byte_behind to 1) 0

  -- ---- one value
  complement_fine : (at : Byte) (width : ℕ) → Fine (complement_code at width)
  complement_fine at width = up _ (λ k. refl) width

  increment_byte_fine : (at : Byte) (k : ℕ) → Fine (increment_byte_code at k)
  increment_byte_fine at k = by (nat_eq k 0) where
    by : (b : Bool) → Fine ((if b then [] else flag_code Btfsc Zero) ++ file_code Incf (byte_behind at k) File)
    by true = refl
    by false =
        let next = file_code Incf (byte_behind at k) File in
        let one = or_third (goes_quiet next) (goes_home (is_own c) (flag_code Btfsc Zero ++ next)) true refl in
        and_true (goes_quiet next || (goes_home (is_own c) (flag_code Btfsc Zero ++ next) || true)) true one refl

  increment_fine : (at : Byte) (width : ℕ) → Fine (increment_code at width)
  increment_fine at width = up (increment_byte_code at) (increment_byte_fine at) width

  bang_fine : (at : Byte) (width : ℕ) → Fine (bang_code at width)
  bang_fine at width =
      joined (test_code at width ++ nonzero_code ++ choice_code 0 Btfss Carry 1) (truth_code at)
      (joined (test_code at width ++ nonzero_code) (choice_code 0 Btfss Carry 1) (joined (test_code at width) nonzero_code (test_fine at width) refl) refl) (truth_fine at)

  unary_fine : (op : UnOp) (ty : IntTy) (at : Byte) → Fine (unary_code op ty at)
  unary_fine unop.Plus ty at = refl
  unary_fine unop.Minus ty at = joined (complement_code at (bytes_of ty)) (increment_code at (bytes_of ty)) (complement_fine at (bytes_of ty)) (increment_fine at (bytes_of ty))
  unary_fine unop.Not ty at = complement_fine at (bytes_of ty)
  unary_fine unop.Bang ty at = bang_fine at (bytes_of ty)

  widening_fine : (from to : IntTy) (at : Byte) → Fine (widening_code from to at)
  widening_fine from to at = either (is_signed from) _ _ (stores_fine (byte_behind at (bytes_of from)) (bytes_of to - bytes_of from)) (clears_fine (byte_behind at (bytes_of from)) (bytes_of to - bytes_of from))

  -- ---- sums and bits
  pair_fine : (op : FileOperation) (left right : Byte) (into : Into) → skips_by_file op ≡ false → Fine (pair_code op left right into)
  pair_fine op left right into e = ap (λ (b : Bool). (if b then is_paired (is_own c) (sym.File op (operand.Byte left) into) [] else true) && true) e

  chain_pair : (chain : Chain) (left right : Byte) (into : Into) → Fine (pair_code (chain_operation chain) left right into)
  chain_pair Sum left right into = refl
  chain_pair Difference left right into = refl

  further_fine : (chain : Chain) (left right : Byte) (into : Into) → is_close c left ≡ true → is_close c right ≡ true → Fine (further_code chain left right into)
  further_fine Sum left right into e f =
      let last = file_code Addwf left into in
      let next = file_code Incfsz right W ++ last in
      two (goes_quiet next) false (goes_quiet last) (is_none (byte_named (operand.Byte right)) && goes_alone last) (is_home (is_own c) (byte_named (operand.Byte right))) (is_home (is_own c) (byte_named (operand.Byte left))) (home_named c right f) (home_named c left e)
  further_fine Difference left right into e f =
      let last = file_code Subwf left into in
      let next = file_code Incfsz right W ++ last in
      two (goes_quiet next) false (goes_quiet last) (is_none (byte_named (operand.Byte right)) && goes_alone last) (is_home (is_own c) (byte_named (operand.Byte right))) (is_home (is_own c) (byte_named (operand.Byte left))) (home_named c right f) (home_named c left e)

  link_fine : (chain : Chain) (left right : Byte) (into : Into) (k : ℕ) → is_close c left ≡ true → is_close c right ≡ true → Fine (link_code chain left right into k)
  link_fine chain left right into k e f =
      either (nat_eq k 0) _ _ (chain_pair chain left right into) (further_fine chain (byte_behind left k) (byte_behind right k) into (close_behind c left k e) (close_behind c right k f))

  apart_fine : (chain : Chain) (to left right : Byte) (k : ℕ) → is_close c to ≡ true → is_close c right ≡ true → Fine (apart_code chain to left right k)
  apart_fine chain to left right k e f =
      either (nat_eq k 0) (pair_code (chain_operation chain) left right W ++ store_code to) (copy_code (byte_behind to k) (byte_behind left k) ++ further_code chain (byte_behind to k) (byte_behind right k) File)
      (joined (pair_code (chain_operation chain) left right W) (store_code to) (chain_pair chain left right W) refl)
      (joined (copy_code (byte_behind to k) (byte_behind left k)) (further_code chain (byte_behind to k) (byte_behind right k) File) refl (further_fine chain (byte_behind to k) (byte_behind right k) File (close_behind c to k e) (close_behind c right k f)))

  chain_fine : (chain : Chain) (to left right : Byte) (width : ℕ) → is_close c to ≡ true → is_close c left ≡ true → is_close c right ≡ true → Fine (chain_code chain to left right width)
  chain_fine chain to left right width d e f = up _ (λ k. either (same_byte to left) _ _ (link_fine chain left right File k e f) (apart_fine chain to left right k d f)) width

  sum_fine : (to left right : Byte) (width : ℕ) → is_close c to ≡ true → is_close c left ≡ true → is_close c right ≡ true → Fine (sum_code to left right width)
  sum_fine to left right width d e f = either (same_byte to right) _ _ (chain_fine Sum to right left width d f e) (chain_fine Sum to left right width d e f)

  bits_fine : (op : FileOperation) (to left right : Byte) (width : ℕ) → skips_by_file op ≡ false → Fine (bits_code op to left right width)
  bits_fine op to left right width plain =
      up _ (λ k. either (same_byte (byte_behind to k) (byte_behind left k)) (pair_code op (byte_behind left k) (byte_behind right k) File) (pair_code op (byte_behind left k) (byte_behind right k) W ++ store_code (byte_behind to k))
      (pair_fine op (byte_behind left k) (byte_behind right k) File plain)
      (joined (pair_code op (byte_behind left k) (byte_behind right k) W) (store_code (byte_behind to k)) (pair_fine op (byte_behind left k) (byte_behind right k) W plain) refl)) width

  -- ---- comparisons
  differences_fine : (to left right : Byte) (width : ℕ) → Fine (differences_code to left right width)
  differences_fine to left right width =
      up _ (λ k. joined (pair_code Xorwf (byte_behind left k) (byte_behind right k) W) (if nat_eq k 0 then store_code to else file_code Iorwf to File) refl (either (nat_eq k 0) (store_code to) (file_code Iorwf to File) refl refl)) width

  equality_fine : (usual : ℕ) (to left right : Byte) (width : ℕ) → Fine (equality_code usual to left right width)
  equality_fine usual to left right width =
      joined (differences_code to left right width ++ choice_code usual Btfsc Zero (1 - usual)) (truth_code to)
      (joined (differences_code to left right width) (choice_code usual Btfsc Zero (1 - usual)) (differences_fine to left right width) refl) (truth_fine to)

  signs_fine : (signed : Bool) (left right : Byte) → Fine (signs_code signed left right)
  signs_fine true left right = refl
  signs_fine false left right = refl

  order_fine : (signed : Bool) (usual : ℕ) (to left right : Byte) (width : ℕ) → is_close c left ≡ true → is_close c right ≡ true → Fine (order_code signed usual to left right width)
  order_fine signed usual to left right width e f =
      joined (links_code left right width ++ choice_code usual Btfss Carry (1 - usual) ++ signs_code signed (byte_behind left (width - 1)) (byte_behind right (width - 1))) (truth_code to)
      (joined (links_code left right width ++ choice_code usual Btfss Carry (1 - usual)) (signs_code signed (byte_behind left (width - 1)) (byte_behind right (width - 1)))
      (joined (links_code left right width) (choice_code usual Btfss Carry (1 - usual)) (up _ (λ k. link_fine Difference left right W k e f) width) refl)
      (signs_fine signed (byte_behind left (width - 1)) (byte_behind right (width - 1))))
      (truth_fine to)

  -- ---- shifts
  bytes_down_fine : (signed : Bool) (at : Byte) (width bytes : ℕ) → Fine (bytes_down_code signed at width bytes)
  bytes_down_fine signed at width bytes =
      joined (copies_code at (byte_behind at bytes) (width - bytes)) _ (copies_fine at (byte_behind at bytes) (width - bytes))
      (either signed _ _ (stores_fine (byte_behind at (width - bytes)) bytes) (clears_fine (byte_behind at (width - bytes)) bytes))

  bytes_way_fine : (way : Way) (at : Byte) (width bytes : ℕ) → Fine (bytes_way_code way at width bytes)
  bytes_way_fine Left at width bytes = joined (raised_code at width bytes) (clears_code at bytes) (up _ (λ k. refl) (width - bytes)) (clears_fine at bytes)
  bytes_way_fine Right at width bytes = bytes_down_fine false at width bytes
  bytes_way_fine SignedRight at width bytes = bytes_down_fine true at width bytes

  bit_shift_fine : (way : Way) (at : Byte) (width bytes : ℕ) → Fine (bit_shift_code way at width bytes)
  bit_shift_fine Left at width bytes = up _ (λ k. refl) (width - bytes)
  bit_shift_fine Right at width bytes = up _ (λ k. refl) (width - bytes)
  bit_shift_fine SignedRight at width bytes = up _ (λ k. refl) (width - bytes)

  in_place_fine : (way : Way) (at : Byte) (width count : ℕ) → Fine (in_place_code way at width count)
  in_place_fine way at width count =
      joined (bytes_code way at width (count / 8)) _ (either (nat_eq (count / 8) 0) _ _ refl (bytes_way_fine way at width (count / 8)))
      (up _ (λ k. bit_shift_fine way at width (count / 8)) (count % 8))

  shift_fine : (way : Way) (to left : Byte) (width count : ℕ) → Fine (shift_code way to left width count)
  shift_fine way to left width count =
      joined (moved_code to left width) _ (either (same_byte to left) _ _ refl (copies_fine to left width))
      (either (ltb (count / 8) width) _ _ (in_place_fine way to width count) refl)

  -- ---- pointers
  advance_fine : (k : ℕ) → Fine (advance_code k)
  advance_fine k = either (nat_eq k 0) _ _ refl refl

  load_fine : (to pointer : Byte) (count : ℕ) → Fine (load_code to pointer count)
  load_fine to pointer count = up _ (λ k. joined (advance_code k ++ _) _ (joined (advance_code k) _ (advance_fine k) refl) refl) count

  store_all_fine : (pointer from : Byte) (count : ℕ) → Fine (store_all_code pointer from count)
  store_all_fine pointer from count = up _ (λ k. joined (advance_code k ++ _) _ (joined (advance_code k) _ (advance_fine k) refl) refl) count

  -- ---- helpers
  helper_call_fine : (copy : ℕ) (root : Root) (to left right : Byte) (width count : ℕ) → Fine (helper_call_code copy root to left right width count)
  helper_call_fine copy root to left right width count =
      joined (copies_code (Frame copy 0) left width ++ copies_code (byte_behind (Frame copy 0) width) right count ++ enter_code copy) (copies_code to (Result root 0) width)
      (joined (copies_code (Frame copy 0) left width ++ copies_code (byte_behind (Frame copy 0) width) right count) (enter_code copy)
      (joined (copies_code (Frame copy 0) left width) (copies_code (byte_behind (Frame copy 0) width) right count) (copies_fine (Frame copy 0) left width) (copies_fine (byte_behind (Frame copy 0) width) right count)) refl)
      (copies_fine to (Result root 0) width)

  copy_call_fine : (copy : Option ℕ) (root : Root) (to left right : Byte) (width count : ℕ) → Fine (copy_call_code copy root to left right width count)
  copy_call_fine None root to left right width count = refl
  copy_call_fine (Some copy) root to left right width count = helper_call_fine copy root to left right width count

  helped_fine : (helper : Option Helper) (list : List FnCopy) (root : Root) (to left right : Byte) (width count : ℕ) → Fine (any_call_code helper list root to left right width count)
  helped_fine None list root to left right width count = refl
  helped_fine (Some helper) list root to left right width count = copy_call_fine (copy_of list root helper) root to left right width count

  -- ---- operators
  shifted_fine : (number : Option ℕ) (list : List FnCopy) (root : Root) (op : BinOp) (ty : IntTy) (to left right : Byte) → Fine (shifted_code number list root op ty to left right)
  shifted_fine None list root op ty to left right = helped_fine (int_helper op false ty) list root to left right (bytes_of ty) 1
  shifted_fine (Some count) list root op ty to left right = shift_fine (way_of op (is_signed ty)) to left (bytes_of ty) count

  binary_fine : (list : List FnCopy) (root : Root) (before : List Tree) (op : BinOp) (ty : IntTy) (to left right : Byte) → (is_close c to && (is_close c left && is_close c right)) ≡ true → Fine (binary_code list root before op ty to left right)
  binary_fine list root before op ty to left right close = by op where
    first : (is_close c to ≡ true) × ((is_close c left && is_close c right) ≡ true)
    first = both (is_close c to) (is_close c left && is_close c right) close

    last : (is_close c left ≡ true) × (is_close c right ≡ true)
    last = both (is_close c left) (is_close c right) first.1

    by : (op : BinOp) → Fine (binary_code list root before op ty to left right)
    by binop.Add = sum_fine to left right (bytes_of ty) first.0 last.0 last.1
    by binop.Sub = chain_fine Difference to left right (bytes_of ty) first.0 last.0 last.1
    by binop.And = bits_fine Andwf to left right (bytes_of ty) refl
    by binop.Xor = bits_fine Xorwf to left right (bytes_of ty) refl
    by binop.Or = bits_fine Iorwf to left right (bytes_of ty) refl
    by binop.Eq = equality_fine 0 to left right (bytes_of ty)
    by binop.Ne = equality_fine 1 to left right (bytes_of ty)
    by binop.Lt = order_fine (is_signed ty) 0 to left right (bytes_of ty) last.0 last.1
    by binop.Ge = order_fine (is_signed ty) 1 to left right (bytes_of ty) last.0 last.1
    by binop.Gt = order_fine (is_signed ty) 0 to right left (bytes_of ty) last.1 last.0
    by binop.Le = order_fine (is_signed ty) 1 to right left (bytes_of ty) last.1 last.0
    by binop.Shl = shifted_fine (number_left before right) list root binop.Shl ty to left right
    by binop.Shr = shifted_fine (number_left before right) list root binop.Shr ty to left right
    by binop.Mul = helped_fine (int_helper binop.Mul false ty) list root to left right (bytes_of ty) (bytes_of ty)
    by binop.Div = helped_fine (int_helper binop.Div false ty) list root to left right (bytes_of ty) (bytes_of ty)
    by binop.Rem = helped_fine (int_helper binop.Rem false ty) list root to left right (bytes_of ty) (bytes_of ty)

  pub wide_fine : (list : List FnCopy) (root : Root) (before : List Tree) (t : Tree) → works_close c t ≡ true → Fine (wide_code list root before t)
  wide_fine list root before (trees.Address to place) given = refl
  wide_fine list root before (trees.Load to pointer count) given = load_fine to pointer count
  wide_fine list root before (trees.Store pointer from count) given = store_all_fine pointer from count
  wide_fine list root before (trees.Unary op ty at) given = unary_fine op ty at
  wide_fine list root before (trees.Binary op ty to left right) given = binary_fine list root before op ty to left right given
  wide_fine list root before (trees.Convert from to at) given = widening_fine from to at
  wide_fine list root before (trees.Set to value) given = refl
  wide_fine list root before (trees.Copy to from) given = refl
  wide_fine list root before (trees.BitRead to register bit) given = refl
  wide_fine list root before (trees.BitWrite register bit from) given = refl
  wide_fine list root before (trees.Call copy) given = refl
  wide_fine list root before trees.Leave given = refl
  wide_fine list root before (trees.Many parts) given = refl
  wide_fine list root before (trees.If test size holds fails) given = refl
  wide_fine list root before (trees.Loop body) given = refl
  wide_fine list root before (trees.Exit count) given = refl
  wide_fine list root before (trees.Again count) given = refl

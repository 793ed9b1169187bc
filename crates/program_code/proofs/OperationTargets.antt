-- What is selected for an operation names no target but the blocks of copies, for calls of helpers.
use Rattle.std.proofs.Common.{◌≡◌, ℕ, zero, suc, ◌-◌, ◌/◌, ◌%◌, Bool, true, false, ◌&&◌, nat_eq, nat_lt, length, if◌then◌else◌, List, [], ◌∷◌, ◌++◌, Option, Some, None, refl, ap}
use Rattle.std.specs.Prelude.{cond}
use Rattle.std.proofs.Math.Dec.{ltb}
use Rattle.std.proofs.lemmas.List.Quantifiers.{position-Some}
use Rattle.std.proofs.lemmas.Bool.{lt-ltb}
use Rattle.c_ints.specs.Range.{bytes_of}
use Rattle.c_ints.specs.declared.operators.BinOp.{BinOp}
use Rattle.c_ints.specs.declared.operators.BinOp.TheVariants as binop
use Rattle.c_ints.specs.declared.operators.UnOp.{UnOp}
use Rattle.c_ints.specs.declared.operators.UnOp.TheVariants as unop
use Rattle.c_ints.specs.declared.types.IntTy.{IntTy}
use Rattle.c_typed.specs.Calls.{int_helper}
use Rattle.c_typed.specs.declared.calls.FnId.TheVariants as callees
use Rattle.c_typed.specs.declared.calls.Helper.{Helper}
use Rattle.call_graph.specs.Numbers.{copy_of, is_copy_of}
use Rattle.call_graph.specs.declared.types.FnCopy.{FnCopy}
use Rattle.core_code.specs.Operands.{number_left}
use Rattle.core_code.specs.Tree as trees
use Rattle.core_code.specs.Tree.{Tree, Trees}
use Rattle.core_code.specs.declared.code.Byte.{Byte}
use Rattle.core_code.specs.declared.code.Byte.TheVariants.{Frame, Result}
use Rattle.pic_world.specs.declared.Root.{Root}
use Rattle.select_code.specs.Pieces.{set_code, ors_code, test_code, clear_code, number_code, store_code, is_clearable, byte_behind}
use Rattle.select_wide.specs.Calls.{helper_call_code, copy_call_code, any_call_code}
use Rattle.select_wide.specs.Comparisons.{differences_code, equality_code, signs_code, links_code, order_code}
use Rattle.select_wide.specs.Moves.{copies_code, stores_code, clears_code}
use Rattle.select_wide.specs.Pieces.{rising, nonzero_code, choice_code, truth_code}
use Rattle.select_wide.specs.Pointers.{load_code, store_all_code, advance_code}
use Rattle.select_wide.specs.Selection.{way_of, shifted_code, binary_code, wide_code}
use Rattle.select_wide.specs.Shifts.{raised_code, bytes_down_code, bytes_way_code, bytes_code, bit_shift_code, in_place_code, moved_code, shift_code}
use Rattle.select_wide.specs.Single.{is_signed, complement_code, increment_byte_code, increment_code, bang_code, unary_code, widening_code}
use Rattle.select_wide.specs.Sums.{link_code, apart_code, chain_code, sum_code, bits_code}
use Rattle.select_wide.specs.declared.operands.Chain.{Chain}
use Rattle.select_wide.specs.declared.operands.Chain.TheVariants.{Sum, Difference}
use Rattle.select_wide.specs.declared.operands.Way.{Way}
use Rattle.select_wide.specs.declared.operands.Way.TheVariants.{Left, Right, SignedRight}
use Rattle.sym_code.specs.declared.code.Sym.{Sym}
use Rattle.program_code.specs.Calling.{names_below, all_names_below}
use Rattle.core_code.specs.Bytes.{same_byte}
use Rattle.select_code.specs.Pieces.{file_code, flag_code}
use Rattle.select_code.specs.declared.pieces.Flag.TheVariants.{Carry, Zero}
use Rattle.sym_code.specs.declared.code.BitOperation.TheVariants.{Btfsc, Btfss}
use Rattle.sym_code.specs.declared.code.FileOperation.{FileOperation}
use Rattle.sym_code.specs.declared.code.FileOperation.TheVariants.{Incf}
use Rattle.sym_code.specs.declared.code.Into.{Into}
use Rattle.sym_code.specs.declared.code.Into.TheVariants.{W, File}
use Rattle.select_wide.specs.Sums.{further_code}
use Rattle.select_wide.specs.Calls.{enter_code}

abbrev pub CallsBelow : ℕ → List Sym → Type 0
CallsBelow limit list = all_names_below limit list ≡ true

-- ---- lists
pub joined : (limit : ℕ) (xs ys : List Sym) → CallsBelow limit xs → CallsBelow limit ys → CallsBelow limit (xs ++ ys)
joined limit [] ys p q = q
joined limit (x ∷ xs) ys p q = by (names_below limit x) (λ e. joined limit xs ys e q) p where
  by : (b : Bool) → (CallsBelow limit xs → CallsBelow limit (xs ++ ys)) → (b && all_names_below limit xs) ≡ true → (b && all_names_below limit (xs ++ ys)) ≡ true
  by true below e = below e
  by false below e = absurd (cc)

pub either : (limit : ℕ) (b : Bool) (xs ys : List Sym) → CallsBelow limit xs → CallsBelow limit ys → CallsBelow limit (if b then xs else ys)
either limit true xs ys p q = p
either limit false xs ys p q = q

pub up : (limit : ℕ) (code : ℕ → List Sym) → ((k : ℕ) → CallsBelow limit (code k)) → (n : ℕ) → CallsBelow limit (rising code n)
up limit code p zero = refl
up limit code p (suc k) = joined limit (rising code k) (code k) (up limit code p k) (p k)

-- ---- bytes
pub set_calls : (limit : ℕ) (to : Byte) (value : ℕ) → CallsBelow limit (set_code to value)
set_calls limit to value = by (nat_eq value 0 && is_clearable to) where
  by : (b : Bool) → CallsBelow limit (cond b (clear_code to) (number_code value ++ store_code to))
  by true = refl
  by false = refl

ors_calls : (limit : ℕ) (first : Byte) (k : ℕ) → CallsBelow limit (ors_code first k)
ors_calls limit first zero = refl
ors_calls limit first (suc k) = joined limit (ors_code first k) _ (ors_calls limit first k) refl

pub test_calls : (limit : ℕ) (test : Byte) (size : ℕ) → CallsBelow limit (test_code test size)
test_calls limit test zero = refl
test_calls limit test (suc k) = ors_calls limit test k

copies_calls : (limit : ℕ) (to from : Byte) (count : ℕ) → CallsBelow limit (copies_code to from count)
copies_calls limit to from count = up limit _ (λ k. refl) count

stores_calls : (limit : ℕ) (to : Byte) (count : ℕ) → CallsBelow limit (stores_code to count)
stores_calls limit to count = up limit _ (λ k. refl) count

clears_calls : (limit : ℕ) (to : Byte) (count : ℕ) → CallsBelow limit (clears_code to count)
clears_calls limit to count = up limit _ (λ k. set_calls limit (byte_behind to k) 0) count

truth_calls : (limit : ℕ) (to : Byte) → CallsBelow limit (truth_code to)
truth_calls limit to = set_calls limit (byte_behind to 1) 0

-- ---- one value
complement_calls : (limit : ℕ) (at : Byte) (width : ℕ) → CallsBelow limit (complement_code at width)
complement_calls limit at width = up limit _ (λ k. refl) width

increment_byte_calls : (limit : ℕ) (at : Byte) (k : ℕ) → CallsBelow limit (increment_byte_code at k)
increment_byte_calls limit at k = joined limit (if nat_eq k 0 then [] else flag_code Btfsc Zero) (file_code Incf (byte_behind at k) File) (either limit (nat_eq k 0) [] (flag_code Btfsc Zero) refl refl) refl

increment_calls : (limit : ℕ) (at : Byte) (width : ℕ) → CallsBelow limit (increment_code at width)
increment_calls limit at width = up limit (increment_byte_code at) (increment_byte_calls limit at) width

bang_calls : (limit : ℕ) (at : Byte) (width : ℕ) → CallsBelow limit (bang_code at width)
bang_calls limit at width =
    joined limit (test_code at width ++ nonzero_code ++ choice_code 0 Btfss Carry 1) (truth_code at)
    (joined limit (test_code at width ++ nonzero_code) (choice_code 0 Btfss Carry 1) (joined limit (test_code at width) nonzero_code (test_calls limit at width) refl) refl) (truth_calls limit at)

unary_calls : (limit : ℕ) (op : UnOp) (ty : IntTy) (at : Byte) → CallsBelow limit (unary_code op ty at)
unary_calls limit unop.Plus ty at = refl
unary_calls limit unop.Minus ty at = joined limit (complement_code at (bytes_of ty)) (increment_code at (bytes_of ty)) (complement_calls limit at (bytes_of ty)) (increment_calls limit at (bytes_of ty))
unary_calls limit unop.Not ty at = complement_calls limit at (bytes_of ty)
unary_calls limit unop.Bang ty at = bang_calls limit at (bytes_of ty)

widening_calls : (limit : ℕ) (from to : IntTy) (at : Byte) → CallsBelow limit (widening_code from to at)
widening_calls limit from to at = either limit (is_signed from) _ _ (stores_calls limit (byte_behind at (bytes_of from)) (bytes_of to - bytes_of from)) (clears_calls limit (byte_behind at (bytes_of from)) (bytes_of to - bytes_of from))

-- ---- sums and bits
further_calls : (limit : ℕ) (chain : Chain) (left right : Byte) (into : Into) → CallsBelow limit (further_code chain left right into)
further_calls limit Sum left right into = refl
further_calls limit Difference left right into = refl

link_calls : (limit : ℕ) (chain : Chain) (left right : Byte) (into : Into) (k : ℕ) → CallsBelow limit (link_code chain left right into k)
link_calls limit chain left right into k = either limit (nat_eq k 0) _ _ refl (further_calls limit chain (byte_behind left k) (byte_behind right k) into)

apart_calls : (limit : ℕ) (chain : Chain) (to left right : Byte) (k : ℕ) → CallsBelow limit (apart_code chain to left right k)
apart_calls limit chain to left right k = either limit (nat_eq k 0) _ _ refl (further_calls limit chain (byte_behind to k) (byte_behind right k) File)

chain_calls : (limit : ℕ) (chain : Chain) (to left right : Byte) (width : ℕ) → CallsBelow limit (chain_code chain to left right width)
chain_calls limit chain to left right width = up limit _ (λ k. either limit (same_byte to left) _ _ (link_calls limit chain left right File k) (apart_calls limit chain to left right k)) width

sum_calls : (limit : ℕ) (to left right : Byte) (width : ℕ) → CallsBelow limit (sum_code to left right width)
sum_calls limit to left right width = either limit (same_byte to right) _ _ (chain_calls limit Sum to right left width) (chain_calls limit Sum to left right width)

bits_calls : (limit : ℕ) (op : FileOperation) (to left right : Byte) (width : ℕ) → CallsBelow limit (bits_code op to left right width)
bits_calls limit op to left right width = up limit _ (λ k. either limit (same_byte (byte_behind to k) (byte_behind left k)) _ _ refl refl) width

-- ---- comparisons
differences_calls : (limit : ℕ) (to left right : Byte) (width : ℕ) → CallsBelow limit (differences_code to left right width)
differences_calls limit to left right width = up limit _ (λ k. either limit (nat_eq k 0) _ _ refl refl) width

equality_calls : (limit : ℕ) (usual : ℕ) (to left right : Byte) (width : ℕ) → CallsBelow limit (equality_code usual to left right width)
equality_calls limit usual to left right width =
    joined limit (differences_code to left right width ++ choice_code usual Btfsc Zero (1 - usual)) (truth_code to)
    (joined limit (differences_code to left right width) (choice_code usual Btfsc Zero (1 - usual)) (differences_calls limit to left right width) refl) (truth_calls limit to)

signs_calls : (limit : ℕ) (signed : Bool) (left right : Byte) → CallsBelow limit (signs_code signed left right)
signs_calls limit true left right = refl
signs_calls limit false left right = refl

order_calls : (limit : ℕ) (signed : Bool) (usual : ℕ) (to left right : Byte) (width : ℕ) → CallsBelow limit (order_code signed usual to left right width)
order_calls limit signed usual to left right width =
    joined limit (links_code left right width ++ choice_code usual Btfss Carry (1 - usual) ++ signs_code signed (byte_behind left (width - 1)) (byte_behind right (width - 1))) (truth_code to)
    (joined limit (links_code left right width ++ choice_code usual Btfss Carry (1 - usual)) (signs_code signed (byte_behind left (width - 1)) (byte_behind right (width - 1)))
    (joined limit (links_code left right width) (choice_code usual Btfss Carry (1 - usual)) (up limit _ (link_calls limit Difference left right W) width) refl)
    (signs_calls limit signed (byte_behind left (width - 1)) (byte_behind right (width - 1))))
    (truth_calls limit to)

-- ---- shifts
bytes_down_calls : (limit : ℕ) (signed : Bool) (at : Byte) (width bytes : ℕ) → CallsBelow limit (bytes_down_code signed at width bytes)
bytes_down_calls limit signed at width bytes =
    joined limit (copies_code at (byte_behind at bytes) (width - bytes)) _ (copies_calls limit at (byte_behind at bytes) (width - bytes))
    (either limit signed _ _ (stores_calls limit (byte_behind at (width - bytes)) bytes) (clears_calls limit (byte_behind at (width - bytes)) bytes))

bytes_way_calls : (limit : ℕ) (way : Way) (at : Byte) (width bytes : ℕ) → CallsBelow limit (bytes_way_code way at width bytes)
bytes_way_calls limit Left at width bytes = joined limit (raised_code at width bytes) (clears_code at bytes) (up limit _ (λ k. refl) (width - bytes)) (clears_calls limit at bytes)
bytes_way_calls limit Right at width bytes = bytes_down_calls limit false at width bytes
bytes_way_calls limit SignedRight at width bytes = bytes_down_calls limit true at width bytes

bit_shift_calls : (limit : ℕ) (way : Way) (at : Byte) (width bytes : ℕ) → CallsBelow limit (bit_shift_code way at width bytes)
bit_shift_calls limit Left at width bytes = up limit _ (λ k. refl) (width - bytes)
bit_shift_calls limit Right at width bytes = up limit _ (λ k. refl) (width - bytes)
bit_shift_calls limit SignedRight at width bytes = up limit _ (λ k. refl) (width - bytes)

in_place_calls : (limit : ℕ) (way : Way) (at : Byte) (width count : ℕ) → CallsBelow limit (in_place_code way at width count)
in_place_calls limit way at width count =
    joined limit (bytes_code way at width (count / 8)) _ (either limit (nat_eq (count / 8) 0) _ _ refl (bytes_way_calls limit way at width (count / 8)))
    (up limit _ (λ k. bit_shift_calls limit way at width (count / 8)) (count % 8))

shift_calls : (limit : ℕ) (way : Way) (to left : Byte) (width count : ℕ) → CallsBelow limit (shift_code way to left width count)
shift_calls limit way to left width count =
    joined limit (moved_code to left width) _ (either limit (same_byte to left) _ _ refl (copies_calls limit to left width))
    (either limit (ltb (count / 8) width) _ _ (in_place_calls limit way to width count) refl)

-- ---- pointers
advance_calls : (limit : ℕ) (k : ℕ) → CallsBelow limit (advance_code k)
advance_calls limit k = either limit (nat_eq k 0) _ _ refl refl

load_calls : (limit : ℕ) (to pointer : Byte) (count : ℕ) → CallsBelow limit (load_code to pointer count)
load_calls limit to pointer count = up limit _ (λ k. joined limit (advance_code k ++ _) _ (joined limit (advance_code k) _ (advance_calls limit k) refl) refl) count

store_all_calls : (limit : ℕ) (pointer from : Byte) (count : ℕ) → CallsBelow limit (store_all_code pointer from count)
store_all_calls limit pointer from count = up limit _ (λ k. joined limit (advance_code k ++ _) _ (joined limit (advance_code k) _ (advance_calls limit k) refl) refl) count

-- ---- helpers
enter_calls : (limit copy : ℕ) → nat_lt copy limit ≡ true → CallsBelow limit (enter_code copy)
enter_calls limit copy low = ap (λ b. b && true) low

helper_call_calls : (limit : ℕ) (copy : ℕ) → nat_lt copy limit ≡ true → (root : Root) (to left right : Byte) (width count : ℕ) → CallsBelow limit (helper_call_code copy root to left right width count)
helper_call_calls limit copy low root to left right width count =
    joined limit (copies_code (Frame copy 0) left width ++ copies_code (byte_behind (Frame copy 0) width) right count ++ enter_code copy) (copies_code to (Result root 0) width)
    (joined limit (copies_code (Frame copy 0) left width ++ copies_code (byte_behind (Frame copy 0) width) right count) (enter_code copy)
    (joined limit (copies_code (Frame copy 0) left width) (copies_code (byte_behind (Frame copy 0) width) right count) (copies_calls limit (Frame copy 0) left width) (copies_calls limit (byte_behind (Frame copy 0) width) right count))
    (enter_calls limit copy low))
    (copies_calls limit to (Result root 0) width)

copy_call_calls : (limit : ℕ) (copy : Option ℕ) → ((c : ℕ) → copy ≡ Some c → nat_lt c limit ≡ true) → (root : Root) (to left right : Byte) (width count : ℕ) → CallsBelow limit (copy_call_code copy root to left right width count)
copy_call_calls limit None low root to left right width count = refl
copy_call_calls limit (Some copy) low root to left right width count = helper_call_calls limit copy (low copy refl) root to left right width count

-- each helper's copy is one of the list
copy_low : (list : List FnCopy) (root : Root) (helper : Helper) (c : ℕ) → copy_of list root helper ≡ Some c → nat_lt c (length list) ≡ true
copy_low list root helper c is = let found = position-Some (is_copy_of root helper) list c (record { function = callees.Helper helper; root = root; level = 0 }) is in lt-ltb c (length list) found.0

helped_calls : (helper : Option Helper) (list : List FnCopy) (root : Root) (to left right : Byte) (width count : ℕ) → CallsBelow (length list) (any_call_code helper list root to left right width count)
helped_calls None list root to left right width count = refl
helped_calls (Some helper) list root to left right width count = copy_call_calls (length list) (copy_of list root helper) (copy_low list root helper) root to left right width count

-- ---- operators
shifted_calls : (number : Option ℕ) (list : List FnCopy) (root : Root) (op : BinOp) (ty : IntTy) (to left right : Byte) → CallsBelow (length list) (shifted_code number list root op ty to left right)
shifted_calls None list root op ty to left right = helped_calls (int_helper op false ty) list root to left right (bytes_of ty) 1
shifted_calls (Some count) list root op ty to left right = shift_calls (length list) (way_of op (is_signed ty)) to left (bytes_of ty) count

binary_calls : (list : List FnCopy) (root : Root) (before : List Tree) (op : BinOp) (ty : IntTy) (to left right : Byte) → CallsBelow (length list) (binary_code list root before op ty to left right)
binary_calls list root before binop.Add ty to left right = sum_calls (length list) to left right (bytes_of ty)
binary_calls list root before binop.Sub ty to left right = chain_calls (length list) Difference to left right (bytes_of ty)
binary_calls list root before binop.And ty to left right = bits_calls (length list) _ to left right (bytes_of ty)
binary_calls list root before binop.Xor ty to left right = bits_calls (length list) _ to left right (bytes_of ty)
binary_calls list root before binop.Or ty to left right = bits_calls (length list) _ to left right (bytes_of ty)
binary_calls list root before binop.Eq ty to left right = equality_calls (length list) 0 to left right (bytes_of ty)
binary_calls list root before binop.Ne ty to left right = equality_calls (length list) 1 to left right (bytes_of ty)
binary_calls list root before binop.Lt ty to left right = order_calls (length list) (is_signed ty) 0 to left right (bytes_of ty)
binary_calls list root before binop.Ge ty to left right = order_calls (length list) (is_signed ty) 1 to left right (bytes_of ty)
binary_calls list root before binop.Gt ty to left right = order_calls (length list) (is_signed ty) 0 to right left (bytes_of ty)
binary_calls list root before binop.Le ty to left right = order_calls (length list) (is_signed ty) 1 to right left (bytes_of ty)
binary_calls list root before binop.Shl ty to left right = shifted_calls (number_left before right) list root binop.Shl ty to left right
binary_calls list root before binop.Shr ty to left right = shifted_calls (number_left before right) list root binop.Shr ty to left right
binary_calls list root before binop.Mul ty to left right = helped_calls (int_helper binop.Mul false ty) list root to left right (bytes_of ty) (bytes_of ty)
binary_calls list root before binop.Div ty to left right = helped_calls (int_helper binop.Div false ty) list root to left right (bytes_of ty) (bytes_of ty)
binary_calls list root before binop.Rem ty to left right = helped_calls (int_helper binop.Rem false ty) list root to left right (bytes_of ty) (bytes_of ty)

pub wide_calls : (list : List FnCopy) (root : Root) (before : List Tree) (t : Tree) → CallsBelow (length list) (wide_code list root before t)
wide_calls list root before (trees.Address to place) = refl
wide_calls list root before (trees.Load to pointer count) = load_calls (length list) to pointer count
wide_calls list root before (trees.Store pointer from count) = store_all_calls (length list) pointer from count
wide_calls list root before (trees.Unary op ty at) = unary_calls (length list) op ty at
wide_calls list root before (trees.Binary op ty to left right) = binary_calls list root before op ty to left right
wide_calls list root before (trees.Convert from to at) = widening_calls (length list) from to at
wide_calls list root before (trees.Set to value) = refl
wide_calls list root before (trees.Copy to from) = refl
wide_calls list root before (trees.BitRead to register bit) = refl
wide_calls list root before (trees.BitWrite register bit from) = refl
wide_calls list root before (trees.Call copy) = refl
wide_calls list root before trees.Leave = refl
wide_calls list root before (trees.Many parts) = refl
wide_calls list root before (trees.If test size holds fails) = refl
wide_calls list root before (trees.Loop body) = refl
wide_calls list root before (trees.Exit count) = refl
wide_calls list root before (trees.Again count) = refl

-- What is selected for an operation is plain code.
use Rattle.std.proofs.Common.{◌≡◌, ℕ, zero, suc, ◌-◌, ◌/◌, ◌%◌, ◌<◌, Bool, true, false, ◌&&◌, nat_eq, if◌then◌else◌, List, [], ◌∷◌, ◌++◌, Option, Some, None, refl, ap, arith}
use Rattle.std.specs.Prelude.{cond}
use Rattle.std.proofs.Math.Dec.{ltb}
use Rattle.std.proofs.lemmas.Bool.{lt-ltb}
use Rattle.c_ints.specs.Range.{bytes_of}
use Rattle.c_ints.specs.declared.operators.BinOp.{BinOp}
use Rattle.c_ints.specs.declared.operators.BinOp.TheVariants as binop
use Rattle.c_ints.specs.declared.operators.UnOp.{UnOp}
use Rattle.c_ints.specs.declared.operators.UnOp.TheVariants as unop
use Rattle.c_ints.specs.declared.types.IntTy.{IntTy}
use Rattle.c_typed.specs.Calls.{int_helper}
use Rattle.c_typed.specs.declared.calls.Helper.{Helper}
use Rattle.call_graph.specs.Numbers.{copy_of}
use Rattle.call_graph.specs.declared.types.FnCopy.{FnCopy}
use Rattle.core_code.specs.Operands.{number_left}
use Rattle.core_code.specs.Tree as trees
use Rattle.core_code.specs.Tree.{Tree}
use Rattle.core_code.specs.declared.code.Byte.{Byte}
use Rattle.core_code.specs.declared.code.Byte.TheVariants.{Frame, Result}
use Rattle.pic_world.specs.declared.Root.{Root}
use Rattle.select_code.specs.Pieces.{set_code, ors_code, test_code, clear_code, number_code, store_code, is_clearable, byte_behind}
use Rattle.select_wide.specs.Calls.{helper_call_code, copy_call_code, any_call_code}
use Rattle.select_wide.specs.Comparisons.{differences_code, equality_code, signs_code, links_code, order_code}
use Rattle.select_wide.specs.Moves.{copies_code, stores_code, clears_code}
use Rattle.select_wide.specs.Pieces.{rising, nonzero_code, choice_code, truth_code}
use Rattle.select_wide.specs.Pointers.{address_code, load_code, store_all_code, advance_code}
use Rattle.select_wide.specs.Selection.{way_of, shifted_code, binary_code, wide_code}
use Rattle.select_wide.specs.Shifts.{raised_code, bytes_down_code, bytes_way_code, bytes_code, bit_shift_code, in_place_code, moved_code, shift_code}
use Rattle.select_wide.specs.Single.{is_signed, complement_code, increment_byte_code, increment_code, bang_code, unary_code, widening_code}
use Rattle.select_wide.specs.Sums.{link_code, apart_code, chain_code, sum_code, bits_code}
use Rattle.select_wide.specs.declared.operands.Chain.{Chain}
use Rattle.select_wide.specs.declared.operands.Chain.TheVariants.{Sum, Difference}
use Rattle.select_wide.specs.declared.operands.Way.{Way}
use Rattle.select_wide.specs.declared.operands.Way.TheVariants.{Left, Right, SignedRight}
use Rattle.sym_code.specs.declared.code.Sym.{Sym}
use Rattle.headline_trace.specs.Plain.{is_plain, all_plain, is_given}
use Rattle.chip_trace.specs.Arriving.{is_near}
use Rattle.core_code.specs.Bytes.{same_byte}
use Rattle.select_code.specs.Pieces.{file_code, flag_code}
use Rattle.select_code.specs.declared.pieces.Flag.{Flag}
use Rattle.select_code.specs.declared.pieces.Flag.TheVariants.{Carry, Zero}
use Rattle.sym_code.specs.declared.code.BitOperation.{BitOperation}
use Rattle.sym_code.specs.declared.code.BitOperation.TheVariants.{Btfsc, Btfss}
use Rattle.sym_code.specs.declared.code.FileOperation.{FileOperation}
use Rattle.sym_code.specs.declared.code.FileOperation.TheVariants.{Incf}
use Rattle.sym_code.specs.declared.code.Into.{Into}
use Rattle.sym_code.specs.declared.code.Into.TheVariants.{W, File}
use Rattle.select_wide.specs.Sums.{further_code}
use Rattle.select_wide.specs.Calls.{enter_code}

abbrev pub Plain : List Sym → Type 0
Plain list = all_plain list ≡ true

-- ---- lists
pub joined : (xs ys : List Sym) → Plain xs → Plain ys → Plain (xs ++ ys)
joined [] ys p q = q
joined (x ∷ xs) ys p q = by (is_plain x) (λ e. joined xs ys e q) p where
  by : (b : Bool) → (Plain xs → Plain (xs ++ ys)) → (b && all_plain xs) ≡ true → (b && all_plain (xs ++ ys)) ≡ true
  by true below e = below e
  by false below e = absurd (cc)

pub either : (b : Bool) (xs ys : List Sym) → Plain xs → Plain ys → Plain (if b then xs else ys)
either true xs ys p q = p
either false xs ys p q = q

pub up : (code : ℕ → List Sym) → ((k : ℕ) → Plain (code k)) → (n : ℕ) → Plain (rising code n)
up code p zero = refl
up code p (suc k) = joined (rising code k) (code k) (up code p k) (p k)

-- ---- bytes
number_plain : (value : ℕ) → value < 256 → Plain (number_code value)
number_plain value lt = ap (λ b. (b && true) && true) (lt-ltb value 256 lt)

pub set_plain : (to : Byte) (value : ℕ) → value < 256 → Plain (set_code to value)
set_plain to value lt = by (nat_eq value 0 && is_clearable to) where
  by : (b : Bool) → Plain (cond b (clear_code to) (number_code value ++ store_code to))
  by true = refl
  by false = joined (number_code value) (store_code to) (number_plain value lt) refl

ors_plain : (first : Byte) (k : ℕ) → Plain (ors_code first k)
ors_plain first zero = refl
ors_plain first (suc k) = joined (ors_code first k) _ (ors_plain first k) refl

pub test_plain : (test : Byte) (size : ℕ) → Plain (test_code test size)
test_plain test zero = refl
test_plain test (suc k) = ors_plain test k

copies_plain : (to from : Byte) (count : ℕ) → Plain (copies_code to from count)
copies_plain to from count = up _ (λ k. refl) count

stores_plain : (to : Byte) (count : ℕ) → Plain (stores_code to count)
stores_plain to count = up _ (λ k. refl) count

clears_plain : (to : Byte) (count : ℕ) → Plain (clears_code to count)
clears_plain to count = up _ (λ k. set_plain (byte_behind to k) 0 (omega arith)) count

truth_plain : (to : Byte) → Plain (truth_code to)
truth_plain to = set_plain (byte_behind to 1) 0 (omega arith)

-- ---- one value
complement_plain : (at : Byte) (width : ℕ) → Plain (complement_code at width)
complement_plain at width = up _ (λ k. refl) width

increment_byte_plain : (at : Byte) (k : ℕ) → Plain (increment_byte_code at k)
increment_byte_plain at k = joined (if nat_eq k 0 then [] else flag_code Btfsc Zero) (file_code Incf (byte_behind at k) File) (either (nat_eq k 0) [] (flag_code Btfsc Zero) refl refl) refl

increment_plain : (at : Byte) (width : ℕ) → Plain (increment_code at width)
increment_plain at width = up (increment_byte_code at) (increment_byte_plain at) width

choice_plain : (usual other : ℕ) → usual < 256 → other < 256 → (test : BitOperation) (flag : Flag) → Plain (choice_code usual test flag other)
choice_plain usual other lt lo test flag =
    joined (number_code usual ++ flag_code test flag) (number_code other) (joined (number_code usual) (flag_code test flag) (number_plain usual lt) refl) (number_plain other lo)

bang_plain : (at : Byte) (width : ℕ) → Plain (bang_code at width)
bang_plain at width =
    joined (test_code at width ++ nonzero_code ++ choice_code 0 Btfss Carry 1) (truth_code at)
    (joined (test_code at width ++ nonzero_code) (choice_code 0 Btfss Carry 1) (joined (test_code at width) nonzero_code (test_plain at width) refl) refl) (truth_plain at)

unary_plain : (op : UnOp) (ty : IntTy) (at : Byte) → Plain (unary_code op ty at)
unary_plain unop.Plus ty at = refl
unary_plain unop.Minus ty at = joined (complement_code at (bytes_of ty)) (increment_code at (bytes_of ty)) (complement_plain at (bytes_of ty)) (increment_plain at (bytes_of ty))
unary_plain unop.Not ty at = complement_plain at (bytes_of ty)
unary_plain unop.Bang ty at = bang_plain at (bytes_of ty)

widening_plain : (from to : IntTy) (at : Byte) → Plain (widening_code from to at)
widening_plain from to at = either (is_signed from) _ _ (stores_plain (byte_behind at (bytes_of from)) (bytes_of to - bytes_of from)) (clears_plain (byte_behind at (bytes_of from)) (bytes_of to - bytes_of from))

-- ---- sums and bits
further_plain : (chain : Chain) (left right : Byte) (into : Into) → Plain (further_code chain left right into)
further_plain Sum left right into = refl
further_plain Difference left right into = refl

link_plain : (chain : Chain) (left right : Byte) (into : Into) (k : ℕ) → Plain (link_code chain left right into k)
link_plain chain left right into k = either (nat_eq k 0) _ _ refl (further_plain chain (byte_behind left k) (byte_behind right k) into)

apart_plain : (chain : Chain) (to left right : Byte) (k : ℕ) → Plain (apart_code chain to left right k)
apart_plain chain to left right k = either (nat_eq k 0) _ _ refl (further_plain chain (byte_behind to k) (byte_behind right k) File)

chain_plain : (chain : Chain) (to left right : Byte) (width : ℕ) → Plain (chain_code chain to left right width)
chain_plain chain to left right width = up _ (λ k. either (same_byte to left) _ _ (link_plain chain left right File k) (apart_plain chain to left right k)) width

sum_plain : (to left right : Byte) (width : ℕ) → Plain (sum_code to left right width)
sum_plain to left right width = either (same_byte to right) _ _ (chain_plain Sum to right left width) (chain_plain Sum to left right width)

bits_plain : (op : FileOperation) (to left right : Byte) (width : ℕ) → Plain (bits_code op to left right width)
bits_plain op to left right width = up _ (λ k. either (same_byte (byte_behind to k) (byte_behind left k)) _ _ refl refl) width

-- ---- comparisons
differences_plain : (to left right : Byte) (width : ℕ) → Plain (differences_code to left right width)
differences_plain to left right width = up _ (λ k. either (nat_eq k 0) _ _ refl refl) width

equality_plain : (usual : ℕ) → usual < 2 → (to left right : Byte) (width : ℕ) → Plain (equality_code usual to left right width)
equality_plain usual lt to left right width =
    joined (differences_code to left right width ++ choice_code usual Btfsc Zero (1 - usual)) (truth_code to)
    (joined (differences_code to left right width) (choice_code usual Btfsc Zero (1 - usual)) (differences_plain to left right width) (choice_plain usual (1 - usual) (omega arith) (omega arith) Btfsc Zero)) (truth_plain to)

signs_plain : (signed : Bool) (left right : Byte) → Plain (signs_code signed left right)
signs_plain true left right = refl
signs_plain false left right = refl

order_plain : (signed : Bool) (usual : ℕ) → usual < 2 → (to left right : Byte) (width : ℕ) → Plain (order_code signed usual to left right width)
order_plain signed usual lt to left right width =
    joined (links_code left right width ++ choice_code usual Btfss Carry (1 - usual) ++ signs_code signed (byte_behind left (width - 1)) (byte_behind right (width - 1))) (truth_code to)
    (joined (links_code left right width ++ choice_code usual Btfss Carry (1 - usual)) (signs_code signed (byte_behind left (width - 1)) (byte_behind right (width - 1)))
    (joined (links_code left right width) (choice_code usual Btfss Carry (1 - usual)) (up _ (link_plain Difference left right W) width) (choice_plain usual (1 - usual) (omega arith) (omega arith) Btfss Carry))
    (signs_plain signed (byte_behind left (width - 1)) (byte_behind right (width - 1))))
    (truth_plain to)

-- ---- shifts
bytes_down_plain : (signed : Bool) (at : Byte) (width bytes : ℕ) → Plain (bytes_down_code signed at width bytes)
bytes_down_plain signed at width bytes =
    joined (copies_code at (byte_behind at bytes) (width - bytes)) _ (copies_plain at (byte_behind at bytes) (width - bytes))
    (either signed _ _ (stores_plain (byte_behind at (width - bytes)) bytes) (clears_plain (byte_behind at (width - bytes)) bytes))

bytes_way_plain : (way : Way) (at : Byte) (width bytes : ℕ) → Plain (bytes_way_code way at width bytes)
bytes_way_plain Left at width bytes = joined (raised_code at width bytes) (clears_code at bytes) (up _ (λ k. refl) (width - bytes)) (clears_plain at bytes)
bytes_way_plain Right at width bytes = bytes_down_plain false at width bytes
bytes_way_plain SignedRight at width bytes = bytes_down_plain true at width bytes

bit_shift_plain : (way : Way) (at : Byte) (width bytes : ℕ) → Plain (bit_shift_code way at width bytes)
bit_shift_plain Left at width bytes = up _ (λ k. refl) (width - bytes)
bit_shift_plain Right at width bytes = up _ (λ k. refl) (width - bytes)
bit_shift_plain SignedRight at width bytes = up _ (λ k. refl) (width - bytes)

in_place_plain : (way : Way) (at : Byte) (width count : ℕ) → Plain (in_place_code way at width count)
in_place_plain way at width count =
    joined (bytes_code way at width (count / 8)) _ (either (nat_eq (count / 8) 0) _ _ refl (bytes_way_plain way at width (count / 8)))
    (up _ (λ k. bit_shift_plain way at width (count / 8)) (count % 8))

shift_plain : (way : Way) (to left : Byte) (width count : ℕ) → Plain (shift_code way to left width count)
shift_plain way to left width count =
    joined (moved_code to left width) _ (either (same_byte to left) _ _ refl (copies_plain to left width))
    (either (ltb (count / 8) width) _ _ (in_place_plain way to width count) refl)

-- ---- pointers
address_plain : (to place : Byte) → is_near place ≡ true → Plain (address_code to place)
address_plain to place near = ap (λ b. (b && true) && (true && ((b && true) && (true && true)))) near

advance_plain : (k : ℕ) → Plain (advance_code k)
advance_plain k = either (nat_eq k 0) _ _ refl refl

load_plain : (to pointer : Byte) (count : ℕ) → Plain (load_code to pointer count)
load_plain to pointer count = up _ (λ k. joined (advance_code k ++ _) _ (joined (advance_code k) _ (advance_plain k) refl) refl) count

store_all_plain : (pointer from : Byte) (count : ℕ) → Plain (store_all_code pointer from count)
store_all_plain pointer from count = up _ (λ k. joined (advance_code k ++ _) _ (joined (advance_code k) _ (advance_plain k) refl) refl) count

-- ---- helpers
helper_call_plain : (copy : ℕ) (root : Root) (to left right : Byte) (width count : ℕ) → Plain (helper_call_code copy root to left right width count)
helper_call_plain copy root to left right width count =
    joined (copies_code (Frame copy 0) left width ++ copies_code (byte_behind (Frame copy 0) width) right count ++ enter_code copy) (copies_code to (Result root 0) width)
    (joined (copies_code (Frame copy 0) left width ++ copies_code (byte_behind (Frame copy 0) width) right count) (enter_code copy)
    (joined (copies_code (Frame copy 0) left width) (copies_code (byte_behind (Frame copy 0) width) right count) (copies_plain (Frame copy 0) left width) (copies_plain (byte_behind (Frame copy 0) width) right count)) refl)
    (copies_plain to (Result root 0) width)

copy_call_plain : (copy : Option ℕ) (root : Root) (to left right : Byte) (width count : ℕ) → Plain (copy_call_code copy root to left right width count)
copy_call_plain None root to left right width count = refl
copy_call_plain (Some copy) root to left right width count = helper_call_plain copy root to left right width count

helped_plain : (helper : Option Helper) (list : List FnCopy) (root : Root) (to left right : Byte) (width count : ℕ) → Plain (any_call_code helper list root to left right width count)
helped_plain None list root to left right width count = refl
helped_plain (Some helper) list root to left right width count = copy_call_plain (copy_of list root helper) root to left right width count

-- ---- operators
shifted_plain : (number : Option ℕ) (list : List FnCopy) (root : Root) (op : BinOp) (ty : IntTy) (to left right : Byte) → Plain (shifted_code number list root op ty to left right)
shifted_plain None list root op ty to left right = helped_plain (int_helper op false ty) list root to left right (bytes_of ty) 1
shifted_plain (Some count) list root op ty to left right = shift_plain (way_of op (is_signed ty)) to left (bytes_of ty) count

binary_plain : (list : List FnCopy) (root : Root) (before : List Tree) (op : BinOp) (ty : IntTy) (to left right : Byte) → Plain (binary_code list root before op ty to left right)
binary_plain list root before binop.Add ty to left right = sum_plain to left right (bytes_of ty)
binary_plain list root before binop.Sub ty to left right = chain_plain Difference to left right (bytes_of ty)
binary_plain list root before binop.And ty to left right = bits_plain _ to left right (bytes_of ty)
binary_plain list root before binop.Xor ty to left right = bits_plain _ to left right (bytes_of ty)
binary_plain list root before binop.Or ty to left right = bits_plain _ to left right (bytes_of ty)
binary_plain list root before binop.Eq ty to left right = equality_plain 0 (omega arith) to left right (bytes_of ty)
binary_plain list root before binop.Ne ty to left right = equality_plain 1 (omega arith) to left right (bytes_of ty)
binary_plain list root before binop.Lt ty to left right = order_plain (is_signed ty) 0 (omega arith) to left right (bytes_of ty)
binary_plain list root before binop.Ge ty to left right = order_plain (is_signed ty) 1 (omega arith) to left right (bytes_of ty)
binary_plain list root before binop.Gt ty to left right = order_plain (is_signed ty) 0 (omega arith) to right left (bytes_of ty)
binary_plain list root before binop.Le ty to left right = order_plain (is_signed ty) 1 (omega arith) to right left (bytes_of ty)
binary_plain list root before binop.Shl ty to left right = shifted_plain (number_left before right) list root binop.Shl ty to left right
binary_plain list root before binop.Shr ty to left right = shifted_plain (number_left before right) list root binop.Shr ty to left right
binary_plain list root before binop.Mul ty to left right = helped_plain (int_helper binop.Mul false ty) list root to left right (bytes_of ty) (bytes_of ty)
binary_plain list root before binop.Div ty to left right = helped_plain (int_helper binop.Div false ty) list root to left right (bytes_of ty) (bytes_of ty)
binary_plain list root before binop.Rem ty to left right = helped_plain (int_helper binop.Rem false ty) list root to left right (bytes_of ty) (bytes_of ty)

pub wide_plain : (list : List FnCopy) (root : Root) (before : List Tree) (t : Tree) → is_given t ≡ true → Plain (wide_code list root before t)
wide_plain list root before (trees.Address to place) given = address_plain to place given
wide_plain list root before (trees.Load to pointer count) given = load_plain to pointer count
wide_plain list root before (trees.Store pointer from count) given = store_all_plain pointer from count
wide_plain list root before (trees.Unary op ty at) given = unary_plain op ty at
wide_plain list root before (trees.Binary op ty to left right) given = binary_plain list root before op ty to left right
wide_plain list root before (trees.Convert from to at) given = widening_plain from to at
wide_plain list root before (trees.Set to value) given = refl
wide_plain list root before (trees.Copy to from) given = refl
wide_plain list root before (trees.BitRead to register bit) given = refl
wide_plain list root before (trees.BitWrite register bit from) given = refl
wide_plain list root before (trees.Call copy) given = refl
wide_plain list root before trees.Leave given = refl
wide_plain list root before (trees.Many parts) given = refl
wide_plain list root before (trees.If test size holds fails) given = refl
wide_plain list root before (trees.Loop body) given = refl
wide_plain list root before (trees.Exit count) given = refl
wide_plain list root before (trees.Again count) given = refl

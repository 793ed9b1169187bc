-- The code of operations that are neither byte-sized nor control has no label.
use Rattle.std.proofs.Common.{◌≡◌, ℕ, zero, suc, ◌-◌, ◌/◌, ◌%◌, Bool, true, false, if◌then◌else◌, nat_eq, List, [], ◌++◌, Option, Some, None, refl}
use Rattle.std.specs.Prelude.{ltb}
use Rattle.pic_world.specs.declared.Root.{Root}
use Rattle.c_ints.specs.Range.{bytes_of}
use Rattle.c_ints.specs.declared.operators.BinOp.{BinOp}
use Rattle.c_ints.specs.declared.operators.BinOp.TheVariants as binop
use Rattle.c_ints.specs.declared.operators.UnOp.TheVariants as unop
use Rattle.c_ints.specs.declared.types.IntTy.{IntTy}
use Rattle.c_typed.specs.Calls.{int_helper}
use Rattle.c_typed.specs.declared.calls.Helper.{Helper}
use Rattle.call_graph.specs.Numbers.{copy_of}
use Rattle.call_graph.specs.declared.types.FnCopy.{FnCopy}
use Rattle.core_code.specs.Bytes.{same_byte}
use Rattle.core_code.specs.Operands.{number_left}
use Rattle.core_code.specs.Tree as tree
use Rattle.core_code.specs.Tree.{Tree}
use Rattle.core_code.specs.declared.code.Byte.{Byte}
use Rattle.core_code.specs.declared.code.Byte.TheVariants.{Frame, Result}
use Rattle.sym_code.specs.declared.code.FileOperation.{FileOperation}
use Rattle.sym_code.specs.declared.code.Into.{Into}
use Rattle.sym_code.specs.declared.code.Into.TheVariants.{W, File}
use Rattle.sym_code.specs.declared.code.Sym.{Sym}
use Rattle.sym_code.specs.declared.code.BitOperation.TheVariants.{Bcf, Btfsc, Btfss}
use Rattle.sym_code.specs.declared.code.FileOperation.TheVariants.{Andwf, Comf, Incf, Iorwf, Movf, Rlf, Rrf, Xorwf}
use Rattle.sym_code.specs.declared.code.Register.TheVariants.{Fsr, Indf}
use Rattle.select_code.specs.declared.pieces.Flag.TheVariants.{Carry, Zero}
use Rattle.select_code.specs.Pieces.{byte_behind, file_code, flag_code, store_code, copy_code, set_code, test_code}
use Rattle.select_wide.specs.Pieces.{rising, register_code, register_store_code, pair_code, nonzero_code, choice_code, truth_code, sign_code}
use Rattle.select_wide.specs.Sums.{chain_operation, further_code, link_code, apart_code, chain_byte_code, chain_code, bits_byte_code, bits_at_code, bits_code}
use Rattle.select_wide.specs.Comparisons.{difference_bits_code, differences_code, equality_code, turn_code, signs_code, links_code, order_code}
use Rattle.select_wide.specs.Single.{is_signed, complement_code, increment_byte_code, increment_code, bang_code, unary_code, widening_code}
use Rattle.select_wide.specs.Pointers.{pointer_code, advance_code, load_byte_code, store_byte_code}
use Rattle.select_wide.specs.Moves.{copies_code, stores_code, clears_code}
use Rattle.select_wide.specs.Shifts.{raised_code, bytes_up_code, bytes_down_code, bytes_way_code, bytes_code, bit_up_code, bit_down_code, bit_shift_code, bit_shifts_code, in_place_code, moved_code, shift_code}
use Rattle.select_wide.specs.Calls.{enter_code, copy_call_code, any_call_code, helped_code}
use Rattle.select_wide.specs.Selection.{way_of, shifted_code, binary_code, wide_code}
use Rattle.select_wide.specs.declared.operands.Chain.{Chain}
use Rattle.select_wide.specs.declared.operands.Chain.TheVariants.{Sum, Difference}
use Rattle.select_wide.specs.declared.operands.Way.{Way}
use Rattle.select_wide.specs.declared.operands.Way.TheVariants.{Left, Right, SignedRight}
use Rattle.select_trace.proofs.Labels.{unlabelled, free_append}
use Rattle.select_trace.proofs.Bounding.{set_free, test_free}

free_if : (b : Bool) (x y : List Sym) → unlabelled x ≡ true → unlabelled y ≡ true → unlabelled (if b then x else y) ≡ true
free_if true x y e f = e
free_if false x y e f = f

rising_free : (code : ℕ → List Sym) (n : ℕ) → ((k : ℕ) → unlabelled (code k) ≡ true) → unlabelled (rising code n) ≡ true
rising_free code zero f = refl
rising_free code (suc n) f = free_append (rising code n) (code n) (rising_free code n f) (f n)

copies_free : (to from : Byte) (n : ℕ) → unlabelled (copies_code to from n) ≡ true
copies_free to from n = rising_free (λ k. copy_code (byte_behind to k) (byte_behind from k)) n (λ k. refl)

stores_free : (to : Byte) (n : ℕ) → unlabelled (stores_code to n) ≡ true
stores_free to n = rising_free (λ k. store_code (byte_behind to k)) n (λ k. refl)

clears_free : (to : Byte) (n : ℕ) → unlabelled (clears_code to n) ≡ true
clears_free to n = rising_free (λ k. set_code (byte_behind to k) 0) n (λ k. set_free (byte_behind to k) 0)

truth_free : (to : Byte) → unlabelled (truth_code to) ≡ true
truth_free to = set_free (byte_behind to 1) 0

advance_free : (k : ℕ) → unlabelled (advance_code k) ≡ true
advance_free k = free_if (nat_eq k 0) [] (register_code Incf Fsr File) refl refl

-- ---- chains
further_free : (c : Chain) (x y : Byte) (into : Into) → unlabelled (further_code c x y into) ≡ true
further_free c x y into = refl

link_free : (c : Chain) (x y : Byte) (into : Into) (k : ℕ) → unlabelled (link_code c x y into k) ≡ true
link_free c x y into k = free_if (nat_eq k 0) (pair_code (chain_operation c) x y into) (further_code c (byte_behind x k) (byte_behind y k) into) refl refl

apart_free : (c : Chain) (to x y : Byte) (k : ℕ) → unlabelled (apart_code c to x y k) ≡ true
apart_free c to x y k = free_if (nat_eq k 0) (pair_code (chain_operation c) x y W ++ store_code to) (copy_code (byte_behind to k) (byte_behind x k) ++ further_code c (byte_behind to k) (byte_behind y k) File) refl refl

chain_free : (c : Chain) (to x y : Byte) (n : ℕ) → unlabelled (chain_code c to x y n) ≡ true
chain_free c to x y n = rising_free (chain_byte_code c to x y) n (λ k. free_if (same_byte to x) (link_code c x y File k) (apart_code c to x y k) (link_free c x y File k) (apart_free c to x y k))

bits_byte_free : (op : FileOperation) (to x y : Byte) → unlabelled (bits_byte_code op to x y) ≡ true
bits_byte_free op to x y = free_if (same_byte to x) (pair_code op x y File) (pair_code op x y W ++ store_code to) refl refl

bits_free : (op : FileOperation) (to x y : Byte) (n : ℕ) → unlabelled (bits_code op to x y n) ≡ true
bits_free op to x y n = rising_free (bits_at_code op to x y) n (λ k. bits_byte_free op (byte_behind to k) (byte_behind x k) (byte_behind y k))

-- ---- comparisons
difference_free : (to x y : Byte) (k : ℕ) → unlabelled (difference_bits_code to x y k) ≡ true
difference_free to x y k = free_append (pair_code Xorwf (byte_behind x k) (byte_behind y k) W) (if nat_eq k 0 then store_code to else file_code Iorwf to File) refl (free_if (nat_eq k 0) (store_code to) (file_code Iorwf to File) refl refl)

equality_free : (usual : ℕ) (to x y : Byte) (n : ℕ) → unlabelled (equality_code usual to x y n) ≡ true
equality_free usual to x y n =
    free_append (differences_code to x y n ++ choice_code usual Btfsc Zero (1 - usual)) (truth_code to)
    (free_append (differences_code to x y n) (choice_code usual Btfsc Zero (1 - usual)) (rising_free (difference_bits_code to x y) n (difference_free to x y)) refl) (truth_free to)

signs_free : (signed : Bool) (x y : Byte) → unlabelled (signs_code signed x y) ≡ true
signs_free signed x y = free_if signed (turn_code x ++ turn_code y) [] refl refl

order_free : (signed : Bool) (usual : ℕ) (to x y : Byte) (n : ℕ) → unlabelled (order_code signed usual to x y n) ≡ true
order_free signed usual to x y n =
    let a = links_code x y n in
    let b = choice_code usual Btfss Carry (1 - usual) in
    let c = signs_code signed (byte_behind x (n - 1)) (byte_behind y (n - 1)) in
    free_append (a ++ b ++ c) (truth_code to)
    (free_append (a ++ b) c (free_append a b (rising_free (link_code Difference x y W) n (λ k. link_free Difference x y W k)) refl) (signs_free signed (byte_behind x (n - 1)) (byte_behind y (n - 1))))
    (truth_free to)

-- ---- single values
complement_free : (at : Byte) (n : ℕ) → unlabelled (complement_code at n) ≡ true
complement_free at n = rising_free (λ k. file_code Comf (byte_behind at k) File) n (λ k. refl)

increment_free : (at : Byte) (n : ℕ) → unlabelled (increment_code at n) ≡ true
increment_free at n = rising_free (increment_byte_code at) n (λ k. free_append (if nat_eq k 0 then [] else flag_code Btfsc Zero) (file_code Incf (byte_behind at k) File) (free_if (nat_eq k 0) [] (flag_code Btfsc Zero) refl refl) refl)

bang_free : (at : Byte) (n : ℕ) → unlabelled (bang_code at n) ≡ true
bang_free at n =
    free_append (test_code at n ++ nonzero_code ++ choice_code 0 Btfss Carry 1) (truth_code at)
    (free_append (test_code at n ++ nonzero_code) (choice_code 0 Btfss Carry 1) (free_append (test_code at n) nonzero_code (test_free at n) refl) refl) (truth_free at)

unary_free : (op : _) (ty : IntTy) (at : Byte) → unlabelled (unary_code op ty at) ≡ true
unary_free unop.Plus ty at = refl
unary_free unop.Minus ty at = free_append (complement_code at (bytes_of ty)) (increment_code at (bytes_of ty)) (complement_free at (bytes_of ty)) (increment_free at (bytes_of ty))
unary_free unop.Not ty at = complement_free at (bytes_of ty)
unary_free unop.Bang ty at = bang_free at (bytes_of ty)

widening_free : (from to : IntTy) (at : Byte) → unlabelled (widening_code from to at) ≡ true
widening_free from to at =
    let x = byte_behind at (bytes_of from) in
    let n = bytes_of to - bytes_of from in
    free_if (is_signed from) (sign_code (byte_behind at (bytes_of from - 1)) ++ stores_code x n) (clears_code x n) (free_append (sign_code (byte_behind at (bytes_of from - 1))) (stores_code x n) refl (stores_free x n)) (clears_free x n)

-- ---- shifts
up_free : (at : Byte) (w n : ℕ) → unlabelled (bytes_up_code at w n) ≡ true
up_free at w n = free_append (raised_code at w n) (clears_code at n) (rising_free (λ k. copy_code (byte_behind at (w - 1 - k)) (byte_behind at (w - 1 - k - n))) (w - n) (λ k. refl)) (clears_free at n)

down_free : (signed : Bool) (at : Byte) (w n : ℕ) → unlabelled (bytes_down_code signed at w n) ≡ true
down_free signed at w n =
    let x = byte_behind at (w - n) in
    free_append (copies_code at (byte_behind at n) (w - n)) (if signed then sign_code (byte_behind at (w - n - 1)) ++ stores_code x n else clears_code x n) (copies_free at (byte_behind at n) (w - n))
    (free_if signed (sign_code (byte_behind at (w - n - 1)) ++ stores_code x n) (clears_code x n) (free_append (sign_code (byte_behind at (w - n - 1))) (stores_code x n) refl (stores_free x n)) (clears_free x n))

way_free : (way : Way) (at : Byte) (w n : ℕ) → unlabelled (bytes_way_code way at w n) ≡ true
way_free Left at w n = up_free at w n
way_free Right at w n = down_free false at w n
way_free SignedRight at w n = down_free true at w n

shift_bit_free : (way : Way) (at : Byte) (w n : ℕ) → unlabelled (bit_shift_code way at w n) ≡ true
shift_bit_free Left at w n = free_append (flag_code Bcf Carry) (bit_up_code (byte_behind at n) (w - n)) refl (rising_free (λ k. file_code Rlf (byte_behind (byte_behind at n) k) File) (w - n) (λ k. refl))
shift_bit_free Right at w n = free_append (flag_code Bcf Carry) (bit_down_code at (w - n)) refl (rising_free (λ k. file_code Rrf (byte_behind at (w - n - 1 - k)) File) (w - n) (λ k. refl))
shift_bit_free SignedRight at w n = free_append (file_code Rlf (byte_behind at (w - n - 1)) W) (bit_down_code at (w - n)) refl (rising_free (λ k. file_code Rrf (byte_behind at (w - n - 1 - k)) File) (w - n) (λ k. refl))

in_place_free : (way : Way) (at : Byte) (w n : ℕ) → unlabelled (in_place_code way at w n) ≡ true
in_place_free way at w n =
    free_append (bytes_code way at w (n / 8)) (bit_shifts_code way at w (n / 8) (n % 8))
    (free_if (nat_eq (n / 8) 0) [] (bytes_way_code way at w (n / 8)) refl (way_free way at w (n / 8)))
    (rising_free (λ k. bit_shift_code way at w (n / 8)) (n % 8) (λ k. shift_bit_free way at w (n / 8)))

shift_free : (way : Way) (to x : Byte) (w n : ℕ) → unlabelled (shift_code way to x w n) ≡ true
shift_free way to x w n =
    free_append (moved_code to x w) (if ltb (n / 8) w then in_place_code way to w n else []) (free_if (same_byte to x) [] (copies_code to x w) refl (copies_free to x w)) (free_if (ltb (n / 8) w) (in_place_code way to w n) [] (in_place_free way to w n) refl)

-- ---- helpers
call_free : (o : Option ℕ) (root : Root) (to x y : Byte) (w n : ℕ) → unlabelled (copy_call_code o root to x y w n) ≡ true
call_free None root to x y w n = refl
call_free (Some c) root to x y w n =
    let a = copies_code (Frame c 0) x w in
    let b = copies_code (byte_behind (Frame c 0) w) y n in
    let d = copies_code to (Result root 0) w in
    free_append (a ++ b ++ enter_code c) d (free_append (a ++ b) (enter_code c) (free_append a b (copies_free (Frame c 0) x w) (copies_free (byte_behind (Frame c 0) w) y n)) refl) (copies_free to (Result root 0) w)

any_free : (h : Option Helper) (list : List FnCopy) (root : Root) (to x y : Byte) (w n : ℕ) → unlabelled (any_call_code h list root to x y w n) ≡ true
any_free None list root to x y w n = refl
any_free (Some h) list root to x y w n = call_free (copy_of list root h) root to x y w n

helped_free : (list : List FnCopy) (root : Root) (op : BinOp) (ty : IntTy) (to x y : Byte) (w n : ℕ) → unlabelled (helped_code list root op ty to x y w n) ≡ true
helped_free list root op ty to x y w n = any_free (int_helper op false ty) list root to x y w n

shifted_free : (o : Option ℕ) (list : List FnCopy) (root : Root) (op : BinOp) (ty : IntTy) (to x y : Byte) → unlabelled (shifted_code o list root op ty to x y) ≡ true
shifted_free None list root op ty to x y = helped_free list root op ty to x y (bytes_of ty) 1
shifted_free (Some n) list root op ty to x y = shift_free (way_of op (is_signed ty)) to x (bytes_of ty) n

binary_free : (list : List FnCopy) (root : Root) (before : List Tree) (op : BinOp) (ty : IntTy) (to x y : Byte) → unlabelled (binary_code list root before op ty to x y) ≡ true
binary_free list root before binop.Add ty to x y = free_if (same_byte to y) (chain_code Sum to y x (bytes_of ty)) (chain_code Sum to x y (bytes_of ty)) (chain_free Sum to y x (bytes_of ty)) (chain_free Sum to x y (bytes_of ty))
binary_free list root before binop.Sub ty to x y = chain_free Difference to x y (bytes_of ty)
binary_free list root before binop.And ty to x y = bits_free Andwf to x y (bytes_of ty)
binary_free list root before binop.Xor ty to x y = bits_free Xorwf to x y (bytes_of ty)
binary_free list root before binop.Or ty to x y = bits_free Iorwf to x y (bytes_of ty)
binary_free list root before binop.Eq ty to x y = equality_free 0 to x y (bytes_of ty)
binary_free list root before binop.Ne ty to x y = equality_free 1 to x y (bytes_of ty)
binary_free list root before binop.Lt ty to x y = order_free (is_signed ty) 0 to x y (bytes_of ty)
binary_free list root before binop.Ge ty to x y = order_free (is_signed ty) 1 to x y (bytes_of ty)
binary_free list root before binop.Gt ty to x y = order_free (is_signed ty) 0 to y x (bytes_of ty)
binary_free list root before binop.Le ty to x y = order_free (is_signed ty) 1 to y x (bytes_of ty)
binary_free list root before binop.Shl ty to x y = shifted_free (number_left before y) list root binop.Shl ty to x y
binary_free list root before binop.Shr ty to x y = shifted_free (number_left before y) list root binop.Shr ty to x y
binary_free list root before binop.Mul ty to x y = helped_free list root binop.Mul ty to x y (bytes_of ty) (bytes_of ty)
binary_free list root before binop.Div ty to x y = helped_free list root binop.Div ty to x y (bytes_of ty) (bytes_of ty)
binary_free list root before binop.Rem ty to x y = helped_free list root binop.Rem ty to x y (bytes_of ty) (bytes_of ty)

pub wide_free : (list : List FnCopy) (root : Root) (before : List Tree) (t : Tree) → unlabelled (wide_code list root before t) ≡ true
wide_free list root before (tree.Address to place) = refl
wide_free list root before (tree.Load to p n) = free_append (pointer_code p) (rising (load_byte_code to) n) refl (rising_free (load_byte_code to) n (λ k. free_append (advance_code k ++ register_code Movf Indf W) (store_code (byte_behind to k)) (free_append (advance_code k) (register_code Movf Indf W) (advance_free k) refl) refl))
wide_free list root before (tree.Store p from n) = free_append (pointer_code p) (rising (store_byte_code from) n) refl (rising_free (store_byte_code from) n (λ k. free_append (advance_code k ++ file_code Movf (byte_behind from k) W) (register_store_code Indf) (free_append (advance_code k) (file_code Movf (byte_behind from k) W) (advance_free k) refl) refl))
wide_free list root before (tree.Unary op ty at) = unary_free op ty at
wide_free list root before (tree.Binary op ty to x y) = binary_free list root before op ty to x y
wide_free list root before (tree.Convert from to at) = widening_free from to at
wide_free list root before (tree.Set a b) = refl
wide_free list root before (tree.Copy a b) = refl
wide_free list root before (tree.BitRead a b c) = refl
wide_free list root before (tree.BitWrite a b c) = refl
wide_free list root before (tree.Call a) = refl
wide_free list root before tree.Leave = refl
wide_free list root before (tree.Many a) = refl
wide_free list root before (tree.If a b c d) = refl
wide_free list root before (tree.Loop a) = refl
wide_free list root before (tree.Exit a) = refl
wide_free list root before (tree.Again a) = refl

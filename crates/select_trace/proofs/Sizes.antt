-- Lengths of the code of operators, and that its last instruction is no skip.
use Rattle.std.proofs.Common.{◌≡◌, ℕ, zero, suc, ◌+◌, ◌-◌, ◌*◌, ◌/◌, ◌%◌, ◌<◌, ◌≤◌, Bool, true, false, List, [], ◌∷◌, ◌++◌, append-nil, length, refl, ap, sym, ◌∙◌, subst, arith}
use Rattle.std.specs.Prelude.{not, cond, ◌&&◌, nat_eq, ltb, if◌then◌else◌}
use Rattle.std.proofs.lemmas.List.{length-append}
use Rattle.core_code.specs.Bytes.{same_byte}
use Rattle.core_code.specs.declared.code.Byte.{Byte}
use Rattle.math_helpers.specs.Shape.{is_skip, is_straight}
use Rattle.select_code.specs.Pieces as pieces
use Rattle.select_code.specs.Pieces.{byte_behind, is_clearable}
use Rattle.select_code.specs.declared.pieces.Flag.TheVariants.{Carry, Zero}
use Rattle.select_wide.specs.Comparisons as comparisons
use Rattle.select_wide.specs.Moves as moves
use Rattle.select_wide.specs.Pieces as wide
use Rattle.select_wide.specs.Shifts as shifts
use Rattle.select_wide.specs.Single as single
use Rattle.select_wide.specs.Sums as sums
use Rattle.select_wide.specs.declared.operands.Chain.{Chain}
use Rattle.select_wide.specs.declared.operands.Chain.TheVariants.{Sum, Difference}
use Rattle.select_wide.specs.declared.operands.Way.{Way}
use Rattle.select_wide.specs.declared.operands.Way.TheVariants.{Left, Right, SignedRight}
use Rattle.sym_code.specs.declared.code.BitOperation.TheVariants.{Bcf, Btfsc, Btfss}
use Rattle.sym_code.specs.declared.code.FileOperation.{FileOperation}
use Rattle.sym_code.specs.declared.code.FileOperation.TheVariants.{Andwf, Iorwf, Xorwf, Comf, Incf, Rlf, Rrf}
use Rattle.sym_code.specs.declared.code.Into.{Into}
use Rattle.sym_code.specs.declared.code.Into.TheVariants.{W, File}
use Rattle.sym_code.specs.declared.code.Operand.TheVariants as operands
use Rattle.sym_code.specs.declared.code.Sym.{Sym}
use Rattle.sym_code.specs.declared.code.Sym.TheVariants as syms
use Rattle.select_trace.specs.Silent.{IsStraight, AreStraight}
use Rattle.select_trace.proofs.Links.{nonzero}

-- the last instruction is no skip
abbrev pub ends_well : List Sym → Bool
ends_well [] = true
ends_well (x ∷ []) = not (is_skip x)
ends_well (x ∷ y ∷ rest) = ends_well (y ∷ rest)

straight_one : (P : Byte → Type 0) (x : Sym) → IsStraight P x → (is_straight (x ∷ []) ≡ not (is_skip x)) × ((y : Sym) (rest : List Sym) → is_straight (x ∷ y ∷ rest) ≡ is_straight (y ∷ rest))
straight_one P (syms.Label l) h = absurd h
straight_one P (syms.File op file into) h = (refl, λ y rest. refl)
straight_one P (syms.Movwf file) h = (refl, λ y rest. refl)
straight_one P (syms.Clrf file) h = (refl, λ y rest. refl)
straight_one P (syms.Bit op file n) h = (refl, λ y rest. refl)
straight_one P (syms.Literal op value) h = (refl, λ y rest. refl)
straight_one P (syms.Plain op) h = (refl, λ y rest. refl)
straight_one P (syms.Call target) h = (refl, λ y rest. refl)
straight_one P (syms.Goto target) h = (refl, λ y rest. refl)
straight_one P (syms.SelectBank which to) h = (refl, λ y rest. refl)
straight_one P (syms.SelectPage which target) h = (refl, λ y rest. refl)
straight_one P (syms.Table table root) h = absurd h

pub straight_of : (P : Byte → Type 0) (xs : List Sym) → AreStraight P xs → ends_well xs ≡ true → is_straight xs ≡ true
straight_of P [] all e = refl
straight_of P (x ∷ []) all e = (straight_one P x all.0).0 ∙ e
straight_of P (x ∷ y ∷ rest) all e = (straight_one P x all.0).1 y rest ∙ straight_of P (y ∷ rest) all.1 e

-- it is no longer than that
pub record Fits (xs : List Sym) (n : ℕ) : Type 0 where
  pub ends : ends_well xs ≡ true
  pub some : 0 < length xs
  pub most : length xs ≤ n

ends_append : (xs : List Sym) (y : Sym) (ys : List Sym) → ends_well (xs ++ (y ∷ ys)) ≡ ends_well (y ∷ ys)
ends_append [] y ys = refl
ends_append (x ∷ []) y ys = refl
ends_append (x ∷ z ∷ xs) y ys = ends_append (z ∷ xs) y ys

joined : (xs ys : List Sym) (n m : ℕ) → length xs ≤ n → Fits ys m → Fits (xs ++ ys) (n + m)
joined xs [] n m le h = absurd (let s : 0 < 0 = h.some in omega arith)
joined xs (y ∷ ys) n m le h = record {
  ends = ends_append xs y ys ∙ h.ends;
  some = let e : length (xs ++ (y ∷ ys)) ≡ length xs + suc (length ys) = length-append xs (y ∷ ys) in omega arith;
  most = let e : length (xs ++ (y ∷ ys)) ≡ length xs + suc (length ys) = length-append xs (y ∷ ys) in let s : suc (length ys) ≤ m = h.most in omega arith;
}

both_most : (xs ys : List Sym) (n m : ℕ) → length xs ≤ n → length ys ≤ m → length (xs ++ ys) ≤ n + m
both_most xs ys n m a b = let e : length (xs ++ ys) ≡ length xs + length ys = length-append xs ys in omega arith

rising_most : (F : ℕ → List Sym) (c n : ℕ) → ((k : ℕ) → length (F k) ≤ c) → length (wide.rising F n) ≤ n * c
rising_most F c zero h = omega arith
rising_most F c (suc n) h = let a : length (wide.rising F n) ≤ n * c = rising_most F c n h in let b : length (F n) ≤ c = h n in let e : length (wide.rising F n ++ F n) ≡ length (wide.rising F n) + length (F n) = length-append (wide.rising F n) (F n) in omega arith

rising_fits : (F : ℕ → List Sym) (c n : ℕ) → 0 < n → ((k : ℕ) → Fits (F k) c) → Fits (wide.rising F n) (n * c)
rising_fits F c zero lt h = absurd (omega arith)
rising_fits F c (suc n) lt h =
    let f : Fits (wide.rising F n ++ F n) (n * c + c) = joined (wide.rising F n) (F n) (n * c) c (rising_most F c n (λ k. (h k).most)) (h n) in
    record { ends = f.ends; some = f.some; most = let m : length (wide.rising F n ++ F n) ≤ n * c + c = f.most in omega arith }

either : (b : Bool) (xs ys : List Sym) (n : ℕ) → Fits xs n → Fits ys n → Fits (if b then xs else ys) n
either true xs ys n f g = f
either false xs ys n f g = g

either_most : (b : Bool) (xs ys : List Sym) (n : ℕ) → length xs ≤ n → length ys ≤ n → length (if b then xs else ys) ≤ n
either_most true xs ys n f g = f
either_most false xs ys n f g = g

more : (xs : List Sym) (n m : ℕ) → n ≤ m → Fits xs n → Fits xs m
more xs n m le f = record { ends = f.ends; some = f.some; most = let a : length xs ≤ n = f.most in omega arith }

-- ---- sums, differences, bit operations
link : (chain : Chain) (left right : Byte) (into : Into) (k : ℕ) → Fits (sums.link_code chain left right into k) 6
link Sum left right into k = either (nat_eq k 0) _ _ 6 (record { ends = refl; some = omega arith; most = omega arith }) (record { ends = refl; some = omega arith; most = omega arith })
link Difference left right into k = either (nat_eq k 0) _ _ 6 (record { ends = refl; some = omega arith; most = omega arith }) (record { ends = refl; some = omega arith; most = omega arith })

apart : (chain : Chain) (to left right : Byte) (k : ℕ) → Fits (sums.apart_code chain to left right k) 6
apart Sum to left right k = either (nat_eq k 0) _ _ 6 (record { ends = refl; some = omega arith; most = omega arith }) (record { ends = refl; some = omega arith; most = omega arith })
apart Difference to left right k = either (nat_eq k 0) _ _ 6 (record { ends = refl; some = omega arith; most = omega arith }) (record { ends = refl; some = omega arith; most = omega arith })

pub chain_fits : (chain : Chain) (to left right : Byte) (w : ℕ) → 0 < w → Fits (sums.chain_code chain to left right w) (w * 6)
chain_fits chain to left right w lt = rising_fits (sums.chain_byte_code chain to left right) 6 w lt (λ k. either (same_byte to left) _ _ 6 (link chain left right File k) (apart chain to left right k))

pub sum_fits : (to left right : Byte) (w : ℕ) → 0 < w → Fits (sums.sum_code to left right w) (w * 6)
sum_fits to left right w lt = either (same_byte to right) _ _ (w * 6) (chain_fits Sum to right left w lt) (chain_fits Sum to left right w lt)

bits_at : (op : FileOperation) (b : Bool) (to left right : Byte) → not (is_skip (syms.File op (operands.Byte left) File)) ≡ true → Fits (if b then wide.pair_code op left right File else wide.pair_code op left right W ++ pieces.store_code to) 3
bits_at op true to left right e = record { ends = e; some = omega arith; most = omega arith }
bits_at op false to left right e = record { ends = refl; some = omega arith; most = omega arith }

pub and_fits : (to left right : Byte) (w : ℕ) → 0 < w → Fits (sums.bits_code Andwf to left right w) (w * 3)
and_fits to left right w lt = rising_fits (sums.bits_at_code Andwf to left right) 3 w lt (λ k. bits_at Andwf (same_byte (byte_behind to k) (byte_behind left k)) (byte_behind to k) (byte_behind left k) (byte_behind right k) refl)

pub or_fits : (to left right : Byte) (w : ℕ) → 0 < w → Fits (sums.bits_code Iorwf to left right w) (w * 3)
or_fits to left right w lt = rising_fits (sums.bits_at_code Iorwf to left right) 3 w lt (λ k. bits_at Iorwf (same_byte (byte_behind to k) (byte_behind left k)) (byte_behind to k) (byte_behind left k) (byte_behind right k) refl)

pub xor_fits : (to left right : Byte) (w : ℕ) → 0 < w → Fits (sums.bits_code Xorwf to left right w) (w * 3)
xor_fits to left right w lt = rising_fits (sums.bits_at_code Xorwf to left right) 3 w lt (λ k. bits_at Xorwf (same_byte (byte_behind to k) (byte_behind left k)) (byte_behind to k) (byte_behind left k) (byte_behind right k) refl)

-- ---- comparisons
set_fits : (to : Byte) (value : ℕ) → Fits (pieces.set_code to value) 2
set_fits to value = by (nat_eq value 0 && is_clearable to)
  where
    by : (b : Bool) → Fits (cond b (pieces.clear_code to) (pieces.number_code value ++ pieces.store_code to)) 2
    by true = record { ends = refl; some = omega arith; most = omega arith }
    by false = record { ends = refl; some = omega arith; most = omega arith }

truth_fits : (to : Byte) → Fits (wide.truth_code to) 3
truth_fits to = joined (pieces.store_code to) (pieces.set_code (byte_behind to 1) 0) 1 2 (omega arith) (set_fits (byte_behind to 1) 0)

pub equality_fits : (usual : ℕ) (to left right : Byte) (w : ℕ) → Fits (comparisons.equality_code usual to left right w) (w * 3 + 6)
equality_fits usual to left right w =
    more _ (w * 3 + 3 + 3) (w * 3 + 6) (omega arith)
    (joined (comparisons.differences_code to left right w ++ wide.choice_code usual Btfsc Zero (1 - usual)) (wide.truth_code to) (w * 3 + 3) 3
    (both_most (comparisons.differences_code to left right w) (wide.choice_code usual Btfsc Zero (1 - usual)) (w * 3) 3 (rising_most (comparisons.difference_bits_code to left right) 3 w (λ k. both_most (wide.pair_code Xorwf (byte_behind left k) (byte_behind right k) W) _ 2 1 (omega arith) (either_most (nat_eq k 0) _ _ 1 (omega arith) (omega arith)))) (omega arith))
    (truth_fits to))

pub order_fits : (signed : Bool) (usual : ℕ) (to left right : Byte) (w : ℕ) → Fits (comparisons.order_code signed usual to left right w) (w * 6 + 10)
order_fits signed usual to left right w =
    more _ (w * 6 + 3 + 4 + 3) (w * 6 + 10) (omega arith)
    (joined (comparisons.links_code left right w ++ wide.choice_code usual Btfss Carry (1 - usual) ++ comparisons.signs_code signed (byte_behind left (w - 1)) (byte_behind right (w - 1))) (wide.truth_code to) (w * 6 + 3 + 4) 3
    (both_most (comparisons.links_code left right w ++ wide.choice_code usual Btfss Carry (1 - usual)) (comparisons.signs_code signed (byte_behind left (w - 1)) (byte_behind right (w - 1))) (w * 6 + 3) 4
    (both_most (comparisons.links_code left right w) (wide.choice_code usual Btfss Carry (1 - usual)) (w * 6) 3 (rising_most (sums.link_code Difference left right W) 6 w (λ k. (link Difference left right W k).most)) (omega arith))
    (either_most signed _ _ 4 (omega arith) (omega arith)))
    (truth_fits to))

-- ---- one value
pub complement_fits : (at : Byte) (w : ℕ) → 0 < w → Fits (single.complement_code at w) (w * 1)
complement_fits at w lt = rising_fits (λ k. pieces.file_code Comf (byte_behind at k) File) 1 w lt (λ k. record { ends = refl; some = omega arith; most = omega arith })

increment_byte : (at : Byte) (k : ℕ) → Fits (single.increment_byte_code at k) 2
increment_byte at k = joined (if nat_eq k 0 then [] else pieces.flag_code Btfsc Zero) (pieces.file_code Incf (byte_behind at k) File) 1 1 (either_most (nat_eq k 0) _ _ 1 (omega arith) (omega arith)) (record { ends = refl; some = omega arith; most = omega arith })

pub minus_fits : (at : Byte) (w : ℕ) → 0 < w → Fits (single.complement_code at w ++ single.increment_code at w) (w * 1 + w * 2)
minus_fits at w lt = joined (single.complement_code at w) (single.increment_code at w) (w * 1) (w * 2) (complement_fits at w lt).most (rising_fits (single.increment_byte_code at) 2 w lt (increment_byte at))

ors_most : (at : Byte) (n : ℕ) → length (pieces.ors_code at n) ≤ n
ors_most at zero = omega arith
ors_most at (suc n) = let h : length (pieces.ors_code at n) ≤ n = ors_most at n in let f : length (pieces.ors_code at n ++ pieces.file_code Iorwf (byte_behind at (suc n)) W) ≡ length (pieces.ors_code at n) + 1 = length-append (pieces.ors_code at n) (pieces.file_code Iorwf (byte_behind at (suc n)) W) in omega arith

test_most : (at : Byte) (w : ℕ) → length (pieces.test_code at w) ≤ w + 1
test_most at zero = omega arith
test_most at (suc n) = let h : length (pieces.ors_code at n) ≤ n = ors_most at n in omega arith

pub bang_fits : (at : Byte) (w : ℕ) → Fits (single.bang_code at w) (w + 8)
bang_fits at w =
    more _ (w + 1 + 1 + 3 + 3) (w + 8) (omega arith)
    (joined (pieces.test_code at w ++ wide.nonzero_code ++ wide.choice_code 0 Btfss Carry 1) (wide.truth_code at) (w + 1 + 1 + 3) 3
    (both_most (pieces.test_code at w ++ wide.nonzero_code) (wide.choice_code 0 Btfss Carry 1) (w + 1 + 1) 3 (both_most (pieces.test_code at w) wide.nonzero_code (w + 1) 1 (test_most at w) (omega arith)) (omega arith)) (truth_fits at))

stores_fits : (to : Byte) (n : ℕ) → 0 < n → Fits (moves.stores_code to n) (n * 1)
stores_fits to n lt = rising_fits (λ k. pieces.store_code (byte_behind to k)) 1 n lt (λ k. record { ends = refl; some = omega arith; most = omega arith })

clears_fits : (to : Byte) (n : ℕ) → 0 < n → Fits (moves.clears_code to n) (n * 2)
clears_fits to n lt = rising_fits (λ k. pieces.set_code (byte_behind to k) 0) 2 n lt (λ k. set_fits (byte_behind to k) 0)

pub widening_fits : (signed : Bool) (top to : Byte) (n : ℕ) → 0 < n → Fits (if signed then wide.sign_code top ++ moves.stores_code to n else moves.clears_code to n) (3 + n * 2)
widening_fits true top to n lt = more _ (3 + n * 1) (3 + n * 2) (omega arith) (joined (wide.sign_code top) (moves.stores_code to n) 3 (n * 1) (omega arith) (stores_fits to n lt))
widening_fits false top to n lt = more _ (n * 2) (3 + n * 2) (omega arith) (clears_fits to n lt)

-- ---- shifts by constants, whose code may be none
pub record Short (xs : List Sym) (n : ℕ) : Type 0 where
  pub ends : ends_well xs ≡ true
  pub most : length xs ≤ n

short : (xs : List Sym) (n : ℕ) → Fits xs n → Short xs n
short xs n f = record { ends = f.ends; most = f.most }

ends_both : (xs ys : List Sym) → ends_well xs ≡ true → ends_well ys ≡ true → ends_well (xs ++ ys) ≡ true
ends_both xs [] a b = ap ends_well (append-nil xs) ∙ a
ends_both xs (y ∷ ys) a b = ends_append xs y ys ∙ b

both_short : (xs ys : List Sym) (n m : ℕ) → Short xs n → Short ys m → Short (xs ++ ys) (n + m)
both_short xs ys n m a b = record { ends = ends_both xs ys a.ends b.ends; most = both_most xs ys n m a.most b.most }

rising_short : (F : ℕ → List Sym) (c n : ℕ) → ((k : ℕ) → Short (F k) c) → Short (wide.rising F n) (n * c)
rising_short F c n h = record { ends = ends n; most = rising_most F c n (λ k. (h k).most) }
  where
    ends : (n : ℕ) → ends_well (wide.rising F n) ≡ true
    ends zero = refl
    ends (suc n) = ends_both (wide.rising F n) (F n) (ends n) (h n).ends

either_short : (b : Bool) (xs ys : List Sym) (n : ℕ) → Short xs n → Short ys n → Short (if b then xs else ys) n
either_short true xs ys n f g = f
either_short false xs ys n f g = g

no_code : (n : ℕ) → Short [] n
no_code n = record { ends = refl; most = omega arith }

pub copies_short : (to from : Byte) (n : ℕ) → Short (moves.copies_code to from n) (n * 2)
copies_short to from n = rising_short (λ k. pieces.copy_code (byte_behind to k) (byte_behind from k)) 2 n (λ k. record { ends = refl; most = omega arith })

set_short : (to : Byte) (value : ℕ) → Short (pieces.set_code to value) 2
set_short to value = short (pieces.set_code to value) 2 (set_fits to value)

bytes_up : (at : Byte) (w b : ℕ) → Short (shifts.bytes_up_code at w b) ((w - b) * 2 + b * 2)
bytes_up at w b =
    both_short (shifts.raised_code at w b) (moves.clears_code at b) ((w - b) * 2) (b * 2)
    (rising_short (λ k. pieces.copy_code (byte_behind at (w - 1 - k)) (byte_behind at (w - 1 - k - b))) 2 (w - b) (λ k. record { ends = refl; most = omega arith }))
    (rising_short (λ k. pieces.set_code (byte_behind at k) 0) 2 b (λ k. set_short (byte_behind at k) 0))

less : (xs : List Sym) (n m : ℕ) → n ≤ m → Short xs n → Short xs m
less xs n m le f = record { ends = f.ends; most = let a : length xs ≤ n = f.most in omega arith }

bytes_down : (signed : Bool) (at : Byte) (w b : ℕ) → Short (shifts.bytes_down_code signed at w b) ((w - b) * 2 + (3 + b * 2))
bytes_down signed at w b =
    both_short (moves.copies_code at (byte_behind at b) (w - b)) _ ((w - b) * 2) (3 + b * 2) (copies_short at (byte_behind at b) (w - b))
    (either_short signed (wide.sign_code (byte_behind at (w - b - 1)) ++ moves.stores_code (byte_behind at (w - b)) b) (moves.clears_code (byte_behind at (w - b)) b) (3 + b * 2)
    (less _ (3 + b * 1) (3 + b * 2) (omega arith) (both_short (wide.sign_code (byte_behind at (w - b - 1))) (moves.stores_code (byte_behind at (w - b)) b) 3 (b * 1) (record { ends = refl; most = omega arith })
    (rising_short (λ k. pieces.store_code (byte_behind (byte_behind at (w - b)) k)) 1 b (λ k. record { ends = refl; most = omega arith }))))
    (less _ (b * 2) (3 + b * 2) (omega arith) (rising_short (λ k. pieces.set_code (byte_behind (byte_behind at (w - b)) k) 0) 2 b (λ k. set_short (byte_behind (byte_behind at (w - b)) k) 0))))

bytes_way : (way : Way) (at : Byte) (w b : ℕ) → Short (shifts.bytes_way_code way at w b) ((w - b) * 2 + (3 + b * 2))
bytes_way Left at w b = less _ ((w - b) * 2 + b * 2) ((w - b) * 2 + (3 + b * 2)) (omega arith) (bytes_up at w b)
bytes_way Right at w b = bytes_down false at w b
bytes_way SignedRight at w b = bytes_down true at w b

bit_shift : (way : Way) (at : Byte) (w b : ℕ) → Short (shifts.bit_shift_code way at w b) (1 + (w - b) * 1)
bit_shift Left at w b = both_short (pieces.flag_code Bcf Carry) (shifts.bit_up_code (byte_behind at b) (w - b)) 1 ((w - b) * 1) (record { ends = refl; most = omega arith }) (rising_short (λ k. pieces.file_code Rlf (byte_behind (byte_behind at b) k) File) 1 (w - b) (λ k. record { ends = refl; most = omega arith }))
bit_shift Right at w b = both_short (pieces.flag_code Bcf Carry) (shifts.bit_down_code at (w - b)) 1 ((w - b) * 1) (record { ends = refl; most = omega arith }) (rising_short (λ k. pieces.file_code Rrf (byte_behind at (w - b - 1 - k)) File) 1 (w - b) (λ k. record { ends = refl; most = omega arith }))
bit_shift SignedRight at w b = both_short (pieces.file_code Rlf (byte_behind at (w - b - 1)) W) (shifts.bit_down_code at (w - b)) 1 ((w - b) * 1) (record { ends = refl; most = omega arith }) (rising_short (λ k. pieces.file_code Rrf (byte_behind at (w - b - 1 - k)) File) 1 (w - b) (λ k. record { ends = refl; most = omega arith }))

abbrev bytes_most : ℕ → ℕ → ℕ
bytes_most w zero = 0
bytes_most w (suc b) = (w - suc b) * 2 + (3 + suc b * 2)

bytes_short : (way : Way) (at : Byte) (w b : ℕ) → Short (shifts.bytes_code way at w b) (bytes_most w b)
bytes_short way at w zero = no_code 0
bytes_short way at w (suc b) = subst (λ (c : Bool). Short (if c then [] else shifts.bytes_way_code way at w (suc b)) (bytes_most w (suc b))) (sym (nonzero b)) (bytes_way way at w (suc b))

in_place_short : (way : Way) (at : Byte) (w count : ℕ) → Short (shifts.in_place_code way at w count) (bytes_most w (count / 8) + count % 8 * (1 + (w - count / 8) * 1))
in_place_short way at w count =
    both_short (shifts.bytes_code way at w (count / 8)) (shifts.bit_shifts_code way at w (count / 8) (count % 8)) (bytes_most w (count / 8)) (count % 8 * (1 + (w - count / 8) * 1)) (bytes_short way at w (count / 8))
    (rising_short (λ k. shifts.bit_shift_code way at w (count / 8)) (1 + (w - count / 8) * 1) (count % 8) (λ k. bit_shift way at w (count / 8)))

small_two : (b c : ℕ) → b < 2 → c < 8 → 2 * 2 + (bytes_most 2 b + c * (1 + (2 - b) * 1)) ≤ 34
small_two zero c lb lc = omega arith
small_two (suc zero) c lb lc = omega arith
small_two (suc (suc b)) c lb lc = absurd (omega arith)

small_four : (b c : ℕ) → b < 4 → c < 8 → 4 * 2 + (bytes_most 4 b + c * (1 + (4 - b) * 1)) ≤ 50
small_four zero c lb lc = omega arith
small_four (suc zero) c lb lc = omega arith
small_four (suc (suc zero)) c lb lc = omega arith
small_four (suc (suc (suc zero))) c lb lc = omega arith
small_four (suc (suc (suc (suc b)))) c lb lc = absurd (omega arith)

shift_parts : (way : Way) (to left : Byte) (w count : ℕ) → Short (shifts.shift_code way to left w count) (w * 2 + (bytes_most w (count / 8) + count % 8 * (1 + (w - count / 8) * 1)))
shift_parts way to left w count =
    both_short (shifts.moved_code to left w) _ (w * 2) (bytes_most w (count / 8) + count % 8 * (1 + (w - count / 8) * 1)) (either_short (same_byte to left) [] (moves.copies_code to left w) (w * 2) (no_code (w * 2)) (copies_short to left w))
    (either_short (ltb (count / 8) w) (shifts.in_place_code way to w count) [] _ (in_place_short way to w count) (no_code _))

pub shift_two : (way : Way) (to left : Byte) (count : ℕ) → count / 8 < 2 → Short (shifts.shift_code way to left 2 count) 34
shift_two way to left count lt = less _ _ 34 (small_two (count / 8) (count % 8) lt (omega arith)) (shift_parts way to left 2 count)

pub shift_four : (way : Way) (to left : Byte) (count : ℕ) → count / 8 < 4 → Short (shifts.shift_code way to left 4 count) 50
shift_four way to left count lt = less _ _ 50 (small_four (count / 8) (count % 8) lt (omega arith)) (shift_parts way to left 4 count)

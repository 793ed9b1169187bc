-- How many words the code of operators takes on bytes of the frame.
use Rattle.std.proofs.Common.{◌≡◌, ℕ, zero, suc, ◌+◌, ◌-◌, ◌*◌, ◌/◌, ◌%◌, ◌≤◌, ◌<◌, ◌⊎◌, inl, inr, Bool, true, false, nat_eq, ltb, if◌then◌else◌, List, [], ◌∷◌, ◌++◌, Option, Some, None, refl, sym, ◌∙◌, subst, arith}
use Rattle.std.proofs.lemmas.Bool.{ltb-true}
use Rattle.std.proofs.lemmas.List.Sums.{sum_by-cons}
use Rattle.c_ints.specs.declared.operators.BinOp.{BinOp}
use Rattle.c_ints.specs.declared.operators.BinOp.TheVariants as binop
use Rattle.c_ints.specs.declared.types.IntTy.{IntTy}
use Rattle.c_ints.specs.declared.types.IntTy.TheVariants as int
use Rattle.c_ints.specs.Range.{bytes_of}
use Rattle.c_typed.specs.Calls.{int_helper}
use Rattle.c_typed.specs.declared.calls.Helper.{Helper}
use Rattle.call_graph.specs.Numbers.{copy_of}
use Rattle.call_graph.specs.declared.types.FnCopy.{FnCopy}
use Rattle.core_code.specs.Bytes.{same_byte}
use Rattle.core_code.specs.Operands.{number_left}
use Rattle.core_code.specs.Tree.{Tree}
use Rattle.core_code.specs.declared.code.Byte.{Byte}
use Rattle.core_code.specs.declared.code.Byte.TheVariants as bytes
use Rattle.pic_world.specs.declared.Root.{Root}
use Rattle.sym_code.specs.Words.{most_words, most_of_one, most_of_operand, is_common}
use Rattle.sym_code.specs.declared.code.BitOperation.{BitOperation}
use Rattle.sym_code.specs.declared.code.BitOperation.TheVariants.{Bcf, Btfsc, Btfss}
use Rattle.sym_code.specs.declared.code.BlockName.TheVariants.{Copy}
use Rattle.sym_code.specs.declared.code.FileOperation.TheVariants.{Movf, Andwf, Iorwf, Xorwf, Comf, Incf, Rlf, Rrf}
use Rattle.sym_code.specs.declared.code.Into.TheVariants.{W, File}
use Rattle.sym_code.specs.declared.code.Literal.TheVariants.{Number}
use Rattle.sym_code.specs.declared.code.LiteralOperation.TheVariants.{Addlw, Movlw, Xorlw}
use Rattle.sym_code.specs.declared.code.Operand.{Operand}
use Rattle.sym_code.specs.declared.code.Operand.TheVariants as operands
use Rattle.sym_code.specs.declared.code.Sym.{Sym}
use Rattle.sym_code.specs.declared.code.Sym.TheVariants as syms
use Rattle.sym_code.specs.declared.code.Target.TheVariants.{Block}
use Rattle.select_code.specs.Pieces.{byte_behind, file_code, store_code, number_code, flag_code, set_code, copy_code, ors_code, test_code}
use Rattle.select_code.specs.declared.pieces.Flag.{Flag}
use Rattle.select_code.specs.declared.pieces.Flag.TheVariants.{Carry, Zero}
use Rattle.select_wide.specs.Calls.{enter_code, helper_call_code, copy_call_code, any_call_code, helped_code}
use Rattle.select_wide.specs.Comparisons.{difference_bits_code, differences_code, equality_code, turn_code, signs_code, links_code, order_code}
use Rattle.select_wide.specs.Moves.{copies_code, stores_code, clears_code}
use Rattle.select_wide.specs.Pieces.{rising, literal_code, nonzero_code, if_bit_code, pair_code, choice_code, truth_code, sign_code}
use Rattle.select_wide.specs.Shifts.{raised_code, bytes_up_code, bytes_down_code, bytes_way_code, bit_up_code, bit_down_code, bit_shift_code, bit_shifts_code, in_place_code, shift_code}
use Rattle.select_wide.specs.Single.{is_signed, complement_code, increment_byte_code, increment_code, bang_code, widening_code}
use Rattle.select_wide.specs.Selection.{way_of, shifted_code, binary_code}
use Rattle.select_wide.specs.Sums.{chain_code, sum_code, bits_code}
use Rattle.select_wide.specs.declared.operands.Chain.TheVariants.{Difference}
use Rattle.select_wide.specs.declared.operands.Way.{Way}
use Rattle.select_wide.specs.declared.operands.Way.TheVariants.{Left, Right, SignedRight}
use Rattle.program_code.proofs.Chain.{never}
use Rattle.program_code.proofs.Paying.{extra, IsMine, IsEasy, easy_mine, mine_behind, easy_behind, Pays, pays_none, pays_on, pays_more, pays_less, pays_most, pays_plain, file_mine, file_held, bit_held, bit_skips, Tame, Held, Bare, held_on, held_tame, held_bare, tame_on, tame_more, held_more}
use Rattle.program_code.proofs.Operations.{held_skip, number_bare, number_behind, xor_behind, flag_clear, flag_set, carry_off, file_one, file_tame, store_one, store_tame, zero_tame, copy_tame, rising_held, rising_alike, copies_tame, copies_out, clears_tame, stores_held, links_tame, pair_tame, chain_in_place, sum_in_place, bits_tame}

-- the words of an operator that works in place, the selects of the frame's bank apart
abbrev pub binary_most : BinOp → ℕ → ℕ
binary_most binop.Add w = 4 * w
binary_most binop.Sub w = 4 * w
binary_most binop.And w = 3 * w
binary_most binop.Xor w = 3 * w
binary_most binop.Or w = 3 * w
binary_most binop.Eq w = 3 * w + 5
binary_most binop.Ne w = 3 * w + 5
binary_most binop.Lt w = 4 * w + 7
binary_most binop.Gt w = 4 * w + 7
binary_most binop.Le w = 4 * w + 7
binary_most binop.Ge w = 4 * w + 7
binary_most binop.Shl w = 8 * w + 9
binary_most binop.Shr w = 8 * w + 9
binary_most binop.Mul w = 14 * w + 3
binary_most binop.Div w = 14 * w + 3
binary_most binop.Rem w = 14 * w + 3

pub whole_bytes : (ty : IntTy) → (k : ℕ) × (bytes_of ty ≡ suc k) × (k < 4)
whole_bytes int.Char = (0, refl, omega arith)
whole_bytes int.SChar = (0, refl, omega arith)
whole_bytes int.UChar = (0, refl, omega arith)
whole_bytes int.Short = (1, refl, omega arith)
whole_bytes int.UShort = (1, refl, omega arith)
whole_bytes int.Int = (1, refl, omega arith)
whole_bytes int.UInt = (1, refl, omega arith)
whole_bytes int.Long = (3, refl, omega arith)
whole_bytes int.ULong = (3, refl, omega arith)

module _ (c : ℕ) where
  -- ---- comparisons
  pub choice_held : (usual : ℕ) (test : BitOperation) (flag : Flag) (other : ℕ) → Pays c true false 1 true true (flag_code test flag) → Held c 3 (choice_code usual test flag other)
  choice_held usual test flag other h = held_skip c 1 1 (number_code usual) (flag_code test flag) (number_code other) (held_bare c 1 (number_code usual) (number_bare c usual)) h (number_behind c other)

  pub truth_held : (to : Byte) → IsMine c to → Held c 2 (truth_code to)
  truth_held to h = held_on c 1 1 (store_code to) (set_code (byte_behind to 1) 0) (store_one c to (easy_mine c to h)) (held_tame c 1 (set_code (byte_behind to 1) 0) (zero_tame c (byte_behind to 1) (mine_behind c to 1 h)))

  last_bits : (to : Byte) (first : Bool) → IsMine c to → Held c 1 (if first then store_code to else file_code Iorwf to File)
  last_bits to true h = store_one c to (easy_mine c to h)
  last_bits to false h = file_one c Iorwf to File refl (easy_mine c to h)

  difference_tame : (to left right : Byte) → IsMine c to → IsMine c left → IsMine c right → (k : ℕ) → Tame c 3 (difference_bits_code to left right k)
  difference_tame to left right h g f k =
      tame_on c 2 1 (pair_code Xorwf (byte_behind left k) (byte_behind right k) W) (if nat_eq k 0 then store_code to else file_code Iorwf to File)
      (pair_tame c Xorwf (byte_behind left k) (byte_behind right k) W refl (mine_behind c left k g) (easy_behind c right k (easy_mine c right f))) (last_bits to (nat_eq k 0) h)

  pub equality_tame : (usual : ℕ) (to left right : Byte) → IsMine c to → IsMine c left → IsMine c right → (k : ℕ) → Tame c (3 * k + 8) (equality_code usual to left right (suc k))
  equality_tame usual to left right h g f k =
      tame_more c (3 * k + 3 + 3 + 2) (3 * k + 8) (equality_code usual to left right (suc k)) (omega arith)
      (tame_on c (3 * k + 3 + 3) 2 (differences_code to left right (suc k) ++ choice_code usual Btfsc Zero (1 - usual)) (truth_code to)
      (tame_on c (3 * k + 3) 3 (differences_code to left right (suc k)) (choice_code usual Btfsc Zero (1 - usual))
      (rising_alike c (difference_bits_code to left right) 3 (λ k. 3 * k + 3) (omega arith) (λ k. omega arith) (difference_tame to left right h g f) k) (choice_held usual Btfsc Zero (1 - usual) (flag_clear c Zero)))
      (truth_held to h))

  turn_held : (top : Byte) → IsMine c top → Held c 2 (turn_code top)
  turn_held top h = held_skip c 0 1 [] (if_bit_code top 7) (literal_code Xorlw (Number 1)) (pays_none c true false) (bit_held c Btfsc top 7 false h) (xor_behind c 1)

  signs_held : (signed : Bool) (left right : Byte) → IsMine c left → IsMine c right → Held c 4 (signs_code signed left right)
  signs_held true left right h g = held_on c 2 2 (turn_code left) (turn_code right) (turn_held left h) (turn_held right g)
  signs_held false left right h g = held_more c 0 4 [] (omega arith) (pays_none c true false)

  pub order_tame : (signed : Bool) (usual : ℕ) (to left right : Byte) → IsMine c to → IsMine c left → IsMine c right → (k : ℕ) → Tame c (4 * k + 11) (order_code signed usual to left right (suc k))
  order_tame signed usual to left right h g f k =
      let signs = signs_code signed (byte_behind left (suc k - 1)) (byte_behind right (suc k - 1)) in
      tame_more c (4 * k + 2 + 3 + 4 + 2) (4 * k + 11) (order_code signed usual to left right (suc k)) (omega arith)
      (tame_on c (4 * k + 2 + 3 + 4) 2 (links_code left right (suc k) ++ choice_code usual Btfss Carry (1 - usual) ++ signs) (truth_code to)
      (tame_on c (4 * k + 2 + 3) 4 (links_code left right (suc k) ++ choice_code usual Btfss Carry (1 - usual)) signs
      (tame_on c (4 * k + 2) 3 (links_code left right (suc k)) (choice_code usual Btfss Carry (1 - usual)) (links_tame c Difference left right W g (easy_mine c right f) k) (choice_held usual Btfss Carry (1 - usual) (flag_set c Carry)))
      (signs_held signed (byte_behind left (suc k - 1)) (byte_behind right (suc k - 1)) (mine_behind c left (suc k - 1) g) (mine_behind c right (suc k - 1) f)))
      (truth_held to h))

  -- ---- operators on one value
  pub complement_tame : (at : Byte) → IsMine c at → (k : ℕ) → Tame c (k + 1) (complement_code at (suc k))
  complement_tame at h k = rising_alike c (λ k. file_code Comf (byte_behind at k) File) 1 (λ k. k + 1) (omega arith) (λ k. omega arith) (λ k. file_tame c Comf (byte_behind at k) File refl (mine_behind c at k h)) k

  increment_by : (at : Byte) (k : ℕ) (first : Bool) → IsMine c at → Held c 2 ((if first then [] else flag_code Btfsc Zero) ++ file_code Incf (byte_behind at k) File)
  increment_by at k true h = held_more c 1 2 (file_code Incf (byte_behind at k) File) (omega arith) (file_one c Incf (byte_behind at k) File refl (easy_behind c at k (easy_mine c at h)))
  increment_by at k false h = held_skip c 0 1 [] (flag_code Btfsc Zero) (file_code Incf (byte_behind at k) File) (pays_none c true false) (flag_clear c Zero) (file_later (byte_behind at k) (easy_behind c at k (easy_mine c at h)))
    where
      file_later : (byte : Byte) → IsEasy c byte → Pays c true true 1 true false (file_code Incf byte File)
      file_later byte h = file_held c Incf byte File true h

  pub minus_tame : (at : Byte) → IsMine c at → (k : ℕ) → Tame c (3 * k + 3) (complement_code at (suc k) ++ increment_code at (suc k))
  minus_tame at h k =
      tame_more c (k + 1 + 2 * suc k) (3 * k + 3) (complement_code at (suc k) ++ increment_code at (suc k)) (omega arith)
      (tame_on c (k + 1) (2 * suc k) (complement_code at (suc k)) (increment_code at (suc k)) (complement_tame at h k)
      (rising_held c (increment_byte_code at) (λ w. 2 * w) 2 (λ k. omega arith) (λ k. increment_by at k (nat_eq k 0) h) (suc k)))

  ors_held : (at : Byte) → IsMine c at → (k : ℕ) → Held c k (ors_code at k)
  ors_held at h zero = pays_none c true false
  ors_held at h (suc k) =
      held_more c (k + 1) (suc k) (ors_code at (suc k)) (omega arith)
      (held_on c k 1 (ors_code at k) (file_code Iorwf (byte_behind at (suc k)) W) (ors_held at h k) (file_one c Iorwf (byte_behind at (suc k)) W refl (easy_behind c at (suc k) (easy_mine c at h))))

  test_tame : (at : Byte) → IsMine c at → (k : ℕ) → Tame c (k + 1) (test_code at (suc k))
  test_tame at h k = tame_more c (1 + k) (k + 1) (test_code at (suc k)) (omega arith) (tame_on c 1 k (file_code Movf at W) (ors_code at k) (file_tame c Movf at W refl h) (ors_held at h k))

  nonzero_bare : Bare c 1 nonzero_code
  nonzero_bare has = pays_plain c (syms.Literal Addlw (Number 255)) has false (refl, refl, refl, refl, refl)

  pub bang_tame : (at : Byte) → IsMine c at → (k : ℕ) → Tame c (k + 7) (bang_code at (suc k))
  bang_tame at h k =
      tame_more c (k + 1 + 1 + 3 + 2) (k + 7) (bang_code at (suc k)) (omega arith)
      (tame_on c (k + 1 + 1 + 3) 2 (test_code at (suc k) ++ nonzero_code ++ choice_code 0 Btfss Carry 1) (truth_code at)
      (tame_on c (k + 1 + 1) 3 (test_code at (suc k) ++ nonzero_code) (choice_code 0 Btfss Carry 1)
      (tame_on c (k + 1) 1 (test_code at (suc k)) nonzero_code (test_tame at h k) (held_bare c 1 nonzero_code nonzero_bare)) (choice_held 0 Btfss Carry 1 (flag_set c Carry)))
      (truth_held at h))

  -- ---- from anywhere to nothing known
  abbrev pub Loose : ℕ → List Sym → Type 0
  Loose n code = (has : Bool) → Pays c has false (n + extra has) false false code

  pub loose_tame : (n : ℕ) (xs : List Sym) → Tame c n xs → Loose n xs
  loose_tame n xs h has = pays_less c has false true false false (n + extra has) xs (λ e. never e) (h has)

  pub loose_more : (n m : ℕ) (xs : List Sym) → n ≤ m → Loose n xs → Loose m xs
  loose_more n m xs l h has = pays_more c has false false false (n + extra has) (m + extra has) xs (omega (arith, l)) (h has)

  pub loose_none : Loose 0 []
  loose_none has = pays_more c has false false false 0 (0 + extra has) [] (omega arith) (pays_less c has false has false false 0 [] (λ e. never e) (pays_none c has false))

  -- ---- conversions
  stores_loose : (to : Byte) → IsMine c to → (w : ℕ) → Loose w (stores_code to w)
  stores_loose to h zero = loose_none
  stores_loose to h (suc k) = loose_tame (suc k) (stores_code to (suc k)) (tame_more c (k + 1) (suc k) (stores_code to (suc k)) (omega arith) (rising_alike c (λ k. store_code (byte_behind to k)) 1 (λ k. k + 1) (omega arith) (λ k. omega arith) (λ k. store_tame c (byte_behind to k) (mine_behind c to k h)) k))

  clears_loose : (to : Byte) → IsMine c to → (w : ℕ) → Loose w (clears_code to w)
  clears_loose to h zero = loose_none
  clears_loose to h (suc k) = loose_tame (suc k) (clears_code to (suc k)) (tame_more c (k + 1) (suc k) (clears_code to (suc k)) (omega arith) (clears_tame c to h k))

  sign_pays : (top : Byte) (has : Bool) → IsMine c top → Pays c has false (3 + extra has) has false (sign_code top)
  sign_pays top has h =
      pays_more c has false has false (1 + (1 + extra has) + 1) (3 + extra has) (sign_code top) (omega arith)
      (pays_on c has false has true has false (1 + (1 + extra has)) 1 (number_code 0 ++ if_bit_code top 7) (number_code 255)
      (pays_on c has false has false has true 1 (1 + extra has) (number_code 0) (if_bit_code top 7) (number_bare c 0 has) (bit_skips c Btfsc top 7 has h refl)) (behind_skip has))
    where
      behind_skip : (has : Bool) → Pays c has true 1 has false (number_code 255)
      behind_skip has = pays_plain c (syms.Literal Movlw (Number 255)) has true (refl, refl, refl, refl, refl)

  widening_by : (signed : Bool) (top new : Byte) (n : ℕ) (has : Bool) → IsMine c top → IsMine c new → Pays c has false (n + 3 + (extra has + extra has)) false false (if signed then sign_code top ++ stores_code new n else clears_code new n)
  widening_by true top new n has h g =
      pays_more c has false false false (3 + extra has + (n + extra has)) (n + 3 + (extra has + extra has)) (sign_code top ++ stores_code new n) (omega arith)
      (pays_on c has false has false false false (3 + extra has) (n + extra has) (sign_code top) (stores_code new n) (sign_pays top has h) (stores_loose new g n has))
  widening_by false top new n has h g = pays_more c has false false false (n + extra has) (n + 3 + (extra has + extra has)) (clears_code new n) (omega arith) (clears_loose new g n has)

  pub widening_pays : (from to : IntTy) (at : Byte) (has : Bool) → IsMine c at → Pays c has false (bytes_of to - bytes_of from + 3 + (extra has + extra has)) false false (widening_code from to at)
  widening_pays from to at has h = widening_by (is_signed from) (byte_behind at (bytes_of from - 1)) (byte_behind at (bytes_of from)) (bytes_of to - bytes_of from) has (mine_behind c at (bytes_of from - 1) h) (mine_behind c at (bytes_of from) h)

  -- ---- code that may be nothing: where the frame's bank isn't selected before it, it is selected once, or not needed
  abbrev pub Soft : ℕ → List Sym → Type 0
  Soft n code = Held c n code × ((Pays c false false n false false code) ⊎ (Pays c false false (n + 2) true false code))

  pub soft_none : Soft 0 []
  soft_none = (pays_none c true false, inl (pays_none c false false))

  pub soft_tame : (n : ℕ) (xs : List Sym) → Tame c n xs → Soft n xs
  soft_tame n xs h = (held_tame c n xs h, inr (h false))

  pub soft_bare : (n : ℕ) (xs : List Sym) → Bare c n xs → Soft n xs
  soft_bare n xs h = (h true, inl (h false))

  pub soft_more : (n m : ℕ) (xs : List Sym) → n ≤ m → Soft n xs → Soft m xs
  soft_more n m xs l (h, inl p) = (held_more c n m xs l h, inl (pays_more c false false false false n m xs l p))
  soft_more n m xs l (h, inr p) = (held_more c n m xs l h, inr (pays_more c false false true false (n + 2) (m + 2) xs (omega (arith, l)) p))

  pub soft_held : (n m : ℕ) (xs ys : List Sym) → Tame c n xs → Held c m ys → Soft (n + m) (xs ++ ys)
  soft_held n m xs ys p q = soft_tame (n + m) (xs ++ ys) (tame_on c n m xs ys p q)

  pub soft_on : (n m : ℕ) (xs ys : List Sym) → Soft n xs → Soft m ys → Soft (n + m) (xs ++ ys)
  soft_on n m xs ys (h, inr p) (g, q) =
      (held_on c n m xs ys h g, inr (pays_more c false false true false (n + 2 + m) (n + m + 2) (xs ++ ys) (omega arith) (pays_on c false false true false true false (n + 2) m xs ys p g)))
  soft_on n m xs ys (h, inl p) (g, inl q) = (held_on c n m xs ys h g, inl (pays_on c false false false false false false n m xs ys p q))
  soft_on n m xs ys (h, inl p) (g, inr q) =
      (held_on c n m xs ys h g, inr (pays_more c false false true false (n + (m + 2)) (n + m + 2) (xs ++ ys) (omega arith) (pays_on c false false false false true false n (m + 2) xs ys p q)))

  pub loose_soft : (n : ℕ) (xs : List Sym) → Soft n xs → Loose n xs
  loose_soft n xs (h, q) true = pays_less c true false true false false (n + 0) xs (λ e. never e) (pays_more c true false true false n (n + 0) xs (omega arith) h)
  loose_soft n xs (h, inl q) false = pays_more c false false false false n (n + 2) xs (omega arith) q
  loose_soft n xs (h, inr q) false = pays_less c false false true false false (n + 2) xs (λ e. never e) q

  pub rising_soft : (code : ℕ → List Sym) (n : ℕ → ℕ) (b : ℕ) → ((k : ℕ) → n k + b ≤ n (suc k)) → ((k : ℕ) → Soft b (code k)) → (w : ℕ) → Soft (n w) (rising code w)
  rising_soft code n b l h zero = soft_more 0 (n zero) [] (omega arith) soft_none
  rising_soft code n b l h (suc w) =
      let more = l w in
      soft_more (n w + b) (n (suc w)) (rising code (suc w)) more (soft_on (n w) b (rising code w) (code w) (rising_soft code n b l h w) (h w))

  -- ---- shifts by a constant
  abbrev times : ℕ → ℕ → ℕ
  times b zero = 0
  times b (suc r) = times b r + b

  times_more : (b r s : ℕ) → r ≤ s → times b r ≤ times b s
  times_more b r zero l = by_zero r l
    where
      by_zero : (r : ℕ) → r ≤ zero → times b r ≤ 0
      by_zero zero l = omega arith
      by_zero (suc r) l = absurd (omega (arith, l))
  times_more b zero (suc s) l = omega arith
  times_more b (suc r) (suc s) l =
      let h = times_more b r s (omega (arith, l)) in
      omega (arith, h)

  seven_times : (b r : ℕ) → r < 8 → times b r ≤ 7 * b
  seven_times b r l =
      let h = times_more b r (suc (suc (suc (suc (suc (suc (suc zero))))))) (omega (arith, l)) in
      omega (arith, h)

  shifted_up : (at : Byte) → IsMine c at → (w : ℕ) → Soft (1 * w) (bit_up_code at w)
  shifted_up at h w = rising_soft (λ k. file_code Rlf (byte_behind at k) File) (λ w. 1 * w) 1 (λ k. omega arith) (λ k. soft_tame 1 (file_code Rlf (byte_behind at k) File) (file_tame c Rlf (byte_behind at k) File refl (mine_behind c at k h))) w

  shifted_down : (at : Byte) → IsMine c at → (w : ℕ) → Soft (1 * w) (bit_down_code at w)
  shifted_down at h w = rising_soft (λ k. file_code Rrf (byte_behind at (w - 1 - k)) File) (λ w. 1 * w) 1 (λ k. omega arith) (λ k. soft_tame 1 (file_code Rrf (byte_behind at (w - 1 - k)) File) (file_tame c Rrf (byte_behind at (w - 1 - k)) File refl (mine_behind c at (w - 1 - k) h))) w

  bit_shift_soft : (way : Way) (at : Byte) → IsMine c at → (w m : ℕ) → Soft (1 + 1 * (w - m)) (bit_shift_code way at w m)
  bit_shift_soft Left at h w m = soft_on 1 (1 * (w - m)) (flag_code Bcf Carry) (bit_up_code (byte_behind at m) (w - m)) (soft_bare 1 (flag_code Bcf Carry) (carry_off c)) (shifted_up (byte_behind at m) (mine_behind c at m h) (w - m))
  bit_shift_soft Right at h w m = soft_on 1 (1 * (w - m)) (flag_code Bcf Carry) (bit_down_code at (w - m)) (soft_bare 1 (flag_code Bcf Carry) (carry_off c)) (shifted_down at h (w - m))
  bit_shift_soft SignedRight at h w m =
      soft_on 1 (1 * (w - m)) (file_code Rlf (byte_behind at (w - m - 1)) W) (bit_down_code at (w - m)) (soft_tame 1 (file_code Rlf (byte_behind at (w - m - 1)) W) (file_tame c Rlf (byte_behind at (w - m - 1)) W refl (mine_behind c at (w - m - 1) h))) (shifted_down at h (w - m))

  bit_shifts_soft : (way : Way) (at : Byte) → IsMine c at → (w m r : ℕ) → r < 8 → Soft (7 * (1 + (w - m))) (bit_shifts_code way at w m r)
  bit_shifts_soft way at h w m r l =
      let b = 1 + 1 * (w - m) in
      let most = seven_times b r l in
      soft_more (times b r) (7 * (1 + (w - m))) (bit_shifts_code way at w m r) (omega (arith, most)) (rising_soft (λ k. bit_shift_code way at w m) (times b) b (λ k. omega arith) (λ k. bit_shift_soft way at h w m) r)

  copies_soft : (code : ℕ → List Sym) → ((k : ℕ) → Tame c 2 (code k)) → (w : ℕ) → Soft (2 * w) (rising code w)
  copies_soft code h w = rising_soft code (λ w. 2 * w) 2 (λ k. omega arith) (λ k. soft_tame 2 (code k) (h k)) w

  clears_soft : (to : Byte) → IsMine c to → (w : ℕ) → Soft (1 * w) (clears_code to w)
  clears_soft to h w = rising_soft (λ k. set_code (byte_behind to k) 0) (λ w. 1 * w) 1 (λ k. omega arith) (λ k. soft_tame 1 (set_code (byte_behind to k) 0) (zero_tame c (byte_behind to k) (mine_behind c to k h))) w

  sign_held : (top : Byte) → IsMine c top → Held c 3 (sign_code top)
  sign_held top h = sign_pays top true h

  -- the bytes that move by whole bytes: so many of them, at least one, and so many that become free
  bytes_down : (signed : Bool) (at : Byte) → IsMine c at → (m k left w : ℕ) → left ≡ suc k → left ≡ w - m → Soft (2 * left + 3 + m) (bytes_down_code signed at w m)
  bytes_down true at h m k left w is same =
      let n : ℕ = w - m in
      subst (λ (l : ℕ). Soft (2 * left + 3 + m) (copies_code at (byte_behind at m) l ++ (sign_code (byte_behind at (w - m - 1)) ++ stores_code (byte_behind at (w - m)) m))) (sym is ∙ same)
      (soft_more (2 * k + 2 + (3 + 1 * m)) (2 * left + 3 + m) (copies_code at (byte_behind at m) (suc k) ++ (sign_code (byte_behind at (w - m - 1)) ++ stores_code (byte_behind at (w - m)) m)) (omega (arith, is))
      (soft_held (2 * k + 2) (3 + 1 * m) (copies_code at (byte_behind at m) (suc k)) (sign_code (byte_behind at (w - m - 1)) ++ stores_code (byte_behind at (w - m)) m)
      (copies_tame c at (byte_behind at m) h (mine_behind c at m h) k)
      (held_on c 3 (1 * m) (sign_code (byte_behind at (w - m - 1))) (stores_code (byte_behind at (w - m)) m) (sign_held (byte_behind at (w - m - 1)) (mine_behind c at (w - m - 1) h)) (stores_held c (byte_behind at (w - m)) (mine_behind c at (w - m) h) m))))
  bytes_down false at h m k left w is same =
      soft_more (2 * (w - m) + 1 * m) (2 * left + 3 + m) (bytes_down_code false at w m) (omega (arith, same))
      (soft_on (2 * (w - m)) (1 * m) (copies_code at (byte_behind at m) (w - m)) (clears_code (byte_behind at (w - m)) m)
      (copies_soft (λ k. copy_code (byte_behind at k) (byte_behind (byte_behind at m) k)) (λ k. copy_tame c (byte_behind at k) (byte_behind (byte_behind at m) k) (mine_behind c at k h) (mine_behind c (byte_behind at m) k (mine_behind c at m h))) (w - m))
      (clears_soft (byte_behind at (w - m)) (mine_behind c at (w - m) h) m))

  bytes_way : (way : Way) (at : Byte) → IsMine c at → (m k left w : ℕ) → left ≡ suc k → left ≡ w - m → Soft (2 * left + 3 + m) (bytes_way_code way at w m)
  bytes_way Left at h m k left w is same =
      soft_more (2 * (w - m) + 1 * m) (2 * left + 3 + m) (bytes_up_code at w m) (omega (arith, same))
      (soft_on (2 * (w - m)) (1 * m) (raised_code at w m) (clears_code at m)
      (copies_soft (λ k. copy_code (byte_behind at (w - 1 - k)) (byte_behind at (w - 1 - k - m))) (λ k. copy_tame c (byte_behind at (w - 1 - k)) (byte_behind at (w - 1 - k - m)) (mine_behind c at (w - 1 - k) h) (mine_behind c at (w - 1 - k - m) h)) (w - m))
      (clears_soft at h m))
  bytes_way Right at h m k left w is same = bytes_down false at h m k left w is same
  bytes_way SignedRight at h m k left w is same = bytes_down true at h m k left w is same

  in_place_soft : (way : Way) (at : Byte) → IsMine c at → (w m r k : ℕ) (none : Bool) → nat_eq m 0 ≡ none → w ≤ 4 → m < w → w - m ≡ suc k → r < 8
      → Soft (7 * w + 10) ((if none then [] else bytes_way_code way at w m) ++ bit_shifts_code way at w m r)
  in_place_soft way at h w m r k true e l below is few =
      soft_more (0 + 7 * (1 + (w - m))) (7 * w + 10) ([] ++ bit_shifts_code way at w m r) (omega (arith, l, below)) (soft_on 0 (7 * (1 + (w - m))) [] (bit_shifts_code way at w m r) soft_none (bit_shifts_soft way at h w m r few))
  in_place_soft way at h w m r k false e l below is few =
      let some = not_zero m e in
      soft_more (2 * (w - m) + 3 + m + 7 * (1 + (w - m))) (7 * w + 10) (bytes_way_code way at w m ++ bit_shifts_code way at w m r) (omega (arith, l, below, some))
      (soft_on (2 * (w - m) + 3 + m) (7 * (1 + (w - m))) (bytes_way_code way at w m) (bit_shifts_code way at w m r) (bytes_way way at h m k (w - m) w is refl) (bit_shifts_soft way at h w m r few))
    where
      not_zero : (m : ℕ) → nat_eq m 0 ≡ false → 1 ≤ m
      not_zero zero e = never (sym e)
      not_zero (suc m) e = omega arith

  rest_less : (n : ℕ) → n % 8 < 8
  rest_less n = omega arith

  some_left : (w m : ℕ) → m < w → (k : ℕ) × (w - m ≡ suc k)
  some_left w m l = (w - m - 1, omega (arith, l))

  below_by : (w m : ℕ) → ltb m w ≡ true → m < w
  below_by w m e = ltb-true m w e

  pub shift_soft : (way : Way) (to left : Byte) (w count : ℕ) → same_byte to left ≡ true → IsMine c to → w ≤ 4 → Soft (7 * w + 10) (shift_code way to left w count)
  shift_soft way to left w count same h l =
      subst (λ (b : Bool). Soft (7 * w + 10) ((if b then [] else copies_code to left w) ++ (if ltb (count / 8) w then in_place_code way to w count else []))) (sym same) (by_below (ltb (count / 8) w) refl)
    where
      by_below : (b : Bool) → ltb (count / 8) w ≡ b → Soft (7 * w + 10) ([] ++ (if b then in_place_code way to w count else []))
      by_below true e =
          let below = below_by w (count / 8) e in
          let some = some_left w (count / 8) below in
          in_place_soft way to h w (count / 8) (count % 8) some.0 (nat_eq (count / 8) 0) refl l below some.1 (rest_less count)
      by_below false e = soft_more 0 (7 * w + 10) [] (omega arith) soft_none

  -- ---- copies to anywhere
  pub operand_three : (file : Operand) → most_of_operand file ≤ 3
  operand_three (operands.Byte byte) = by_common (is_common byte)
    where
      by_common : (b : Bool) → (if b then 1 else 3) ≤ 3
      by_common true = omega arith
      by_common false = omega arith
  operand_three (operands.Register register) = omega arith
  operand_three (operands.Saved saved) = omega arith

  copy_most : (to from : Byte) → most_words (copy_code to from) ≤ 6
  copy_most to from =
      let first = sum_by-cons most_of_one (syms.File Movf (operands.Byte from) W) (syms.Movwf (operands.Byte to) ∷ []) in
      let last = sum_by-cons most_of_one (syms.Movwf (operands.Byte to)) [] in
      let one = operand_three (operands.Byte from) in
      let two = operand_three (operands.Byte to) in
      omega (arith, first, last, one, two)

  pub copy_pays : (to from : Byte) (has : Bool) → Pays c has false 6 false false (copy_code to from)
  copy_pays to from has = let l = copy_most to from in pays_more c has false false false (most_words (copy_code to from)) 6 (copy_code to from) l (pays_most c has false (copy_code to from) refl)

  pub copies_any : (to from : Byte) (w : ℕ) (has : Bool) → Pays c has false (6 * w) false false (copies_code to from w)
  copies_any to from zero has = pays_less c has false has false false 0 [] (λ e. never e) (pays_none c has false)
  copies_any to from (suc k) has =
      pays_more c has false false false (6 * k + 6) (6 * suc k) (copies_code to from (suc k)) (omega arith)
      (pays_on c has false false false false false (6 * k) 6 (copies_code to from k) (copy_code (byte_behind to k) (byte_behind from k)) (copies_any to from k has) (copy_pays (byte_behind to k) (byte_behind from k) false))

  -- the first byte that is read finds its bank where that is selected
  copy_first : (to from : Byte) (has : Bool) → IsMine c from → Pays c has false (4 + extra has) false false (copy_code to from)
  copy_first to from has h =
      let last = sum_by-cons most_of_one (syms.Movwf (operands.Byte to)) [] in
      let two = operand_three (operands.Byte to) in
      pays_more c has false false false (1 + extra has + most_words (store_code to)) (4 + extra has) (copy_code to from) (omega (arith, last, two))
      (pays_on c has false true false false false (1 + extra has) (most_words (store_code to)) (file_code Movf from W) (store_code to) (file_mine c Movf from W has h refl) (pays_most c true false (store_code to) refl))

  copies_first : (to from : Byte) (k : ℕ) (has : Bool) → IsMine c from → Pays c has false (6 * k + 4 + extra has) false false (copies_code to from (suc k))
  copies_first to from zero has h = copy_first (byte_behind to 0) (byte_behind from 0) has (mine_behind c from 0 h)
  copies_first to from (suc k) has h =
      pays_more c has false false false (6 * k + 4 + extra has + 6) (6 * suc k + 4 + extra has) (copies_code to from (suc (suc k))) (omega arith)
      (pays_on c has false false false false false (6 * k + 4 + extra has) 6 (copies_code to from (suc k)) (copy_code (byte_behind to (suc k)) (byte_behind from (suc k))) (copies_first to from k has h) (copy_pays (byte_behind to (suc k)) (byte_behind from (suc k)) false))

  -- ---- calls of helpers
  pub enter_pays : (copy : ℕ) (has : Bool) → Pays c has false 3 false false (enter_code copy)
  enter_pays copy has =
      let one = sum_by-cons most_of_one (syms.Call (Block (Copy copy))) [] in
      pays_more c has false false false (most_words (enter_code copy)) 3 (enter_code copy) (omega (arith, one)) (pays_most c has false (enter_code copy) refl)

  helper_loose : (copy : ℕ) (root : Root) (to left right : Byte) (k count : ℕ) → IsMine c to → IsMine c left → Loose (8 * k + 11 + 6 * count) (helper_call_code copy root to left right (suc k) count)
  helper_loose copy root to left right k count h g has =
      let first = copies_code (bytes.Frame copy 0) left (suc k) in
      let second = copies_code (byte_behind (bytes.Frame copy 0) (suc k)) right count in
      let last = copies_code to (bytes.Result root 0) (suc k) in
      pays_more c has false false false (6 * k + 4 + extra has + 6 * count + 3 + (2 * k + 2 + 2)) (8 * k + 11 + 6 * count + extra has) (helper_call_code copy root to left right (suc k) count) (omega arith)
      (pays_on c has false false false false false (6 * k + 4 + extra has + 6 * count + 3) (2 * k + 2 + 2) (first ++ second ++ enter_code copy) last
      (pays_on c has false false false false false (6 * k + 4 + extra has + 6 * count) 3 (first ++ second) (enter_code copy)
      (pays_on c has false false false false false (6 * k + 4 + extra has) (6 * count) first second (copies_first (bytes.Frame copy 0) left k has g) (copies_any (byte_behind (bytes.Frame copy 0) (suc k)) right count false))
      (enter_pays copy false))
      (pays_less c false false true false false (2 * k + 2 + 2) last (λ e. never e) (copies_out c to root 0 h k false)))

  call_loose : (o : Option ℕ) (root : Root) (to left right : Byte) (k count : ℕ) → IsMine c to → IsMine c left → Loose (8 * k + 11 + 6 * count) (copy_call_code o root to left right (suc k) count)
  call_loose None root to left right k count h g = loose_more 0 (8 * k + 11 + 6 * count) [] (omega arith) loose_none
  call_loose (Some copy) root to left right k count h g = helper_loose copy root to left right k count h g

  any_loose : (o : Option Helper) (list : List FnCopy) (root : Root) (to left right : Byte) (k count : ℕ) → IsMine c to → IsMine c left → Loose (8 * k + 11 + 6 * count) (any_call_code o list root to left right (suc k) count)
  any_loose None list root to left right k count h g = loose_more 0 (8 * k + 11 + 6 * count) [] (omega arith) loose_none
  any_loose (Some helper) list root to left right k count h g = call_loose (copy_of list root helper) root to left right k count h g

  pub helped_loose : (list : List FnCopy) (root : Root) (op : BinOp) (ty : IntTy) (to left right : Byte) (w k count : ℕ) → w ≡ suc k → IsMine c to → IsMine c left → Loose (8 * k + 11 + 6 * count) (helped_code list root op ty to left right w count)
  helped_loose list root op ty to left right w k count e h g =
      subst (λ (n : ℕ). Loose (8 * k + 11 + 6 * count) (helped_code list root op ty to left right n count)) (sym e) (any_loose (int_helper op false ty) list root to left right k count h g)

  -- ---- operators on two values, in place
  module _ (list : List FnCopy) (root : Root) (before : List Tree) (at right : Byte) (same : same_byte at at ≡ true) (mine : IsMine c at) (other : IsMine c right) where
    abbrev Binary : BinOp → IntTy → Type 0
    Binary op ty = Loose (binary_most op (bytes_of ty)) (binary_code list root before op ty at at right)

    at_width : (code : ℕ → List Sym) (n : ℕ → ℕ) (w k : ℕ) → w ≡ suc k → Loose (n (suc k)) (code (suc k)) → Loose (n w) (code w)
    at_width code n w k e h = subst (λ (x : ℕ). Loose (n x) (code x)) (sym e) h

    by_tame : (code : ℕ → List Sym) (n : ℕ → ℕ) (m k w : ℕ) → w ≡ suc k → m ≤ n (suc k) → Tame c m (code (suc k)) → Loose (n w) (code w)
    by_tame code n m k w e l h = at_width code n w k e (loose_more m (n (suc k)) (code (suc k)) l (loose_tame m (code (suc k)) h))

    shifted_loose : (o : Option ℕ) (op : BinOp) (ty : IntTy) → Loose (8 * bytes_of ty + 9) (shifted_code o list root op ty at at right)
    shifted_loose None op ty =
        let b = whole_bytes ty in
        let e = b.1 in
        loose_more (8 * b.0 + 11 + 6 * 1) (8 * bytes_of ty + 9) (helped_code list root op ty at at right (bytes_of ty) 1) (omega (arith, e)) (helped_loose list root op ty at at right (bytes_of ty) b.0 1 b.1 mine mine)
    shifted_loose (Some count) op ty =
        let b = whole_bytes ty in
        let e = b.1 in
        let l = b.2 in
        let code = shift_code (way_of op (is_signed ty)) at at (bytes_of ty) count in
        loose_more (7 * bytes_of ty + 10) (8 * bytes_of ty + 9) code (omega (arith, e)) (loose_soft (7 * bytes_of ty + 10) code (shift_soft (way_of op (is_signed ty)) at at (bytes_of ty) count same mine (omega (arith, e, l))))

    product_loose : (op : BinOp) (ty : IntTy) → Loose (14 * bytes_of ty + 3) (helped_code list root op ty at at right (bytes_of ty) (bytes_of ty))
    product_loose op ty =
        let b = whole_bytes ty in
        let e = b.1 in
        loose_more (8 * b.0 + 11 + 6 * bytes_of ty) (14 * bytes_of ty + 3) (helped_code list root op ty at at right (bytes_of ty) (bytes_of ty)) (omega (arith, e)) (helped_loose list root op ty at at right (bytes_of ty) b.0 (bytes_of ty) b.1 mine mine)

    pub binary_loose : (op : BinOp) (ty : IntTy) → Binary op ty
    binary_loose binop.Add ty = let b = whole_bytes ty in by_tame (λ w. sum_code at at right w) (λ w. 4 * w) (4 * b.0 + 2) b.0 (bytes_of ty) b.1 (omega arith) (sum_in_place c at right same mine (easy_mine c right other) b.0)
    binary_loose binop.Sub ty = let b = whole_bytes ty in by_tame (λ w. chain_code Difference at at right w) (λ w. 4 * w) (4 * b.0 + 2) b.0 (bytes_of ty) b.1 (omega arith) (chain_in_place c Difference at at right same mine (easy_mine c right other) b.0)
    binary_loose binop.And ty = let b = whole_bytes ty in by_tame (λ w. bits_code Andwf at at right w) (λ w. 3 * w) (3 * b.0 + 3) b.0 (bytes_of ty) b.1 (omega arith) (bits_tame c Andwf at at right refl mine mine (easy_mine c right other) b.0)
    binary_loose binop.Xor ty = let b = whole_bytes ty in by_tame (λ w. bits_code Xorwf at at right w) (λ w. 3 * w) (3 * b.0 + 3) b.0 (bytes_of ty) b.1 (omega arith) (bits_tame c Xorwf at at right refl mine mine (easy_mine c right other) b.0)
    binary_loose binop.Or ty = let b = whole_bytes ty in by_tame (λ w. bits_code Iorwf at at right w) (λ w. 3 * w) (3 * b.0 + 3) b.0 (bytes_of ty) b.1 (omega arith) (bits_tame c Iorwf at at right refl mine mine (easy_mine c right other) b.0)
    binary_loose binop.Eq ty = let b = whole_bytes ty in by_tame (λ w. equality_code 0 at at right w) (λ w. 3 * w + 5) (3 * b.0 + 8) b.0 (bytes_of ty) b.1 (omega arith) (equality_tame 0 at at right mine mine other b.0)
    binary_loose binop.Ne ty = let b = whole_bytes ty in by_tame (λ w. equality_code 1 at at right w) (λ w. 3 * w + 5) (3 * b.0 + 8) b.0 (bytes_of ty) b.1 (omega arith) (equality_tame 1 at at right mine mine other b.0)
    binary_loose binop.Lt ty = let b = whole_bytes ty in by_tame (λ w. order_code (is_signed ty) 0 at at right w) (λ w. 4 * w + 7) (4 * b.0 + 11) b.0 (bytes_of ty) b.1 (omega arith) (order_tame (is_signed ty) 0 at at right mine mine other b.0)
    binary_loose binop.Ge ty = let b = whole_bytes ty in by_tame (λ w. order_code (is_signed ty) 1 at at right w) (λ w. 4 * w + 7) (4 * b.0 + 11) b.0 (bytes_of ty) b.1 (omega arith) (order_tame (is_signed ty) 1 at at right mine mine other b.0)
    binary_loose binop.Gt ty = let b = whole_bytes ty in by_tame (λ w. order_code (is_signed ty) 0 at right at w) (λ w. 4 * w + 7) (4 * b.0 + 11) b.0 (bytes_of ty) b.1 (omega arith) (order_tame (is_signed ty) 0 at right at mine other mine b.0)
    binary_loose binop.Le ty = let b = whole_bytes ty in by_tame (λ w. order_code (is_signed ty) 1 at right at w) (λ w. 4 * w + 7) (4 * b.0 + 11) b.0 (bytes_of ty) b.1 (omega arith) (order_tame (is_signed ty) 1 at right at mine other mine b.0)
    binary_loose binop.Shl ty = shifted_loose (number_left before right) binop.Shl ty
    binary_loose binop.Shr ty = shifted_loose (number_left before right) binop.Shr ty
    binary_loose binop.Mul ty = product_loose binop.Mul ty
    binary_loose binop.Div ty = product_loose binop.Div ty
    binary_loose binop.Rem ty = product_loose binop.Rem ty

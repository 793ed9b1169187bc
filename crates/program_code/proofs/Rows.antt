-- How many words the rows of the code of expressions take: operators, pointers and places.
use Rattle.std.proofs.Common.{◌≡◌, ℕ, zero, suc, ◌+◌, ◌-◌, ◌*◌, ◌/◌, ◌%◌, ◌≤◌, ◌⊎◌, inl, inr, Bool, true, false, ◌&&◌, nat_lt, nat_eq, if◌then◌else◌, List, [], ◌∷◌, ◌++◌, refl, sym, ap, ◌∙◌, subst, eqb-true, append_assoc, arith}
use Rattle.std.proofs.lemmas.List.Sums.{sum_by-cons}
use Rattle.c_ints.specs.Range.{bytes_of}
use Rattle.c_ints.specs.declared.operators.BinOp.{BinOp}
use Rattle.c_ints.specs.declared.operators.BinOp.TheVariants as binop
use Rattle.c_ints.specs.declared.operators.UnOp.{UnOp}
use Rattle.c_ints.specs.declared.operators.UnOp.TheVariants as unop
use Rattle.c_ints.specs.declared.types.IntTy.{IntTy}
use Rattle.c_ints.specs.declared.types.IntTy.TheVariants.{UInt, UChar}
use Rattle.c_ints.specs.declared.types.IntTy.TheVariants as intty
use Rattle.c_typed.specs.Rules.{moves_by}
use Rattle.c_typed.specs.Words.{read_words, store_words, address_words, operator_words, digits_within, offset_words, difference_words, struct_words}
use Rattle.c_typed.specs.declared.expression.LogicalOp.{LogicalOp}
use Rattle.c_typed.specs.declared.expression.LogicalOp.TheVariants as logical
use Rattle.c_typed.specs.declared.expression.PlaceForm.{PlaceForm}
use Rattle.c_typed.specs.declared.expression.PlaceForm.TheVariants as form
use Rattle.call_graph.specs.declared.types.FnCopy.{FnCopy}
use Rattle.core_code.specs.Tree as code
use Rattle.core_code.specs.Tree.{Tree, many}
use Rattle.core_code.specs.declared.code.Byte.{Byte}
use Rattle.core_code.specs.declared.code.Byte.TheVariants as bytes
use Rattle.core_puts.specs.Bytes.{beyond, little_beyond, behind, byte_at}
use Rattle.core_puts.specs.Puts.{copies, copies_if, sets, operator, test_size}
use Rattle.lower_expr.specs.Rows.{tested, logical_row, is_shift, shift_row, binary_row, odd_part, multiples, scaled, moved, moved_right, offset_row, difference_row, member_row, address_row, read_row, pointed_row, value_row, bit_row, written_row, assigned_row, called_row, side_of, taken, given, advance, advances, structure_bytes, structure_row, through_row, struct_row}
use Rattle.lower_expr.specs.Spots.{pointer_bytes}
use Rattle.lower_expr.specs.declared.places.Spot.{Spot}
use Rattle.lower_expr.specs.declared.places.Spot.TheVariants.{Fixed, Bit, Computed}
use Rattle.pic_world.specs.declared.Root.{Root}
use Rattle.select_code.specs.Pieces.{bit_read_code, bit_write_code, bit_code, goto_code, label_code, first_label, second_label, file_code, store_code, copy_code}
use Rattle.select_code.specs.declared.control.Ending.{Ending}
use Rattle.sym_code.specs.Words.{most_words, most_of_one}
use Rattle.sym_code.specs.declared.code.BitOperation.{BitOperation}
use Rattle.sym_code.specs.declared.code.BitOperation.TheVariants.{Bcf, Bsf, Btfsc, Btfss}
use Rattle.sym_code.specs.declared.code.FileOperation.TheVariants.{Movf, Andwf}
use Rattle.sym_code.specs.declared.code.Into.TheVariants.{W}
use Rattle.sym_code.specs.declared.code.Literal.TheVariants.{Number}
use Rattle.sym_code.specs.declared.code.LiteralOperation.TheVariants.{Movlw}
use Rattle.sym_code.specs.declared.code.Operand.TheVariants as operands
use Rattle.sym_code.specs.declared.code.Sym.TheVariants as syms
use Rattle.select_wide.specs.Pointers.{pointer_code, load_code, store_all_code}
use Rattle.select_wide.specs.Single.{complement_code, increment_code, bang_code, unary_code}
use Rattle.program_code.proofs.Chain.{never}
use Rattle.program_code.proofs.Paying.{extra, IsMine, IsEasy, easy_mine, Pays, pays_none, pays_on, pays_more, pays_most, bit_held, file_mine, store_mine, Tame, tame_on, tame_more}
use Rattle.program_code.proofs.Operations.{load_tame, store_all_tame, pointer_tame, address_tame, bits_tame, sum_tame}
use Rattle.program_code.proofs.Operators.{whole_bytes, binary_most, operand_three, complement_tame, minus_tame, bang_tame, enter_pays}
use Rattle.program_code.proofs.Lowered.{Costs, Takes, Tames, Helds, costs_more, costs_less, costs_none, costs_one, costs_on, takes_on, takes_more, takes_none, takes_one, tames_on, tames_one, takes_tames, helds_on, helds_more, helds_one, helds_tames, many_one, goto_pays, label_pays, test_most}
use Rattle.program_code.proofs.Puts.{mine_lower, test_four, sets_tames, sets_takes, nought_takes, one_takes, result_one, copies_takes, copies_helds, copies_tames, near_if, results_if, operator_takes, operator_held, add_tamed, choice_takes}

-- ---- operators against their stated words
pub operator_fits : (op : BinOp) (constant : Bool) (w : ℕ) → 1 ≤ w → (is_shift op && constant) ≡ false → binary_most op w + 2 ≤ operator_words op constant w
operator_fits binop.Mul constant w l e = omega (arith, l)
operator_fits binop.Div constant w l e = omega (arith, l)
operator_fits binop.Rem constant w l e = omega (arith, l)
operator_fits binop.Add constant w l e = omega (arith, l)
operator_fits binop.Sub constant w l e = omega (arith, l)
operator_fits binop.Shl true w l e = never (sym e)
operator_fits binop.Shl false w l e = omega (arith, l)
operator_fits binop.Shr true w l e = never (sym e)
operator_fits binop.Shr false w l e = omega (arith, l)
operator_fits binop.Lt constant w l e = omega (arith, l)
operator_fits binop.Gt constant w l e = omega (arith, l)
operator_fits binop.Le constant w l e = omega (arith, l)
operator_fits binop.Ge constant w l e = omega (arith, l)
operator_fits binop.Eq constant w l e = omega (arith, l)
operator_fits binop.Ne constant w l e = omega (arith, l)
operator_fits binop.And constant w l e = omega (arith, l)
operator_fits binop.Xor constant w l e = omega (arith, l)
operator_fits binop.Or constant w l e = omega (arith, l)

shift_fits : (op : BinOp) (constant : Bool) (w : ℕ) → (is_shift op && constant) ≡ true → (operator_words op constant w ≡ 8 * w + 20) × (binary_most op w ≡ 8 * w + 9)
shift_fits binop.Shl true w e = (refl, refl)
shift_fits binop.Shr true w e = (refl, refl)
shift_fits binop.Shl false w e = never e
shift_fits binop.Shr false w e = never e
shift_fits binop.Mul constant w e = never e
shift_fits binop.Div constant w e = never e
shift_fits binop.Rem constant w e = never e
shift_fits binop.Add constant w e = never e
shift_fits binop.Sub constant w e = never e
shift_fits binop.Lt constant w e = never e
shift_fits binop.Gt constant w e = never e
shift_fits binop.Le constant w e = never e
shift_fits binop.Ge constant w e = never e
shift_fits binop.Eq constant w e = never e
shift_fits binop.Ne constant w e = never e
shift_fits binop.And constant w e = never e
shift_fits binop.Xor constant w e = never e
shift_fits binop.Or constant w e = never e

pub some_bytes : (ty : IntTy) → 1 ≤ bytes_of ty
some_bytes ty = let b = whole_bytes ty in let e = b.1 in omega (arith, e)

pub sum_words : (op : BinOp) (w : ℕ) → moves_by op ≡ true → binary_most op w ≡ 4 * w
sum_words binop.Add w e = refl
sum_words binop.Sub w e = refl
sum_words binop.Mul w e = never e
sum_words binop.Div w e = never e
sum_words binop.Rem w e = never e
sum_words binop.Shl w e = never e
sum_words binop.Shr w e = never e
sum_words binop.Lt w e = never e
sum_words binop.Gt w e = never e
sum_words binop.Le w e = never e
sum_words binop.Ge w e = never e
sum_words binop.Eq w e = never e
sum_words binop.Ne w e = never e
sum_words binop.And w e = never e
sum_words binop.Xor w e = never e
sum_words binop.Or w e = never e

-- ---- the form of a place
abbrev pub form_at : Spot → PlaceForm
form_at (Fixed byte) = form.Fixed
form_at (Bit register bit) = form.Bit
form_at Computed = form.Computed

module _ (list : List FnCopy) (root : Root) (end : Ending) (c : ℕ) where
  -- ---- operators on two values
  shift_costs : (op : BinOp) (ty : IntTy) (at right : Byte) (count size : ℕ) → IsMine c at → IsMine c right → binary_most op (bytes_of ty) ≡ 8 * bytes_of ty + 9 → size ≤ 4
      → Takes list root end c (8 * bytes_of ty + 20) (sets right count size ++ operator op ty at right ∷ [])
  unfolding sets
  shift_costs op ty at right count zero h g e l = takes_more list root end c (binary_most op (bytes_of ty) + 2) (8 * bytes_of ty + 20) (operator op ty at right ∷ []) (omega (arith, e)) (operator_takes list root end c op ty at right h g)
  shift_costs op ty at right count (suc k) h g e l =
      takes_more list root end c (2 * k + 2 + 2 + binary_most op (bytes_of ty)) (8 * bytes_of ty + 20) (sets right count (suc k) ++ operator op ty at right ∷ []) (omega (arith, e, l))
      (costs_on list root end c false true false (2 * k + 2 + 2) (binary_most op (bytes_of ty)) (sets right count (suc k)) (operator op ty at right ∷ []) (sets_tames list root end c right count k g false) (operator_held list root end c op ty at right h g))

  shift_takes : (op : BinOp) (constant : Bool) (ty : IntTy) (at right : Byte) (count size : ℕ) → IsMine c at → IsMine c right → (is_shift op && constant) ≡ true → size ≤ 4
      → Takes list root end c (operator_words op constant (bytes_of ty)) (shift_row op ty at right count size ∷ [])
  shift_takes op constant ty at right count size h g e l =
      let fits = shift_fits op constant (bytes_of ty) e in
      let same = fits.0 in
      takes_more list root end c (8 * bytes_of ty + 20) (operator_words op constant (bytes_of ty)) (shift_row op ty at right count size ∷ []) (omega (arith, same))
      (takes_one list root end c (8 * bytes_of ty + 20) (shift_row op ty at right count size) (many_one list root end c false false (8 * bytes_of ty + 20) (sets right count size ++ operator op ty at right ∷ []) (shift_costs op ty at right count size h g fits.1 l)))

  plain_takes : (op : BinOp) (constant : Bool) (ty : IntTy) (at right : Byte) → IsMine c at → IsMine c right → (is_shift op && constant) ≡ false → Takes list root end c (operator_words op constant (bytes_of ty)) (operator op ty at right ∷ [])
  plain_takes op constant ty at right h g e =
      takes_more list root end c (binary_most op (bytes_of ty) + 2) (operator_words op constant (bytes_of ty)) (operator op ty at right ∷ []) (operator_fits op constant (bytes_of ty) (some_bytes ty) e) (operator_takes list root end c op ty at right h g)

  pub binary_takes : (shifts : Bool) (op : BinOp) (constant : Bool) (ty : IntTy) (at right : Byte) (count size : ℕ) → IsMine c at → IsMine c right → (is_shift op && constant) ≡ shifts → (shifts ≡ true → size ≤ 4)
      → Takes list root end c (operator_words op constant (bytes_of ty)) (binary_row shifts op ty at right count size)
  binary_takes true op constant ty at right count size h g e l = shift_takes op constant ty at right count size h g e (l refl)
  binary_takes false op constant ty at right count size h g e l = plain_takes op constant ty at right h g e

  -- ---- operators on one value
  unary_tamed : (op : UnOp) (ty : IntTy) (at : Byte) (m : ℕ) → Tame c m (unary_code op ty at) → Takes list root end c (m + 2) (code.Unary op ty at ∷ [])
  unary_tamed op ty at m p = takes_tames list root end c m (code.Unary op ty at ∷ []) (tames_one list root end c m (code.Unary op ty at) (λ loops place before. p))

  pub minus_takes : (ty : IntTy) (at : Byte) → IsMine c at → Takes list root end c (10 * bytes_of ty) (code.Unary unop.Minus ty at ∷ [])
  minus_takes ty at h =
      let b = whole_bytes ty in
      let e = b.1 in
      takes_more list root end c (3 * b.0 + 3 + 2) (10 * bytes_of ty) (code.Unary unop.Minus ty at ∷ []) (omega (arith, e))
      (unary_tamed unop.Minus ty at (3 * b.0 + 3) (subst (λ (w : ℕ). Tame c (3 * b.0 + 3) (complement_code at w ++ increment_code at w)) (sym b.1) (minus_tame c at h b.0)))

  pub not_takes : (ty : IntTy) (at : Byte) → IsMine c at → Takes list root end c (4 * bytes_of ty) (code.Unary unop.Not ty at ∷ [])
  not_takes ty at h =
      let b = whole_bytes ty in
      let e = b.1 in
      takes_more list root end c (b.0 + 1 + 2) (4 * bytes_of ty) (code.Unary unop.Not ty at ∷ []) (omega (arith, e))
      (unary_tamed unop.Not ty at (b.0 + 1) (subst (λ (w : ℕ). Tame c (b.0 + 1) (complement_code at w)) (sym b.1) (complement_tame c at h b.0)))

  pub bang_takes : (ty : IntTy) (at : Byte) → IsMine c at → Takes list root end c (bytes_of ty + 8) (code.Unary unop.Bang ty at ∷ [])
  bang_takes ty at h =
      let b = whole_bytes ty in
      let e = b.1 in
      takes_more list root end c (b.0 + 7 + 2) (bytes_of ty + 8) (code.Unary unop.Bang ty at ∷ []) (omega (arith, e))
      (unary_tamed unop.Bang ty at (b.0 + 7) (subst (λ (w : ℕ). Tame c (b.0 + 7) (bang_code at w)) (sym b.1) (bang_tame c at h b.0)))

  pub truth_takes : (at : Byte) (size : ℕ) → IsMine c at → Takes list root end c (4 * size + 17) (tested at size 1 0 ∷ [])
  truth_takes at size h =
      let t = test_four size in
      takes_more list root end c (test_most (test_size size) + 7 + 5 + 4) (4 * size + 17) (tested at size 1 0 ∷ []) (omega (arith, t))
      (choice_takes list root end c at size 5 4 (sets at 1 2) (sets at 0 2) h (one_takes list root end c at h) (nought_takes list root end c at h))

  pub logical_takes : (op : LogicalOp) (at : Byte) (size n : ℕ) (other : List Tree) → IsMine c at → Takes list root end c n other → Takes list root end c (4 * size + 13 + n) (logical_row op at size other ∷ [])
  logical_takes logical.And at size n other h p =
      let t = test_four size in
      takes_more list root end c (test_most (test_size size) + 7 + n + 4) (4 * size + 13 + n) (logical_row logical.And at size other ∷ []) (omega (arith, t)) (choice_takes list root end c at size n 4 other (sets at 0 2) h p (nought_takes list root end c at h))
  logical_takes logical.Or at size n other h p =
      let t = test_four size in
      takes_more list root end c (test_most (test_size size) + 7 + 5 + n) (4 * size + 13 + n) (logical_row logical.Or at size other ∷ []) (omega (arith, t)) (choice_takes list root end c at size 5 n (sets at 1 2) other h (one_takes list root end c at h) p)

  -- ---- pointers and integers
  add_held : (at right : Byte) → IsMine c at → IsEasy c right → Helds list root end c 6 (operator binop.Add UInt at right ∷ [])
  add_held at right h g = helds_one list root end c 6 (operator binop.Add UInt at right) (add_tamed list root end c at right h g)

  odd_held : (to from : Byte) (odd : Bool) → IsMine c to → IsMine c from → Helds list root end c 6 (if odd then operator binop.Add UInt to from ∷ [] else [])
  odd_held to from true h g = add_held to from h (easy_mine c from g)
  odd_held to from false h g = helds_more list root end c 0 6 [] (omega arith) (costs_none list root end c true)

  multiples_step : (to from : Byte) (fuel size : ℕ) (small none : Bool) → IsMine c to → IsMine c from → nat_lt size 2 ≡ small → nat_eq size 0 ≡ none → Helds list root end c (12 * digits_within fuel (size / 2)) (multiples to from (size / 2) fuel)
      → Helds list root end c (12 * (if none then 0 else 1 + digits_within fuel (size / 2))) (if small then [] else (multiples to from (size / 2) fuel ++ operator binop.Add UInt to to ∷ [] ++ odd_part to from size))
  multiples_step to from fuel size true none h g e f p = helds_more list root end c 0 (12 * (if none then 0 else 1 + digits_within fuel (size / 2))) [] (omega arith) (costs_none list root end c true)
  multiples_step to from fuel size false true h g e f p = never (sym e ∙ ap (λ n. nat_lt n 2) (eqb-true size 0 f))
  multiples_step to from fuel size false false h g e f p =
      helds_more list root end c (12 * digits_within fuel (size / 2) + 6 + 6) (12 * (1 + digits_within fuel (size / 2))) (multiples to from (size / 2) fuel ++ operator binop.Add UInt to to ∷ [] ++ odd_part to from size) (omega arith)
      (helds_on list root end c (12 * digits_within fuel (size / 2) + 6) 6 (multiples to from (size / 2) fuel ++ operator binop.Add UInt to to ∷ []) (odd_part to from size)
      (helds_on list root end c (12 * digits_within fuel (size / 2)) 6 (multiples to from (size / 2) fuel) (operator binop.Add UInt to to ∷ []) p (add_held to to h (easy_mine c to h)))
      (odd_held to from (nat_eq (size % 2) 1) h g))

  multiples_held : (to from : Byte) (fuel size : ℕ) → IsMine c to → IsMine c from → Helds list root end c (12 * digits_within fuel size) (multiples to from size fuel)
  unfolding multiples digits_within
  multiples_held to from zero size h g = costs_none list root end c true
  multiples_held to from (suc fuel) size h g = multiples_step to from fuel size (nat_lt size 2) (nat_eq size 0) h g refl refl (multiples_held to from fuel (size / 2) h g)

  -- so many words from anywhere, and so many digits
  scaled_tames : (to from : Byte) (size : ℕ) → IsMine c to → IsMine c from → Tames list root end c (4 + 12 * digits_within 64 size) (scaled to from size)
  scaled_tames to from size h g = tames_on list root end c 4 (12 * digits_within 64 size) (copies to from 2) (multiples to from size 64) (copies_tames list root end c to from 1 h g) (multiples_held to from 64 size h g)

  pub moved_takes : (op : BinOp) (at index count : Byte) (size : ℕ) → moves_by op ≡ true → IsMine c at → IsMine c index → IsMine c count → Takes list root end c (offset_words size) (moved op at index count size)
  moved_takes op at index count size e h g f = by_one (nat_eq size 1)
    where
      by_one : (one : Bool) → Takes list root end c (20 + (if one then 0 else 12 + 20 * (digits_within 64 size - 1))) (if one then operator op UInt at index ∷ [] else (scaled count index size ++ operator op UInt at count ∷ []))
      by_one true =
          let w = sum_words op 2 e in
          takes_more list root end c (binary_most op 2 + 2) (20 + 0) (operator op UInt at index ∷ []) (omega (arith, w)) (operator_takes list root end c op UInt at index h g)
      by_one false =
          let w = sum_words op 2 e in
          let d = digits_within 64 size in
          takes_more list root end c (4 + 12 * d + 2 + binary_most op 2) (20 + (12 + 20 * (d - 1))) (scaled count index size ++ operator op UInt at count ∷ []) (omega (arith, w))
          (costs_on list root end c false true false (4 + 12 * d + 2) (binary_most op 2) (scaled count index size) (operator op UInt at count ∷ []) (scaled_tames count index size f g false) (operator_held list root end c op UInt at count h f))

  moved_back : (at : Byte) (size : ℕ) → IsMine c at → Takes list root end c (offset_words size) (moved_right at size)
  moved_back at size h = by_one (nat_eq size 1)
    where
      by_one : (one : Bool)
          → Takes list root end c (20 + (if one then 0 else 12 + 20 * (digits_within 64 size - 1))) (if one then operator binop.Add UInt at (behind at 2) ∷ [] else (scaled (behind at 4) at size ++ code.Binary binop.Add UInt at (behind at 2) (behind at 4) ∷ []))
      by_one true = takes_more list root end c (8 + 2) (20 + 0) (operator binop.Add UInt at (behind at 2) ∷ []) (omega arith) (operator_takes list root end c binop.Add UInt at (behind at 2) h (mine_lower c at 2 h))
      by_one false =
          let d = digits_within 64 size in
          let last = code.Binary binop.Add UInt at (behind at 2) (behind at 4) in
          takes_more list root end c (4 + 12 * d + 12 + 2) (20 + (12 + 20 * (d - 1))) (scaled (behind at 4) at size ++ last ∷ []) (omega arith)
          (takes_tames list root end c (4 + 12 * d + 12) (scaled (behind at 4) at size ++ last ∷ [])
          (tames_on list root end c (4 + 12 * d) 12 (scaled (behind at 4) at size) (last ∷ []) (scaled_tames (behind at 4) at size (mine_lower c at 4 h) h)
          (helds_one list root end c 12 last (λ loops place before. sum_tame c at (behind at 2) (behind at 4) h (mine_lower c at 2 h) (mine_lower c at 4 h) 1))))

  pub offset_takes : (op : BinOp) (at : Byte) (pointer : Bool) (size : ℕ) → moves_by op ≡ true → IsMine c at → Takes list root end c (offset_words size) (offset_row op at pointer size)
  offset_takes op at true size e h = moved_takes op at (behind at 2) (behind at 4) size e h (mine_lower c at 2 h) (mine_lower c at 4 h)
  offset_takes op at false size e h = moved_back at size h

  pub difference_takes : (at : Byte) (size : ℕ) → IsMine c at → Takes list root end c (difference_words size) (difference_row at size)
  difference_takes at size h = by_large (nat_lt 32767 size) (nat_eq size 1)
    where
      by_large : (large one : Bool)
          → Takes list root end c (if one then 20 else 80) (if large then sets at 0 2 else (operator binop.Sub UInt at (behind at 2) ∷ [] ++ (if one then [] else (sets (behind at 2) size 2 ++ operator binop.Div intty.Int at (behind at 2) ∷ []))))
      by_large true true = takes_more list root end c 8 20 (sets at 0 2) (omega arith) (sets_takes list root end c at 0 2 h)
      by_large true false = takes_more list root end c 8 80 (sets at 0 2) (omega arith) (sets_takes list root end c at 0 2 h)
      by_large false true =
          takes_more list root end c (8 + 2 + 0) 20 (operator binop.Sub UInt at (behind at 2) ∷ [] ++ []) (omega arith)
          (takes_on list root end c (8 + 2) 0 (operator binop.Sub UInt at (behind at 2) ∷ []) [] (operator_takes list root end c binop.Sub UInt at (behind at 2) h (mine_lower c at 2 h)) (takes_none list root end c))
      by_large false false =
          takes_more list root end c (8 + 2 + (8 + (14 * 2 + 3 + 2))) 80 (operator binop.Sub UInt at (behind at 2) ∷ [] ++ (sets (behind at 2) size 2 ++ operator binop.Div intty.Int at (behind at 2) ∷ [])) (omega arith)
          (takes_on list root end c (8 + 2) (8 + (14 * 2 + 3 + 2)) (operator binop.Sub UInt at (behind at 2) ∷ []) (sets (behind at 2) size 2 ++ operator binop.Div intty.Int at (behind at 2) ∷ []) (operator_takes list root end c binop.Sub UInt at (behind at 2) h (mine_lower c at 2 h))
          (takes_on list root end c 8 (14 * 2 + 3 + 2) (sets (behind at 2) size 2) (operator binop.Div intty.Int at (behind at 2) ∷ []) (sets_takes list root end c (behind at 2) size 2 (mine_lower c at 2 h)) (operator_takes list root end c binop.Div intty.Int at (behind at 2) h (mine_lower c at 2 h))))

  -- ---- places
  number_takes : (r : Root) (number : ℕ) → Takes list root end c 4 (sets (bytes.Result r 0) number 2)
  unfolding sets
  number_takes r number = takes_on list root end c 2 2 (code.Set (bytes.Result r (little_beyond 0 0)) (byte_at number 0) ∷ []) (code.Set (bytes.Result r (little_beyond 0 1)) (byte_at number 1) ∷ []) (result_one list root end c false r (little_beyond 0 0) (byte_at number 0)) (result_one list root end c false r (little_beyond 0 1) (byte_at number 1))

  pub member_takes : (at : Byte) (offset : ℕ) (r : Root) → IsMine c at → Takes list root end c 12 (member_row at offset (bytes.Result r 0))
  member_takes at offset r h = by_none (nat_eq offset 0)
    where
      by_none : (none : Bool) → Takes list root end c 12 (if none then [] else (sets (bytes.Result r 0) offset 2 ++ operator binop.Add UInt at (bytes.Result r 0) ∷ []))
      by_none true = takes_more list root end c 0 12 [] (omega arith) (takes_none list root end c)
      by_none false =
          takes_on list root end c 4 8 (sets (bytes.Result r 0) offset 2) (operator binop.Add UInt at (bytes.Result r 0) ∷ []) (number_takes r offset)
          (takes_tames list root end c 6 (operator binop.Add UInt at (bytes.Result r 0) ∷ []) (tames_one list root end c 6 (operator binop.Add UInt at (bytes.Result r 0)) (add_tamed list root end c at (bytes.Result r 0) h tt)))

  address_one : (at byte : Byte) → IsMine c at → Takes list root end c 6 (code.Address at byte ∷ [])
  address_one at byte h = takes_tames list root end c 4 (code.Address at byte ∷ []) (tames_one list root end c 4 (code.Address at byte) (λ loops place before. address_tame c at byte h))

  pub address_takes : (spot : Spot) (at : Byte) → IsMine c at → Takes list root end c (address_words (form_at spot)) (address_row spot at)
  address_takes (Fixed byte) at h = takes_more list root end c 6 8 (code.Address at byte ∷ []) (omega arith) (address_one at byte h)
  address_takes (Bit register bit) at h = takes_none list root end c
  address_takes Computed at h = takes_none list root end c

  bit_most : (op : BitOperation) (byte : Byte) (n : ℕ) → most_words (bit_code op byte n) ≤ 3
  bit_most op byte n =
      let one = sum_by-cons most_of_one (syms.Bit op (operands.Byte byte) n) [] in
      let l = operand_three c (operands.Byte byte) in
      omega (arith, one, l)

  read_bit : (to : Byte) (register bit : ℕ) → Takes list root end c 8 (code.BitRead to register bit ∷ [])
  read_bit to register bit = takes_one list root end c 8 (code.BitRead to register bit) (λ loops place before. read_pays)
    where
      read_pays : Pays c false false 8 false false (bit_read_code to register bit)
      read_pays =
          let test = syms.Bit Btfsc (operands.Byte (bytes.Device register)) (bit % 8) in
          let a = sum_by-cons most_of_one (syms.Literal Movlw (Number 0)) (test ∷ syms.Literal Movlw (Number 1) ∷ syms.Movwf (operands.Byte to) ∷ []) in
          let b = sum_by-cons most_of_one test (syms.Literal Movlw (Number 1) ∷ syms.Movwf (operands.Byte to) ∷ []) in
          let d = sum_by-cons most_of_one (syms.Literal Movlw (Number 1)) (syms.Movwf (operands.Byte to) ∷ []) in
          let e = sum_by-cons most_of_one (syms.Movwf (operands.Byte to)) [] in
          let x = operand_three c (operands.Byte (bytes.Device register)) in
          let y = operand_three c (operands.Byte to) in
          pays_more c false false false false (most_words (bit_read_code to register bit)) 8 (bit_read_code to register bit) (omega (arith, a, b, d, e, x, y)) (pays_most c false false (bit_read_code to register bit) refl)

  -- so many bytes that a pointer points to
  load_any : (to pointer : Byte) (w : ℕ) → IsMine c to → IsMine c pointer → Tame c (3 * w + 5) (load_code to pointer w)
  load_any to pointer zero h g = tame_more c (5 + 0) (3 * zero + 5) (load_code to pointer zero) (omega arith) (tame_on c 5 0 (pointer_code pointer) [] (pointer_tame c pointer g) (pays_none c true false))
  load_any to pointer (suc k) h g = tame_more c (3 * k + 7) (3 * suc k + 5) (load_code to pointer (suc k)) (omega arith) (load_tame c to pointer h g k)

  store_any : (pointer from : Byte) (w : ℕ) → IsMine c pointer → IsMine c from → Tame c (3 * w + 5) (store_all_code pointer from w)
  store_any pointer from zero h g = tame_more c (5 + 0) (3 * zero + 5) (store_all_code pointer from zero) (omega arith) (tame_on c 5 0 (pointer_code pointer) [] (pointer_tame c pointer h) (pays_none c true false))
  store_any pointer from (suc k) h g = tame_more c (3 * k + 7) (3 * suc k + 5) (store_all_code pointer from (suc k)) (omega arith) (store_all_tame c pointer from h g k)

  loads_tames : (to pointer : Byte) (w : ℕ) → IsMine c to → IsMine c pointer → Tames list root end c (3 * w + 5) (code.Load to pointer w ∷ [])
  loads_tames to pointer w h g = tames_one list root end c (3 * w + 5) (code.Load to pointer w) (λ loops place before. load_any to pointer w h g)

  stores_tames : (pointer from : Byte) (w : ℕ) → IsMine c pointer → IsMine c from → Tames list root end c (3 * w + 5) (code.Store pointer from w ∷ [])
  stores_tames pointer from w h g = tames_one list root end c (3 * w + 5) (code.Store pointer from w) (λ loops place before. store_any pointer from w h g)

  pub read_takes : (spot : Spot) (pointer to : Byte) (w : ℕ) → IsMine c pointer → IsMine c to → Takes list root end c (read_words (form_at spot) w) (read_row spot pointer to w)
  read_takes (Fixed from) pointer to w h g = copies_takes list root end c to from w
  read_takes (Bit register bit) pointer to w h g = takes_more list root end c 8 10 (code.BitRead to register bit ∷ []) (omega arith) (read_bit to register bit)
  read_takes Computed pointer to w h g = takes_more list root end c (3 * w + 5 + 2) (14 + 6 * w) (code.Load to pointer w ∷ []) (omega arith) (takes_tames list root end c (3 * w + 5) (code.Load to pointer w ∷ []) (loads_tames to pointer w g h))

  pub value_takes : (spot : Spot) (at : Byte) (w : ℕ) → IsMine c at → Takes list root end c (read_words (form_at spot) w) (value_row spot at w)
  value_takes (Fixed from) at w h = copies_takes list root end c at from w
  value_takes (Bit register bit) at w h = takes_more list root end c 8 10 (code.BitRead at register bit ∷ []) (omega arith) (read_bit at register bit)
  value_takes Computed at w h =
      takes_more list root end c (3 * w + 5 + 2 * w + 2) (14 + 6 * w) (pointed_row at w) (omega arith)
      (takes_tames list root end c (3 * w + 5 + 2 * w) (pointed_row at w)
      (tames_on list root end c (3 * w + 5) (2 * w) (code.Load (behind at 2) at w ∷ []) (copies at (behind at 2) w) (loads_tames (behind at 2) at w (mine_lower c at 2 h) h) (copies_helds list root end c at (behind at 2) w h (mine_lower c at 2 h))))

  write_pays : (register bit place : ℕ) (from : Byte) → IsMine c from → Pays c true false 13 false false (bit_write_code place register bit from)
  write_pays register bit place from h =
      let on = bit_code Bsf (bytes.Device register) (bit % 8) in
      let off = bit_code Bcf (bytes.Device register) (bit % 8) in
      let clear = second_label place in
      let done = first_label place in
      let a = bit_most Bsf (bytes.Device register) (bit % 8) in
      let b = bit_most Bcf (bytes.Device register) (bit % 8) in
      pays_more c true false false false (1 + 3 + most_words on + 3 + 0 + most_words off + 0) 13 (bit_write_code place register bit from) (omega (arith, a, b))
      (pays_on c true false false false false false (1 + 3 + most_words on + 3 + 0 + most_words off) 0 (bit_code Btfss from 0 ++ goto_code clear ++ on ++ goto_code done ++ label_code clear ++ off) (label_code done)
      (pays_on c true false false false false false (1 + 3 + most_words on + 3 + 0) (most_words off) (bit_code Btfss from 0 ++ goto_code clear ++ on ++ goto_code done ++ label_code clear) off
      (pays_on c true false false false false false (1 + 3 + most_words on + 3) 0 (bit_code Btfss from 0 ++ goto_code clear ++ on ++ goto_code done) (label_code clear)
      (pays_on c true false false false false false (1 + 3 + most_words on) 3 (bit_code Btfss from 0 ++ goto_code clear ++ on) (goto_code done)
      (pays_on c true false false false false false (1 + 3) (most_words on) (bit_code Btfss from 0 ++ goto_code clear) on
      (pays_on c true false true true false false 1 3 (bit_code Btfss from 0) (goto_code clear) (bit_held c Btfss from 0 false h) (goto_pays list root end c clear true true))
      (pays_most c false false on refl))
      (goto_pays list root end c done false false))
      (label_pays list root end c clear false))
      (pays_most c false false off refl))
      (label_pays list root end c done false))

  bit_takes : (r : Root) (register bit : ℕ) (from : Byte) → IsMine c from → Takes list root end c 20 (bit_row r register bit from)
  bit_takes r register bit from h =
      let mask = operator binop.And UChar from (bytes.Result r 0) in
      costs_more list root end c false false (2 + (3 + 2 + 13)) 20 (bit_row r register bit from) (omega arith)
      (costs_on list root end c false false false 2 (3 + 2 + 13) (code.Set (bytes.Result r 0) 1 ∷ []) (mask ∷ code.BitWrite register bit from ∷ []) (result_one list root end c false r 0 1)
      (costs_on list root end c false true false (3 + 2) 13 (mask ∷ []) (code.BitWrite register bit from ∷ [])
      (tames_one list root end c 3 mask (λ loops place before. bits_tame c Andwf from from (bytes.Result r 0) refl h h tt 0) false)
      (costs_one list root end c true false 13 (code.BitWrite register bit from) (λ loops place before. write_pays register bit place from h))))

  pub written_takes : (spot : Spot) (r : Root) (pointer from : Byte) (w : ℕ) → IsMine c pointer → IsMine c from → Takes list root end c (store_words (form_at spot) w) (written_row spot r pointer from w)
  written_takes (Fixed to) r pointer from w h g = copies_takes list root end c to from w
  written_takes (Bit register bit) r pointer from w h g = bit_takes r register bit from g
  written_takes Computed r pointer from w h g = takes_more list root end c (3 * w + 5 + 2) (14 + 12 * w) (code.Store pointer from w ∷ []) (omega arith) (takes_tames list root end c (3 * w + 5) (code.Store pointer from w ∷ []) (stores_tames pointer from w h g))

  pub assigned_takes : (wanted : Bool) (spot : Spot) (r : Root) (at : Byte) (w : ℕ) → IsMine c at → Takes list root end c (store_words (form_at spot) w) (assigned_row wanted spot r at w)
  assigned_takes wanted (Fixed to) r at w h =
      takes_more list root end c (6 * w + 0) (6 * w) (assigned_row wanted (Fixed to) r at w) (omega arith) (takes_on list root end c (6 * w) 0 (copies to (behind at 0) w) [] (copies_takes list root end c to (behind at 0) w) (takes_none list root end c))
  assigned_takes wanted (Bit register bit) r at w h =
      takes_more list root end c (20 + 0) 20 (assigned_row wanted (Bit register bit) r at w) (omega arith) (takes_on list root end c 20 0 (bit_row r register bit (behind at 0)) [] (bit_takes r register bit (behind at 0) (mine_lower c at 0 h)) (takes_none list root end c))
  assigned_takes wanted Computed r at w h =
      takes_more list root end c (3 * w + 5 + 2 + (2 * w + 2)) (14 + 12 * w) (assigned_row wanted Computed r at w) (omega arith)
      (takes_on list root end c (3 * w + 5 + 2) (2 * w + 2) (code.Store at (behind at 2) w ∷ []) (copies_if wanted at (behind at 2) w)
      (takes_tames list root end c (3 * w + 5) (code.Store at (behind at 2) w ∷ []) (stores_tames at (behind at 2) w h (mine_lower c at 2 h))) (near_if list root end c wanted at (behind at 2) w h (mine_lower c at 2 h)))

  -- ---- calls
  pub called_takes : (wanted : Bool) (r : Root) (callee : ℕ) (at : Byte) (arguments count : ℕ) → IsMine c at → Takes list root end c (6 * arguments + 6 * count + 6) (called_row wanted r callee at arguments count)
  called_takes wanted r callee at arguments count h =
      takes_more list root end c (6 * arguments + 3 + (2 * count + 2)) (6 * arguments + 6 * count + 6) (called_row wanted r callee at arguments count) (omega arith)
      (takes_on list root end c (6 * arguments + 3) (2 * count + 2) (copies (bytes.Frame callee 0) at arguments ++ code.Call callee ∷ []) (copies_if wanted at (bytes.Result r 0) count)
      (takes_on list root end c (6 * arguments) 3 (copies (bytes.Frame callee 0) at arguments) (code.Call callee ∷ []) (copies_takes list root end c (bytes.Frame callee 0) at arguments) (takes_one list root end c 3 (code.Call callee) (λ loops place before. enter_pays c callee false)))
      (results_if list root end c wanted at r 0 count h))

  -- ---- structures
  -- the pointer of a side goes on, where it has one
  abbrev Advances : Spot → Byte → Root → Type 0
  Advances spot pointer r = (advance (side_of spot pointer) (bytes.Result r 0) ≡ []) ⊎ Tames list root end c 6 (advance (side_of spot pointer) (bytes.Result r 0))

  add_tames : (pointer : Byte) (r : Root) → IsMine c pointer → Tames list root end c 6 (operator binop.Add UInt pointer (bytes.Result r 0) ∷ [])
  add_tames pointer r h = tames_one list root end c 6 (operator binop.Add UInt pointer (bytes.Result r 0)) (add_tamed list root end c pointer (bytes.Result r 0) h tt)

  advance_either : (spot : Spot) (pointer : Byte) (r : Root) → IsMine c pointer → Advances spot pointer r
  advance_either (Fixed byte) pointer r h = inl refl
  advance_either (Bit register bit) pointer r h = inr (add_tames pointer r h)
  advance_either Computed pointer r h = inr (add_tames pointer r h)

  copy_in : (to from : Byte) (has : Bool) → IsMine c to → Pays c has false (7 + extra has) true false (copy_code to from)
  copy_in to from has h =
      let l = operand_three c (operands.Byte from) in
      let one = sum_by-cons most_of_one (syms.File Movf (operands.Byte from) W) [] in
      pays_more c has false true false (most_words (file_code Movf from W) + (1 + extra false)) (7 + extra has) (copy_code to from) (omega (arith, l, one))
      (pays_on c has false false false true false (most_words (file_code Movf from W)) (1 + extra false) (file_code Movf from W) (store_code to) (pays_most c has false (file_code Movf from W) refl) (store_mine c to false h))

  copy_from : (to from : Byte) → IsMine c from → Pays c true false 7 false false (copy_code to from)
  copy_from to from h =
      let l = operand_three c (operands.Byte to) in
      let one = sum_by-cons most_of_one (syms.Movwf (operands.Byte to)) [] in
      pays_more c true false false false (1 + 0 + most_words (store_code to)) 7 (copy_code to from) (omega (arith, l, one))
      (pays_on c true false true false false false (1 + 0) (most_words (store_code to)) (file_code Movf from W) (store_code to) (file_mine c Movf from W true h refl) (pays_most c true false (store_code to) refl))

  load_one : (to pointer : Byte) → IsMine c to → IsMine c pointer → (has : Bool) → Costs list root end c has (7 + extra has) true (code.Load to pointer 1 ∷ [])
  load_one to pointer h g has = costs_one list root end c has true (7 + extra has) (code.Load to pointer 1) (λ loops place before. load_tame c to pointer h g 0 has)

  store_one : (pointer from : Byte) → IsMine c pointer → IsMine c from → Costs list root end c true 7 false (code.Store pointer from 1 ∷ [])
  store_one pointer from h g =
      costs_less list root end c true true false 7 (code.Store pointer from 1 ∷ []) (λ e. never e)
      (costs_more list root end c true true (7 + 0) 7 (code.Store pointer from 1 ∷ []) (omega arith) (costs_one list root end c true true (7 + 0) (code.Store pointer from 1) (λ loops place before. store_all_tame c pointer from h g 0 true)))

  taken_costs : (to : Byte) (spot : Spot) (pointer : Byte) (i : ℕ) → IsMine c to → IsMine c pointer → (has : Bool) → Costs list root end c has (7 + extra has) true (taken to (side_of spot pointer) i ∷ [])
  taken_costs to (Fixed byte) pointer i h g has = costs_one list root end c has true (7 + extra has) (code.Copy to (behind byte i)) (λ loops place before. copy_in to (behind byte i) has h)
  taken_costs to (Bit register bit) pointer i h g has = load_one to pointer h g has
  taken_costs to Computed pointer i h g has = load_one to pointer h g has

  given_costs : (from : Byte) (spot : Spot) (pointer : Byte) (i : ℕ) → IsMine c from → IsMine c pointer → Costs list root end c true 7 false (given (side_of spot pointer) from i ∷ [])
  given_costs from (Fixed byte) pointer i h g = costs_one list root end c true false 7 (code.Copy (behind byte i) from) (λ loops place before. copy_from (behind byte i) from h)
  given_costs from (Bit register bit) pointer i h g = store_one pointer from g h
  given_costs from Computed pointer i h g = store_one pointer from g h

  -- a byte of a structure goes from one side to the other
  module _ (r : Root) (to from : Spot) (left right temporary : Byte) (on_left : IsMine c left) (on_right : IsMine c right) (mine : IsMine c temporary) where
    passed : (i : ℕ) (has : Bool) (front : List Tree) (n : ℕ) → Costs list root end c false n has front → n + (14 + extra has) ≤ 28
        → Takes list root end c 28 (front ++ taken temporary (side_of from right) i ∷ [] ++ given (side_of to left) temporary i ∷ [])
    passed i has front n p l =
        costs_more list root end c false false (n + (7 + extra has) + 7) 28 (front ++ taken temporary (side_of from right) i ∷ [] ++ given (side_of to left) temporary i ∷ []) (omega (arith, l))
        (costs_on list root end c false true false (n + (7 + extra has)) 7 (front ++ taken temporary (side_of from right) i ∷ []) (given (side_of to left) temporary i ∷ [])
        (costs_on list root end c false has true n (7 + extra has) front (taken temporary (side_of from right) i ∷ []) p (taken_costs temporary from right i mine on_right has)) (given_costs temporary to left i mine on_left))

    advanced : (i : ℕ) → Advances to left r → Advances from right r → Takes list root end c 28 ((advance (side_of to left) (bytes.Result r 0) ++ advance (side_of from right) (bytes.Result r 0)) ++ taken temporary (side_of from right) i ∷ [] ++ given (side_of to left) temporary i ∷ [])
    advanced i (inl a) (inl b) =
        passed i false (advance (side_of to left) (bytes.Result r 0) ++ advance (side_of from right) (bytes.Result r 0)) 0
        (subst (λ (l : List Tree). Costs list root end c false 0 false (l ++ advance (side_of from right) (bytes.Result r 0))) (sym a) (subst (λ (l : List Tree). Costs list root end c false 0 false l) (sym b) (costs_none list root end c false))) (omega arith)
    advanced i (inl a) (inr q) =
        passed i true (advance (side_of to left) (bytes.Result r 0) ++ advance (side_of from right) (bytes.Result r 0)) 8
        (subst (λ (l : List Tree). Costs list root end c false 8 true (l ++ advance (side_of from right) (bytes.Result r 0))) (sym a) (q false)) (omega arith)
    advanced i (inr p) (inl b) =
        passed i true (advance (side_of to left) (bytes.Result r 0) ++ advance (side_of from right) (bytes.Result r 0)) (8 + 0)
        (costs_on list root end c false true true 8 0 (advance (side_of to left) (bytes.Result r 0)) (advance (side_of from right) (bytes.Result r 0)) (p false) (subst (λ (l : List Tree). Costs list root end c true 0 true l) (sym b) (costs_none list root end c true))) (omega arith)
    advanced i (inr p) (inr q) =
        passed i true (advance (side_of to left) (bytes.Result r 0) ++ advance (side_of from right) (bytes.Result r 0)) (8 + 6)
        (costs_on list root end c false true true 8 6 (advance (side_of to left) (bytes.Result r 0)) (advance (side_of from right) (bytes.Result r 0)) (p false) (helds_tames list root end c 6 (advance (side_of from right) (bytes.Result r 0)) q)) (omega arith)

    byte_takes : (i : ℕ) (first : Bool)
        → Takes list root end c 28 ((if first then [] else (advance (side_of to left) (bytes.Result r 0) ++ advance (side_of from right) (bytes.Result r 0))) ++ taken temporary (side_of from right) i ∷ [] ++ given (side_of to left) temporary i ∷ [])
    byte_takes i true = passed i false [] 0 (costs_none list root end c false) (omega arith)
    byte_takes i false = advanced i (advance_either to left r on_left) (advance_either from right r on_right)

    all_takes : (size : ℕ) → Takes list root end c (28 * size) (structure_bytes (side_of to left) (side_of from right) (bytes.Result r 0) temporary size)
    unfolding structure_bytes
    all_takes zero = takes_none list root end c
    all_takes (suc i) =
        takes_more list root end c (28 * i + 28) (28 * suc i) (structure_bytes (side_of to left) (side_of from right) (bytes.Result r 0) temporary (suc i)) (omega arith)
        (subst (Takes list root end c (28 * i + 28)) (grouped (structure_bytes (side_of to left) (side_of from right) (bytes.Result r 0) temporary i) (advances (side_of to left) (side_of from right) (bytes.Result r 0) i) (taken temporary (side_of from right) i ∷ []) (given (side_of to left) temporary i ∷ []))
        (takes_on list root end c (28 * i) 28 (structure_bytes (side_of to left) (side_of from right) (bytes.Result r 0) temporary i) (advances (side_of to left) (side_of from right) (bytes.Result r 0) i ++ taken temporary (side_of from right) i ∷ [] ++ given (side_of to left) temporary i ∷ []) (all_takes i) (byte_takes i (nat_eq i 0))))
      where
        grouped : (a b x y : List Tree) → a ++ (b ++ x ++ y) ≡ a ++ b ++ x ++ y
        grouped a b x y = sym (append_assoc a (b ++ x) y) ∙ ap (λ (l : List Tree). l ++ y) (sym (append_assoc a b x))

    row_takes : (size : ℕ) → Takes list root end c (28 * size + 8) (structure_row r (side_of to left) (side_of from right) temporary size)
    row_takes size =
        takes_more list root end c (2 + (2 + 28 * size)) (28 * size + 8) (structure_row r (side_of to left) (side_of from right) temporary size) (omega arith)
        (takes_on list root end c 2 (2 + 28 * size) (code.Set (bytes.Result r 0) 1 ∷ []) (code.Set (bytes.Result r 1) 0 ∷ structure_bytes (side_of to left) (side_of from right) (bytes.Result r 0) temporary size) (result_one list root end c false r 0 1)
        (takes_on list root end c 2 (28 * size) (code.Set (bytes.Result r 1) 0 ∷ []) (structure_bytes (side_of to left) (side_of from right) (bytes.Result r 0) temporary size) (result_one list root end c false r 1 0) (all_takes size)))

  through_takes : (r : Root) (place from : Spot) (at : Byte) (size : ℕ) → IsMine c at → Takes list root end c (28 * size + 8) (through_row r place from at size)
  through_takes r place from at size h =
      row_takes r place from at (behind at (pointer_bytes place)) (behind (behind at (pointer_bytes place)) (pointer_bytes from)) h (mine_lower c at (pointer_bytes place) h) (mine_lower c (behind at (pointer_bytes place)) (pointer_bytes from) (mine_lower c at (pointer_bytes place) h)) size

  within : (size : ℕ) → 6 * beyond 0 size ≤ 6 * size
  unfolding beyond
  within size = omega arith

  pub struct_takes : (r : Root) (place from : Spot) (at : Byte) (size : ℕ) → IsMine c at → Takes list root end c (struct_words (form_at place) (form_at from) size) (struct_row r place from at size)
  struct_takes r (Fixed to) (Fixed byte) at size h = takes_more list root end c (6 * beyond 0 size) (6 * size) (copies to byte (beyond 0 size)) (within size) (copies_takes list root end c to byte (beyond 0 size))
  struct_takes r (Fixed to) (Bit register bit) at size h = through_takes r (Fixed to) (Bit register bit) at size h
  struct_takes r (Fixed to) Computed at size h = through_takes r (Fixed to) Computed at size h
  struct_takes r (Bit register bit) from at size h = through_takes r (Bit register bit) from at size h
  struct_takes r Computed from at size h = through_takes r Computed from at size h

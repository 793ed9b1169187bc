-- How many words the rows of the code of expressions take: numbers, copies, conversions and choices.
use Rattle.std.proofs.Common.{◌≡◌, ℕ, zero, suc, ◌+◌, ◌-◌, ◌*◌, ◌≤◌, Bool, true, false, ◌&&◌, nat_eq, cond, nat_lt, if◌then◌else◌, List, [], ◌∷◌, refl, sym, subst, eq-eqb, arith}
use Rattle.c_ints.specs.Range.{bytes_of}
use Rattle.c_ints.specs.declared.operators.BinOp.{BinOp}
use Rattle.c_ints.specs.declared.operators.BinOp.TheVariants as binop
use Rattle.c_ints.specs.declared.types.IntTy.{IntTy}
use Rattle.c_ints.specs.declared.types.IntTy.TheVariants.{UInt}
use Rattle.c_typed.specs.Types.{type_bytes}
use Rattle.c_typed.specs.Words.{convert_words}
use Rattle.c_typed.specs.declared.types.Ty.{Ty}
use Rattle.c_typed.specs.declared.types.Ty.TheVariants.{Void, Int, Pointer, Array, Struct}
use Rattle.call_graph.specs.declared.types.FnCopy.{FnCopy}
use Rattle.core_code.specs.Bytes.{same_byte}
use Rattle.core_code.specs.Tree as code
use Rattle.core_code.specs.Tree.{Tree, many}
use Rattle.core_code.specs.declared.code.Byte.{Byte}
use Rattle.core_code.specs.declared.code.Byte.TheVariants as bytes
use Rattle.core_puts.specs.Bytes.{behind, little_beyond, byte_at}
use Rattle.core_puts.specs.Puts.{copies, copies_if, sets, operator, test_size, choice}
use Rattle.lower_expr.specs.Rows.{wider, widened}
use Rattle.pic_world.specs.declared.Root.{Root}
use Rattle.select_code.specs.Sized.{is_cut}
use Rattle.select_code.specs.declared.control.Ending.{Ending}
use Rattle.select_wide.specs.Selection.{wide_code}
use Rattle.program_code.proofs.Paying.{IsMine, IsEasy, Pays, pays_more}
use Rattle.program_code.proofs.Operations.{set_tame, zero_tame, set_result, copy_tame, copy_out, sum_in_place}
use Rattle.program_code.proofs.Operators.{loose_none, binary_most, binary_loose, copy_pays, widening_pays}
use Rattle.program_code.proofs.Lowered.{Costs, Takes, Tames, Helds, Tamed, costs_more, costs_none, costs_one, takes_on, takes_more, takes_none, takes_one, tames_on, tames_more, tames_one, takes_tames, helds_on, helds_more, helds_one, many_one, test_most, if_one}

-- ---- bytes behind others
pub mine_lower : (c : ℕ) (byte : Byte) (k : ℕ) → IsMine c byte → IsMine c (behind byte k)
mine_lower c (bytes.Frame d n) k h = h
mine_lower c (bytes.Static object offset) k h = absurd h
mine_lower c (bytes.Result r n) k h = absurd h
mine_lower c (bytes.Device address) k h = absurd h

and_true : (a b : Bool) → a ≡ true → b ≡ true → (a && b) ≡ true
and_true true b e f = f
and_true false b e f = e

pub same_mine : (c : ℕ) (byte : Byte) → IsMine c byte → same_byte byte byte ≡ true
same_mine c (bytes.Frame d n) h = and_true (nat_eq d d) (nat_eq n n) (eq-eqb d d refl) (eq-eqb n n refl)
same_mine c (bytes.Static object offset) h = absurd h
same_mine c (bytes.Result r n) h = absurd h
same_mine c (bytes.Device address) h = absurd h

-- ---- tests
test_within : (s n : ℕ) → n ≤ s → test_most n ≤ 4 * s + 1
test_within s zero l = omega arith
test_within s (suc n) l = omega (arith, l)

size_within : (s : ℕ) → test_size s ≤ s
unfolding test_size
size_within s = omega arith

pub test_four : (s : ℕ) → test_most (test_size s) ≤ 4 * s + 1
test_four s = test_within s (test_size s) (size_within s)

module _ (list : List FnCopy) (root : Root) (end : Ending) (c : ℕ) where
  -- ---- numbers
  pub set_tamed : (to : Byte) (value : ℕ) → IsMine c to → Tamed list root end c 2 (code.Set to value)
  set_tamed to value h loops at before = set_tame c to value h

  set_same : (to : Byte) (value : ℕ) → IsMine c to → value ≡ 0 → Tamed list root end c 1 (code.Set to value)
  set_same to value h e = subst (λ n. Tamed list root end c 1 (code.Set to n)) (sym e) (λ loops at before. zero_tame c to h)

  pub sets_tames : (to : Byte) (number k : ℕ) → IsMine c to → Tames list root end c (2 * k + 2) (sets to number (suc k))
  unfolding sets
  sets_tames to number zero h = tames_one list root end c 2 (code.Set (behind to 0) (byte_at number 0)) (set_tamed (behind to 0) (byte_at number 0) (mine_lower c to 0 h))
  sets_tames to number (suc k) h =
      tames_more list root end c (2 * k + 2 + 2) (2 * suc k + 2) (sets to number (suc (suc k))) (omega arith)
      (tames_on list root end c (2 * k + 2) 2 (sets to number (suc k)) (code.Set (behind to (suc k)) (byte_at number (suc k)) ∷ []) (sets_tames to number k h)
      (helds_one list root end c 2 (code.Set (behind to (suc k)) (byte_at number (suc k))) (set_tamed (behind to (suc k)) (byte_at number (suc k)) (mine_lower c to (suc k) h))))

  pub sets_takes : (to : Byte) (number w : ℕ) → IsMine c to → Takes list root end c (4 * w) (sets to number w)
  unfolding sets
  sets_takes to number zero h = takes_none list root end c
  sets_takes to number (suc k) h = takes_more list root end c (2 * k + 2 + 2) (4 * suc k) (sets to number (suc k)) (omega arith) (takes_tames list root end c (2 * k + 2) (sets to number (suc k)) (sets_tames to number k h))

  -- 0 and 1 as ints
  pub nought_takes : (to : Byte) → IsMine c to → Takes list root end c 4 (sets to 0 2)
  unfolding sets byte_at
  nought_takes to h =
      takes_tames list root end c 2 (sets to 0 2)
      (tames_on list root end c 1 1 (code.Set (behind to 0) 0 ∷ []) (code.Set (behind to 1) 0 ∷ []) (tames_one list root end c 1 (code.Set (behind to 0) 0) (set_same (behind to 0) 0 (mine_lower c to 0 h) refl))
      (helds_one list root end c 1 (code.Set (behind to 1) 0) (set_same (behind to 1) 0 (mine_lower c to 1 h) refl)))

  pub one_takes : (to : Byte) → IsMine c to → Takes list root end c 5 (sets to 1 2)
  unfolding sets byte_at
  one_takes to h =
      takes_tames list root end c 3 (sets to 1 2)
      (tames_on list root end c 2 1 (code.Set (behind to 0) 1 ∷ []) (code.Set (behind to 1) 0 ∷ []) (tames_one list root end c 2 (code.Set (behind to 0) 1) (set_tamed (behind to 0) 1 (mine_lower c to 0 h)))
      (helds_one list root end c 1 (code.Set (behind to 1) 0) (set_same (behind to 1) 0 (mine_lower c to 1 h) refl)))

  -- a number to result bytes
  pub result_one : (has : Bool) (r : Root) (k value : ℕ) → Costs list root end c has 2 has (code.Set (bytes.Result r k) value ∷ [])
  result_one has r k value = costs_one list root end c has has 2 (code.Set (bytes.Result r k) value) (λ loops at before. set_result c r k value has)

  -- ---- copies
  pub copies_takes : (to from : Byte) (w : ℕ) → Takes list root end c (6 * w) (copies to from w)
  unfolding copies
  copies_takes to from zero = takes_none list root end c
  copies_takes to from (suc k) =
      takes_more list root end c (6 * k + 6) (6 * suc k) (copies to from (suc k)) (omega arith)
      (takes_on list root end c (6 * k) 6 (copies to from k) (code.Copy (behind to k) (behind from k) ∷ []) (copies_takes to from k)
      (takes_one list root end c 6 (code.Copy (behind to k) (behind from k)) (λ loops at before. copy_pays c (behind to k) (behind from k) false)))

  pub copies_helds : (to from : Byte) (w : ℕ) → IsMine c to → IsMine c from → Helds list root end c (2 * w) (copies to from w)
  unfolding copies
  copies_helds to from zero h g = costs_none list root end c true
  copies_helds to from (suc k) h g =
      helds_more list root end c (2 * k + 2) (2 * suc k) (copies to from (suc k)) (omega arith)
      (helds_on list root end c (2 * k) 2 (copies to from k) (code.Copy (behind to k) (behind from k) ∷ []) (copies_helds to from k h g)
      (helds_one list root end c 2 (code.Copy (behind to k) (behind from k)) (λ loops at before. copy_tame c (behind to k) (behind from k) (mine_lower c to k h) (mine_lower c from k g))))

  pub copies_tames : (to from : Byte) (k : ℕ) → IsMine c to → IsMine c from → Tames list root end c (2 * k + 2) (copies to from (suc k))
  unfolding copies
  copies_tames to from zero h g = tames_one list root end c 2 (code.Copy (behind to 0) (behind from 0)) (λ loops at before. copy_tame c (behind to 0) (behind from 0) (mine_lower c to 0 h) (mine_lower c from 0 g))
  copies_tames to from (suc k) h g =
      tames_more list root end c (2 * k + 2 + 2) (2 * suc k + 2) (copies to from (suc (suc k))) (omega arith)
      (tames_on list root end c (2 * k + 2) 2 (copies to from (suc k)) (code.Copy (behind to (suc k)) (behind from (suc k)) ∷ []) (copies_tames to from k h g)
      (helds_one list root end c 2 (code.Copy (behind to (suc k)) (behind from (suc k))) (λ loops at before. copy_tame c (behind to (suc k)) (behind from (suc k)) (mine_lower c to (suc k) h) (mine_lower c from (suc k) g))))

  pub copies_near : (to from : Byte) (w : ℕ) → IsMine c to → IsMine c from → Takes list root end c (2 * w + 2) (copies to from w)
  unfolding copies
  copies_near to from zero h g = takes_more list root end c 0 2 [] (omega arith) (takes_none list root end c)
  copies_near to from (suc k) h g = takes_more list root end c (2 * k + 2 + 2) (2 * suc k + 2) (copies to from (suc k)) (omega arith) (takes_tames list root end c (2 * k + 2) (copies to from (suc k)) (copies_tames to from k h g))

  out_tamed : (to : Byte) (r : Root) (n k j : ℕ) → IsMine c to → Tamed list root end c 2 (code.Copy (behind to k) (behind (bytes.Result r n) j))
  out_tamed to r n k j h loops at before = copy_out c (behind to k) r (little_beyond n j) (mine_lower c to k h)

  results_tames : (to : Byte) (r : Root) (n k : ℕ) → IsMine c to → Tames list root end c (2 * k + 2) (copies to (bytes.Result r n) (suc k))
  unfolding copies
  results_tames to r n zero h = tames_one list root end c 2 (code.Copy (behind to 0) (behind (bytes.Result r n) 0)) (out_tamed to r n 0 0 h)
  results_tames to r n (suc k) h =
      tames_more list root end c (2 * k + 2 + 2) (2 * suc k + 2) (copies to (bytes.Result r n) (suc (suc k))) (omega arith)
      (tames_on list root end c (2 * k + 2) 2 (copies to (bytes.Result r n) (suc k)) (code.Copy (behind to (suc k)) (behind (bytes.Result r n) (suc k)) ∷ []) (results_tames to r n k h)
      (helds_one list root end c 2 (code.Copy (behind to (suc k)) (behind (bytes.Result r n) (suc k))) (out_tamed to r n (suc k) (suc k) h)))

  pub results_takes : (to : Byte) (r : Root) (n w : ℕ) → IsMine c to → Takes list root end c (2 * w + 2) (copies to (bytes.Result r n) w)
  unfolding copies
  results_takes to r n zero h = takes_more list root end c 0 2 [] (omega arith) (takes_none list root end c)
  results_takes to r n (suc k) h = takes_more list root end c (2 * k + 2 + 2) (2 * suc k + 2) (copies to (bytes.Result r n) (suc k)) (omega arith) (takes_tames list root end c (2 * k + 2) (copies to (bytes.Result r n) (suc k)) (results_tames to r n k h))

  pub near_if : (wanted : Bool) (to from : Byte) (w : ℕ) → IsMine c to → IsMine c from → Takes list root end c (2 * w + 2) (copies_if wanted to from w)
  near_if true to from w h g = copies_near to from w h g
  near_if false to from w h g = takes_more list root end c 0 (2 * w + 2) [] (omega arith) (takes_none list root end c)

  pub results_if : (wanted : Bool) (to : Byte) (r : Root) (n w : ℕ) → IsMine c to → Takes list root end c (2 * w + 2) (copies_if wanted to (bytes.Result r n) w)
  results_if true to r n w h = results_takes to r n w h
  results_if false to r n w h = takes_more list root end c 0 (2 * w + 2) [] (omega arith) (takes_none list root end c)

  -- ---- conversions
  cut_pays : (from to : IntTy) (at : Byte) (cut : Bool) → IsMine c at → Pays c false false (8 + 4 * (bytes_of to - bytes_of from)) false false (cond cut [] (wide_code list root [] (code.Convert from to at)))
  cut_pays from to at true h = pays_more c false false false false 2 (8 + 4 * (bytes_of to - bytes_of from)) [] (omega arith) (loose_none c false)
  cut_pays from to at false h = pays_more c false false false false (bytes_of to - bytes_of from + 3 + (2 + 2)) (8 + 4 * (bytes_of to - bytes_of from)) (wide_code list root [] (code.Convert from to at)) (omega arith) (widening_pays c from to at false h)

  wider_takes : (from to : IntTy) (at : Byte) → IsMine c at → Takes list root end c (convert_words (bytes_of from) (bytes_of to)) (wider from to at)
  wider_takes from to at h = by_wider (nat_lt (bytes_of from) (bytes_of to))
    where
      by_wider : (b : Bool) → Takes list root end c (if b then 8 + 4 * (bytes_of to - bytes_of from) else 0) (if b then code.Convert from to at ∷ [] else [])
      by_wider true = takes_one list root end c (8 + 4 * (bytes_of to - bytes_of from)) (code.Convert from to at) (λ loops place before. cut_pays from to at (is_cut from to) h)
      by_wider false = takes_none list root end c

  pub widened_takes : (sizes : List ℕ) (from to : Ty) (at : Byte) → IsMine c at → Takes list root end c (convert_words (type_bytes sizes from) (type_bytes sizes to)) (widened from to at)
  widened_takes sizes (Int from) (Int to) at h = wider_takes from to at h
  widened_takes sizes (Int from) (Pointer target) at h = wider_takes from UInt at h
  widened_takes sizes (Pointer target) (Int to) at h = wider_takes UInt to at h
  widened_takes sizes (Pointer target) (Pointer other) at h = wider_takes UInt UInt at h
  widened_takes sizes Void to at h = takes_more list root end c 0 (convert_words 0 (type_bytes sizes to)) [] (omega arith) (takes_none list root end c)
  widened_takes sizes (Array element length size) to at h = takes_more list root end c 0 (convert_words size (type_bytes sizes to)) [] (omega arith) (takes_none list root end c)
  widened_takes sizes (Struct number) to at h = takes_more list root end c 0 (convert_words (type_bytes sizes (Struct number)) (type_bytes sizes to)) [] (omega arith) (takes_none list root end c)
  widened_takes sizes (Int from) Void at h = takes_more list root end c 0 (convert_words (bytes_of from) 0) [] (omega arith) (takes_none list root end c)
  widened_takes sizes (Int from) (Array element length size) at h = takes_more list root end c 0 (convert_words (bytes_of from) size) [] (omega arith) (takes_none list root end c)
  widened_takes sizes (Int from) (Struct number) at h = takes_more list root end c 0 (convert_words (bytes_of from) (type_bytes sizes (Struct number))) [] (omega arith) (takes_none list root end c)
  widened_takes sizes (Pointer target) Void at h = takes_more list root end c 0 (convert_words 2 0) [] (omega arith) (takes_none list root end c)
  widened_takes sizes (Pointer target) (Array element length size) at h = takes_more list root end c 0 (convert_words 2 size) [] (omega arith) (takes_none list root end c)
  widened_takes sizes (Pointer target) (Struct number) at h = takes_more list root end c 0 (convert_words 2 (type_bytes sizes (Struct number))) [] (omega arith) (takes_none list root end c)

  -- ---- operators and choices
  pub operator_takes : (op : BinOp) (ty : IntTy) (at right : Byte) → IsMine c at → IsMine c right → Takes list root end c (binary_most op (bytes_of ty) + 2) (operator op ty at right ∷ [])
  operator_takes op ty at right h g =
      takes_one list root end c (binary_most op (bytes_of ty) + 2) (operator op ty at right) (λ loops place before. binary_loose c list root before at right (same_mine c at h) h g op ty false)

  -- the same where the frame's bank is selected
  pub operator_held : (op : BinOp) (ty : IntTy) (at right : Byte) → IsMine c at → IsMine c right → Costs list root end c true (binary_most op (bytes_of ty)) false (operator op ty at right ∷ [])
  operator_held op ty at right h g =
      costs_more list root end c true false (binary_most op (bytes_of ty) + 0) (binary_most op (bytes_of ty)) (operator op ty at right ∷ []) (omega arith)
      (costs_one list root end c true false (binary_most op (bytes_of ty) + 0) (operator op ty at right) (λ loops place before. binary_loose c list root before at right (same_mine c at h) h g op ty true))

  -- two bytes more
  pub add_tamed : (at right : Byte) → IsMine c at → IsEasy c right → Tamed list root end c 6 (operator binop.Add UInt at right)
  add_tamed at right h g loops place before = sum_in_place c at right (same_mine c at h) h g 1

  pub choice_takes : (test : Byte) (size h f : ℕ) (held failed : List Tree) → IsMine c test → Takes list root end c h held → Takes list root end c f failed → Takes list root end c (test_most (test_size size) + 7 + h + f) (choice test size held failed ∷ [])
  choice_takes test size h f held failed mine p q =
      takes_one list root end c (test_most (test_size size) + 7 + h + f) (choice test size held failed)
      (if_one list root end c test (test_size size) h f (many held) (many failed) mine (many_one list root end c false false h held p) (many_one list root end c false false f failed q))

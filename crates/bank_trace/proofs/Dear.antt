-- Two selects at most for each byte in a bank, and for each jump and call.
use Rattle.std.proofs.Common.{◌≡◌, ℕ, zero, suc, ◌+◌, ◌≤◌, Bool, true, false, not, ◌&&◌, ◌||◌, if◌then◌else◌, List, [], ◌∷◌, ◌++◌, length, length-append, take, drop, take-append-drop, Option, Some, None, refl, sym, ap, ◌∙◌, subst, arith}
use Rattle.std.proofs.lemmas.List.Sums.{sum_by-cons}
use Rattle.pic_map.specs.declared.Placed.{Placed}
use Rattle.sym_code.specs.Selects.{is_select}
use Rattle.sym_code.specs.Words.{words_of_one, most_of_one, most_words}
use Rattle.sym_code.specs.declared.code.BlockName.{BlockName}
use Rattle.sym_code.specs.declared.code.Sym.{Sym}
use Rattle.sym_code.specs.declared.code.Sym.TheVariants as syms
use Rattle.math_helpers.specs.Shape.{is_straight, sum_from}
use Rattle.bank_page.specs.Kinds.{is_label, is_skip}
use Rattle.bank_page.specs.Known.{knows, learned}
use Rattle.bank_page.specs.Links.{price_from}
use Rattle.bank_page.specs.Needs.{needs_in}
use Rattle.bank_page.specs.Step.{bank_selects, page_selects, unknown, missing, behind_bank, missing_for, state_of, selected_from}
use Rattle.bank_page.specs.declared.known.Known.{Known}
use Rattle.bank_page.specs.declared.needs.Needs.{Needs}
use Rattle.bank_page.specs.declared.selecting.State.{State}
use Rattle.bank_page.proofs.Sizes.{extra, chain_cost, chain_cost_step, debt, needs_cost, cost_of_needs, count_bank, count_page, one_most}
use Rattle.bank_trace.proofs.Puts.{never, count_of, after_one, priced_first, priced_later, sum_same, sum_shift}
use Rattle.bank_trace.proofs.Straight.{has_none, none_first, none_later, straight_once, straight_first, straight_last, straight_later}

-- ---- the selects for some needs
unknown_few : (s : Sym) (c : Bool) → length (if c then [] else s ∷ []) ≤ 1
unknown_few s true = omega arith
unknown_few s false = omega arith

pub missing_few : (own : BlockName) (known : Known) (list : List Sym) → length (missing own known list) ≤ length list
missing_few own known [] = omega arith
missing_few own known (s ∷ list) =
    let one = unknown_few s (knows own known s) in
    let others = missing_few own (learned own known s) list in
    let two = length-append (unknown own known s) (missing own (learned own known s) list) in
    omega arith

pub few_for : (own : BlockName) (known : Known) (needs : Needs) → length (missing_for own known needs) ≤ needs_cost needs
few_for own known needs =
    let banks = missing_few own known (bank_selects needs.bank) in
    let pages = missing_few own (behind_bank own known needs) (page_selects needs.page) in
    let two = length-append (missing own known (bank_selects needs.bank)) (missing own (behind_bank own known needs) (page_selects needs.page)) in
    let bank = count_bank needs.bank in
    let page = count_page needs.page in
    omega arith

-- ---- one instruction
one_word : (s : Sym) → is_label s ≡ false → words_of_one s ≡ 1
one_word (syms.Label label) l = never (sym l)
one_word s l = refl

dear_one : (s : Sym) → is_select s ≡ false → is_label s ≡ false → 1 + extra s ≤ most_of_one s
dear_one s e l =
    let most = one_most s e in
    let one = one_word s l in
    omega arith

chain_is : (s : Sym) (rest : List Sym) → is_select s ≡ false → chain_cost (s ∷ rest) ≡ extra s + (if is_skip s then chain_cost rest else 0)
chain_is s rest e = ap (λ (b : Bool). chain_cost_step b (is_skip s) (extra s) (chain_cost rest)) e

-- a run of skips ends among straight instructions
chain_front : (s : Sym) (part rest : List Sym) → is_straight (s ∷ part) ≡ true → has_none (s ∷ part) ≡ true → chain_cost (s ∷ part ++ rest) ≡ chain_cost (s ∷ part)
chain_front s [] rest e n =
    let f = none_first s [] n in
    chain_is s rest f ∙ ap (λ (b : Bool). extra s + (if b then chain_cost rest else 0)) (straight_last s e) ∙ sym (chain_is s [] f ∙ ap (λ (b : Bool). extra s + (if b then 0 else 0)) (straight_last s e))
chain_front s (t ∷ part) rest e n =
    let f = none_first s (t ∷ part) n in
    chain_is s (t ∷ part ++ rest) f
    ∙ ap (λ k. extra s + (if is_skip s then k else 0)) (chain_front t part rest (straight_later s (t ∷ part) e) (none_later s (t ∷ part) n))
    ∙ sym (chain_is s (t ∷ part) f)

pub none_front : (part rest : List Sym) → has_none (part ++ rest) ≡ true → has_none part ≡ true
none_front [] rest e = refl
none_front (s ∷ part) rest e = by_first (is_select s) (has_none (part ++ rest)) e (none_front part rest (none_later s (part ++ rest) e))
  where
    by_first : (a b : Bool) → (not a && b) ≡ true → has_none part ≡ true → (not a && has_none part) ≡ true
    by_first true b e h = never e
    by_first false b e h = h

-- ---- straight instructions
module _ (placed : Placed) (own : BlockName) where
  count_few : (st : State) (s : Sym) (rest : List Sym) (label : Bool) (needs : Option Needs) → needs_in placed (s ∷ rest) ≡ needs → count_of (st.behind || label) own st needs + debt st.behind (s ∷ rest) ≤ chain_cost (s ∷ rest)
  count_few st s rest label needs is = by_behind st.behind
    where
      by_needs : (needs : Option Needs) → needs_in placed (s ∷ rest) ≡ needs → count_of false own st needs ≤ chain_cost (s ∷ rest)
      by_needs None is = omega arith
      by_needs (Some n) is = let a = few_for own st.known n in let b = cost_of_needs placed (s ∷ rest) n is in omega arith

      less : (b : Bool) → count_of b own st needs ≤ chain_cost (s ∷ rest)
      less true = omega arith
      less false = by_needs needs is

      by_behind : (b : Bool) → count_of (b || label) own st needs + debt b (s ∷ rest) ≤ chain_cost (s ∷ rest)
      by_behind true = omega arith
      by_behind false = let h = less label in omega arith

  pub behind_is : (select plain : Bool) (st : State) (s : Sym) (needs : Option Needs) → select ≡ false → (state_of select plain own st s needs).behind ≡ is_skip s
  behind_is true plain st s needs e = never (sym e)
  behind_is false true st s needs e = refl
  behind_is false false st s None e = refl
  behind_is false false st s (Some n) e = refl

  debt_nil : (b : Bool) → debt b [] ≡ 0
  debt_nil true = refl
  debt_nil false = refl

  debt_is : (b : Bool) (list : List Sym) → debt b list ≡ (if b then chain_cost list else 0)
  debt_is true list = refl
  debt_is false list = refl

  debt_front : (b : Bool) (s : Sym) (part rest : List Sym) → chain_cost (s ∷ part ++ rest) ≡ chain_cost (s ∷ part) → debt b (s ∷ part ++ rest) ≡ debt b (s ∷ part)
  debt_front true s part rest e = e
  debt_front false s part rest e = refl

  -- the prices behind a first instruction are those of the rest
  pub sum_later : (st : State) (s : Sym) (rest part : List Sym) (no_select : is_select s ≡ false)
      → sum_from (price_from 0 (selected_from placed own st (s ∷ rest))) 1 part ≡ sum_from (price_from 0 (selected_from placed own (after_one placed own st s rest no_select) rest)) 0 part
  sum_later st s rest part no_select =
      let p = price_from 0 (selected_from placed own st (s ∷ rest)) in
      sum_shift p 0 part ∙ sum_same (λ k. p (suc k)) (price_from 0 (selected_from placed own (after_one placed own st s rest no_select) rest)) (priced_later placed own st s rest no_select) 0 part

  dear_front : (part rest : List Sym) (st : State) → has_none (part ++ rest) ≡ true → is_straight part ≡ true → sum_from (price_from 0 (selected_from placed own st (part ++ rest))) 0 part + debt st.behind part ≤ most_words part
  dear_front [] rest st n e = let z = debt_nil st.behind in omega arith
  dear_front (s ∷ part) rest st n e =
      let no_select = none_first s (part ++ rest) n in
      let next = after_one placed own st s (part ++ rest) no_select in
      let later = dear_front part rest next (none_later s (part ++ rest) n) (straight_later s part e) in
      let needs = needs_in placed (s ∷ part ++ rest) in
      let behind = ap (λ (b : Bool). debt b part) (behind_is (is_select s) (st.behind || is_label s) st s needs no_select) ∙ debt_is (is_skip s) part in
      let first = priced_first placed own st s (part ++ rest) no_select (straight_first s part e) (straight_once s part e) in
      let others = sum_later st s (part ++ rest) part no_select in
      let few = count_few st s (part ++ rest) (is_label s) needs refl in
      let front = chain_front s part rest e (none_front (s ∷ part) rest n) in
      let owed = debt_front st.behind s part rest front in
      let own_cost = chain_is s part no_select in
      let most = dear_one s no_select (straight_first s part e) in
      let sum = sum_by-cons most_of_one s part in
      omega arith

  none_drop : (n : ℕ) (list : List Sym) → has_none list ≡ true → has_none (drop n list) ≡ true
  none_drop zero list e = e
  none_drop (suc n) [] e = refl
  none_drop (suc n) (s ∷ list) e = none_drop n list (none_later s list e)

  no_part : (price : ℕ → ℕ) (n : ℕ) (part : List Sym) → [] ≡ part → sum_from price n part ≤ most_words part
  no_part price n [] e = omega arith
  no_part price n (s ∷ part) e = absurd (cc)

  pub nothing_taken : (k : ℕ) (list : List Sym) → list ≡ [] → take k list ≡ []
  nothing_taken zero [] e = refl
  nothing_taken (suc k) [] e = refl
  nothing_taken k (s ∷ list) e = absurd (cc)

  pub dear_at : (n : ℕ) (list : List Sym) (st : State) → has_none list ≡ true → (part : List Sym) → take (length part) (drop n list) ≡ part → is_straight part ≡ true → sum_from (price_from 0 (selected_from placed own st list)) n part ≤ most_words part
  dear_at zero list st none part is e =
      let whole : part ++ drop (length part) list ≡ list = ap (λ (xs : List Sym). xs ++ drop (length part) list) (sym is) ∙ take-append-drop (length part) list in
      let P : List Sym → Type 0 = λ l. has_none l ≡ true → sum_from (price_from 0 (selected_from placed own st l)) 0 part + debt st.behind part ≤ most_words part in
      let h = subst P whole (λ n. dear_front part (drop (length part) list) st n e) none in
      omega arith
  dear_at (suc n) [] st none part is e = no_part (price_from 0 (selected_from placed own st [])) (suc n) part (sym (nothing_taken (length part) [] refl) ∙ is)
  dear_at (suc n) (s ∷ list) st none part is e =
      let no_select = none_first s list none in
      let p = price_from 0 (selected_from placed own st (s ∷ list)) in
      let next = after_one placed own st s list no_select in
      let later = dear_at n list next (none_later s list none) part is e in
      let same = sum_shift p n part ∙ sum_same (λ k. p (suc k)) (price_from 0 (selected_from placed own next list)) (priced_later placed own st s list no_select) n part in
      omega arith

-- What is left of a list without the selects that are known.
use Rattle.std.proofs.Common.{◌≡◌, ℕ, zero, suc, ◌+◌, ◌≤◌, Bool, true, false, not, ◌&&◌, if◌then◌else◌, List, [], ◌∷◌, Option, Some, None, refl, sym, ap, ◌∙◌, subst, arith}
use Rattle.std.proofs.lemmas.List.Sums.{sum_by-cons}
use Rattle.sym_code.specs.Cost.{time_of}
use Rattle.sym_code.specs.Programs.{block_of}
use Rattle.sym_code.specs.Selects.{is_select, bare}
use Rattle.sym_code.specs.Words.{words_of_one, words_in}
use Rattle.sym_code.specs.declared.code.BankBit.TheVariants.{Rp0, Rp1}
use Rattle.sym_code.specs.declared.code.BlockName.{BlockName}
use Rattle.sym_code.specs.declared.code.PageBit.TheVariants.{Low, High}
use Rattle.sym_code.specs.declared.code.Sym.{Sym}
use Rattle.sym_code.specs.declared.code.Sym.TheVariants as syms
use Rattle.bank_page.specs.Kinds.{is_label, is_skip}
use Rattle.bank_page.specs.Known.{learned, knows, is_bit, is_page}
use Rattle.bank_page.specs.Links.{price_from}
use Rattle.bank_page.specs.Near.{sets_rp1, none_sets_rp1}
use Rattle.bank_page.specs.Selected.{Place, Free, Behind, Broken, place_after, walk}
use Rattle.bank_page.specs.declared.known.Known.{Known}
use Rattle.flow_facts.specs.Facts.{Fact, Facts}
use Rattle.flow_facts.specs.Walk.{mated, fact_after, behind_after, holds_of, all_hold}
use Rattle.flow_facts.specs.Thin.{is_known, thin_from}
use Rattle.flow_facts.specs.Laws.{is_lean}
use Rattle.flow_facts.proofs.More.{never, and_first, and_last, and_both, same_bits, same_names}
use Rattle.flow_facts.proofs.Along.{known_select, select_no_skip, select_no_label}

-- ---- where selects stand
abbrev pub place_of : Bool → Place
place_of true = Behind
place_of false = Free

broken_stays : (list : List Sym) → walk Broken list ≡ Broken
broken_stays [] = refl
broken_stays (s ∷ list) = broken_stays list

label_no_skip : (s : Sym) → is_label s ≡ true → is_skip s ≡ false
label_no_skip (syms.Label label) e = refl
label_no_skip s e = never e

free_next : (label skip : Bool) → (label ≡ true → skip ≡ false) → (if skip then Behind else Free) ≡ place_of (if label then false else skip)
free_next true true r = never (sym (r refl))
free_next true false r = refl
free_next false true r = refl
free_next false false r = refl

behind_next : (select label skip : Bool) → select ≡ false → (if select then Broken else (if label then Behind else (if skip then Behind else Free))) ≡ place_of (if label then true else skip)
behind_next true label skip e = never (sym e)
behind_next false true skip e = refl
behind_next false false true e = refl
behind_next false false false e = refl

same_place : (behind : Bool) (s : Sym) → (behind ≡ true → is_select s ≡ false) → place_after (place_of behind) s ≡ place_of (behind_after behind s)
same_place false s r = free_next (is_label s) (is_skip s) (label_no_skip s)
same_place true s r = behind_next (is_select s) (is_label s) (is_skip s) (r refl)

abbrev pub Unbroken : Bool → List Sym → Type 0
Unbroken behind list = walk (place_of behind) list ≡ Broken → ⊥

-- behind a skip stands no select
no_select : (behind : Bool) (s : Sym) (list : List Sym) → Unbroken behind (s ∷ list) → behind ≡ true → is_select s ≡ false
no_select false s list h e = never e
no_select true s list h e = by (is_select s) refl
  where
    by : (c : Bool) → is_select s ≡ c → c ≡ false
    by true is = absurd (h (ap (λ (b : Bool). walk (if b then Broken else (if is_label s then Behind else (if is_skip s then Behind else Free))) list) is ∙ broken_stays list))
    by false is = refl

next_unbroken : (behind : Bool) (s : Sym) (list : List Sym) → Unbroken behind (s ∷ list) → Unbroken (behind_after behind s) list
next_unbroken behind s list h = subst (λ (p : Place). walk p list ≡ Broken → ⊥) (same_place behind s (no_select behind s list h)) h

-- a select stands behind no skip
not_behind : (behind : Bool) (s : Sym) (list : List Sym) → is_select s ≡ true → Unbroken behind (s ∷ list) → behind ≡ false
not_behind false s list select h = refl
not_behind true s list select h = never (sym (no_select true s list h refl) ∙ select)

past_select : (behind : Bool) (s : Sym) (list : List Sym) → is_select s ≡ true → Unbroken behind (s ∷ list) → Unbroken behind list
past_select behind s list select h =
    let free = not_behind behind s list select h in
    let skips : behind_after behind s ≡ false = ap (λ (b : Bool). if b then behind else is_skip s) (select_no_label s select) ∙ select_no_skip s select in
    subst (λ (b : Bool). Unbroken b list) (skips ∙ sym free) (next_unbroken behind s list h)

-- ---- what a known select leaves
bit_kept : (known : Option Bool) (on : Bool) → is_bit known on ≡ true → Some on ≡ known
bit_kept None on e = never e
bit_kept (Some x) on e = ap (λ (b : Bool). Some b) (sym (same_bits x on e))

page_kept : (known : Option BlockName) (name : BlockName) → is_page known name ≡ true → Some name ≡ known
page_kept None name e = never e
page_kept (Some x) name e = ap (λ (b : BlockName). Some b) (sym (same_names x name e))

learned_same : (own : BlockName) (known : Known) (s : Sym) → knows own known s ≡ true → learned own known s ≡ known
learned_same own known (syms.SelectBank Rp0 on) e = ap (λ (o : Option Bool). record known { rp0 = o }) (bit_kept known.rp0 on e)
learned_same own known (syms.SelectBank Rp1 on) e = ap (λ (o : Option Bool). record known { rp1 = o }) (bit_kept known.rp1 on e)
learned_same own known (syms.SelectPage Low target) e = ap (λ (o : Option BlockName). record known { low = o }) (page_kept known.low (block_of own target) e)
learned_same own known (syms.SelectPage High target) e = ap (λ (o : Option BlockName). record known { high = o }) (page_kept known.high (block_of own target) e)
learned_same own known s e = never e

module _ (f : Facts) (own : BlockName) where
  fact_same : (fact : Fact) (behind : Bool) (s : Sym) → is_known f own fact s ≡ true → fact_after f own fact behind s ≡ fact
  fact_same None behind (syms.SelectBank bit on) e = refl
  fact_same None behind (syms.SelectPage bit target) e = refl
  fact_same None behind s e = never e
  fact_same (Some known) behind (syms.SelectBank Rp0 on) e = ap (λ (k : Known). Some k) (learned_same own known (syms.SelectBank Rp0 on) e)
  fact_same (Some known) behind (syms.SelectBank Rp1 on) e = ap (λ (k : Known). Some k) (learned_same own known (syms.SelectBank Rp1 on) e)
  fact_same (Some known) behind (syms.SelectPage bit target) e = ap (λ (k : Known). Some k) (learned_same own known (mated f own (syms.SelectPage bit target)) e)
  fact_same (Some known) behind s e = never e

  abbrev rest_of : Fact → Bool → Sym → List Sym → List Sym
  rest_of fact behind s list = thin_from f own (fact_after f own fact behind s) (behind_after behind s) list

  -- ---- a whole list
  pub hold_thin : (test : Known → Sym → Bool) (fact : Fact) (behind : Bool) (list : List Sym) → Unbroken behind list → all_hold test f own fact behind list ≡ true → all_hold test f own fact behind (thin_from f own fact behind list) ≡ true
  hold_thin test fact behind [] h e = refl
  hold_thin test fact behind (s ∷ list) h e =
      by (is_known f own fact s) refl (hold_thin test fact behind list) (hold_thin test (fact_after f own fact behind s) (behind_after behind s) list)
    where
      later : all_hold test f own (fact_after f own fact behind s) (behind_after behind s) list ≡ true
      later = and_last (holds_of test fact s) (all_hold test f own (fact_after f own fact behind s) (behind_after behind s) list) e

      by : (c : Bool) → is_known f own fact s ≡ c
          → (Unbroken behind list → all_hold test f own fact behind list ≡ true → all_hold test f own fact behind (thin_from f own fact behind list) ≡ true)
          → (Unbroken (behind_after behind s) list → all_hold test f own (fact_after f own fact behind s) (behind_after behind s) list ≡ true → all_hold test f own (fact_after f own fact behind s) (behind_after behind s) (rest_of fact behind s list) ≡ true)
          → all_hold test f own fact behind (if c then thin_from f own fact behind list else s ∷ rest_of fact behind s list) ≡ true
      by true known same next =
          let select = known_select f own fact s known in
          let free = not_behind behind s list select h in
          let skips : behind_after behind s ≡ behind = ap (λ (b : Bool). if b then behind else is_skip s) (select_no_label s select) ∙ select_no_skip s select ∙ sym free in
          same (past_select behind s list select h)
          (subst (λ (x : Fact). all_hold test f own x behind list ≡ true) (fact_same fact behind s known) (subst (λ (b : Bool). all_hold test f own (fact_after f own fact behind s) b list ≡ true) skips later))
      by false known same next =
          and_both (holds_of test fact s) (all_hold test f own (fact_after f own fact behind s) (behind_after behind s) (rest_of fact behind s list))
          (and_first (holds_of test fact s) (all_hold test f own (fact_after f own fact behind s) (behind_after behind s) list) e)
          (next (next_unbroken behind s list h) later)

  pub apart_thin : (fact : Fact) (behind : Bool) (list : List Sym) → Unbroken behind list → Unbroken behind (thin_from f own fact behind list)
  apart_thin fact behind [] h = h
  apart_thin fact behind (s ∷ list) h =
      by (is_known f own fact s) refl (apart_thin fact behind list) (apart_thin (fact_after f own fact behind s) (behind_after behind s) list)
    where
      by : (c : Bool) → is_known f own fact s ≡ c
          → (Unbroken behind list → Unbroken behind (thin_from f own fact behind list))
          → (Unbroken (behind_after behind s) list → Unbroken (behind_after behind s) (rest_of fact behind s list))
          → Unbroken behind (if c then thin_from f own fact behind list else s ∷ rest_of fact behind s list)
      by true known same next = same (past_select behind s list (known_select f own fact s known) h)
      by false known same next =
          subst (λ (p : Place). walk p (rest_of fact behind s list) ≡ Broken → ⊥) (sym (same_place behind s (no_select behind s list h))) (next (next_unbroken behind s list h))

  pub bare_thin : (fact : Fact) (behind : Bool) (list : List Sym) → bare (thin_from f own fact behind list) ≡ bare list
  bare_thin fact behind [] = refl
  bare_thin fact behind (s ∷ list) =
      by (is_known f own fact s) refl (bare_thin fact behind list) (bare_thin (fact_after f own fact behind s) (behind_after behind s) list)
    where
      by : (c : Bool) → is_known f own fact s ≡ c → bare (thin_from f own fact behind list) ≡ bare list → bare (rest_of fact behind s list) ≡ bare list
          → bare (if c then thin_from f own fact behind list else s ∷ rest_of fact behind s list) ≡ bare (s ∷ list)
      by true known same next = same ∙ ap (λ (b : Bool). if not b then s ∷ bare list else bare list) (sym (known_select f own fact s known))
      by false known same next = ap (λ (l : List Sym). if not (is_select s) then s ∷ l else l) next

  pub near_thin : (fact : Fact) (behind : Bool) (list : List Sym) → none_sets_rp1 list ≡ true → none_sets_rp1 (thin_from f own fact behind list) ≡ true
  near_thin fact behind [] e = refl
  near_thin fact behind (s ∷ list) e =
      by (is_known f own fact s) (near_thin fact behind list later) (near_thin (fact_after f own fact behind s) (behind_after behind s) list later)
    where
      later : none_sets_rp1 list ≡ true
      later = and_last (not (sets_rp1 s)) (none_sets_rp1 list) e

      by : (c : Bool) → none_sets_rp1 (thin_from f own fact behind list) ≡ true → none_sets_rp1 (rest_of fact behind s list) ≡ true
          → none_sets_rp1 (if c then thin_from f own fact behind list else s ∷ rest_of fact behind s list) ≡ true
      by true same next = same
      by false same next = and_both (not (sets_rp1 s)) (none_sets_rp1 (rest_of fact behind s list)) (and_first (not (sets_rp1 s)) (none_sets_rp1 list) e) next

  pub shorter_thin : (fact : Fact) (behind : Bool) (list : List Sym) → words_in (thin_from f own fact behind list) ≤ words_in list
  shorter_thin fact behind [] = omega arith
  shorter_thin fact behind (s ∷ list) =
      by (is_known f own fact s) (shorter_thin fact behind list) (shorter_thin (fact_after f own fact behind s) (behind_after behind s) list)
    where
      by : (c : Bool) → words_in (thin_from f own fact behind list) ≤ words_in list → words_in (rest_of fact behind s list) ≤ words_in list
          → words_in (if c then thin_from f own fact behind list else s ∷ rest_of fact behind s list) ≤ words_in (s ∷ list)
      by true same next =
          let whole = sum_by-cons words_of_one s list in
          omega (arith, same, whole)
      by false same next =
          let whole = sum_by-cons words_of_one s list in
          let less = sum_by-cons words_of_one s (rest_of fact behind s list) in
          omega (arith, next, whole, less)

  pub lean_thin : (fact : Fact) (behind : Bool) (list : List Sym) → is_lean f own fact behind (thin_from f own fact behind list) ≡ true
  lean_thin fact behind [] = refl
  lean_thin fact behind (s ∷ list) =
      by (is_known f own fact s) refl (lean_thin fact behind list) (lean_thin (fact_after f own fact behind s) (behind_after behind s) list)
    where
      by : (c : Bool) → is_known f own fact s ≡ c → is_lean f own fact behind (thin_from f own fact behind list) ≡ true
          → is_lean f own (fact_after f own fact behind s) (behind_after behind s) (rest_of fact behind s list) ≡ true
          → is_lean f own fact behind (if c then thin_from f own fact behind list else s ∷ rest_of fact behind s list) ≡ true
      by true known same next = same
      by false known same next =
          ap (λ (b : Bool). not b && is_lean f own (fact_after f own fact behind s) (behind_after behind s) (rest_of fact behind s list)) known
          ∙ next

  -- ---- prices
  price_of_select : (n : ℕ) (s : Sym) (list : List Sym) (k : ℕ) → is_select s ≡ true → price_from n (s ∷ list) k ≡ price_from (n + 1) list k
  price_of_select n s list zero is = ap (λ (b : Bool). if b then price_from (n + 1) list zero else (if is_label s then 1 else time_of s + n)) is
  price_of_select n s list (suc k) is = ap (λ (b : Bool). if b then price_from (n + 1) list (suc k) else price_from (if is_label s then n else 0) list k) is

  here_less : (time m n x y : ℕ) (select label : Bool) → m ≤ n → x ≤ y → (if select then x else (if label then 1 else time + m)) ≤ (if select then y else (if label then 1 else time + n))
  here_less time m n x y true label l r = r
  here_less time m n x y false true l r = omega arith
  here_less time m n x y false false l r = omega arith

  later_less : (select : Bool) (x y z w : ℕ) → x ≤ y → z ≤ w → (if select then x else z) ≤ (if select then y else w)
  later_less true x y z w l r = l
  later_less false x y z w l r = r

  count_less : (label : Bool) (m n : ℕ) → m ≤ n → (if label then m else 0) ≤ (if label then n else 0)
  count_less true m n l = l
  count_less false m n l = omega arith

  pub price_thin : (m n : ℕ) → m ≤ n → (fact : Fact) (behind : Bool) (list : List Sym) (k : ℕ) → price_from m (thin_from f own fact behind list) k ≤ price_from n list k
  price_thin m n l fact behind [] k = omega arith
  price_thin m n l fact behind (s ∷ list) k =
      by (is_known f own fact s) refl k (λ x y r z. price_thin x y r fact behind list z) (λ x y r z. price_thin x y r (fact_after f own fact behind s) (behind_after behind s) list z)
    where
      by : (c : Bool) → is_known f own fact s ≡ c → (k : ℕ)
          → ((x y : ℕ) → x ≤ y → (z : ℕ) → price_from x (thin_from f own fact behind list) z ≤ price_from y list z)
          → ((x y : ℕ) → x ≤ y → (z : ℕ) → price_from x (rest_of fact behind s list) z ≤ price_from y list z)
          → price_from m (if c then thin_from f own fact behind list else s ∷ rest_of fact behind s list) k ≤ price_from n (s ∷ list) k
      by true known k same next =
          subst (λ (x : ℕ). price_from m (thin_from f own fact behind list) k ≤ x) (sym (price_of_select n s list k (known_select f own fact s known))) (same m (n + 1) (omega arith) k)
      by false known zero same next =
          here_less (time_of s) m n (price_from (m + 1) (rest_of fact behind s list) zero) (price_from (n + 1) list zero) (is_select s) (is_label s) l
          (next (m + 1) (n + 1) (omega arith) zero)
      by false known (suc k) same next =
          later_less (is_select s) (price_from (m + 1) (rest_of fact behind s list) (suc k)) (price_from (n + 1) list (suc k))
          (price_from (if is_label s then m else 0) (rest_of fact behind s list) k) (price_from (if is_label s then n else 0) list k)
          (next (m + 1) (n + 1) (omega arith) (suc k))
          (next (if is_label s then m else 0) (if is_label s then n else 0) (count_less (is_label s) m n l) k)

-- Places in a list, and in what is left of it without its selects.
use Rattle.std.proofs.Common.{◌≡◌, ℕ, zero, suc, ◌+◌, Bool, true, false, not, ◌&&◌, if◌then◌else◌, List, [], ◌∷◌, drop, Option, Some, None, option_map, slice_get, refl, sym, ap, ◌∙◌, subst, add-one, true≢false, arith}
use Rattle.std.proofs.lemmas.Bool.{eqb-true}
use Rattle.std.proofs.lemmas.Option.{none-some, same_Some}
use Rattle.sym_code.specs.Programs.{is_word, labels_in_front, label_from, same_label}
use Rattle.sym_code.specs.Selects.{is_select, bare}
use Rattle.sym_code.specs.declared.code.BankBit.TheVariants.{Rp0, Rp1}
use Rattle.sym_code.specs.declared.code.Label.{Label}
use Rattle.sym_code.specs.declared.code.Label.TheVariants as labels
use Rattle.sym_code.specs.declared.code.Sym.{Sym}
use Rattle.sym_code.specs.declared.code.Sym.TheVariants as syms
use Rattle.bank_page.specs.Kinds.{is_label}
use Rattle.bank_page.specs.Near.{sets_rp1, none_sets_rp1}

-- ---- what stands at a place
abbrev pub is_plain : Sym → Bool
is_plain s = not (is_select s) && not (is_label s)

-- an instruction that is no select
abbrev pub plain_at : Option Sym → Bool
plain_at None = false
plain_at (Some s) = is_plain s

-- that, or nothing
abbrev pub calm_at : Option Sym → Bool
calm_at None = true
calm_at (Some s) = is_plain s

abbrev pub select_at : Option Sym → Bool
select_at None = false
select_at (Some s) = is_select s

abbrev pub label_at : Option Sym → Bool
label_at None = false
label_at (Some s) = is_label s

pub never : {A : Type 0} → false ≡ true → A
never e = absurd (true≢false (sym e))

pub calm_plain : (o : Option Sym) → plain_at o ≡ true → calm_at o ≡ true
calm_plain None e = never e
calm_plain (Some s) e = e

pub sets_none : (list : List Sym) (j : ℕ) (s : Sym) → none_sets_rp1 list ≡ true → slice_get list j ≡ Some s → sets_rp1 s ≡ false
sets_none [] j s e is = absurd (none-some s is)
sets_none (x ∷ list) zero s e is = subst (λ y. sets_rp1 y ≡ false) (same_Some x s is) (by (sets_rp1 x) e)
  where
    by : (c : Bool) → (not c && none_sets_rp1 list) ≡ true → c ≡ false
    by true e = never e
    by false e = refl
sets_none (x ∷ list) (suc j) s e is = sets_none list j s (by (sets_rp1 x) e) is
  where
    by : (c : Bool) → (not c && none_sets_rp1 list) ≡ true → none_sets_rp1 list ≡ true
    by true e = never e
    by false e = e

-- ---- behind labels
-- the first index from here on at which no label stands
abbrev pub settle : List Sym → ℕ → ℕ
settle [] j = j
settle (s ∷ list) zero = labels_in_front (s ∷ list)
settle (s ∷ list) (suc j) = suc (settle list j)

pub settle_zero : (list : List Sym) → settle list 0 ≡ labels_in_front list
settle_zero [] = refl
settle_zero (s ∷ list) = refl

pub settle_is : (list : List Sym) (j : ℕ) → j + labels_in_front (drop j list) ≡ settle list j
settle_is [] zero = refl
settle_is [] (suc j) = omega arith
settle_is (s ∷ list) zero = omega arith
settle_is (s ∷ list) (suc j) = let before = settle_is list j in omega arith

pub settle_again : (list : List Sym) (j : ℕ) → settle list (settle list j) ≡ settle list j
settle_again [] j = refl
settle_again (syms.Label label ∷ list) zero = ap suc (subst (λ n. settle list n ≡ n) (settle_zero list) (settle_again list zero))
settle_again (s ∷ list) zero = refl
settle_again (s ∷ list) (suc j) = ap suc (settle_again list j)

-- ---- the place without selects
-- The number, in the list without its selects, of the first instruction at an index or behind it.
abbrev pub mark : List Sym → ℕ → ℕ
mark [] j = j
mark (s ∷ list) zero = labels_in_front (bare (s ∷ list))
mark (s ∷ list) (suc j) = if is_select s then mark list j else suc (mark list j)

pub mark_zero : (list : List Sym) → mark list 0 ≡ labels_in_front (bare list)
mark_zero [] = refl
mark_zero (s ∷ list) = refl

pub mark_settle : (list : List Sym) (j : ℕ) → mark list (settle list j) ≡ mark list j
mark_settle [] j = refl
mark_settle (syms.Label label ∷ list) zero = ap suc (subst (λ n. mark list n ≡ mark list 0) (settle_zero list) (mark_settle list zero) ∙ mark_zero list)
mark_settle (s ∷ list) zero = refl
mark_settle (s ∷ list) (suc j) = ap (λ n. if is_select s then n else suc n) (mark_settle list j)

-- a select moves nothing
pub mark_select : (list : List Sym) (j : ℕ) → select_at (slice_get list j) ≡ true → mark list (suc j) ≡ mark list j
mark_select [] j e = never e
mark_select (syms.SelectBank Rp0 on ∷ list) zero e = mark_zero list
mark_select (syms.SelectBank Rp1 on ∷ list) zero e = mark_zero list
mark_select (syms.SelectPage bit target ∷ list) zero e = mark_zero list
mark_select (s ∷ list) zero e = never e
mark_select (s ∷ list) (suc j) e = ap (λ n. if is_select s then n else suc n) (mark_select list j e)

-- behind an instruction the code without selects goes on behind the same one
pub mark_behind : (list : List Sym) (j : ℕ) → calm_at (slice_get list j) ≡ true → settle (bare list) (suc (mark list j)) ≡ mark list (suc j)
mark_behind [] j e = refl
mark_behind (syms.Label label ∷ list) zero e = never e
mark_behind (syms.SelectBank Rp0 on ∷ list) zero e = never e
mark_behind (syms.SelectBank Rp1 on ∷ list) zero e = never e
mark_behind (syms.SelectPage bit target ∷ list) zero e = never e
mark_behind (s ∷ list) zero e = ap suc (settle_zero (bare list) ∙ sym (mark_zero list))
mark_behind (s ∷ list) (suc j) e = by_select (is_select s) (mark_behind list j e)
  where
    by_select : (b : Bool) → settle (bare list) (suc (mark list j)) ≡ mark list (suc j)
        → settle (if not b then s ∷ bare list else bare list) (suc (if b then mark list j else suc (mark list j))) ≡ (if b then mark list (suc j) else suc (mark list (suc j)))
    by_select true before = before
    by_select false before = ap suc before

-- the same instruction stands there
pub mark_fetches : (list : List Sym) (j : ℕ) → calm_at (slice_get list j) ≡ true → slice_get (bare list) (mark list j) ≡ slice_get list j
mark_fetches [] j e = refl
mark_fetches (syms.Label label ∷ list) zero e = never e
mark_fetches (syms.SelectBank Rp0 on ∷ list) zero e = never e
mark_fetches (syms.SelectBank Rp1 on ∷ list) zero e = never e
mark_fetches (syms.SelectPage bit target ∷ list) zero e = never e
mark_fetches (s ∷ list) zero e = refl
mark_fetches (s ∷ list) (suc j) e = by_select (is_select s) (mark_fetches list j e)
  where
    by_select : (b : Bool) → slice_get (bare list) (mark list j) ≡ slice_get list j
        → slice_get (if not b then s ∷ bare list else bare list) (if b then mark list j else suc (mark list j)) ≡ slice_get list j
    by_select true before = before
    by_select false before = before

-- where an instruction stands without selects, one does with them
pub mark_lands : (list : List Sym) (j : ℕ) → is_word (slice_get (bare list) (mark list j)) ≡ true → is_word (slice_get list (settle list j)) ≡ true
mark_lands [] j e = e
mark_lands (syms.Label label ∷ list) zero e =
    subst (λ n. is_word (slice_get list n) ≡ true) (settle_zero list) (mark_lands list zero (subst (λ n. is_word (slice_get (bare list) n) ≡ true) (sym (mark_zero list)) e))
mark_lands (s ∷ list) zero e = refl
mark_lands (s ∷ list) (suc j) e = by_select (is_select s) (mark_lands list j) e
  where
    by_select : (b : Bool) → (is_word (slice_get (bare list) (mark list j)) ≡ true → is_word (slice_get list (settle list j)) ≡ true)
        → is_word (slice_get (if not b then s ∷ bare list else bare list) (if b then mark list j else suc (mark list j))) ≡ true
        → is_word (slice_get list (settle list j)) ≡ true
    by_select true before e = before e
    by_select false before e = before e

-- ---- labels
label_if : (b : Bool) (n : ℕ) (x y : Option ℕ) → y ≡ option_map suc x → (if b then Some (n + 1) else y) ≡ option_map suc (if b then Some n else x)
label_if true n x y e = ap (λ (m : ℕ). Some m) (add-one n)
label_if false n x y e = e

label_suc : (list : List Sym) (label : Label) (n : ℕ) → label_from list label (n + 1) ≡ option_map suc (label_from list label n)
label_suc [] label n = refl
label_suc (syms.Label l ∷ list) label n = label_if (same_label l label) n (label_from list label (n + 1)) (label_from list label (n + 1 + 1)) (label_suc list label (n + 1))
label_suc (s ∷ list) label n = label_suc list label (n + 1)

suc_out : (f g : ℕ → ℕ) (o : Option ℕ) → ((k : ℕ) → f (suc k) ≡ suc (g k)) → option_map f (option_map suc o) ≡ option_map suc (option_map g o)
suc_out f g None same = refl
suc_out f g (Some k) same = ap Some (same k)

suc_lost : (f g : ℕ → ℕ) (o : Option ℕ) → ((k : ℕ) → f (suc k) ≡ g k) → option_map f (option_map suc o) ≡ option_map g o
suc_lost f g None same = refl
suc_lost f g (Some k) same = ap Some (same k)

pub label_mark : (list : List Sym) (label : Label) → option_map (mark list) (label_from list label 0) ≡ option_map (settle (bare list)) (label_from (bare list) label 0)
label_mark [] label = refl
label_mark (syms.SelectBank Rp0 on ∷ list) label = ap (option_map (mark (syms.SelectBank Rp0 on ∷ list))) (label_suc list label 0) ∙ suc_lost (mark (syms.SelectBank Rp0 on ∷ list)) (mark list) (label_from list label 0) (λ k. refl) ∙ label_mark list label
label_mark (syms.SelectBank Rp1 on ∷ list) label = ap (option_map (mark (syms.SelectBank Rp1 on ∷ list))) (label_suc list label 0) ∙ suc_lost (mark (syms.SelectBank Rp1 on ∷ list)) (mark list) (label_from list label 0) (λ k. refl) ∙ label_mark list label
label_mark (syms.SelectPage bit target ∷ list) label = ap (option_map (mark (syms.SelectPage bit target ∷ list))) (label_suc list label 0) ∙ suc_lost (mark (syms.SelectPage bit target ∷ list)) (mark list) (label_from list label 0) (λ k. refl) ∙ label_mark list label
label_mark (syms.Label l ∷ list) label = by_label (same_label l label) (label_mark list label)
  where
    by_label : (b : Bool) → option_map (mark list) (label_from list label 0) ≡ option_map (settle (bare list)) (label_from (bare list) label 0) → option_map (mark (syms.Label l ∷ list)) (if b then Some 0 else label_from list label 1) ≡ option_map (settle (syms.Label l ∷ bare list)) (if b then Some 0 else label_from (bare list) label 1)
    by_label true before = refl
    by_label false before =
        ap (option_map (mark (syms.Label l ∷ list))) (label_suc list label 0) ∙ suc_out (mark (syms.Label l ∷ list)) (mark list) (label_from list label 0) (λ k. refl)
        ∙ ap (option_map suc) before
        ∙ sym (ap (option_map (settle (syms.Label l ∷ bare list))) (label_suc (bare list) label 0) ∙ suc_out (settle (syms.Label l ∷ bare list)) (settle (bare list)) (label_from (bare list) label 0) (λ k. refl))
label_mark (s ∷ list) label =
    ap (option_map (mark (s ∷ list))) (label_suc list label 0) ∙ suc_out (mark (s ∷ list)) (mark list) (label_from list label 0) (λ k. refl)
    ∙ ap (option_map suc) (label_mark list label)
    ∙ sym (ap (option_map (settle (s ∷ bare list))) (label_suc (bare list) label 0) ∙ suc_out (settle (s ∷ bare list)) (settle (bare list)) (label_from (bare list) label 0) (λ k. refl))

-- ---- the label that is found
same_labels : (l label : Label) → same_label l label ≡ true → l ≡ label
same_labels (labels.Inner n) (labels.Inner m) e = ap labels.Inner (eqb-true n m e)
same_labels (labels.Inner n) labels.Halt e = never e
same_labels (labels.Inner n) labels.Restore e = never e
same_labels labels.Halt (labels.Inner m) e = never e
same_labels labels.Halt labels.Halt e = refl
same_labels labels.Halt labels.Restore e = never e
same_labels labels.Restore (labels.Inner m) e = never e
same_labels labels.Restore labels.Halt e = never e
same_labels labels.Restore labels.Restore e = refl

abbrev pub FoundSame : List Sym → Label → Option ℕ → Type 0
FoundSame list label None = Unit {0}
FoundSame list label (Some k) = slice_get list k ≡ Some (syms.Label label)

same_later : (s : Sym) (list : List Sym) (label : Label) (o : Option ℕ) → FoundSame list label o → FoundSame (s ∷ list) label (option_map suc o)
same_later s list label None found = tt
same_later s list label (Some k) found = found

pub found_same : (list : List Sym) (label : Label) → FoundSame list label (label_from list label 0)
found_same [] label = tt
found_same (syms.Label l ∷ list) label = by_label (same_label l label) refl (found_same list label)
  where
    by_label : (b : Bool) → same_label l label ≡ b → FoundSame list label (label_from list label 0) → FoundSame (syms.Label l ∷ list) label (if b then Some 0 else label_from list label 1)
    by_label true is before = ap (λ (x : Label). Some (syms.Label x)) (same_labels l label is)
    by_label false is before = subst (FoundSame (syms.Label l ∷ list) label) (sym (label_suc list label 0)) (same_later (syms.Label l) list label (label_from list label 0) before)
found_same (s ∷ list) label = subst (FoundSame (s ∷ list) label) (sym (label_suc list label 0)) (same_later s list label (label_from list label 0) (found_same list label))

-- behind a label the code goes on where it goes on at it
pub settle_label : (list : List Sym) (j : ℕ) (label : Label) → slice_get list j ≡ Some (syms.Label label) → settle list (suc j) ≡ settle list j
settle_label [] j label e = absurd (none-some (syms.Label label) e)
settle_label (syms.Label l ∷ list) zero label e = ap suc (settle_zero list)
settle_label (s ∷ list) zero label e = never (ap label_at e)
settle_label (s ∷ list) (suc j) label e = ap suc (settle_label list j label e)

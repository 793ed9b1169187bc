-- How many words a list has with its selects.
use Rattle.std.proofs.Common.{◌≡◌, ℕ, ◌+◌, ◌/◌, ◌≤◌, nat_eq, Bool, true, false, ◌||◌, if◌then◌else◌, List, [], ◌∷◌, ◌++◌, length, Option, Some, None, refl, sym, ap, subst, arith}
use Rattle.std.proofs.lemmas.Option.{none-some, same_Some}
use Rattle.std.proofs.lemmas.List.Sums.{sum_by-append, sum_by-cons, sum_by_push}
use Rattle.core_code.specs.declared.code.Byte.{Byte}
use Rattle.pic_map.specs.declared.Placed.{Placed}
use Rattle.sym_code.specs.declared.code.BlockName.{BlockName}
use Rattle.sym_code.specs.declared.code.Operand.{Operand}
use Rattle.sym_code.specs.declared.code.Operand.TheVariants as operands
use Rattle.sym_code.specs.declared.code.Sym.{Sym}
use Rattle.sym_code.specs.declared.code.Sym.TheVariants as syms
use Rattle.sym_code.specs.declared.code.Target.{Target}
use Rattle.sym_code.specs.Words.{is_common}
use Rattle.code_place.specs.Addresses.{address_of}
use Rattle.sym_code.specs.Words.{words_of_one, words_in, most_of_operand, most_of_one, most_words}
use Rattle.sym_code.specs.Selects.{is_select}
use Rattle.bank_page.specs.Kinds.{is_label, is_skip, byte_named, byte_of, target_of}
use Rattle.bank_page.specs.Known.{knows, learned, writes_status, writes_pclath}
use Rattle.bank_page.specs.Needs.{both_banks, banked_at, banked, needs_in}
use Rattle.bank_page.specs.Selected.{front}
use Rattle.bank_page.specs.Step.{bank_selects, page_selects, unknown, missing, behind_bank, missing_for, known_with, passed, NextFor, Next}
use Rattle.bank_page.specs.declared.known.Known.{Known}
use Rattle.bank_page.specs.declared.needs.Needs.{Needs}
use Rattle.bank_page.specs.declared.selecting.State.{State}
use Rattle.bank_page.proofs.Chains.{true_false, needs_step, with_parts}

-- the words of the two selects for what is there
abbrev pub cost : {A : Type 0} → Option A → ℕ
cost None = 0
cost (Some x) = 2

abbrev pub extra : Sym → ℕ
extra s = cost (byte_of s) + cost (target_of s)

abbrev pub chain_cost_step : Bool → Bool → ℕ → ℕ → ℕ
chain_cost_step select skip own rest = if select then rest else (own + (if skip then rest else 0))

abbrev pub chain_cost : List Sym → ℕ
chain_cost [] = 0
chain_cost (s ∷ rest) = chain_cost_step (is_select s) (is_skip s) (extra s) (chain_cost rest)

abbrev pub debt : Bool → List Sym → ℕ
debt true rest = chain_cost rest
debt false rest = 0

-- what was put, with what is left, stays within what the list may become
abbrev pub Few : List Sym → List Sym → State → List Sym → Type 0
Few list out state rest = words_in out + most_words rest ≤ most_words list + debt state.behind rest

pub few_none : (list out : List Sym) → out ≡ [] → Few list out front list
few_none list out none =
    let e : words_in out ≡ 0 = ap words_in none in
    omega (arith, e)

common_most : (byte : Byte) (common : Bool) → (if common then 1 else 3) ≡ 1 + cost {A = Byte} (if common then None else Some byte)
common_most byte true = refl
common_most byte false = refl

operand_most : (file : Operand) → most_of_operand file ≡ 1 + cost (byte_named file)
operand_most (operands.Byte byte) = common_most byte (is_common byte)
operand_most (operands.Register register) = refl
operand_most (operands.Saved saved) = refl

plus_none : (a b : ℕ) → a ≡ 1 + b → a ≡ 1 + (b + 0)
plus_none a b e = omega (arith, e)

pub one_most : (s : Sym) → is_select s ≡ false → most_of_one s ≡ words_of_one s + extra s
one_most (syms.File op file into) is = plus_none (most_of_operand file) (cost (byte_named file)) (operand_most file)
one_most (syms.Movwf file) is = plus_none (most_of_operand file) (cost (byte_named file)) (operand_most file)
one_most (syms.Clrf file) is = plus_none (most_of_operand file) (cost (byte_named file)) (operand_most file)
one_most (syms.Bit op file bit) is = plus_none (most_of_operand file) (cost (byte_named file)) (operand_most file)
one_most (syms.Literal op value) is = refl
one_most (syms.Plain op) is = refl
one_most (syms.Call target) is = refl
one_most (syms.Goto target) is = refl
one_most (syms.Label label) is = refl
one_most (syms.SelectBank bit on) is = refl
one_most (syms.SelectPage bit target) is = absurd (true_false is)
one_most (syms.Table table root) is = refl

both_cost_by : (one : ℕ) (d : Option ℕ) (same : Bool) → (if same then Some (Some one) else None) ≡ Some d → cost d ≤ 2
both_cost_by one d true is =
    let P : Option ℕ → Type 0 = λ x. cost x ≤ 2 in
    subst P (same_Some (Some one) d is) (omega arith)
both_cost_by one d false is = absurd (none-some d is)

both_cost : (b c d : Option ℕ) → both_banks b c ≡ Some d → cost d ≤ cost b + cost c
both_cost None c d is =
    let P : Option ℕ → Type 0 = λ x. cost x ≤ cost c in
    let same = subst P (same_Some c d is) (omega arith) in
    omega (arith, same)
both_cost (Some one) None d is =
    let P : Option ℕ → Type 0 = λ x. cost x ≤ 2 in
    let same = subst P (same_Some (Some one) d is) (omega arith) in
    omega (arith, same)
both_cost (Some one) (Some other) d is =
    let one_only = both_cost_by one d (nat_eq one other) is in
    omega (arith, one_only)

abbrev pub needs_cost : Needs → ℕ
needs_cost needs = cost needs.bank + cost needs.page

cost_step : (select label skip change : Bool) (s : Sym) (bank : Option (Option ℕ)) (behind : Option Needs) (rest : ℕ) (n : Needs) → ((m : Needs) → behind ≡ Some m → needs_cost m ≤ rest) → ((b : Option ℕ) → bank ≡ Some b → cost b ≤ cost (byte_of s)) → needs_step select label skip change s bank behind ≡ Some n → needs_cost n ≤ chain_cost_step select skip (extra s) rest
cost_step true label skip change s bank behind rest n later own is = later n is
cost_step false true skip change s bank behind rest n later own is = absurd (none-some n is)
cost_step false false true true s bank behind rest n later own is = absurd (none-some n is)
cost_step false false true false s None behind rest n later own is = absurd (none-some n is)
cost_step false false true false s (Some b) None rest n later own is = absurd (none-some n is)
cost_step false false true false s (Some b) (Some m) rest n later own is =
    let parts = with_parts (both_banks b m.bank) m n is in
    let banks = both_cost b m.bank n.bank parts.0 in
    let page : cost m.page ≡ cost n.page = ap (λ (p : Option Target). cost p) parts.1 in
    let first = own b refl in
    let others = later m refl in
    omega (arith, banks, page, first, others)
cost_step false false false change s None behind rest n later own is = absurd (none-some n is)
cost_step false false false change s (Some b) behind rest n later own is =
    let e : needs_cost (record { bank = b; page = target_of s }) ≡ needs_cost n = ap (λ (x : Needs). needs_cost x) (same_Some (record { bank = b; page = target_of s }) n is) in
    let first = own b refl in
    omega (arith, e, first)

at_cost : (at b : Option ℕ) → banked_at at ≡ Some b → cost b ≤ 2
at_cost None b is = absurd (none-some b is)
at_cost (Some a) b is =
    let P : Option ℕ → Type 0 = λ x. cost x ≤ 2 in
    subst P (same_Some (Some (a / 128)) b is) (omega arith)

own_cost : (placed : Placed) (byte : Option Byte) (b : Option ℕ) → banked placed byte ≡ Some b → cost b ≤ cost byte
own_cost placed None b is =
    let none : Option ℕ = None in
    let P : Option ℕ → Type 0 = λ x. cost x ≤ 0 in
    subst P (same_Some none b is) (omega arith)
own_cost placed (Some byte) b is = at_cost (address_of placed byte) b is

pub cost_of_needs : (placed : Placed) (list : List Sym) (n : Needs) → needs_in placed list ≡ Some n → needs_cost n ≤ chain_cost list
cost_of_needs placed [] n is = absurd (none-some n is)
cost_of_needs placed (s ∷ rest) n is = cost_step (is_select s) (is_label s) (is_skip s) (writes_status s || writes_pclath s) s (banked placed (byte_of s)) (needs_in placed rest) (chain_cost rest) n (λ m. cost_of_needs placed rest m) (λ b. own_cost placed (byte_of s) b) is

-- no instruction is more than a word
one_word : (s : Sym) → words_of_one s ≤ 1
one_word (syms.Label label) = omega arith
one_word (syms.File op file into) = omega arith
one_word (syms.Movwf file) = omega arith
one_word (syms.Clrf file) = omega arith
one_word (syms.Bit op file bit) = omega arith
one_word (syms.Literal op value) = omega arith
one_word (syms.Plain op) = omega arith
one_word (syms.Call target) = omega arith
one_word (syms.Goto target) = omega arith
one_word (syms.SelectBank bit on) = omega arith
one_word (syms.SelectPage bit target) = omega arith
one_word (syms.Table table root) = omega arith

unknown_words : (s : Sym) (already : Bool) → words_in (if already then [] else s ∷ []) ≤ 1
unknown_words s true = omega arith
unknown_words s false =
    let more = sum_by-cons words_of_one s [] in
    let one = one_word s in
    omega (arith, more, one)

missing_words : (own : BlockName) (known : Known) (list : List Sym) → words_in (missing own known list) ≤ length list
missing_words own known [] = omega arith
missing_words own known (s ∷ list) =
    let two = sum_by-append words_of_one (unknown own known s) (missing own (learned own known s) list) in
    let one = unknown_words s (knows own known s) in
    let others = missing_words own (learned own known s) list in
    omega (arith, two, one, others)

pub count_bank : (bank : Option ℕ) → length (bank_selects bank) ≡ cost bank
count_bank None = refl
count_bank (Some bank) = refl

pub count_page : (page : Option Target) → length (page_selects page) ≡ cost page
count_page None = refl
count_page (Some target) = refl

select_words : (own : BlockName) (known : Known) (needs : Needs) → words_in (missing_for own known needs) ≤ needs_cost needs
select_words own known needs =
    let banks = missing_words own known (bank_selects needs.bank) in
    let pages = missing_words own (behind_bank own known needs) (page_selects needs.page) in
    let two = sum_by-append words_of_one (missing own known (bank_selects needs.bank)) (missing own (behind_bank own known needs) (page_selects needs.page)) in
    let bank = count_bank needs.bank in
    let page = count_page needs.page in
    omega (arith, banks, pages, two, bank, page)

few_select : (list out : List Sym) (state : State) (s : Sym) (rest : List Sym) (behind select : Bool) → is_select s ≡ true → words_in out + most_words (s ∷ rest) ≤ most_words list + debt behind (s ∷ rest) → words_in out + most_words rest ≤ most_words list + debt behind rest
few_select list out state s rest false select is few =
    let more = sum_by-cons most_of_one s rest in
    omega (arith, more, few)
few_select list out state s rest true select is few =
    let more = sum_by-cons most_of_one s rest in
    let e : chain_cost (s ∷ rest) ≡ chain_cost rest = ap (λ (b : Bool). chain_cost_step b (is_skip s) (extra s) (chain_cost rest)) is in
    omega (arith, more, few, e)

debt_is : (skip : Bool) (rest : List Sym) → debt skip rest ≡ (if skip then chain_cost rest else 0)
debt_is true rest = refl
debt_is false rest = refl

few_put : (list out : List Sym) (s : Sym) (rest : List Sym) → is_select s ≡ false → words_in out + most_words (s ∷ rest) ≤ most_words list + chain_cost (s ∷ rest) → words_in (out ++ s ∷ []) + most_words rest ≤ most_words list + debt (is_skip s) rest
few_put list out s rest is few =
    let more = sum_by-cons most_of_one s rest in
    let put = sum_by_push words_of_one out s in
    let own = one_most s is in
    let e : chain_cost (s ∷ rest) ≡ extra s + (if is_skip s then chain_cost rest else 0) = ap (λ (b : Bool). chain_cost_step b (is_skip s) (extra s) (chain_cost rest)) is in
    let d = debt_is (is_skip s) rest in
    omega (arith, more, put, own, e, d, few)

debt_within : (behind : Bool) (rest : List Sym) → debt behind rest ≤ chain_cost rest
debt_within true rest = omega arith
debt_within false rest = omega arith

free_first : (behind label : Bool) → (behind || label) ≡ false → behind ≡ false
free_first false label is = refl
free_first true label is = absurd (true_false is)

few_moved : (list out new : List Sym) (state next : State) (rest : List Sym) → new ≡ out → next ≡ state → Few list out state rest → Few list new next rest
few_moved list out new state next rest same at few =
    let P : List Sym → Type 0 = λ o. Few list o state rest in
    let Q : State → Type 0 = λ x. Few list new x rest in
    subst Q (sym at) (subst P (sym same) few)

few_by : (placed : Placed) (own : BlockName) (list out new : List Sym) (state next : State) (s : Sym) (rest : List Sym) (select plain : Bool) (needs : Option Needs) → is_select s ≡ select → (state.behind || is_label s) ≡ plain → needs_in placed (s ∷ rest) ≡ needs → NextFor select plain own state s needs out new next → Few list out state (s ∷ rest) → Few list new next rest
few_by placed own list out new state next s rest true plain needs is either found step few = few_moved list out new state next rest step.0 step.1 (few_select list out state s rest state.behind true is few)
few_by placed own list out new state next s rest false true needs is either found step few =
    let within = debt_within state.behind (s ∷ rest) in
    few_moved list (out ++ s ∷ []) new (passed state.known s state.behind) next rest step.0 step.1 (few_put list out s rest is (omega (arith, few, within)))
few_by placed own list out new state next s rest false false None is either found step few = absurd step
few_by placed own list out new state next s rest false false (Some needs) is either found step few =
    let put = sum_by-append words_of_one out (missing_for own state.known needs) in
    let sizes = select_words own state.known needs in
    let within = cost_of_needs placed (s ∷ rest) needs found in
    let none : debt state.behind (s ∷ rest) ≡ 0 = ap (λ (b : Bool). debt b (s ∷ rest)) (free_first state.behind (is_label s) either) in
    few_moved list (out ++ missing_for own state.known needs ++ s ∷ []) new (passed (known_with own state.known needs) s false) next rest step.0 step.1 (few_put list (out ++ missing_for own state.known needs) s rest is (omega (arith, few, put, sizes, within, none)))

pub few_more : (placed : Placed) (own : BlockName) (list out new : List Sym) (state next : State) (s : Sym) (left rest : List Sym) → left ≡ s ∷ rest → Next placed own state s left out new next → Few list out state left → Few list new next rest
few_more placed own list out new state next s left rest e step few =
    let P : List Sym → Type 0 = λ l. Next placed own state s l out new next × Few list out state l in
    let both = subst P e (step, few) in
    few_by placed own list out new state next s rest (is_select s) (state.behind || is_label s) (needs_in placed (s ∷ rest)) refl refl refl both.0 both.1

debt_none : (behind : Bool) (rest : List Sym) → rest ≡ [] → debt behind rest ≡ 0
debt_none false rest none = refl
debt_none true rest none = ap chain_cost none

pub few_all : (list out : List Sym) (state : State) (rest : List Sym) → rest ≡ [] → Few list out state rest → words_in out ≤ most_words list
few_all list out state rest none few =
    let e : most_words rest ≡ 0 = ap most_words none in
    let d = debt_none state.behind rest none in
    omega (arith, e, d, few)

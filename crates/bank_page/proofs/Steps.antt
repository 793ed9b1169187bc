-- One instruction more keeps what the answer of `selects` keeps.
use Rattle.std.proofs.Common.{◌≡◌, ℕ, Bool, true, false, not, ◌&&◌, ◌||◌, if◌then◌else◌, List, [], ◌∷◌, ◌++◌, length, get_or, take, drop, ◌-◌, ◌≤◌, Option, Some, None, is_some, refl, sym, ap, ◌∙◌, subst, append-nil, append_assoc, arith}
use Rattle.std.proofs.lemmas.List.{take_all}
use Rattle.std.proofs.lemmas.Bool.{eqb-true, eq-eqb}
use Rattle.std.proofs.lemmas.List.Elements.{filter-append}
use Rattle.pic_map.specs.declared.Placed.{Placed}
use Rattle.sym_code.specs.declared.code.BlockName.{BlockName}
use Rattle.sym_code.specs.declared.code.BlockName.TheVariants as names
use Rattle.sym_code.specs.declared.code.Sym.{Sym}
use Rattle.sym_code.specs.declared.code.Sym.TheVariants as syms
use Rattle.sym_code.specs.declared.code.Target.{Target}
use Rattle.sym_code.specs.WellFormed.{is_well_formed, are_well_formed}
use Rattle.sym_code.specs.Selects.{is_select}
use Rattle.bank_page.specs.Kinds.{is_label, is_skip}
use Rattle.sym_code.specs.Programs.{same_name, block_of}
use Rattle.sym_code.specs.declared.code.BankBit.TheVariants as bank_bits
use Rattle.sym_code.specs.declared.code.PageBit.TheVariants as page_bits
use Rattle.bank_page.specs.Known.{after, left, writes_status, writes_pclath, same_bit, is_bit, is_page, knows, learned, seen_after}
use Rattle.bank_page.specs.Needs.{needs_in}
use Rattle.sym_code.specs.Selects.{bare}
use Rattle.bank_page.specs.Ready.{is_ready, are_ready}
use Rattle.bank_page.specs.Selected.{Place, Free, Behind, Broken, place_after, walk, NoSelectBehindSkip, reaches_target, is_right, is_lean, front, seen, all_pass}
use Rattle.bank_page.specs.Step.{rp0_of, rp1_of, bank_selects, page_selects, unknown, missing, behind_selects, behind_bank, missing_for, known_with, passed, NextFor, Next}
use Rattle.bank_page.specs.declared.known.Known.{Known}
use Rattle.bank_page.specs.declared.needs.Needs.{Needs}
use Rattle.bank_page.specs.declared.selecting.State.{State}
use Rattle.bank_page.proofs.Fronts.{Exact, exact_more}
use Rattle.bank_page.proofs.Sizes.{Few, few_more}
use Rattle.bank_page.proofs.Chains.{true_false, and_both, and_left, and_right, meets_bank, chain_step, chain_right, chain_of_needs}

-- what is known behind a list
abbrev pub over : BlockName → State → List Sym → State
over own state [] = state
over own state (s ∷ list) = over own (seen own state s) list

over_on : (own : BlockName) (state : State) (xs ys : List Sym) → over own state (xs ++ ys) ≡ over own (over own state xs) ys
over_on own state [] ys = refl
over_on own state (x ∷ xs) ys = over_on own (seen own state x) xs ys

pass_on : (test : Known → Sym → Bool) (own : BlockName) (state : State) (xs ys : List Sym) → all_pass test own state xs ≡ true → all_pass test own (over own state xs) ys ≡ true → all_pass test own state (xs ++ ys) ≡ true
pass_on test own state [] ys p q = q
pass_on test own state (x ∷ xs) ys p q = and_both (test state.known x) (all_pass test own (seen own state x) (xs ++ ys)) (and_left (test state.known x) (all_pass test own (seen own state x) xs) p) (pass_on test own (seen own state x) xs ys (and_right (test state.known x) (all_pass test own (seen own state x) xs) p) q)

walk_on : (place : Place) (xs ys : List Sym) → walk place (xs ++ ys) ≡ walk (walk place xs) ys
walk_on place [] ys = refl
walk_on place (x ∷ xs) ys = walk_on (place_after place x) xs ys

abbrev pub place_of : Bool → Place
place_of true = Behind
place_of false = Free

-- What holds of what is put before the rest of a list.
pub record Made (placed : Placed) (own : BlockName) (list out : List Sym) (state : State) (rest : List Sym) : Type 0 where
  pub same : bare out ++ bare rest ≡ bare list
  pub place : walk Free out ≡ place_of state.behind
  pub known : over own front out ≡ state
  pub right : all_pass (is_right placed own) own front out ≡ true
  pub lean : all_pass (is_lean own) own front out ≡ true
  pub chain : state.behind ≡ true → chain_right placed own state.known rest ≡ true

pub made_none : (placed : Placed) (own : BlockName) (list out : List Sym) → out ≡ [] → Made placed own list out front list
made_none placed own list out none =
    let P : List Sym → Type 0 = λ o. Made placed own list o front list in
    subst P (sym none) (record { same = refl; place = refl; known = refl; right = refl; lean = refl; chain = λ e. absurd (true_false (sym e)) })

-- a select is left out
left_out : (s : Sym) (list : List Sym) → is_select s ≡ true → bare (s ∷ list) ≡ bare list
left_out s list is = ap (λ (b : Bool). if not b then s ∷ bare list else bare list) is

kept : (s : Sym) (list : List Sym) → is_select s ≡ false → bare (s ∷ list) ≡ s ∷ bare list
kept s list is = ap (λ (b : Bool). if not b then s ∷ bare list else bare list) is

chain_past : (placed : Placed) (own : BlockName) (known : Known) (s : Sym) (rest : List Sym) → is_select s ≡ true → chain_right placed own known (s ∷ rest) ≡ true → chain_right placed own known rest ≡ true
chain_past placed own known s rest is right =
    let P : Bool → Type 0 = λ b. chain_step b (is_label s) (is_skip s) (writes_status s || writes_pclath s) (is_right placed own known s) (chain_right placed own known rest) ≡ true in
    subst P is right

step_select : (placed : Placed) (own : BlockName) (list out : List Sym) (state : State) (s : Sym) (rest : List Sym) → is_select s ≡ true → Made placed own list out state (s ∷ rest) → Made placed own list out state rest
step_select placed own list out state s rest is made = record {
  same = ap (λ (xs : List Sym). bare out ++ xs) (sym (left_out s rest is)) ∙ made.same;
  place = made.place;
  known = made.known;
  right = made.right;
  lean = made.lean;
  chain = λ e. chain_past placed own state.known s rest is (made.chain e);
}

-- what a chain tells of its first instruction, which is no select
chain_parts : (label skip change right rest : Bool) → chain_step false label skip change right rest ≡ true → (label ≡ false) × (right ≡ true) × (skip ≡ true → (change ≡ false) × (rest ≡ true))
chain_parts true skip change right rest is = absurd (true_false (sym is))
chain_parts false false change true rest is = (refl, refl, λ e. absurd (true_false (sym e)))
chain_parts false true false true rest is = (refl, refl, λ e. (refl, is))
chain_parts false true true true rest is = absurd (true_false (sym is))
chain_parts false skip change false rest is = absurd (true_false (sym is))

chain_first : (placed : Placed) (own : BlockName) (known : Known) (s : Sym) (rest : List Sym) → is_select s ≡ false → chain_right placed own known (s ∷ rest) ≡ true → (is_label s ≡ false) × (is_right placed own known s ≡ true) × (is_skip s ≡ true → ((writes_status s || writes_pclath s) ≡ false) × (chain_right placed own known rest ≡ true))
chain_first placed own known s rest is right =
    let P : Bool → Type 0 = λ b. chain_step b (is_label s) (is_skip s) (writes_status s || writes_pclath s) (is_right placed own known s) (chain_right placed own known rest) ≡ true in
    chain_parts (is_label s) (is_skip s) (writes_status s || writes_pclath s) (is_right placed own known s) (chain_right placed own known rest) (subst P is right)

-- a skip that changes nothing leaves what is known
unchanged : (known : Known) (s : Sym) (status pclath : Bool) → (status || pclath) ≡ false → left known s status pclath ≡ known
unchanged known s false false is = refl
unchanged known s true pclath is = absurd (true_false is)
unchanged known s false true is = absurd (true_false is)

after_skip : (known : Known) (s : Sym) (b : Bool) → is_skip s ≡ true → (writes_status s || writes_pclath s) ≡ false → after known s b ≡ known
after_skip known (syms.File op file into) b skip same = unchanged known (syms.File op file into) (writes_status (syms.File op file into)) (writes_pclath (syms.File op file into)) same
after_skip known (syms.Bit op file bit) b skip same = unchanged known (syms.Bit op file bit) (writes_status (syms.Bit op file bit)) (writes_pclath (syms.Bit op file bit)) same
after_skip known (syms.Movwf file) b skip same = absurd (true_false (sym skip))
after_skip known (syms.Clrf file) b skip same = absurd (true_false (sym skip))
after_skip known (syms.Literal op value) b skip same = absurd (true_false (sym skip))
after_skip known (syms.Plain op) b skip same = absurd (true_false (sym skip))
after_skip known (syms.Call target) b skip same = absurd (true_false (sym skip))
after_skip known (syms.Goto target) b skip same = absurd (true_false (sym skip))
after_skip known (syms.Label label) b skip same = absurd (true_false (sym skip))
after_skip known (syms.SelectBank bit on) b skip same = absurd (true_false (sym skip))
after_skip known (syms.SelectPage bit target) b skip same = absurd (true_false (sym skip))
after_skip known (syms.Table table root) b skip same = absurd (true_false (sym skip))

seen_plain : (own : BlockName) (known : Known) (s : Sym) (b : Bool) → is_select s ≡ false → seen_after own known s b ≡ after known s b
seen_plain own known s b is = ap (λ (c : Bool). if c then learned own known s else after known s b) is

-- a label is reached as it is, and is no skip and no select that is known
label_right : (placed : Placed) (own : BlockName) (known : Known) (s : Sym) → is_label s ≡ true → (is_right placed own known s ≡ true) × (is_skip s ≡ false)
label_right placed own known (syms.Label label) is = (refl, refl)
label_right placed own known (syms.File op file into) is = absurd (true_false (sym is))
label_right placed own known (syms.Bit op file bit) is = absurd (true_false (sym is))
label_right placed own known (syms.Movwf file) is = absurd (true_false (sym is))
label_right placed own known (syms.Clrf file) is = absurd (true_false (sym is))
label_right placed own known (syms.Literal op value) is = absurd (true_false (sym is))
label_right placed own known (syms.Plain op) is = absurd (true_false (sym is))
label_right placed own known (syms.Call target) is = absurd (true_false (sym is))
label_right placed own known (syms.Goto target) is = absurd (true_false (sym is))
label_right placed own known (syms.SelectBank bit on) is = absurd (true_false (sym is))
label_right placed own known (syms.SelectPage bit target) is = absurd (true_false (sym is))
label_right placed own known (syms.Table table root) is = absurd (true_false (sym is))

-- what is no select is lean
plain_lean : (own : BlockName) (known : Known) (s : Sym) → is_select s ≡ false → is_lean own known s ≡ true
plain_lean own known (syms.File op file into) is = refl
plain_lean own known (syms.Bit op file bit) is = refl
plain_lean own known (syms.Movwf file) is = refl
plain_lean own known (syms.Clrf file) is = refl
plain_lean own known (syms.Literal op value) is = refl
plain_lean own known (syms.Plain op) is = refl
plain_lean own known (syms.Call target) is = refl
plain_lean own known (syms.Goto target) is = refl
plain_lean own known (syms.Label label) is = refl
plain_lean own known (syms.SelectBank bank_bits.Irp on) is = refl
plain_lean own known (syms.SelectBank bank_bits.Rp0 on) is = absurd (true_false is)
plain_lean own known (syms.SelectBank bank_bits.Rp1 on) is = absurd (true_false is)
plain_lean own known (syms.SelectPage bit target) is = absurd (true_false is)
plain_lean own known (syms.Table table root) is = refl

abbrev place_by : Bool → Bool → Bool → Bool → Place
place_by true select label skip = if select then Broken else (if label then Behind else (if skip then Behind else Free))
place_by false select label skip = if skip then Behind else Free

-- the place behind an instruction that is no select, and no label where it stands behind a skip
place_plain : (behind select label skip : Bool) → select ≡ false → (behind ≡ true → label ≡ false) → place_by behind select label skip ≡ place_of skip
place_plain false select label true is apart = refl
place_plain false select label false is apart = refl
place_plain true true label skip is apart = absurd (true_false is)
place_plain true false true skip is apart = absurd (true_false (apart refl))
place_plain true false false true is apart = refl
place_plain true false false false is apart = refl

place_is : (behind : Bool) (s : Sym) → place_after (place_of behind) s ≡ place_by behind (is_select s) (is_label s) (is_skip s)
place_is true s = refl
place_is false s = refl

-- One instruction that is no select is put, and finds what it needs.
put_one : (placed : Placed) (own : BlockName) (list out : List Sym) (state : State) (s : Sym) (rest : List Sym) → is_select s ≡ false → (state.behind ≡ true → is_label s ≡ false) → is_right placed own state.known s ≡ true → (is_skip s ≡ true → ((writes_status s || writes_pclath s) ≡ false) × (chain_right placed own state.known rest ≡ true)) → bare out ++ bare (s ∷ rest) ≡ bare list → walk Free out ≡ place_of state.behind → over own front out ≡ state → all_pass (is_right placed own) own front out ≡ true → all_pass (is_lean own) own front out ≡ true → Made placed own list (out ++ s ∷ []) (passed state.known s state.behind) rest
put_one placed own list out state s rest is apart right next same place known before before_lean =
    let last : bare (s ∷ []) ≡ s ∷ [] = kept s [] is in
    let P : State → Type 0 = λ (x : State). all_pass (is_right placed own) own x (s ∷ []) ≡ true in
    let Q : State → Type 0 = λ (x : State). all_pass (is_lean own) own x (s ∷ []) ≡ true in
    record {
      same = ap (λ (xs : List Sym). xs ++ bare rest) (filter-append (λ x. not (is_select x)) out (s ∷ []) ∙ ap (λ (xs : List Sym). bare out ++ xs) last) ∙ (append_assoc (bare out) (s ∷ []) (bare rest) ∙ (ap (λ (xs : List Sym). bare out ++ xs) (sym (kept s rest is)) ∙ same));
      place = walk_on Free out (s ∷ []) ∙ (ap (λ p. place_after p s) place ∙ (place_is state.behind s ∙ place_plain state.behind (is_select s) (is_label s) (is_skip s) is apart));
      known = over_on own front out (s ∷ []) ∙ (ap (λ (x : State). seen own x s) known ∙ ap (λ (k : Known). record { known = k; behind = is_skip s }) (seen_plain own state.known s state.behind is));
      right = pass_on (is_right placed own) own front out (s ∷ []) before (subst P (sym known) (and_both (is_right placed own state.known s) true right refl));
      lean = pass_on (is_lean own) own front out (s ∷ []) before_lean (subst Q (sym known) (and_both (is_lean own state.known s) true (plain_lean own state.known s is) refl));
      chain = λ skip. let two = next skip in ap (λ (k : Known). chain_right placed own k rest) (after_skip state.known s state.behind skip two.0) ∙ two.1;
    }

-- what is known already, a select doesn't change
bit_same : (known : Option Bool) (on : Bool) → is_bit known on ≡ true → known ≡ Some on
bit_same None on is = absurd (true_false (sym is))
bit_same (Some true) true is = refl
bit_same (Some false) true is = absurd (true_false (sym is))
bit_same (Some true) false is = absurd (true_false (sym is))
bit_same (Some false) false is = refl

pub block_same : (a b : BlockName) → same_name a b ≡ true → a ≡ b
block_same names.Start names.Start is = refl
block_same names.Start (names.Copy b) is = absurd (true_false (sym is))
block_same (names.Copy a) names.Start is = absurd (true_false (sym is))
block_same (names.Copy a) (names.Copy b) is = ap (λ (n : ℕ). names.Copy n) (eqb-true a b is)

page_same : (known : Option BlockName) (block : BlockName) → is_page known block ≡ true → known ≡ Some block
page_same None block is = absurd (true_false (sym is))
page_same (Some k) block is = ap (λ (n : BlockName). Some n) (block_same k block is)

knows_same : (own : BlockName) (known : Known) (s : Sym) → knows own known s ≡ true → known ≡ learned own known s
knows_same own known (syms.SelectBank bank_bits.Rp0 on) is = ap (λ (b : Option Bool). record known { rp0 = b }) (bit_same known.rp0 on is)
knows_same own known (syms.SelectBank bank_bits.Rp1 on) is = ap (λ (b : Option Bool). record known { rp1 = b }) (bit_same known.rp1 on is)
knows_same own known (syms.SelectBank bank_bits.Irp on) is = absurd (true_false (sym is))
knows_same own known (syms.SelectPage page_bits.Low target) is = ap (λ (p : Option BlockName). record known { low = p }) (page_same known.low (block_of own target) is)
knows_same own known (syms.SelectPage page_bits.High target) is = ap (λ (p : Option BlockName). record known { high = p }) (page_same known.high (block_of own target) is)
knows_same own known (syms.File op file into) is = absurd (true_false (sym is))
knows_same own known (syms.Bit op file bit) is = absurd (true_false (sym is))
knows_same own known (syms.Movwf file) is = absurd (true_false (sym is))
knows_same own known (syms.Clrf file) is = absurd (true_false (sym is))
knows_same own known (syms.Literal op value) is = absurd (true_false (sym is))
knows_same own known (syms.Plain op) is = absurd (true_false (sym is))
knows_same own known (syms.Call target) is = absurd (true_false (sym is))
knows_same own known (syms.Goto target) is = absurd (true_false (sym is))
knows_same own known (syms.Label label) is = absurd (true_false (sym is))
knows_same own known (syms.Table table root) is = absurd (true_false (sym is))

-- a select needs nothing, and is no skip
select_right : (placed : Placed) (own : BlockName) (known : Known) (s : Sym) → is_select s ≡ true → (is_right placed own known s ≡ true) × (is_skip s ≡ false)
select_right placed own known (syms.SelectBank bit on) is = (refl, refl)
select_right placed own known (syms.SelectPage bit target) is = (refl, refl)
select_right placed own known (syms.File op file into) is = absurd (true_false (sym is))
select_right placed own known (syms.Bit op file bit) is = absurd (true_false (sym is))
select_right placed own known (syms.Movwf file) is = absurd (true_false (sym is))
select_right placed own known (syms.Clrf file) is = absurd (true_false (sym is))
select_right placed own known (syms.Literal op value) is = absurd (true_false (sym is))
select_right placed own known (syms.Plain op) is = absurd (true_false (sym is))
select_right placed own known (syms.Call target) is = absurd (true_false (sym is))
select_right placed own known (syms.Goto target) is = absurd (true_false (sym is))
select_right placed own known (syms.Label label) is = absurd (true_false (sym is))
select_right placed own known (syms.Table table root) is = absurd (true_false (sym is))

abbrev pub free_state : Known → State
free_state known = record { known = known; behind = false }

-- What selects do from a place that isn't behind a skip: they are no instructions of the list, and give what they select.
pub record Selects (placed : Placed) (own : BlockName) (known last : Known) (list : List Sym) : Type 0 where
  pub none : bare list ≡ []
  pub free : walk Free list ≡ Free
  pub over_is : over own (free_state known) list ≡ free_state last
  pub right : all_pass (is_right placed own) own (free_state known) list ≡ true
  pub lean : all_pass (is_lean own) own (free_state known) list ≡ true

one_by : (placed : Placed) (own : BlockName) (known : Known) (s : Sym) (already : Bool) → is_select s ≡ true → knows own known s ≡ already → Selects placed own known (learned own known s) (if already then [] else s ∷ [])
one_by placed own known s true is e = record { none = refl; free = refl; over_is = ap free_state (knows_same own known s e); right = refl; lean = refl }
one_by placed own known s false is e =
    let own_right = select_right placed own known s is in
    record {
      none = left_out s [] is;
      free = ap (λ (b : Bool). if b then Behind else Free) own_right.1;
      over_is = ap (λ (b : Bool). record { known = if b then learned own known s else after known s false; behind = is_skip s }) is ∙ ap (λ (b : Bool). record { known = learned own known s; behind = b }) own_right.1;
      right = and_both (is_right placed own known s) true own_right.0 refl;
      lean = and_both (is_lean own known s) true (ap not e) refl;
    }

selects_on : (placed : Placed) (own : BlockName) (a b c : Known) (xs ys : List Sym) → Selects placed own a b xs → Selects placed own b c ys → Selects placed own a c (xs ++ ys)
selects_on placed own a b c xs ys p q =
    let P : State → Type 0 = λ (x : State). all_pass (is_right placed own) own x ys ≡ true in
    let Q : State → Type 0 = λ (x : State). all_pass (is_lean own) own x ys ≡ true in
    record {
      none = filter-append (λ x. not (is_select x)) xs ys ∙ (ap (λ (l : List Sym). l ++ bare ys) p.none ∙ q.none);
      free = walk_on Free xs ys ∙ (ap (λ x. walk x ys) p.free ∙ q.free);
      over_is = over_on own (free_state a) xs ys ∙ (ap (λ (x : State). over own x ys) p.over_is ∙ q.over_is);
      right = pass_on (is_right placed own) own (free_state a) xs ys p.right (subst P (sym p.over_is) q.right);
      lean = pass_on (is_lean own) own (free_state a) xs ys p.lean (subst Q (sym p.over_is) q.lean);
    }

abbrev pub are_selects : List Sym → Bool
are_selects [] = true
are_selects (s ∷ list) = is_select s && are_selects list

missing_selected : (placed : Placed) (own : BlockName) (known : Known) (list : List Sym) → are_selects list ≡ true → Selects placed own known (behind_selects own known list) (missing own known list)
missing_selected placed own known [] all = record { none = refl; free = refl; over_is = refl; right = refl; lean = refl }
missing_selected placed own known (s ∷ list) all =
    let later_known = learned own known s in
    let first = one_by placed own known s (knows own known s) (and_left (is_select s) (are_selects list) all) refl in
    let others = missing_selected placed own later_known list (and_right (is_select s) (are_selects list) all) in
    selects_on placed own known later_known (behind_selects own later_known list) (unknown own known s) (missing own later_known list) first others

bank_select : (bank : Option ℕ) → are_selects (bank_selects bank) ≡ true
bank_select None = refl
bank_select (Some bank) = refl

page_select : (page : Option Target) → are_selects (page_selects page) ≡ true
page_select None = refl
page_select (Some target) = refl

-- the selects that are put for some needs
pub selected_for : (placed : Placed) (own : BlockName) (known : Known) (needs : Needs) → Selects placed own known (known_with own known needs) (missing_for own known needs)
selected_for placed own known needs =
    let later_known = behind_bank own known needs in
    selects_on placed own known later_known (known_with own known needs) (missing own known (bank_selects needs.bank)) (missing own later_known (page_selects needs.page)) (missing_selected placed own known (bank_selects needs.bank) (bank_select needs.bank)) (missing_selected placed own later_known (page_selects needs.page) (page_select needs.page))

bit_met : (on : Bool) → same_bit on on ≡ true
bit_met true = refl
bit_met false = refl

bank_met : (own : BlockName) (known : Known) (bank : Option ℕ) (page : Option Target) → meets_bank (behind_selects own (behind_selects own known (bank_selects bank)) (page_selects page)) bank ≡ true
bank_met own known None page = refl
bank_met own known (Some bank) None = and_both (same_bit (rp1_of bank) (rp1_of bank)) (same_bit (rp0_of bank) (rp0_of bank)) (bit_met (rp1_of bank)) (bit_met (rp0_of bank))
bank_met own known (Some bank) (Some target) = and_both (same_bit (rp1_of bank) (rp1_of bank)) (same_bit (rp0_of bank) (rp0_of bank)) (bit_met (rp1_of bank)) (bit_met (rp0_of bank))

block_met : (block : BlockName) → same_name block block ≡ true
block_met names.Start = refl
block_met (names.Copy a) = eq-eqb a a refl

page_met : (own : BlockName) (known : Known) (bank : Option ℕ) (page : Option Target) → reaches_target own (behind_selects own (behind_selects own known (bank_selects bank)) (page_selects page)) page ≡ true
page_met own known bank None = refl
page_met own known None (Some target) = and_both (same_name (block_of own target) (block_of own target)) (same_name (block_of own target) (block_of own target)) (block_met (block_of own target)) (block_met (block_of own target))
page_met own known (Some bank) (Some target) = and_both (same_name (block_of own target) (block_of own target)) (same_name (block_of own target) (block_of own target)) (block_met (block_of own target)) (block_met (block_of own target))

chain_met : (placed : Placed) (own : BlockName) (known : Known) (list : List Sym) (needs : Needs) → needs_in placed list ≡ Some needs → chain_right placed own (known_with own known needs) list ≡ true
chain_met placed own known list needs is = chain_of_needs placed own (known_with own known needs) list needs is (bank_met own known needs.bank needs.page) (page_met own known needs.bank needs.page)

-- the selects that an instruction needs are put
put_before : (placed : Placed) (own : BlockName) (list out : List Sym) (state : State) (s : Sym) (rest : List Sym) (needs : Needs) → state.behind ≡ false → needs_in placed (s ∷ rest) ≡ Some needs → Made placed own list out state (s ∷ rest) → Made placed own list (out ++ missing_for own state.known needs) (record { known = known_with own state.known needs; behind = false }) (s ∷ rest)
put_before placed own list out state s rest needs free is made =
    let put = selected_for placed own state.known needs in
    let new = missing_for own state.known needs in
    let here : over own front out ≡ record { known = state.known; behind = false } = made.known ∙ ap (λ (b : Bool). record { known = state.known; behind = b }) free in
    let P : State → Type 0 = λ (x : State). all_pass (is_right placed own) own x new ≡ true in
    let Q : State → Type 0 = λ (x : State). all_pass (is_lean own) own x new ≡ true in
    record {
      same = ap (λ (xs : List Sym). xs ++ bare (s ∷ rest)) (filter-append (λ x. not (is_select x)) out new ∙ (ap (λ (xs : List Sym). bare out ++ xs) put.none ∙ append-nil (bare out))) ∙ made.same;
      place = walk_on Free out new ∙ (ap (λ x. walk x new) (made.place ∙ ap place_of free) ∙ put.free);
      known = over_on own front out new ∙ (ap (λ (x : State). over own x new) here ∙ put.over_is);
      right = pass_on (is_right placed own) own front out new made.right (subst P (sym here) put.right);
      lean = pass_on (is_lean own) own front out new made.lean (subst Q (sym here) put.lean);
      chain = λ e. absurd (true_false (sym e));
    }

or_cases : (behind label : Bool) → (behind || label) ≡ true → behind ≡ false → label ≡ true
or_cases true label is apart = absurd (true_false apart)
or_cases false label is apart = is

step_plain_by : (placed : Placed) (own : BlockName) (list out : List Sym) (state : State) (s : Sym) (rest : List Sym) (behind : Bool) → state.behind ≡ behind → is_select s ≡ false → (state.behind || is_label s) ≡ true → Made placed own list out state (s ∷ rest) → Made placed own list (out ++ s ∷ []) (passed state.known s state.behind) rest
step_plain_by placed own list out state s rest true at is either made =
    let first = chain_first placed own state.known s rest is (made.chain at) in
    put_one placed own list out state s rest is (λ e. first.0) first.1 first.2 made.same made.place made.known made.right made.lean
step_plain_by placed own list out state s rest false at is either made =
    let label = or_cases state.behind (is_label s) either at in
    let right = label_right placed own state.known s label in
    put_one placed own list out state s rest is (λ e. absurd (true_false (sym e ∙ at))) right.0 (λ e. absurd (true_false (sym e ∙ right.1))) made.same made.place made.known made.right made.lean

-- behind a skip, or at a label
step_plain : (placed : Placed) (own : BlockName) (list out : List Sym) (state : State) (s : Sym) (rest : List Sym) → is_select s ≡ false → (state.behind || is_label s) ≡ true → Made placed own list out state (s ∷ rest) → Made placed own list (out ++ s ∷ []) (passed state.known s state.behind) rest
step_plain placed own list out state s rest is either made = step_plain_by placed own list out state s rest state.behind refl is either made

none_of : (a b : Bool) → (a || b) ≡ false → (a ≡ false) × (b ≡ false)
none_of false b is = (refl, is)
none_of true b is = absurd (true_false is)

-- elsewhere
step_fresh : (placed : Placed) (own : BlockName) (list out : List Sym) (state : State) (s : Sym) (rest : List Sym) (needs : Needs) → is_select s ≡ false → (state.behind || is_label s) ≡ false → needs_in placed (s ∷ rest) ≡ Some needs → Made placed own list out state (s ∷ rest) → Made placed own list (out ++ missing_for own state.known needs ++ s ∷ []) (passed (known_with own state.known needs) s false) rest
step_fresh placed own list out state s rest needs is neither found made =
    let none = none_of state.behind (is_label s) neither in
    let with_selects = put_before placed own list out state s rest needs none.0 found made in
    let first = chain_first placed own (known_with own state.known needs) s rest is (chain_met placed own state.known (s ∷ rest) needs found) in
    put_one placed own list (out ++ missing_for own state.known needs) (record { known = known_with own state.known needs; behind = false }) s rest is (λ e. absurd (true_false (sym e))) first.1 first.2 with_selects.same with_selects.place with_selects.known with_selects.right with_selects.lean

moved : (placed : Placed) (own : BlockName) (list out new : List Sym) (state next : State) (rest : List Sym) → new ≡ out → next ≡ state → Made placed own list out state rest → Made placed own list new next rest
moved placed own list out new state next rest same at made =
    let P : List Sym → Type 0 = λ o. Made placed own list o state rest in
    let Q : State → Type 0 = λ x. Made placed own list new x rest in
    subst Q (sym at) (subst P (sym same) made)

next_by : (placed : Placed) (own : BlockName) (list out new : List Sym) (state next : State) (s : Sym) (rest : List Sym) (select plain : Bool) (needs : Option Needs) → is_select s ≡ select → (state.behind || is_label s) ≡ plain → needs_in placed (s ∷ rest) ≡ needs → NextFor select plain own state s needs out new next → Made placed own list out state (s ∷ rest) → Made placed own list new next rest
next_by placed own list out new state next s rest true plain needs is either found step made = moved placed own list out new state next rest step.0 step.1 (step_select placed own list out state s rest is made)
next_by placed own list out new state next s rest false true needs is either found step made = moved placed own list (out ++ s ∷ []) new (passed state.known s state.behind) next rest step.0 step.1 (step_plain placed own list out state s rest is either made)
next_by placed own list out new state next s rest false false None is either found step made = absurd step
next_by placed own list out new state next s rest false false (Some needs) is either found step made = moved placed own list (out ++ missing_for own state.known needs ++ s ∷ []) new (passed (known_with own state.known needs) s false) next rest step.0 step.1 (step_fresh placed own list out state s rest needs is either found made)

-- one more instruction
pub made_more : (placed : Placed) (own : BlockName) (list out new : List Sym) (state next : State) (s : Sym) (left rest : List Sym) → left ≡ s ∷ rest → Next placed own state s left out new next → Made placed own list out state left → Made placed own list new next rest
made_more placed own list out new state next s left rest e step made =
    let P : List Sym → Type 0 = λ l. Next placed own state s l out new next × Made placed own list out state l in
    let both = subst P e (step, made) in
    next_by placed own list out new state next s rest (is_select s) (state.behind || is_label s) (needs_in placed (s ∷ rest)) refl refl refl both.0 both.1

abbrev is_behind : Place → Type 0
is_behind Behind = Unit {0}
is_behind _ = ⊥

abbrev is_free : Place → Type 0
is_free Free = Unit {0}
is_free _ = ⊥

free_of : (b : Bool) → place_of b ≡ Broken → ⊥
free_of true e =
    let P : Place → Type 0 = is_behind in
    subst P e tt
free_of false e =
    let P : Place → Type 0 = is_free in
    subst P e tt

-- at the end of the list
pub made_all : (placed : Placed) (own : BlockName) (list out : List Sym) (state : State) (rest : List Sym) → rest ≡ [] → Made placed own list out state rest → (bare out ≡ bare list) × NoSelectBehindSkip out × (all_pass (is_right placed own) own front out ≡ true) × (all_pass (is_lean own) own front out ≡ true)
made_all placed own list out state rest none made =
    (sym (append-nil (bare out)) ∙ (ap (λ (xs : List Sym). bare out ++ bare xs) (sym none) ∙ made.same), (λ broken. free_of state.behind (sym made.place ∙ broken)), made.right, made.lean)

-- the first of a list, and the others
tail_is : (left : List Sym) (d : Sym) → 1 ≤ length left → left ≡ get_or left 0 d ∷ take (length left - 1) (drop 1 left)
tail_is [] d some = absurd (omega (arith, some))
tail_is (s ∷ rest) d some =
    let e : length (s ∷ rest) - 1 ≡ length rest = omega arith in
    ap (λ (xs : List Sym). s ∷ xs) (sym (ap (λ n. take n rest) e ∙ take_all (length rest) rest (omega arith)))

-- ---- what selects can be put into
pub ready_now : (placed : Placed) (left : List Sym) (d : Sym) → 1 ≤ length left → are_ready placed left ≡ true → is_ready placed (get_or left 0 d) left ≡ true
ready_now placed [] d some ready = absurd (omega (arith, some))
ready_now placed (s ∷ rest) d some ready = and_left (is_ready placed s (s ∷ rest)) (are_ready placed rest) ready

-- what is needed is told where a select may stand
pub no_needs : (select label : Bool) (needs : Option Needs) → select ≡ false → label ≡ false → needs ≡ None → ((select || label) || is_some needs) ≡ true → ⊥
no_needs true label needs e f none ready = true_false e
no_needs false true needs e f none ready = true_false f
no_needs false false None e f none ready = true_false (sym ready)
no_needs false false (Some needs) e f none ready = true_false (ap is_some none)

-- one turn of the loop
pub turn : (placed : Placed) (own name last : BlockName) (list out new : List Sym) (state next : State) (left : List Sym) (d : Sym) → 1 ≤ length left → (are_well_formed left ≡ true) × (are_ready placed left ≡ true) × (name ≡ own) × Made placed own list out state left × Few list out state left × Exact placed own list out state left → Next placed name state (get_or left 0 d) left out new next → last ≡ name → (are_well_formed (take (length left - 1) (drop 1 left)) ≡ true) × (are_ready placed (take (length left - 1) (drop 1 left)) ≡ true) × (last ≡ own) × Made placed own list new next (take (length left - 1) (drop 1 left)) × Few list new next (take (length left - 1) (drop 1 left)) × Exact placed own list new next (take (length left - 1) (drop 1 left))
turn placed own name last list out new state next left d some before step same =
    let e = tail_is left d some in
    let P : List Sym → Type 0 = λ l. are_well_formed l ≡ true in
    let R : List Sym → Type 0 = λ l. are_ready placed l ≡ true in
    let Q : BlockName → Type 0 = λ n. Next placed n state (get_or left 0 d) left out new next in
    let rest = take (length left - 1) (drop 1 left) in (
      and_right (is_well_formed (get_or left 0 d)) (are_well_formed rest) (subst P e before.0),
      and_right (is_ready placed (get_or left 0 d) (get_or left 0 d ∷ rest)) (are_ready placed rest) (subst R e before.1),
      same ∙ before.2,
      made_more placed own list out new state next (get_or left 0 d) left rest e (subst Q before.2 step) before.3,
      few_more placed own list out new state next (get_or left 0 d) left rest e (subst Q before.2 step) before.4,
      exact_more placed own list out new state next (get_or left 0 d) left rest e (subst Q before.2 step) before.5,
    )

-- What becomes of a block with its selects has at most the words that are counted.
use Rattle.std.proofs.Common.{◌≡◌, ℕ, ◌+◌, ◌≤◌, inl, inr, Bool, true, false, not, ◌&&◌, ◌||◌, if◌then◌else◌, List, [], ◌∷◌, ◌++◌, length, Option, Some, None, refl, sym, ap, ◌∙◌, subst, arith}
use Rattle.std.proofs.lemmas.Option.{none-some}
use Rattle.std.proofs.lemmas.List.Sums.{sum_by-append, sum_by-cons}
use Rattle.core_code.specs.declared.code.Byte.{Byte}
use Rattle.pic_map.specs.declared.Placed.{Placed}
use Rattle.sym_code.specs.Selects.{is_select}
use Rattle.sym_code.specs.Words.{words_of_one, words_in}
use Rattle.sym_code.specs.declared.code.BankBit.TheVariants as bank_bits
use Rattle.sym_code.specs.declared.code.BlockName.{BlockName}
use Rattle.sym_code.specs.declared.code.Sym.{Sym}
use Rattle.sym_code.specs.declared.code.Sym.TheVariants as syms
use Rattle.sym_code.specs.declared.code.Target.{Target}
use Rattle.bank_page.specs.Kinds.{is_label, is_skip, byte_of, target_of}
use Rattle.bank_page.specs.Known.{nothing, kept, left, after, ends, forgets, knows, learned, same_bit, is_bit, is_of_bit, writes_status, writes_pclath}
use Rattle.bank_page.specs.Needs.{banked, needs_one, needs_in}
use Rattle.bank_page.specs.Selected.{has_bank}
use Rattle.bank_page.specs.Step.{rp0_of, rp1_of, bank_selects, page_selects, unknown, missing, behind_selects, behind_bank, missing_for, known_with, passed, put_of, state_of, selected_from}
use Rattle.bank_page.specs.declared.known.Known.{Known}
use Rattle.bank_page.specs.declared.needs.Needs.{Needs}
use Rattle.bank_page.specs.declared.selecting.State.{State}
use Rattle.bank_page.proofs.Chains as chains
use Rattle.bank_page.proofs.Sizes.{count_bank, count_page}
use Rattle.program_code.specs.Counting.{is_own, loses, has_with, has_behind, counted}
use Rattle.program_code.specs.Bounds.{AreBanked, SelectsAreCounted}
use Rattle.program_code.proofs.Chain as chain
use Rattle.program_code.proofs.Chain.{never, has_none, none_first, none_later, bare_none, due, has_last, Banks}

and_first : (a b : Bool) → (a && b) ≡ true → a ≡ true
and_first true b e = refl
and_first false b e = e

and_last : (a b : Bool) → (a && b) ≡ true → b ≡ true
and_last true b e = e
and_last false b e = never e

and_both : (a b : Bool) → a ≡ true → b ≡ true → (a && b) ≡ true
and_both true b p q = q
and_both false b p q = p

-- ---- what is selected
knows_bank : ℕ → Known → Type 0
knows_bank bank known = has_bank known (Some bank) ≡ true

bit_met : (on : Bool) → same_bit on on ≡ true
bit_met true = refl
bit_met false = refl

bank_selected : (own : BlockName) (bank : ℕ) (known : Known) → has_bank (behind_selects own known (bank_selects (Some bank))) (Some bank) ≡ true
bank_selected own bank known = and_both (same_bit (rp1_of bank) (rp1_of bank)) (same_bit (rp0_of bank) (rp0_of bank)) (bit_met (rp1_of bank)) (bit_met (rp0_of bank))

behind_page : (own : BlockName) (bank : ℕ) (known : Known) (page : Option Target) → has_bank (behind_selects own known (page_selects page)) (Some bank) ≡ has_bank known (Some bank)
behind_page own bank known None = refl
behind_page own bank known (Some target) = refl

-- ---- how many selects are put
one_word : (s : Sym) → words_of_one s ≤ 1
one_word (syms.Label label) = omega arith
one_word (syms.File op file into) = omega arith
one_word (syms.Movwf file) = omega arith
one_word (syms.Clrf file) = omega arith
one_word (syms.Bit op file bit) = omega arith
one_word (syms.Literal op value) = omega arith
one_word (syms.Plain op) = omega arith
one_word (syms.Call target) = omega arith
one_word (syms.Goto target) = omega arith
one_word (syms.SelectBank bit on) = omega arith
one_word (syms.SelectPage bit target) = omega arith
one_word (syms.Table table root) = omega arith

unknown_words : (s : Sym) (already : Bool) → words_in (if already then [] else s ∷ []) ≤ 1
unknown_words s true = omega arith
unknown_words s false =
    let more = sum_by-cons words_of_one s [] in
    let one = one_word s in
    omega (arith, more, one)

missing_words : (own : BlockName) (known : Known) (list : List Sym) → words_in (missing own known list) ≤ length list
missing_words own known [] = omega arith
missing_words own known (s ∷ list) =
    let two = sum_by-append words_of_one (unknown own known s) (missing own (learned own known s) list) in
    let one = unknown_words s (knows own known s) in
    let others = missing_words own (learned own known s) list in
    omega (arith, two, one, others)

none_unknown : (c d : Bool) (s t : Sym) → c ≡ true → d ≡ true → words_in ((if c then [] else s ∷ []) ++ ((if d then [] else t ∷ []) ++ [])) ≤ 0
none_unknown true true s t e f = omega arith
none_unknown true false s t e f = never f
none_unknown false d s t e f = never e

none_missing : (own : BlockName) (bank : ℕ) (known : Known) → has_bank known (Some bank) ≡ true → words_in (missing own known (bank_selects (Some bank))) ≤ 0
none_missing own bank known k =
    none_unknown (is_bit known.rp1 (rp1_of bank)) (is_bit known.rp0 (rp0_of bank)) (syms.SelectBank bank_bits.Rp1 (rp1_of bank)) (syms.SelectBank bank_bits.Rp0 (rp0_of bank))
    (and_first (is_bit known.rp1 (rp1_of bank)) (is_bit known.rp0 (rp0_of bank)) k) (and_last (is_bit known.rp1 (rp1_of bank)) (is_bit known.rp0 (rp0_of bank)) k)

-- ---- behind an instruction
or_none : (a b : Bool) → (a || b) ≡ false → (a ≡ false) × (b ≡ false)
or_none true b e = never (sym e)
or_none false b e = (refl, e)

and_none : (a b d : Bool) → (a && (b || d)) ≡ false → ((a && b) ≡ false) × ((a && d) ≡ false)
and_none true b d e = or_none b d e
and_none false b d e = (refl, refl)

kept_bit : (c : Bool) (known : Option Bool) (on : Bool) → c ≡ false → is_bit (kept c known) on ≡ is_bit known on
kept_bit true known on e = never (sym e)
kept_bit false known on e = refl

goes_on : (a b d : Bool) → a ≡ false → b ≡ false → (a || (b && d)) ≡ false
goes_on true b d e f = e
goes_on false true d e f = never (sym f)
goes_on false false d e f = refl

keeps_bank : (bank : ℕ) (known : Known) (s : Sym) (behind : Bool) → loses s ≡ false → has_bank known (Some bank) ≡ true → has_bank (after known s behind) (Some bank) ≡ true
keeps_bank bank known s behind e k =
    let parts = or_none (forgets s || ends s) (writes_status s && (is_of_bit s 5 || is_of_bit s 6)) e in
    let ways = or_none (forgets s) (ends s) parts.0 in
    let bits = and_none (writes_status s) (is_of_bit s 5) (is_of_bit s 6) parts.1 in
    let whole = goes_on (forgets s) (ends s) (not behind) ways.0 ways.1 in
    ap (λ (c : Bool). has_bank (if c then nothing else left known s (writes_status s) (writes_pclath s)) (Some bank)) whole
    ∙ and_both (is_bit (kept (writes_status s && is_of_bit s 6) known.rp1) (rp1_of bank)) (is_bit (kept (writes_status s && is_of_bit s 5) known.rp0) (rp0_of bank))
    (kept_bit (writes_status s && is_of_bit s 6) known.rp1 (rp1_of bank) bits.1 ∙ and_first (is_bit known.rp1 (rp1_of bank)) (is_bit known.rp0 (rp0_of bank)) k)
    (kept_bit (writes_status s && is_of_bit s 5) known.rp0 (rp0_of bank) bits.0 ∙ and_last (is_bit known.rp1 (rp1_of bank)) (is_bit known.rp0 (rp0_of bank)) k)

label_lost : (s : Sym) → is_label s ≡ true → loses s ≡ true
label_lost (syms.Label label) e = refl
label_lost (syms.File op file into) e = never e
label_lost (syms.Movwf file) e = never e
label_lost (syms.Clrf file) e = never e
label_lost (syms.Bit op file bit) e = never e
label_lost (syms.Literal op value) e = never e
label_lost (syms.Plain op) e = never e
label_lost (syms.Call target) e = never e
label_lost (syms.Goto target) e = never e
label_lost (syms.SelectBank bit on) e = never e
label_lost (syms.SelectPage bit target) e = never e
label_lost (syms.Table table root) e = never e

-- ---- a whole list
module _ (placed : Placed) (own : BlockName) (c bank : ℕ) where
  abbrev owed : Bool → Bool → List Sym → ℕ
  owed behind has list = if behind then due c has true list else 0

  abbrev at_last : Bool → Bool → List Sym → Bool
  at_last behind has list = if behind then has_last c has true list else has

  abbrev at : Known → Bool → State
  at known behind = record { known = known; behind = behind }

  -- what is put for an instruction without selects
  put_words : (known : Known) (behind plain : Bool) (s : Sym) (rest : List Sym) (needs : Option Needs) → is_select s ≡ false
      → words_in (put_of (is_select s) plain own (at known behind) s needs ++ selected_from placed own (state_of (is_select s) plain own (at known behind) s needs) rest)
      ≡ words_in (put_of false plain own (at known behind) s needs) + words_in (selected_from placed own (state_of false plain own (at known behind) s needs) rest)
  put_words known behind plain s rest needs e =
      ap (λ (k : Bool). words_in (put_of k plain own (at known behind) s needs ++ selected_from placed own (state_of k plain own (at known behind) s needs) rest)) e
      ∙ sum_by-append words_of_one (put_of false plain own (at known behind) s needs) (selected_from placed own (state_of false plain own (at known behind) s needs) rest)

  abbrev Counts : Known → Bool → Bool → List Sym → Type 0
  Counts known behind has list = (at_last behind has list ≡ true → has_bank known (Some bank) ≡ true) → words_in (selected_from placed own (at known behind) list) + owed behind has list ≤ counted c has behind list

  one_alone : (s : Sym) → words_in (s ∷ []) ≡ words_of_one s
  one_alone s = let e = sum_by-cons words_of_one s [] in omega (arith, e)

  -- behind a skip
  counts_behind : (known : Known) (has : Bool) (s : Sym) (rest : List Sym) → is_select s ≡ false → Counts (after known s true) (is_skip s) (has_behind c has true s) rest → Counts known true has (s ∷ rest)
  counts_behind known has s rest no_select later met =
      let h = has_behind c has true s in
      let put = put_words known true true s rest (needs_in placed (s ∷ rest)) no_select in
      let one = one_alone s in
      let goes : at_last (is_skip s) h rest ≡ true → h ≡ true = λ e. by_skip (is_skip s) e in
      let more = later (λ e. keeps_bank bank known s true (chain.not_lost placed c bank (loses s) (has_with c has true (byte_of s)) (goes e)).0 (met e)) in
      omega (arith, put, one, more)
    where
      by_skip : (k : Bool) → at_last k (has_behind c has true s) rest ≡ true → has_behind c has true s ≡ true
      by_skip true e = chain.still_last placed c bank (has_behind c has true s) rest e
      by_skip false e = e

  -- ---- before a first skip
  at_front : (k h : Bool) (rest : List Sym) → at_last k h rest ≡ true → h ≡ true
  at_front true h rest e = chain.still_last placed c bank h rest e
  at_front false h rest e = e

  -- where nothing is put before it
  counts_alone : (known : Known) (has plain : Bool) (s : Sym) (rest : List Sym) (needs : Option Needs) → is_select s ≡ false → put_of false plain own (at known false) s needs ≡ s ∷ [] → state_of false plain own (at known false) s needs ≡ passed known s false
      → (has_behind c has false s ≡ true → at_last (is_skip s) (has_behind c has false s) rest ≡ true → has_bank known (Some bank) ≡ true) → Counts (after known s false) (is_skip s) (has_behind c has false s) rest
      → words_in (put_of (is_select s) plain own (at known false) s needs ++ selected_from placed own (state_of (is_select s) plain own (at known false) s needs) rest) ≤ counted c has false (s ∷ rest)
  counts_alone known has plain s rest needs no_select put_is state_is met later =
      let h = has_behind c has false s in
      let put = put_words known false plain s rest needs no_select in
      let first = ap words_in put_is in
      let others = ap (λ (st : State). words_in (selected_from placed own st rest)) state_is in
      let one = one_alone s in
      let more = later (λ e. let f = at_front (is_skip s) h rest e in keeps_bank bank known s false (chain.not_lost placed c bank (loses s) (has_with c has (is_skip s) (byte_of s)) f).0 (met f e)) in
      omega (arith, put, first, others, one, more)

  -- what has no address is no byte of the frame
  no_address : (has : Bool) (o : Option Byte) → chain.Fits placed c bank o → banked placed o ≡ None → has_with c has false o ≡ true → has ≡ true
  no_address has None fits e is = is
  no_address has (Some byte) fits e is = by_own (is_own c byte) refl is
    where
      by_own : (o : Bool) → is_own c byte ≡ o → (if o then has || not false else false) ≡ true → has ≡ true
      by_own true same is = absurd (none-some (Some bank) (sym e ∙ chain.own_bank placed c bank byte fits same))
      by_own false same is = never is

  needs_none : (s : Sym) (b : Option (Option ℕ)) → needs_one s b ≡ None → b ≡ None
  needs_none s None e = refl
  needs_none s (Some x) e = absurd (none-some (record { bank = x; page = target_of s }) (sym e))

  needs_chain : (s : Sym) (rest : List Sym) (label skip : Bool) → is_select s ≡ false → is_label s ≡ label → is_skip s ≡ skip
      → needs_in placed (s ∷ rest) ≡ chains.needs_step false label skip (writes_status s || writes_pclath s) s (banked placed (byte_of s)) (needs_in placed rest)
  needs_chain s rest label skip e f g =
      ap (λ (k : Bool). chains.needs_step k (is_label s) (is_skip s) (writes_status s || writes_pclath s) s (banked placed (byte_of s)) (needs_in placed rest)) e
      ∙ ap (λ (k : Bool). chains.needs_step false k (is_skip s) (writes_status s || writes_pclath s) s (banked placed (byte_of s)) (needs_in placed rest)) f
      ∙ ap (λ (k : Bool). chains.needs_step false label k (writes_status s || writes_pclath s) s (banked placed (byte_of s)) (needs_in placed rest)) g

  none_known : (has : Bool) (s : Sym) (rest : List Sym) → is_select s ≡ false → is_label s ≡ false → chain.Fits placed c bank (byte_of s) → needs_in placed (s ∷ rest) ≡ None → has_behind c has false s ≡ true → has ≡ true
  none_known has s rest no_select no_label fits none is = by_skip (is_skip s) refl
    where
      by_skip : (k : Bool) → is_skip s ≡ k → has ≡ true
      by_skip true e = chain.still_at placed c bank has false s e is
      by_skip false e =
          let with_is = (chain.not_lost placed c bank (loses s) (has_with c has (is_skip s) (byte_of s)) is).1 in
          no_address has (byte_of s) fits (needs_none s (banked placed (byte_of s)) (sym (needs_chain s rest false false no_select no_label e) ∙ none))
          (ap (λ (k : Bool). has_with c has k (byte_of s)) (sym e) ∙ with_is)

  -- where the selects of some needs are put
  few_for : (known : Known) (has : Bool) (needs : Needs) (words : ℕ) → (has ≡ true → has_bank known (Some bank) ≡ true) → chain.Pays placed c bank has needs words → words_in (missing_for own known needs) ≤ words
  few_for known has needs words met (inl l) =
      let two = sum_by-append words_of_one (missing own known (bank_selects needs.bank)) (missing own (behind_bank own known needs) (page_selects needs.page)) in
      let banks = missing_words own known (bank_selects needs.bank) in
      let pages = missing_words own (behind_bank own known needs) (page_selects needs.page) in
      let first = count_bank needs.bank in
      let last = count_page needs.page in
      omega (arith, two, banks, pages, first, last, l)
  few_for known has needs words met (inr p) =
      let two = sum_by-append words_of_one (missing own known (bank_selects needs.bank)) (missing own (behind_bank own known needs) (page_selects needs.page)) in
      let banks : words_in (missing own known (bank_selects needs.bank)) ≤ 0 = subst (λ (o : Option ℕ). words_in (missing own known (bank_selects o)) ≤ 0) (sym p.1) (none_missing own bank known (met p.0)) in
      let pages = missing_words own (behind_bank own known needs) (page_selects needs.page) in
      let last = count_page needs.page in
      let page = p.2 in
      omega (arith, two, banks, pages, last, page)

  known_by : (known : Known) (has : Bool) (o : Option ℕ) → (has ≡ true → has_bank known (Some bank) ≡ true) → chain.Ends placed c bank has o → has_bank (behind_selects own known (bank_selects o)) (Some bank) ≡ true
  known_by known has o met (inl p) = subst (λ (x : Option ℕ). has_bank (behind_selects own known (bank_selects x)) (Some bank) ≡ true) (sym p.0) (met p.1)
  known_by known has o met (inr e) = subst (λ (x : Option ℕ). has_bank (behind_selects own known (bank_selects x)) (Some bank) ≡ true) (sym e) (bank_selected own bank known)

  counts_needs : (known : Known) (has : Bool) (s : Sym) (rest : List Sym) (needs : Needs) → has_none (s ∷ rest) ≡ true → AreBanked placed c bank (s ∷ rest) → needs_in placed (s ∷ rest) ≡ Some needs
      → (has ≡ true → has_bank known (Some bank) ≡ true) → Counts (after (known_with own known needs) s false) (is_skip s) (has_behind c has false s) rest
      → words_in (put_of (is_select s) false own (at known false) s (Some needs) ++ selected_from placed own (state_of (is_select s) false own (at known false) s (Some needs)) rest) ≤ counted c has false (s ∷ rest)
  counts_needs known has s rest needs none fits found met later =
      let h = has_behind c has false s in
      let put = put_words known false false s rest (Some needs) (none_first s rest none) in
      let first = sum_by-append words_of_one (missing_for own known needs) (s ∷ []) in
      let one = one_alone s in
      let few = few_for known has needs (due c has false (s ∷ rest)) met (chain.pays placed c bank has false (s ∷ rest) needs none fits found) in
      let more = later (λ e.
      keeps_bank bank (known_with own known needs) s false (chain.not_lost placed c bank (loses s) (has_with c has (is_skip s) (byte_of s)) (at_front (is_skip s) h rest e)).0
      (behind_page own bank (behind_bank own known needs) needs.page ∙ known_by known has needs.bank met (chain.ends placed c bank has false (s ∷ rest) needs none fits found e))) in
      omega (arith, put, first, one, few, more)

  -- ---- all of it
  abbrev FewerWith : Known → Bool → Sym → List Sym → Bool → Option Needs → Type 0
  FewerWith known has s rest plain needs = words_in (put_of (is_select s) plain own (at known false) s needs ++ selected_from placed own (state_of (is_select s) plain own (at known false) s needs) rest) ≤ counted c has false (s ∷ rest)

  counts_first : (known : Known) (has : Bool) (s : Sym) (rest : List Sym) → has_none (s ∷ rest) ≡ true → AreBanked placed c bank (s ∷ rest) → (has ≡ true → has_bank known (Some bank) ≡ true)
      → ((next : Known) → Counts next (is_skip s) (has_behind c has false s) rest) → words_in (selected_from placed own (at known false) (s ∷ rest)) ≤ counted c has false (s ∷ rest)
  counts_first known has s rest none fits met later = by_label (is_label s) refl
    where
      no_select : is_select s ≡ false
      no_select = none_first s rest none

      by_needs : (needs : Option Needs) → needs_in placed (s ∷ rest) ≡ needs → is_label s ≡ false → FewerWith known has s rest false needs
      by_needs None found no_label = counts_alone known has false s rest None no_select refl refl (λ h e. met (none_known has s rest no_select no_label fits.0 found h)) (later (after known s false))
      by_needs (Some needs) found no_label = counts_needs known has s rest needs none fits found met (later (after (known_with own known needs) s false))

      by_label : (l : Bool) → is_label s ≡ l → FewerWith known has s rest l (needs_in placed (s ∷ rest))
      by_label true e =
          let lost = ap (λ (l : Bool). if l then false else has_with c has (is_skip s) (byte_of s)) (label_lost s e) in
          counts_alone known has true s rest (needs_in placed (s ∷ rest)) no_select refl refl (λ h f. never (sym lost ∙ h)) (later (after known s false))
      by_label false e = by_needs (needs_in placed (s ∷ rest)) refl e

  pub counts : (known : Known) (behind has : Bool) (list : List Sym) → has_none list ≡ true → AreBanked placed c bank list → Counts known behind has list
  counts known true has [] none fits met = omega arith
  counts known false has [] none fits met = omega arith
  counts known true has (s ∷ rest) none fits met =
      counts_behind known has s rest (none_first s rest none) (counts (after known s true) (is_skip s) (has_behind c has true s) rest (none_later s rest none) fits.1) met
  counts known false has (s ∷ rest) none fits met =
      let few = counts_first known has s rest none fits met (λ next. counts next (is_skip s) (has_behind c has false s) rest (none_later s rest none) fits.1) in
      omega (arith, few)

pub selects_are_counted : SelectsAreCounted
selects_are_counted placed given made c bank exact none fits =
    let few = counts placed given.name c bank nothing false false given.list.items (subst (λ (l : List Sym). has_none l ≡ true) none (bare_none given.list.items)) fits (λ e. never e) in
    let same = ap words_in exact.code in
    omega (arith, few, same)

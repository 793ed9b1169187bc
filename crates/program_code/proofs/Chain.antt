-- What a run of skips and the instruction behind them need, and what is counted for it.
use Rattle.std.proofs.Common.{◌≡◌, ℕ, ◌+◌, ◌≤◌, ◌⊎◌, inl, inr, Bool, true, false, not, ◌&&◌, ◌||◌, nat_eq, if◌then◌else◌, List, [], ◌∷◌, Option, Some, None, refl, sym, ap, ◌∙◌, subst, arith}
use Rattle.std.proofs.lemmas.Bool.{eqb-true}
use Rattle.std.proofs.lemmas.Option.{none-some, same_Some}
use Rattle.core_code.specs.declared.code.Byte.{Byte}
use Rattle.core_code.specs.declared.code.Byte.TheVariants as bytes
use Rattle.pic_map.specs.declared.Placed.{Placed}
use Rattle.sym_code.specs.Selects.{is_select, bare}
use Rattle.sym_code.specs.declared.code.Sym.{Sym}
use Rattle.sym_code.specs.declared.code.Target.{Target}
use Rattle.code_place.specs.Addresses.{address_of}
use Rattle.bank_page.specs.Kinds.{is_label, is_skip, byte_of, target_of}
use Rattle.bank_page.specs.Known.{writes_status, writes_pclath}
use Rattle.bank_page.specs.Needs.{both_banks, banked_at, banked, needs_in}
use Rattle.bank_page.specs.declared.needs.Needs.{Needs}
use Rattle.bank_page.proofs.Chains.{true_false, needs_step, with_parts}
use Rattle.bank_page.proofs.Sizes.{cost}
use Rattle.program_code.specs.Counting.{is_own, bank_words, page_words, select_words, loses, has_with, has_behind}
use Rattle.program_code.specs.Bounds.{IsBanked, AreBanked}

pub never : {A : Type 0} → false ≡ true → A
never e = absurd (true_false (sym e))

-- ---- no selects
abbrev pub has_none : List Sym → Bool
has_none [] = true
has_none (s ∷ list) = not (is_select s) && has_none list

pub none_first : (s : Sym) (list : List Sym) → has_none (s ∷ list) ≡ true → is_select s ≡ false
none_first s list e = by_first (is_select s) (has_none list) e
  where
    by_first : (a b : Bool) → (not a && b) ≡ true → a ≡ false
    by_first true b e = never e
    by_first false b e = refl

pub none_later : (s : Sym) (list : List Sym) → has_none (s ∷ list) ≡ true → has_none list ≡ true
none_later s list e = by_first (is_select s) (has_none list) e
  where
    by_first : (a b : Bool) → (not a && b) ≡ true → b ≡ true
    by_first true b e = never e
    by_first false b e = e

pub bare_none : (list : List Sym) → has_none (bare list) ≡ true
bare_none [] = refl
bare_none (s ∷ list) = by_select (is_select s) refl (bare_none list)
  where
    by_select : (b : Bool) → is_select s ≡ b → has_none (bare list) ≡ true → has_none (if not b then s ∷ bare list else bare list) ≡ true
    by_select true e before = before
    by_select false e before = ap (λ (c : Bool). not c && has_none (bare list)) e ∙ before

-- ---- what is counted for the selects of a run of skips, and whether the frame's bank is selected at its end
abbrev pub due : ℕ → Bool → Bool → List Sym → ℕ
due c has behind [] = 0
due c has behind (s ∷ rest) = select_words c has s + (if is_skip s then due c (has_behind c has behind s) true rest else 0)

abbrev pub has_last : ℕ → Bool → Bool → List Sym → Bool
has_last c has behind [] = has
has_last c has behind (s ∷ rest) = if is_skip s then has_last c (has_behind c has behind s) true rest else has_behind c has behind s

-- ---- an access
pub own_bank : (placed : Placed) (c bank : ℕ) (byte : Byte) → ((offset : ℕ) → Some byte ≡ Some (bytes.Frame c offset) → IsBanked placed c bank offset) → is_own c byte ≡ true → banked placed (Some byte) ≡ Some (Some bank)
own_bank placed c bank (bytes.Frame d offset) fits e =
    let same = eqb-true c d e in
    let f = fits offset (ap (λ n. Some (bytes.Frame n offset)) (sym same)) in
    ap (λ n. banked_at (address_of placed (bytes.Frame n offset))) (sym same) ∙ ap banked_at f.1 ∙ ap (λ n. Some (Some n)) f.2
own_bank placed c bank (bytes.Static object offset) fits e = never e
own_bank placed c bank (bytes.Result root k) fits e = never e
own_bank placed c bank (bytes.Device address) fits e = never e

most_two : {A : Type 0} (o : Option A) → cost o ≤ 2
most_two None = omega arith
most_two (Some x) = omega arith

-- the selects of a bank are counted, or it is the frame's, which is selected
abbrev pub Banks : ℕ → Bool → Option ℕ → ℕ → Type 0
Banks bank has x words = (cost x ≤ words) ⊎ ((has ≡ true) × (x ≡ Some bank))

module _ (placed : Placed) (c bank : ℕ) where
  abbrev pub Fits : Option Byte → Type 0
  Fits o = (offset : ℕ) → o ≡ Some (bytes.Frame c offset) → IsBanked placed c bank offset

  banks_one : (has : Bool) (o : Option Byte) (x : Option ℕ) → Fits o → banked placed o ≡ Some x → Banks bank has x (bank_words c has o)
  banks_one has None x fits e = inl (subst (λ (o : Option ℕ). cost o ≤ 0) (same_Some None x e) (omega arith))
  banks_one has (Some byte) x fits e = by_own has (is_own c byte) refl
    where
      by_own : (h o : Bool) → is_own c byte ≡ o → Banks bank h x (if h && o then 0 else 2)
      by_own true true is = inr (refl, same_Some x (Some bank) (sym e ∙ own_bank placed c bank byte fits is))
      by_own true false is = inl (most_two x)
      by_own false o is = inl (most_two x)

  -- what is known at an access's end says which bank it needs
  abbrev pub Ends : Bool → Option ℕ → Type 0
  Ends has x = ((x ≡ None) × (has ≡ true)) ⊎ (x ≡ Some bank)

  ends_with : (has skips : Bool) (o : Option Byte) (x : Option ℕ) → Fits o → banked placed o ≡ Some x → has_with c has skips o ≡ true → Ends has x
  ends_with has skips None x fits e is = inl (sym (same_Some None x e), is)
  ends_with has skips (Some byte) x fits e is = by_own (is_own c byte) refl is
    where
      by_own : (o : Bool) → is_own c byte ≡ o → (if o then has || not skips else false) ≡ true → Ends has x
      by_own true same is = inr (same_Some x (Some bank) (sym e ∙ own_bank placed c bank byte fits same))
      by_own false same is = never is

  pub not_lost : (l has : Bool) → (if l then false else has) ≡ true → (l ≡ false) × (has ≡ true)
  not_lost true has e = never e
  not_lost false has e = (refl, e)

  ends_one : (has behind : Bool) (s : Sym) (x : Option ℕ) → Fits (byte_of s) → banked placed (byte_of s) ≡ Some x → has_behind c has behind s ≡ true → Ends has x
  ends_one has behind s x fits e is = ends_with has (behind || is_skip s) (byte_of s) x fits e (not_lost (loses s) (has_with c has (behind || is_skip s) (byte_of s)) is).1

  -- nothing more is known behind a skip, or what may be skipped
  still : (has skips : Bool) (o : Option Byte) → skips ≡ true → has_with c has skips o ≡ true → has ≡ true
  still has skips None e is = is
  still has skips (Some byte) e is = by_own has (is_own c byte) skips e is
    where
      by_own : (h o k : Bool) → k ≡ true → (if o then h || not k else false) ≡ true → h ≡ true
      by_own true o k e is = refl
      by_own false true k e is = ap not (sym e) ∙ is
      by_own false false k e is = is

  pub or_last : (a b : Bool) → b ≡ true → (a || b) ≡ true
  or_last true b e = refl
  or_last false b e = e

  pub still_at : (has behind : Bool) (s : Sym) → (behind || is_skip s) ≡ true → has_behind c has behind s ≡ true → has ≡ true
  still_at has behind s e is = still has (behind || is_skip s) (byte_of s) e (not_lost (loses s) (has_with c has (behind || is_skip s) (byte_of s)) is).1

  pub still_last : (has : Bool) (list : List Sym) → has_last c has true list ≡ true → has ≡ true
  still_last has [] e = e
  still_last has (s ∷ rest) e = still_at has true s refl (by_skip (is_skip s) (λ f. still_last (has_behind c has true s) rest f) e)
    where
      by_skip : (k : Bool) → (has_last c (has_behind c has true s) true rest ≡ true → has_behind c has true s ≡ true) → (if k then has_last c (has_behind c has true s) true rest else has_behind c has true s) ≡ true → has_behind c has true s ≡ true
      by_skip true later e = later e
      by_skip false later e = e

  -- ---- two needs together
  abbrev Joins : Option ℕ → Option ℕ → Option ℕ → Type 0
  Joins x y d = ((x ≡ None) × (y ≡ d)) ⊎ (x ≡ d)

  joins_by : (one other : ℕ) (d : Option ℕ) (same : Bool) → (if same then Some (Some one) else None) ≡ Some d → Joins (Some one) (Some other) d
  joins_by one other d true e = inr (same_Some (Some one) d e)
  joins_by one other d false e = absurd (none-some d e)

  joins : (x y d : Option ℕ) → both_banks x y ≡ Some d → Joins x y d
  joins None y d e = inl (refl, same_Some y d e)
  joins (Some one) None d e = inr (same_Some (Some one) d e)
  joins (Some one) (Some other) d e = joins_by one other d (nat_eq one other) e

  -- ---- a run of skips
  -- the selects of some needs are counted
  abbrev pub Pays : Bool → Needs → ℕ → Type 0
  Pays has n words = (cost n.bank + cost n.page ≤ words) ⊎ ((has ≡ true) × (n.bank ≡ Some bank) × (cost n.page ≤ words))

  page_paid : (has : Bool) (n : Needs) (words : ℕ) → Pays has n words → cost n.page ≤ words
  page_paid has n words (inl l) = omega (arith, l)
  page_paid has n words (inr p) = p.2

  pays_own : (has : Bool) (x : Option ℕ) (n : Needs) (own page words : ℕ) → x ≡ n.bank → cost n.page ≤ page → own + page ≤ words → Banks bank has x own → Pays has n words
  pays_own has x n own page words same p l (inl b) =
      let e = ap (λ (o : Option ℕ). cost o) same in
      inl (omega (arith, e, p, l, b))
  pays_own has x n own page words same p l (inr b) = inr (b.0, sym same ∙ b.1, omega (arith, p, l))

  pays_joined : (has next : Bool) (x : Option ℕ) (m n : Needs) (own words all : ℕ) → (next ≡ true → has ≡ true) → own + words ≤ all → Banks bank has x own → Pays next m words → m.page ≡ n.page → Joins x m.bank n.bank → Pays has n all
  pays_joined has next x m n own words all still l banks (inl p) page (inl j) =
      let e = ap (λ (o : Option ℕ). cost o) j.1 in
      let f = ap (λ (o : Option Target). cost o) page in
      inl (omega (arith, e, f, p, l))
  pays_joined has next x m n own words all still l banks (inr p) page (inl j) =
      let f = ap (λ (o : Option Target). cost o) page in
      let q = p.2 in
      inr (still p.0, sym j.1 ∙ p.1, omega (arith, f, q, l))
  pays_joined has next x m n own words all still l banks pays page (inr j) =
      let f = ap (λ (o : Option Target). cost o) page in
      let q = page_paid next m words pays in
      pays_own has x n own words all j (omega (arith, f, q)) l banks

  pays_step : (has next label skip change : Bool) (s : Sym) (b : Option (Option ℕ)) (later : Option Needs) (n : Needs) (own words : ℕ)
      → (skip ≡ true → next ≡ true → has ≡ true) → ((x : Option ℕ) → b ≡ Some x → Banks bank has x own) → ((m : Needs) → later ≡ Some m → Pays next m words)
      → needs_step false label skip change s b later ≡ Some n → Pays has n (own + cost (target_of s) + (if skip then words else 0))
  pays_step has next true skip change s b later n own words still banks pays e = absurd (none-some n e)
  pays_step has next false true true s b later n own words still banks pays e = absurd (none-some n e)
  pays_step has next false true false s None later n own words still banks pays e = absurd (none-some n e)
  pays_step has next false true false s (Some x) None n own words still banks pays e = absurd (none-some n e)
  pays_step has next false true false s (Some x) (Some m) n own words still banks pays e =
      let parts = with_parts (both_banks x m.bank) m n e in
      pays_joined has next x m n own words (own + cost (target_of s) + words) (still refl) (omega arith) (banks x refl) (pays m refl) parts.1 (joins x m.bank n.bank parts.0)
  pays_step has next false false change s None later n own words still banks pays e = absurd (none-some n e)
  pays_step has next false false change s (Some x) later n own words still banks pays e =
      let same = same_Some (record { bank = x; page = target_of s }) n e in
      let page = ap (λ (m : Needs). cost m.page) same in
      pays_own has x n own (cost (target_of s)) (own + cost (target_of s) + 0) (ap (λ (m : Needs). m.bank) same) (omega (arith, page)) (omega arith) (banks x refl)

  page_is : (o : Option Target) → page_words o ≡ cost o
  page_is None = refl
  page_is (Some target) = refl

  pub pays : (has behind : Bool) (list : List Sym) (n : Needs) → has_none list ≡ true → AreBanked placed c bank list → needs_in placed list ≡ Some n → Pays has n (due c has behind list)
  pays has behind [] n none fits e = absurd (none-some n e)
  pays has behind (s ∷ rest) n none fits e =
      let next = has_behind c has behind s in
      let chain : needs_step false (is_label s) (is_skip s) (writes_status s || writes_pclath s) s (banked placed (byte_of s)) (needs_in placed rest) ≡ Some n =
      sym (ap (λ (k : Bool). needs_step k (is_label s) (is_skip s) (writes_status s || writes_pclath s) s (banked placed (byte_of s)) (needs_in placed rest)) (none_first s rest none)) ∙ e in
      let p = pays_step has next (is_label s) (is_skip s) (writes_status s || writes_pclath s) s (banked placed (byte_of s)) (needs_in placed rest) n (bank_words c has (byte_of s)) (due c next true rest)
      (λ k h. still_at has behind s (or_last behind (is_skip s) k) h) (λ x at. banks_one has (byte_of s) x fits.0 at)
      (λ m at. pays next true rest m (none_later s rest none) fits.1 at) chain in
      subst (λ k. Pays has n (bank_words c has (byte_of s) + k + (if is_skip s then due c next true rest else 0))) (sym (page_is (target_of s))) p

  -- ---- what is selected at its end
  ends_joined : (has next : Bool) (x y d : Option ℕ) → (next ≡ true → has ≡ true) → Ends has x → Ends next y → Joins x y d → Ends has d
  ends_joined has next x y d still own (inl later) (inl j) = inl (sym j.1 ∙ later.0, still later.1)
  ends_joined has next x y d still own (inr later) (inl j) = inr (sym j.1 ∙ later)
  ends_joined has next x y d still (inl own) later (inr j) = inl (sym j ∙ own.0, own.1)
  ends_joined has next x y d still (inr own) later (inr j) = inr (sym j ∙ own)

  ends_step : (has next last label skip change : Bool) (s : Sym) (b : Option (Option ℕ)) (later : Option Needs) (n : Needs)
      → (skip ≡ true → next ≡ true → has ≡ true) → (last ≡ true → next ≡ true) → ((x : Option ℕ) → b ≡ Some x → next ≡ true → Ends has x) → ((m : Needs) → later ≡ Some m → last ≡ true → Ends next m.bank)
      → needs_step false label skip change s b later ≡ Some n → (if skip then last else next) ≡ true → Ends has n.bank
  ends_step has next last true skip change s b later n still mono own rest e is = absurd (none-some n e)
  ends_step has next last false true true s b later n still mono own rest e is = absurd (none-some n e)
  ends_step has next last false true false s None later n still mono own rest e is = absurd (none-some n e)
  ends_step has next last false true false s (Some x) None n still mono own rest e is = absurd (none-some n e)
  ends_step has next last false true false s (Some x) (Some m) n still mono own rest e is =
      let parts = with_parts (both_banks x m.bank) m n e in
      ends_joined has next x m.bank n.bank (still refl) (own x refl (mono is)) (rest m refl is) (joins x m.bank n.bank parts.0)
  ends_step has next last false false change s None later n still mono own rest e is = absurd (none-some n e)
  ends_step has next last false false change s (Some x) later n still mono own rest e is =
      let same = same_Some (record { bank = x; page = target_of s }) n e in
      subst (λ (m : Needs). Ends has m.bank) same (own x refl is)

  pub ends : (has behind : Bool) (list : List Sym) (n : Needs) → has_none list ≡ true → AreBanked placed c bank list → needs_in placed list ≡ Some n → has_last c has behind list ≡ true → Ends has n.bank
  ends has behind [] n none fits e is = absurd (none-some n e)
  ends has behind (s ∷ rest) n none fits e is =
      let next = has_behind c has behind s in
      let chain : needs_step false (is_label s) (is_skip s) (writes_status s || writes_pclath s) s (banked placed (byte_of s)) (needs_in placed rest) ≡ Some n =
      sym (ap (λ (k : Bool). needs_step k (is_label s) (is_skip s) (writes_status s || writes_pclath s) s (banked placed (byte_of s)) (needs_in placed rest)) (none_first s rest none)) ∙ e in
      ends_step has next (has_last c next true rest) (is_label s) (is_skip s) (writes_status s || writes_pclath s) s (banked placed (byte_of s)) (needs_in placed rest) n
      (λ k h. still_at has behind s (or_last behind (is_skip s) k) h) (λ h. still_last next rest h) (λ x at h. ends_one has behind s x fits.0 at h)
      (λ m at h. ends next true rest m (none_later s rest none) fits.1 at h) chain is

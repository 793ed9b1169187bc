-- What a run of skips and the instruction behind them need in a routine, and where its words with selects are counted.
use Rattle.std.proofs.Common.{◌≡◌, ℕ, ◌+◌, Bool, true, false, ◌||◌, if◌then◌else◌, List, [], ◌∷◌, ◌++◌, Option, Some, None, refl, sym, ap, ◌∙◌, subst, eq-eqb}
use Rattle.std.proofs.lemmas.Option.{none-some, same_Some}
use Rattle.pic_map.specs.declared.Placed.{Placed}
use Rattle.sym_code.specs.Selects.{is_select}
use Rattle.sym_code.specs.declared.code.BlockName.{BlockName}
use Rattle.sym_code.specs.declared.code.Sym.{Sym}
use Rattle.sym_code.specs.declared.code.Sym.TheVariants as syms
use Rattle.math_helpers.specs.Shape.{accesses_frame, jumps, select_words, words_from, is_straight}
use Rattle.bank_page.specs.Kinds.{is_label, is_skip, byte_of, target_of}
use Rattle.bank_page.specs.Known.{writes_status, writes_pclath}
use Rattle.bank_page.specs.Needs.{both_banks, banked, with_bank, both, needs_one, needs_in}
use Rattle.bank_page.specs.declared.needs.Needs.{Needs}
use Rattle.bank_page.proofs.Chains.{needs_step}
use Rattle.bank_trace.proofs.Puts.{never}
use Rattle.bank_trace.proofs.Straight.{has_none, none_first, none_later, straight_first, straight_last, straight_later}
use Rattle.bank_trace.proofs.Owned.{IsTame, AllTame, FitsPage}
use Rattle.bank_trace.proofs.Meets.{FitsBank}

-- the frame is accessed, and the page needed, up to the first instruction that is no skip
abbrev pub acc : List Sym → Bool
acc [] = false
acc (s ∷ rest) = if is_skip s then accesses_frame s || acc rest else accesses_frame s

abbrev pub jmp : List Sym → Bool
jmp [] = false
jmp (s ∷ rest) = if is_skip s then jmp rest else jumps s

-- ---- needs
module _ (placed : Placed) (own : BlockName) (n : ℕ) where
  pub record Fits (a j : Bool) (needs : Needs) : Type 0 where
    pub bank : FitsBank n a needs.bank
    pub page : FitsPage own j needs.page

  own_bank : (a : Bool) → FitsBank n a (if a then Some n else None)
  own_bank true = (refl, refl)
  own_bank false = refl

  record BothBanks (a c : Bool) (o : Option ℕ) : Type 0 where
    whole : Option ℕ
    is : both_banks (if a then Some n else None) o ≡ Some whole
    fits : FitsBank n (a || c) whole

  two_banks : (a c : Bool) (o : Option ℕ) → FitsBank n c o → BothBanks a c o
  two_banks false c o f = record { whole = o; is = refl; fits = f }
  two_banks true c None f = record { whole = Some n; is = refl; fits = (refl, refl) }
  two_banks true c (Some b) f = record { whole = Some n; is = ap (λ (d : Bool). if d then Some (Some n) else None) (eq-eqb n b (sym f.1)); fits = (refl, refl) }

  -- the needs of an instruction that is no skip
  pub record Needed (a j : Bool) (o : Option Needs) : Type 0 where
    pub needs : Needs
    pub is : o ≡ Some needs
    pub fits : Fits a j needs

  one_needs : (s : Sym) → IsTame placed own n s → Needed (accesses_frame s) (jumps s) (needs_one s (banked placed (byte_of s)))
  one_needs s tame = record {
    needs = record { bank = if accesses_frame s then Some n else None; page = target_of s };
    is = ap (needs_one s) tame.needs;
    fits = record { bank = own_bank (accesses_frame s); page = tame.page };
  }

  skip_needs : (s : Sym) → IsTame placed own n s → (c j : Bool) (m : Needs) → Fits c j m → Needed (accesses_frame s || c) j (both (banked placed (byte_of s)) (Some m))
  skip_needs s tame c j m f =
      let two = two_banks (accesses_frame s) c m.bank f.bank in
      record {
        needs = record { bank = two.whole; page = m.page };
        is = ap (λ (o : Option (Option ℕ)). both o (Some m)) tame.needs ∙ ap (λ (o : Option (Option ℕ)). with_bank o m) two.is;
        fits = record { bank = two.fits; page = f.page };
      }

  -- by what is known of the first instruction
  needs_is : (s : Sym) (rest : List Sym) (c : Bool) → is_select s ≡ false → is_label s ≡ false → is_skip s ≡ c
      → needs_in placed (s ∷ rest) ≡ (if c then (if writes_status s || writes_pclath s then None else both (banked placed (byte_of s)) (needs_in placed rest)) else needs_one s (banked placed (byte_of s)))
  needs_is s rest c e l k =
      let change = writes_status s || writes_pclath s in
      let found = needs_in placed rest in
      ap (λ (b : Bool). needs_step b (is_label s) (is_skip s) change s (banked placed (byte_of s)) found) e
      ∙ ap (λ (b : Bool). needs_step false b (is_skip s) change s (banked placed (byte_of s)) found) l
      ∙ ap (λ (b : Bool). needs_step false false b change s (banked placed (byte_of s)) found) k

  skip_is : (s : Sym) (rest : List Sym) → IsTame placed own n s → is_select s ≡ false → is_label s ≡ false → is_skip s ≡ true → needs_in placed (s ∷ rest) ≡ both (banked placed (byte_of s)) (needs_in placed rest)
  skip_is s rest tame e l k =
      needs_is s rest true e l k ∙ ap (λ (b : Bool). if b then None else both (banked placed (byte_of s)) (needs_in placed rest)) (tame.skip k).0

  acc_by : (s : Sym) (rest : List Sym) (c : Bool) → is_skip s ≡ c → acc (s ∷ rest) ≡ (if c then accesses_frame s || acc rest else accesses_frame s)
  acc_by s rest c k = ap (λ (b : Bool). if b then accesses_frame s || acc rest else accesses_frame s) k

  jmp_by : (s : Sym) (rest : List Sym) (c : Bool) → is_skip s ≡ c → jmp (s ∷ rest) ≡ (if c then jmp rest else jumps s)
  jmp_by s rest c k = ap (λ (b : Bool). if b then jmp rest else jumps s) k

  moved : (a b j i : Bool) (o p : Option Needs) → b ≡ a → i ≡ j → p ≡ o → Needed a j o → Needed b i p
  moved a b j i o p e f g h = record { needs = h.needs; is = g ∙ h.is; fits = record { bank = subst (λ c. FitsBank n c h.needs.bank) (sym e) h.fits.bank; page = subst (λ c. FitsPage own c h.needs.page) (sym f) h.fits.page } }

  by_skip : (s : Sym) (rest : List Sym) → IsTame placed own n s → is_select s ≡ false → is_label s ≡ false → (c : Bool) → is_skip s ≡ c → (c ≡ true → Needed (acc rest) (jmp rest) (needs_in placed rest)) → Needed (acc (s ∷ rest)) (jmp (s ∷ rest)) (needs_in placed (s ∷ rest))
  by_skip s rest tame e l true k later =
      let h = later refl in
      moved (accesses_frame s || acc rest) (acc (s ∷ rest)) (jmp rest) (jmp (s ∷ rest)) (both (banked placed (byte_of s)) (Some h.needs)) (needs_in placed (s ∷ rest)) (acc_by s rest true k) (jmp_by s rest true k)
      (skip_is s rest tame e l k ∙ ap (both (banked placed (byte_of s))) h.is)
      (skip_needs s tame (acc rest) (jmp rest) h.needs h.fits)
  by_skip s rest tame e l false k later =
      moved (accesses_frame s) (acc (s ∷ rest)) (jumps s) (jmp (s ∷ rest)) (needs_one s (banked placed (byte_of s))) (needs_in placed (s ∷ rest)) (acc_by s rest false k) (jmp_by s rest false k) (needs_is s rest false e l k) (one_needs s tame)

  -- straight instructions have needs
  pub straight_needs : (s : Sym) (part rest : List Sym) → AllTame placed own n (s ∷ part ++ rest) → has_none (s ∷ part ++ rest) ≡ true → is_straight (s ∷ part) ≡ true
      → Needed (acc (s ∷ part ++ rest)) (jmp (s ∷ part ++ rest)) (needs_in placed (s ∷ part ++ rest))
  straight_needs s [] rest tame none e = by_skip s rest tame.0 (none_first s rest none) (straight_first s [] e) false (straight_last s e) (λ f. never f)
  straight_needs s (t ∷ part) rest tame none e =
      by_skip s (t ∷ part ++ rest) tame.0 (none_first s (t ∷ part ++ rest) none) (straight_first s (t ∷ part) e) (is_skip s) refl
      (λ f. straight_needs t part rest tame.1 (none_later s (t ∷ part ++ rest) none) (straight_later s (t ∷ part) e))

  -- where there are needs, they are those that are counted
  bank_of : (c : Bool) (o : Option Needs) (bank : Option (Option ℕ)) (m : Needs) → (if c then None else both bank o) ≡ Some m → (later : Needs) × (o ≡ Some later)
  bank_of true o bank m e = absurd (none-some m e)
  bank_of false None None m e = absurd (none-some m e)
  bank_of false None (Some b) m e = absurd (none-some m e)
  bank_of false (Some later) bank m e = (later, refl)

  same_needs : (a j : Bool) (o : Option Needs) (m : Needs) → o ≡ Some m → Needed a j o → Fits a j m
  same_needs a j o m e h = subst (Fits a j) (same_Some h.needs m (sym h.is ∙ e)) h.fits

  no_label : (s : Sym) (rest : List Sym) (m : Needs) (c : Bool) → is_select s ≡ false → is_label s ≡ c → needs_in placed (s ∷ rest) ≡ Some m → c ≡ false
  no_label s rest m false e l k = refl
  no_label s rest m true e l k =
      let change = writes_status s || writes_pclath s in
      let none : needs_in placed (s ∷ rest) ≡ None =
      ap (λ (b : Bool). needs_step b (is_label s) (is_skip s) change s (banked placed (byte_of s)) (needs_in placed rest)) e
      ∙ ap (λ (b : Bool). needs_step false b (is_skip s) change s (banked placed (byte_of s)) (needs_in placed rest)) l in
      absurd (none-some m (sym none ∙ k))

  pub needs_fit : (list : List Sym) (m : Needs) → AllTame placed own n list → has_none list ≡ true → needs_in placed list ≡ Some m → Fits (acc list) (jmp list) m
  needs_fit [] m tame none e = absurd (none-some m e)
  needs_fit (s ∷ rest) m tame none e =
      let no_select = none_first s rest none in
      let label = no_label s rest m (is_label s) no_select refl e in
      by_first (is_skip s) refl label (λ later f. needs_fit rest later tame.1 (none_later s rest none) f)
    where
      by_first : (c : Bool) → is_skip s ≡ c → is_label s ≡ false → ((later : Needs) → needs_in placed rest ≡ Some later → Fits (acc rest) (jmp rest) later) → Fits (acc (s ∷ rest)) (jmp (s ∷ rest)) m
      by_first true k label fit =
          let no_select = none_first s rest none in
          let there = bank_of (writes_status s || writes_pclath s) (needs_in placed rest) (banked placed (byte_of s)) m (sym (needs_is s rest true no_select label k) ∙ e) in
          same_needs (acc (s ∷ rest)) (jmp (s ∷ rest)) (needs_in placed (s ∷ rest)) m e
          (by_skip s rest tame.0 no_select label true k (λ f. record { needs = there.0; is = there.1; fits = fit there.0 there.1 }))
      by_first false k label fit = same_needs (acc (s ∷ rest)) (jmp (s ∷ rest)) (needs_in placed (s ∷ rest)) m e (by_skip s rest tame.0 (none_first s rest none) label false k (λ f. never f))

  -- behind a skip that has needs, the next instructions have
  pub later_needs : (s : Sym) (rest : List Sym) (later : Needs) → IsTame placed own n s → is_select s ≡ false → is_label s ≡ false → is_skip s ≡ true → Fits (acc rest) (jmp rest) later → needs_in placed rest ≡ Some later → Needed (acc (s ∷ rest)) (jmp (s ∷ rest)) (needs_in placed (s ∷ rest))
  later_needs s rest later tame e l k fits is = by_skip s rest tame e l true k (λ f. record { needs = later; is = is; fits = fits })

-- ---- the same among straight instructions
front_by : (s : Sym) (part rest : List Sym) → is_straight (s ∷ part) ≡ true → (acc (s ∷ part ++ rest) ≡ acc (s ∷ part)) × (jmp (s ∷ part ++ rest) ≡ jmp (s ∷ part))
front_by s [] rest e =
    let k = straight_last s e in
    (ap (λ (b : Bool). if b then accesses_frame s || acc rest else accesses_frame s) k ∙ sym (ap (λ (b : Bool). if b then accesses_frame s || false else accesses_frame s) k), ap (λ (b : Bool). if b then jmp rest else jumps s) k ∙ sym (ap (λ (b : Bool). if b then false else jumps s) k))
front_by s (t ∷ part) rest e =
    let later = front_by t part rest (straight_later s (t ∷ part) e) in
    (ap (λ (b : Bool). if is_skip s then accesses_frame s || b else accesses_frame s) later.0, ap (λ (b : Bool). if is_skip s then b else jumps s) later.1)

pub acc_front : (s : Sym) (part rest : List Sym) → is_straight (s ∷ part) ≡ true → acc (s ∷ part ++ rest) ≡ acc (s ∷ part)
acc_front s part rest e = (front_by s part rest e).0

pub jmp_front : (s : Sym) (part rest : List Sym) → is_straight (s ∷ part) ≡ true → jmp (s ∷ part ++ rest) ≡ jmp (s ∷ part)
jmp_front s part rest e = (front_by s part rest e).1

-- ---- words
pub words_step : (bank page : Bool) (s : Sym) (rest : List Sym) → is_label s ≡ false → words_from bank page (s ∷ rest) ≡ 1 + select_words bank (accesses_frame s) + select_words page (jumps s) + words_from (bank || accesses_frame s) (page || jumps s) rest
words_step bank page (syms.Label label) rest e = never (sym e)
words_step bank page s rest e = refl

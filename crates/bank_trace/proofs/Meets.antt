-- The bank of a frame and the block's own page, as far as they are known to be selected.
use Rattle.std.proofs.Common.{◌≡◌, ℕ, ◌+◌, ◌≤◌, Bool, true, false, not, ◌&&◌, ◌||◌, if◌then◌else◌, [], ◌∷◌, ◌++◌, length, length-append, Option, Some, None, refl, sym, ap, ◌∙◌, subst, eq-eqb, arith}
use Rattle.sym_code.specs.Programs.{same_name, block_of}
use Rattle.sym_code.specs.declared.code.BlockName.{BlockName}
use Rattle.sym_code.specs.declared.code.BlockName.TheVariants as names
use Rattle.sym_code.specs.declared.code.Sym.{Sym}
use Rattle.sym_code.specs.declared.code.Sym.TheVariants as syms
use Rattle.sym_code.specs.declared.code.BankBit.TheVariants as bank_bits
use Rattle.sym_code.specs.declared.code.PageBit.TheVariants as page_bits
use Rattle.sym_code.specs.declared.code.Target.{Target}
use Rattle.pic_map.specs.declared.Placed.{Placed}
use Rattle.math_helpers.specs.Shape.{select_words}
use Rattle.bank_page.specs.Kinds.{is_label}
use Rattle.bank_page.specs.Known.{nothing, kept, left, after, ends, same_bit, is_bit, is_page, is_of_bit, writes_status, writes_pclath}
use Rattle.bank_page.specs.Selected.{has_bank}
use Rattle.bank_page.specs.Step.{rp0_of, rp1_of, bank_selects, page_selects, missing, behind_selects, behind_bank, missing_for, known_with}
use Rattle.bank_page.specs.declared.known.Known.{Known}
use Rattle.bank_page.specs.declared.needs.Needs.{Needs}
use Rattle.bank_trace.proofs.Puts.{never, and_first, and_last, and_both}
use Rattle.bank_trace.proofs.Dear.{missing_few}
use Rattle.bank_trace.proofs.Owned.{IsTame, FitsPage}

abbrev pub in_page : BlockName → Known → Bool
in_page own known = is_page known.high own && is_page known.low own

-- what is said to be selected is known to be so
pub record Meets (own : BlockName) (n : ℕ) (bank page : Bool) (known : Known) : Type 0 where
  pub bank_known : bank ≡ true → has_bank known (Some n) ≡ true
  pub page_known : page ≡ true → in_page own known ≡ true

pub meets_none : (own : BlockName) (n : ℕ) (known : Known) → Meets own n false false known
meets_none own n known = record { bank_known = λ e. never e; page_known = λ e. never e }

-- ---- behind an instruction
kept_bit : (c : Bool) (known : Option Bool) (on : Bool) → c ≡ false → is_bit (kept c known) on ≡ is_bit known on
kept_bit true known on e = never (sym e)
kept_bit false known on e = refl

kept_page : (c : Bool) (known : Option BlockName) (name : BlockName) → c ≡ false → is_page (kept c known) name ≡ is_page known name
kept_page true known name e = never (sym e)
kept_page false known name e = refl

none_and : (a b : Bool) → a ≡ false → (a && b) ≡ false
none_and true b e = never (sym e)
none_and false b e = refl

pub meets_after : (placed : Placed) (own : BlockName) (n : ℕ) (bank page : Bool) (known : Known) (s : Sym) (behind : Bool) → IsTame placed own n s → is_label s ≡ false → (ends s && not behind) ≡ false → Meets own n bank page known → Meets own n bank page (after known s behind)
meets_after placed own n bank page known s behind tame label goes_on h =
    let same : left known s (writes_status s) (writes_pclath s) ≡ after known s behind =
    sym (ap (λ (c : Bool). if c || (ends s && not behind) then nothing else left known s (writes_status s) (writes_pclath s)) (tame.keeps label) ∙ ap (λ (c : Bool). if c then nothing else left known s (writes_status s) (writes_pclath s)) goes_on) in
    subst (Meets own n bank page) same (record {
      bank_known = λ e.
          let k = h.bank_known e in
          and_both (is_bit (kept (writes_status s && is_of_bit s 6) known.rp1) (rp1_of n)) (is_bit (kept (writes_status s && is_of_bit s 5) known.rp0) (rp0_of n))
          (kept_bit (writes_status s && is_of_bit s 6) known.rp1 (rp1_of n) tame.rp1 ∙ and_first (is_bit known.rp1 (rp1_of n)) (is_bit known.rp0 (rp0_of n)) k)
          (kept_bit (writes_status s && is_of_bit s 5) known.rp0 (rp0_of n) tame.rp0 ∙ and_last (is_bit known.rp1 (rp1_of n)) (is_bit known.rp0 (rp0_of n)) k);
      page_known = λ e.
          let k = h.page_known e in
          and_both (is_page (kept (writes_pclath s && is_of_bit s 4) known.high) own) (is_page (kept (writes_pclath s && is_of_bit s 3) known.low) own)
          (kept_page (writes_pclath s && is_of_bit s 4) known.high own (none_and (writes_pclath s) (is_of_bit s 4) tame.pages) ∙ and_first (is_page known.high own) (is_page known.low own) k)
          (kept_page (writes_pclath s && is_of_bit s 3) known.low own (none_and (writes_pclath s) (is_of_bit s 3) tame.pages) ∙ and_last (is_page known.high own) (is_page known.low own) k);
    })

-- ---- selects for some needs
-- the needs are those that are said
abbrev pub FitsBank : ℕ → Bool → Option ℕ → Type 0
FitsBank n needed None = needed ≡ false
FitsBank n needed (Some bank) = (needed ≡ true) × (bank ≡ n)

bit_met : (on : Bool) → same_bit on on ≡ true
bit_met true = refl
bit_met false = refl

name_met : (name : BlockName) → same_name name name ≡ true
name_met names.Start = refl
name_met (names.Copy c) = eq-eqb c c refl

or_first : (a b : Bool) → b ≡ false → (a || b) ≡ true → a ≡ true
or_first true b e h = refl
or_first false b e h = sym e ∙ h

-- two selects that set what is known
none_unknown : (c d : Bool) (s t : Sym) → c ≡ true → d ≡ true → length ((if c then [] else s ∷ []) ++ ((if d then [] else t ∷ []) ++ [])) ≤ 0
none_unknown true true s t e f = omega arith
none_unknown true false s t e f = never f
none_unknown false d s t e f = never e

two_words : (needed : Bool) → needed ≡ true → select_words false needed ≡ 2
two_words true e = refl
two_words false e = never e

no_words : (needed : Bool) → select_words true needed ≡ 0
no_words true = refl
no_words false = refl

module _ (own : BlockName) (n : ℕ) where
  -- what is known already isn't selected again
  bank_missing : (known : Known) (selected needed : Bool) (bank : Option ℕ) → FitsBank n needed bank → (selected ≡ true → has_bank known (Some n) ≡ true) → length (missing own known (bank_selects bank)) ≤ select_words selected needed
  bank_missing known selected needed None fits met = omega arith
  bank_missing known false needed (Some bank) fits met =
      let few = missing_few own known (bank_selects (Some bank)) in
      let two = two_words needed fits.0 in
      omega arith
  bank_missing known true needed (Some bank) fits met =
      let k = met refl in
      let first = ap (λ (b : ℕ). is_bit known.rp1 (rp1_of b)) fits.1 ∙ and_first (is_bit known.rp1 (rp1_of n)) (is_bit known.rp0 (rp0_of n)) k in
      let last = ap (λ (b : ℕ). is_bit known.rp0 (rp0_of b)) fits.1 ∙ and_last (is_bit known.rp1 (rp1_of n)) (is_bit known.rp0 (rp0_of n)) k in
      let none = none_unknown (is_bit known.rp1 (rp1_of bank)) (is_bit known.rp0 (rp0_of bank)) (syms.SelectBank bank_bits.Rp1 (rp1_of bank)) (syms.SelectBank bank_bits.Rp0 (rp0_of bank)) first last in
      let zero_words = no_words needed in
      omega arith

  page_missing : (known : Known) (selected needed : Bool) (page : Option Target) → FitsPage own needed page → (selected ≡ true → in_page own known ≡ true) → length (missing own known (page_selects page)) ≤ select_words selected needed
  page_missing known selected needed None fits met = omega arith
  page_missing known false needed (Some target) fits met =
      let few = missing_few own known (page_selects (Some target)) in
      let two = two_words needed fits.0 in
      omega arith
  page_missing known true needed (Some target) fits met =
      let k = met refl in
      let first = ap (λ (b : BlockName). is_page known.high b) fits.1 ∙ and_first (is_page known.high own) (is_page known.low own) k in
      let last = ap (λ (b : BlockName). is_page known.low b) fits.1 ∙ and_last (is_page known.high own) (is_page known.low own) k in
      let none = none_unknown (is_page known.high (block_of own target)) (is_page known.low (block_of own target)) (syms.SelectPage page_bits.High target) (syms.SelectPage page_bits.Low target) first last in
      let zero_words = no_words needed in
      omega arith

  page_behind : (known : Known) (bank : Option ℕ) → in_page own (behind_selects own known (bank_selects bank)) ≡ in_page own known
  page_behind known None = refl
  page_behind known (Some bank) = refl

  bank_behind : (known : Known) (page : Option Target) → has_bank (behind_selects own known (page_selects page)) (Some n) ≡ has_bank known (Some n)
  bank_behind known None = refl
  bank_behind known (Some target) = refl

  pub few_missing : (known : Known) (needs : Needs) (bank page acc jmp : Bool) → Meets own n bank page known → FitsBank n acc needs.bank → FitsPage own jmp needs.page → length (missing_for own known needs) ≤ select_words bank acc + select_words page jmp
  few_missing known needs bank page acc jmp h fits_bank fits_page =
      let banks = bank_missing known bank acc needs.bank fits_bank h.bank_known in
      let pages = page_missing (behind_bank own known needs) page jmp needs.page fits_page (λ e. page_behind known needs.bank ∙ h.page_known e) in
      let two = length-append (missing own known (bank_selects needs.bank)) (missing own (behind_bank own known needs) (page_selects needs.page)) in
      omega arith

  bank_with : (known : Known) (o : Option ℕ) (bank acc : Bool) → FitsBank n acc o → (bank ≡ true → has_bank known (Some n) ≡ true) → (bank || acc) ≡ true → has_bank (behind_selects own known (bank_selects o)) (Some n) ≡ true
  bank_with known None bank acc fits met e = met (or_first bank acc fits e)
  bank_with known (Some b) bank acc fits met e =
      subst (λ (k : ℕ). (same_bit (rp1_of k) (rp1_of n) && same_bit (rp0_of k) (rp0_of n)) ≡ true) (sym fits.1) (and_both (same_bit (rp1_of n) (rp1_of n)) (same_bit (rp0_of n) (rp0_of n)) (bit_met (rp1_of n)) (bit_met (rp0_of n)))

  page_with : (known : Known) (o : Option Target) (page jmp : Bool) → FitsPage own jmp o → (page ≡ true → in_page own known ≡ true) → (page || jmp) ≡ true → in_page own (behind_selects own known (page_selects o)) ≡ true
  page_with known None page jmp fits met e = met (or_first page jmp fits e)
  page_with known (Some target) page jmp fits met e =
      subst (λ (b : BlockName). (same_name b own && same_name b own) ≡ true) (sym fits.1) (and_both (same_name own own) (same_name own own) (name_met own) (name_met own))

  pub meets_with : (known : Known) (needs : Needs) (bank page acc jmp : Bool) → Meets own n bank page known → FitsBank n acc needs.bank → FitsPage own jmp needs.page → Meets own n (bank || acc) (page || jmp) (known_with own known needs)
  meets_with known needs bank page acc jmp h fits_bank fits_page = record {
    bank_known = λ e. bank_behind (behind_bank own known needs) needs.page ∙ bank_with known needs.bank bank acc fits_bank h.bank_known e;
    page_known = page_with (behind_bank own known needs) needs.page page jmp fits_page (λ e. page_behind known needs.bank ∙ h.page_known e);
  }

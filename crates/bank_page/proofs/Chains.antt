-- What a run of skips and the instruction behind them need is what each of them needs.
use Rattle.std.proofs.Common.{◌≡◌, ℕ, ◌/◌, nat_eq, Bool, true, false, not, ◌&&◌, ◌||◌, if◌then◌else◌, List, [], ◌∷◌, Option, Some, None, refl, sym, ap, ◌∙◌, subst}
use Rattle.std.specs.Prelude.{option_map}
use Rattle.std.proofs.lemmas.Option.{none-some, same_Some}
use Rattle.core_code.specs.declared.code.Byte.{Byte}
use Rattle.pic_map.specs.declared.Placed.{Placed}
use Rattle.sym_code.specs.declared.code.BlockName.{BlockName}
use Rattle.sym_code.specs.declared.code.Sym.{Sym}
use Rattle.sym_code.specs.declared.code.Sym.TheVariants as syms
use Rattle.sym_code.specs.declared.code.Target.{Target}
use Rattle.code_place.specs.Addresses.{address_of}
use Rattle.sym_code.specs.Selects.{is_select}
use Rattle.bank_page.specs.Kinds.{is_label, is_skip, byte_of, target_of}
use Rattle.bank_page.specs.Known.{writes_status, writes_pclath}
use Rattle.bank_page.specs.Needs.{both_banks, banked_at, banked, with_bank, both, needs_one, needs_in}
use Rattle.bank_page.specs.Selected.{has_bank, reaches_byte, reaches_target, is_right}
use Rattle.bank_page.specs.declared.known.Known.{Known}
use Rattle.bank_page.specs.declared.needs.Needs.{Needs}
use Rattle.std.proofs.lemmas.Bool.{eqb-true}

abbrev if_true : Bool → Type 0
if_true true = Unit {0}
if_true false = ⊥

pub true_false : true ≡ false → ⊥
true_false e =
    let P : Bool → Type 0 = λ b. if_true b in
    subst P e tt

pub and_both : (a b : Bool) → a ≡ true → b ≡ true → (a && b) ≡ true
and_both a b p q = ap (λ x. x && b) p ∙ q

pub and_left : (a b : Bool) → (a && b) ≡ true → a ≡ true
and_left true b p = refl
and_left false b p = p

pub and_right : (a b : Bool) → (a && b) ≡ true → b ≡ true
and_right true b p = p
and_right false true p = refl
and_right false false p = p

-- a bank that is needed is the one that is known
abbrev pub meets_bank : Known → Option ℕ → Bool
meets_bank known None = true
meets_bank known (Some bank) = has_bank known (Some bank)

-- Each instruction from here up to the first that is no skip finds what it needs, with nothing changed between.
abbrev pub chain_step : Bool → Bool → Bool → Bool → Bool → Bool → Bool
chain_step select label skip change right rest = if select then rest else (if label then false else (right && (if skip then (not change && rest) else true)))

abbrev pub chain_right : Placed → BlockName → Known → List Sym → Bool
chain_right placed own known [] = false
chain_right placed own known (s ∷ rest) = chain_step (is_select s) (is_label s) (is_skip s) (writes_status s || writes_pclath s) (is_right placed own known s) (chain_right placed own known rest)

abbrev pub needs_step : Bool → Bool → Bool → Bool → Sym → Option (Option ℕ) → Option Needs → Option Needs
needs_step select label skip change s bank rest = if select then rest else (if label then None else (if skip then (if change then None else both bank rest) else needs_one s bank))

joined_by : (known : Known) (one other : ℕ) (d : Option ℕ) (same : Bool) → nat_eq one other ≡ same → (if same then Some (Some one) else None) ≡ Some d → meets_bank known d ≡ true → (has_bank known (Some one) ≡ true) × (has_bank known (Some other) ≡ true)
joined_by known one other d false e is met = absurd (none-some d is)
joined_by known one other d true e is met =
    let P : Option ℕ → Type 0 = λ x. meets_bank known x ≡ true in
    let first = subst P (sym (same_Some (Some one) d is)) met in
    (first, ap (λ n. has_bank known (Some n)) (sym (eqb-true one other e)) ∙ first)

joined : (known : Known) (b c d : Option ℕ) → both_banks b c ≡ Some d → meets_bank known d ≡ true → (meets_bank known b ≡ true) × (meets_bank known c ≡ true)
joined known None c d is met =
    let P : Option ℕ → Type 0 = λ x. meets_bank known x ≡ true in
    (refl, subst P (sym (same_Some c d is)) met)
joined known (Some one) None d is met =
    let P : Option ℕ → Type 0 = λ x. meets_bank known x ≡ true in
    (subst P (sym (same_Some (Some one) d is)) met, refl)
joined known (Some one) (Some other) d is met = joined_by known one other d (nat_eq one other) refl is met

pub with_parts : (bank : Option (Option ℕ)) (m n : Needs) → with_bank bank m ≡ Some n → (bank ≡ Some n.bank) × (m.page ≡ n.page)
with_parts None m n is = absurd (none-some n is)
with_parts (Some b) m n is =
    let e = same_Some (record { bank = b; page = m.page }) n is in
    (ap (λ (x : Needs). Some x.bank) e, ap (λ (x : Needs). x.page) e)

needs_chain_step : (select label skip change right rest : Bool) (s : Sym) (bank : Option (Option ℕ)) (behind : Option Needs) (known : Known) (meets_page : Option Target → Bool) (n : Needs) → ((m : Needs) → behind ≡ Some m → meets_bank known m.bank ≡ true → meets_page m.page ≡ true → rest ≡ true) → ((b : Option ℕ) → bank ≡ Some b → meets_bank known b ≡ true → (skip ≡ false → meets_page (target_of s) ≡ true) → right ≡ true) → needs_step select label skip change s bank behind ≡ Some n → meets_bank known n.bank ≡ true → meets_page n.page ≡ true → chain_step select label skip change right rest ≡ true
needs_chain_step true label skip change right rest s bank behind known meets_page n later own is at_bank at_page = later n is at_bank at_page
needs_chain_step false true skip change right rest s bank behind known meets_page n later own is at_bank at_page = absurd (none-some n is)
needs_chain_step false false true true right rest s bank behind known meets_page n later own is at_bank at_page = absurd (none-some n is)
needs_chain_step false false true false right rest s None behind known meets_page n later own is at_bank at_page = absurd (none-some n is)
needs_chain_step false false true false right rest s (Some b) None known meets_page n later own is at_bank at_page = absurd (none-some n is)
needs_chain_step false false true false right rest s (Some b) (Some m) known meets_page n later own is at_bank at_page =
    let parts = with_parts (both_banks b m.bank) m n is in
    let two = joined known b m.bank n.bank parts.0 at_bank in
    let page = ap meets_page parts.1 ∙ at_page in
    let first = own b refl two.0 (λ e. absurd (true_false e)) in
    and_both right rest first (later m refl two.1 page)
needs_chain_step false false false change right rest s None behind known meets_page n later own is at_bank at_page = absurd (none-some n is)
needs_chain_step false false false change right rest s (Some b) behind known meets_page n later own is at_bank at_page =
    let e = same_Some (record { bank = b; page = target_of s }) n is in
    let bank = ap (λ (x : Needs). meets_bank known x.bank) e ∙ at_bank in
    let page = ap (λ (x : Needs). meets_page x.page) e ∙ at_page in
    and_both right true (own b refl bank (λ _. page)) refl

-- a byte whose need is met is reached
at_byte : (known : Known) (at b : Option ℕ) → banked_at at ≡ Some b → meets_bank known b ≡ true → has_bank known (option_map (λ a. a / 128) at) ≡ true
at_byte known None b is met = absurd (none-some b is)
at_byte known (Some a) b is met =
    let P : Option ℕ → Type 0 = λ x. meets_bank known x ≡ true in
    subst P (sym (same_Some (Some (a / 128)) b is)) met

byte_reached : (placed : Placed) (known : Known) (byte : Option Byte) (b : Option ℕ) → banked placed byte ≡ Some b → meets_bank known b ≡ true → reaches_byte placed known byte ≡ true
byte_reached placed known None b is met = refl
byte_reached placed known (Some byte) b is met = at_byte known (address_of placed byte) b is met

-- a skip has no target
no_target : (own : BlockName) (known : Known) (s : Sym) → is_skip s ≡ true → reaches_target own known (target_of s) ≡ true
no_target own known (syms.File op file into) skip = refl
no_target own known (syms.Bit op file bit) skip = refl
no_target own known (syms.Movwf file) skip = refl
no_target own known (syms.Clrf file) skip = refl
no_target own known (syms.Literal op value) skip = refl
no_target own known (syms.Plain op) skip = refl
no_target own known (syms.Call target) skip = absurd (true_false (sym skip))
no_target own known (syms.Goto target) skip = absurd (true_false (sym skip))
no_target own known (syms.Label label) skip = refl
no_target own known (syms.SelectBank bit on) skip = refl
no_target own known (syms.SelectPage bit target) skip = refl
no_target own known (syms.Table table root) skip = absurd (true_false (sym skip))

target_reached : (own : BlockName) (known : Known) (s : Sym) (skip : Bool) → is_skip s ≡ skip → (skip ≡ false → reaches_target own known (target_of s) ≡ true) → reaches_target own known (target_of s) ≡ true
target_reached own known s true e given = no_target own known s e
target_reached own known s false e given = given refl

pub chain_of_needs : (placed : Placed) (own : BlockName) (known : Known) (list : List Sym) (n : Needs) → needs_in placed list ≡ Some n → meets_bank known n.bank ≡ true → reaches_target own known n.page ≡ true → chain_right placed own known list ≡ true
chain_of_needs placed own known [] n is at_bank at_page = absurd (none-some n is)
chain_of_needs placed own known (s ∷ rest) n is at_bank at_page = needs_chain_step (is_select s) (is_label s) (is_skip s) (writes_status s || writes_pclath s) (is_right placed own known s) (chain_right placed own known rest) s (banked placed (byte_of s)) (needs_in placed rest) known (reaches_target own known) n (λ m. chain_of_needs placed own known rest m) (λ b found met page. and_both (reaches_byte placed known (byte_of s)) (reaches_target own known (target_of s)) (byte_reached placed known (byte_of s) b found met) (target_reached own known s (is_skip s) refl page)) is at_bank at_page

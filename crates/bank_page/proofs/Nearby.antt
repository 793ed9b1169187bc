-- Where all that is named stands below 100h, no select sets RP1.
use Rattle.std.proofs.Common.{◌≡◌, ℕ, suc, ◌+◌, ◌/◌, ◌%◌, ◌<◌, nat_eq, Bool, true, false, not, ◌&&◌, ◌||◌, if◌then◌else◌, List, [], ◌∷◌, ◌++◌, All, Option, Some, None, refl, sym, ap, ◌∙◌, subst, arith}
use Rattle.std.specs.List.{AllZip}
use Rattle.std.proofs.lemmas.Bool.{ne_eqb}
use Rattle.std.proofs.lemmas.List.Elements.{All-nil, All-cons}
use Rattle.std.proofs.lemmas.Option.{none-some, same_Some}
use Rattle.core_code.specs.declared.code.Byte.{Byte}
use Rattle.pic_map.specs.declared.Placed.{Placed}
use Rattle.sym_code.specs.Selects.{is_select}
use Rattle.sym_code.specs.Touching.{touches}
use Rattle.sym_code.specs.Words.{is_common}
use Rattle.sym_code.specs.declared.code.BankBit.TheVariants as bank_bits
use Rattle.sym_code.specs.declared.code.BlockName.{BlockName}
use Rattle.sym_code.specs.declared.code.Operand.{Operand}
use Rattle.sym_code.specs.declared.code.Operand.TheVariants as operands
use Rattle.sym_code.specs.declared.code.Sym.{Sym}
use Rattle.sym_code.specs.declared.code.Sym.TheVariants as syms
use Rattle.sym_code.specs.declared.code.SymBlock.{SymBlock}
use Rattle.sym_code.specs.declared.code.Target.{Target}
use Rattle.code_place.specs.Addresses.{address_of}
use Rattle.bank_page.specs.Kinds.{is_label, is_skip, byte_named, byte_touched, byte_of, target_of}
use Rattle.bank_page.specs.Known.{knows, learned, writes_status, writes_pclath}
use Rattle.bank_page.specs.Near.{IsNearTouched, IsNear, AreNear, sets_rp1, none_sets_rp1, StaysNear}
use Rattle.bank_page.specs.Needs.{both_banks, banked_at, banked, needs_in}
use Rattle.bank_page.specs.Selected.{front, IsExact}
use Rattle.bank_page.specs.Step.{rp1_of, bank_selects, page_selects, unknown, missing, behind_bank, missing_for, put_of, state_of, selected_from}
use Rattle.bank_page.specs.declared.known.Known.{Known}
use Rattle.bank_page.specs.declared.needs.Needs.{Needs}
use Rattle.bank_page.specs.declared.selecting.State.{State}
use Rattle.bank_page.proofs.Chains.{true_false, and_left, and_right, needs_step, with_parts}

-- ---- banks that are needed
-- a bank that is needed is bank 0 or bank 1
abbrev IsLowBank : Option ℕ → Type 0
IsLowBank None = Unit {0}
IsLowBank (Some bank) = bank < 2

at_low : (at b : Option ℕ) → ((a : ℕ) → at ≡ Some a → a < 0x100) → banked_at at ≡ Some b → IsLowBank b
at_low None b near is = absurd (none-some b is)
at_low (Some a) b near is =
    let l = near a refl in
    let low : a / 128 < 2 = omega (arith, l) in
    subst IsLowBank (same_Some (Some (a / 128)) b is) low

common_low : (placed : Placed) (byte : Byte) (common : Bool) (b : Option ℕ) → ((a : ℕ) → address_of placed byte ≡ Some a → a < 0x100) → banked placed (if common then None else Some byte) ≡ Some b → IsLowBank b
common_low placed byte true b near is =
    let none : Option ℕ = None in
    subst IsLowBank (same_Some none b is) tt
common_low placed byte false b near is = at_low (address_of placed byte) b near is

operand_low : (placed : Placed) (file : Operand) (writes : Bool) (b : Option ℕ) → IsNearTouched placed (Some (file, writes)) → banked placed (byte_named file) ≡ Some b → IsLowBank b
operand_low placed (operands.Byte byte) writes b near is = common_low placed byte (is_common byte) b near is
operand_low placed (operands.Register register) writes b near is =
    let none : Option ℕ = None in
    subst IsLowBank (same_Some none b is) tt
operand_low placed (operands.Saved saved) writes b near is =
    let none : Option ℕ = None in
    subst IsLowBank (same_Some none b is) tt

touched_low : (placed : Placed) (touched : Option (Operand × Bool)) (b : Option ℕ) → IsNearTouched placed touched → banked placed (byte_touched touched) ≡ Some b → IsLowBank b
touched_low placed None b near is =
    let none : Option ℕ = None in
    subst IsLowBank (same_Some none b is) tt
touched_low placed (Some touched) b near is = operand_low placed touched.0 touched.1 b near is

both_low_by : (one : ℕ) (d : Option ℕ) (same : Bool) → one < 2 → (if same then Some (Some one) else None) ≡ Some d → IsLowBank d
both_low_by one d true low is = subst IsLowBank (same_Some (Some one) d is) low
both_low_by one d false low is = absurd (none-some d is)

both_low : (b c d : Option ℕ) → both_banks b c ≡ Some d → IsLowBank b → IsLowBank c → IsLowBank d
both_low None c d is first second = subst IsLowBank (same_Some c d is) second
both_low (Some one) None d is first second = subst IsLowBank (same_Some (Some one) d is) first
both_low (Some one) (Some other) d is first second = both_low_by one d (nat_eq one other) first is

low_step : (select label skip change : Bool) (s : Sym) (bank : Option (Option ℕ)) (behind : Option Needs) (n : Needs) → ((m : Needs) → behind ≡ Some m → IsLowBank m.bank) → ((b : Option ℕ) → bank ≡ Some b → IsLowBank b)
    → needs_step select label skip change s bank behind ≡ Some n → IsLowBank n.bank
low_step true label skip change s bank behind n later own is = later n is
low_step false true skip change s bank behind n later own is = absurd (none-some n is)
low_step false false true true s bank behind n later own is = absurd (none-some n is)
low_step false false true false s None behind n later own is = absurd (none-some n is)
low_step false false true false s (Some b) None n later own is = absurd (none-some n is)
low_step false false true false s (Some b) (Some m) n later own is = both_low b m.bank n.bank (with_parts (both_banks b m.bank) m n is).0 (own b refl) (later m refl)
low_step false false false change s None behind n later own is = absurd (none-some n is)
low_step false false false change s (Some b) behind n later own is =
    subst IsLowBank (ap (λ (x : Needs). x.bank) (same_Some (record { bank = b; page = target_of s }) n is)) (own b refl)

needs_low : (placed : Placed) (list : List Sym) (n : Needs) → AreNear placed list → needs_in placed list ≡ Some n → IsLowBank n.bank
needs_low placed [] n near is = absurd (none-some n is)
needs_low placed (s ∷ rest) n near is =
    low_step (is_select s) (is_label s) (is_skip s) (writes_status s || writes_pclath s) s (banked placed (byte_of s)) (needs_in placed rest) n (λ m. needs_low placed rest m near.1) (λ b. touched_low placed (touches s) b near.0) is

-- ---- what is put
none_on : (xs ys : List Sym) → none_sets_rp1 xs ≡ true → none_sets_rp1 ys ≡ true → none_sets_rp1 (xs ++ ys) ≡ true
none_on [] ys p q = q
none_on (x ∷ xs) ys p q = by (sets_rp1 x) (none_on xs ys) p
  where
    by : (b : Bool) → (none_sets_rp1 xs ≡ true → none_sets_rp1 ys ≡ true → none_sets_rp1 (xs ++ ys) ≡ true) → (not b && none_sets_rp1 xs) ≡ true → (not b && none_sets_rp1 (xs ++ ys)) ≡ true
    by true later e = e
    by false later e = later e q

not_true : (b : Bool) → not b ≡ true → b ≡ false
not_true true e = absurd (true_false (sym e))
not_true false e = refl

unknown_near : (s : Sym) (already : Bool) → sets_rp1 s ≡ false → none_sets_rp1 (if already then [] else s ∷ []) ≡ true
unknown_near s true e = refl
unknown_near s false e = ap (λ (b : Bool). not b && true) e

low_rp1 : (bank : ℕ) → bank < 2 → rp1_of bank ≡ false
low_rp1 bank l = ne_eqb (bank / 2 % 2) 1 (λ e. omega (arith, l, e))

missing_near : (own : BlockName) (known : Known) (list : List Sym) → none_sets_rp1 list ≡ true → none_sets_rp1 (missing own known list) ≡ true
missing_near own known [] e = refl
missing_near own known (s ∷ list) e =
    none_on (unknown own known s) (missing own (learned own known s) list) (unknown_near s (knows own known s) (not_true (sets_rp1 s) (and_left (not (sets_rp1 s)) (none_sets_rp1 list) e)))
    (missing_near own (learned own known s) list (and_right (not (sets_rp1 s)) (none_sets_rp1 list) e))

bank_near : (own : BlockName) (known : Known) (bank : Option ℕ) → IsLowBank bank → none_sets_rp1 (missing own known (bank_selects bank)) ≡ true
bank_near own known None low = refl
bank_near own known (Some bank) low = missing_near own known (bank_selects (Some bank)) (ap (λ (b : Bool). not b && true) (low_rp1 bank low))

page_near : (own : BlockName) (known : Known) (page : Option Target) → none_sets_rp1 (missing own known (page_selects page)) ≡ true
page_near own known None = refl
page_near own known (Some target) = missing_near own known (page_selects (Some target)) refl

for_near : (own : BlockName) (known : Known) (needs : Needs) → IsLowBank needs.bank → none_sets_rp1 (missing_for own known needs) ≡ true
for_near own known needs low = none_on (missing own known (bank_selects needs.bank)) (missing own (behind_bank own known needs) (page_selects needs.page)) (bank_near own known needs.bank low) (page_near own (behind_bank own known needs) needs.page)

-- an instruction that isn't a select sets no RP1
plain_near : (s : Sym) → is_select s ≡ false → sets_rp1 s ≡ false
plain_near (syms.SelectBank bank_bits.Rp0 on) e = refl
plain_near (syms.SelectBank bank_bits.Rp1 on) e = absurd (true_false e)
plain_near (syms.SelectBank bank_bits.Irp on) e = refl
plain_near s e = refl

put_near : (select plain : Bool) (own : BlockName) (st : State) (s : Sym) (needs : Option Needs) → is_select s ≡ select → ((n : Needs) → needs ≡ Some n → IsLowBank n.bank) → none_sets_rp1 (put_of select plain own st s needs) ≡ true
put_near true plain own st s needs is low = refl
put_near false true own st s needs is low = ap (λ (b : Bool). not b && true) (plain_near s is)
put_near false false own st s None is low = ap (λ (b : Bool). not b && true) (plain_near s is)
put_near false false own st s (Some needs) is low = none_on (missing_for own st.known needs) (s ∷ []) (for_near own st.known needs (low needs refl)) (ap (λ (b : Bool). not b && true) (plain_near s is))

from_near : (placed : Placed) (own : BlockName) (st : State) (list : List Sym) → AreNear placed list → none_sets_rp1 (selected_from placed own st list) ≡ true
from_near placed own st [] near = refl
from_near placed own st (s ∷ rest) near =
    let needs = needs_in placed (s ∷ rest) in
    let alone = st.behind || is_label s in
    none_on (put_of (is_select s) alone own st s needs) (selected_from placed own (state_of (is_select s) alone own st s needs) rest)
    (put_near (is_select s) alone own st s needs refl (λ n. needs_low placed (s ∷ rest) n near)) (from_near placed own (state_of (is_select s) alone own st s needs) rest near.1)

-- A block that becomes what its definition says, and names nothing from 100h on, has no select that sets RP1.
pub exact_near : (placed : Placed) (given made : SymBlock) → IsExact placed given made → AreNear placed given.list.items → StaysNear made
exact_near placed given made exact near = ap none_sets_rp1 exact.code ∙ from_near placed given.name front given.list.items near

pub all_near_made : (placed : Placed) (given made : List SymBlock) → AllZip (IsExact placed) given made → All (λ (block : SymBlock). AreNear placed block.list.items) given → All StaysNear made
all_near_made placed [] [] z near = All-nil StaysNear
all_near_made placed [] (m ∷ made) z near = absurd z
all_near_made placed (g ∷ given) [] z near = absurd z
all_near_made placed (g ∷ given) (m ∷ made) z near =
    All-cons StaysNear m made (exact_near placed g m z.0 (near 0 g (omega arith))) (all_near_made placed given made z.1 (λ i d l. near (suc i) d (omega arith)))

-- What is known holds of the bits that are selected.
use Rattle.std.proofs.Common.{◌≡◌, ℕ, zero, suc, ◌+◌, ◌*◌, ◌/◌, ◌%◌, ◌<◌, Bool, true, false, ◌&&◌, nat_eq, if◌then◌else◌, Option, Some, None, refl, sym, ap, ◌∙◌, arith}
use Rattle.std.proofs.lemmas.Bool.{eqb-true}
use Rattle.pic_world.specs.Bits.{truth}
use Rattle.sym_code.specs.Effect.{page_bit}
use Rattle.sym_code.specs.Programs.{same_name, block_of}
use Rattle.sym_code.specs.declared.code.BankBit.TheVariants.{Rp0, Rp1}
use Rattle.sym_code.specs.declared.code.BlockName.{BlockName}
use Rattle.sym_code.specs.declared.code.BlockName.TheVariants as names
use Rattle.sym_code.specs.declared.code.PageBit.{PageBit}
use Rattle.sym_code.specs.declared.code.PageBit.TheVariants.{Low, High}
use Rattle.sym_code.specs.declared.code.Sym.{Sym}
use Rattle.sym_code.specs.declared.code.Sym.TheVariants as syms
use Rattle.sym_code.specs.declared.code.Target.{Target}
use Rattle.bank_page.specs.Known.{nothing, kept, left, learned, same_bit, is_bit, is_page, is_of_bit, writes_status, writes_pclath}
use Rattle.bank_page.specs.Selected.{has_bank}
use Rattle.bank_page.specs.Step.{rp0_of, rp1_of}
use Rattle.bank_page.specs.declared.known.Known.{Known}
use Rattle.flow_facts.specs.Facts.{Fact, Facts, AreMates, gives_bit, gives_page, gives, shared_bit, shared_page, shared}
use Rattle.flow_facts.specs.Walk.{mated, finds_target}
use Rattle.flow_facts.proofs.More.{given_parts}
use Rattle.bank_trace.proofs.Lists.{never}

-- RP0, RP1 and the bits of the page
pub record Bits : Type 0 where
  pub rp0 : ℕ
  pub rp1 : ℕ
  pub low : ℕ
  pub high : ℕ

abbrev pub HoldsBit : Option Bool → ℕ → Type 0
HoldsBit None v = Unit {0}
HoldsBit (Some on) v = v ≡ truth on

abbrev pub HoldsPage : (BlockName → ℕ) → PageBit → Option BlockName → ℕ → Type 0
HoldsPage pages bit None v = Unit {0}
HoldsPage pages bit (Some name) v = v ≡ page_bit bit (pages name)

pub record Holds (pages : BlockName → ℕ) (known : Known) (b : Bits) : Type 0 where
  pub rp0 : HoldsBit known.rp0 b.rp0
  pub rp1 : HoldsBit known.rp1 b.rp1
  pub low : HoldsPage pages Low known.low b.low
  pub high : HoldsPage pages High known.high b.high

pub holds_nothing : (pages : BlockName → ℕ) (b : Bits) → Holds pages nothing b
holds_nothing pages b = record { rp0 = tt; rp1 = tt; low = tt; high = tt }

kept_bit : (changed : Bool) (known : Option Bool) (v : ℕ) → HoldsBit known v → HoldsBit (kept changed known) v
kept_bit true known v h = tt
kept_bit false known v h = h

kept_page : (pages : BlockName → ℕ) (bit : PageBit) (changed : Bool) (known : Option BlockName) (v : ℕ) → HoldsPage pages bit known v → HoldsPage pages bit (kept changed known) v
kept_page pages bit true known v h = tt
kept_page pages bit false known v h = h

-- less is known behind an instruction
pub holds_left : (pages : BlockName → ℕ) (known : Known) (s : Sym) (b : Bits) → Holds pages known b → Holds pages (left known s (writes_status s) (writes_pclath s)) b
holds_left pages known s b h = record {
  rp0 = kept_bit (writes_status s && is_of_bit s 5) known.rp0 b.rp0 h.rp0;
  rp1 = kept_bit (writes_status s && is_of_bit s 6) known.rp1 b.rp1 h.rp1;
  low = kept_page pages Low (writes_pclath s && is_of_bit s 3) known.low b.low h.low;
  high = kept_page pages High (writes_pclath s && is_of_bit s 4) known.high b.high h.high;
}

-- the bits behind a select in a block
abbrev pub selected : (BlockName → ℕ) → BlockName → Sym → Bits → Bits
selected pages own (syms.SelectBank Rp0 on) b = record b { rp0 = truth on }
selected pages own (syms.SelectBank Rp1 on) b = record b { rp1 = truth on }
selected pages own (syms.SelectPage Low target) b = record b { low = page_bit Low (pages (block_of own target)) }
selected pages own (syms.SelectPage High target) b = record b { high = page_bit High (pages (block_of own target)) }
selected pages own s b = b

-- the page of a block has the bits of the one that stands for it
pub holds_learned : (pages : BlockName → ℕ) (f : Facts) → AreMates pages f.mate → (own : BlockName) (known : Known) (s : Sym) (b : Bits) → Holds pages known b → Holds pages (learned own known (mated f own s)) (selected pages own s b)
holds_learned pages f mates own known (syms.SelectBank Rp0 on) b h = record { rp0 = refl; rp1 = h.rp1; low = h.low; high = h.high }
holds_learned pages f mates own known (syms.SelectBank Rp1 on) b h = record { rp0 = h.rp0; rp1 = refl; low = h.low; high = h.high }
holds_learned pages f mates own known (syms.SelectPage Low target) b h = record { rp0 = h.rp0; rp1 = h.rp1; low = sym (mates Low (block_of own target)); high = h.high }
holds_learned pages f mates own known (syms.SelectPage High target) b h = record { rp0 = h.rp0; rp1 = h.rp1; low = h.low; high = sym (mates High (block_of own target)) }
holds_learned pages f mates own known s b h = h

-- ---- what is found
pub both_first : (a b : Bool) → (a && b) ≡ true → a ≡ true
both_first true b e = refl
both_first false b e = e

pub both_last : (a b : Bool) → (a && b) ≡ true → b ≡ true
both_last true b e = e
both_last false b e = never e

same_truth : (a b : Bool) → same_bit a b ≡ true → truth a ≡ truth b
same_truth true true e = refl
same_truth true false e = never e
same_truth false true e = never e
same_truth false false e = refl

bit_is : (known : Option Bool) (on : Bool) (v : ℕ) → is_bit known on ≡ true → HoldsBit known v → v ≡ truth on
bit_is None on v e h = never e
bit_is (Some known) on v e h = h ∙ same_truth known on e

pub truth_bit : (n : ℕ) → n < 2 → truth (nat_eq n 1) ≡ n
truth_bit zero l = refl
truth_bit (suc zero) l = refl
truth_bit (suc (suc n)) l = absurd (omega arith)

pub bank_is : (pages : BlockName → ℕ) (known : Known) (b : Bits) (n : ℕ) → n < 4 → has_bank known (Some n) ≡ true → Holds pages known b → 2 * b.rp1 + b.rp0 ≡ n
bank_is pages known b n l e h =
    let first = bit_is known.rp1 (rp1_of n) b.rp1 (both_first (is_bit known.rp1 (rp1_of n)) (is_bit known.rp0 (rp0_of n)) e) h.rp1 ∙ truth_bit (n / 2 % 2) (omega arith) in
    let last = bit_is known.rp0 (rp0_of n) b.rp0 (both_last (is_bit known.rp1 (rp1_of n)) (is_bit known.rp0 (rp0_of n)) e) h.rp0 ∙ truth_bit (n % 2) (omega arith) in
    omega arith

pub same_names : (a b : BlockName) → same_name a b ≡ true → a ≡ b
same_names names.Start names.Start e = refl
same_names names.Start (names.Copy c) e = never e
same_names (names.Copy c) names.Start e = never e
same_names (names.Copy c) (names.Copy d) e = ap names.Copy (eqb-true c d e)

page_known : (pages : BlockName → ℕ) (bit : PageBit) (known : Option BlockName) (name : BlockName) (v : ℕ) → is_page known name ≡ true → HoldsPage pages bit known v → v ≡ page_bit bit (pages name)
page_known pages bit None name v e h = never e
page_known pages bit (Some known) name v e h = h ∙ ap (λ n. page_bit bit (pages n)) (same_names known name e)

pub page_is : (pages : BlockName → ℕ) (f : Facts) → AreMates pages f.mate → (own : BlockName) (known : Known) (target : Target) (b : Bits) → pages (block_of own target) < 4 → finds_target f own known (Some target) ≡ true → Holds pages known b
    → 2 * b.high + b.low ≡ pages (block_of own target)
page_is pages f mates own known target b l e h =
    let name = block_of own target in
    let one = f.mate High name in
    let other = f.mate Low name in
    let first : b.high ≡ page_bit High (pages name) = page_known pages High known.high one b.high (both_first (is_page known.high one) (is_page known.low other) e) h.high ∙ mates High name in
    let last : b.low ≡ page_bit Low (pages name) = page_known pages Low known.low other b.low (both_last (is_page known.high one) (is_page known.low other) e) h.low ∙ mates Low name in
    omega arith

-- ---- flow facts
-- nothing is where nothing comes
abbrev pub HoldsFact : (BlockName → ℕ) → Fact → Bits → Type 0
HoldsFact pages None b = ⊥
HoldsFact pages (Some known) b = Holds pages known b

wanted_bit : (known wanted : Option Bool) (v : ℕ) → gives_bit known wanted ≡ true → HoldsBit known v → HoldsBit wanted v
wanted_bit known None v e h = tt
wanted_bit known (Some on) v e h = bit_is known on v e h

wanted_page : (pages : BlockName → ℕ) (bit : PageBit) (known wanted : Option BlockName) (v : ℕ) → gives_page known wanted ≡ true → HoldsPage pages bit known v → HoldsPage pages bit wanted v
wanted_page pages bit known None v e h = tt
wanted_page pages bit known (Some name) v e h = page_known pages bit known name v e h

-- what is enough for a place holds there
pub holds_given : (pages : BlockName → ℕ) (fact wanted : Fact) (b : Bits) → gives fact wanted ≡ true → HoldsFact pages fact b → HoldsFact pages wanted b
holds_given pages None wanted b e h = absurd h
holds_given pages (Some known) None b e h = never e
holds_given pages (Some known) (Some wanted) b e h =
    let g = given_parts known wanted e in
    record {
      rp0 = wanted_bit known.rp0 wanted.rp0 b.rp0 g.rp0 h.rp0;
      rp1 = wanted_bit known.rp1 wanted.rp1 b.rp1 g.rp1 h.rp1;
      low = wanted_page pages Low known.low wanted.low b.low g.low h.low;
      high = wanted_page pages High known.high wanted.high b.high g.high h.high;
    }

first_bit : (one other : Option Bool) (v : ℕ) → HoldsBit one v → HoldsBit (shared_bit one other) v
first_bit one None v h = tt
first_bit one (Some on) v h = by (is_bit one on) refl
  where
    by : (c : Bool) → is_bit one on ≡ c → HoldsBit (if c then Some on else None) v
    by true is = bit_is one on v is h
    by false is = tt

last_bit : (one other : Option Bool) (v : ℕ) → HoldsBit other v → HoldsBit (shared_bit one other) v
last_bit one None v h = tt
last_bit one (Some on) v h = by (is_bit one on)
  where
    by : (c : Bool) → HoldsBit (if c then Some on else None) v
    by true = h
    by false = tt

first_page : (pages : BlockName → ℕ) (bit : PageBit) (one other : Option BlockName) (v : ℕ) → HoldsPage pages bit one v → HoldsPage pages bit (shared_page one other) v
first_page pages bit one None v h = tt
first_page pages bit one (Some name) v h = by (is_page one name) refl
  where
    by : (c : Bool) → is_page one name ≡ c → HoldsPage pages bit (if c then Some name else None) v
    by true is = page_known pages bit one name v is h
    by false is = tt

last_page : (pages : BlockName → ℕ) (bit : PageBit) (one other : Option BlockName) (v : ℕ) → HoldsPage pages bit other v → HoldsPage pages bit (shared_page one other) v
last_page pages bit one None v h = tt
last_page pages bit one (Some name) v h = by (is_page one name)
  where
    by : (c : Bool) → HoldsPage pages bit (if c then Some name else None) v
    by true = h
    by false = tt

-- what two places share holds at each
pub holds_first : (pages : BlockName → ℕ) (known : Known) (fact : Fact) (b : Bits) → Holds pages known b → HoldsFact pages (shared (Some known) fact) b
holds_first pages known None b h = h
holds_first pages known (Some other) b h = record {
  rp0 = first_bit known.rp0 other.rp0 b.rp0 h.rp0;
  rp1 = first_bit known.rp1 other.rp1 b.rp1 h.rp1;
  low = first_page pages Low known.low other.low b.low h.low;
  high = first_page pages High known.high other.high b.high h.high;
}

pub holds_last : (pages : BlockName → ℕ) (known : Known) (fact : Fact) (b : Bits) → HoldsFact pages fact b → HoldsFact pages (shared (Some known) fact) b
holds_last pages known None b h = absurd h
holds_last pages known (Some other) b h = record {
  rp0 = last_bit known.rp0 other.rp0 b.rp0 h.rp0;
  rp1 = last_bit known.rp1 other.rp1 b.rp1 h.rp1;
  low = last_page pages Low known.low other.low b.low h.low;
  high = last_page pages High known.high other.high b.high h.high;
}

-- where a thread stands something is known
pub record Live (pages : BlockName → ℕ) (fact : Fact) (b : Bits) : Type 0 where
  pub known : Known
  pub is : fact ≡ Some known
  pub holds : Holds pages known b

pub live : (pages : BlockName → ℕ) (fact : Fact) (b : Bits) → HoldsFact pages fact b → Live pages fact b
live pages None b h = absurd h
live pages (Some known) b h = record { known = known; is = refl; holds = h }

-- Where more is known.
use Rattle.std.proofs.Common.{◌≡◌, ℕ, Bool, true, false, ◌&&◌, Option, Some, None, option_map, refl, sym, ap, subst, true≢false}
use Rattle.std.proofs.lemmas.Bool.{eqb-true, eq-eqb}
use Rattle.core_code.specs.declared.code.Byte.{Byte}
use Rattle.pic_map.specs.declared.Placed.{Placed}
use Rattle.sym_code.specs.Programs.{same_name, block_of}
use Rattle.sym_code.specs.declared.code.BankBit.TheVariants.{Rp0, Rp1}
use Rattle.sym_code.specs.declared.code.BlockName.{BlockName}
use Rattle.sym_code.specs.declared.code.BlockName.TheVariants as names
use Rattle.sym_code.specs.declared.code.PageBit.TheVariants.{Low, High}
use Rattle.sym_code.specs.declared.code.Sym.{Sym}
use Rattle.sym_code.specs.declared.code.Sym.TheVariants as syms
use Rattle.sym_code.specs.declared.code.Target.{Target}
use Rattle.bank_page.specs.Kinds.{byte_of, target_of}
use Rattle.bank_page.specs.Known.{kept, left, learned, knows, same_bit, is_bit, is_page, is_of_bit, writes_status, writes_pclath}
use Rattle.bank_page.specs.Selected as plain
use Rattle.bank_page.specs.Selected.{bank_number, has_bank, reaches_byte, reaches_target}
use Rattle.bank_page.specs.Step.{rp0_of, rp1_of}
use Rattle.bank_page.specs.declared.known.Known.{Known}
use Rattle.flow_facts.specs.Facts.{Facts, gives_bit, gives_page, gives_known}
use Rattle.flow_facts.specs.Walk.{mated, finds_target, is_right}

pub never : {A : Type 0} → false ≡ true → A
never e = absurd (true≢false (sym e))

-- ---- tests
pub and_first : (a b : Bool) → (a && b) ≡ true → a ≡ true
and_first true b e = refl
and_first false b e = e

pub and_last : (a b : Bool) → (a && b) ≡ true → b ≡ true
and_last true b e = e
and_last false b e = never e

pub and_both : (a b : Bool) → a ≡ true → b ≡ true → (a && b) ≡ true
and_both true b e f = f
and_both false b e f = e

pub record Gives (a b : Known) : Type 0 where
  pub rp0 : gives_bit a.rp0 b.rp0 ≡ true
  pub rp1 : gives_bit a.rp1 b.rp1 ≡ true
  pub low : gives_page a.low b.low ≡ true
  pub high : gives_page a.high b.high ≡ true

pub given_parts : (a b : Known) → gives_known a b ≡ true → Gives a b
given_parts a b e =
    let p = gives_bit a.rp0 b.rp0 in
    let q = gives_bit a.rp1 b.rp1 in
    let r = gives_page a.low b.low in
    let s = gives_page a.high b.high in
    let e1 = and_last p (q && (r && s)) e in
    let e2 = and_last q (r && s) e1 in
    record { rp0 = and_first p (q && (r && s)) e; rp1 = and_first q (r && s) e1; low = and_first r s e2; high = and_last r s e2 }

pub given_whole : (a b : Known) → Gives a b → gives_known a b ≡ true
given_whole a b g =
    let p = gives_bit a.rp0 b.rp0 in
    let q = gives_bit a.rp1 b.rp1 in
    let r = gives_page a.low b.low in
    let s = gives_page a.high b.high in
    and_both p (q && (r && s)) g.rp0 (and_both q (r && s) g.rp1 (and_both r s g.low g.high))

-- ---- one bit
pub same_bits : (a b : Bool) → same_bit a b ≡ true → a ≡ b
same_bits true true e = refl
same_bits true false e = never e
same_bits false true e = never e
same_bits false false e = refl

pub bit_itself : (on : Bool) → is_bit (Some on) on ≡ true
bit_itself true = refl
bit_itself false = refl

pub bit_more : (a b : Option Bool) (on : Bool) → gives_bit a b ≡ true → is_bit b on ≡ true → is_bit a on ≡ true
bit_more a None on g e = never e
bit_more a (Some x) on g e = subst (λ (y : Bool). is_bit a y ≡ true) (same_bits x on e) g

pub gives_bit_itself : (a : Option Bool) → gives_bit a a ≡ true
gives_bit_itself None = refl
gives_bit_itself (Some on) = bit_itself on

gives_bit_kept : (c : Bool) (a b : Option Bool) → gives_bit a b ≡ true → gives_bit (kept c a) (kept c b) ≡ true
gives_bit_kept true a b g = refl
gives_bit_kept false a b g = g

-- ---- one page bit
pub same_names : (a b : BlockName) → same_name a b ≡ true → a ≡ b
same_names names.Start names.Start e = refl
same_names names.Start (names.Copy c) e = never e
same_names (names.Copy c) names.Start e = never e
same_names (names.Copy c) (names.Copy d) e = ap names.Copy (eqb-true c d e)

pub page_itself : (name : BlockName) → is_page (Some name) name ≡ true
page_itself names.Start = refl
page_itself (names.Copy c) = eq-eqb c c refl

pub page_more : (a b : Option BlockName) (name : BlockName) → gives_page a b ≡ true → is_page b name ≡ true → is_page a name ≡ true
page_more a None name g e = never e
page_more a (Some x) name g e = subst (λ (y : BlockName). is_page a y ≡ true) (same_names x name e) g

pub gives_page_itself : (a : Option BlockName) → gives_page a a ≡ true
gives_page_itself None = refl
gives_page_itself (Some name) = page_itself name

-- ---- blocks that stand for others
gives_page_kept : (mate : BlockName → BlockName) (c : Bool) (a b : Option BlockName) → gives_page a (option_map mate b) ≡ true → gives_page (kept c a) (option_map mate (kept c b)) ≡ true
gives_page_kept mate true a b g = refl
gives_page_kept mate false a b g = g

page_mate : (mate : BlockName → BlockName) (a : Option BlockName) (name : BlockName) → is_page a name ≡ true → is_page (option_map mate a) (mate name) ≡ true
page_mate mate None name e = never e
page_mate mate (Some x) name e = subst (λ (y : BlockName). is_page (Some (mate x)) (mate y) ≡ true) (same_names x name e) (page_itself (mate x))

-- what straight code knows, by the blocks that stand for those that it names
abbrev pub by_mates : Facts → Known → Known
by_mates f known = record { rp0 = known.rp0; rp1 = known.rp1; low = option_map (f.mate Low) known.low; high = option_map (f.mate High) known.high }

-- ---- behind an instruction more stays known
module _ (f : Facts) (a b : Known) (g : Gives a (by_mates f b)) where
  pub left_more : (s : Sym) → Gives (left a s (writes_status s) (writes_pclath s)) (by_mates f (left b s (writes_status s) (writes_pclath s)))
  left_more s = record {
    rp0 = gives_bit_kept (writes_status s && is_of_bit s 5) a.rp0 b.rp0 g.rp0;
    rp1 = gives_bit_kept (writes_status s && is_of_bit s 6) a.rp1 b.rp1 g.rp1;
    low = gives_page_kept (f.mate Low) (writes_pclath s && is_of_bit s 3) a.low b.low g.low;
    high = gives_page_kept (f.mate High) (writes_pclath s && is_of_bit s 4) a.high b.high g.high;
  }

  pub learned_more : (own : BlockName) (s : Sym) → Gives (learned own a (mated f own s)) (by_mates f (learned own b s))
  learned_more own (syms.SelectBank Rp0 on) = record { rp0 = bit_itself on; rp1 = g.rp1; low = g.low; high = g.high }
  learned_more own (syms.SelectBank Rp1 on) = record { rp0 = g.rp0; rp1 = bit_itself on; low = g.low; high = g.high }
  learned_more own (syms.SelectPage Low target) = record { rp0 = g.rp0; rp1 = g.rp1; low = page_itself (f.mate Low (block_of own target)); high = g.high }
  learned_more own (syms.SelectPage High target) = record { rp0 = g.rp0; rp1 = g.rp1; low = g.low; high = page_itself (f.mate High (block_of own target)) }
  learned_more own s = g

  -- what a select sets that is known there is known
  pub knows_more : (own : BlockName) (s : Sym) → knows own a (mated f own s) ≡ true → Gives a (by_mates f (learned own b s))
  knows_more own (syms.SelectBank Rp0 on) e = record { rp0 = e; rp1 = g.rp1; low = g.low; high = g.high }
  knows_more own (syms.SelectBank Rp1 on) e = record { rp0 = g.rp0; rp1 = e; low = g.low; high = g.high }
  knows_more own (syms.SelectPage Low target) e = record { rp0 = g.rp0; rp1 = g.rp1; low = e; high = g.high }
  knows_more own (syms.SelectPage High target) e = record { rp0 = g.rp0; rp1 = g.rp1; low = g.low; high = e }
  knows_more own s e = g

  -- what straight code knows that a select sets
  pub knows_mated : (own : BlockName) (s : Sym) → knows own b s ≡ true → knows own a (mated f own s) ≡ true
  knows_mated own (syms.SelectBank Rp0 on) e = bit_more a.rp0 b.rp0 on g.rp0 e
  knows_mated own (syms.SelectBank Rp1 on) e = bit_more a.rp1 b.rp1 on g.rp1 e
  knows_mated own (syms.SelectPage Low target) e =
      page_more a.low (option_map (f.mate Low) b.low) (f.mate Low (block_of own target)) g.low (page_mate (f.mate Low) b.low (block_of own target) e)
  knows_mated own (syms.SelectPage High target) e =
      page_more a.high (option_map (f.mate High) b.high) (f.mate High (block_of own target)) g.high (page_mate (f.mate High) b.high (block_of own target) e)
  knows_mated own s e = never e

  -- ---- what is found
  bank_more : (n : Option ℕ) → has_bank b n ≡ true → has_bank a n ≡ true
  bank_more None e = e
  bank_more (Some n) e =
      and_both (is_bit a.rp1 (rp1_of n)) (is_bit a.rp0 (rp0_of n))
      (bit_more a.rp1 b.rp1 (rp1_of n) g.rp1 (and_first (is_bit b.rp1 (rp1_of n)) (is_bit b.rp0 (rp0_of n)) e))
      (bit_more a.rp0 b.rp0 (rp0_of n) g.rp0 (and_last (is_bit b.rp1 (rp1_of n)) (is_bit b.rp0 (rp0_of n)) e))

  byte_more : (placed : Placed) (byte : Option Byte) → reaches_byte placed b byte ≡ true → reaches_byte placed a byte ≡ true
  byte_more placed None e = refl
  byte_more placed (Some byte) e = bank_more (bank_number placed byte) e

  target_more : (own : BlockName) (target : Option Target) → reaches_target own b target ≡ true → finds_target f own a target ≡ true
  target_more own None e = refl
  target_more own (Some target) e =
      let name = block_of own target in
      let high = f.mate High in
      let low = f.mate Low in
      and_both (is_page a.high (high name)) (is_page a.low (low name))
      (page_more a.high (option_map high b.high) (high name) g.high (page_mate high b.high name (and_first (is_page b.high name) (is_page b.low name) e)))
      (page_more a.low (option_map low b.low) (low name) g.low (page_mate low b.low name (and_last (is_page b.high name) (is_page b.low name) e)))

  pub right_more : (placed : Placed) (own : BlockName) (s : Sym) → plain.is_right placed own b s ≡ true → is_right placed f own a s ≡ true
  right_more placed own s e =
      and_both (reaches_byte placed a (byte_of s)) (finds_target f own a (target_of s))
      (byte_more placed (byte_of s) (and_first (reaches_byte placed b (byte_of s)) (reaches_target own b (target_of s)) e))
      (target_more own (target_of s) (and_last (reaches_byte placed b (byte_of s)) (reaches_target own b (target_of s)) e))

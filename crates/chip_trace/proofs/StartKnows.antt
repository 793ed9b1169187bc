-- What the selects of a block leave in STATUS and PCLATH.
use Rattle.std.proofs.Common.{◌≡◌, ℕ, ◌/◌, ◌%◌, ◌<◌, Bool, List, Some, None, ap, ◌∙◌, arith}
use Rattle.pic_chip.specs.State.{State}
use Rattle.pic_world.specs.Bits.{set_bit, clear_bit, truth}
use Rattle.sym_code.specs.declared.code.BlockName.{BlockName}
use Rattle.bank_page.specs.declared.known.Known.{Known}
use Rattle.pic_chip.proofs.Ranges.{IsRanged}
use Rattle.chip_trace.specs.Context.{Knows}
use Rattle.chip_trace.proofs.StatusBits.{set_5, clear_5, set_6, clear_6, low_set, low_clear, high_set, high_clear}
use Rattle.chip_trace.proofs.StartRows.{S}

some_is : {A : Type 0} (x y : A) → Some x ≡ Some y → x ≡ y
some_is x y e = ap (λ o. elim o [ None ↦ x | Some z ↦ z ]) e

module _ (inputs : List ℕ) (s : State) (x : IsRanged s) where
  abbrev i : ℕ
  i = s.bank / 4

  abbrev p1 : ℕ
  p1 = s.bank / 2 % 2

  abbrev p0 : ℕ
  p0 = s.bank % 2

  pub rp0_set : (set_bit 5 (S inputs s) / 32 % 2 ≡ 1) × (set_bit 5 (S inputs s) / 32 / 2 % 2 ≡ s.bank / 2 % 2)
  rp0_set = let b = (set_5 i p1 s.z s.dc s.c x.z x.dc x.c s.bank p0 (omega arith) (omega arith)).bank in (omega arith, omega arith)

  pub rp0_clear : (clear_bit 5 (S inputs s) / 32 % 2 ≡ 0) × (clear_bit 5 (S inputs s) / 32 / 2 % 2 ≡ s.bank / 2 % 2)
  rp0_clear = let b = (clear_5 i p1 s.z s.dc s.c x.z x.dc x.c s.bank p0 (omega arith) (omega arith)).bank in (omega arith, omega arith)

  pub rp1_set : (set_bit 6 (S inputs s) / 32 / 2 % 2 ≡ 1) × (set_bit 6 (S inputs s) / 32 % 2 ≡ s.bank % 2)
  rp1_set = let b = (set_6 i p0 s.z s.dc s.c x.z x.dc x.c s.bank p1 (omega arith) (omega arith) (omega arith)).bank in (omega arith, omega arith)

  pub rp1_clear : (clear_bit 6 (S inputs s) / 32 / 2 % 2 ≡ 0) × (clear_bit 6 (S inputs s) / 32 % 2 ≡ s.bank % 2)
  rp1_clear = let b = (clear_6 i p0 s.z s.dc s.c x.z x.dc x.c s.bank p1 (omega arith) (omega arith) (omega arith)).bank in (omega arith, omega arith)

  -- RP0 alone may be 1
  pub rp0_low : s.bank < 2 → (set_bit 5 (S inputs s) / 32 < 2) × (clear_bit 5 (S inputs s) / 32 < 2)
  rp0_low lt =
      let a = (set_5 i p1 s.z s.dc s.c x.z x.dc x.c s.bank p0 (omega arith) (omega arith)).bank in
      let b = (clear_5 i p1 s.z s.dc s.c x.z x.dc x.c s.bank p0 (omega arith) (omega arith)).bank in
      (omega (arith, a, lt), omega (arith, b, lt))

  pub rp1_low : s.bank < 2 → clear_bit 6 (S inputs s) / 32 < 2
  rp1_low lt = let b = (clear_6 i p0 s.z s.dc s.c x.z x.dc x.c s.bank p1 (omega arith) (omega arith) (omega arith)).bank in omega (arith, b, lt)

  abbrev hi : ℕ
  hi = s.pclath / 8 / 2

  abbrev lo : ℕ
  lo = s.pclath / 8 % 2

  pub page_low_set : (set_bit 3 s.pclath % 32 / 8 % 2 ≡ 1) × (set_bit 3 s.pclath % 32 / 8 / 2 % 2 ≡ s.pclath / 8 / 2 % 2)
  page_low_set = let v = x.pclath in let b = low_set s.pclath hi lo x.pclath (omega arith) (omega arith) in (omega arith, omega arith)

  pub page_low_clear : (clear_bit 3 s.pclath % 32 / 8 % 2 ≡ 0) × (clear_bit 3 s.pclath % 32 / 8 / 2 % 2 ≡ s.pclath / 8 / 2 % 2)
  page_low_clear = let v = x.pclath in let b = low_clear s.pclath hi lo x.pclath (omega arith) (omega arith) in (omega arith, omega arith)

  pub page_high_set : (set_bit 4 s.pclath % 32 / 8 / 2 % 2 ≡ 1) × (set_bit 4 s.pclath % 32 / 8 % 2 ≡ s.pclath / 8 % 2)
  page_high_set = let v = x.pclath in let b = high_set s.pclath hi lo x.pclath (omega arith) (omega arith) (omega arith) in (omega arith, omega arith)

  pub page_high_clear : (clear_bit 4 s.pclath % 32 / 8 / 2 % 2 ≡ 0) × (clear_bit 4 s.pclath % 32 / 8 % 2 ≡ s.pclath / 8 % 2)
  page_high_clear = let v = x.pclath in let b = high_clear s.pclath hi lo x.pclath (omega arith) (omega arith) (omega arith) in (omega arith, omega arith)

-- ---- what is learned by a select
module _ (pages : BlockName → ℕ) (k : Known) (s t : State) (x : Knows pages k s) where
  pub learned_rp0 : (b : Bool) → t.bank % 2 ≡ truth b → t.bank / 2 % 2 ≡ s.bank / 2 % 2 → t.pclath ≡ s.pclath → Knows pages (record k { rp0 = Some b }) t
  learned_rp0 b e f h = record {
    rp0 = λ c q. e ∙ ap truth (some_is b c q);
    rp1 = λ c q. f ∙ x.rp1 c q;
    low = λ n q. ap (λ z. z / 8 % 2) h ∙ x.low n q;
    high = λ n q. ap (λ z. z / 8 / 2 % 2) h ∙ x.high n q;
  }

  pub learned_rp1 : (b : Bool) → t.bank / 2 % 2 ≡ truth b → t.bank % 2 ≡ s.bank % 2 → t.pclath ≡ s.pclath → Knows pages (record k { rp1 = Some b }) t
  learned_rp1 b e f h = record {
    rp0 = λ c q. f ∙ x.rp0 c q;
    rp1 = λ c q. e ∙ ap truth (some_is b c q);
    low = λ n q. ap (λ z. z / 8 % 2) h ∙ x.low n q;
    high = λ n q. ap (λ z. z / 8 / 2 % 2) h ∙ x.high n q;
  }

  pub learned_low : (m : BlockName) → t.pclath / 8 % 2 ≡ pages m % 2 → t.pclath / 8 / 2 % 2 ≡ s.pclath / 8 / 2 % 2 → t.bank ≡ s.bank → Knows pages (record k { low = Some m }) t
  learned_low m e f h = record {
    rp0 = λ c q. ap (λ z. z % 2) h ∙ x.rp0 c q;
    rp1 = λ c q. ap (λ z. z / 2 % 2) h ∙ x.rp1 c q;
    low = λ n q. e ∙ ap (λ z. pages z % 2) (some_is m n q);
    high = λ n q. f ∙ x.high n q;
  }

  pub learned_high : (m : BlockName) → t.pclath / 8 / 2 % 2 ≡ pages m / 2 % 2 → t.pclath / 8 % 2 ≡ s.pclath / 8 % 2 → t.bank ≡ s.bank → Knows pages (record k { high = Some m }) t
  learned_high m e f h = record {
    rp0 = λ c q. ap (λ z. z % 2) h ∙ x.rp0 c q;
    rp1 = λ c q. ap (λ z. z / 2 % 2) h ∙ x.rp1 c q;
    low = λ n q. f ∙ x.low n q;
    high = λ n q. e ∙ ap (λ z. pages z / 2 % 2) (some_is m n q);
  }

  pub kept : t.bank ≡ s.bank → t.pclath ≡ s.pclath → Knows pages k t
  kept e h = record {
    rp0 = λ c q. ap (λ z. z % 2) e ∙ x.rp0 c q;
    rp1 = λ c q. ap (λ z. z / 2 % 2) e ∙ x.rp1 c q;
    low = λ n q. ap (λ z. z / 8 % 2) h ∙ x.low n q;
    high = λ n q. ap (λ z. z / 8 / 2 % 2) h ∙ x.high n q;
  }

-- Where operands lead on both chips.
use Rattle.std.proofs.Common.{◌≡◌, ℕ, ◌+◌, ◌*◌, ◌/◌, ◌%◌, ◌<◌, Bool, true, false, refl, sym, ap, ◌∙◌, subst, arith}
use Rattle.std.specs.Prelude.{nat_eq, not, ◌&&◌, ◌||◌, if◌then◌else◌}
use Rattle.std.proofs.lemmas.Bool.{agree_below_at, eqb-true}
use Rattle.pic_chip.specs.Act.{Act, Ask, effect}
use Rattle.pic_chip.specs.Address as first
use Rattle.pic_chip.specs.Address.{Place, Pcl, Status, Fsr, Pclath, Intcon, Pir1, Pie1, General, Device, Nothing}
use Rattle.pic_chip.specs.State.{State, AtBank, AtFsr}
use Rattle.pic_chip.specs.SmallAddress.{small_place, small_indirect, small_operand}
use Rattle.chip_84a.specs.Family.{Member, Fits, has, is_same, twin_place, first_direct, direct_test, pointed_test, operand_by}
use Rattle.chip_84a.specs.Lockstep.{place_of}

-- ---- places as numbers
same_is : (p q : Place) → is_same p q ≡ true → p ≡ q
same_is Pcl Pcl e = refl
same_is Status Status e = refl
same_is Fsr Fsr e = refl
same_is Pclath Pclath e = refl
same_is Intcon Intcon e = refl
same_is Pir1 Pir1 e = refl
same_is Pie1 Pie1 e = refl
same_is (General j) (General k) e = ap General (eqb-true j k e)
same_is (Device a) (Device b) e = ap Device (eqb-true a b e)
same_is _ _ e = absurd (cc)

-- ---- tests of several things
pub or_right : (a b : Bool) → (a || b) ≡ true → a ≡ false → b ≡ true
or_right true b e f = absurd (cc)
or_right false b e f = e

pub not_true : (a : Bool) → a ≡ true → not a ≡ false
not_true true e = refl
not_true false e = absurd (cc)

pub and_left : (a b : Bool) → (a && b) ≡ true → a ≡ true
and_left true b e = refl
and_left false b e = absurd (cc)

pub and_right : (a b : Bool) → (a && b) ≡ true → b ≡ true
and_right true b e = e
and_right false b e = absurd (cc)

pub not_false : (a : Bool) → not a ≡ true → a ≡ false
not_false false e = refl
not_false true e = absurd (cc)

-- ---- operands
-- where an operand leads on the first chip
pub leads_first : (s : State) (f : ℕ) (next : Place → Act) → effect (first.operand f next) s ≡ effect (next (place_of s f)) s
leads_first s f next = by (first.in_every_bank f) (nat_eq f 0) where
  by : (a b : Bool) → effect (if a then next (first.place 0 f) else if b then Ask AtBank (λ bank. Ask AtFsr (λ fsr. next (first.indirect (256 * (bank / 4) + fsr)))) else Ask AtBank (λ bank. next (first.place (bank % 4) f))) s
      ≡ effect (next (if a then first.place 0 f else if b then first.indirect (256 * (s.bank / 4) + s.fsr) else first.place (s.bank % 4) f)) s
  by true b = refl
  by false true = refl
  by false false = refl

-- and on the second
abbrev pub second_place : ℕ → ℕ → ℕ → Place
second_place bank fsr f = if nat_eq f 0 then small_indirect fsr else small_place (bank % 2) f

pub leads_small : (t : State) (f : ℕ) (next : Place → Act) → effect (small_operand f next) t ≡ effect (next (second_place t.bank t.fsr f)) t
leads_small t f next = by (nat_eq f 0) where
  by : (b : Bool) → effect (if b then Ask AtFsr (λ fsr. next (small_indirect fsr)) else Ask AtBank (λ bank. next (small_place (bank % 2) f))) t ≡ effect (next (if b then small_indirect t.fsr else small_place (t.bank % 2) f)) t
  by true = refl
  by false = refl

-- ---- a member of the family
abbrev pub member_place : Member → ℕ → ℕ → ℕ → Place
member_place m bank fsr f = if nat_eq f 0 then m.pointed fsr else m.direct (bank % 2) f

pub leads_member : (m : Member) (t : State) (f : ℕ) (next : Place → Act) → effect (operand_by m f next) t ≡ effect (next (member_place m t.bank t.fsr f)) t
leads_member m t f next = by (nat_eq f 0) where
  by : (b : Bool) → effect (if b then Ask AtFsr (λ fsr. next (m.pointed fsr)) else Ask AtBank (λ bank. next (m.direct (bank % 2) f))) t ≡ effect (next (if b then m.pointed t.fsr else m.direct (t.bank % 2) f)) t
  by true = refl
  by false = refl

module _ (m : Member) (fits : Fits m) where
  direct_twin : (bank f : ℕ) → bank < 2 → f < 128 → nat_eq f 0 ≡ false → has m true (first_direct bank f) ≡ true → (nat_eq (m.operand f) 0 ≡ false) × (m.direct bank (m.operand f) ≡ twin_place m (first_direct bank f))
  direct_twin bank f hb hf nz sh =
      let n = bank * 128 + f in
      let d : n / 128 ≡ bank = omega arith in
      let r : n % 128 ≡ f = omega arith in
      let at : direct_test m n ≡ true = agree_below_at (direct_test m) (λ k. true) 256 n fits.direct (omega arith) in
      let at' : (nat_eq f 0 || (not (has m true (first_direct bank f)) || (not (nat_eq (m.operand f) 0) && is_same (m.direct bank (m.operand f)) (twin_place m (first_direct bank f))))) ≡ true =
      subst (λ b. (nat_eq f 0 || (not (has m true (first_direct b f)) || (not (nat_eq (m.operand f) 0) && is_same (m.direct b (m.operand f)) (twin_place m (first_direct b f))))) ≡ true) d
      (subst (λ g. (nat_eq g 0 || (not (has m true (first_direct (n / 128) g)) || (not (nat_eq (m.operand g) 0) && is_same (m.direct (n / 128) (m.operand g)) (twin_place m (first_direct (n / 128) g))))) ≡ true) r at) in
      let both = or_right _ _ (or_right _ _ at' nz) (not_true _ sh) in
      (not_false _ (and_left _ _ both), same_is _ _ (and_right (not (nat_eq (m.operand f) 0)) _ both))

  pointed_twin : (fsr : ℕ) → fsr < 256 → has m false (first.indirect fsr) ≡ true → m.pointed fsr ≡ twin_place m (first.indirect fsr)
  pointed_twin fsr h sh =
      let at : pointed_test m fsr ≡ true = agree_below_at (pointed_test m) (λ n. true) 256 fsr fits.pointed h in
      same_is _ _ (or_right _ _ at (not_true _ sh))

  no_operand : m.operand 0 ≡ 0
  no_operand = eqb-true (m.operand 0) 0 (and_left _ _ (and_left _ _ fits.core))

  -- the same place, as the member numbers its bytes
  pub places_twin : (s : State) (f : ℕ) → s.bank < 2 → s.fsr < 256 → f < 128 → has m (not (nat_eq f 0)) (place_of s f) ≡ true → member_place m s.bank s.fsr (m.operand f) ≡ twin_place m (place_of s f)
  places_twin s f hb hs hf sh = by (nat_eq f 0) refl where
    b4 : s.bank % 4 ≡ s.bank
    b4 = omega arith

    b2 : s.bank % 2 ≡ s.bank
    b2 = omega arith

    b0 : 256 * (s.bank / 4) + s.fsr ≡ s.fsr
    b0 = omega arith

    by : (b : Bool) → nat_eq f 0 ≡ b → member_place m s.bank s.fsr (m.operand f) ≡ twin_place m (place_of s f)
    by true e = subst Same (sym (eqb-true f 0 e)) at_zero shared_here where
      Same : ℕ → Type 0
      Same g = has m (not (nat_eq g 0)) (place_of s g) ≡ true → member_place m s.bank s.fsr (m.operand g) ≡ twin_place m (place_of s g)

      shared_here : has m (not (nat_eq f 0)) (place_of s f) ≡ true
      shared_here = sh

      at_zero : Same 0
      at_zero h =
          ap (λ g. member_place m s.bank s.fsr g) no_operand ∙ pointed_twin s.fsr hs (ap (λ a. has m false (first.indirect a)) (sym b0) ∙ h) ∙ ap (λ a. twin_place m (first.indirect a)) (sym b0)
    by false e =
        let is : place_of s f ≡ first_direct s.bank f = ap (λ b. if first.in_every_bank f then first.place 0 f else if b then first.indirect (256 * (s.bank / 4) + s.fsr) else first.place (s.bank % 4) f) e ∙ ap (λ b. if first.in_every_bank f then first.place 0 f else first.place b f) b4 in
        let sh' : has m true (first_direct s.bank f) ≡ true = ap (has m true) (sym is) ∙ ap (λ b. has m (not b) (place_of s f)) (sym e) ∙ sh in
        let t = direct_twin s.bank f hb hf e sh' in
        ap (λ b. if b then m.pointed s.fsr else m.direct (s.bank % 2) (m.operand f)) t.0 ∙ ap (λ b. m.direct b (m.operand f)) b2 ∙ t.1 ∙ ap (twin_place m) (sym is)

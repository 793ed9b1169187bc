-- Which places an operand doesn't lead to.
use Rattle.std.proofs.Common.{◌≡◌, ℕ, ◌+◌, ◌-◌, ◌*◌, ◌%◌, ◌<◌, ◌≤◌, Bool, true, false, refl, arith}
use Rattle.std.specs.Prelude.{if◌then◌else◌, nat_eq, nat_lt, nat_le, ◌&&◌}
use Rattle.std.proofs.lemmas.Bool.{cond_both, ne_eqb, leb-true, le-leb, leb-false, ltb-true, ltb-false, both_ways}
use Rattle.pic_world.specs.Registers.{is_register}
use Rattle.pic_chip.specs.State.{State, AtW, AtPc, AtPclath, AtIntcon, AtPushes, AtPops, Ram, Level}
use Rattle.pic_chip.specs.Address.{Place, Pcl, Status, Fsr, Pclath, Intcon, Pir1, Pie1, General, Device, Nothing, place, in_every_bank, operand}
use Rattle.pic_chip.specs.Act.{Act, effect}
use Rattle.depth_check.proofs.Parts.{meets}

-- what a place can be, and what is then known of the low seven bits
module _ (P : Place → Type 0) (bank low : ℕ) where
  pub place_both : (nat_eq low 2 ≡ true → P Pcl) → P Status → P Fsr → (nat_eq low 10 ≡ true → P Pclath) → (nat_eq low 11 ≡ true → P Intcon) → P Pir1 → P Pie1
      → (nat_le 0x70 low ≡ true → P (General (low - 0x20)))
      → (nat_le 0x70 low ≡ false → nat_le (if nat_lt bank 2 then 0x20 else 0x10) low ≡ true → P (General (0x60 * bank + low - 0x20)))
      → ((a : ℕ) → P (Device a)) → P Nothing → P (place bank low)
  place_both h2 h3 h4 h10 h11 hp he hh hg hd hn =
      cond_both (nat_eq low 2) _ _ P h2 (λ n2.
      cond_both (nat_eq low 3) _ _ P (λ e. h3) (λ n3.
      cond_both (nat_eq low 4) _ _ P (λ e. h4) (λ n4.
      cond_both (nat_eq low 10) _ _ P h10 (λ n10.
      cond_both (nat_eq low 11) _ _ P h11 (λ n11.
      cond_both (nat_eq low 12 && nat_lt bank 2) _ _ P (λ e. cond_both (nat_eq bank 0) _ _ P (λ e. hp) (λ e. he)) (λ n12.
      cond_both (nat_le 0x70 low) _ _ P hh (λ nh.
      cond_both (nat_le (if nat_lt bank 2 then 0x20 else 0x10) low) _ _ P (hg nh) (λ ng.
      cond_both (is_register (0x80 * bank + low)) _ _ P (λ e. hd _) (λ e. hn)))))))))

-- ---- parts that no place holds
pub no_w : (p : Place) → meets p AtW ≡ false
no_w Pcl = refl
no_w Status = refl
no_w Fsr = refl
no_w Pclath = refl
no_w Intcon = refl
no_w Pir1 = refl
no_w Pie1 = refl
no_w (General k) = refl
no_w (Device a) = refl
no_w Nothing = refl

pub no_pushes : (p : Place) → meets p AtPushes ≡ false
no_pushes Pcl = refl
no_pushes Status = refl
no_pushes Fsr = refl
no_pushes Pclath = refl
no_pushes Intcon = refl
no_pushes Pir1 = refl
no_pushes Pie1 = refl
no_pushes (General k) = refl
no_pushes (Device a) = refl
no_pushes Nothing = refl

pub no_pops : (p : Place) → meets p AtPops ≡ false
no_pops Pcl = refl
no_pops Status = refl
no_pops Fsr = refl
no_pops Pclath = refl
no_pops Intcon = refl
no_pops Pir1 = refl
no_pops Pie1 = refl
no_pops (General k) = refl
no_pops (Device a) = refl
no_pops Nothing = refl

pub no_level : (k : ℕ) (p : Place) → meets p (Level k) ≡ false
no_level k Pcl = refl
no_level k Status = refl
no_level k Fsr = refl
no_level k Pclath = refl
no_level k Intcon = refl
no_level k Pir1 = refl
no_level k Pie1 = refl
no_level k (General j) = refl
no_level k (Device a) = refl
no_level k Nothing = refl

-- ---- parts that one operand alone leads to
pub not_pc : (bank low : ℕ) → nat_eq low 2 ≡ false → meets (place bank low) AtPc ≡ false
not_pc bank low e = place_both (λ p. meets p AtPc ≡ false) bank low (λ h. absurd (both_ways _ e h)) refl refl (λ h. refl) (λ h. refl) refl refl (λ h. refl) (λ h g. refl) (λ a. refl) refl

pub not_pclath : (bank low : ℕ) → nat_eq low 10 ≡ false → meets (place bank low) AtPclath ≡ false
not_pclath bank low e = place_both (λ p. meets p AtPclath ≡ false) bank low (λ h. refl) refl refl (λ h. absurd (both_ways _ e h)) (λ h. refl) refl refl (λ h. refl) (λ h g. refl) (λ a. refl) refl

pub not_intcon : (bank low : ℕ) → nat_eq low 11 ≡ false → meets (place bank low) AtIntcon ≡ false
not_intcon bank low e = place_both (λ p. meets p AtIntcon ≡ false) bank low (λ h. refl) refl refl (λ h. refl) (λ h. absurd (both_ways _ e h)) refl refl (λ h. refl) (λ h g. refl) (λ a. refl) refl

module _ (cell : ℕ) (lo : 0x70 ≤ cell) (hi : cell < 0x80) where
  within : (bank low : ℕ) (b : Bool) → nat_lt bank 2 ≡ b → nat_le 0x70 low ≡ false → nat_le (if b then 0x20 else 0x10) low ≡ true → 0x60 * bank + low - 0x20 ≡ cell - 0x20 → ⊥
  within bank low true e h g q =
      let a = ltb-true bank 2 e in let x = leb-false 0x70 low h in let y = leb-true 0x20 low g in omega arith
  within bank low false e h g q =
      let a = ltb-false bank 2 e in let x = leb-false 0x70 low h in let y = leb-true 0x10 low g in omega arith

  pub not_cell : (bank low : ℕ) → nat_eq low cell ≡ false → (low ≡ cell → ⊥) → meets (place bank low) (Ram (cell - 0x20)) ≡ false
  not_cell bank low e ne = place_both (λ p. meets p (Ram (cell - 0x20)) ≡ false) bank low (λ h. refl) refl refl (λ h. refl) (λ h. refl) refl refl
      (λ h. let x = leb-true 0x70 low h in ne_eqb (low - 0x20) (cell - 0x20) (λ q. ne (omega arith)))
      (λ h g. ne_eqb (0x60 * bank + low - 0x20) (cell - 0x20) (λ q. within bank low (nat_lt bank 2) refl h g q))
      (λ a. refl) refl

-- an operand other than INDF leads to a place of these low seven bits
pub record Direct (s : State) (f : ℕ) : Type 0 where
  pub bank : ℕ
  pub same : (next : Place → Act) → effect (operand f next) s ≡ effect (next (place bank f)) s

pub direct : (s : State) (f : ℕ) → nat_eq f 0 ≡ false → Direct s f
direct s f nz = by (in_every_bank f) refl where
  by : (b : Bool) → in_every_bank f ≡ b → Direct s f
  by true e = record { bank = 0; same = λ next. rw e refl }
  by false e = record { bank = s.bank % 4; same = λ next. rw (e, nz) refl }

-- one of the sixteen bytes that stand in every bank
pub cell_place : (cell : ℕ) → 0x70 ≤ cell → (next : Place → Act) → operand cell next ≡ next (General (cell - 0x20))
cell_place cell lo next =
    let a2 : nat_eq cell 2 ≡ false = ne_eqb cell 2 (λ q. omega arith) in
    let a3 : nat_eq cell 3 ≡ false = ne_eqb cell 3 (λ q. omega arith) in
    let a4 : nat_eq cell 4 ≡ false = ne_eqb cell 4 (λ q. omega arith) in
    let a10 : nat_eq cell 10 ≡ false = ne_eqb cell 10 (λ q. omega arith) in
    let a11 : nat_eq cell 11 ≡ false = ne_eqb cell 11 (λ q. omega arith) in
    let a12 : nat_eq cell 12 ≡ false = ne_eqb cell 12 (λ q. omega arith) in
    let ah : nat_le 0x70 cell ≡ true = le-leb 0x70 cell lo in
    rw (a2, a3, a4, a10, a11, a12, ah) refl

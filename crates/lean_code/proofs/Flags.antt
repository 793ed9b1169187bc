-- Flags by the numbers of their bits.
use Rattle.std.proofs.Common.{◌≡◌, ℕ, Bool, true, false, if◌then◌else◌, Option, Some, None, refl, sym, ap, ◌∙◌, subst}
use Rattle.std.proofs.lemmas.Bool.{eqb-true}
use Rattle.std.specs.Prelude.{nat_eq, nat_lt}
use Rattle.std.proofs.lemmas.Option.{none-some}
use Rattle.sym_code.specs.Registers.{Registers, status_bit, with_status_bit}
use Rattle.lean_code.specs.Rows.{Apart}
use Rattle.lean_code.specs.Changes.{Alike}
use Rattle.lean_code.specs.Right.{flag_apart, with_flag}
use Rattle.lean_code.proofs.Lists.{never}
use Rattle.lean_code.proofs.Facts.{not_false}

-- both have a flag, alike, or none
abbrev pub SameFlag : Option ℕ → Option ℕ → Type 0
SameFlag None None = Unit {0}
SameFlag (Some v) (Some y) = v ≡ y
SameFlag a b = ⊥

module _ (d : Apart) (r s : Registers) (a : Alike d r s) where
  pub bit_same : (b : ℕ) → flag_apart b d ≡ false → SameFlag (status_bit r b) (status_bit s b)
  bit_same b e = by_bit (nat_eq b 0) (nat_eq b 1) (nat_eq b 2) (nat_eq b 7) e
    where
      by_bit : (c dc z irp : Bool) → (if c then d.c else if dc then d.dc else if z then d.z else false) ≡ false
          → SameFlag (if c then Some r.c else if dc then Some r.dc else if z then Some r.z else if irp then Some r.irp else None) (if c then Some s.c else if dc then Some s.dc else if z then Some s.z else if irp then Some s.irp else None)
      by_bit true dc z irp e = a.c e
      by_bit false true z irp e = a.dc e
      by_bit false false true irp e = a.z e
      by_bit false false false true e = a.irp
      by_bit false false false false e = tt

  -- both set it
  pub set_same : (b v : ℕ) (t : Registers) → with_status_bit r b v ≡ Some t → (u : Registers) × (with_status_bit s b v ≡ Some u) × Alike (with_flag b false d) t u × (t.w ≡ r.w)
  set_same b v t e = by_bit (nat_eq b 0) (nat_eq b 1) (nat_eq b 2) (nat_eq b 7) e
    where
      some_in : (p q : Registers) → Some p ≡ Some q → p ≡ q
      some_in p q e = cc

      Wanted : Option Registers → Apart → Registers → Type 0
      Wanted o f t = (u : Registers) × (o ≡ Some u) × Alike f t u × (t.w ≡ r.w)

      go : (o : Option Registers) (f : Apart) (p q : Registers) → Some p ≡ Some q → Wanted o f p → Wanted o f q
      go o f p q e x = subst (λ (z : Registers). Wanted o f z) (some_in p q e) x

      by_bit : (c dc z irp : Bool)
          → (if c then Some (record r { c = v }) else if dc then Some (record r { dc = v }) else if z then Some (record r { z = v }) else if irp then Some (record r { irp = v }) else None) ≡ Some t
          → Wanted (if c then Some (record s { c = v }) else if dc then Some (record s { dc = v }) else if z then Some (record s { z = v }) else if irp then Some (record s { irp = v }) else None) (if c then record d { c = false } else if dc then record d { dc = false } else if z then record d { z = false } else d) t
      by_bit true dc z irp e = go _ _ (record r { c = v }) t e (record s { c = v }, refl, record { w = a.w; z = a.z; dc = a.dc; c = λ k. refl; fsr = a.fsr; irp = a.irp }, refl)
      by_bit false true z irp e = go _ _ (record r { dc = v }) t e (record s { dc = v }, refl, record { w = a.w; z = a.z; dc = λ k. refl; c = a.c; fsr = a.fsr; irp = a.irp }, refl)
      by_bit false false true irp e = go _ _ (record r { z = v }) t e (record s { z = v }, refl, record { w = a.w; z = λ k. refl; dc = a.dc; c = a.c; fsr = a.fsr; irp = a.irp }, refl)
      by_bit false false false true e = go _ _ (record r { irp = v }) t e (record s { irp = v }, refl, record { w = a.w; z = a.z; dc = a.dc; c = a.c; fsr = a.fsr; irp = refl }, refl)
      by_bit false false false false e = absurd (none-some t e)

  -- one of them sets it
  pub set_alone : (b v : ℕ) (t : Registers) → nat_lt b 3 ≡ true → with_status_bit r b v ≡ Some t → Alike (with_flag b true d) t s × (t.w ≡ r.w)
  set_alone b v t l e = by_bit (nat_eq b 0) (nat_eq b 1) (nat_eq b 2) (nat_eq b 7) (below b l) e
    where
      below : (b : ℕ) → nat_lt b 3 ≡ true → nat_eq b 7 ≡ false
      below b l = not_false (nat_eq b 7) (λ e. sym (ap (λ (n : ℕ). nat_lt n 3) (eqb-true b 7 e)) ∙ l)

      some_in : (p q : Registers) → Some p ≡ Some q → p ≡ q
      some_in p q e = cc

      Wanted : Apart → Registers → Type 0
      Wanted f t = Alike f t s × (t.w ≡ r.w)

      go : (f : Apart) (p q : Registers) → Some p ≡ Some q → Wanted f p → Wanted f q
      go f p q e x = subst (λ (z : Registers). Wanted f z) (some_in p q e) x

      by_bit : (c dc z irp : Bool) → irp ≡ false
          → (if c then Some (record r { c = v }) else if dc then Some (record r { dc = v }) else if z then Some (record r { z = v }) else if irp then Some (record r { irp = v }) else None) ≡ Some t
          → Wanted (if c then record d { c = true } else if dc then record d { dc = true } else if z then record d { z = true } else d) t
      by_bit true dc z irp i e = go _ (record r { c = v }) t e (record { w = a.w; z = a.z; dc = a.dc; c = λ k. never (sym k); fsr = a.fsr; irp = a.irp }, refl)
      by_bit false true z irp i e = go _ (record r { dc = v }) t e (record { w = a.w; z = a.z; dc = λ k. never (sym k); c = a.c; fsr = a.fsr; irp = a.irp }, refl)
      by_bit false false true irp i e = go _ (record r { z = v }) t e (record { w = a.w; z = λ k. never (sym k); dc = a.dc; c = a.c; fsr = a.fsr; irp = a.irp }, refl)
      by_bit false false false true i e = never (sym i)
      by_bit false false false false i e = absurd (none-some t e)

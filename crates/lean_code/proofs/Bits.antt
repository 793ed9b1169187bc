-- Flags that instructions write are 0 or 1.
use Rattle.std.proofs.Common.{◌≡◌, ℕ, Bool, true, false, if◌then◌else◌, Some, None, subst, arith}
use Rattle.std.specs.Prelude.{nat_eq, ◌<◌}
use Rattle.std.proofs.lemmas.Option.{none-some}
use Rattle.pic_world.specs.Bits.{truth}
use Rattle.sym_code.specs.Registers.{Registers, flags_with, literal_row, after_row, with_status_bit}
use Rattle.sym_code.specs.declared.code.FileOperation.{FileOperation}
use Rattle.sym_code.specs.declared.code.FileOperation.TheVariants as files
use Rattle.sym_code.specs.declared.code.LiteralOperation.{LiteralOperation}
use Rattle.sym_code.specs.declared.code.LiteralOperation.TheVariants as literals
use Rattle.lean_code.specs.Changes.{flags_in}
use Rattle.lean_code.proofs.Lists.{never}

pub truth_small : (b : Bool) → truth b < 2
truth_small true = omega arith
truth_small false = omega arith

-- ---- operations on a byte
pub carry_set : (op : FileOperation) (r : Registers) (v : ℕ) → (flags_in op).c ≡ true → (flags_with r op v).c < 2
unfolding flags_with
carry_set files.Addwf r v e = truth_small _
carry_set files.Subwf r v e = truth_small _
carry_set files.Rlf r v e = omega arith
carry_set files.Rrf r v e = omega arith
carry_set op r v e = never e

pub zero_set : (op : FileOperation) (r : Registers) (v : ℕ) → (flags_in op).z ≡ true → (flags_with r op v).z < 2
unfolding flags_with
zero_set files.Addwf r v e = truth_small _
zero_set files.Subwf r v e = truth_small _
zero_set files.Andwf r v e = truth_small _
zero_set files.Iorwf r v e = truth_small _
zero_set files.Xorwf r v e = truth_small _
zero_set files.Comf r v e = truth_small _
zero_set files.Decf r v e = truth_small _
zero_set files.Incf r v e = truth_small _
zero_set files.Movf r v e = truth_small _
zero_set op r v e = never e

pub carry_stays : (op : FileOperation) (r : Registers) (v : ℕ) → r.c < 2 → (flags_with r op v).c < 2
unfolding flags_with
carry_stays files.Addwf r v e = truth_small _
carry_stays files.Subwf r v e = truth_small _
carry_stays files.Rlf r v e = omega arith
carry_stays files.Rrf r v e = omega arith
carry_stays op r v e = e

pub zero_stays_bit : (op : FileOperation) (r : Registers) (v : ℕ) → r.z < 2 → (flags_with r op v).z < 2
unfolding flags_with
zero_stays_bit files.Rlf r v e = e
zero_stays_bit files.Rrf r v e = e
zero_stays_bit files.Decfsz r v e = e
zero_stays_bit files.Incfsz r v e = e
zero_stays_bit files.Swapf r v e = e
zero_stays_bit op r v e = truth_small _

-- ---- operations on a number
pub literal_carry : (op : LiteralOperation) (r : Registers) (k : ℕ) → r.c < 2 → (after_row (literal_row op k) r).c < 2
unfolding after_row
literal_carry literals.Addlw r k e = truth_small _
literal_carry literals.Sublw r k e = truth_small _
literal_carry op r k e = e

pub literal_zero : (op : LiteralOperation) (r : Registers) (k : ℕ) → r.z < 2 → (after_row (literal_row op k) r).z < 2
unfolding after_row
literal_zero literals.Movlw r k e = e
literal_zero literals.Retlw r k e = e
literal_zero op r k e = truth_small _

-- ---- flags by the numbers of their bits
some_in : (p q : Registers) → Some p ≡ Some q → p ≡ q
some_in p q e = cc

pub status_carry : (r : Registers) (b v : ℕ) (t : Registers) → v < 2 → with_status_bit r b v ≡ Some t → r.c < 2 → t.c < 2
status_carry r b v t small e same = by_bit (nat_eq b 0) (nat_eq b 1) (nat_eq b 2) (nat_eq b 7) e
  where
    go : (p : Registers) → Some p ≡ Some t → p.c < 2 → t.c < 2
    go p e is = subst (λ (z : Registers). z.c < 2) (some_in p t e) is

    by_bit : (c dc z irp : Bool) → (if c then Some (record r { c = v }) else if dc then Some (record r { dc = v }) else if z then Some (record r { z = v }) else if irp then Some (record r { irp = v }) else None) ≡ Some t → t.c < 2
    by_bit true dc z irp e = go (record r { c = v }) e small
    by_bit false true z irp e = go (record r { dc = v }) e same
    by_bit false false true irp e = go (record r { z = v }) e same
    by_bit false false false true e = go (record r { irp = v }) e same
    by_bit false false false false e = absurd (none-some t e)

pub status_zero : (r : Registers) (b v : ℕ) (t : Registers) → v < 2 → with_status_bit r b v ≡ Some t → r.z < 2 → t.z < 2
status_zero r b v t small e same = by_bit (nat_eq b 0) (nat_eq b 1) (nat_eq b 2) (nat_eq b 7) e
  where
    go : (p : Registers) → Some p ≡ Some t → p.z < 2 → t.z < 2
    go p e is = subst (λ (z : Registers). z.z < 2) (some_in p t e) is

    by_bit : (c dc z irp : Bool) → (if c then Some (record r { c = v }) else if dc then Some (record r { dc = v }) else if z then Some (record r { z = v }) else if irp then Some (record r { irp = v }) else None) ≡ Some t → t.z < 2
    by_bit true dc z irp e = go (record r { c = v }) e same
    by_bit false true z irp e = go (record r { dc = v }) e same
    by_bit false false true irp e = go (record r { z = v }) e small
    by_bit false false false true e = go (record r { irp = v }) e same
    by_bit false false false false e = absurd (none-some t e)

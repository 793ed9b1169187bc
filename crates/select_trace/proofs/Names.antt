-- The thread's own bytes by name: no access of one is an event, and two names are two bytes.
use Rattle.std.proofs.Common.{◌≡◌, ℕ, ◌+◌, ◌<◌, ◌≤◌, Bool, true, false, Option, Some, refl, ap, sym, ◌∙◌, subst, arith}
use Rattle.pic_chip.specs.Address as chip
use Rattle.pic_world.specs.declared.Root.{Root}
use Rattle.pic_world.specs.declared.Root.TheVariants.{Main, Isr}
use Rattle.core_code.specs.Bytes.{is_private}
use Rattle.core_code.specs.declared.code.Byte.{Byte}
use Rattle.core_code.specs.declared.code.Byte.TheVariants.{Static, Frame, Result, Device}
use Rattle.sym_code.specs.Effect.{Setting, Silent, access_of, access_by, general_access, root_of}
use Rattle.sym_code.specs.Layout.{DataLayout, Owner, Of, owner, frame, address_of, result_address, general_at}
use Rattle.sym_code.specs.Registers.{Registers}
use Rattle.sym_code.specs.declared.code.Operand.TheVariants as operands
use Rattle.select_trace.specs.Silent.{number_at, OwnsBytes, IsQuiet, AreQuiet, IsIn}
use Rattle.select_trace.proofs.Places.{is_place, Stands, stands, whole_byte, whole_apart, result_place}

-- one of the own bytes
abbrev pub IsOwnOne : Bool → ℕ → ℕ → Byte → Type 0
IsOwnOne inside copy size byte = IsIn (root_of inside) copy size byte 1

result_at : (root : Root) (n : ℕ) → n < 4 → (0x70 ≤ result_address root + n) × (result_address root + n < 0x78)
result_at Main n lt = (omega arith, omega arith)
result_at Isr n lt = (omega arith, omega arith)

pub own_place : (g : Setting) (inside : Bool) (copy size : ℕ) → OwnsBytes g inside copy size → (byte : Byte) → IsOwnOne inside copy size byte → is_place (address_of g.program.layout byte) ≡ true
unfolding address_of
own_place g inside copy size own (Frame c offset) (same, le) =
    subst (λ (d : ℕ). is_place ((frame g.program.layout d).address + offset) ≡ true) (sym same) (whole_byte (frame g.program.layout copy).address size offset own.whole (omega arith))
own_place g inside copy size own (Result root n) (same, le) = let h = result_at root n (omega arith) in result_place (result_address root + n) h.0 h.1
own_place g inside copy size own (Static object offset) h = absurd h
own_place g inside copy size own (Device address) h = absurd h

pub own_stands : (g : Setting) (inside : Bool) (copy size : ℕ) → OwnsBytes g inside copy size → (byte : Byte) → IsOwnOne inside copy size byte → Stands (address_of g.program.layout byte)
own_stands g inside copy size own byte h = stands (address_of g.program.layout byte) (own_place g inside copy size own byte h)

pub own_owner : (g : Setting) (inside : Bool) (copy size : ℕ) → OwnsBytes g inside copy size → (byte : Byte) → IsOwnOne inside copy size byte → owner g.program.layout (number_at g.program.layout byte) ≡ Of (root_of inside)
own_owner g inside copy size own (Frame c offset) (same, le) =
    own.own offset (number_at g.program.layout (Frame c offset)) (omega arith)
    (subst (λ (d : ℕ). general_at (address_of g.program.layout (Frame d offset)) ≡ Some (number_at g.program.layout (Frame c offset))) same (own_stands g inside copy size own (Frame c offset) (same, le)).is)
own_owner g inside copy size own (Result root n) (same, le) =
    own.results n (number_at g.program.layout (Result root n)) (omega arith)
    (subst (λ (r : Root). general_at (address_of g.program.layout (Result r n)) ≡ Some (number_at g.program.layout (Result root n))) same (own_stands g inside copy size own (Result root n) (same, le)).is)
own_owner g inside copy size own (Static object offset) h = absurd h
own_owner g inside copy size own (Device address) h = absurd h

access_own : (inside writes : Bool) (k : ℕ) (o : Owner) → o ≡ Of (root_of inside) → access_by inside writes k o ≡ Silent k
access_own true writes k o e = ap (access_by true writes k) e
access_own false writes k o e = ap (access_by false writes k) e

access_at : (l : DataLayout) (inside writes : Bool) (o : Option ℕ) (k : ℕ) → o ≡ Some k → owner l k ≡ Of (root_of inside) → general_access l inside writes o ≡ Silent k
access_at l inside writes o k e f = ap (general_access l inside writes) e ∙ access_own inside writes k (owner l k) f

-- no access is an event
pub silent : (g : Setting) (inside : Bool) (P : Byte → Type 0) → AreQuiet g inside P → (writes : Bool) (r : Registers) (byte : Byte) → P byte →
    access_of g inside writes r (operands.Byte byte) ≡ Silent (number_at g.program.layout byte)
unfolding access_of
silent g inside P all writes r byte h = by byte (all.quiet byte h)
  where
    by : (byte : Byte) → IsQuiet g inside byte → access_of g inside writes r (operands.Byte byte) ≡ Silent (number_at g.program.layout byte)
    by (Frame c offset) q = rw all.banks (access_at g.program.layout inside writes (general_at (address_of g.program.layout (Frame c offset))) (number_at g.program.layout (Frame c offset)) q.stands q.own)
    by (Result root n) q = rw all.banks (access_at g.program.layout inside writes (general_at (address_of g.program.layout (Result root n))) (number_at g.program.layout (Result root n)) q.stands q.own)
    by (Static object offset) q = absurd (never q.place)
      where
        never : false ≡ true → ⊥
        never e = cc
    by (Device address) q = absurd (never q.place)
      where
        never : false ≡ true → ⊥
        never e = cc

-- the own bytes are such bytes
pub own_quiet : (g : Setting) (inside : Bool) (copy size : ℕ) → OwnsBytes g inside copy size → AreQuiet g inside (IsOwnOne inside copy size)
own_quiet g inside copy size own = record { banks = own.banks; quiet = λ byte h. record { place = private byte h; stands = (own_stands g inside copy size own byte h).is; own = own_owner g inside copy size own byte h } }
  where
    private : (byte : Byte) → IsOwnOne inside copy size byte → is_private byte ≡ true
    private (Frame c offset) h = refl
    private (Result root n) h = refl
    private (Static object offset) h = absurd h
    private (Device address) h = absurd h

-- two names of one byte have one address
same_address : (g : Setting) (inside : Bool) (copy size : ℕ) → OwnsBytes g inside copy size → (a b : Byte) → IsOwnOne inside copy size a → IsOwnOne inside copy size b →
    number_at g.program.layout a ≡ number_at g.program.layout b → address_of g.program.layout a ≡ address_of g.program.layout b
same_address g inside copy size own a b h k e = sym (own_stands g inside copy size own a h).back ∙ ap chip.address_of e ∙ (own_stands g inside copy size own b k).back

-- and are one
pub same_name : (g : Setting) (inside : Bool) (copy size : ℕ) → OwnsBytes g inside copy size → (a b : Byte) → IsOwnOne inside copy size a → IsOwnOne inside copy size b →
    number_at g.program.layout a ≡ number_at g.program.layout b → a ≡ b
unfolding address_of
same_name g inside copy size own a b h k e = by a b h k (same_address g inside copy size own a b h k e)
  where
    apart : (c offset n : ℕ) (root : Root) → IsOwnOne inside copy size (Frame c offset) → IsOwnOne inside copy size (Result root n) → (frame g.program.layout c).address + offset ≡ result_address root + n → ⊥
    apart c offset n root h k e =
        let f : (frame g.program.layout copy).address + offset ≡ result_address root + n = ap (λ (d : ℕ). (frame g.program.layout d).address + offset) (sym h.0) ∙ e in
        let r = result_at root n (let x : n + 1 ≤ 4 = k.1 in omega arith) in
        whole_apart (frame g.program.layout copy).address size offset (result_address root + n) own.whole (let x : offset + 1 ≤ size = h.1 in omega arith) r.0 r.1 f

    by : (a b : Byte) → IsOwnOne inside copy size a → IsOwnOne inside copy size b → address_of g.program.layout a ≡ address_of g.program.layout b → a ≡ b
    by (Frame c offset) (Frame d other) h k e =
        let same : c ≡ d = h.0 ∙ sym k.0 in
        let f : (frame g.program.layout d).address + offset ≡ (frame g.program.layout d).address + other = ap (λ (x : ℕ). (frame g.program.layout x).address + offset) (sym same) ∙ e in
        let o : offset ≡ other = omega arith in
        ap (λ (x : ℕ). Frame x offset) same ∙ ap (λ (x : ℕ). Frame d x) o
    by (Frame c offset) (Result root n) h k e = absurd (apart c offset n root h k e)
    by (Result root n) (Frame c offset) h k e = absurd (apart c offset n root k h (sym e))
    by (Result root n) (Result other m) h k e =
        let same : root ≡ other = h.0 ∙ sym k.0 in
        let f : result_address other + n ≡ result_address other + m = ap (λ (x : Root). result_address x + n) (sym same) ∙ e in
        let o : n ≡ m = omega arith in
        ap (λ (x : Root). Result x n) same ∙ ap (λ (x : ℕ). Result other x) o
    by (Static object offset) b h k e = absurd h
    by (Device address) b h k e = absurd h
    by a (Static object offset) h k e = absurd k
    by a (Device address) h k e = absurd k

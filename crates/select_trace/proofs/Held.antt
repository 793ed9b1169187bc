-- Values of byte code, by the numbers that their bytes make in symbolic code.
use Rattle.std.proofs.Common.{◌≡◌, ℕ, zero, suc, ◌+◌, ◌*◌, ◌/◌, ◌%◌, ◌^◌, ◌<◌, Bool, true, false, Option, Some, None, option_map, refl, sym, ap, ◌∙◌, subst, arith, pos}
use Rattle.std.specs.Prelude.{nat_eq}
use Rattle.std.proofs.lemmas.Bool.{eqb-true}
use Rattle.c_ints.specs.Operators.{cut_to}
use Rattle.c_ints.specs.Quantity.{Quantity}
use Rattle.c_ints.specs.Range.{bytes_of, pattern}
use Rattle.c_ints.specs.declared.types.IntTy.{IntTy}
use Rattle.core_code.specs.Bytes as bytes
use Rattle.core_code.specs.Bytes.{Held, Unset, Part, Place, behind, byte_in}
use Rattle.core_code.specs.Values.{Value, Number, Pointer, byte_of, number_in, with_low, joined, pointer_in, pointer_if, or_number, value_in}
use Rattle.core_code.specs.declared.code.Byte.{Byte}
use Rattle.math_helpers.specs.Wanted.{byte_at}
use Rattle.sym_code.specs.Effect.{Memory}
use Rattle.sym_code.specs.Layout.{address_of, shown}
use Rattle.select_trace.proofs.Placed.{slot}
use Rattle.select_trace.proofs.Sites.{Site, layout}
use Rattle.select_trace.proofs.Memory.{Shown, InPlace}
use Rattle.select_trace.proofs.Tests.{behind_more, behind_none, pointer_parts, pointer_address}
use Rattle.select_trace.specs.Operators.{number_from}
use Rattle.select_trace.specs.Silent.{number_at}
use Rattle.select_trace.specs.Values.{val}
use Rattle.select_trace.proofs.ShiftRight.{val_front}
use Rattle.select_trace.proofs.Vals.{val_same}
use Rattle.select_trace.proofs.Setup.{slot_is}

some_nat : {a b : ℕ} → Some a ≡ Some b → a ≡ b
some_nat e = cc

some_value : {a b : Value} → Some a ≡ Some b → a ≡ b
some_value e = cc

-- ---- numbers
low : (s : Site) (h : Held) (o : Option ℕ) (n v : ℕ) → Shown s h v → with_low h o ≡ Some n → (x : ℕ) × (o ≡ Some x) × (n ≡ v + 256 * x)
low s (bytes.Number k) (Some x) n v sh e = (x, refl, sym (some_nat e) ∙ ap (λ z. z + 256 * x) (sym sh))
low s (bytes.Number k) None n v sh e = absurd (cc)
low s Unset o n v sh e = absurd (cc)
low s (Part object offset high) o n v sh e = absurd (cc)

pub number_is : (s : Site) (cm : bytes.Memory) (x : Byte) (w n : ℕ) (v : ℕ → ℕ) → ((j : ℕ) → j < w → Shown s (cm (behind x j)) (v j)) → number_in cm x w ≡ Some n → n ≡ val v w
number_is s cm x zero n v sh e = sym (some_nat e)
number_is s cm x (suc w) n v sh e =
    let first : Shown s (cm x) (v 0) = subst (λ z. Shown s (cm z) (v 0)) (behind_none x) (sh 0 (omega arith)) in
    let p = low s (cm x) (number_in cm (behind x 1) w) n (v 0) first e in
    let more : p.0 ≡ val (λ j. v (suc j)) w = number_is s cm (behind x 1) w p.0 (λ j. v (suc j)) (λ j lt. subst (λ z. Shown s (cm z) (v (suc j))) (sym (behind_more x 1 j ∙ ap (behind x) (let f : 1 + j ≡ suc j = omega arith in f))) (sh (suc j) (omega arith))) p.1 in
    p.2 ∙ ap (λ z. v 0 + 256 * z) more ∙ sym (val_front v w)

-- a pointer that two bytes hold
pub record IsPointer (cm : bytes.Memory) (x : Byte) (p : Place) : Type 0 where
  pub low : cm x ≡ Part p.object p.offset false
  pub high : cm (behind x 1) ≡ Part p.object p.offset true

pub data Kind (ty : IntTy) (cm : bytes.Memory) (x : Byte) (a : Value) : Type 0 where
  Counts : (n : ℕ) → number_in cm x (bytes_of ty) ≡ Some n → a ≡ Number (cut_to ty (pos n)) → Kind ty cm x a
  Points : (p : Place) → bytes_of ty ≡ 2 → IsPointer cm x p → a ≡ Pointer p → Kind ty cm x a

pub kind : (ty : IntTy) (cm : bytes.Memory) (x : Byte) (a : Value) → value_in ty cm x ≡ Some a → Kind ty cm x a
unfolding value_in pointer_in
kind ty cm x a e = by (nat_eq (bytes_of ty) 2) refl e
  where
    numbers : (o : Option ℕ) → number_in cm x (bytes_of ty) ≡ o → option_map (λ n. Number (cut_to ty (pos n))) o ≡ Some a → Kind ty cm x a
    numbers None q e = absurd (cc)
    numbers (Some n) q e = Counts n q (sym (some_value e))

    pointers : (o : Option Place) → joined (cm x) (cm (behind x 1)) ≡ o → nat_eq (bytes_of ty) 2 ≡ true → or_number o (option_map (λ n. Number (cut_to ty (pos n))) (number_in cm x (bytes_of ty))) ≡ Some a → Kind ty cm x a
    pointers None j q e = numbers (number_in cm x (bytes_of ty)) refl e
    pointers (Some p) j q e = let z = pointer_parts (cm x) (cm (behind x 1)) p j in Points p (eqb-true (bytes_of ty) 2 q) (record { low = z.0; high = z.1 }) (sym (some_value e))

    by : (b : Bool) → nat_eq (bytes_of ty) 2 ≡ b → or_number (pointer_if b cm x) (option_map (λ n. Number (cut_to ty (pos n))) (number_in cm x (bytes_of ty))) ≡ Some a → Kind ty cm x a
    by true q e = pointers (joined (cm x) (cm (behind x 1))) refl q e
    by false q e = numbers (number_in cm x (bytes_of ty)) refl e

-- the address that a pointer shows
abbrev pub target : Site → Place → ℕ
target s p = address_of (layout s) (byte_in p.object p.offset)

pub record Aims (s : Site) (p : Place) (n : ℕ) : Type 0 where
  pub is : n ≡ target s p
  pub place : InPlace s (Part p.object p.offset false)
  pub above : 0 < target s p
  pub below : target s p < 512

pub aims : (s : Site) (cm : bytes.Memory) (x : Byte) (p : Place) (v : ℕ → ℕ) → ((j : ℕ) → j < 2 → Shown s (cm (behind x j)) (v j)) → IsPointer cm x p → Aims s p (val v 2)
unfolding shown
aims s cm x p v sh h =
    let a : Shown s (Part p.object p.offset false) (v 0) = subst (λ z. Shown s z (v 0)) (ap cm (behind_none x) ∙ h.low) (sh 0 (omega arith)) in
    let b : Shown s (Part p.object p.offset true) (v 1) = subst (λ z. Shown s z (v 1)) h.high (sh 1 (omega arith)) in
    let r = pointer_address s p.object p.offset false a.1 in
    record { is = put (v 0) (v 1) (target s p) a.0 b.0 r.1; place = a.1; above = r.0; below = r.1 }
  where
    put : (x y t : ℕ) → x ≡ t % 256 → y ≡ t / 256 % 2 → t < 512 → 0 + 256 ^ 0 * x + 256 ^ 1 * y ≡ t
    put x y t e f lt = omega arith

-- ---- what an answer shows
pub shows_number : (s : Site) (q : Quantity) (a : ℕ) → a ≡ pattern q.ty q.number → (k : ℕ) → Shown s (byte_of (Number q) k) (byte_at a k)
shows_number s q a e k = ap (λ n. byte_at n k) e

pub shows_pointer : (s : Site) (p : Place) (a : ℕ) → a ≡ target s p → InPlace s (Part p.object p.offset false) → (k : ℕ) → k < 2 → Shown s (byte_of (Pointer p) k) (byte_at a k)
unfolding shown
shows_pointer s p a e h zero lt = ((let f : a / 256 ^ 0 % 256 ≡ a % 256 = one a in f) ∙ ap (λ n. n % 256) e, h)
  where
    one : (n : ℕ) → n / 256 ^ 0 % 256 ≡ n % 256
    one n = omega arith
shows_pointer s p a e h (suc zero) lt =
    let r : target s p < 512 = (pointer_address s p.object p.offset false h).1 in
    (ap (λ n. byte_at n 1) e ∙ two (target s p) r, h)
  where
    two : (n : ℕ) → n < 512 → n / 256 ^ 1 % 256 ≡ n / 256 % 2
    two n lt = omega arith
shows_pointer s p a e h (suc (suc k)) lt = absurd (omega arith)

-- the number that the bytes make
pub num_is : (s : Site) (m : Memory) (x : Byte) (w : ℕ) → val (λ j. m (slot (layout s) (behind x j))) w ≡ number_from (layout s) m x w
num_is s m x w = val_same (λ j. m (slot (layout s) (behind x j))) (λ k. m (number_at (layout s) (behind x k))) w (λ j lt. ap m (slot_is (layout s) (behind x j)))

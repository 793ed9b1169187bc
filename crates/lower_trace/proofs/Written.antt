-- Bytes of memory behind a write of several ones.
use Rattle.std.proofs.Common.{◌≡◌, ℕ, zero, suc, ◌+◌, ◌<◌, ◌≤◌, ◌⊎◌, inl, inr, Bool, true, false, ◌&&◌, if◌then◌else◌, nat_eq, refl, sym, ap, ◌∙◌, ⊎_elim, arith}
use Rattle.std.proofs.lemmas.Bool.{cases_lt}
use Rattle.std.proofs.lemmas.Grind.{common_steps}
use Rattle.core_code.specs.Bytes.{Held, Memory, same_byte, with_bytes}
use Rattle.core_code.specs.declared.code.Byte.{Byte}
use Rattle.core_code.specs.declared.code.Byte.TheVariants.{Static, Frame, Result, Device}
use Rattle.pic_world.specs.Roots.{same_root}
use Rattle.pic_world.specs.declared.Root.{Root}
use Rattle.pic_world.specs.declared.Root.TheVariants.{Main, Isr}

pub nat_same : (a : ℕ) → nat_eq a a ≡ true
nat_same a = grind (arith, common_steps)

pub nat_apart : (a b : ℕ) → ((a < b) ⊎ (b < a)) → nat_eq a b ≡ false
nat_apart a b h = grind (arith, common_steps)

pub same_nat : (a b : ℕ) → nat_eq a b ≡ true → a ≡ b
same_nat a b e = grind (arith, common_steps)

pub and_left : (a b : Bool) → (a && b) ≡ true → a ≡ true
and_left true b e = refl
and_left false b e = e

pub and_right : (a b : Bool) → (a && b) ≡ true → b ≡ true
and_right true b e = e
and_right false b e = absurd (cc)

pub both : (a b : Bool) → a ≡ true → b ≡ true → (a && b) ≡ true
both a b e d = rw (e, d) refl

pub and_false : (a b : Bool) → b ≡ false → (a && b) ≡ false
and_false true b e = e
and_false false b e = refl

pub root_same : (r : Root) → same_root r r ≡ true
root_same Main = refl
root_same Isr = refl

pub byte_same : (x : Byte) → same_byte x x ≡ true
byte_same (Static n j) = rw (nat_same n, nat_same j) refl
byte_same (Frame c j) = rw (nat_same c, nat_same j) refl
byte_same (Result r j) = rw (root_same r, nat_same j) refl
byte_same (Device a) = nat_same a

-- the byte lies apart from so many bytes of a frame
abbrev pub IsClear : ℕ → ℕ → ℕ → Byte → Type 0
IsClear c b n (Frame d y) = ((d < c) ⊎ (c < d)) ⊎ ((y < b) ⊎ (b + n ≤ y))
IsClear c b n _ = Unit {0}

frame_apart : (c b n d y : ℕ) → ((d < c) ⊎ (c < d)) ⊎ ((y < b) ⊎ (b + suc n ≤ y)) → (nat_eq d c && nat_eq y (b + n)) ≡ false
frame_apart c b n d y (inl h) = let e : nat_eq d c ≡ false = nat_apart d c h in rw e refl
frame_apart c b n d y (inr (inl h)) = and_false _ _ (nat_apart y (b + n) (inl (omega arith)))
frame_apart c b n d y (inr (inr h)) = and_false _ _ (nat_apart y (b + n) (inr (omega arith)))

last_apart : (c b n : ℕ) (x : Byte) → IsClear c b (suc n) x → same_byte x (Frame c (b + n)) ≡ false
last_apart c b n (Static i j) h = refl
last_apart c b n (Frame d y) h = frame_apart c b n d y h
last_apart c b n (Result r j) h = refl
last_apart c b n (Device a) h = refl

fewer_clear : (c b n : ℕ) (x : Byte) → IsClear c b (suc n) x → IsClear c b n x
fewer_clear c b n (Static i j) h = tt
fewer_clear c b n (Frame d y) (inl h) = inl h
fewer_clear c b n (Frame d y) (inr (inl h)) = inr (inl h)
fewer_clear c b n (Frame d y) (inr (inr h)) = inr (inr (omega arith))
fewer_clear c b n (Result r j) h = tt
fewer_clear c b n (Device a) h = tt

pub off : (b : Bool) (u v : Held) → b ≡ false → (if b then u else v) ≡ v
off b u v e = rw e refl

pub on : (b : Bool) (u v : Held) → b ≡ true → (if b then u else v) ≡ u
on b u v e = rw e refl

pub bytes_clear : (m : Memory) (c b n : ℕ) (h : ℕ → Held) (x : Byte) → IsClear c b n x → with_bytes m (Frame c b) n h x ≡ m x
bytes_clear m c b zero h x k = refl
bytes_clear m c b (suc n) h x k = off (same_byte x (Frame c (b + n))) (h n) (with_bytes m (Frame c b) n h x) (last_apart c b n x k) ∙ bytes_clear m c b n h x (fewer_clear c b n x k)

pub bytes_there : (m : Memory) (c b n : ℕ) (h : ℕ → Held) (i : ℕ) → i < n → with_bytes m (Frame c b) n h (Frame c (b + i)) ≡ h i
bytes_there m c b zero h i lt = absurd (omega arith)
bytes_there m c b (suc n) h i lt =
    ⊎_elim
    (λ l. off (same_byte (Frame c (b + i)) (Frame c (b + n))) (h n) (with_bytes m (Frame c b) n h (Frame c (b + i))) (and_false _ _ (nat_apart (b + i) (b + n) (inl (omega arith)))) ∙ bytes_there m c b n h i l)
    (λ ge.
    let q : i ≡ n = omega arith in
    let e : (b + i) ≡ (b + n) = omega arith in
    on (same_byte (Frame c (b + i)) (Frame c (b + n))) (h n) (with_bytes m (Frame c b) n h (Frame c (b + i))) (both _ _ (nat_same c) (ap (λ y. nat_eq y (b + n)) e ∙ nat_same (b + n)))
    ∙ ap h (sym q))
    (cases_lt i n)

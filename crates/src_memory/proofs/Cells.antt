-- An object that gets bytes, among others.
use Rattle.std.proofs.Common.{◌≡◌, ◌≢◌, ℕ, zero, suc, ◌+◌, Bool, true, false, nat_eq, nat_lt, if◌then◌else◌, ◌<◌, List, [], ◌∷◌, ◌++◌, length, map, take, drop, refl, ap, ◌∙◌, arith}
use Rattle.std.specs.Prelude.{slice_get, slice_set, option_map, Option, Some, None}
use Rattle.std.proofs.lemmas.List.{length-set}
use Rattle.std.proofs.lemmas.Option.{slice_get-map, slice_get_past}
use Rattle.src_memory.specs.Cells.{Cell, put_cell, cleared_cell, byte_or, byte_at, unset}
use Rattle.src_memory.specs.Shape.{IsAlike}
use Rattle.src_memory.proofs.Tests.{by_eq, by_lt}
use Rattle.src_values.specs.declared.objects.Byte.{Byte}
use Rattle.src_values.specs.declared.objects.Byte.TheVariants.{Unset}

-- ---- lists
pub get_set_same : {X : Type 0} (xs : List X) (n : ℕ) (c : X) → n < length xs → slice_get (slice_set xs n c) n ≡ Some c
get_set_same [] n c h = absurd (omega arith)
get_set_same (x ∷ xs) zero c h = refl
get_set_same (x ∷ xs) (suc n) c h = get_set_same xs n c (omega arith)

pub get_set_other : {X : Type 0} (xs : List X) (n k : ℕ) (c : X) → k ≢ n → slice_get (slice_set xs n c) k ≡ slice_get xs k
get_set_other [] n k c h = refl
get_set_other (x ∷ xs) zero zero c h = absurd (h refl)
get_set_other (x ∷ xs) zero (suc k) c h = refl
get_set_other (x ∷ xs) (suc n) zero c h = refl
get_set_other (x ∷ xs) (suc n) (suc k) c h = get_set_other xs n k c (λ e. h (ap suc e))

-- ---- bytes
-- the byte at a place, where one was put
pub byte_put : (xs : List Byte) (k at : ℕ) (b : Byte) → byte_or (slice_get (slice_set xs k b) at) ≡ if nat_lt at (length xs) then (if nat_eq at k then b else byte_or (slice_get xs at)) else Unset
byte_put xs k at b = by_lt at (length xs) (if nat_eq at k then b else byte_or (slice_get xs at)) Unset (byte_or (slice_get (slice_set xs k b) at))
    (λ h. by_eq at k b (byte_or (slice_get xs at)) (byte_or (slice_get (slice_set xs k b) at))
    (λ e. ap (λ n. byte_or (slice_get (slice_set xs k b) n)) e ∙ ap byte_or (get_set_same xs k b (omega arith)))
    (λ e. ap byte_or (get_set_other xs k at b e)))
    (λ h. let l = length-set xs k b in ap byte_or (slice_get_past (slice_set xs k b) at (omega arith)))

-- no byte has a value, in a list whose front has none already
pub unset_more : (xs : List Byte) (i : ℕ) → i < length xs → slice_set (map unset (take i xs) ++ drop i xs) i Unset ≡ map unset (take (i + 1) xs) ++ drop (i + 1) xs
unset_more [] i h = absurd (omega arith)
unset_more (x ∷ xs) zero h = refl
unset_more (x ∷ xs) (suc i) h =
    ap (λ ys. Unset ∷ ys) (unset_more xs i (omega arith)) ∙ ap (λ n. map unset (take n (x ∷ xs)) ++ drop n (x ∷ xs)) (next i)
  where
    next : (n : ℕ) → suc (n + 1) ≡ suc n + 1
    next n = omega arith

unset_or : (x : Option Byte) → byte_or (option_map unset x) ≡ Unset
unset_or None = refl
unset_or (Some b) = refl

pub byte_cleared : (b : Bool) (c : Cell) (at : ℕ) → byte_at (if b then cleared_cell c else c) at ≡ if b then Unset else byte_at c at
byte_cleared true c at = ap byte_or (slice_get-map unset c.bytes at) ∙ unset_or (slice_get c.bytes at)
byte_cleared false c at = refl

-- ---- what stays
pub alike : (f : Cell → Cell) → ((c : Cell) → IsAlike (f c) c) → (b : Bool) (c : Cell) → IsAlike (if b then f c else c) c
alike f h true c = h c
alike f h false c = record { size = refl; address = refl; watched = refl }

pub alike_put : (offset : ℕ) (b : Byte) (c : Cell) → IsAlike (put_cell c offset b) c
alike_put offset b c = record { size = length-set c.bytes offset b; address = refl; watched = refl }

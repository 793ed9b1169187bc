-- Bounds of a certificate's routines.
use Rattle.std.proofs.Common.{◌≡◌, ℕ, zero, suc, ◌+◌, ◌<◌, ◌≤◌, Bool, true, false, List, [], ◌∷◌, length, inl, inr, refl, ap, subst, arith}
use Rattle.std.specs.Prelude.{nat_eq, nat_lt, slice_set}
use Rattle.std.proofs.lemmas.Bool.{and_from, eqb-true, eqb-false, cond_both}
use Rattle.depth_check.specs.declared.Row.{Row}
use Rattle.depth_check.specs.declared.Routine.{Routine}
use Rattle.depth_check.specs.Certificate.{Certificate}
use Rattle.depth_check.specs.Valid.{routine_in, instruction, call_height, greater, height_in, height, routine_holds, routines_hold}
use Rattle.depth_check.proofs.Threads.{In}

pub greater_least : (a b m : ℕ) → a ≤ m → b ≤ m → greater a b ≤ m
greater_least a b m x y = cond_both (nat_lt a b) b a (λ z. z ≤ m) (λ e. y) (λ e. x)

pub height_least : (image : List ℕ) (d : Certificate) (n best m : ℕ) (rows : List Row) → best ≤ m → ((r : Row) → In r rows → nat_eq r.routine n ≡ true → call_height d r (instruction image r) ≤ m) → height image d n best rows ≤ m
height_least image d n best m [] le f = le
height_least image d n best m (x ∷ rows) le f = height_least image d n (greater best (height_in n d x (instruction image x))) m rows
    (greater_least best (height_in n d x (instruction image x)) m le (cond_both (nat_eq x.routine n) (call_height d x (instruction image x)) 0 (λ z. z ≤ m) (λ e. f x (inl refl) e) (λ e. omega arith)))
    (λ r i. f r (inr i))

pub set_routine : (qs : List Routine) (n : ℕ) (q : Routine) → n < length qs → routine_in (slice_set qs n q) n ≡ q
set_routine [] n q lt = absurd (omega arith)
set_routine (x ∷ qs) zero q lt = refl
set_routine (x ∷ qs) (suc n) q lt = set_routine qs n q (omega arith)

pub other_routine : (qs : List Routine) (n m : ℕ) (q : Routine) → nat_eq n m ≡ false → routine_in (slice_set qs n q) m ≡ routine_in qs m
other_routine [] n m q e = refl
other_routine (x ∷ qs) zero zero q e = absurd (cc)
other_routine (x ∷ qs) zero (suc m) q e = refl
other_routine (x ∷ qs) (suc n) zero q e = refl
other_routine (x ∷ qs) (suc n) (suc m) q e = other_routine qs n m q (before n m e) where
  before : (n m : ℕ) → nat_eq (suc n) (suc m) ≡ false → nat_eq n m ≡ false
  before n m e = by (nat_eq n m) refl where
    by : (b : Bool) → nat_eq n m ≡ b → b ≡ false
    by true h = absurd (eqb-false (suc n) (suc m) e (ap suc (eqb-true n m h)))
    by false h = refl

pub set_count : (qs : List Routine) (n : ℕ) (q : Routine) → length (slice_set qs n q) ≡ length qs
set_count [] n q = refl
set_count (x ∷ qs) zero q = refl
set_count (x ∷ qs) (suc n) q = ap suc (set_count qs n q)

-- all routines hold where each does
pub all_routines : (image : List ℕ) (d : Certificate) (k : ℕ) (qs : List Routine) → ((n : ℕ) → n < length qs → routine_holds image d (k + n) (routine_in qs n) ≡ true) → routines_hold image d k qs ≡ true
all_routines image d k [] f = refl
all_routines image d k (q ∷ qs) f = and_from (routine_holds image d k q) (routines_hold image d (k + 1) qs)
    (subst (λ m. routine_holds image d m q ≡ true) (plain k) (f zero (omega arith)))
    (all_routines image d (k + 1) qs (λ n lt. subst (λ m. routine_holds image d m (routine_in qs n) ≡ true) (moved k n) (f (suc n) (omega arith)))) where
      plain : (k : ℕ) → k + 0 ≡ k
      plain k = omega arith

      moved : (k n : ℕ) → k + suc n ≡ k + 1 + n
      moved k n = omega arith

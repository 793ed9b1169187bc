-- Whether a byte is in a set, and what it holds, by the entry of its number.
use Rattle.std.proofs.Common.{◌≡◌, ℕ, zero, suc, ◌+◌, ◌<◌, Bool, true, false, ◌&&◌, ◌||◌, if◌then◌else◌, List, [], ◌∷◌, Option, Some, None, slice_get, refl, sym, ap, ◌∙◌, subst, true≢false, arith}
use Rattle.std.specs.Prelude.{nat_eq}
use Rattle.lean_code.specs.Checked.{among, KnownByte, number_in, gives_number, gives_known}
use Rattle.lean_pass.specs.Views.{trues, set_of, knowns, entry, known_entry}
use Rattle.lean_pass.specs.declared.rows.ByteSet.{ByteSet}

not_same : (a b : ℕ) → b < a → nat_eq a b ≡ false
not_same a b l = grind arith

not_below : (a b : ℕ) → a < b → nat_eq a b ≡ false
not_below a b l = grind arith

is_same : (a b : ℕ) → a ≡ b → nat_eq a b ≡ true
is_same a b e = grind arith

-- ---- sets
below : (bs : List Bool) (i a : ℕ) → a < i → among a (trues i bs) ≡ false
below [] i a l = refl
below (true ∷ bs) i a l = ap (λ (b : Bool). b || among a (trues (i + 1) bs)) (not_below a i l) ∙ below bs (i + 1) a (omega arith)
below (false ∷ bs) i a l = below bs (i + 1) a (omega arith)

from : (bs : List Bool) (i a k : ℕ) → a ≡ i + k → among a (trues i bs) ≡ entry (slice_get bs k)
from [] i a k e = refl
from (true ∷ bs) i a zero e = ap (λ (b : Bool). b || among a (trues (i + 1) bs)) (is_same a i (omega arith))
from (false ∷ bs) i a zero e = below bs (i + 1) a (omega arith)
from (true ∷ bs) i a (suc k) e = ap (λ (b : Bool). b || among a (trues (i + 1) bs)) (not_same a i (omega arith)) ∙ from bs (i + 1) a k (omega arith)
from (false ∷ bs) i a (suc k) e = from bs (i + 1) a k (omega arith)

pub among_set : (s : ByteSet) (a : ℕ) → among a (set_of s) ≡ entry (slice_get s.has.items a)
among_set s a = from s.has.items 0 a a (omega arith)

-- ---- tables
known_below : (bs : List (Option ℕ)) (i a : ℕ) → a < i → number_in a (knowns i bs) ≡ None
known_below [] i a l = refl
known_below (Some n ∷ bs) i a l = ap (λ (b : Bool). if b then Some n else number_in a (knowns (i + 1) bs)) (not_below a i l) ∙ known_below bs (i + 1) a (omega arith)
known_below (None ∷ bs) i a l = known_below bs (i + 1) a (omega arith)

known_from : (bs : List (Option ℕ)) (i a k : ℕ) → a ≡ i + k → number_in a (knowns i bs) ≡ known_entry (slice_get bs k)
known_from [] i a k e = refl
known_from (Some n ∷ bs) i a zero e = ap (λ (b : Bool). if b then Some n else number_in a (knowns (i + 1) bs)) (is_same a i (omega arith))
known_from (None ∷ bs) i a zero e = known_below bs (i + 1) a (omega arith)
known_from (Some n ∷ bs) i a (suc k) e = ap (λ (b : Bool). if b then Some n else number_in a (knowns (i + 1) bs)) (not_same a i (omega arith)) ∙ known_from bs (i + 1) a k (omega arith)
known_from (None ∷ bs) i a (suc k) e = known_from bs (i + 1) a k (omega arith)

pub number_known : (bs : List (Option ℕ)) (a : ℕ) → number_in a (knowns 0 bs) ≡ known_entry (slice_get bs a)
number_known bs a = known_from bs 0 a a (omega arith)

-- ---- tests
pub known_on : (has : ℕ → Option ℕ) (i : ℕ) (n : Option ℕ) (rest : List (Option ℕ)) → gives_number (has i) n ≡ true → gives_known has (knowns i (n ∷ rest)) ≡ gives_known has (knowns (i + 1) rest)
known_on has i None rest e = refl
known_on has i (Some n) rest e = ap (λ (b : Bool). b && gives_known has (knowns (i + 1) rest)) e

pub known_off : (has : ℕ → Option ℕ) (i : ℕ) (n : Option ℕ) (rest : List (Option ℕ)) → gives_number (has i) n ≡ false → gives_known has (knowns i (n ∷ rest)) ≡ false
known_off has i None rest e = absurd (true≢false e)
known_off has i (Some n) rest e = ap (λ (b : Bool). b && gives_known has (knowns (i + 1) rest)) e

pub and_three : (a b c d : Bool) → (a && ((b && c) && d)) ≡ (a && (b && (c && d)))
and_three a true c d = refl
and_three a false c d = refl

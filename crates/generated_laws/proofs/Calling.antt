-- The calls of a generated program: main calls each function, and they call nothing.
use Rattle.std.proofs.Common.{◌≡◌, ℕ, zero, suc, ◌+◌, ◌<◌, ◌≤◌, ◌⊎◌, inl, inr, ⊎_elim, List, [], ◌∷◌, length, get_or, refl, ap, sym, ◌∙◌, subst, arith}
use Rattle.std.specs.List.{Contains}
use Rattle.std.proofs.lemmas.Bool.{cases_lt, cases_eq}
use Rattle.c_typed.specs.Chains.{Calls, IsChain, IsLevel}
use Rattle.call_graph.specs.Levels.{IsAcyclic, IsLongest}
use Rattle.generated_laws.specs.Placed.{numbers_from, helpers_rows, rows_before, generated_graph}
use Rattle.generated_laws.proofs.Members.{Has, has_of, of_has}

-- ---- rows
empty_row : (n f : ℕ) → get_or (helpers_rows n) f [] ≡ []
empty_row zero f = refl
empty_row (suc n) zero = refl
empty_row (suc n) (suc f) = empty_row n f

main_row : (n : ℕ) (row : List ℕ) → get_or (rows_before n row) n [] ≡ row
main_row zero row = refl
main_row (suc n) row = main_row n row

other_row : (n : ℕ) (row : List ℕ) (f : ℕ) → (f ≡ n → ⊥) → get_or (rows_before n row) f [] ≡ []
other_row zero row zero apart = absurd (apart refl)
other_row zero row (suc f) apart = empty_row 16 f
other_row (suc n) row zero apart = refl
other_row (suc n) row (suc f) apart = other_row n row f (λ e. apart (ap suc e))

rows_some : (n : ℕ) (row : List ℕ) → 0 < length (rows_before n row)
rows_some zero row = omega arith
rows_some (suc n) row = omega arith

has_numbers : (i n g : ℕ) → Has (numbers_from i n) g → g < i + n
has_numbers i zero g h = absurd h
has_numbers i (suc n) g (inl e) = omega (arith, e)
has_numbers i (suc n) g (inr h) = let l = has_numbers (suc i) n g h in omega (arith, l)

numbers_have : (i n g : ℕ) → i ≤ g → g < i + n → Has (numbers_from i n) g
numbers_have i zero g low high = absurd (omega (arith, low, high))
numbers_have i (suc n) g low high = ⊎_elim (λ l. inr (numbers_have (suc i) n g (omega (arith, l)) (omega (arith, high)))) (λ m. inl (omega (arith, low, m))) (cases_lt i g)

-- ---- calls
has_row : (k f g : ℕ) (row : List ℕ) → get_or (generated_graph k) f [] ≡ row → Calls (generated_graph k) f g → Has row g
has_row k f g row is c = has_of row g (subst (λ (r : List ℕ). Contains r g) is c)

from_main : (k f g : ℕ) → Calls (generated_graph k) f g → (f ≡ k) × (g < k)
from_main k f g c =
    ⊎_elim
    (λ e.
    let h = has_numbers 0 k g (has_row k f g (numbers_from 0 k) (ap (λ (n : ℕ). get_or (generated_graph k) n []) e ∙ main_row k (numbers_from 0 k)) c) in
    (e, omega (arith, h)))
    (λ apart. absurd (has_row k f g [] (other_row k (numbers_from 0 k) f apart) c))
    (cases_eq f k)

pub main_calls : (k g : ℕ) → g < k → Calls (generated_graph k) k g
main_calls k g lt =
    subst (λ (r : List ℕ). Contains r g) (sym (main_row k (numbers_from 0 k))) (of_has (numbers_from 0 k) g (numbers_have 0 k g (omega arith) (omega (arith, lt))))

-- ---- chains
-- a chain of no call, or of one from main
abbrev pub IsShort : ℕ → ℕ → ℕ → ℕ → Type 0
IsShort k f calls g = ((f ≡ g) × (calls ≡ 0)) ⊎ ((f ≡ k) × (g < k) × (calls ≡ 1))

pub chain_is : (k f : ℕ) (hs : List ℕ) (g : ℕ) → IsChain (generated_graph k) f hs g → IsShort k f (length hs) g
chain_is k f [] g is = inl (is, refl)
chain_is k f (h ∷ []) g (c, e) = let one = from_main k f h c in inr (one.0, subst (λ (n : ℕ). n < k) e one.1, refl)
chain_is k f (h ∷ i ∷ hs) g (c, (d, rest)) =
    let one = from_main k f h c in let two = from_main k h i d in
    let low = one.1 in let same = two.0 in absurd (omega (arith, low, same))

pub one_call : (k g : ℕ) → g < k → IsChain (generated_graph k) k (g ∷ []) g
one_call k g lt = (main_calls k g lt, refl)

not_back : (k f n : ℕ) → IsShort k f (suc n) f → ⊥
not_back k f n (inl (e, z)) = omega (arith, z)
not_back k f n (inr (e, l, o)) = omega (arith, e, l)

pub acyclic : (k : ℕ) → IsAcyclic (generated_graph k)
acyclic k f (h, hs, chain) = not_back k f (length hs) (chain_is k f (h ∷ hs) f chain)

at_most : (k f n g : ℕ) → IsShort k f n g → n ≤ 1
at_most k f n g (inl (e, z)) = omega (arith, z)
at_most k f n g (inr (e, l, o)) = omega (arith, o)

none_on : (k n : ℕ) → IsShort k k n k → n ≤ 0
none_on k n (inl (e, z)) = omega (arith, z)
none_on k n (inr (e, l, o)) = absurd (omega (arith, l))

pub longest : (k : ℕ) → 0 < k → IsLongest (generated_graph k) k 1
longest k some =
    record {
      some = (0, 0 ∷ [], rows_some k (numbers_from 0 k), one_call k 0 some, refl);
      most = λ g hs lt chain. at_most k k (length hs) g (chain_is k k hs g chain);
    }

pub main_level : (k : ℕ) → IsLevel (generated_graph k) k k 0
main_level k = (([], refl, refl), λ hs chain. none_on k (length hs) (chain_is k k hs k chain))

pub function_level : (k g : ℕ) → g < k → IsLevel (generated_graph k) k g 1
function_level k g lt = ((g ∷ [], one_call k g lt, refl), λ hs chain. at_most k k (length hs) g (chain_is k k hs g chain))

-- which levels there are
pub level_is : (k g level : ℕ) → IsLevel (generated_graph k) k g level → ((k ≡ g) × (level ≡ 0)) ⊎ ((g < k) × (level ≡ 1))
level_is k g level ((hs, chain, size), most) = by (chain_is k k hs g chain) where
  by : IsShort k k (length hs) g → ((k ≡ g) × (level ≡ 0)) ⊎ ((g < k) × (level ≡ 1))
  by (inl (e, z)) = inl (e, sym size ∙ z)
  by (inr (e, l, o)) = inr (l, sym size ∙ o)

-- no other count is that of the longest chain from main
pub only_longest : (k d : ℕ) → 0 < k → IsLongest (generated_graph k) k d → d ≡ 1
only_longest k d some is = by is.some where
  by : (g : ℕ) × (hs : List ℕ) × (g < length (generated_graph k)) × IsChain (generated_graph k) k hs g × (length hs ≡ d) → d ≡ 1
  by (g, hs, lt, chain, size) =
      let high = at_most k k (length hs) g (chain_is k k hs g chain) in
      let low : 1 ≤ d = is.most 0 (0 ∷ []) (rows_some k (numbers_from 0 k)) (one_call k 0 some) in
      omega (arith, high, low, size)

-- A program with few functions has few copies: two for each function and helper at most.
use Rattle.std.proofs.Common.{◌≡◌, ℕ, zero, suc, ◌+◌, ◌*◌, ◌<◌, ◌≤◌, ⊎_elim, Bool, true, false, if◌then◌else◌, nat_lt, List, [], ◌∷◌, length, map, refl, sym, ap, ◌∙◌, arith, true≢false}
use Rattle.std.specs.Prelude.{slice_index_or}
use Rattle.std.specs.List.{AllPairs}
use Rattle.std.specs.List.Sorted.{IsPermutation}
use Rattle.std.proofs.lemmas.Bool.{cases_lt, lt-ltb, ltb-true}
use Rattle.std.proofs.lemmas.List.{length-map}
use Rattle.std.proofs.lemmas.List.Sorted.{length_permutation}
use Rattle.c_typed.specs.Chains.{number_of}
use Rattle.c_typed.specs.Trees.{Program}
use Rattle.call_graph.proofs.Additions.{number_once}
use Rattle.call_graph.proofs.Results.{one_below}
use Rattle.call_graph.specs.Copies.{AreCopies, IsCopy, StandsBefore, root_place}
use Rattle.call_graph.specs.declared.types.FnCopy.{FnCopy}
use Rattle.program_laws.proofs.Lines.{not_before}
use Rattle.pic_world.specs.declared.Root.{Root}
use Rattle.pic_world.specs.declared.Root.TheVariants.{Main, Isr}
use Rattle.program_code.specs.Stated.{sizes, copy_words}

-- ---- numbers below a bound that differ are no more than it

abbrev Lacks : ℕ → List ℕ → Type 0
Lacks n [] = Unit {0}
Lacks n (m ∷ ms) = (n ≡ m → ⊥) × Lacks n ms

abbrev Differ : List ℕ → Type 0
Differ [] = Unit {0}
Differ (n ∷ ns) = Lacks n ns × Differ ns

abbrev Below : ℕ → List ℕ → Type 0
Below bound [] = Unit {0}
Below bound (n ∷ ns) = (n < bound) × Below bound ns

-- a list without its first number that isn't below another one
without : ℕ → List ℕ → List ℕ
without n [] = []
without n (m ∷ ms) = if nat_lt m n then m ∷ without n ms else ms

one_less : (n : ℕ) (ms : List ℕ) → length ms ≤ suc (length (without n ms))
unfolding without
one_less n [] = omega arith
one_less n (m ∷ ms) = by (nat_lt m n) (one_less n ms)
  where
    by : (t : Bool) → length ms ≤ suc (length (without n ms)) → suc (length ms) ≤ suc (length (if t then m ∷ without n ms else ms))
    by false h = omega arith
    by true h = omega (arith, h)

lacks_without : (x n : ℕ) (ms : List ℕ) → Lacks x ms → Lacks x (without n ms)
unfolding without
lacks_without x n [] h = tt
lacks_without x n (m ∷ ms) h = by (nat_lt m n) (lacks_without x n ms h.1)
  where
    by : (t : Bool) → Lacks x (without n ms) → Lacks x (if t then m ∷ without n ms else ms)
    by false g = h.1
    by true g = (h.0, g)

differ_without : (n : ℕ) (ms : List ℕ) → Differ ms → Differ (without n ms)
unfolding without
differ_without n [] h = tt
differ_without n (m ∷ ms) h = by (nat_lt m n) (differ_without n ms h.1)
  where
    by : (t : Bool) → Differ (without n ms) → Differ (if t then m ∷ without n ms else ms)
    by false g = h.1
    by true g = (lacks_without m n ms h.0, g)

-- below the next number, and not this one
lower_one : (k n : ℕ) → k < suc n → (n ≡ k → ⊥) → k < n
lower_one k n lt other = ⊎_elim (λ (l : k < n). l) (λ (e : n ≤ k). absurd (other (omega (arith, lt, e)))) (cases_lt k n)

lower : (m n : ℕ) (ms : List ℕ) → m ≡ n → Below (suc n) ms → Lacks m ms → Below n ms
lower m n [] same h lacks = tt
lower m n (k ∷ ms) same h lacks = (lower_one k n h.0 (λ is. lacks.0 (same ∙ is)), lower m n ms same h.1 lacks.1)

not_less : (m n : ℕ) → nat_lt m n ≡ false → m < suc n → m ≡ n
not_less m n e lt = ⊎_elim (λ (l : m < n). absurd (true≢false (sym (lt-ltb m n l) ∙ e))) (λ (g : n ≤ m). omega (arith, lt, g)) (cases_lt m n)

below_without : (n : ℕ) (ms : List ℕ) → Below (suc n) ms → Differ ms → Below n (without n ms)
unfolding without
below_without n [] h differ = tt
below_without n (m ∷ ms) h differ = by (nat_lt m n) refl (below_without n ms h.1 differ.1)
  where
    by : (t : Bool) → nat_lt m n ≡ t → Below n (without n ms) → Below n (if t then m ∷ without n ms else ms)
    by true e g = (ltb-true m n e, g)
    by false e g = lower m n ms (not_less m n e h.0) h.1 differ.0

no_more : (bound : ℕ) (ns : List ℕ) → Below bound ns → Differ ns → length ns ≤ bound
no_more zero [] h differ = omega arith
no_more zero (n ∷ ns) h differ = let none = h.0 in absurd (omega (arith, none))
no_more (suc bound) ns h differ = let less = one_less bound ns in let rest = no_more bound (without bound ns) (below_without bound ns h differ) (differ_without bound ns differ) in omega (arith, less, rest)

-- ---- copies

place_low : (r : Root) → root_place r ≤ 1
place_low Main = omega arith
place_low Isr = omega arith

roots_same : (r s : Root) → root_place r ≡ root_place s → r ≡ s
roots_same Main Main e = refl
roots_same Main Isr e = absurd (omega (arith, e))
roots_same Isr Main e = absurd (omega (arith, e))
roots_same Isr Isr e = refl

module _ (p : Program) where
  abbrev all : ℕ
  all = length p.functions + 16

  copy_number : FnCopy → ℕ
  copy_number c = root_place c.root * all + number_of (length p.functions) c.function

  abbrev AreThere : List FnCopy → Type 0
  AreThere [] = Unit {0}
  AreThere (c ∷ cs) = IsCopy p c × AreThere cs

  numbers_below : (cs : List FnCopy) → AreThere cs → Below (2 * all) (map copy_number cs)
  unfolding copy_number
  numbers_below [] are = tt
  numbers_below (c ∷ cs) are = (here, numbers_below cs are.1)
    where
      here : root_place c.root * all + number_of (length p.functions) c.function < 2 * all
      here = by c.root
        where
          by : (r : Root) → root_place r * all + number_of (length p.functions) c.function < 2 * all
          by Main = let low = one_below (length p.functions) c.function are.0.one in omega (arith, low)
          by Isr = let low = one_below (length p.functions) c.function are.0.one in omega (arith, low)

  -- two copies with one number are of one root and function
  numbers_apart : (a b : FnCopy) → IsCopy p a → IsCopy p b → StandsBefore (length p.functions) a b → copy_number a ≡ copy_number b → ⊥
  unfolding copy_number
  numbers_apart a b x y before same = not_before p a b x y before (roots_same a.root b.root (parts a.root b.root same).0) (number_once (length p.functions) a.function b.function x.one y.one (parts a.root b.root same).1)
    where
      parts : (r s : Root) → root_place r * all + number_of (length p.functions) a.function ≡ root_place s * all + number_of (length p.functions) b.function
          → (root_place r ≡ root_place s) × (number_of (length p.functions) a.function ≡ number_of (length p.functions) b.function)
      parts Main Main e = (refl, omega (arith, e))
      parts Main Isr e = let low = one_below (length p.functions) a.function x.one in absurd (omega (arith, e, low))
      parts Isr Main e = let low = one_below (length p.functions) b.function y.one in absurd (omega (arith, e, low))
      parts Isr Isr e = (refl, omega (arith, e))

  numbers_differ : (cs : List FnCopy) → AreThere cs → AllPairs (StandsBefore (length p.functions)) cs → Differ (map copy_number cs)
  numbers_differ [] are ordered = tt
  numbers_differ (c ∷ cs) are ordered = (lacks cs are.1 (λ j d lt. ordered 0 (suc j) d (omega arith) (omega (arith, lt))), numbers_differ cs are.1 (λ i j d less lt. ordered (suc i) (suc j) d (omega (arith, less)) (omega (arith, lt))))
    where
      lacks : (ds : List FnCopy) → AreThere ds → ((j : ℕ) (d : FnCopy) → j < length ds → StandsBefore (length p.functions) c (slice_index_or ds j d)) → Lacks (copy_number c) (map copy_number ds)
      lacks [] there before = tt
      lacks (d ∷ ds) there before = (numbers_apart c d are.0 there.0 (before 0 d (omega arith)), lacks ds there.1 (λ j e lt. before (suc j) e (omega (arith, lt))))

  -- each element of a list is one of it
  are_there : (cs : List FnCopy) → ((k : ℕ) (d : FnCopy) → k < length cs → IsCopy p (slice_index_or cs k d)) → AreThere cs
  are_there [] each = tt
  are_there (c ∷ cs) each = (each 0 c (omega arith), are_there cs (λ k d lt. each (suc k) d (omega (arith, lt))))

  index_same : (cs : List FnCopy) (k : ℕ) (d e : FnCopy) → k < length cs → slice_index_or cs k d ≡ slice_index_or cs k e
  index_same [] k d e lt = absurd (omega (arith, lt))
  index_same (c ∷ cs) zero d e lt = refl
  index_same (c ∷ cs) (suc k) d e lt = index_same cs k d e (omega (arith, lt))

  copies_count : (copies : List FnCopy) → AreCopies p copies → length copies ≤ 2 * all
  copies_count copies known =
      let there = are_there copies (λ k d lt. (known.exact (slice_index_or copies k d)).0 (k, lt, index_same copies k (slice_index_or copies k d) d lt)) in
      let most = no_more (2 * all) (map copy_number copies) (numbers_below copies there) (numbers_differ copies there known.ordered) in
      let same = length-map copies copy_number in
      omega (arith, most, same)

-- the blocks of few copies can be counted
pub few_blocks : (p : Program) (copies order : List FnCopy) (words : List ℕ) → AreCopies p copies → length p.functions ≤ 0x10000000 → IsPermutation copies order → words ≡ sizes p order → length words < 4294967296
few_blocks p copies order words known few same is =
    let most = copies_count p copies known in
    let size = length_permutation copies order same in
    let long = length-map order (copy_words p) in
    let whole = ap length is in
    omega (arith, most, size, long, whole, few)

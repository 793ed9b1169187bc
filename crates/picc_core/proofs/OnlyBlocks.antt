-- Blocks of code have one order and one sum of words, and the first of them that is over a page is one. Where none is, none is told.
use Rattle.std.proofs.Common.{◌≡◌, ℕ, suc, ◌+◌, ◌*◌, ◌<◌, ◌≤◌, List, [], ◌∷◌, length, map, Some, refl, sym, ap, ◌∙◌, subst, arith}
use Rattle.std.specs.Prelude.{slice_index_or, sum}
use Rattle.std.specs.List.{All, sum_by}
use Rattle.std.proofs.lemmas.List.{get_or-map, length-map}
use Rattle.std.proofs.lemmas.List.Elements.{All-contains_itself}
use Rattle.std.proofs.lemmas.List.Sorted.{All-permutation, Contains-permutation, sum_by-IsPermutation}
use Rattle.std.proofs.lemmas.List.Sums.{sum_by-cons}
use Rattle.c_typed.specs.Chains.{graph_of, number_of, IsLevel}
use Rattle.c_typed.specs.Nodes.{capped}
use Rattle.c_typed.specs.Trees.{Program}
use Rattle.c_typed.specs.Words.{start_size}
use Rattle.c_typed.specs.declared.calls.FnId.{FnId}
use Rattle.c_typed.specs.declared.calls.FnId.TheVariants as callees
use Rattle.call_graph.proofs.Additions.{number_once, same_copy}
use Rattle.call_graph.proofs.Results.{one_below}
use Rattle.call_graph.specs.Copies.{AreCopies, IsCopy, IsOne, name_at, root_of, root_place}
use Rattle.call_graph.specs.declared.types.FnCopy.{FnCopy}
use Rattle.pic_world.specs.declared.Root.{Root}
use Rattle.pic_world.specs.declared.Root.TheVariants.{Main, Isr}
use Rattle.code_place.specs.Pages.{AreWithinPages}
use Rattle.headline_trace.proofs.SameNumbers.{same_counted, same_numbers, map_up}
use Rattle.program_code.specs.Order.{rank}
use Rattle.program_code.specs.Stated.{copy_words, sizes}
use Rattle.ram_place.specs.Sizes.{block_words}
use Rattle.picc_core.specs.Accepted.{IsCodeOrder, IsFirstOver, IsOverPage}

-- ---- each copy has a rank of its own, where there are few functions
more : (n : ℕ) (f : FnId) → n ≤ 0x10000000 → IsOne n f → IsOne 0x10000000 f
more n (callees.User number) few below = let lt : number < n = below in omega (arith, lt, few)
more n (callees.Helper h) few below = tt

low_number : (n : ℕ) (f : FnId) → n ≤ 0x10000000 → IsOne n f → number_of 0x10000000 f < 0x200000000
low_number n f few below = let low = one_below 0x10000000 f (more n f few below) in omega (arith, low)

roots_back : (r s : Root) (m n : ℕ) → m < 0x200000000 → n < 0x200000000 → 0x200000000 * root_place r + m ≡ 0x200000000 * root_place s + n → (r ≡ s) × (m ≡ n)
roots_back Main Main m n low less e = (refl, omega (arith, e))
roots_back Main Isr m n low less e = absurd (omega (arith, e, low))
roots_back Isr Main m n low less e = absurd (omega (arith, e, less))
roots_back Isr Isr m n low less e = (refl, omega (arith, e))

levels_same : (graph : List (List ℕ)) (m n g h k l : ℕ) → m ≡ n → g ≡ h → IsLevel graph m g k → IsLevel graph n h l → k ≡ l
levels_same graph m n g h k l e f one other =
    let moved : IsLevel graph n h k = subst (λ (i : ℕ). IsLevel graph i h k) e (subst (λ (i : ℕ). IsLevel graph m i k) f one) in
    let long = moved.1 other.0.0 other.0.1 in
    let short = other.1 moved.0.0 moved.0.1 in
    let first = moved.0.2 in
    let second = other.0.2 in
    omega (arith, long, short, first, second)

some_is : (m n : ℕ) → Some m ≡ Some n → m ≡ n
some_is m n is = cc

rank_once : (p : Program) (a b : FnCopy) → length p.functions ≤ 0x10000000 → IsCopy p a → IsCopy p b → rank a ≡ rank b → a ≡ b
rank_once p a b few one other e =
    let n = length p.functions in
    let parts = roots_back a.root b.root (number_of 0x10000000 a.function) (number_of 0x10000000 b.function) (low_number n a.function few one.one) (low_number n b.function few other.one) e in
    let function = number_once 0x10000000 a.function b.function (more n a.function few one.one) (more n b.function few other.one) parts.1 in
    let entered : one.number ≡ other.number = some_is one.number other.number (sym one.entered ∙ ap (root_of p) parts.0 ∙ other.entered) in
    same_copy a b parts.0 function
    (levels_same (graph_of p) one.number other.number (number_of n a.function) (number_of n b.function) a.level b.level entered (ap (number_of n) function) one.level other.level)

-- ---- lists with the same numbers, where each has one of its own
first_is : (m n : ℕ) (ms ns : List ℕ) → m ∷ ms ≡ n ∷ ns → m ≡ n
first_is m n ms ns is = cc

later_is : (m n : ℕ) (ms ns : List ℕ) → m ∷ ms ≡ n ∷ ns → ms ≡ ns
later_is m n ms ns is = cc

same_by : {A : Type 0} (n : A → ℕ) (P : A → Type 0) → ((a b : A) → P a → P b → n a ≡ n b → a ≡ b) → (xs ys : List A) → All P xs → All P ys → map n xs ≡ map n ys → xs ≡ ys
same_by n P once [] [] all each is = refl
same_by n P once [] (y ∷ ys) all each is = absurd (cc)
same_by n P once (x ∷ xs) [] all each is = absurd (cc)
same_by n P once (x ∷ xs) (y ∷ ys) all each is =
    let here = once x y (all 0 x (omega arith)) (each 0 y (omega arith)) (first_is (n x) (n y) (map n xs) (map n ys) is) in
    let later = same_by n P once xs ys (λ k d l. all (suc k) d (omega (arith, l))) (λ k d l. each (suc k) d (omega (arith, l))) (later_is (n x) (n y) (map n xs) (map n ys) is) in
    ap (λ z. z ∷ xs) here ∙ ap (λ zs. y ∷ zs) later

-- ---- the order
module _ (p : Program) (copies : List FnCopy) where
  listed : (order : List FnCopy) → AreCopies p copies → IsCodeOrder copies order → All (IsCopy p) order
  listed order known is = All-permutation (IsCopy p) copies order is.same (λ k d l. (known.exact (slice_index_or copies k d)).0 (All-contains_itself copies k d l))

  same_ranks : (order other : List FnCopy) → IsCodeOrder copies order → IsCodeOrder copies other → map rank order ≡ map rank other
  same_ranks order other here there =
      same_numbers (map rank order) (map rank other) (map_up rank order here.sorted) (map_up rank other there.sorted)
      (λ v. same_counted rank v copies order here.same ∙ sym (same_counted rank v copies other there.same))

  pub one_order : (order other : List FnCopy) → length p.functions ≤ 0x10000000 → AreCopies p copies → IsCodeOrder copies order → IsCodeOrder copies other → order ≡ other
  one_order order other few known here there =
      same_by rank (IsCopy p) (λ a b one two e. rank_once p a b few one two e) order other (listed order known here) (listed other known there) (same_ranks order other here there)

  -- ---- the sum
  -- all words of the blocks in one order are those in the other
  pub one_sum : (order other : List FnCopy) → IsCodeOrder copies order → IsCodeOrder copies other → sum (sizes p order) ≡ sum (sizes p other)
  one_sum order other here there =
      let first : sum (sizes p order) ≡ capped (start_size p) + sum (map (copy_words p) order) = sum_by-cons (λ (n : ℕ). n) (capped (start_size p)) (map (copy_words p) order) in
      let second : sum (sizes p other) ≡ capped (start_size p) + sum (map (copy_words p) other) = sum_by-cons (λ (n : ℕ). n) (capped (start_size p)) (map (copy_words p) other) in
      let same = summed order ∙ sum_by-IsPermutation (copy_words p) copies order here.same ∙ sym (sum_by-IsPermutation (copy_words p) copies other there.same) ∙ sym (summed other) in
      omega (arith, first, second, same)
    where
      summed : (xs : List FnCopy) → sum (map (copy_words p) xs) ≡ sum_by (copy_words p) xs
      summed [] = refl
      summed (x ∷ xs) = sum_by-cons (λ (n : ℕ). n) (copy_words p x) (map (copy_words p) xs) ∙ ap (λ n. copy_words p x + n) (summed xs) ∙ sym (sum_by-cons (copy_words p) x xs)

  -- ---- a block over a page
  pub none_over : (order : List FnCopy) (number words : ℕ) → IsCodeOrder copies order → AreWithinPages (sizes p order) → IsOverPage p copies number words → ⊥
  none_over order number words is within over =
      let there = Contains-permutation copies order over.copy is.same over.among in
      let inside = there.1 in
      let size = length-map order (copy_words p) in
      let low : slice_index_or (map (copy_words p) order) there.0 0 ≤ 2048 = within (suc there.0) (omega (arith, inside, size)) in
      let at : slice_index_or (map (copy_words p) order) there.0 0 ≡ copy_words p (slice_index_or order there.0 over.copy) = get_or-map (copy_words p) order there.0 over.copy 0 inside in
      let same = ap (copy_words p) there.2 in
      let stated = over.stated in
      let high = over.over in
      omega (arith, low, at, same, stated, high)

  -- the words of a copy are those of its function
  words_by : (a b : FnCopy) → a.function ≡ b.function → copy_words p a ≡ copy_words p b
  unfolding copy_words
  words_by a b same = ap (λ f. capped (block_words p f)) same

  pub one_over : (most : ℕ) (name other : List ℕ) (words more : ℕ) → IsFirstOver most p copies name words → IsFirstOver most p copies other more → (name ≡ other) × (words ≡ more)
  one_over most name other words more here there =
      let low = here.first there.number more there.over in
      let high = there.first here.number words here.over in
      let same : here.number ≡ there.number = omega (arith, low, high) in (
        here.named ∙ ap (name_at p) same ∙ sym there.named,
        here.over.stated ∙ words_by here.over.copy there.over.copy (here.over.function ∙ ap callees.User same ∙ sym there.over.function) ∙ sym there.over.stated,
      )

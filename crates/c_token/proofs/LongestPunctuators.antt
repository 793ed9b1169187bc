-- Punctuators: the first of the list that a text begins with is the longest, since the longer ones come
-- first, and no other token begins with a byte that begins one.
use Rattle.std.proofs.Common.{ℕ, ◌≤◌, ◌≡◌, Bool, true, false, ◌&&◌, not, cond, Some, List, [], ◌∷◌, length, take, arith, ap, sym, ◌∙◌, refl, subst, leb-true, length-take}
use Rattle.std.specs.Prelude.{nat_eq, nat_le, ◌==◌, find}
use Rattle.std.specs.List.{list_all, starts_with}
use Rattle.std.specs.Str.{bytes_eq}
use Rattle.std.specs.Cmp.Lexicographic.{bytes_decides}
use Rattle.std.proofs.lemmas.Bool.{and_parts}
use Rattle.std.proofs.lemmas.Option.{same_Some, some_pair_parts}
use Rattle.c_token.specs.declared.token.TokKind.{TokKind}
use Rattle.c_token.specs.declared.token.TokKind.TheVariants as kind
use Rattle.c_token.specs.declared.token.Punct.{Punct}
use Rattle.c_token.specs.Bytes.{begins_name, is_decimal}
use Rattle.c_token.specs.Spelling.{punct_spelling, punctuators}
use Rattle.c_token.specs.Constant.{◌>>=◌}
use Rattle.c_token.specs.Token.{punct_of, punctuator_at}
use Rattle.c_token.specs.Longest.{punctuator_spelled, is_integer}
use Rattle.c_token.proofs.Bounds.{punct_fits, find_passes}
use Rattle.c_token.proofs.LongestFronts.{bound}
use Rattle.c_token.proofs.LongestNumbers.{branches}

-- ---- the order of the list

-- no spelling is longer than the one before it, and the first has no more than so many bytes
abbrev falls : ℕ → List Punct → Bool
falls n [] = true
falls n (p ∷ ps) = nat_le (length (punct_spelling p)) n && falls (length (punct_spelling p)) ps

the_list_falls : falls 3 punctuators ≡ true
the_list_falls = refl

falls_below : (n : ℕ) (ps : List Punct) (other : Punct → Bool) (q : Punct) → falls n ps ≡ true → find other ps ≡ Some q → length (punct_spelling q) ≤ n
falls_below n [] other q f e = absurd cc
falls_below n (p ∷ ps) other q f e =
    let h = and_parts (nat_le (length (punct_spelling p)) n) (falls (length (punct_spelling p)) ps) f in
    let l = leb-true (length (punct_spelling p)) n h.0 in
    branches (other p) (Some p) (find other ps) q
    (λ t g. subst (λ (r : Punct). length (punct_spelling r) ≤ n) (same_Some p q g) l)
    (λ t g. let b = falls_below (length (punct_spelling p)) ps other q h.1 g in omega arith) e

-- the first that passes, no shorter than one that does
record Best (test : Punct → Bool) (ps : List Punct) (q : Punct) : Type 0 where
  best : Punct
  is : find test ps ≡ Some best
  longer : length (punct_spelling q) ≤ length (punct_spelling best)

best_of : (n : ℕ) (ps : List Punct) (test other : Punct → Bool) (q : Punct) → falls n ps ≡ true → find other ps ≡ Some q → test q ≡ true → Best test ps q
best_of n [] test other q f e w = absurd cc
best_of n (p ∷ ps) test other q f e w =
    let size = length (punct_spelling p) in
    let h = and_parts (nat_le size n) (falls size ps) f in
    elim (test p) as (λ t. test p ≡ t → Best test (p ∷ ps) q) [
      | true ↦ λ t. record {
        best = p;
        is = ap (λ b. cond b (Some p) (find test ps)) t;
        longer = branches (other p) (Some p) (find other ps) q
            (λ u g. subst (λ (r : Punct). length (punct_spelling r) ≤ size) (same_Some p q g) (omega arith))
            (λ u g. falls_below size ps other q h.1 g) e;
      }
      | false ↦ λ t. branches (other p) (Some p) (find other ps) q
          (λ u g. let same = same_Some p q g in absurd (let at : test p ≡ true = ap test same ∙ w in cc))
          (λ u g.
          let b = best_of size ps test other q h.1 g w in
          record { best = b.best; is = ap (λ c. cond c (Some p) (find test ps)) t ∙ b.is; longer = b.longer }) e
    ] refl

-- what is found first by one test is found first by a narrower one that it passes
find_narrower : (f g : Punct → Bool) (ps : List Punct) (p : Punct) → ((q : Punct) → g q ≡ true → f q ≡ true) → g p ≡ true → find f ps ≡ Some p → find g ps ≡ Some p
find_narrower f g [] p into w e = absurd cc
find_narrower f g (q ∷ ps) p into w e =
    branches (f q) (Some q) (find f ps) p
    (λ t h. let same = same_Some q p h in ap (λ c. cond c (Some q) (find g ps)) (ap g same ∙ w) ∙ ap Some same)
    (λ t h. elim (g q) as (λ b. g q ≡ b → find g (q ∷ ps) ≡ Some p) [
      | true ↦ λ b. absurd (let at = into q b in cc)
      | false ↦ λ b. ap (λ c. cond c (Some q) (find g ps)) b ∙ find_narrower f g ps p into w h
    ] refl) e

-- ---- the first byte

-- a byte that begins no name, number, character constant or string
abbrev pub is_mark : ℕ → Bool
is_mark b = not (begins_name b) && (not (is_decimal b) && (not (b == 39) && not (b == 34)))

abbrev pub begins_with_mark : List ℕ → Bool
begins_with_mark [] = false
begins_with_mark (b ∷ rest) = is_mark b

marks_begin : list_all (λ p. begins_with_mark (punct_spelling p)) punctuators ≡ true
marks_begin = refl

find_in_all : (test other : Punct → Bool) (ps : List Punct) (p : Punct) → list_all test ps ≡ true → find other ps ≡ Some p → test p ≡ true
find_in_all test other [] p a e = absurd cc
find_in_all test other (q ∷ ps) p a e =
    let h = and_parts (test q) (list_all test ps) a in
    branches (other q) (Some q) (find other ps) p (λ t g. ap test (sym (same_Some q p g)) ∙ h.0) (λ t g. find_in_all test other ps p h.1 g) e

-- ---- spellings at the front

-- a punctuator that is a front in whole
whole_begins : (m : ℕ) (text : List ℕ) (p : Punct) → m ≤ length text → bytes_eq (punct_spelling p) (take m text) ≡ true → starts_with nat_eq text (punct_spelling p) ≡ true
whole_begins m text p l e =
    let same : punct_spelling p ≡ take m text = (bytes_decides (punct_spelling p) (take m text)).0 e in
    let size : length (punct_spelling p) ≡ m = omega (arith, ap length same, length-take m text) in
    (bytes_decides (punct_spelling p) (take (length (punct_spelling p)) text)).1 (same ∙ ap (λ (n : ℕ). take n text) (sym size))

-- what is known of a punctuator in whole, and of the text that it begins
pub record Marked (m : ℕ) (text : List ℕ) : Type 0 where
  pub mark : begins_with_mark (take m text) ≡ true
  pub punct : Punct
  pub is : punctuator_at text ≡ Some (kind.Punct punct, length (punct_spelling punct))
  pub enough : m ≤ length (punct_spelling punct)

marked_by : (m : ℕ) (text : List ℕ) (q : Punct) → m ≤ length text → find (λ p. bytes_eq (punct_spelling p) (take m text)) punctuators ≡ Some q → Marked m text
unfolding punctuator_at punct_of
marked_by m text q l e =
    let whole = find_passes (λ p. bytes_eq (punct_spelling p) (take m text)) punctuators q e in
    let same : punct_spelling q ≡ take m text = (bytes_decides (punct_spelling q) (take m text)).0 whole in
    let size : length (punct_spelling q) ≡ m = omega (arith, ap length same, length-take m text) in
    let b = best_of 3 punctuators (λ p. starts_with nat_eq text (punct_spelling p)) (λ p. bytes_eq (punct_spelling p) (take m text)) q the_list_falls e (whole_begins m text q l whole) in
    record {
      mark = ap begins_with_mark (sym same) ∙ find_in_all (λ p. begins_with_mark (punct_spelling p)) (λ p. bytes_eq (punct_spelling p) (take m text)) punctuators q marks_begin e;
      punct = b.best;
      is = ap (λ o. o >>= λ p. Some (kind.Punct p, length (punct_spelling p))) b.is;
      enough = omega (arith, b.longer);
    }

pub punctuator_reads : (m : ℕ) (text : List ℕ) (k : TokKind) → m ≤ length text → punctuator_spelled (take m text) ≡ Some k → Marked m text
unfolding punctuator_spelled
punctuator_reads m text k l e =
    let b = bound (find (λ p. bytes_eq (punct_spelling p) (take m text)) punctuators) (λ p. Some (kind.Punct p)) k e in
    marked_by m text b.first l b.is

-- what is known of the punctuator that a text begins with
pub record Spelled (text : List ℕ) (k : TokKind) (n : ℕ) : Type 0 where
  pub within : n ≤ length text
  pub mark : begins_with_mark (take n text) ≡ true
  pub spells : punctuator_spelled (take n text) ≡ Some k
  pub kind_is : is_integer k ≡ false

spelled_by : (text : List ℕ) (p : Punct) → find (λ p. starts_with nat_eq text (punct_spelling p)) punctuators ≡ Some p → Spelled text (kind.Punct p) (length (punct_spelling p))
unfolding punctuator_spelled
spelled_by text p e =
    let n = length (punct_spelling p) in
    let fits = punct_fits text p e in
    let passes = find_passes (λ q. starts_with nat_eq text (punct_spelling q)) punctuators p e in
    let same : punct_spelling p ≡ take n text = (bytes_decides (punct_spelling p) (take n text)).0 passes in
    let found = find_narrower (λ q. starts_with nat_eq text (punct_spelling q)) (λ q. bytes_eq (punct_spelling q) (take n text)) punctuators p (λ q w. whole_begins n text q fits w) passes e in
    record {
      within = fits;
      mark = ap begins_with_mark (sym same) ∙ find_in_all (λ q. begins_with_mark (punct_spelling q)) (λ q. starts_with nat_eq text (punct_spelling q)) punctuators p marks_begin e;
      spells = ap (λ o. o >>= λ q. Some (kind.Punct q)) found;
      kind_is = refl;
    }

pub punctuator_spells : (text : List ℕ) (k : TokKind) (n : ℕ) → punctuator_at text ≡ Some (k, n) → Spelled text k n
unfolding punctuator_at punct_of
punctuator_spells text k n e =
    let b = bound (find (λ p. starts_with nat_eq text (punct_spelling p)) punctuators) (λ p. Some (kind.Punct p, length (punct_spelling p))) (k, n) e in
    let parts = some_pair_parts (kind.Punct b.first) k (length (punct_spelling b.first)) n b.then in
    subst (λ (j : ℕ). Spelled text k j) parts.1 (subst (λ (j : TokKind). Spelled text j (length (punct_spelling b.first))) parts.0 (spelled_by text b.first b.is))

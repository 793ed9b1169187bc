-- Of which objects byte code takes addresses, part by part.
use Rattle.std.proofs.Common.{◌≡◌, ℕ, zero, suc, ◌+◌, ◌<◌, ◌≤◌, Bool, true, false, ◌&&◌, List, [], ◌∷◌, ◌++◌, length, take, get_or, refl, sym, ap, ◌∙◌, subst, arith}
use Rattle.std.specs.List.{All}
use Rattle.std.proofs.lemmas.Bool.{and_parts}
use Rattle.std.proofs.lemmas.List.{take_more, take_all}
use Rattle.core_code.specs.Bytes.{Object}
use Rattle.core_code.specs.Tree as tree
use Rattle.core_code.specs.Tree.{Tree, Trees, NoTree, AndTree, trees_of}
use Rattle.core_code.specs.View.{tree_of, trees_in}
use Rattle.core_code.specs.declared.code.Body.{Body}
use Rattle.core_code.specs.declared.code.Byte.{Byte}
use Rattle.core_code.specs.declared.code.Byte.TheVariants.{Static, Frame, Result, Device}
use Rattle.core_code.specs.declared.code.Core.{Core}
use Rattle.core_code.specs.declared.code.Core.TheVariants as Core
use Rattle.core_code.proofs.Views.{tree_many, tree_if, tree_loop}
use Rattle.narrow_code.specs.Lending.{takes_lent, lends, all_lend}
use Rattle.narrow_code.specs.Links.{is_lent}
use Rattle.narrow_pass.specs.Lent.{LendsOnly}

both : (a b : Bool) → a ≡ true → b ≡ true → (a && b) ≡ true
both true b e f = f
both false b e f = e

module _ (lent : Object → Bool) where
  abbrev Lends : Tree → Type 0
  Lends t = lends lent t ≡ true

  -- ---- operations
  pub many_lends : (t : Core) (parts : _) (list : List Core) → t ≡ Core.Many parts → list ≡ parts.items → all_lend lent (trees_of (trees_in list)) ≡ true → lends lent (tree_of t) ≡ true
  many_lends t parts list e l are = subst Lends (ap (λ (i : List Core). tree.Many (trees_of (trees_in i))) l ∙ sym (ap tree_of e ∙ tree_many parts)) are

  pub if_lends : (t : Core) (test : _) (size : _) (holds fails : _) (a b : Core) → t ≡ Core.If test size holds fails → a ≡ holds.value → b ≡ fails.value → lends lent (tree_of a) ≡ true → lends lent (tree_of b) ≡ true → lends lent (tree_of t) ≡ true
  if_lends t test size holds fails a b e y n first second =
      let whole : tree_of t ≡ tree.If test size (tree_of a) (tree_of b) =
      ap tree_of e ∙ tree_if test size holds fails ∙ ap (λ (u : Core). tree.If test size (tree_of u) (tree_of fails.value)) (sym y) ∙ ap (λ (u : Core). tree.If test size (tree_of a) (tree_of u)) (sym n) in
      subst Lends (sym whole) (both (lends lent (tree_of a)) (lends lent (tree_of b)) first second)

  pub loop_lends : (t : Core) (body : _) (a : Core) → t ≡ Core.Loop body → a ≡ body.value → lends lent (tree_of a) ≡ true → lends lent (tree_of t) ≡ true
  loop_lends t body a e l is = subst Lends (ap (λ (u : Core). tree.Loop (tree_of u)) l ∙ sym (ap tree_of e ∙ tree_loop body)) is

  -- ---- lists of them
  pub none_lend : (list : List Core) (k : ℕ) → k ≡ 0 → all_lend lent (trees_of (trees_in (take k list))) ≡ true
  none_lend list k none = ap (λ (n : ℕ). all_lend lent (trees_of (trees_in (take n list)))) none

  one_more : (list : List Core) (c : Core) → all_lend lent (trees_of (trees_in list)) ≡ true → lends lent (tree_of c) ≡ true → all_lend lent (trees_of (trees_in (list ++ c ∷ []))) ≡ true
  one_more [] c before here = both (lends lent (tree_of c)) true here refl
  one_more (x ∷ list) c before here =
      let parts = and_parts (lends lent (tree_of x)) (all_lend lent (trees_of (trees_in list))) before in both (lends lent (tree_of x)) (all_lend lent (trees_of (trees_in (list ++ c ∷ [])))) parts.0 (one_more list c parts.1 here)

  pub more_lend : (list : List Core) (k : ℕ) (c : Core) → k < length list → c ≡ get_or list k c → lends lent (tree_of c) ≡ true → all_lend lent (trees_of (trees_in (take k list))) ≡ true → all_lend lent (trees_of (trees_in (take (k + 1) list))) ≡ true
  more_lend list k c below is here before =
      let next : take (k + 1) list ≡ take k list ++ c ∷ [] = take_more list k c below ∙ ap (λ (d : Core). take k list ++ d ∷ []) (sym is) in
      ap (λ (l : List Core). all_lend lent (trees_of (trees_in l))) next ∙ one_more (take k list) c before here

  pub all_of_them : (list : List Core) (k : ℕ) → length list ≤ k → all_lend lent (trees_of (trees_in (take k list))) ≡ true → all_lend lent (trees_of (trees_in list)) ≡ true
  all_of_them list k past before = ap (λ (l : List Core). all_lend lent (trees_of (trees_in l))) (sym (take_all k list past)) ∙ before

  -- ---- bodies
  pub no_bodies : (bodies : List Body) → bodies ≡ [] → All (LendsOnly lent) bodies
  no_bodies bodies e = subst (λ (l : List Body). All (LendsOnly lent) l) (sym e) (λ i d below. absurd (omega arith))

  more_list : (body : Body) (rest : List Body) → LendsOnly lent body → All (LendsOnly lent) rest → All (LendsOnly lent) (body ∷ rest)
  more_list body rest here later zero d below = here
  more_list body rest here later (suc i) d below = later i d (omega arith)

  pub more_bodies : (bodies : List Body) (body : Body) (rest : List Body) (code : List Core) → bodies ≡ body ∷ rest → code ≡ body.code.items → all_lend lent (trees_of (trees_in code)) ≡ true → All (LendsOnly lent) rest → All (LendsOnly lent) bodies
  more_bodies bodies body rest code e c here later =
      subst (λ (l : List Body). All (LendsOnly lent) l) (sym e) (more_list body rest (ap (λ (l : List Core). all_lend lent (trees_of (trees_in l))) (sym c) ∙ here) later)

-- ---- whatever takes addresses, where all frames are lent
takes_any : (place : Byte) → takes_lent (is_lent (λ c. true)) place ≡ true
takes_any (Static object offset) = refl
takes_any (Frame copy offset) = refl
takes_any (Result root k) = refl
takes_any (Device address) = refl

mutual
  any_lends : (t : Tree) → lends (is_lent (λ c. true)) t ≡ true
  any_lends (tree.Address to place) = takes_any place
  any_lends (tree.Many ts) = any_all ts
  any_lends (tree.If test size first second) = both (lends (is_lent (λ c. true)) first) (lends (is_lent (λ c. true)) second) (any_lends first) (any_lends second)
  any_lends (tree.Loop body) = any_lends body
  any_lends t = refl

  any_all : (ts : Trees) → all_lend (is_lent (λ c. true)) ts ≡ true
  any_all NoTree = refl
  any_all (AndTree t ts) = both (lends (is_lent (λ c. true)) t) (all_lend (is_lent (λ c. true)) ts) (any_lends t) (any_all ts)

-- ---- bodies
pub all_lent : (bodies : List Body) → All (LendsOnly (is_lent (λ c. true))) bodies
all_lent [] i d below = absurd (omega arith)
all_lent (b ∷ bodies) zero d below = any_all (trees_of (trees_in b.code.items))
all_lent (b ∷ bodies) (suc i) d below = all_lent bodies i d (omega arith)

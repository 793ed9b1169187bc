-- The first copy under a root is that of the root's own function.
use Rattle.std.proofs.Common.{◌≡◌, ℕ, zero, suc, ◌<◌, ◌≤◌, inl, inr, Bool, true, false, nat_lt, List, [], ◌∷◌, length, Some, refl, sym, ap, ◌∙◌, subst, arith}
use Rattle.std.specs.Prelude.{slice_get, slice_index_or}
use Rattle.std.specs.List.{Contains}
use Rattle.std.proofs.lemmas.Bool.{ltb-true, ltb-false}
use Rattle.std.proofs.lemmas.List.Quantifiers.{position-Some}
use Rattle.std.proofs.lemmas.Option.{slice_get_within}
use Rattle.c_typed.specs.Chains.{graph_of, number_of, IsChain, IsLevel}
use Rattle.c_typed.specs.Trees.{Program}
use Rattle.c_typed.specs.declared.calls.FnId.{FnId}
use Rattle.c_typed.specs.declared.calls.FnId.TheVariants as callees
use Rattle.call_graph.specs.Copies.{AreCopies, IsCopy, StandsBefore, root_of, root_place}
use Rattle.call_graph.specs.Levels.{IsAcyclic}
use Rattle.call_graph.specs.Numbers.{handler_at}
use Rattle.call_graph.specs.declared.types.FnCopy.{FnCopy}
use Rattle.pic_world.specs.Roots.{same_root}
use Rattle.pic_world.specs.declared.Root.{Root}
use Rattle.pic_world.specs.declared.Root.TheVariants.{Main, Isr}
use Rattle.select_wide.specs.Blocks.{is_user}
use Rattle.src_rules.specs.Parts.{IsRunnable}
use Rattle.src_values.specs.Objects.{main_of}
use Rattle.headline_trace.proofs.Statics.{some_is}

pub at_is : (xs : List FnCopy) (i : ℕ) (x d : FnCopy) → slice_get xs i ≡ Some x → slice_index_or xs i d ≡ x
at_is [] i x d is = absurd (cc)
at_is (y ∷ xs) zero x d is = some_is y x is
at_is (y ∷ xs) (suc i) x d is = at_is xs i x d is

pub is_at : (xs : List FnCopy) (i : ℕ) (d : FnCopy) → i < length xs → slice_get xs i ≡ Some (slice_index_or xs i d)
is_at [] i d lt = absurd (omega arith)
is_at (y ∷ xs) zero d lt = refl
is_at (y ∷ xs) (suc i) d lt = is_at xs i d (omega arith)

none_long : (hs : List ℕ) → length hs ≡ 0 → hs ≡ []
none_long [] e = refl
none_long (h ∷ hs) e = absurd (omega arith)

own_function : (functions : ℕ) (f : FnId) (n : ℕ) → number_of functions f ≡ n → n < functions → is_user f ≡ true
own_function functions (callees.User g) n e lt = refl
own_function functions (callees.Helper h) n e lt = absurd (omega arith)

false_true : false ≡ true → ⊥
false_true e = absurd (cc)

apart : (a b : ℕ) → nat_lt a b ≡ false → nat_lt b a ≡ false → b ≡ a
apart a b l m = let x = ltb-false a b l in let y = ltb-false b a m in omega arith

module _ (p : Program) (copies : List FnCopy) (known : AreCopies p copies) (acyclic : IsAcyclic (graph_of p)) where
  abbrev own : Root → ℕ → FnCopy
  own r n = record { function = callees.User n; root = r; level = 0 }

  itself : (n : ℕ) → IsLevel (graph_of p) n n 0
  itself n = (([], refl, refl), short) where
    short : (hs : List ℕ) → IsChain (graph_of p) n hs n → length hs ≤ 0
    short [] chain = omega arith
    short (h ∷ hs) chain = absurd (acyclic n (h, hs, chain))

  own_there : (r : Root) (n : ℕ) → root_of p r ≡ Some n → n < length p.functions → Contains copies (own r n)
  own_there r n e lt = (known.exact (own r n)).1 (record { number = n; entered = e; one = lt; level = itself n })

  -- which of the numbers a copy that stands before the root's own has
  before_own : (r : Root) (n : ℕ) (copy : FnCopy) → IsCopy p copy → copy.root ≡ r → root_of p r ≡ Some n → StandsBefore (length p.functions) copy (own r n) → ⊥
  before_own r n copy is same e (inl lt) = let x = ap root_place same in omega arith
  before_own r n copy is same e (inr (also, inl lt)) = omega arith
  before_own r n copy is same e (inr (also, inr (low, lt))) =
      let chain = is.level.0 in
      let empty : chain.0 ≡ [] = none_long chain.0 (chain.2 ∙ low) in
      let at_once : is.number ≡ number_of (length p.functions) copy.function = subst (λ hs. IsChain (graph_of p) is.number hs (number_of (length p.functions) copy.function)) empty chain.1 in
      let number : is.number ≡ n = some_number is.number n (sym is.entered ∙ ap (root_of p) same ∙ e) in
      omega arith
    where
      some_number : (a b : ℕ) → Some a ≡ Some b → a ≡ b
      some_number a b h = some_is a b h

  -- the first copy under a root
  pub entered : (r : Root) (n c : ℕ) (copy : FnCopy) → root_of p r ≡ Some n → n < length p.functions → slice_get copies c ≡ Some copy → copy.root ≡ r
      → ((k : ℕ) (d : FnCopy) → k < c → (slice_index_or copies k d).root ≡ r → ⊥) → is_user copy.function ≡ true
  entered r n c copy e lt is same earlier = by (nat_lt there.0 c) (nat_lt c there.0) refl refl where
    there : Contains copies (own r n)
    there = own_there r n e lt

    copy_is : IsCopy p copy
    copy_is = (known.exact copy).0 (c, slice_get_within copies c copy is, at_is copies c copy copy is)

    by : (a b : Bool) → nat_lt there.0 c ≡ a → nat_lt c there.0 ≡ b → is_user copy.function ≡ true
    by true b less more = absurd (earlier there.0 (own r n) (ltb-true there.0 c less) (ap (λ (x : FnCopy). x.root) there.2))
    by false true less more =
        let stands = known.ordered c there.0 (own r n) (ltb-true c there.0 more) there.1 in
        let first = subst (λ (x : FnCopy). StandsBefore (length p.functions) x (slice_index_or copies there.0 (own r n))) (at_is copies c copy (own r n) is) stands in
        absurd (before_own r n copy copy_is same e (subst (λ (x : FnCopy). StandsBefore (length p.functions) copy x) there.2 first))
    by false false less more =
        let here : c ≡ there.0 = apart there.0 c less more in
        let x : copy ≡ own r n = sym (at_is copies c copy (own r n) is) ∙ ap (λ i. slice_index_or copies i (own r n)) here ∙ there.2 in
        ap (λ (y : FnCopy). is_user y.function) x

  -- main's copy is the first of all
  first_root : (d : FnCopy) (k : ℕ) → d.root ≡ Main → k < length copies → slice_index_or copies k d ≡ d → (slice_index_or copies 0 d).root ≡ Main
  first_root d zero main lt at = ap (λ (x : FnCopy). x.root) at ∙ main
  first_root d (suc k) main lt at =
      by (subst (λ (x : FnCopy). StandsBefore (length p.functions) (slice_index_or copies 0 d) x) at (known.ordered 0 (suc k) d (omega arith) lt)) where
        by : StandsBefore (length p.functions) (slice_index_or copies 0 d) d → (slice_index_or copies 0 d).root ≡ Main
        by (inl low) = let x = ap root_place main in absurd (omega arith)
        by (inr (same, rest)) = same ∙ main

  pub main_first : IsRunnable p → (copy : FnCopy) × (slice_get copies 0 ≡ Some copy) × (is_user copy.function ≡ true) × (copy.root ≡ Main)
  main_first runs =
      let there = own_there Main (main_of p) runs.main runs.main_there in
      let d = own Main (main_of p) in
      let first = slice_index_or copies 0 d in
      let k = there.0 in
      let within = there.1 in
      let is = is_at copies 0 d (omega arith) in
      let root = first_root d k refl within there.2 in
      (first, is, entered Main (main_of p) 0 first runs.main runs.main_there is root (λ k d lt same. absurd (omega arith)), root)

  is_inside : (r : Root) → same_root r Isr ≡ true → r ≡ Isr
  is_inside Main e = absurd (cc)
  is_inside Isr e = refl

  -- the handler's is that of a function
  pub handler_user : IsRunnable p → (c : ℕ) (copy : FnCopy) → handler_at copies ≡ Some c → slice_get copies c ≡ Some copy → is_user copy.function ≡ true
  handler_user runs c copy first is =
      let at = position-Some (λ (x : FnCopy). same_root x.root Isr) copies c copy first in
      let root : copy.root ≡ Isr = is_inside copy.root (sym (ap (λ (x : FnCopy). same_root x.root Isr) (at_is copies c copy copy is)) ∙ at.1) in
      let copied = (known.exact copy).0 (c, at.0, at_is copies c copy copy is) in
      let number : root_of p Isr ≡ Some copied.number = sym (ap (root_of p) root) ∙ copied.entered in
      entered Isr copied.number c copy number (runs.handler_there copied.number number) is root
      (λ k d lt same. let other = position-Some (λ (x : FnCopy). same_root x.root Isr) copies c d first in false_true (sym (other.2 k lt) ∙ ap (λ r. same_root r Isr) same))

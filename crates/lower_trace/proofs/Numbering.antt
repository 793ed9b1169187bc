-- Copies by their numbers: each copy that a root reaches has a number of its own, and there the list of copies has it.
use Rattle.std.proofs.Common.{◌≡◌, ℕ, zero, suc, ◌<◌, ◌≤◌, ◌⊎◌, inl, inr, Bool, true, false, ◌&&◌, nat_lt, nat_eq, List, [], ◌∷◌, length, Option, Some, None, slice_get, refl, sym, ap, ◌∙◌, subst, arith}
use Rattle.std.specs.Prelude.{slice_index_or, unwrap_or}
use Rattle.std.specs.List.{Contains, position}
use Rattle.std.proofs.lemmas.Bool.{ltb-true, ltb-false}
use Rattle.std.proofs.lemmas.Option.{same_Some, slice_get_within}
use Rattle.c_typed.specs.Chains.{graph_of, number_of, IsChain, IsLevel}
use Rattle.c_typed.specs.Trees.{Program, FunctionTree}
use Rattle.c_typed.specs.declared.calls.FnId.{FnId}
use Rattle.c_typed.specs.declared.calls.FnId.TheVariants as callee
use Rattle.call_graph.specs.Copies.{AreCopies, IsCopy, StandsBefore, root_of, root_place}
use Rattle.call_graph.specs.Levels.{IsAcyclic}
use Rattle.call_graph.specs.Numbers.{handler_at}
use Rattle.call_graph.specs.declared.types.FnCopy.{FnCopy}
use Rattle.pic_world.specs.Roots.{same_root}
use Rattle.pic_world.specs.declared.Root.{Root}
use Rattle.pic_world.specs.declared.Root.TheVariants.{Main, Isr}
use Rattle.src_rules.specs.Parts.{IsRunnable}
use Rattle.src_rules.specs.Standing.{IsReached, root_in}
use Rattle.src_rules.specs.Step.{copy_of}
use Rattle.src_values.specs.Objects.{function_at, or_no_function, handler_in, main_of}
use Rattle.src_values.specs.declared.objects.CopyOf.{CopyOf}
use Rattle.lower_trace.specs.Lowering.{is_of, copy_number}
use Rattle.lower_trace.proofs.Positions.{IsFound, is_found, first_before, at_index}
use Rattle.lower_trace.proofs.Reaches.{reached_copied, copy_once, same_level}
use Rattle.lower_trace.proofs.Written.{nat_same, same_nat, and_left, and_right, both, root_same}

root_is : (a b : Root) → same_root a b ≡ true → a ≡ b
root_is Main Main e = refl
root_is Main Isr e = absurd (cc)
root_is Isr Main e = absurd (cc)
root_is Isr Isr e = refl

user_is : (f : ℕ) (g : FnId) → is_of f g ≡ true → g ≡ callee.User f
user_is f (callee.User g) e = ap callee.User (same_nat g f e)
user_is f (callee.Helper h) e = absurd (cc)

pub users_same : (f g : ℕ) → callee.User f ≡ callee.User g → f ≡ g
users_same f g e = cc

pub roots_agree : (p : Program) (r : Root) → root_of p r ≡ root_in p r
roots_agree p Main = refl
roots_agree p Isr = refl

pub function_there : (p : Program) (f : ℕ) → f < length p.functions → slice_get p.functions f ≡ Some (function_at p f)
function_there p f lt = by p.functions f lt where
  by : (fs : List FunctionTree) (i : ℕ) → i < length fs → slice_get fs i ≡ Some (or_no_function (slice_get fs i))
  by [] i lt = absurd (omega (arith, lt))
  by (x ∷ fs) zero lt = refl
  by (x ∷ fs) (suc i) lt = by fs i (omega (arith, lt))

pub at_is : (xs : List FnCopy) (i : ℕ) (x d : FnCopy) → slice_get xs i ≡ Some x → slice_index_or xs i d ≡ x
at_is [] i x d is = absurd (cc)
at_is (y ∷ xs) zero x d is = same_Some y x is
at_is (y ∷ xs) (suc i) x d is = at_is xs i x d is

-- where the list has a copy
pub record IsNumbered (copies : List FnCopy) (c : CopyOf) : Type 0 where
  pub copy : FnCopy
  pub there : slice_get copies (copy_number copies c.root c.function) ≡ Some copy
  pub first : position (λ x. same_root x.root c.root && is_of c.function x.function) copies ≡ Some (copy_number copies c.root c.function)
  pub root : copy.root ≡ c.root
  pub is : copy.function ≡ callee.User c.function

found_numbered : (copies : List FnCopy) (c : CopyOf) → IsFound (λ x. same_root x.root c.root && is_of c.function x.function) copies → IsNumbered copies c
found_numbered copies c f =
    let number : copy_number copies c.root c.function ≡ f.at = ap (λ o. unwrap_or o 0) f.is in
    record {
      copy = f.element;
      there = ap (slice_get copies) number ∙ f.there;
      first = f.is ∙ ap Some (sym number);
      root = root_is f.element.root c.root (and_left (same_root f.element.root c.root) (is_of c.function f.element.function) f.passes);
      is = user_is c.function f.element.function (and_right (same_root f.element.root c.root) (is_of c.function f.element.function) f.passes);
    }

module _ (p : Program) (copies : List FnCopy) (known : AreCopies p copies) (acyclic : IsAcyclic (graph_of p)) where
  pub numbered : (c : CopyOf) → IsReached p c → IsNumbered copies c
  numbered c r =
      let x = reached_copied p copies known acyclic c.root r.root c.function (roots_agree p c.root ∙ r.entered) r.there r.chain.0 r.chain.1 in
      let passes : (same_root x.copy.root c.root && is_of c.function x.copy.function) ≡ true =
      ap (λ root. same_root root c.root && is_of c.function x.copy.function) x.under ∙ ap (λ f. same_root c.root c.root && is_of c.function f) x.is ∙ both (same_root c.root c.root) (is_of c.function (callee.User c.function)) (root_same c.root) (nat_same c.function) in
      found_numbered copies c (is_found (λ y. same_root y.root c.root && is_of c.function y.function) copies x.copy x.among passes)

  pub numbers_apart : (c d : CopyOf) → IsReached p c → IsReached p d → copy_number copies c.root c.function ≡ copy_number copies d.root d.function → c ≡ d
  numbers_apart c d x y e =
      let a = numbered c x in
      let b = numbered d y in
      let same : a.copy ≡ b.copy = same_Some a.copy b.copy (sym a.there ∙ ap (slice_get copies) e ∙ b.there) in
      let roots : c.root ≡ d.root = sym a.root ∙ ap (λ (i : FnCopy). i.root) same ∙ b.root in
      let functions : c.function ≡ d.function = users_same c.function d.function (sym a.is ∙ ap (λ (i : FnCopy). i.function) same ∙ b.is) in
      ap (λ i. record { root = i; function = c.function }) roots ∙ ap (λ i. record { root = d.root; function = i }) functions

  -- ---- the copies of roots
  itself : (n : ℕ) → IsLevel (graph_of p) n n 0
  itself n = (([], refl, refl), short) where
    short : (hs : List ℕ) → IsChain (graph_of p) n hs n → length hs ≤ 0
    short [] chain = omega arith
    short (h ∷ hs) chain = absurd (acyclic n (h, hs, chain))

  some_number : (a b : ℕ) → Some a ≡ Some b → a ≡ b
  some_number a b e = cc

  none_long : (hs : List ℕ) → length hs ≡ 0 → hs ≡ []
  none_long [] e = refl
  none_long (h ∷ hs) e = absurd (omega arith)

  own_level : (r : Root) (n : ℕ) (y : FnCopy) → root_of p r ≡ Some n → IsCopy p y → y.root ≡ r → y.function ≡ callee.User n → y.level ≡ 0
  own_level r n y e is root function =
      let number : is.number ≡ n = some_number is.number n (sym is.entered ∙ ap (root_of p) root ∙ e) in
      let here : IsLevel (graph_of p) n (number_of (length p.functions) y.function) y.level = subst (λ (i : ℕ). IsLevel (graph_of p) i (number_of (length p.functions) y.function) y.level) number is.level in
      let there : IsLevel (graph_of p) n n y.level = subst (λ (f : FnId). IsLevel (graph_of p) n (number_of (length p.functions) f) y.level) function here in
      same_level (graph_of p) n n y.level 0 there (itself n)

  -- no copy under a root stands before the root's own
  none_before : (r : Root) (n : ℕ) (x y : FnCopy) → root_of p r ≡ Some n → IsCopy p x → IsCopy p y → x.root ≡ r → y.root ≡ r → y.function ≡ callee.User n → StandsBefore (length p.functions) x y → ⊥
  none_before r n x y e a b xr yr function (inl lt) = let i = ap root_place xr in let j = ap root_place yr in omega arith
  none_before r n x y e a b xr yr function (inr (also, inl lt)) = let l = own_level r n y e b yr function in omega arith
  none_before r n x y e a b xr yr function (inr (also, inr (low, lt))) =
      let l = own_level r n y e b yr function in
      let chain = a.level.0 in
      let size = chain.2 in
      let empty : chain.0 ≡ [] = none_long chain.0 (omega (arith, size, low, l)) in
      let at_once : a.number ≡ number_of (length p.functions) x.function = subst (λ hs. IsChain (graph_of p) a.number hs (number_of (length p.functions) x.function)) empty chain.1 in
      let number : a.number ≡ n = some_number a.number n (sym a.entered ∙ ap (root_of p) xr ∙ e) in
      let own : number_of (length p.functions) y.function ≡ n = ap (number_of (length p.functions)) function in
      omega arith

  copy_at_is : (k : ℕ) (x : FnCopy) → slice_get copies k ≡ Some x → IsCopy p x
  copy_at_is k x there = (known.exact x).0 (k, slice_get_within copies k x there, at_is copies k x x there)

  stand_before : (i j : ℕ) (x y : FnCopy) → i < j → slice_get copies i ≡ Some x → slice_get copies j ≡ Some y → StandsBefore (length p.functions) x y
  stand_before i j x y lt a b =
      let s = known.ordered i j y lt (slice_get_within copies j y b) in
      subst (λ (e : FnCopy). StandsBefore (length p.functions) x e) (at_is copies j y y b)
      (subst (λ (e : FnCopy). StandsBefore (length p.functions) e (slice_index_or copies j y)) (at_is copies i x y a) s)

  not_less : (a b : ℕ) → a ≤ b → (a < b → ⊥) → a ≡ b
  not_less a b le no_less = by (nat_lt a b) refl where
    by : (t : Bool) → nat_lt a b ≡ t → a ≡ b
    by true e = absurd (no_less (ltb-true a b e))
    by false e = let ge = ltb-false a b e in omega (arith, le, ge)

  -- the handler's copy is the first under its root
  pub handler_numbered : (h : ℕ) → root_of p Isr ≡ Some h → IsReached p (copy_of Isr h) → handler_at copies ≡ Some (copy_number copies Isr h)
  handler_numbered h e r =
      let own = numbered (copy_of Isr h) r in
      let n = copy_number copies Isr h in
      let inside : (x : FnCopy) → x.root ≡ Isr → same_root x.root Isr ≡ true = λ x q. ap (λ i. same_root i Isr) q in
      let f = is_found (λ (x : FnCopy). same_root x.root Isr) copies own.copy (n, slice_get_within copies n own.copy own.there, at_is copies n own.copy own.copy own.there) (inside own.copy own.root) in
      let le = first_before (λ (x : FnCopy). same_root x.root Isr) copies n own.copy (slice_get_within copies n own.copy own.there) (ap (λ (x : FnCopy). same_root x.root Isr) (at_is copies n own.copy own.copy own.there) ∙ inside own.copy own.root) in
      f.is ∙ ap Some (not_less f.at n (let q = f.place in omega (arith, q, le))
      (λ lt. none_before Isr h f.element own.copy e (copy_at_is f.at f.element f.there) (copy_at_is n own.copy own.there) (root_is f.element.root Isr f.passes) own.root own.is (stand_before f.at n f.element own.copy lt f.there own.there)))

  -- main's is the first of all
  pub main_numbered : (n : ℕ) → root_of p Main ≡ Some n → IsReached p (copy_of Main n) → copy_number copies Main n ≡ 0
  main_numbered n e r =
      let own = numbered (copy_of Main n) r in
      let k = copy_number copies Main n in
      sym (not_less 0 k (omega arith) (λ lt.
      let within = slice_get_within copies k own.copy own.there in
      let x = slice_index_or copies 0 own.copy in
      let there : slice_get copies 0 ≡ Some x = at_index copies 0 own.copy (omega (arith, lt, within)) in
      let before = stand_before 0 k x own.copy lt there own.there in
      none_before Main n x own.copy e (copy_at_is 0 x there) (copy_at_is k own.copy own.there) (main_root x own.copy own.root before) own.root own.is before))
    where
      main_root : (x y : FnCopy) → y.root ≡ Main → StandsBefore (length p.functions) x y → x.root ≡ Main
      main_root x y root (inl lt) = let q = ap root_place root in absurd (omega (arith, lt, q))
      main_root x y root (inr s) = s.0 ∙ root

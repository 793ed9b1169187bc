-- The layout of a function's copy has the number of each function's copy under its root: of all copies of the list only one is a copy of
-- that function under that root.
use Rattle.std.proofs.Common.{◌≡◌, ℕ, zero, suc, ◌+◌, ◌<◌, inl, inr, List, [], ◌∷◌, length, replicate, Option, Some, None, slice_get, slice_set, refl, sym, ap, ◌∙◌, subst, ⊎_elim, arith}
use Rattle.std.proofs.lemmas.Bool.{cases_eq, cases_lt}
use Rattle.std.proofs.lemmas.List.{length-replicate, length-set}
use Rattle.std.proofs.lemmas.Option.{same_Some, slice_get_within}
use Rattle.std.specs.Prelude.{slice_index_or}
use Rattle.c_typed.specs.Chains.{graph_of, number_of}
use Rattle.c_typed.specs.Trees.{Program}
use Rattle.c_typed.specs.declared.calls.FnId.{FnId}
use Rattle.c_typed.specs.declared.calls.FnId.TheVariants as callee
use Rattle.call_graph.specs.Copies.{AreCopies, IsCopy, StandsBefore, root_place}
use Rattle.call_graph.specs.Levels.{IsAcyclic}
use Rattle.call_graph.specs.declared.types.FnCopy.{FnCopy}
use Rattle.lower_expr.specs.Layout.{copy_of as lowered_copy, copy_in}
use Rattle.lower_stmt.specs.Frames.{user_number, under_root, function_under, marked_at, marked}
use Rattle.pic_world.specs.declared.Root.{Root}
use Rattle.pic_world.specs.declared.Root.TheVariants.{Main, Isr}
use Rattle.src_rules.specs.Standing.{IsReached}
use Rattle.src_rules.specs.Step.{copy_of}
use Rattle.src_values.specs.declared.objects.CopyOf.{CopyOf}
use Rattle.lower_trace.specs.Lowering.{IsLowerable, copy_number}
use Rattle.lower_trace.proofs.CodeLeft.{Scene, number, ground_in}
use Rattle.lower_trace.proofs.Numbering.{numbered, at_is}
use Rattle.lower_trace.proofs.Reaches.{copy_once}

-- ---- slots
set_here : (xs : List (Option ℕ)) (f n : ℕ) → f < length xs → slice_get (slice_set xs f (Some n)) f ≡ Some (Some n)
set_here [] f n lt = absurd (omega arith)
set_here (x ∷ xs) zero n lt = refl
set_here (x ∷ xs) (suc f) n lt = set_here xs f n (omega (arith, lt))

set_other : (xs : List (Option ℕ)) (g f n : ℕ) → (g ≡ f → ⊥) → slice_get (slice_set xs g (Some n)) f ≡ slice_get xs f
set_other [] g f n far = refl
set_other (x ∷ xs) zero zero n far = absurd (far refl)
set_other (x ∷ xs) zero (suc f) n far = refl
set_other (x ∷ xs) (suc g) zero n far = refl
set_other (x ∷ xs) (suc g) (suc f) n far = set_other xs g f n (λ e. far (ap suc e))

-- each copy of the function under the root has this number, where the first of the list has that other one
abbrev IsOnly : Root → ℕ → ℕ → ℕ → List FnCopy → Type 0
IsOnly root f n first copies = (i : ℕ) (x : FnCopy) → slice_get copies i ≡ Some x → function_under root x ≡ Some f → first + i ≡ n

only_rest : (root : Root) (f n first : ℕ) (copy : FnCopy) (copies : List FnCopy) → IsOnly root f n first (copy ∷ copies) → IsOnly root f n (first + 1) copies
only_rest root f n first copy copies only i x there is = let q = only (suc i) x there is in omega (arith, q)

-- ---- marks
marked_length : (o : Option ℕ) (number : ℕ) (numbers : List (Option ℕ)) → length (marked_at o number numbers) ≡ length numbers
marked_length None number numbers = refl
marked_length (Some g) number numbers = length-set numbers g (Some number)

one_kept : (o : Option ℕ) (f n number : ℕ) (numbers : List (Option ℕ)) → (o ≡ Some f → number ≡ n) → slice_get numbers f ≡ Some (Some n) → slice_get (marked_at o number numbers) f ≡ Some (Some n)
one_kept None f n number numbers h e = e
one_kept (Some g) f n number numbers h e =
    ⊎_elim
    (λ same. ap (λ i. slice_get (slice_set numbers i (Some number)) f) same ∙ set_here numbers f number (slice_get_within numbers f (Some n) e) ∙ ap (λ i. Some (Some i)) (h (ap Some same)))
    (λ far. set_other numbers g f number far ∙ e)
    (cases_eq g f)

-- what is marked stays
marked_kept : (root : Root) (first f n : ℕ) (copies : List FnCopy) (numbers : List (Option ℕ)) → IsOnly root f n first copies → slice_get numbers f ≡ Some (Some n) → slice_get (marked root first copies numbers) f ≡ Some (Some n)
marked_kept root first f n [] numbers only e = e
marked_kept root first f n (copy ∷ copies) numbers only e =
    marked_kept root (first + 1) f n copies (marked_at (function_under root copy) first numbers) (only_rest root f n first copy copies only)
    (one_kept (function_under root copy) f n first numbers (λ u. let q = only zero copy refl u in omega (arith, q)) e)

-- a copy of the function under the root marks its slot
marked_found : (root : Root) (first f n : ℕ) (copies : List FnCopy) (numbers : List (Option ℕ)) (i : ℕ) (x : FnCopy) → IsOnly root f n first copies → f < length numbers → slice_get copies i ≡ Some x → function_under root x ≡ Some f → slice_get (marked root first copies numbers) f ≡ Some (Some n)
marked_found root first f n [] numbers i x only lt e u = absurd (cc)
marked_found root first f n (copy ∷ copies) numbers zero x only lt e u =
    let here : function_under root copy ≡ Some f = ap (function_under root) (same_Some copy x e) ∙ u in
    let own : first ≡ n = let q = only zero copy refl here in omega (arith, q) in
    marked_kept root (first + 1) f n copies (marked_at (function_under root copy) first numbers) (only_rest root f n first copy copies only)
    (ap (λ o. slice_get (marked_at o first numbers) f) here ∙ set_here numbers f first lt ∙ ap (λ j. Some (Some j)) own)
marked_found root first f n (copy ∷ copies) numbers (suc i) x only lt e u =
    let l = marked_length (function_under root copy) first numbers in
    marked_found root (first + 1) f n copies (marked_at (function_under root copy) first numbers) i x (only_rest root f n first copy copies only) (omega (arith, l, lt)) e u

-- ---- copies of one function under one root
under_own : (r : Root) (o : Option ℕ) → under_root r r o ≡ o
under_own Main o = refl
under_own Isr o = refl

under_is : (a b : Root) (o : Option ℕ) (f : ℕ) → under_root a b o ≡ Some f → (a ≡ b) × (o ≡ Some f)
under_is Main Main o f e = (refl, e)
under_is Main Isr o f e = absurd (cc)
under_is Isr Main o f e = absurd (cc)
under_is Isr Isr o f e = (refl, e)

user_is : (g : FnId) (f : ℕ) → user_number g ≡ Some f → g ≡ callee.User f
user_is (callee.User g) f e = ap callee.User (same_Some g f e)
user_is (callee.Helper h) f e = absurd (cc)

function_under_is : (root : Root) (f : ℕ) (x : FnCopy) → x.root ≡ root → x.function ≡ callee.User f → function_under root x ≡ Some f
function_under_is root f x r is = ap (λ q. under_root q root (user_number x.function)) r ∙ under_own root (user_number x.function) ∙ ap user_number is

module _ (p : Program) (copies : List FnCopy) (known : AreCopies p copies) (acyclic : IsAcyclic (graph_of p)) where
  copy_there : (k : ℕ) (x : FnCopy) → slice_get copies k ≡ Some x → IsCopy p x
  copy_there k x there = (known.exact x).0 (k, slice_get_within copies k x there, at_is copies k x x there)

  in_order : (i j : ℕ) (x y : FnCopy) → i < j → slice_get copies i ≡ Some x → slice_get copies j ≡ Some y → StandsBefore (length p.functions) x y
  in_order i j x y lt a b =
      let s = known.ordered i j y lt (slice_get_within copies j y b) in
      subst (λ (e : FnCopy). StandsBefore (length p.functions) x e) (at_is copies j y y b)
      (subst (λ (e : FnCopy). StandsBefore (length p.functions) e (slice_index_or copies j y)) (at_is copies i x y a) s)

  -- none of two copies of one function under one root stands before the other
  none_first : (x y : FnCopy) → IsCopy p x → IsCopy p y → x.root ≡ y.root → x.function ≡ y.function → StandsBefore (length p.functions) x y → ⊥
  none_first x y a b r f (inl lt) = let e = ap root_place r in omega (arith, e, lt)
  none_first x y a b r f (inr (same, inl lt)) = let l = copy_once p x y a b r f in omega (arith, l, lt)
  none_first x y a b r f (inr (same, inr (level, lt))) = let e = ap (number_of (length p.functions)) f in omega (arith, e, lt)

  one_place : (i j : ℕ) (x y : FnCopy) → slice_get copies i ≡ Some x → slice_get copies j ≡ Some y → x.root ≡ y.root → x.function ≡ y.function → i ≡ j
  one_place i j x y a b r f =
      ⊎_elim
      (λ less. absurd (none_first x y (copy_there i x a) (copy_there j y b) r f (in_order i j x y less a b)))
      (λ ge.
      ⊎_elim
      (λ more. absurd (none_first y x (copy_there j y b) (copy_there i x a) (sym r) (sym f) (in_order j i y x more b a)))
      (λ le. omega (arith, ge, le))
      (cases_lt j i))
      (cases_lt i j)

  only_copy : (c : CopyOf) → IsReached p c → IsOnly c.root c.function (copy_number copies c.root c.function) 0 copies
  only_copy c r i x there is =
      let own = numbered p copies known acyclic c r in
      let u = under_is x.root c.root (user_number x.function) c.function is in
      let same = one_place i (copy_number copies c.root c.function) x own.copy there own.there (u.0 ∙ sym own.root) (user_is x.function c.function u.1 ∙ sym own.is) in
      omega (arith, same)

  pub slot_is : (c : CopyOf) → IsReached p c → slice_get (marked c.root 0 copies (replicate (length p.functions) None)) c.function ≡ Some (Some (copy_number copies c.root c.function))
  slot_is c r =
      let own = numbered p copies known acyclic c r in
      let none : Option ℕ = None in
      let l = length-replicate (length p.functions) none in
      let there = r.there in
      marked_found c.root 0 c.function (copy_number copies c.root c.function) copies (replicate (length p.functions) None) (copy_number copies c.root c.function) own.copy (only_copy c r) (omega (arith, l, there)) own.there
      (function_under_is c.root c.function own.copy own.root own.is)

-- A call names the copy under its own root.
pub layout_number : (z : Scene) (given : IsLowerable z.program z.copies) (c : CopyOf) (f : ℕ) → IsReached z.program (copy_of c.root f) → lowered_copy (ground_in z c).layout f ≡ number z (copy_of c.root f)
unfolding ground_in
layout_number z given c f r = ap copy_in (slot_is z.program z.copies given.known given.acyclic (copy_of c.root f) r)

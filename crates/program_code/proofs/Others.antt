-- What a function calls has a copy whose frame has room for the parameters.
use Rattle.std.proofs.Common.{◌≡◌, ℕ, zero, suc, ◌+◌, ◌⊎◌, inl, inr, ◌≤◌, get_or, List, [], ◌∷◌, ◌++◌, length, map, replicate, Option, Some, None, slice_get, slice_set, refl, sym, ap, ◌∙◌, subst, arith}
use Rattle.std.proofs.lemmas.Option.{none-some, same_Some}
use Rattle.std.specs.List.{Contains}
use Rattle.c_typed.specs.Chains.{row_of, Calls, IsChain}
use Rattle.c_typed.specs.Fits.{params_of}
use Rattle.c_typed.specs.Room.{variables_bytes, frame_size}
use Rattle.c_typed.specs.Trees.{FunctionTree, Program}
use Rattle.c_typed.specs.declared.calls.FnId.{FnId}
use Rattle.c_typed.specs.declared.calls.FnId.TheVariants as callee
use Rattle.call_graph.specs.declared.types.FnCopy.{FnCopy}
use Rattle.lower_expr.specs.Layout.{copy_in, copy_of}
use Rattle.lower_stmt.specs.Frames.{user_number, under_root, function_under, marked_at, marked, layout_for}
use Rattle.pic_world.specs.declared.Root.{Root}
use Rattle.pic_world.specs.declared.Root.TheVariants.{Main, Isr}
use Rattle.ram_place.specs.Sizes.{frame_bytes, size_or_none}
use Rattle.program_code.specs.Naming.{Memory, HasBytes, CallsFit, HaveCopies}

-- ---- elements
abbrev pub Member : {A : Type 0} → A → List A → Type 0
Member x [] = ⊥
Member x (y ∷ ys) = (y ≡ x) ⊎ Member x ys

pub member_contained : {A : Type 0} (x : A) (xs : List A) → Member x xs → Contains xs x
member_contained x [] m = absurd m
member_contained x (y ∷ ys) (inl e) = (0, omega arith, e)
member_contained x (y ∷ ys) (inr m) = let c = member_contained x ys m in let l = c.1 in (suc c.0, omega (arith, l), c.2)

pub member_there : {A : Type 0} (xs : List A) (k : ℕ) (x : A) → slice_get xs k ≡ Some x → Member x xs
member_there [] k x e = absurd (none-some x e)
member_there (y ∷ ys) zero x e = inl (same_Some y x e)
member_there (y ∷ ys) (suc k) x e = inr (member_there ys k x e)

pub member_mapped : {A B : Type 0} (g : A → B) (x : A) (xs : List A) → Member x xs → Member (g x) (map g xs)
member_mapped g x [] m = absurd m
member_mapped g x (y ∷ ys) (inl e) = inl (ap g e)
member_mapped g x (y ∷ ys) (inr m) = inr (member_mapped g x ys m)

-- ---- the marks of copies
set_cases : (marks : List (Option ℕ)) (h n g k : ℕ) → slice_get (slice_set marks h (Some n)) g ≡ Some (Some k) → (slice_get marks g ≡ Some (Some k)) ⊎ ((h ≡ g) × (n ≡ k))
set_cases [] h n g k e = absurd (none-some (Some k) e)
set_cases (x ∷ xs) zero n zero k e = inr (refl, same_Some n k (same_Some (Some n) (Some k) e))
set_cases (x ∷ xs) zero n (suc g) k e = inl e
set_cases (x ∷ xs) (suc h) n zero k e = inl e
set_cases (x ∷ xs) (suc h) n (suc g) k e = by_cases (set_cases xs h n g k e)
  where
    by_cases : (slice_get xs g ≡ Some (Some k)) ⊎ ((h ≡ g) × (n ≡ k)) → (slice_get xs g ≡ Some (Some k)) ⊎ ((suc h ≡ suc g) × (n ≡ k))
    by_cases (inl f) = inl f
    by_cases (inr f) = inr (ap (λ m. suc m) f.0, f.1)

mark_cases : (o : Option ℕ) (marks : List (Option ℕ)) (n g k : ℕ) → slice_get (marked_at o n marks) g ≡ Some (Some k) → (slice_get marks g ≡ Some (Some k)) ⊎ ((o ≡ Some g) × (n ≡ k))
mark_cases None marks n g k e = inl e
mark_cases (Some h) marks n g k e = by_cases (set_cases marks h n g k e)
  where
    by_cases : (slice_get marks g ≡ Some (Some k)) ⊎ ((h ≡ g) × (n ≡ k)) → (slice_get marks g ≡ Some (Some k)) ⊎ ((Some h ≡ Some g) × (n ≡ k))
    by_cases (inl f) = inl f
    by_cases (inr f) = inr (ap (λ m. Some m) f.0, f.1)

-- a mark is that of a copy in the list
abbrev IsMark : Root → List FnCopy → ℕ → ℕ → ℕ → Type 0
IsMark root copies n g k = (j : ℕ) × (c : FnCopy) × (k ≡ n + j) × (slice_get copies j ≡ Some c) × (function_under root c ≡ Some g)

mark_there : (root : Root) (copies : List FnCopy) (marks : List (Option ℕ)) (n g k : ℕ) → slice_get (marked root n copies marks) g ≡ Some (Some k) → (slice_get marks g ≡ Some (Some k)) ⊎ IsMark root copies n g k
mark_there root [] marks n g k e = inl e
mark_there root (c ∷ copies) marks n g k e = by_later (mark_there root copies (marked_at (function_under root c) n marks) (n + 1) g k e)
  where
    by_here : (slice_get marks g ≡ Some (Some k)) ⊎ ((function_under root c ≡ Some g) × (n ≡ k)) → (slice_get marks g ≡ Some (Some k)) ⊎ IsMark root (c ∷ copies) n g k
    by_here (inl f) = inl f
    by_here (inr f) = let e = f.1 in inr (0, c, omega (arith, e), refl, f.0)

    by_later : (slice_get (marked_at (function_under root c) n marks) g ≡ Some (Some k)) ⊎ IsMark root copies (n + 1) g k → (slice_get marks g ≡ Some (Some k)) ⊎ IsMark root (c ∷ copies) n g k
    by_later (inl f) = by_here (mark_cases (function_under root c) marks n g k f)
    by_later (inr f) = let e = f.2 in inr (suc f.0, f.1, omega (arith, e), f.3, f.4)

none_marked : (n g k : ℕ) → slice_get (replicate n None) g ≡ Some (Some k) → ⊥
none_marked zero g k e = none-some (Some k) e
none_marked (suc n) zero k e = none-some k (same_Some None (Some k) e)
none_marked (suc n) (suc g) k e = none_marked n g k e

under_is : (a b : Root) (function g : ℕ) → under_root a b (Some function) ≡ Some g → function ≡ g
under_is Main Main function g e = same_Some function g e
under_is Main Isr function g e = absurd (none-some g e)
under_is Isr Main function g e = absurd (none-some g e)
under_is Isr Isr function g e = same_Some function g e

-- ---- chains
pub chain_more : (graph : List (List ℕ)) (r : ℕ) (hs : List ℕ) (g h : ℕ) → IsChain graph r hs g → Calls graph g h → IsChain graph r (hs ++ h ∷ []) h
chain_more graph r [] g h e calls = (subst (λ (k : ℕ). Calls graph k h) (sym e) calls, refl)
chain_more graph r (k ∷ hs) g h e calls = (e.0, chain_more graph k hs g h e.1 calls)

pub row_there : (n : ℕ) (fs : List FunctionTree) (more : List (List ℕ)) (k : ℕ) (f : FunctionTree) → slice_get fs k ≡ Some f → get_or (map (row_of n) fs ++ more) k [] ≡ row_of n f
row_there n [] more k f e = absurd (none-some f e)
row_there n (g ∷ fs) more zero f e = ap (row_of n) (same_Some g f e)
row_there n (g ∷ fs) more (suc k) f e = row_there n fs more k f e

none_under : (a b : Root) (g : ℕ) → under_root a b None ≡ Some g → ⊥
none_under Main Main g e = none-some g e
none_under Main Isr g e = none-some g e
none_under Isr Main g e = none-some g e
none_under Isr Isr g e = none-some g e

user_is : (a b : Root) (id : FnId) (g : ℕ) → under_root a b (user_number id) ≡ Some g → id ≡ callee.User g
user_is a b (callee.User function) g e = ap (λ (n : ℕ). callee.User n) (under_is a b function g e)
user_is a b (callee.Helper helper) g e = absurd (none_under a b g e)

-- a function's frame has room for its parameters
params_fit : (p : Program) (o : Option FunctionTree) → variables_bytes p.sizes (params_of o) ≤ size_or_none (frame_size p.sizes) o
params_fit p None = omega arith
params_fit p (Some g) = omega arith

module _ (p : Program) (copies : List FnCopy) (memory : Memory) (root : Root) (f : FunctionTree) (frames : (k : ℕ) (c : FnCopy) → slice_get copies k ≡ Some c → memory.frames k ≡ Some (frame_bytes p c.function)) where
  mark_fits : (g k : ℕ) → IsMark root copies 0 g k → HasBytes (memory.frames k) (variables_bytes p.sizes (params_of (slice_get p.functions g)))
  mark_fits g k mark =
      let at = mark.2 in
      let place : k ≡ mark.0 = omega (arith, at) in
      let there : slice_get copies k ≡ Some mark.1 = ap (slice_get copies) place ∙ mark.3 in
      let is = user_is mark.1.root root mark.1.function g mark.4 in
      let room = frames k mark.1 there ∙ ap (λ (id : FnId). Some (frame_bytes p id)) is in
      subst (λ (o : Option ℕ). HasBytes o (variables_bytes p.sizes (params_of (slice_get p.functions g)))) (sym room) (params_fit p (slice_get p.functions g))

  called_fits : (g k : ℕ) → slice_get (layout_for p copies root f).copies g ≡ Some (Some k) → HasBytes (memory.frames k) (variables_bytes p.sizes (params_of (slice_get p.functions g)))
  called_fits g k e = by_mark (mark_there root copies (replicate (length p.functions) None) 0 g k e)
    where
      by_mark : (slice_get (replicate (length p.functions) None) g ≡ Some (Some k)) ⊎ IsMark root copies 0 g k → HasBytes (memory.frames k) (variables_bytes p.sizes (params_of (slice_get p.functions g)))
      by_mark (inl none) = absurd (none_marked (length p.functions) g k none)
      by_mark (inr mark) = mark_fits g k mark

  -- what is called has a copy with room for its parameters
  pub calls_fit : (ids : List FnId) → HaveCopies (layout_for p copies root f).copies ids → CallsFit p memory (copy_of (layout_for p copies root f)) ids
  calls_fit [] h = tt
  calls_fit (callee.User g ∷ ids) h =
      let mark = h.0 in
      let copy_is : copy_of (layout_for p copies root f) g ≡ mark.0 = ap copy_in mark.1 in
      (subst (λ (k : ℕ). HasBytes (memory.frames k) (variables_bytes p.sizes (params_of (slice_get p.functions g)))) (sym copy_is) (called_fits g mark.0 mark.1), calls_fit ids h.1)
  calls_fit (callee.Helper helper ∷ ids) h = calls_fit ids h

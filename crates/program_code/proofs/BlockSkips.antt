-- Each block behind the start block is that of a copy, and each body is that of a copy's function.
use Rattle.std.proofs.Common.{◌≡◌, ℕ, zero, suc, ◌+◌, ◌⊎◌, inl, inr, Bool, true, false, nat_eq, if◌then◌else◌, List, [], ◌∷◌, ◌++◌, map, Option, Some, None, refl, sym, ap, ◌∙◌, subst, ⊎_elim, arith}
use Rattle.std.specs.Prelude.{slice_get}
use Rattle.std.proofs.lemmas.List.Sorted.{Contains-permutation, IsPermutation-sym}
use Rattle.c_typed.specs.Trees.{FunctionTree, Program}
use Rattle.c_typed.specs.declared.calls.FnId.{FnId}
use Rattle.c_typed.specs.declared.calls.FnId.TheVariants as callees
use Rattle.call_graph.specs.declared.types.FnCopy.{FnCopy}
use Rattle.core_code.specs.declared.code.Body.{Body}
use Rattle.core_code.specs.declared.code.CoreProgram.{CoreProgram}
use Rattle.lower_stmt.specs.Bodies.{BodyTree, body_of, code_of, bodies_for, bodies_from, bodies_of}
use Rattle.math_helpers.specs.Routines.{helper_code}
use Rattle.pic_world.specs.declared.Root.{Root}
use Rattle.program_code.specs.Joined.{IsJoined, helper_for, helper_at, helpers_from}
use Rattle.select_wide.specs.Blocks.{is_user, body_at, code_by, block_at, blocks_from, views_of}
use Rattle.sym_code.specs.declared.code.BlockName.{BlockName}
use Rattle.sym_code.specs.declared.code.BlockName.TheVariants.{Copy}
use Rattle.sym_code.specs.declared.code.Sym.{Sym}
use Rattle.sym_code.specs.declared.code.SymBlock.{SymBlock}
use Rattle.program_code.proofs.SkipMembers.{Has, has_of, of_has, has_either, map_has}

abbrev View : Type 0
View = BlockName × List Sym

-- the code of a copy's block
abbrev pub code_for : List Body → List FnCopy → ℕ → Root → FnId → List Sym
code_for bodies all number root (callees.User f) = code_by all number (body_at bodies number)
code_for bodies all number root (callees.Helper h) = helper_code h root number

-- ---- blocks
module _ (bodies : List Body) (all : List FnCopy) where
  -- what a view is of
  pub record IsOf (list : List Sym) : Type 0 where
    pub number : ℕ
    pub root : Root
    pub function : FnId
    pub is : list ≡ code_for bodies all number root function

  of_view : (number : ℕ) (root : Root) (f : FnId) (view : View) → (Copy number, code_for bodies all number root f) ≡ view → IsOf view.1
  of_view number root f view e = record { number = number; root = root; function = f; is = sym (ap (λ (v : View). v.1) e) }

  block_entry : (from : ℕ) (root : Root) (f : FnId) (view : View) → Has (if is_user f then (Copy from, code_by all from (body_at bodies from)) ∷ [] else []) view → IsOf view.1
  block_entry from root (callees.User g) view (inl e) = of_view from root (callees.User g) view e
  block_entry from root (callees.User g) view (inr h) = absurd h
  block_entry from root (callees.Helper g) view h = absurd h

  helper_entry : (from : ℕ) (root : Root) (f : FnId) (view : View) → Has (helper_for from root f) view → IsOf view.1
  helper_entry from root (callees.User g) view h = absurd h
  helper_entry from root (callees.Helper g) view (inl e) = of_view from root (callees.Helper g) view e
  helper_entry from root (callees.Helper g) view (inr h) = absurd h

  of_blocks : (from : ℕ) (list : List FnCopy) (view : View) → Has (blocks_from bodies all from list) view → IsOf view.1
  of_blocks from [] view h = absurd h
  of_blocks from (copy ∷ list) view h =
      ⊎_elim (λ l. block_entry from copy.root copy.function view l) (λ r. of_blocks (from + 1) list view r)
      (has_either (block_at bodies all from copy) (blocks_from bodies all (from + 1) list) view h)

  of_helpers : (from : ℕ) (list : List FnCopy) (view : View) → Has (helpers_from from list) view → IsOf view.1
  of_helpers from [] view h = absurd h
  of_helpers from (copy ∷ list) view h =
      ⊎_elim (λ l. helper_entry from copy.root copy.function view l) (λ r. of_helpers (from + 1) list view r)
      (has_either (helper_at from copy) (helpers_from (from + 1) list) view h)

module _ (core : CoreProgram) (copies : List FnCopy) (blocks : List SymBlock) (joined : IsJoined core copies blocks) where
  pub is_of : (b : SymBlock) → Has joined.order b → IsOf core.bodies.items copies b.list.items
  is_of b has =
      let back = has_of joined.made b (Contains-permutation joined.order joined.made b (IsPermutation-sym joined.made joined.order joined.same) (of_has joined.order b has)) in
      let view = subst (λ vs. Has vs (b.name, b.list.items)) joined.views (map_has (λ (block : SymBlock). (block.name, block.list.items)) joined.made b back) in
      ⊎_elim (of_blocks core.bodies.items copies 0 copies (b.name, b.list.items)) (of_helpers core.bodies.items copies 0 copies (b.name, b.list.items))
      (has_either (blocks_from core.bodies.items copies 0 copies) (helpers_from 0 copies) _ view)

-- ---- bodies
module _ (p : Program) (copies : List FnCopy) where
  -- a body is that of a copy's function
  pub record IsBodyOf (body : BodyTree) : Type 0 where
    pub number : ℕ
    pub found : Option FunctionTree
    pub is : body.code ≡ code_of p copies number body.root found

  of_entry : (from : ℕ) (root : Root) (f : FnId) (body : BodyTree) → Has (bodies_for p copies from root f) body → IsBodyOf body
  of_entry from root (callees.User f) body (inl e) = record {
    number = from;
    found = slice_get p.functions f;
    is = sym (ap (λ (t : BodyTree). t.code) e) ∙ ap (λ (r : Root). code_of p copies from r (slice_get p.functions f)) (ap (λ (t : BodyTree). t.root) e);
  }
  of_entry from root (callees.User f) body (inr h) = absurd h
  of_entry from root (callees.Helper h) body has = absurd has

  of_bodies : (from : ℕ) (list : List FnCopy) (body : BodyTree) → Has (bodies_from p copies from list) body → IsBodyOf body
  of_bodies from [] body h = absurd h
  of_bodies from (copy ∷ list) body h =
      ⊎_elim (λ l. of_entry from copy.root copy.function body l) (λ r. of_bodies (from + 1) list body r)
      (has_either (bodies_for p copies from copy.root copy.function) (bodies_from p copies (from + 1) list) body h)

pub at_is : (bodies : List Body) (c : ℕ) (body : Body) → body_at bodies c ≡ Some body → Has bodies body
at_is [] c body is = absurd (cc)
at_is (x ∷ bodies) c body is = by (nat_eq x.copy c) is (at_is bodies c body) where
  some_body : (y z : Body) → Some y ≡ Some z → y ≡ z
  some_body y z e = ap or_y e where
    or_y : Option Body → Body
    or_y None = y
    or_y (Some w) = w

  by : (t : Bool) → (if t then Some x else body_at bodies c) ≡ Some body → (body_at bodies c ≡ Some body → Has bodies body) → Has (x ∷ bodies) body
  by true e below = inl (some_body x body e)
  by false e below = inr (below e)

pub of_body : (p : Program) (copies : List FnCopy) (bodies : List Body) → map body_of bodies ≡ bodies_of p copies → (c : ℕ) (body : Body) → body_at bodies c ≡ Some body → IsBodyOf p copies (body_of body)
of_body p copies bodies lowered c body is = of_bodies p copies 0 copies (body_of body) (subst (λ bs. Has bs (body_of body)) lowered (map_has body_of bodies body (at_is bodies c body is)))

-- Of which copy each block is, and that each copy has one.
use Rattle.std.proofs.Common.{◌≡◌, ℕ, zero, suc, ◌+◌, ◌⊎◌, inl, inr, if◌then◌else◌, List, [], ◌∷◌, ◌++◌, Some, refl, sym, ap, ◌∙◌, subst, ⊎_elim, arith}
use Rattle.std.specs.Prelude.{slice_get}
use Rattle.std.proofs.lemmas.List.Sorted.{Contains-permutation, IsPermutation-sym}
use Rattle.std.proofs.lemmas.Option.{same_Some}
use Rattle.c_typed.specs.declared.calls.FnId.{FnId}
use Rattle.c_typed.specs.declared.calls.FnId.TheVariants as callees
use Rattle.call_graph.specs.Numbers.{handler_at}
use Rattle.call_graph.specs.declared.types.FnCopy.{FnCopy}
use Rattle.core_code.specs.declared.code.Body.{Body}
use Rattle.core_code.specs.declared.code.CoreProgram.{CoreProgram}
use Rattle.isr_save.specs.Start.{start_code}
use Rattle.math_helpers.specs.Routines.{helper_code}
use Rattle.pic_world.specs.declared.Root.{Root}
use Rattle.program_code.specs.Joined.{IsJoined, helper_for, helper_at, helpers_from}
use Rattle.select_wide.specs.Blocks.{is_user, body_at, code_by, block_at, blocks_from, views_of}
use Rattle.sym_code.specs.declared.code.BlockName.{BlockName}
use Rattle.sym_code.specs.declared.code.BlockName.TheVariants.{Copy}
use Rattle.sym_code.specs.declared.code.Sym.{Sym}
use Rattle.sym_code.specs.declared.code.SymBlock.{SymBlock}
use Rattle.program_code.proofs.TargetMembers.{Has, has_of, of_has, has_left, has_right, has_either, has_map, map_has, get_has, has_get}

-- the code of a copy's block: that of its body, or its routine
abbrev pub code_for : List Body → List FnCopy → ℕ → Root → FnId → List Sym
code_for bodies copies number root (callees.User function) = code_by copies number (body_at bodies number)
code_for bodies copies number root (callees.Helper helper) = helper_code helper root number

abbrev View : Type 0
View = BlockName × List Sym

module _ (bodies : List Body) (all : List FnCopy) where
  -- ---- each entry is that of a copy
  pub record IsOf (from : ℕ) (list : List FnCopy) (view : View) : Type 0 where
    pub place : ℕ
    pub copy : FnCopy
    pub there : slice_get list place ≡ Some copy
    pub is : view ≡ (Copy (from + place), code_for bodies all (from + place) copy.root copy.function)

  later_of : (from : ℕ) (copy : FnCopy) (list : List FnCopy) (view : View) → IsOf (from + 1) list view → IsOf from (copy ∷ list) view
  later_of from copy list view o =
      let z : from + 1 + o.place ≡ from + suc o.place = omega arith in
      record { place = suc o.place; copy = o.copy; there = o.there; is = o.is ∙ ap (λ n. (Copy n, code_for bodies all n o.copy.root o.copy.function)) z }

  first_of : (from : ℕ) (copy : FnCopy) (list : List FnCopy) (view : View) → (Copy from, code_for bodies all from copy.root copy.function) ≡ view → IsOf from (copy ∷ list) view
  first_of from copy list view e =
      let z : from ≡ from + 0 = omega arith in
      record { place = 0; copy = copy; there = refl; is = sym e ∙ ap (λ n. (Copy n, code_for bodies all n copy.root copy.function)) z }

  block_entry : (from : ℕ) (root : Root) (f : FnId) (view : View) → Has (if is_user f then (Copy from, code_by all from (body_at bodies from)) ∷ [] else []) view → (Copy from, code_for bodies all from root f) ≡ view
  block_entry from root (callees.User g) view (inl e) = e
  block_entry from root (callees.User g) view (inr h) = absurd h
  block_entry from root (callees.Helper g) view h = absurd h

  helper_entry : (from : ℕ) (root : Root) (f : FnId) (view : View) → Has (helper_for from root f) view → (Copy from, code_for bodies all from root f) ≡ view
  helper_entry from root (callees.User g) view h = absurd h
  helper_entry from root (callees.Helper g) view (inl e) = e
  helper_entry from root (callees.Helper g) view (inr h) = absurd h

  of_blocks : (from : ℕ) (list : List FnCopy) (view : View) → Has (blocks_from bodies all from list) view → IsOf from list view
  of_blocks from [] view h = absurd h
  of_blocks from (copy ∷ list) view h =
      ⊎_elim (λ l. first_of from copy list view (block_entry from copy.root copy.function view l)) (λ r. later_of from copy list view (of_blocks (from + 1) list view r))
      (has_either (block_at bodies all from copy) (blocks_from bodies all (from + 1) list) view h)

  of_helpers : (from : ℕ) (list : List FnCopy) (view : View) → Has (helpers_from from list) view → IsOf from list view
  of_helpers from [] view h = absurd h
  of_helpers from (copy ∷ list) view h =
      ⊎_elim (λ l. first_of from copy list view (helper_entry from copy.root copy.function view l)) (λ r. later_of from copy list view (of_helpers (from + 1) list view r))
      (has_either (helper_at from copy) (helpers_from (from + 1) list) view h)

  -- ---- each copy has an entry
  entry_at : (from : ℕ) (root : Root) (f : FnId) → Has {A = View} (if is_user f then (Copy from, code_by all from (body_at bodies from)) ∷ [] else []) (Copy from, code_for bodies all from root f)
      ⊎ Has {A = View} (helper_for from root f) (Copy from, code_for bodies all from root f)
  entry_at from root (callees.User g) = inl (inl refl)
  entry_at from root (callees.Helper h) = inr (inl refl)

  Found : ℕ → List FnCopy → View → Type 0
  Found from list view = Has (blocks_from bodies all from list) view ⊎ Has (helpers_from from list) view

  has_view : (from : ℕ) (list : List FnCopy) (i : ℕ) (copy : FnCopy) → slice_get list i ≡ Some copy → Found from list (Copy (from + i), code_for bodies all (from + i) copy.root copy.function)
  unfolding Found
  has_view from [] i copy is = absurd (cc)
  has_view from (x ∷ list) zero copy is =
      let z : from ≡ from + 0 = omega arith in
      let same : x ≡ copy = same_Some x copy is in
      subst (λ n. Found from (x ∷ list) (Copy n, code_for bodies all n copy.root copy.function)) z
      (subst (λ (c : FnCopy). Found from (x ∷ list) (Copy from, code_for bodies all from c.root c.function)) same
      (⊎_elim (λ l. inl (has_left _ _ _ l)) (λ r. inr (has_left _ _ _ r)) (entry_at from x.root x.function)))
  has_view from (x ∷ list) (suc i) copy is =
      let z : from + 1 + i ≡ from + suc i = omega arith in
      subst (λ n. Found from (x ∷ list) (Copy n, code_for bodies all n copy.root copy.function)) z
      (⊎_elim (λ l. inl (has_right _ _ _ l)) (λ r. inr (has_right _ _ _ r)) (has_view (from + 1) list i copy is))

module _ (core : CoreProgram) (copies : List FnCopy) (blocks : List SymBlock) (joined : IsJoined core copies blocks) where
  abbrev bodies : List Body
  bodies = core.bodies.items

  -- a block behind the start block is that of a copy
  is_of : (b : SymBlock) → Has joined.order b → IsOf bodies copies 0 copies (b.name, b.list.items)
  is_of b has =
      let back = has_of joined.made b (Contains-permutation joined.order joined.made b (IsPermutation-sym joined.made joined.order joined.same) (of_has joined.order b has)) in
      let view = subst (λ vs. Has vs (b.name, b.list.items)) joined.views (map_has (λ (block : SymBlock). (block.name, block.list.items)) joined.made b back) in
      ⊎_elim (of_blocks bodies copies 0 copies (b.name, b.list.items)) (of_helpers bodies copies 0 copies (b.name, b.list.items)) (has_either (blocks_from bodies copies 0 copies) (helpers_from 0 copies) _ view)

  pub record IsOfCopy (b : SymBlock) : Type 0 where
    pub number : ℕ
    pub copy : FnCopy
    pub there : slice_get copies number ≡ Some copy
    pub code : b.list.items ≡ code_for bodies copies number copy.root copy.function

  -- each block is the start block or that of a copy
  pub block_kind : (k : ℕ) (b : SymBlock) → slice_get blocks k ≡ Some b → (b.list.items ≡ start_code (handler_at copies) core.statics.items) ⊎ IsOfCopy b
  block_kind k b is = by k (sym (ap (λ (list : List SymBlock). slice_get list k) joined.whole) ∙ is) where
    by : (i : ℕ) → slice_get (joined.start ∷ joined.order) i ≡ Some b → (b.list.items ≡ start_code (handler_at copies) core.statics.items) ⊎ IsOfCopy b
    by zero e = inl (ap (λ (x : SymBlock). x.list.items) (sym (same_Some joined.start b e)) ∙ joined.exact)
    by (suc i) e =
        let o = is_of b (get_has joined.order i b e) in
        let z : 0 + o.place ≡ o.place = omega arith in
        inr (record { number = o.place; copy = o.copy; there = o.there; code = ap (λ (v : View). v.1) o.is ∙ ap (λ n. code_for bodies copies n o.copy.root o.copy.function) z })

  pub start_there : slice_get blocks 0 ≡ Some joined.start
  start_there = ap (λ (list : List SymBlock). slice_get list 0) joined.whole

  in_either : (v : View) → Found bodies copies 0 copies v → Has (blocks_from bodies copies 0 copies ++ helpers_from 0 copies) v
  unfolding Found
  in_either v (inl h) = has_left (blocks_from bodies copies 0 copies) (helpers_from 0 copies) v h
  in_either v (inr h) = has_right (blocks_from bodies copies 0 copies) (helpers_from 0 copies) v h

  pub record HasBlock (name : BlockName) : Type 0 where
    pub place : ℕ
    pub block : SymBlock
    pub there : slice_get blocks place ≡ Some block
    pub named : block.name ≡ name

  -- and each copy has a block
  pub copy_block : (c : ℕ) (copy : FnCopy) → slice_get copies c ≡ Some copy → HasBlock (Copy c)
  copy_block c copy is =
      let v : View = (Copy (0 + c), code_for bodies copies (0 + c) copy.root copy.function) in
      let there : Has (views_of joined.made) v = subst (λ vs. Has vs v) (sym joined.views) (in_either v (has_view bodies copies 0 copies c copy is)) in
      let x = has_map (λ (block : SymBlock). (block.name, block.list.items)) joined.made v there in
      let z : 0 + c ≡ c = omega arith in
      let at = has_get joined.order x.0 (has_of joined.order x.0 (Contains-permutation joined.made joined.order x.0 joined.same (of_has joined.made x.0 x.1))) in
      record {
        place = suc at.0;
        block = x.0;
        there = ap (λ (list : List SymBlock). slice_get list (suc at.0)) joined.whole ∙ at.1;
        named = ap (λ (w : View). w.0) x.2 ∙ ap Copy z;
      }

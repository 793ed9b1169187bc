-- Each copy has its block, by its number.
use Rattle.std.proofs.Common.{◌≡◌, ℕ, zero, suc, ◌+◌, ◌⊎◌, inl, inr, Bool, true, false, List, [], ◌∷◌, ◌++◌, Option, Some, None, refl, sym, ap, ◌∙◌, subst, ⊎_elim, arith}
use Rattle.std.specs.Prelude.{slice_get, if◌then◌else◌}
use Rattle.std.proofs.lemmas.Bool.{eqb-true, eq-eqb}
use Rattle.std.proofs.lemmas.List.Sorted.{Contains-permutation, IsPermutation-sym}
use Rattle.c_typed.specs.declared.calls.FnId.{FnId}
use Rattle.c_typed.specs.declared.calls.FnId.TheVariants as callees
use Rattle.call_graph.specs.Numbers.{handler_at}
use Rattle.call_graph.specs.declared.types.FnCopy.{FnCopy}
use Rattle.core_code.specs.declared.code.Body.{Body}
use Rattle.core_code.specs.declared.code.CoreProgram.{CoreProgram}
use Rattle.isr_save.specs.Start.{start_code}
use Rattle.pic_world.specs.declared.Root.{Root}
use Rattle.program_code.specs.Joined.{IsJoined, helper_for, helper_at, helpers_from}
use Rattle.select_wide.specs.Blocks.{is_user, body_at, code_by, block_at, blocks_from, views_of}
use Rattle.sym_code.specs.Programs.{block_in, same_name}
use Rattle.sym_code.specs.declared.code.BlockName.{BlockName}
use Rattle.sym_code.specs.declared.code.BlockName.TheVariants.{Start, Copy}
use Rattle.sym_code.specs.declared.code.Sym.{Sym}
use Rattle.sym_code.specs.declared.code.SymBlock.{SymBlock}
use Rattle.headline_trace.specs.Passed.{code_of}
use Rattle.headline_trace.proofs.Members.{Has, has_of, of_has, has_left, has_right, has_either, has_map, map_has}

-- ---- names
pub names_same : (a b : BlockName) → same_name a b ≡ true → a ≡ b
names_same Start Start e = refl
names_same Start (Copy d) e = absurd (cc)
names_same (Copy c) Start e = absurd (cc)
names_same (Copy c) (Copy d) e = ap Copy (eqb-true c d e)

pub name_itself : (a : BlockName) → same_name a a ≡ true
name_itself Start = refl
name_itself (Copy c) = eq-eqb c c refl

pub some_back : (x y : FnCopy) → Some x ≡ Some y → x ≡ y
some_back x y e = ap or_x e where
  or_x : Option FnCopy → FnCopy
  or_x None = x
  or_x (Some z) = z

abbrev View : Type 0
View = BlockName × List Sym

-- ---- the entries of all copies
module _ (bodies : List Body) (all : List FnCopy) where
  -- what a view is of
  pub record IsOf (from : ℕ) (list : List FnCopy) (view : View) : Type 0 where
    pub place : ℕ
    pub copy : FnCopy
    pub there : slice_get list place ≡ Some copy
    pub is : view ≡ (Copy (from + place), code_of bodies all (from + place) copy.root copy.function)

  later_of : (from : ℕ) (copy : FnCopy) (list : List FnCopy) (view : View) → IsOf (from + 1) list view → IsOf from (copy ∷ list) view
  later_of from copy list view o =
      let z : from + 1 + o.place ≡ from + suc o.place = omega arith in
      record { place = suc o.place; copy = o.copy; there = o.there; is = o.is ∙ ap (λ n. (Copy n, code_of bodies all n o.copy.root o.copy.function)) z }

  first_of : (from : ℕ) (copy : FnCopy) (list : List FnCopy) (view : View) → (Copy from, code_of bodies all from copy.root copy.function) ≡ view → IsOf from (copy ∷ list) view
  first_of from copy list view e =
      let z : from ≡ from + 0 = omega arith in
      record { place = 0; copy = copy; there = refl; is = sym e ∙ ap (λ n. (Copy n, code_of bodies all n copy.root copy.function)) z }

  block_entry : (from : ℕ) (root : Root) (f : FnId) (view : View) → Has (if is_user f then (Copy from, code_by all from (body_at bodies from)) ∷ [] else []) view → (Copy from, code_of bodies all from root f) ≡ view
  block_entry from root (callees.User g) view (inl e) = e
  block_entry from root (callees.User g) view (inr h) = absurd h
  block_entry from root (callees.Helper g) view h = absurd h

  helper_entry : (from : ℕ) (root : Root) (f : FnId) (view : View) → Has (helper_for from root f) view → (Copy from, code_of bodies all from root f) ≡ view
  helper_entry from root (callees.User g) view h = absurd h
  helper_entry from root (callees.Helper g) view (inl e) = e
  helper_entry from root (callees.Helper g) view (inr h) = absurd h

  of_blocks : (from : ℕ) (list : List FnCopy) (view : View) → Has (blocks_from bodies all from list) view → IsOf from list view
  of_blocks from [] view h = absurd h
  of_blocks from (copy ∷ list) view h =
      ⊎_elim (λ l. first_of from copy list view (block_entry from copy.root copy.function view l)) (λ r. later_of from copy list view (of_blocks (from + 1) list view r))
      (has_either (block_at bodies all from copy) (blocks_from bodies all (from + 1) list) view h)

  of_helpers : (from : ℕ) (list : List FnCopy) (view : View) → Has (helpers_from from list) view → IsOf from list view
  of_helpers from [] view h = absurd h
  of_helpers from (copy ∷ list) view h =
      ⊎_elim (λ l. first_of from copy list view (helper_entry from copy.root copy.function view l)) (λ r. later_of from copy list view (of_helpers (from + 1) list view r))
      (has_either (helper_at from copy) (helpers_from (from + 1) list) view h)

  -- each copy has its view
  entry_at : (from : ℕ) (root : Root) (f : FnId) → Has {A = View} (if is_user f then (Copy from, code_by all from (body_at bodies from)) ∷ [] else []) (Copy from, code_of bodies all from root f)
      ⊎ Has {A = View} (helper_for from root f) (Copy from, code_of bodies all from root f)
  entry_at from root (callees.User g) = inl (inl refl)
  entry_at from root (callees.Helper h) = inr (inl refl)

  Found : ℕ → List FnCopy → View → Type 0
  Found from list view = Has (blocks_from bodies all from list) view ⊎ Has (helpers_from from list) view

  has_view : (from : ℕ) (list : List FnCopy) (i : ℕ) (copy : FnCopy) → slice_get list i ≡ Some copy → Found from list (Copy (from + i), code_of bodies all (from + i) copy.root copy.function)
  unfolding Found
  has_view from [] i copy is = absurd (cc)
  has_view from (x ∷ list) zero copy is =
      let z : from ≡ from + 0 = omega arith in
      let same : x ≡ copy = some_back x copy is in
      subst (λ n. Found from (x ∷ list) (Copy n, code_of bodies all n copy.root copy.function)) z
      (subst (λ (c : FnCopy). Found from (x ∷ list) (Copy from, code_of bodies all from c.root c.function)) same
      (⊎_elim (λ l. inl (has_left _ _ _ l)) (λ r. inr (has_left _ _ _ r)) (entry_at from x.root x.function)))
  has_view from (x ∷ list) (suc i) copy is =
      let z : from + 1 + i ≡ from + suc i = omega arith in
      subst (λ n. Found from (x ∷ list) (Copy n, code_of bodies all n copy.root copy.function)) z
      (⊎_elim (λ l. inl (has_right _ _ _ l)) (λ r. inr (has_right _ _ _ r)) (has_view (from + 1) list i copy is))

-- ---- the first block of a name
block_of_name : (blocks : List SymBlock) (name : BlockName) (code : List Sym) → ((b : SymBlock) → Has blocks b → b.name ≡ name → b.list.items ≡ code)
    → (b : SymBlock) → Has blocks b → b.name ≡ name → block_in blocks name ≡ code
block_of_name [] name code all b has is = absurd has
block_of_name (x ∷ blocks) name code all b has is = by (same_name x.name name) refl (λ later. block_of_name blocks name code (λ c h. all c (inr h)) b later is) has where
  by : (t : Bool) → same_name x.name name ≡ t → (Has blocks b → block_in blocks name ≡ code) → Has (x ∷ blocks) b → (if t then x.list.items else block_in blocks name) ≡ code
  by true e below h = all x (inl refl) (names_same x.name name e)
  by false e below (inl same) = let f = sym e ∙ ap (λ (y : SymBlock). same_name y.name name) same ∙ ap (λ n. same_name n name) is ∙ name_itself name in absurd (cc)
  by false e below (inr h) = below h

copy_back : (c d : ℕ) → Copy c ≡ Copy d → c ≡ d
copy_back c d e = ap number e where
  number : BlockName → ℕ
  number Start = 0
  number (Copy n) = n

module _ (core : CoreProgram) (copies : List FnCopy) (blocks : List SymBlock) (joined : IsJoined core copies blocks) where
  abbrev bodies : List Body
  bodies = core.bodies.items

  -- a block behind the start block is that of a copy
  pub is_of : (b : SymBlock) → Has joined.order b → IsOf bodies copies 0 copies (b.name, b.list.items)
  is_of b has =
      let back = has_of joined.made b (Contains-permutation joined.order joined.made b (IsPermutation-sym joined.made joined.order joined.same) (of_has joined.order b has)) in
      let view = subst (λ vs. Has vs (b.name, b.list.items)) joined.views (map_has (λ (block : SymBlock). (block.name, block.list.items)) joined.made b back) in
      ⊎_elim (of_blocks bodies copies 0 copies (b.name, b.list.items)) (of_helpers bodies copies 0 copies (b.name, b.list.items)) (has_either (blocks_from bodies copies 0 copies) (helpers_from 0 copies) _ view)

  in_either : (v : View) → Found bodies copies 0 copies v → Has (blocks_from bodies copies 0 copies ++ helpers_from 0 copies) v
  unfolding Found
  in_either v (inl h) = has_left (blocks_from bodies copies 0 copies) (helpers_from 0 copies) v h
  in_either v (inr h) = has_right (blocks_from bodies copies 0 copies) (helpers_from 0 copies) v h

  -- the start block is the first
  pub start_is : block_in blocks Start ≡ start_code (handler_at copies) core.statics.items
  start_is =
      ap (λ bs. block_in bs Start) joined.whole ∙ ap (λ n. if same_name n Start then joined.start.list.items else block_in joined.order Start) joined.name ∙ joined.exact

  -- .. and each copy's is that of its number
  pub copy_is : (c : ℕ) (copy : FnCopy) → slice_get copies c ≡ Some copy → block_in blocks (Copy c) ≡ code_of bodies copies c copy.root copy.function
  copy_is c copy is =
      ap (λ bs. block_in bs (Copy c)) joined.whole ∙ ap (λ n. if same_name n (Copy c) then joined.start.list.items else block_in joined.order (Copy c)) joined.name
      ∙ block_of_name joined.order (Copy c) (code_of bodies copies c copy.root copy.function) all found.0 found.1 found.2 where
        all : (b : SymBlock) → Has joined.order b → b.name ≡ Copy c → b.list.items ≡ code_of bodies copies c copy.root copy.function
        all b has named =
            let o = is_of b has in
            let number : c ≡ 0 + o.place = copy_back c (0 + o.place) (sym named ∙ ap (λ (v : View). v.0) o.is) in
            let place : c ≡ o.place = omega arith in
            let same : copy ≡ o.copy = some_back copy o.copy (sym is ∙ ap (slice_get copies) place ∙ o.there) in
            ap (λ (v : View). v.1) o.is ∙ ap (λ n. code_of bodies copies n o.copy.root o.copy.function) (sym number) ∙ ap (λ (x : FnCopy). code_of bodies copies c x.root x.function) (sym same)

        found : (b : SymBlock) × Has joined.order b × (b.name ≡ Copy c)
        found =
            let v : View = (Copy (0 + c), code_of bodies copies (0 + c) copy.root copy.function) in
            let either = has_view bodies copies 0 copies c copy is in
            let there : Has (views_of joined.made) v = subst (λ vs. Has vs v) (sym joined.views) (in_either v either) in
            let x = has_map (λ (block : SymBlock). (block.name, block.list.items)) joined.made v there in
            let z : 0 + c ≡ c = omega arith in
            (x.0, has_of joined.order x.0 (Contains-permutation joined.made joined.order x.0 joined.same (of_has joined.made x.0 x.1)), ap (λ (w : View). w.0) x.2 ∙ ap Copy z)

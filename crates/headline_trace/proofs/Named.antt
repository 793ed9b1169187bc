-- No two blocks have the same name, so each stands where its name says.
use Rattle.std.proofs.Common.{◌≡◌, ℕ, zero, suc, ◌+◌, ◌<◌, ◌≤◌, Bool, true, false, nat_eq, if◌then◌else◌, List, [], ◌∷◌, ◌++◌, map, Option, Some, refl, sym, ap, ◌∙◌, arith}
use Rattle.std.specs.Option.{option_or}
use Rattle.std.specs.List.{sum_by}
use Rattle.std.specs.Prelude.{slice_get}
use Rattle.std.proofs.lemmas.Bool.{eqb-true}
use Rattle.std.proofs.lemmas.List.Sorted.{sum_by-IsPermutation}
use Rattle.std.proofs.lemmas.List.Sums.{sum_by-cons}
use Rattle.c_typed.specs.declared.calls.FnId.{FnId}
use Rattle.c_typed.specs.declared.calls.FnId.TheVariants as callees
use Rattle.call_graph.specs.declared.types.FnCopy.{FnCopy}
use Rattle.code_place.specs.Places.{block_place, first_place, at_if}
use Rattle.core_code.specs.declared.code.Body.{Body}
use Rattle.core_code.specs.declared.code.CoreProgram.{CoreProgram}
use Rattle.pic_world.specs.declared.Root.{Root}
use Rattle.program_code.specs.Joined.{IsJoined, helper_for, helper_at, helpers_from}
use Rattle.select_wide.specs.Blocks.{is_user, body_at, code_by, block_at, blocks_from, views_of}
use Rattle.sym_code.specs.Programs.{block_in, same_name}
use Rattle.sym_code.specs.declared.code.BlockName.{BlockName}
use Rattle.sym_code.specs.declared.code.BlockName.TheVariants.{Start, Copy}
use Rattle.sym_code.specs.declared.code.Sym.{Sym}
use Rattle.sym_code.specs.declared.code.SymBlock.{SymBlock}
use Rattle.bank_page.specs.Selected.{names_of}
use Rattle.headline_trace.proofs.Blocks.{name_itself}
use Rattle.headline_trace.proofs.Statics.{some_is}

-- ---- how often a name stands in a list
abbrev pub one_for : Bool → ℕ
one_for true = 1
one_for false = 0

abbrev pub tally : BlockName → List BlockName → ℕ
tally name [] = 0
tally name (x ∷ xs) = one_for (same_name x name) + tally name xs

tally_joined : (name : BlockName) (xs ys : List BlockName) → tally name (xs ++ ys) ≡ tally name xs + tally name ys
tally_joined name [] ys = omega arith
tally_joined name (x ∷ xs) ys = let h = tally_joined name xs ys in omega arith

abbrev View : Type 0
View = BlockName × List Sym

abbrev names : List View → List BlockName
names views = map (λ (v : View). v.0) views

names_joined : (xs ys : List View) → names (xs ++ ys) ≡ names xs ++ names ys
names_joined [] ys = refl
names_joined (x ∷ xs) ys = ap (λ (l : List BlockName). x.0 ∷ l) (names_joined xs ys)

names_viewed : (blocks : List SymBlock) → names (views_of blocks) ≡ names_of blocks
names_viewed [] = refl
names_viewed (b ∷ blocks) = ap (λ (l : List BlockName). b.name ∷ l) (names_viewed blocks)

tally_views : (name : BlockName) (xs ys : List View) → tally name (names (xs ++ ys)) ≡ tally name (names xs) + tally name (names ys)
tally_views name xs ys = ap (tally name) (names_joined xs ys) ∙ tally_joined name (names xs) (names ys)

-- the same as a sum
tally_sum : (name : BlockName) (blocks : List SymBlock) → tally name (names_of blocks) ≡ sum_by (λ (b : SymBlock). one_for (same_name b.name name)) blocks
tally_sum name [] = refl
tally_sum name (b ∷ blocks) =
    let h = tally_sum name blocks in
    let s = sum_by-cons (λ (c : SymBlock). one_for (same_name c.name name)) b blocks in
    omega arith

-- ---- the blocks of copies
module _ (bodies : List Body) (all : List FnCopy) where
  abbrev in_blocks : ℕ → ℕ → List FnCopy → ℕ
  in_blocks n from list = tally (Copy n) (names (blocks_from bodies all from list))

  abbrev in_helpers : ℕ → ℕ → List FnCopy → ℕ
  in_helpers n from list = tally (Copy n) (names (helpers_from from list))

  record IsOnce (n from : ℕ) (list : List FnCopy) : Type 0 where
    once : in_blocks n from list + in_helpers n from list ≤ 1
    later : n < from → in_blocks n from list + in_helpers n from list ≡ 0

  here_once : (n from : ℕ) (rest : ℕ) → rest ≤ 1 → (n < from + 1 → rest ≡ 0) → (one_for (nat_eq from n) + rest ≤ 1) × (n < from → one_for (nat_eq from n) + rest ≡ 0)
  here_once n from rest le low = by (nat_eq from n) refl where
    by : (b : Bool) → nat_eq from n ≡ b → (one_for b + rest ≤ 1) × (n < from → one_for b + rest ≡ 0)
    by true e = let same = eqb-true from n e in let none = low (omega arith) in (omega arith, λ lt. omega arith)
    by false e = (omega arith, λ lt. let none = low (omega arith) in omega arith)

  joined_once : (n from : ℕ) (root : Root) (f : FnId) (b h : ℕ) → b + h ≤ 1 → (n < from + 1 → b + h ≡ 0)
      → ((tally (Copy n) (names (if is_user f then (Copy from, code_by all from (body_at bodies from)) ∷ [] else [])) + b) + (tally (Copy n) (names (helper_for from root f)) + h) ≤ 1)
      × (n < from → (tally (Copy n) (names (if is_user f then (Copy from, code_by all from (body_at bodies from)) ∷ [] else [])) + b) + (tally (Copy n) (names (helper_for from root f)) + h) ≡ 0)
  joined_once n from root (callees.User g) b h le low = let r = here_once n from (b + h) le low in let x = r.0 in (omega arith, λ lt. let y = r.1 lt in omega arith)
  joined_once n from root (callees.Helper g) b h le low = let r = here_once n from (b + h) le low in let x = r.0 in (omega arith, λ lt. let y = r.1 lt in omega arith)

  is_once : (n from : ℕ) (list : List FnCopy) → IsOnce n from list
  is_once n from [] = record { once = omega arith; later = λ lt. omega arith }
  is_once n from (copy ∷ list) =
      let below = is_once n (from + 1) list in
      let x = tally_views (Copy n) (block_at bodies all from copy) (blocks_from bodies all (from + 1) list) in
      let y = tally_views (Copy n) (helper_at from copy) (helpers_from (from + 1) list) in
      let r = joined_once n from copy.root copy.function (in_blocks n (from + 1) list) (in_helpers n (from + 1) list) below.once below.later in
      let once = r.0 in
      record { once = omega arith; later = λ lt. let none = r.1 lt in omega arith }

  no_start_here : (from : ℕ) (root : Root) (f : FnId) → tally Start (names (if is_user f then (Copy from, code_by all from (body_at bodies from)) ∷ [] else [])) + tally Start (names (helper_for from root f)) ≡ 0
  no_start_here from root (callees.User g) = omega arith
  no_start_here from root (callees.Helper g) = omega arith

  no_start : (from : ℕ) (list : List FnCopy) → tally Start (names (blocks_from bodies all from list)) + tally Start (names (helpers_from from list)) ≡ 0
  no_start from [] = omega arith
  no_start from (copy ∷ list) =
      let below = no_start (from + 1) list in
      let x = tally_views Start (block_at bodies all from copy) (blocks_from bodies all (from + 1) list) in
      let y = tally_views Start (helper_at from copy) (helpers_from (from + 1) list) in
      let h = no_start_here from copy.root copy.function in
      omega arith

-- ---- the blocks of a program
module _ (core : CoreProgram) (copies : List FnCopy) (given : List SymBlock) (joined : IsJoined core copies given) where
  order_tally : (name : BlockName) → tally name (names_of joined.order) ≡ tally name (names (blocks_from core.bodies.items copies 0 copies)) + tally name (names (helpers_from 0 copies))
  order_tally name =
      tally_sum name joined.order ∙ sum_by-IsPermutation (λ (b : SymBlock). one_for (same_name b.name name)) joined.made joined.order joined.same ∙ sym (tally_sum name joined.made)
      ∙ sym (ap (tally name) (names_viewed joined.made)) ∙ ap (λ (vs : List View). tally name (names vs)) joined.views
      ∙ tally_views name (blocks_from core.bodies.items copies 0 copies) (helpers_from 0 copies)

  given_tally : (name : BlockName) → tally name (names_of given) ≡ one_for (same_name Start name) + tally name (names_of joined.order)
  given_tally name = ap (λ (bs : List SymBlock). tally name (names_of bs)) joined.whole ∙ ap (λ (n : BlockName). one_for (same_name n name) + tally name (names_of joined.order)) joined.name

  -- each name stands there at most once
  pub named_once : (name : BlockName) → tally name (names_of given) ≤ 1
  named_once Start = let g = given_tally Start in let o = order_tally Start in let none = no_start core.bodies.items copies 0 copies in omega arith
  named_once (Copy n) = let g = given_tally (Copy n) in let o = order_tally (Copy n) in let once = (is_once core.bodies.items copies n 0 copies).once in omega arith

-- ---- where a block stands
present : (blocks : List SymBlock) (k : ℕ) (block : SymBlock) → slice_get blocks k ≡ Some block → 1 ≤ tally block.name (names_of blocks)
present [] k block is = absurd (cc)
present (x ∷ blocks) zero block is =
    let same : same_name x.name block.name ≡ true = ap (λ (b : SymBlock). same_name b.name block.name) (some_is x block is) ∙ name_itself block.name in
    let one = ap one_for same in
    omega arith
present (x ∷ blocks) (suc k) block is = let h = present blocks k block is in omega arith

abbrev place_by : BlockName → SymBlock → ℕ → Option ℕ
place_by name block start = at_if (same_name block.name name) start

pub own_place : (blocks : List SymBlock) (at : List ℕ) (k : ℕ) (block : SymBlock) (start : ℕ) → slice_get blocks k ≡ Some block → slice_get at k ≡ Some start → tally block.name (names_of blocks) ≤ 1
    → block_place blocks at block.name ≡ Some start
own_place [] at k block start is there once = absurd (cc)
own_place (x ∷ blocks) [] k block start is there once = absurd (cc)
own_place (x ∷ blocks) (s ∷ at) zero block start is there once =
    let same : same_name x.name block.name ≡ true = ap (λ (b : SymBlock). same_name b.name block.name) (some_is x block is) ∙ name_itself block.name in
    ap (λ (b : Bool). option_or (at_if b s) (first_place (place_by block.name) blocks at)) same ∙ there
own_place (x ∷ blocks) (s ∷ at) (suc k) block start is there once =
    by (same_name x.name block.name) once (own_place blocks at k block start is there) where
      by : (b : Bool) → one_for b + tally block.name (names_of blocks) ≤ 1 → (tally block.name (names_of blocks) ≤ 1 → block_place blocks at block.name ≡ Some start)
          → option_or (at_if b s) (first_place (place_by block.name) blocks at) ≡ Some start
      by true o below = let p = present blocks k block is in absurd (omega arith)
      by false o below = below (omega arith)

-- .. and has its own instructions
pub own_list : (blocks : List SymBlock) (k : ℕ) (block : SymBlock) → slice_get blocks k ≡ Some block → tally block.name (names_of blocks) ≤ 1 → block_in blocks block.name ≡ block.list.items
own_list [] k block is once = absurd (cc)
own_list (x ∷ blocks) zero block is once =
    let same : same_name x.name block.name ≡ true = ap (λ (b : SymBlock). same_name b.name block.name) (some_is x block is) ∙ name_itself block.name in
    ap (λ (b : Bool). if b then x.list.items else block_in blocks block.name) same ∙ ap (λ (b : SymBlock). b.list.items) (some_is x block is)
own_list (x ∷ blocks) (suc k) block is once = by (same_name x.name block.name) once (own_list blocks k block is) where
  by : (b : Bool) → one_for b + tally block.name (names_of blocks) ≤ 1 → (tally block.name (names_of blocks) ≤ 1 → block_in blocks block.name ≡ block.list.items)
      → (if b then x.list.items else block_in blocks block.name) ≡ block.list.items
  by true o below = let p = present blocks k block is in absurd (omega arith)
  by false o below = below (omega arith)

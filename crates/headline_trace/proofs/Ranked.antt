-- Blocks stand in the order in which the words of their copies were given, since both are sorted by the same ranks.
use Rattle.std.proofs.Common.{◌≡◌, ℕ, zero, suc, ◌+◌, ◌*◌, ◌<◌, ◌≤◌, inl, inr, List, [], ◌∷◌, ◌++◌, map, length, Some, refl, sym, ap, ◌∙◌, subst, arith}
use Rattle.std.specs.Prelude.{slice_get, if◌then◌else◌}
use Rattle.std.specs.List.{AllZip, Contains}
use Rattle.std.proofs.lemmas.List.{length-map}
use Rattle.std.proofs.lemmas.List.Sorted.{Contains-permutation, IsPermutation-sym}
use Rattle.std.proofs.lemmas.Option.{slice_get_within}
use Rattle.c_typed.proofs.Facts.{few_functions}
use Rattle.c_typed.specs.Chains.{graph_of, number_of, helper_number, IsLevel}
use Rattle.c_typed.specs.Trees.{Program}
use Rattle.c_typed.specs.Views.{program_of, function_of}
use Rattle.c_typed.specs.declared.calls.FnId.{FnId}
use Rattle.c_typed.specs.declared.calls.FnId.TheVariants as callees
use Rattle.c_typed.specs.declared.calls.Helper.{Helper}
use Rattle.c_typed.specs.declared.calls.Helper.TheVariants.{Mul2, Mul4, Divu2, Divs2, Remu2, Rems2, Divu4, Divs4, Remu4, Rems4, Shl2, Shru2, Shrs2, Shl4, Shru4, Shrs4}
use Rattle.c_typed.specs.declared.program.Typed.{Typed}
use Rattle.call_graph.proofs.Additions.{number_once, same_copy}
use Rattle.call_graph.specs.Copies.{AreCopies, IsCopy, IsOne, root_of, root_place}
use Rattle.call_graph.specs.Numbers.{handler_at}
use Rattle.call_graph.specs.declared.types.FnCopy.{FnCopy}
use Rattle.core_code.specs.declared.code.Body.{Body}
use Rattle.core_code.specs.declared.code.CoreProgram.{CoreProgram}
use Rattle.code_place.specs.Layouts.{layout_of}
use Rattle.lower_stmt.specs.Programs.{core_of}
use Rattle.program_code.proofs.LeanerBlocks.{blocks_are_leaner}
use Rattle.program_code.specs.Leaner.{IsLeaner}
use Rattle.pic_map.specs.declared.Placed.{Placed}
use Rattle.pic_world.specs.declared.Root.{Root}
use Rattle.pic_world.specs.declared.Root.TheVariants.{Main, Isr}
use Rattle.program_code.specs.Joined.{IsJoined, helper_for, helpers_from}
use Rattle.program_code.specs.Order.{rank, rank_or_none, name_rank, block_rank}
use Rattle.program_code.specs.Stated.{IsPaged}
use Rattle.select_wide.specs.Blocks.{is_user, body_at, code_by, blocks_from, views_of}
use Rattle.sym_code.specs.declared.code.BlockName.{BlockName}
use Rattle.sym_code.specs.declared.code.BlockName.TheVariants.{Start, Copy}
use Rattle.sym_code.specs.declared.code.Sym.{Sym}
use Rattle.sym_code.specs.declared.code.SymBlock.{SymBlock}
use Rattle.bank_page.specs.Selected.{IsExact}
use Rattle.headline_trace.specs.Bounded.{IsBlockFor, AreInOrder, BlocksAreInOrder}
use Rattle.headline_trace.proofs.Blocks.{is_of}
use Rattle.headline_trace.proofs.Entered.{at_is}
use Rattle.headline_trace.proofs.Members.{Has}
use Rattle.headline_trace.proofs.SameNumbers.{counted, counted_join, same_counted, same_numbers, map_up}
use Rattle.headline_trace.proofs.Statics.{some_is}

abbrev View : Type 0
View = BlockName × List Sym

-- ---- ranks of blocks are those of copies
module _ (bodies : List Body) (copies : List FnCopy) where
  abbrev view_rank : View → ℕ
  view_rank v = name_rank copies v.0

  of_views : (blocks : List SymBlock) → map view_rank (views_of blocks) ≡ map (block_rank copies) blocks
  of_views [] = refl
  of_views (b ∷ blocks) = ap (λ (l : List ℕ). block_rank copies b ∷ l) (of_views blocks)

  map_join : (xs ys : List View) → map view_rank (xs ++ ys) ≡ map view_rank xs ++ map view_rank ys
  map_join [] ys = refl
  map_join (x ∷ xs) ys = ap (λ (l : List ℕ). view_rank x ∷ l) (map_join xs ys)

  -- one copy has one entry
  here : (v from : ℕ) (root : Root) (f : FnId) (bs hs : List View) (r : ℕ) → name_rank copies (Copy from) ≡ r
      → counted v (map view_rank ((if is_user f then (Copy from, code_by copies from (body_at bodies from)) ∷ [] else []) ++ bs)) + counted v (map view_rank (helper_for from root f ++ hs))
      ≡ counted v (r ∷ []) + (counted v (map view_rank bs) + counted v (map view_rank hs))
  here v from root (callees.User g) bs hs r is = let one = ap (λ (k : ℕ). counted v (k ∷ [])) is in omega (arith, one)
  here v from root (callees.Helper h) bs hs r is = let one = ap (λ (k : ℕ). counted v (k ∷ [])) is in omega (arith, one)

  entries : (v from : ℕ) (list : List FnCopy) → ((i : ℕ) → slice_get copies (from + i) ≡ slice_get list i)
      → counted v (map view_rank (blocks_from bodies copies from list)) + counted v (map view_rank (helpers_from from list)) ≡ counted v (map rank list)
  entries v from [] at = refl
  entries v from (copy ∷ list) at =
      let z : from ≡ from + 0 = omega arith in
      let is : slice_get copies from ≡ Some copy = ap (slice_get copies) z ∙ at 0 in
      let one = here v from copy.root copy.function (blocks_from bodies copies (from + 1) list) (helpers_from (from + 1) list) (rank copy) (ap rank_or_none is) in
      let later = entries v (from + 1) list (λ i. ap (slice_get copies) (omega arith) ∙ at (suc i)) in
      omega (arith, one, later)

  all_entries : (v : ℕ) → counted v (map view_rank (blocks_from bodies copies 0 copies ++ helpers_from 0 copies)) ≡ counted v (map rank copies)
  all_entries v =
      let split = ap (counted v) (map_join (blocks_from bodies copies 0 copies) (helpers_from 0 copies)) in
      let joined = counted_join v (map view_rank (blocks_from bodies copies 0 copies)) (map view_rank (helpers_from 0 copies)) in
      let all = entries v 0 copies (λ i. ap (slice_get copies) (omega arith)) in
      omega (arith, split, joined, all)

-- the ranks of copies in the order of their words, and of blocks in theirs
ranks_same : (p : Program) (core : CoreProgram) (copies : List FnCopy) (given : List SymBlock) (at : List ℕ) (joined : IsJoined core copies given) (paged : IsPaged p copies at)
    → map rank paged.order ≡ map (block_rank copies) joined.order
ranks_same p core copies given at joined paged =
    same_numbers (map rank paged.order) (map (block_rank copies) joined.order) (map_up rank paged.order paged.sorted) (map_up (block_rank copies) joined.order joined.sorted)
    (λ v. same_counted rank v copies paged.order paged.same ∙ sym (all_entries core.bodies.items copies v)
    ∙ sym (ap (λ (l : List View). counted v (map (view_rank core.bodies.items copies) l)) joined.views) ∙ ap (counted v) (of_views core.bodies.items copies joined.made)
    ∙ sym (same_counted (block_rank copies) v joined.made joined.order joined.same))

-- ---- each copy has a rank of its own
low_helper : (h : Helper) → helper_number h < 16
low_helper Mul2 = omega arith
low_helper Mul4 = omega arith
low_helper Divu2 = omega arith
low_helper Divs2 = omega arith
low_helper Remu2 = omega arith
low_helper Rems2 = omega arith
low_helper Divu4 = omega arith
low_helper Divs4 = omega arith
low_helper Remu4 = omega arith
low_helper Rems4 = omega arith
low_helper Shl2 = omega arith
low_helper Shru2 = omega arith
low_helper Shrs2 = omega arith
low_helper Shl4 = omega arith
low_helper Shru4 = omega arith
low_helper Shrs4 = omega arith

low_number : (n : ℕ) (f : FnId) → n ≤ 0x10000000 → IsOne n f → number_of 0x10000000 f < 0x200000000
low_number n (callees.User number) few below = let lt : number < n = below in omega (arith, lt, few)
low_number n (callees.Helper h) few below = let low = low_helper h in omega (arith, low)

more : (n : ℕ) (f : FnId) → n ≤ 0x10000000 → IsOne n f → IsOne 0x10000000 f
more n (callees.User number) few below = let lt : number < n = below in omega (arith, lt, few)
more n (callees.Helper h) few below = tt

roots_back : (r s : Root) (m n : ℕ) → m < 0x200000000 → n < 0x200000000 → 0x200000000 * root_place r + m ≡ 0x200000000 * root_place s + n → (r ≡ s) × (m ≡ n)
roots_back Main Main m n low less e = (refl, omega (arith, e))
roots_back Main Isr m n low less e = absurd (omega (arith, e, low))
roots_back Isr Main m n low less e = absurd (omega (arith, e, less))
roots_back Isr Isr m n low less e = (refl, omega (arith, e))

levels_same : (graph : List (List ℕ)) (m n g h k l : ℕ) → m ≡ n → g ≡ h → IsLevel graph m g k → IsLevel graph n h l → k ≡ l
levels_same graph m n g h k l e f one other =
    let moved : IsLevel graph n h k = subst (λ (i : ℕ). IsLevel graph i h k) e (subst (λ (i : ℕ). IsLevel graph m i k) f one) in
    let long = moved.1 other.0.0 other.0.1 in
    let short = other.1 moved.0.0 moved.0.1 in
    let first = moved.0.2 in
    let second = other.0.2 in
    omega (arith, long, short, first, second)

copies_same : (p : Program) (a b : FnCopy) → length p.functions ≤ 0x10000000 → IsCopy p a → IsCopy p b → rank a ≡ rank b → a ≡ b
copies_same p a b few one other e =
    let n = length p.functions in
    let parts = roots_back a.root b.root (number_of 0x10000000 a.function) (number_of 0x10000000 b.function) (low_number n a.function few one.one) (low_number n b.function few other.one) e in
    let function = number_once 0x10000000 a.function b.function (more n a.function few one.one) (more n b.function few other.one) parts.1 in
    let entered : one.number ≡ other.number = some_is one.number other.number (sym one.entered ∙ ap (root_of p) parts.0 ∙ other.entered) in
    same_copy a b parts.0 function
    (levels_same (graph_of p) one.number other.number (number_of n a.function) (number_of n b.function) a.level b.level entered (ap (number_of n) function) one.level other.level)

-- ---- the order
map_at : {A B : Type 0} (f : A → B) (xs : List A) (k : ℕ) (y : B) → slice_get (map f xs) k ≡ Some y → (x : A) × (slice_get xs k ≡ Some x) × (f x ≡ y)
map_at f [] k y is = absurd (cc)
map_at f (x ∷ xs) zero y is = (x, refl, some_is (f x) y is)
map_at f (x ∷ xs) (suc k) y is = map_at f xs k y is

at_map : {A B : Type 0} (f : A → B) (xs : List A) (k : ℕ) (x : A) → slice_get xs k ≡ Some x → slice_get (map f xs) k ≡ Some (f x)
at_map f [] k x is = absurd (cc)
at_map f (y ∷ xs) zero x is = ap Some (ap f (some_is y x is))
at_map f (y ∷ xs) (suc k) x is = at_map f xs k x is

zip_at : {A B : Type 0} (R : A → B → Type 0) (xs : List A) (ys : List B) → AllZip R xs ys → (k : ℕ) (y : B) → slice_get ys k ≡ Some y → (x : A) × (slice_get xs k ≡ Some x) × R x y
zip_at R [] [] h k y is = absurd (cc)
zip_at R [] (z ∷ ys) h k y is = absurd h
zip_at R (x ∷ xs) [] h k y is = absurd h
zip_at R (x ∷ xs) (z ∷ ys) h zero y is = (x, refl, subst (R x) (some_is z y is) h.0)
zip_at R (x ∷ xs) (z ∷ ys) h (suc k) y is = zip_at R xs ys h.1 k y is

has_at : {A : Type 0} (xs : List A) (k : ℕ) (x : A) → slice_get xs k ≡ Some x → Has xs x
has_at [] k x is = absurd (cc)
has_at (y ∷ xs) zero x is = inl (some_is y x is)
has_at (y ∷ xs) (suc k) x is = inr (has_at xs k x is)

abbrev SameName : SymBlock → SymBlock → Type 0
SameName given made = made.name ≡ given.name

module _ (typed : Typed) (copies : List FnCopy) (core : CoreProgram) (given made : List SymBlock) (placed : Placed) (at : List ℕ) (known : AreCopies (program_of typed) copies)
    (joined : IsJoined core copies given) (named : AllZip SameName given made) (paged : IsPaged (program_of typed) copies at) where
  abbrev p : Program
  p = program_of typed

  few : length p.functions ≤ 0x10000000
  few =
      let most : length typed.functions.items ≤ 0x10000000 = few_functions typed in
      let size = length-map typed.functions.items function_of in
      omega (arith, most, size)

  copy_there : (xs : List FnCopy) (k : ℕ) (c : FnCopy) → slice_get xs k ≡ Some c → Contains xs c
  copy_there xs k c is = (k, slice_get_within xs k c is, at_is xs k c c is)

  first : (b : SymBlock) → slice_get made 0 ≡ Some b → b.name ≡ Start
  first b is =
      let g = zip_at SameName given made named 0 b is in
      let same : joined.start ≡ g.0 = some_is joined.start g.0 (sym (ap (λ (l : List SymBlock). slice_get l 0) joined.whole) ∙ g.1) in
      g.2 ∙ ap (λ (x : SymBlock). x.name) (sym same) ∙ joined.name

  behind : (k : ℕ) (b : SymBlock) → slice_get made (suc k) ≡ Some b → IsBlockFor copies paged.order k b
  behind k b is =
      let g = zip_at SameName given made named (suc k) b is in
      let stands : slice_get joined.order k ≡ Some g.0 = sym (ap (λ (l : List SymBlock). slice_get l (suc k)) joined.whole) ∙ g.1 in
      let o = is_of core copies given joined g.0 (has_at joined.order k g.0 stands) in
      let z : 0 + o.place ≡ o.place = omega arith in
      let name : g.0.name ≡ Copy o.place = ap (λ (v : View). v.0) o.is ∙ ap Copy z in
      let block : block_rank copies g.0 ≡ rank o.copy = ap (name_rank copies) name ∙ ap rank_or_none o.there in
      let ranks = ap (λ (l : List ℕ). slice_get l k) (ranks_same p core copies given at joined paged) ∙ at_map (block_rank copies) joined.order k g.0 stands in
      let c = map_at rank paged.order k (block_rank copies g.0) ranks in
      let listed = (known.exact c.0).0 (Contains-permutation paged.order copies c.0 (IsPermutation-sym copies paged.order paged.same) (copy_there paged.order k c.0 c.1)) in
      let numbered = (known.exact o.copy).0 (copy_there copies o.place o.copy o.there) in
      let same : c.0 ≡ o.copy = copies_same p c.0 o.copy few listed numbered (c.2 ∙ block) in
      record { number = o.place; copy = o.copy; named = g.2 ∙ name; there = o.there; in_order = c.1 ∙ ap Some same }

  pub in_order : AreInOrder copies paged.order made
  in_order = record { first = first; behind = behind }

-- leaner blocks have the names of those that they are made of, and so have these with their selects
names_kept : (placed : Placed) (given lean made : List SymBlock) → AllZip IsLeaner given lean → AllZip (IsExact placed) lean made → AllZip SameName given made
names_kept placed [] [] [] z w = tt
names_kept placed [] [] (m ∷ made) z w = absurd w
names_kept placed [] (l ∷ lean) made z w = absurd z
names_kept placed (g ∷ given) [] made z w = absurd z
names_kept placed (g ∷ given) (l ∷ lean) [] z w = absurd w
names_kept placed (g ∷ given) (l ∷ lean) (m ∷ made) z w = (w.0.name ∙ z.0.name, names_kept placed given lean made z.1 w.1)

pub blocks_in_order : BlocksAreInOrder
blocks_in_order typed copies core given lean made placed at blocks has paged =
    let leaner = blocks_are_leaner (layout_of placed) (handler_at copies) (core_of (program_of typed) copies).variable_bytes blocks.lent given lean blocks.leaner in
    in_order typed copies core given made placed at has.known blocks.joined (names_kept placed given lean made leaner blocks.exact) paged

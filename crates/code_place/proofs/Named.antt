-- What each instruction of a list names has an address where that is so of the list.
use Rattle.std.proofs.Common.{◌≡◌, ℕ, zero, suc, ◌+◌, ◌<◌, false, nat_lt, List, [], ◌∷◌, length, get_or, Option, Some, None, slice_get, refl, sym, ap, ◌∙◌, subst, arith}
use Rattle.std.proofs.lemmas.Bool.{ltb-false}
use Rattle.std.proofs.lemmas.Option.{slice_get_past, slice_get_read}
use Rattle.pic_map.specs.declared.Placed.{Placed}
use Rattle.sym_code.specs.declared.code.Sym.{Sym}
use Rattle.sym_code.specs.declared.code.SymBlock.{SymBlock}
use Rattle.sym_code.specs.declared.code.Target.{Target}
use Rattle.code_place.specs.Marks.{target_by, AreMarks}
use Rattle.code_place.specs.Places.{HasAddress, HaveAddresses, BlocksHaveAddresses}
use Rattle.code_place.specs.Sizes.{Stands, Fit}
use Rattle.code_place.specs.declared.marks.Marks.{Marks}
use Rattle.code_place.proofs.Marked.{by_marks}

named-at : (placed : Placed) (target : Target → Option ℕ) (xs : List Sym) (i : ℕ) (d : Sym) → i < length xs → HaveAddresses placed target xs → HasAddress placed target (get_or xs i d)
named-at placed target [] i d below all = absurd (omega (arith, below))
named-at placed target (x ∷ xs) zero d below all = all.0
named-at placed target (x ∷ xs) (suc i) d below all = named-at placed target xs i d (omega (arith, below)) all.1

pub named_turn : (placed : Placed) (target : Target → Option ℕ) (ys xs : List Sym) (i : ℕ) (d : Sym) → ys ≡ xs → i < length ys → HaveAddresses placed target xs → HasAddress placed target (get_or ys i d)
named_turn placed target ys xs i d same below all =
    let P : List Sym → Type 0 = λ list. HaveAddresses placed target list in
    named-at placed target ys i d below (subst P (sym same) all)

-- The same of the block at an index, by the maps of its program.
pub block_named : (placed : Placed) (ys blocks : List SymBlock) (at : List ℕ) (i : ℕ) (block : SymBlock) (start : ℕ) (marks : Marks) → ys ≡ blocks → i < length ys → block ≡ get_or ys i block → i < length at → start ≡ get_or at i start → AreMarks blocks at marks → BlocksHaveAddresses placed blocks at
    → HaveAddresses placed (target_by marks block start) block.list.items
block_named placed ys blocks at i block start marks same below read inside is are all =
    let found : slice_get blocks i ≡ Some block = ap (λ (list : List SymBlock). slice_get list i) (sym same) ∙ slice_get_read ys (length ys) i block refl below read in
    let here : slice_get at i ≡ Some start = slice_get_read at (length at) i start refl inside is in
    let P : (Target → Option ℕ) → Type 0 = λ target. HaveAddresses placed target block.list.items in
    subst P (sym (by_marks marks blocks at block start are)) (all i block start found here)

-- A block that has room has an address.
pub somewhere : (ys blocks : List SymBlock) (at : List ℕ) (i : ℕ) (block : SymBlock) → ys ≡ blocks → Fit blocks at → i < length ys → block ≡ get_or ys i block → false ≡ nat_lt i (length at) → ⊥
somewhere ys blocks at i block same fit below read past =
    let found : slice_get blocks i ≡ Some block = ap (λ (list : List SymBlock). slice_get list i) (sym same) ∙ slice_get_read ys (length ys) i block refl below read in
    let none : slice_get at i ≡ None = slice_get_past at i (ltb-false i (length at) (sym past)) in
    let P : Option ℕ → Type 0 = λ o. Stands block o (slice_get at (i + 1)) in
    subst P none (fit i block found)

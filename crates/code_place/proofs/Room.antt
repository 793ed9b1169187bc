-- What room there is for a block.
use Rattle.std.proofs.Common.{◌≡◌, ℕ, ◌+◌, ◌<◌, ◌≤◌, List, length, get_or, Option, Some, slice_get, refl, sym, ap, ◌∙◌, subst, arith}
use Rattle.std.proofs.lemmas.Option.{slice_get_read}
use Rattle.sym_code.specs.declared.code.SymBlock.{SymBlock}
use Rattle.sym_code.specs.Words.{words_in}
use Rattle.code_place.specs.Sizes.{HasRoom, Stands, Fit}

within : (start words : ℕ) (next : Option ℕ) → HasRoom start words next → start + words ≤ 8192
within start words next room =
    let below = room.0 in
    let whole = room.1 in
    omega (arith, below, whole)

-- a block that stands somewhere ends in the memory
pub room_of : (block : SymBlock) (start : ℕ) (found next : Option ℕ) → found ≡ Some start → Stands block found next → start + words_in block.list.items ≤ 8192
room_of block start found next is stands =
    let P : Option ℕ → Type 0 = λ o. Stands block o next in
    within start (words_in block.list.items) next (subst P is stands)

-- the same of the block at an index, where each one has room
pub room_at : (ys blocks : List SymBlock) (at : List ℕ) (i : ℕ) (block : SymBlock) (start : ℕ) → ys ≡ blocks → Fit blocks at → i < length ys → block ≡ get_or ys i block → i < length at → start ≡ get_or at i start → start + words_in block.list.items ≤ 8192
room_at ys blocks at i block start same fit below read inside is =
    let found : slice_get blocks i ≡ Some block = ap (λ (list : List SymBlock). slice_get list i) (sym same) ∙ slice_get_read ys (length ys) i block refl below read in
    room_of block start (slice_get at i) (slice_get at (i + 1)) (slice_get_read at (length at) i start refl inside is) (fit i block found)

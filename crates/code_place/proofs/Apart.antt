-- The words of one instruction among those of a block.
use Rattle.std.proofs.Common.{◌≡◌, ℕ, zero, suc, ◌+◌, List, [], ◌∷◌, ◌++◌, length, take, map, slice_index, Option, Some, slice_get, ap, ◌∙◌, subst, length-append, arith}
use Rattle.std.proofs.lemmas.List.{get_or_append_left, get_or-append-add}
use Rattle.std.proofs.lemmas.List.Sums.{sum_by-cons}
use Rattle.std.proofs.lemmas.Option.{none-some, same_Some}
use Rattle.pic_isa.specs.Table.{word_of}
use Rattle.pic_map.specs.declared.Placed.{Placed}
use Rattle.sym_code.specs.declared.code.Sym.{Sym}
use Rattle.sym_code.specs.declared.code.SymBlock.{SymBlock}
use Rattle.sym_code.specs.declared.code.Target.{Target}
use Rattle.code_place.specs.Image.{Holds}
use Rattle.code_place.specs.Instructions.{rows, words}
use Rattle.code_place.specs.Places.{target_for, HoldsBlocks, HoldsInstructions}
use Rattle.sym_code.specs.Words.{words_of_one, words_in}
use Rattle.code_place.proofs.Written.{count_one}

front_of : (image : List ℕ) (at : ℕ) (xs ys : List ℕ) → Holds image at (xs ++ ys) → Holds image at xs
front_of image at xs ys holds k below =
    let long = length-append xs ys in
    holds k (omega (arith, long, below)) ∙ get_or_append_left xs ys 0 k below

back_of : (image : List ℕ) (at : ℕ) (xs ys : List ℕ) → Holds image at (xs ++ ys) → Holds image (at + length xs) ys
back_of image at xs ys holds k below =
    let long = length-append xs ys in
    let e : at + length xs + k ≡ at + (length xs + k) = omega arith in
    ap (λ n. slice_index image n) e ∙ (holds (length xs + k) (omega (arith, long, below)) ∙ get_or-append-add xs ys k 0)

one_of : (placed : Placed) (target : Target → Option ℕ) (image : List ℕ) (at : ℕ) (list : List Sym) (i : ℕ) (s : Sym) → Holds image at (words placed target list) → slice_get list i ≡ Some s → Holds image (at + words_in (take i list)) (map word_of (rows placed target s))
one_of placed target image at [] i s holds found = absurd (none-some s found)
one_of placed target image at (x ∷ list) zero s holds found =
    let P : Sym → Type 0 = λ s. Holds image at (map word_of (rows placed target s)) in
    let Q : ℕ → Type 0 = λ n. Holds image n (map word_of (rows placed target s)) in
    let e : at ≡ at + 0 = omega arith in
    subst Q e (subst P (same_Some x s found) (front_of image at (map word_of (rows placed target x)) (words placed target list) holds))
one_of placed target image at (x ∷ list) (suc i) s holds found =
    let Q : ℕ → Type 0 = λ n. Holds image n (map word_of (rows placed target s)) in
    let one = count_one placed target x in
    let more : words_in (x ∷ take i list) ≡ words_of_one x + words_in (take i list) = sum_by-cons words_of_one x (take i list) in
    let e : at + length (map word_of (rows placed target x)) + words_in (take i list) ≡ at + words_in (x ∷ take i list) = omega (arith, one, more) in
    subst Q e (one_of placed target image (at + length (map word_of (rows placed target x))) list i s (back_of image at (map word_of (rows placed target x)) (words placed target list) holds) found)

pub each_apart : (placed : Placed) (blocks : List SymBlock) (at image : List ℕ) → HoldsBlocks placed blocks at image → HoldsInstructions placed blocks at image
each_apart placed blocks at image holds k block start found here i s is = one_of placed (target_for blocks at block start) image start block.list.items i s (holds k block start found here) is

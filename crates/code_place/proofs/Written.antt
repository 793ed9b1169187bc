-- Words that are put one behind the other.
use Rattle.std.proofs.Common.{◌≡◌, ℕ, suc, zero, ◌+◌, ◌<◌, true, false, Bool, ◌&&◌, List, [], ◌∷◌, ◌++◌, length, get_or, take, map, slice_set, Option, refl, sym, ap, ◌∙◌, subst, append_assoc, append-nil, length-append, arith}
use Rattle.std.proofs.lemmas.List.{length-map, take_more}
use Rattle.std.proofs.lemmas.List.Sums.{sum_by_more, sum_by-cons}
use Rattle.pic_isa.specs.Table.{word_of}
use Rattle.pic_isa.specs.declared.Ins.{Ins}
use Rattle.pic_map.specs.declared.Placed.{Placed}
use Rattle.sym_code.specs.WellFormed.{is_well_formed, are_well_formed}
use Rattle.sym_code.specs.declared.code.Sym.{Sym}
use Rattle.sym_code.specs.declared.code.Sym.TheVariants as syms
use Rattle.sym_code.specs.declared.code.Target.{Target}
use Rattle.sym_code.proofs.WellFormed.{well_formed_at}
use Rattle.code_place.specs.Image.{written}
use Rattle.code_place.specs.Instructions.{rows, words}
use Rattle.sym_code.specs.Words.{words_of_one, words_in}

-- the same of a list that is known to be another one
pub well_formed_in : (ys xs : List Sym) (i : ℕ) (d : Sym) → ys ≡ xs → are_well_formed xs ≡ true → i < length ys → is_well_formed (get_or ys i d) ≡ true
well_formed_in ys xs i d same all below =
    let P : List Sym → Type 0 = λ list. are_well_formed list ≡ true in
    well_formed_at ys i d (subst P (sym same) all) below

-- what is put behind the first words of a list
pub written_on : (image : List ℕ) (at : ℕ) (xs ys : List ℕ) → written image at (xs ++ ys) ≡ written (written image at xs) (at + length xs) ys
written_on image at [] ys =
    let e : at ≡ at + 0 = omega arith in
    ap (λ n. written image n ys) e
written_on image at (x ∷ xs) ys =
    let e : at + 1 + length xs ≡ at + length (x ∷ xs) = omega arith in
    written_on (slice_set image at x) (at + 1) xs ys ∙ ap (λ n. written (written (slice_set image at x) (at + 1) xs) n ys) e

-- the words of two lists
pub words-append : (placed : Placed) (target : Target → Option ℕ) (xs ys : List Sym) → words placed target (xs ++ ys) ≡ words placed target xs ++ words placed target ys
words-append placed target [] ys = refl
words-append placed target (s ∷ xs) ys = ap (λ rest. map word_of (rows placed target s) ++ rest) (words-append placed target xs ys) ∙ sym (append_assoc (map word_of (rows placed target s)) (words placed target xs) (words placed target ys))

-- the words of one more instruction
pub words_more : (placed : Placed) (target : Target → Option ℕ) (xs : List Sym) (i : ℕ) (d : Sym) → i < length xs → words placed target (take (i + 1) xs) ≡ words placed target (take i xs) ++ map word_of (rows placed target (get_or xs i d))
words_more placed target xs i d below =
    let last = append-nil (map word_of (rows placed target (get_or xs i d))) in
    ap (words placed target) (take_more xs i d below) ∙ (words-append placed target (take i xs) (get_or xs i d ∷ []) ∙ ap (λ rest. words placed target (take i xs) ++ rest) last)

-- each instruction has as many words as it is counted with
pub count_one : (placed : Placed) (target : Target → Option ℕ) (s : Sym) → length (map word_of (rows placed target s)) ≡ words_of_one s
count_one placed target (syms.Label label) = refl
count_one placed target (syms.SelectBank bit on) = refl
count_one placed target (syms.SelectPage bit name) = refl
count_one placed target (syms.File op file into) = refl
count_one placed target (syms.Movwf file) = refl
count_one placed target (syms.Clrf file) = refl
count_one placed target (syms.Bit op file b) = refl
count_one placed target (syms.Literal op value) = refl
count_one placed target (syms.Plain op) = refl
count_one placed target (syms.Call name) = refl
count_one placed target (syms.Goto name) = refl
count_one placed target (syms.Table table root) = refl

pub count_all : (placed : Placed) (target : Target → Option ℕ) (xs : List Sym) → length (words placed target xs) ≡ words_in xs
count_all placed target [] = refl
count_all placed target (s ∷ xs) =
    let both = length-append (map word_of (rows placed target s)) (words placed target xs) in
    let one = count_one placed target s in
    let rest = count_all placed target xs in
    let more = sum_by-cons words_of_one s xs in
    omega (arith, both, one, rest, more)

-- One more instruction is put behind the first ones of a block.
pub block_more : (placed : Placed) (target : Target → Option ℕ) (ys xs : List Sym) (i : ℕ) (d : Sym) (first old new : List ℕ) (start pc behind : ℕ) (put : List Ins) → ys ≡ xs → i < length ys → put ≡ rows placed target (get_or ys i d) → (pc ≡ start + words_in (take i xs)) × (old ≡ written first start (words placed target (take i xs))) → new ≡ written old pc (map word_of put) → behind ≡ pc + length put → (behind ≡ start + words_in (take (i + 1) xs)) × (new ≡ written first start (words placed target (take (i + 1) xs)))
block_more placed target ys xs i d first old new start pc behind put same below is so_far image next =
    let P : List Sym → Type 0 = λ list. (i < length list) × (put ≡ rows placed target (get_or list i d)) in
    let here = subst P same (below, is) in
    let few = words_in (take i xs) in
    let count = count_all placed target (take i xs) in
    let one = count_one placed target (get_or xs i d) in
    let size = length-map put word_of in
    let more = sum_by_more words_of_one xs i d here.0 in
    let at_pc : pc ≡ start + length (words placed target (take i xs)) = omega (arith, so_far.0, count) in
    let made : map word_of put ≡ map word_of (rows placed target (get_or xs i d)) = ap (λ (list : List Ins). map word_of list) here.1 in
    let sized : length put ≡ words_of_one (get_or xs i d) = sym size ∙ (ap (λ (list : List ℕ). length list) made ∙ one) in (
      omega (arith, next, so_far.0, more, sized),
      image ∙ (ap (λ list. written list pc (map word_of put)) so_far.1 ∙ (ap (λ n. written (written first start (words placed target (take i xs))) n (map word_of put)) at_pc ∙ (ap (λ list. written (written first start (words placed target (take i xs))) (start + length (words placed target (take i xs))) list) made ∙ (sym (written_on first start (words placed target (take i xs)) (map word_of (rows placed target (get_or xs i d)))) ∙ ap (written first start) (sym (words_more placed target xs i d here.0)))))),
    )

-- Where labels and blocks stand: the place among some, and one more.
use Rattle.std.proofs.Common.{◌≡◌, ℕ, zero, suc, ◌+◌, ◌<◌, List, [], ◌∷◌, ◌++◌, length, get_or, take, Option, Some, None, refl, sym, ap, ◌∙◌, arith}
use Rattle.std.specs.Option.{option_or}
use Rattle.std.proofs.lemmas.List.{take_more}
use Rattle.std.proofs.lemmas.List.Sums.{sum_by_more, sum_by-cons}
use Rattle.sym_code.specs.declared.code.Label.{Label}
use Rattle.sym_code.specs.declared.code.Sym.{Sym}
use Rattle.sym_code.specs.declared.code.SymBlock.{SymBlock}
use Rattle.code_place.proofs.Maps.{or_none}
use Rattle.code_place.specs.Places.{label_of, is_label, at_if, label_at, first_place}
use Rattle.sym_code.specs.Words.{words_of_one, words_in}

or_assoc : (a b c : Option ℕ) → option_or (option_or a b) c ≡ option_or a (option_or b c)
or_assoc None b c = refl
or_assoc (Some x) b c = refl

-- a label of two lists, one behind the other
label_at-append : (label : Label) (at : ℕ) (xs ys : List Sym) → label_at label at (xs ++ ys) ≡ option_or (label_at label at xs) (label_at label (at + words_in xs) ys)
label_at-append label at [] ys =
    let e : at ≡ at + 0 = omega arith in
    ap (λ n. label_at label n ys) e
label_at-append label at (s ∷ xs) ys =
    let more = sum_by-cons words_of_one s xs in
    let e : at + words_of_one s + words_in xs ≡ at + words_in (s ∷ xs) = omega (arith, more) in
    let here = at_if (is_label label (label_of s)) at in
    let later = label_at label (at + words_of_one s) xs in
    ap (λ o. option_or here o) (label_at-append label (at + words_of_one s) xs ys)
    ∙ (sym (or_assoc here later (label_at label (at + words_of_one s + words_in xs) ys))
    ∙ ap (λ n. option_or (option_or here later) (label_at label n ys)) e)

-- one more instruction
pub label_more : (label : Label) (at : ℕ) (xs : List Sym) (i : ℕ) (d : Sym) → i < length xs → label_at label at (take (i + 1) xs) ≡ option_or (label_at label at (take i xs)) (at_if (is_label label (label_of (get_or xs i d))) (at + words_in (take i xs)))
label_more label at xs i d below =
    ap (label_at label at) (take_more xs i d below)
    ∙ (label_at-append label at (take i xs) (get_or xs i d ∷ [])
    ∙ ap (option_or (label_at label at (take i xs))) (or_none (at_if (is_label label (label_of (get_or xs i d))) (at + words_in (take i xs)))))

-- one more block
first_more : (place : SymBlock → ℕ → Option ℕ) (blocks : List SymBlock) (at : List ℕ) (i : ℕ) (d : SymBlock) (e : ℕ) → i < length blocks → i < length at → first_place place (take (i + 1) blocks) at ≡ option_or (first_place place (take i blocks) at) (place (get_or blocks i d) (get_or at i e))
first_more place [] at i d e below inside = absurd (omega (arith, below))
first_more place (b ∷ blocks) [] i d e below inside = absurd (omega (arith, inside))
first_more place (b ∷ blocks) (a ∷ at) zero d e below inside = or_none (place b a)
first_more place (b ∷ blocks) (a ∷ at) (suc i) d e below inside =
    let one : suc i + 1 ≡ suc (i + 1) = omega arith in
    ap (λ n. first_place place (take n (b ∷ blocks)) (a ∷ at)) one
    ∙ (ap (λ o. option_or (place b a) o) (first_more place blocks at i d e (omega (arith, below)) (omega (arith, inside)))
    ∙ sym (or_assoc (place b a) (first_place place (take i blocks) at) (place (get_or blocks i d) (get_or at i e))))

-- one more block, by what a loop knows of it
pub one_more : (place : SymBlock → ℕ → Option ℕ) (ys blocks : List SymBlock) (at : List ℕ) (i : ℕ) (block : SymBlock) (start : ℕ) → ys ≡ blocks → i < length ys → block ≡ get_or ys i block → i < length at → start ≡ get_or at i start → first_place place (take (i + 1) blocks) at ≡ option_or (first_place place (take i blocks) at) (place block start)
one_more place ys blocks at i block start same below read inside is =
    let long : length ys ≡ length blocks = ap (λ (list : List SymBlock). length list) same in
    let found : get_or blocks i block ≡ block = ap (λ (list : List SymBlock). get_or list i block) (sym same) ∙ sym read in
    first_more place blocks at i block start (omega (arith, below, long)) inside
    ∙ (ap (λ (b : SymBlock). option_or (first_place place (take i blocks) at) (place b (get_or at i start))) found
    ∙ ap (λ n. option_or (first_place place (take i blocks) at) (place block n)) (sym is))

-- A loop over instructions goes on by one: how many words stand before,
pub count_turn : (ys xs : List Sym) (i : ℕ) (d : Sym) (at pc few : ℕ) → ys ≡ xs → i < length ys → pc ≡ at + words_in (take i xs) → few ≡ words_of_one (get_or ys i d) → pc + few ≡ at + words_in (take (i + 1) xs)
count_turn ys xs i d at pc few same below so_far is =
    let long : length ys ≡ length xs = ap (λ (list : List Sym). length list) same in
    let here : few ≡ words_of_one (get_or xs i d) = is ∙ ap (λ (list : List Sym). words_of_one (get_or list i d)) same in
    let more = sum_by_more words_of_one xs i d (omega (arith, below, long)) in
    omega (arith, so_far, here, more)

-- and where a label stands.
pub label_turn : (label : Label) (ys xs : List Sym) (i : ℕ) (d : Sym) (at pc : ℕ) (found : Option Label) (old new : Option ℕ) → ys ≡ xs → i < length ys → pc ≡ at + words_in (take i xs) → found ≡ label_of (get_or ys i d) → old ≡ label_at label at (take i xs) → new ≡ option_or old (at_if (is_label label found) pc) → new ≡ label_at label at (take (i + 1) xs)
label_turn label ys xs i d at pc found old new same below so_far is before put =
    let long : length ys ≡ length xs = ap (λ (list : List Sym). length list) same in
    let here : found ≡ label_of (get_or xs i d) = is ∙ ap (λ (list : List Sym). label_of (get_or list i d)) same in
    put ∙ (ap (λ o. option_or o (at_if (is_label label found) pc)) before
    ∙ (ap (λ n. option_or (label_at label at (take i xs)) (at_if (is_label label found) n)) so_far
    ∙ (ap (λ (o : Option Label). option_or (label_at label at (take i xs)) (at_if (is_label label o) (at + words_in (take i xs)))) here
    ∙ sym (label_more label at xs i d (omega (arith, below, long))))))

-- the same where a place was known before
pub later_turn : (label : Label) (ys xs : List Sym) (i : ℕ) (d : Sym) (at pc : ℕ) (found : Option Label) (old new first : Option ℕ) → ys ≡ xs → i < length ys → pc ≡ at + words_in (take i xs) → found ≡ label_of (get_or ys i d) → old ≡ option_or first (label_at label at (take i xs)) → new ≡ option_or old (at_if (is_label label found) pc) → new ≡ option_or first (label_at label at (take (i + 1) xs))
later_turn label ys xs i d at pc found old new first same below so_far is before put =
    let here = at_if (is_label label found) pc in
    put ∙ (ap (λ o. option_or o here) before
    ∙ (or_assoc first (label_at label at (take i xs)) here
    ∙ ap (option_or first) (label_turn label ys xs i d at pc found (label_at label at (take i xs)) (option_or (label_at label at (take i xs)) here) same below so_far is refl refl)))

-- Rows of types, readers and their numbers, one after the other.
use Rattle.std.proofs.Common.{◌≡◌, ℕ, ◌+◌, ◌<◌, ◌≤◌, true, false, cond, List, [], ◌∷◌, ◌++◌, length, map, drop, get_or, Option, Some, None, slice_get, refl, sym, ap, ◌∙◌, append_assoc, append-nil, add_assoc, option_map}
use Rattle.std.proofs.lemmas.List.{drop_all, drop_more, map_push}
use Rattle.std.proofs.lemmas.Option.{slice_get-map, slice_get_past, slice_get_read}
use Rattle.c_typed.specs.Sameness.{same_qualified}
use Rattle.c_typed.specs.Trees.{StaticTree, FunctionTree, Program}
use Rattle.c_typed.specs.Views.{function_of, static_of}
use Rattle.c_typed.specs.declared.program.Function.{Function}
use Rattle.c_typed.specs.declared.program.Static.{Static}
use Rattle.c_typed.specs.declared.types.Qualified.{Qualified}
use Rattle.rom_tables.specs.Outlined.{element_qualified, reader_for, reader_of, readers, row_in, with_element, with_row, with_rows}
use Rattle.rom_tables.specs.Tables.{readers_from}

-- ---- where a row is
left_row : (rows : List Qualified) (k : ℕ) (r : Qualified) → k < length rows → r ≡ get_or rows k r → drop k rows ≡ r ∷ drop (k + 1) rows
left_row rows k r below is = drop_more rows k r below ∙ ap (λ u. u ∷ drop (k + 1) rows) (sym is)

pub is_here : (q : Qualified) (k : ℕ) (rows : List Qualified) (r : Qualified) → k < length rows → r ≡ get_or rows k r → same_qualified q r ≡ true → row_in q k (drop k rows) ≡ Some k
is_here q k rows r below is same = ap (row_in q k) (left_row rows k r below is) ∙ ap (λ b. cond b (Some k) (row_in q (k + 1) (drop (k + 1) rows))) same

pub not_here : (q : Qualified) (k : ℕ) (rows : List Qualified) (r : Qualified) → k < length rows → r ≡ get_or rows k r → same_qualified q r ≡ false → row_in q k (drop k rows) ≡ row_in q (k + 1) (drop (k + 1) rows)
not_here q k rows r below is other = ap (row_in q k) (left_row rows k r below is) ∙ ap (λ b. cond b (Some k) (row_in q (k + 1) (drop (k + 1) rows))) other

-- ---- the table of a number
left_number : (ts : List ℕ) (k t : ℕ) → k < length ts → t ≡ get_or ts k t → drop k ts ≡ t ∷ drop (k + 1) ts
left_number ts k t below is = drop_more ts k t below ∙ ap (λ u. u ∷ drop (k + 1) ts) (sym is)

static_at : (ss : List Static) (t : ℕ) (found : Option Static) → slice_get ss t ≡ found → slice_get (map static_of ss) t ≡ option_map static_of found
static_at ss t found is = slice_get-map static_of ss t ∙ ap (option_map static_of) is

pub static_there : (ss : List Static) (t : ℕ) (s : Static) → t < length ss → s ≡ get_or ss t s → slice_get (map static_of ss) t ≡ Some (static_of s)
static_there ss t s below is = static_at ss t (Some s) (slice_get_read ss (length ss) t s refl below is)

pub static_missing : (ss : List Static) (t : ℕ) → length ss ≤ t → slice_get (map static_of ss) t ≡ None
static_missing ss t past = static_at ss t None (slice_get_past ss t past)

pub row_there : (p : Program) (ss : List StaticTree) (t : ℕ) (s : StaticTree) (rows new : List Qualified) → slice_get ss t ≡ Some s → new ≡ with_row (element_qualified p s) rows → new ≡ with_element p (slice_get ss t) rows
row_there p ss t s rows new found made = made ∙ sym (ap (λ o. with_element p o rows) found)

pub row_missing : (p : Program) (ss : List StaticTree) (t : ℕ) (rows : List Qualified) → slice_get ss t ≡ None → rows ≡ with_element p (slice_get ss t) rows
row_missing p ss t rows found = sym (ap (λ o. with_element p o rows) found)

pub reader_there : (p : Program) (ss : List StaticTree) (t : ℕ) (s : StaticTree) (given : List Function) (n : Function) → slice_get ss t ≡ Some s → function_of n ≡ reader_for p t s → map function_of (given ++ n ∷ []) ≡ map function_of given ++ reader_of p t (slice_get ss t)
reader_there p ss t s given n found made =
    map_push function_of given n ∙ ap (λ f. map function_of given ++ f ∷ []) made
    ∙ sym (ap (λ o. map function_of given ++ reader_of p t o) found)

pub reader_missing : (p : Program) (ss : List StaticTree) (t : ℕ) (given : List Function) → slice_get ss t ≡ None → map function_of given ≡ map function_of given ++ reader_of p t (slice_get ss t)
reader_missing p ss t given found = sym (append-nil (map function_of given)) ∙ sym (ap (λ o. map function_of given ++ reader_of p t o) found)

pub row_added : (p : Program) (ts : List ℕ) (k t : ℕ) (rows new whole : List Qualified) → k < length ts → t ≡ get_or ts k t → new ≡ with_element p (slice_get p.statics t) rows → with_rows p (drop k ts) rows ≡ whole → with_rows p (drop (k + 1) ts) new ≡ whole
row_added p ts k t rows new whole below is made before = ap (with_rows p (drop (k + 1) ts)) made ∙ sym (ap (λ l. with_rows p l rows) (left_number ts k t below is)) ∙ before

pub all_rows : (p : Program) (ts : List ℕ) (k : ℕ) (rows whole : List Qualified) → length ts ≤ k → with_rows p (drop k ts) rows ≡ whole → rows ≡ whole
all_rows p ts k rows whole past before = sym (ap (λ l. with_rows p l rows) (drop_all k ts past)) ∙ before

-- ---- readers
pub reader_added : (p : Program) (ts : List ℕ) (k t : ℕ) (given new whole : List FunctionTree) → k < length ts → t ≡ get_or ts k t → new ≡ given ++ reader_of p t (slice_get p.statics t) → given ++ readers p (drop k ts) ≡ whole → new ++ readers p (drop (k + 1) ts) ≡ whole
reader_added p ts k t given new whole below is made before =
    ap (λ l. l ++ readers p (drop (k + 1) ts)) made
    ∙ append_assoc given (reader_of p t (slice_get p.statics t)) (readers p (drop (k + 1) ts))
    ∙ sym (ap (λ l. given ++ readers p l) (left_number ts k t below is)) ∙ before

pub all_readers : (p : Program) (ts : List ℕ) (k : ℕ) (given : List Function) (whole : List FunctionTree) → length ts ≤ k → map function_of given ++ readers p (drop k ts) ≡ whole → map function_of given ≡ whole
all_readers p ts k given whole past before =
    sym (append-nil (map function_of given)) ∙ sym (ap (λ l. map function_of given ++ readers p l) (drop_all k ts past)) ∙ before

-- ---- their numbers
pub number_added : (first : ℕ) (ts made whole : List ℕ) (k n : ℕ) → k < length ts → n ≡ first + k → made ++ readers_from (first + k) (drop k ts) ≡ whole → (made ++ n ∷ []) ++ readers_from (first + (k + 1)) (drop (k + 1) ts) ≡ whole
number_added first ts made whole k n below same before =
    append_assoc made (n ∷ []) (readers_from (first + (k + 1)) (drop (k + 1) ts))
    ∙ ap (λ m. made ++ m ∷ readers_from (first + (k + 1)) (drop (k + 1) ts)) same
    ∙ ap (λ m. made ++ (first + k) ∷ readers_from m (drop (k + 1) ts)) (sym (add_assoc first k 1))
    ∙ sym (ap (λ l. made ++ readers_from (first + k) l) (drop_more ts k 0 below)) ∙ before

pub all_numbers : (first : ℕ) (ts made whole : List ℕ) (k : ℕ) → length ts ≤ k → made ++ readers_from (first + k) (drop k ts) ≡ whole → made ≡ whole
all_numbers first ts made whole k past before =
    sym (append-nil made) ∙ sym (ap (λ l. made ++ readers_from (first + k) l) (drop_all k ts past)) ∙ before

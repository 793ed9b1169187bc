-- Places in the given code, and in the code that is made of it.
use Rattle.std.proofs.Common.{◌≡◌, ℕ, zero, suc, ◌+◌, Bool, true, false, not, if◌then◌else◌, List, [], ◌∷◌, drop, Option, Some, None, option_map, slice_get, refl, sym, ap, ◌∙◌, subst, add-one, true≢false, arith}
use Rattle.sym_code.specs.Programs.{is_word, labels_in_front, label_from, same_label}
use Rattle.sym_code.specs.declared.code.Label.{Label}
use Rattle.sym_code.specs.declared.code.Sym.{Sym}
use Rattle.sym_code.specs.declared.code.Sym.TheVariants as syms
use Rattle.lean_code.specs.Rows.{Note, Act, Keeps, Drops, Puts, Narrows, Clears, Reads, Tests, Row, At, old_of, olds, put_by, in_front, puts, is_label, is_none, is_dropped, place_in, note_ahead, past, drops_first, keeps_first, goes_on}

pub never : {A : Type 0} → false ≡ true → A
never e = absurd (true≢false (sym e))

-- ---- what stands at a place
-- a row that is left out
abbrev pub dropped_at : Option Row → Bool
dropped_at None = false
dropped_at (Some row) = if is_label (old_of row) then false else is_dropped row

-- a row of which an instruction is made
abbrev pub stands_at : Option Row → Bool
stands_at None = false
stands_at (Some row) = if is_label (old_of row) then false else not (is_dropped row)

abbrev pub put_at : Option Row → Option Sym
put_at None = None
put_at (Some row) = put_by row

-- ---- behind labels
-- the first index from here on at which no label stands
abbrev pub settle : List Sym → ℕ → ℕ
settle [] j = j
settle (s ∷ list) zero = labels_in_front (s ∷ list)
settle (s ∷ list) (suc j) = suc (settle list j)

pub settle_zero : (list : List Sym) → settle list 0 ≡ labels_in_front list
settle_zero [] = refl
settle_zero (s ∷ list) = refl

pub settle_is : (list : List Sym) (j : ℕ) → j + labels_in_front (drop j list) ≡ settle list j
settle_is [] zero = refl
settle_is [] (suc j) = omega arith
settle_is (s ∷ list) zero = omega arith
settle_is (s ∷ list) (suc j) = let before = settle_is list j in omega arith

pub settle_again : (list : List Sym) (j : ℕ) → settle list (settle list j) ≡ settle list j
settle_again [] j = refl
settle_again (syms.Label label ∷ list) zero = ap suc (subst (λ n. settle list n ≡ n) (settle_zero list) (settle_again list zero))
settle_again (s ∷ list) zero = refl
settle_again (s ∷ list) (suc j) = ap suc (settle_again list j)

-- ---- places in what is made
pub place_zero : (rows : List Row) → place_in rows 0 ≡ labels_in_front (puts rows)
place_zero [] = refl
place_zero (row ∷ rows) = refl

pub place_settle : (rows : List Row) (j : ℕ) → place_in rows (settle (olds rows) j) ≡ place_in rows j
place_settle [] j = refl
place_settle (At (syms.Label label) act said ∷ rows) zero =
    ap suc (subst (λ n. place_in rows n ≡ place_in rows 0) (settle_zero (olds rows)) (place_settle rows zero) ∙ place_zero rows)
place_settle (At s act said ∷ rows) zero = refl
place_settle (row ∷ rows) (suc j) = ap (λ n. if is_dropped row then n else suc n) (place_settle rows j)

-- what is left out moves nothing
pub place_dropped : (rows : List Row) (j : ℕ) → dropped_at (slice_get rows j) ≡ true → place_in rows (suc j) ≡ place_in rows j
place_dropped [] j e = never e
place_dropped (At (syms.Label label) act said ∷ rows) zero e = never e
place_dropped (At s Keeps said ∷ rows) zero e = never e
place_dropped (At s Drops said ∷ rows) zero e = place_zero rows
place_dropped (At s (Puts op n) said ∷ rows) zero e = never e
place_dropped (At s Narrows said ∷ rows) zero e = never e
place_dropped (At s Clears said ∷ rows) zero e = never e
place_dropped (At s (Reads n) said ∷ rows) zero e = never e
place_dropped (At s (Tests flag turned) said ∷ rows) zero e = never e
place_dropped (row ∷ rows) (suc j) e = ap (λ n. if is_dropped row then n else suc n) (place_dropped rows j e)

-- behind an instruction that is made the code that is made goes on behind it
pub place_behind : (rows : List Row) (j : ℕ) → stands_at (slice_get rows j) ≡ true → settle (puts rows) (suc (place_in rows j)) ≡ place_in rows (suc j)
place_behind [] j e = never e
place_behind (At (syms.Label label) act said ∷ rows) zero e = never e
place_behind (At s Keeps said ∷ rows) zero e = ap suc (settle_zero (puts rows) ∙ sym (place_zero rows))
place_behind (At s Drops said ∷ rows) zero e = never e
place_behind (At s (Puts op n) said ∷ rows) zero e = ap suc (settle_zero (puts rows) ∙ sym (place_zero rows))
place_behind (At s Narrows said ∷ rows) zero e = ap suc (settle_zero (puts rows) ∙ sym (place_zero rows))
place_behind (At s Clears said ∷ rows) zero e = ap suc (settle_zero (puts rows) ∙ sym (place_zero rows))
place_behind (At s (Reads n) said ∷ rows) zero e = ap suc (settle_zero (puts rows) ∙ sym (place_zero rows))
place_behind (At s (Tests flag turned) said ∷ rows) zero e = ap suc (settle_zero (puts rows) ∙ sym (place_zero rows))
place_behind (row ∷ rows) (suc j) e = by_put (put_by row) (place_behind rows j e)
  where
    by_put : (o : Option Sym) → settle (puts rows) (suc (place_in rows j)) ≡ place_in rows (suc j)
        → settle (in_front o (puts rows)) (suc (if is_none o then place_in rows j else suc (place_in rows j))) ≡ (if is_none o then place_in rows (suc j) else suc (place_in rows (suc j)))
    by_put None before = before
    by_put (Some s) before = ap suc before

-- it stands there
pub place_fetches : (rows : List Row) (j : ℕ) → stands_at (slice_get rows j) ≡ true → slice_get (puts rows) (place_in rows j) ≡ put_at (slice_get rows j)
place_fetches [] j e = never e
place_fetches (At (syms.Label label) act said ∷ rows) zero e = never e
place_fetches (At s Keeps said ∷ rows) zero e = refl
place_fetches (At s Drops said ∷ rows) zero e = never e
place_fetches (At s (Puts op n) said ∷ rows) zero e = refl
place_fetches (At s Narrows said ∷ rows) zero e = refl
place_fetches (At s Clears said ∷ rows) zero e = refl
place_fetches (At s (Reads n) said ∷ rows) zero e = refl
place_fetches (At s (Tests flag turned) said ∷ rows) zero e = refl
place_fetches (row ∷ rows) (suc j) e = by_put (put_by row) (place_fetches rows j e)
  where
    by_put : (o : Option Sym) → slice_get (puts rows) (place_in rows j) ≡ put_at (slice_get rows j)
        → slice_get (in_front o (puts rows)) (if is_none o then place_in rows j else suc (place_in rows j)) ≡ put_at (slice_get rows j)
    by_put None before = before
    by_put (Some s) before = before

-- where the code goes on, something stands in what is made
pub place_lands : (rows : List Row) (j : ℕ) → goes_on (drop j rows) ≡ true → is_word (slice_get (puts rows) (place_in rows j)) ≡ true
place_lands [] zero e = never e
place_lands [] (suc j) e = never e
place_lands (At (syms.Label label) act said ∷ rows) zero e = subst (λ n. is_word (slice_get (puts rows) n) ≡ true) (place_zero rows) (place_lands rows zero e)
place_lands (At s Keeps said ∷ rows) zero e = refl
place_lands (At s Drops said ∷ rows) zero e = subst (λ n. is_word (slice_get (puts rows) n) ≡ true) (place_zero rows) (place_lands rows zero e)
place_lands (At s (Puts op n) said ∷ rows) zero e = refl
place_lands (At s Narrows said ∷ rows) zero e = refl
place_lands (At s Clears said ∷ rows) zero e = refl
place_lands (At s (Reads n) said ∷ rows) zero e = refl
place_lands (At s (Tests flag turned) said ∷ rows) zero e = refl
place_lands (row ∷ rows) (suc j) e = by_put (put_by row) (place_lands rows j e)
  where
    by_put : (o : Option Sym) → is_word (slice_get (puts rows) (place_in rows j)) ≡ true
        → is_word (slice_get (in_front o (puts rows)) (if is_none o then place_in rows j else suc (place_in rows j))) ≡ true
    by_put None before = before
    by_put (Some s) before = before

-- ---- what is known there
pub note_settle : (rows : List Row) (j : ℕ) → note_ahead (drop (settle (olds rows) j) rows) ≡ note_ahead (drop j rows)
note_settle [] j = refl
note_settle (At (syms.Label label) act said ∷ rows) zero = subst (λ n. note_ahead (drop n rows) ≡ note_ahead rows) (settle_zero (olds rows)) (note_settle rows zero)
note_settle (At s act said ∷ rows) zero = refl
note_settle (row ∷ rows) (suc j) = note_settle rows j

pub past_is : (rows : List Row) (j : ℕ) → past (drop j rows) ≡ drop (suc (settle (olds rows) j)) rows
past_is [] zero = refl
past_is [] (suc j) = refl
past_is (At (syms.Label label) act said ∷ rows) zero = subst (λ n. past rows ≡ drop (suc n) rows) (settle_zero (olds rows)) (past_is rows zero)
past_is (At s act said ∷ rows) zero = refl
past_is (row ∷ rows) (suc j) = past_is rows j

pub drops_at : (rows : List Row) (j : ℕ) → drops_first (drop j rows) ≡ true → dropped_at (slice_get rows (settle (olds rows) j)) ≡ true
drops_at [] zero e = never e
drops_at [] (suc j) e = never e
drops_at (At (syms.Label label) act said ∷ rows) zero e = subst (λ n. dropped_at (slice_get rows n) ≡ true) (settle_zero (olds rows)) (drops_at rows zero e)
drops_at (At s act said ∷ rows) zero e = e
drops_at (row ∷ rows) (suc j) e = drops_at rows j e

pub keeps_at : (rows : List Row) (j : ℕ) → keeps_first (drop j rows) ≡ true → stands_at (slice_get rows (settle (olds rows) j)) ≡ true
keeps_at [] zero e = never e
keeps_at [] (suc j) e = never e
keeps_at (At (syms.Label label) act said ∷ rows) zero e = subst (λ n. stands_at (slice_get rows n) ≡ true) (settle_zero (olds rows)) (keeps_at rows zero e)
keeps_at (At s act said ∷ rows) zero e = e
keeps_at (row ∷ rows) (suc j) e = keeps_at rows j e

-- an instruction stands at an index
pub record Stood (rows : List Row) (j : ℕ) : Type 0 where
  pub s : Sym
  pub act : Act
  pub note : Option Note
  pub row : slice_get rows j ≡ Some (At s act note)
  pub here : slice_get (olds rows) j ≡ Some s
  pub ahead : note_ahead (drop j rows) ≡ Some note
  pub word : is_label s ≡ false

pub stood : (rows : List Row) (j : ℕ) → is_word (slice_get (olds rows) j) ≡ true → Stood rows j
stood [] j e = never e
stood (At (syms.Label label) act said ∷ rows) zero e = never e
stood (At s act said ∷ rows) zero e = record { s = s; act = act; note = said; row = refl; here = refl; ahead = refl; word = refl }
stood (row ∷ rows) (suc j) e = let x = stood rows j e in record { s = x.s; act = x.act; note = x.note; row = x.row; here = x.here; ahead = x.ahead; word = x.word }

-- ---- labels
label_if : (b : Bool) (n : ℕ) (x y : Option ℕ) → y ≡ option_map suc x → (if b then Some (n + 1) else y) ≡ option_map suc (if b then Some n else x)
label_if true n x y e = ap (λ (m : ℕ). Some m) (add-one n)
label_if false n x y e = e

label_suc : (list : List Sym) (label : Label) (n : ℕ) → label_from list label (n + 1) ≡ option_map suc (label_from list label n)
label_suc [] label n = refl
label_suc (syms.Label l ∷ list) label n = label_if (same_label l label) n (label_from list label (n + 1)) (label_from list label (n + 1 + 1)) (label_suc list label (n + 1))
label_suc (s ∷ list) label n = label_suc list label (n + 1)

suc_out : (f g : ℕ → ℕ) (o : Option ℕ) → ((k : ℕ) → f (suc k) ≡ suc (g k)) → option_map f (option_map suc o) ≡ option_map suc (option_map g o)
suc_out f g None same = refl
suc_out f g (Some k) same = ap Some (same k)

suc_lost : (f g : ℕ → ℕ) (o : Option ℕ) → ((k : ℕ) → f (suc k) ≡ g k) → option_map f (option_map suc o) ≡ option_map g o
suc_lost f g None same = refl
suc_lost f g (Some k) same = ap Some (same k)

pub label_place : (rows : List Row) (label : Label) → option_map (place_in rows) (label_from (olds rows) label 0) ≡ option_map (settle (puts rows)) (label_from (puts rows) label 0)
label_place [] label = refl
label_place (At (syms.Label l) act said ∷ rows) label = by_label (same_label l label) (label_place rows label)
  where
    by_label : (b : Bool) → option_map (place_in rows) (label_from (olds rows) label 0) ≡ option_map (settle (puts rows)) (label_from (puts rows) label 0)
        → option_map (place_in (At (syms.Label l) act said ∷ rows)) (if b then Some 0 else label_from (olds rows) label 1) ≡ option_map (settle (syms.Label l ∷ puts rows)) (if b then Some 0 else label_from (puts rows) label 1)
    by_label true before = refl
    by_label false before =
        ap (option_map (place_in (At (syms.Label l) act said ∷ rows))) (label_suc (olds rows) label 0) ∙ suc_out (place_in (At (syms.Label l) act said ∷ rows)) (place_in rows) (label_from (olds rows) label 0) (λ k. refl)
        ∙ ap (option_map suc) before
        ∙ sym (ap (option_map (settle (syms.Label l ∷ puts rows))) (label_suc (puts rows) label 0) ∙ suc_out (settle (syms.Label l ∷ puts rows)) (settle (puts rows)) (label_from (puts rows) label 0) (λ k. refl))
label_place (At s Drops said ∷ rows) label =
    ap (option_map (place_in (At s Drops said ∷ rows))) (label_suc (olds rows) label 0) ∙ suc_lost (place_in (At s Drops said ∷ rows)) (place_in rows) (label_from (olds rows) label 0) (λ k. refl) ∙ label_place rows label
label_place (At s Keeps said ∷ rows) label =
    ap (option_map (place_in (At s Keeps said ∷ rows))) (label_suc (olds rows) label 0) ∙ suc_out (place_in (At s Keeps said ∷ rows)) (place_in rows) (label_from (olds rows) label 0) (λ k. refl)
    ∙ ap (option_map suc) (label_place rows label)
    ∙ sym (ap (option_map (settle (s ∷ puts rows))) (label_suc (puts rows) label 0) ∙ suc_out (settle (s ∷ puts rows)) (settle (puts rows)) (label_from (puts rows) label 0) (λ k. refl))
label_place (At s (Puts op n) said ∷ rows) label =
    ap (option_map (place_in (At s (Puts op n) said ∷ rows))) (label_suc (olds rows) label 0) ∙ suc_out (place_in (At s (Puts op n) said ∷ rows)) (place_in rows) (label_from (olds rows) label 0) (λ k. refl)
    ∙ ap (option_map suc) (label_place rows label)
    ∙ sym (ap (option_map (settle (puts (At s (Puts op n) said ∷ rows)))) (label_suc (puts rows) label 0) ∙ suc_out (settle (puts (At s (Puts op n) said ∷ rows))) (settle (puts rows)) (label_from (puts rows) label 0) (λ k. refl))
label_place (At s Narrows said ∷ rows) label =
    ap (option_map (place_in (At s Narrows said ∷ rows))) (label_suc (olds rows) label 0) ∙ suc_out (place_in (At s Narrows said ∷ rows)) (place_in rows) (label_from (olds rows) label 0) (λ k. refl)
    ∙ ap (option_map suc) (label_place rows label)
    ∙ sym (ap (option_map (settle (puts (At s Narrows said ∷ rows)))) (label_suc (puts rows) label 0) ∙ suc_out (settle (puts (At s Narrows said ∷ rows))) (settle (puts rows)) (label_from (puts rows) label 0) (λ k. refl))
label_place (At s Clears said ∷ rows) label =
    ap (option_map (place_in (At s Clears said ∷ rows))) (label_suc (olds rows) label 0) ∙ suc_out (place_in (At s Clears said ∷ rows)) (place_in rows) (label_from (olds rows) label 0) (λ k. refl)
    ∙ ap (option_map suc) (label_place rows label)
    ∙ sym (ap (option_map (settle (puts (At s Clears said ∷ rows)))) (label_suc (puts rows) label 0) ∙ suc_out (settle (puts (At s Clears said ∷ rows))) (settle (puts rows)) (label_from (puts rows) label 0) (λ k. refl))
label_place (At s (Reads n) said ∷ rows) label =
    ap (option_map (place_in (At s (Reads n) said ∷ rows))) (label_suc (olds rows) label 0) ∙ suc_out (place_in (At s (Reads n) said ∷ rows)) (place_in rows) (label_from (olds rows) label 0) (λ k. refl)
    ∙ ap (option_map suc) (label_place rows label)
    ∙ sym (ap (option_map (settle (puts (At s (Reads n) said ∷ rows)))) (label_suc (puts rows) label 0) ∙ suc_out (settle (puts (At s (Reads n) said ∷ rows))) (settle (puts rows)) (label_from (puts rows) label 0) (λ k. refl))
label_place (At s (Tests flag turned) said ∷ rows) label =
    ap (option_map (place_in (At s (Tests flag turned) said ∷ rows))) (label_suc (olds rows) label 0) ∙ suc_out (place_in (At s (Tests flag turned) said ∷ rows)) (place_in rows) (label_from (olds rows) label 0) (λ k. refl)
    ∙ ap (option_map suc) (label_place rows label)
    ∙ sym (ap (option_map (settle (puts (At s (Tests flag turned) said ∷ rows)))) (label_suc (puts rows) label 0) ∙ suc_out (settle (puts (At s (Tests flag turned) said ∷ rows))) (settle (puts rows)) (label_from (puts rows) label 0) (λ k. refl))

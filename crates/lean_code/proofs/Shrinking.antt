-- What is made is what was given without some instructions.
use Rattle.std.proofs.Common.{◌≡◌, ℕ, ◌<◌, ◌≤◌, Bool, true, false, ◌&&◌, if◌then◌else◌, List, [], ◌∷◌, Option, refl, ap, ◌∙◌, arith}
use Rattle.std.specs.List.{list_all}
use Rattle.std.proofs.lemmas.List.Sums.{sum_by-cons}
use Rattle.std.specs.Prelude.{nat_lt}
use Rattle.sym_code.specs.Words.{words_of_one, words_in}
use Rattle.sym_code.specs.declared.code.Literal.TheVariants.{Number}
use Rattle.sym_code.specs.declared.code.Sym.{Sym}
use Rattle.sym_code.specs.declared.code.Sym.TheVariants as syms
use Rattle.lean_code.specs.Rows.{Keeps, Drops, Puts, Narrows, narrowed, Clears, cleared, Reads, reads_before, Tests, tests_flag, Row, At, olds, puts, place_in}
use Rattle.lean_code.specs.Links.{price_at, CarriedIsCheaper}
use Rattle.lean_code.specs.Admissible.{is_byte_act, puts_bytes, BytesKeep}
use Rattle.lean_code.specs.Shrinks.{RowsShrink, RowsKeep}
use Rattle.lean_code.proofs.Lists.{never}

more : (s t : Sym) (list made : List Sym) → words_of_one t ≤ words_of_one s → words_in made ≤ words_in list → words_in (t ∷ made) ≤ words_in (s ∷ list)
more s t list made one before =
    let a = sum_by-cons words_of_one s list in
    let b = sum_by-cons words_of_one t made in
    omega arith

less : (s : Sym) (list made : List Sym) → words_in made ≤ words_in list → words_in made ≤ words_in (s ∷ list)
less s list made before = let a = sum_by-cons words_of_one s list in omega arith

pub rows_shrink : RowsShrink
rows_shrink [] = omega arith
rows_shrink (At (syms.Label label) act said ∷ rows) = more (syms.Label label) (syms.Label label) (olds rows) (puts rows) (omega arith) (rows_shrink rows)
rows_shrink (At s Keeps said ∷ rows) = more s s (olds rows) (puts rows) (omega arith) (rows_shrink rows)
rows_shrink (At s Drops said ∷ rows) = less s (olds rows) (puts rows) (rows_shrink rows)
rows_shrink (At s (Puts op n) said ∷ rows) = more s (syms.Literal op (Number n)) (olds rows) (puts rows) (omega arith) (rows_shrink rows)
rows_shrink (At s Narrows said ∷ rows) = more s (narrowed s) (olds rows) (puts rows) (omega arith) (rows_shrink rows)
rows_shrink (At s Clears said ∷ rows) = more s (cleared s) (olds rows) (puts rows) (omega arith) (rows_shrink rows)
rows_shrink (At s (Reads n) said ∷ rows) = more s (reads_before n s) (olds rows) (puts rows) (omega arith) (rows_shrink rows)
rows_shrink (At s (Tests flag turned) said ∷ rows) = more s (tests_flag flag turned s) (olds rows) (puts rows) (omega arith) (rows_shrink rows)

and_l : (a b : Bool) → (a && b) ≡ true → a ≡ true
and_l true b e = refl
and_l false b e = e

and_r : (a b : Bool) → (a && b) ≡ true → b ≡ true
and_r true b e = e
and_r false b e = never e

both : (a b : Bool) → a ≡ true → b ≡ true → (a && b) ≡ true
both true b e k = k
both false b e k = e

pub rows_keep : RowsKeep
rows_keep test [] literal narrow clear read flags e = refl
rows_keep test (At (syms.Label label) act said ∷ rows) literal narrow clear read flags e =
    both (test (syms.Label label)) (list_all test (puts rows)) (and_l (test (syms.Label label)) (list_all test (olds rows)) e) (rows_keep test rows literal narrow clear read flags (and_r (test (syms.Label label)) (list_all test (olds rows)) e))
rows_keep test (At s Keeps said ∷ rows) literal narrow clear read flags e = both (test s) (list_all test (puts rows)) (and_l (test s) (list_all test (olds rows)) e) (rows_keep test rows literal narrow clear read flags (and_r (test s) (list_all test (olds rows)) e))
rows_keep test (At s Drops said ∷ rows) literal narrow clear read flags e = rows_keep test rows literal narrow clear read flags (and_r (test s) (list_all test (olds rows)) e)
rows_keep test (At s (Puts op n) said ∷ rows) literal narrow clear read flags e =
    both (test (syms.Literal op (Number n))) (list_all test (puts rows)) (literal op n) (rows_keep test rows literal narrow clear read flags (and_r (test s) (list_all test (olds rows)) e))
rows_keep test (At s Narrows said ∷ rows) literal narrow clear read flags e =
    both (test (narrowed s)) (list_all test (puts rows)) (narrow s (and_l (test s) (list_all test (olds rows)) e)) (rows_keep test rows literal narrow clear read flags (and_r (test s) (list_all test (olds rows)) e))
rows_keep test (At s Clears said ∷ rows) literal narrow clear read flags e =
    both (test (cleared s)) (list_all test (puts rows)) (clear s (and_l (test s) (list_all test (olds rows)) e)) (rows_keep test rows literal narrow clear read flags (and_r (test s) (list_all test (olds rows)) e))
rows_keep test (At s (Tests flag turned) said ∷ rows) literal narrow clear read flags e =
    both (test (tests_flag flag turned s)) (list_all test (puts rows)) (flags flag turned s (and_l (test s) (list_all test (olds rows)) e)) (rows_keep test rows literal narrow clear read flags (and_r (test s) (list_all test (olds rows)) e))
rows_keep test (At s (Reads n) said ∷ rows) literal narrow clear read flags e =
    both (test (reads_before n s)) (list_all test (puts rows)) (read n s (and_l (test s) (list_all test (olds rows)) e)) (rows_keep test rows literal narrow clear read flags (and_r (test s) (list_all test (olds rows)) e))

below : (n : ℕ) → nat_lt n 256 ≡ true → n < 256
below n e = grind arith

pub bytes_keep : BytesKeep
bytes_keep test [] small literal narrow clear read flags e = refl
bytes_keep test (At (syms.Label label) act said ∷ rows) small literal narrow clear read flags e =
    both (test (syms.Label label)) (list_all test (puts rows)) (and_l (test (syms.Label label)) (list_all test (olds rows)) e) (bytes_keep test rows (and_r (is_byte_act act) (puts_bytes rows) small) literal narrow clear read flags (and_r (test (syms.Label label)) (list_all test (olds rows)) e))
bytes_keep test (At s Keeps said ∷ rows) small literal narrow clear read flags e = both (test s) (list_all test (puts rows)) (and_l (test s) (list_all test (olds rows)) e) (bytes_keep test rows small literal narrow clear read flags (and_r (test s) (list_all test (olds rows)) e))
bytes_keep test (At s Drops said ∷ rows) small literal narrow clear read flags e = bytes_keep test rows small literal narrow clear read flags (and_r (test s) (list_all test (olds rows)) e)
bytes_keep test (At s (Puts op n) said ∷ rows) small literal narrow clear read flags e =
    both (test (syms.Literal op (Number n))) (list_all test (puts rows)) (literal op n (below n (and_l (nat_lt n 256) (puts_bytes rows) small))) (bytes_keep test rows (and_r (nat_lt n 256) (puts_bytes rows) small) literal narrow clear read flags (and_r (test s) (list_all test (olds rows)) e))
bytes_keep test (At s Narrows said ∷ rows) small literal narrow clear read flags e =
    both (test (narrowed s)) (list_all test (puts rows)) (narrow s (and_l (test s) (list_all test (olds rows)) e)) (bytes_keep test rows small literal narrow clear read flags (and_r (test s) (list_all test (olds rows)) e))
bytes_keep test (At s Clears said ∷ rows) small literal narrow clear read flags e =
    both (test (cleared s)) (list_all test (puts rows)) (clear s (and_l (test s) (list_all test (olds rows)) e)) (bytes_keep test rows small literal narrow clear read flags (and_r (test s) (list_all test (olds rows)) e))
bytes_keep test (At s (Tests flag turned) said ∷ rows) small literal narrow clear read flags e =
    both (test (tests_flag flag turned s)) (list_all test (puts rows)) (flags flag turned s (and_l (test s) (list_all test (olds rows)) e)) (bytes_keep test rows small literal narrow clear read flags (and_r (test s) (list_all test (olds rows)) e))
bytes_keep test (At s (Reads n) said ∷ rows) small literal narrow clear read flags e =
    both (test (reads_before n s)) (list_all test (puts rows)) (read n s (and_l (test s) (list_all test (olds rows)) e)) (bytes_keep test rows small literal narrow clear read flags (and_r (test s) (list_all test (olds rows)) e))

pub carried_is_cheaper : CarriedIsCheaper
carried_is_cheaper x new name j row got stays =
    let price : ℕ = new name (place_in (x.rows name) j) in
    let same = ap (λ (o : Option Row). price_at o price) got ∙ ap (λ (d : Bool). if d then 0 else price) stays in
    omega arith

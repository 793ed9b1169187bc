-- One token more is counted.
use Rattle.std.proofs.Common.{◌≡◌, ℕ, ◌+◌, ◌<◌, ◌≤◌, List, ◌∷◌, length, drop, Option, Some, None, Bool, true, false, nat_lt, refl, sym, ap, subst, ◌∙◌, arith}
use Rattle.std.proofs.Math.ListN.{get_or}
use Rattle.std.proofs.lemmas.List.{drop_more, drop_all}
use Rattle.std.proofs.lemmas.Bool.Decides.{nat_tests}
use Rattle.c_token.specs.declared.token.Tok.{Tok}
use Rattle.parse_expr.specs.declared.error.ParseError.{ParseError}
use Rattle.parse_expr.specs.declared.error.ParseError.TheVariants.{Nesting, Run}
use Rattle.c_parse.specs.Limits.{open_after, run_after, judged, first_over}

-- what is told of the counts at a token
at_token : (n r : ℕ) (xs : List Tok) (i : ℕ) (d : Tok) (n2 r2 : ℕ) → i < length xs → n2 ≡ open_after n (get_or xs i d).kind → r2 ≡ run_after r (get_or xs i d).kind → first_over n r (drop i xs) ≡ judged n2 r2 (get_or xs i d).line (first_over n2 r2 (drop (i + 1) xs))
unfolding first_over
at_token n r xs i d n2 r2 lt en er =
    ap (first_over n r) (drop_more xs i d lt)
    ∙ ap (λ (a : ℕ). judged a (run_after r (get_or xs i d).kind) (get_or xs i d).line (first_over a (run_after r (get_or xs i d).kind) (drop (i + 1) xs))) (sym en)
    ∙ ap (λ (b : ℕ). judged n2 b (get_or xs i d).line (first_over n2 b (drop (i + 1) xs))) (sym er)

not_over : (m n : ℕ) → n ≤ m → nat_lt m n ≡ false
not_over m n le = grind (arith, nat_tests)

is_over : (m n : ℕ) → m < n → nat_lt m n ≡ true
is_over m n lt = grind (arith, nat_tests)

pub goes_on : (n r : ℕ) (xs : List Tok) (i : ℕ) (d : Tok) (n2 r2 : ℕ) (total : Option ParseError) → i < length xs → n2 ≡ open_after n (get_or xs i d).kind → r2 ≡ run_after r (get_or xs i d).kind → n2 ≤ 64 → r2 ≤ 8192 → first_over n r (drop i xs) ≡ total → first_over n2 r2 (drop (i + 1) xs) ≡ total
goes_on n r xs i d n2 r2 total lt en er le le2 so_far =
    let one : judged n2 r2 (get_or xs i d).line (first_over n2 r2 (drop (i + 1) xs)) ≡ first_over n2 r2 (drop (i + 1) xs) = rw (not_over 64 n2 le, not_over 8192 r2 le2) refl in
    sym one ∙ sym (at_token n r xs i d n2 r2 lt en er) ∙ so_far

pub nests : (n r : ℕ) (xs : List Tok) (i : ℕ) (d : Tok) (n2 r2 : ℕ) (total : Option ParseError) → i < length xs → n2 ≡ open_after n (get_or xs i d).kind → r2 ≡ run_after r (get_or xs i d).kind → 64 < n2 → first_over n r (drop i xs) ≡ total → Some (Nesting (get_or xs i d).line) ≡ total
nests n r xs i d n2 r2 total lt en er over so_far =
    let one : judged n2 r2 (get_or xs i d).line (first_over n2 r2 (drop (i + 1) xs)) ≡ Some (Nesting (get_or xs i d).line) = rw (is_over 64 n2 over) refl in
    sym one ∙ sym (at_token n r xs i d n2 r2 lt en er) ∙ so_far

pub runs : (n r : ℕ) (xs : List Tok) (i : ℕ) (d : Tok) (n2 r2 : ℕ) (total : Option ParseError) → i < length xs → n2 ≡ open_after n (get_or xs i d).kind → r2 ≡ run_after r (get_or xs i d).kind → n2 ≤ 64 → 8192 < r2 → first_over n r (drop i xs) ≡ total → Some (Run (get_or xs i d).line) ≡ total
runs n r xs i d n2 r2 total lt en er le over so_far =
    let one : judged n2 r2 (get_or xs i d).line (first_over n2 r2 (drop (i + 1) xs)) ≡ Some (Run (get_or xs i d).line) = rw (not_over 64 n2 le, is_over 8192 r2 over) refl in
    sym one ∙ sym (at_token n r xs i d n2 r2 lt en er) ∙ so_far

pub ends : (n r : ℕ) (xs : List Tok) (i : ℕ) (total : Option ParseError) → length xs ≤ i → first_over n r (drop i xs) ≡ total → None ≡ total
unfolding first_over
ends n r xs i total le so_far = sym (ap (first_over n r) (drop_all i xs le)) ∙ so_far

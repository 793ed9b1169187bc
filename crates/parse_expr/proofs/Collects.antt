-- Loops that collect a list read it again, and tokens that a reader asks for in front.
use Rattle.std.proofs.Common.{◌≡◌, ℕ, zero, suc, ◌<◌, ◌≤◌, Bool, true, false, ◌&&◌, cond, List, [], ◌∷◌, ◌++◌, length, map, Some, None, ◌⊎◌, inl, inr, refl, ap, ◌∙◌, append_assoc, length-append, arith}
use Rattle.std.proofs.lemmas.Bool.{eq-eqb}
use Rattle.c_token.specs.declared.token.TokKind.{TokKind}
use Rattle.c_token.specs.declared.token.Keyword.{Keyword}
use Rattle.c_token.specs.declared.token.Punct.{Punct}
use Rattle.c_token.specs.declared.token.Punct.TheVariants as marks
use Rattle.c_nodes.specs.Words.{Symbol, Symbols, key, punct, flat}
use Rattle.c_nodes.specs.Kinds.{number_of, number_of_word, is_punct, is_key, is_qualifier}
use Rattle.c_nodes.specs.Trees.{are_stars, are_pointers}
use Rattle.parse_expr.specs.Reader.{Step, front_is, symbol_at, punct_at, key_at, collect, all_that, stars_at, pointers_at}
use Rattle.parse_expr.proofs.Knots.{goes_on_pointers}

pub and_both : (a b : Bool) → (a && b) ≡ true → (a ≡ true) × (b ≡ true)
and_both true b h = (refl, h)
and_both false b h = absurd cc

-- neither of two tests that are one
pub neither : (a b : Bool) → cond a true b ≡ false → (a ≡ false) × (b ≡ false)
neither true b h = absurd cc
neither false b h = (refl, h)

pub true_or_false : (b : Bool) → (b ≡ true) ⊎ (b ≡ false)
true_or_false true = inl refl
true_or_false false = inr refl

-- what passes one test doesn't pass another
pub front_not : (this other : TokKind → Bool) → ((k : TokKind) → this k ≡ true → other k ≡ false) → (toks : Symbols) → front_is this toks ≡ true → front_is other toks ≡ false
front_not this other apart [] h = refl
front_not this other apart (s ∷ rest) h = apart s.kind h

-- what doesn't pass a wide test doesn't pass a narrower one
pub front_narrow : (wide narrow : TokKind → Bool) → ((k : TokKind) → wide k ≡ false → narrow k ≡ false) → (toks : Symbols) → front_is wide toks ≡ false → front_is narrow toks ≡ false
front_narrow wide narrow within [] h = refl
front_narrow wide narrow within (s ∷ rest) h = within s.kind h

pub punct_none : (p : Punct) (toks : Symbols) → front_is (is_punct p) toks ≡ false → punct_at p toks ≡ None
unfolding punct_at
punct_none p [] h = refl
punct_none p (s ∷ rest) h = rw h refl

pub symbol_none : (test : TokKind → Bool) (toks : Symbols) → front_is test toks ≡ false → symbol_at test toks ≡ None
unfolding symbol_at
symbol_none test [] h = refl
symbol_none test (s ∷ rest) h = rw h refl

pub key_none : (w : Keyword) (toks : Symbols) → front_is (is_key w) toks ≡ false → key_at w toks ≡ None
unfolding key_at
key_none w [] h = refl
key_none w (s ∷ rest) h = rw h refl

-- what stands in front is read
pub punct_front : (p : Punct) (line : ℕ) (rest : Symbols) → punct_at p (punct p line ∷ rest) ≡ Some (line, rest)
unfolding punct_at
punct_front p line rest = rw (eq-eqb (number_of p) (number_of p) refl) refl

pub key_front : (w : Keyword) (line : ℕ) (rest : Symbols) → key_at w (key w line ∷ rest) ≡ Some (line, rest)
unfolding key_at
key_front w line rest = rw (eq-eqb (number_of_word w) (number_of_word w) refl) refl

pub symbol_front : (test : TokKind → Bool) (s : Symbol) (rest : Symbols) → test s.kind ≡ true → symbol_at test (s ∷ rest) ≡ Some (s, rest)
unfolding symbol_at
symbol_front test s rest h = rw h refl

-- ---- lists

pub collect_ends : {A : Type 0} (step : Step A) (m : ℕ) (rest : Symbols) → step rest ≡ Some None → collect step m rest ≡ Some ([], rest)
unfolding collect
collect_ends step zero rest h = refl
collect_ends step (suc m) rest h = rw h refl

pub collect_more : {A : Type 0} (step : Step A) (m : ℕ) (toks more rest : Symbols) (x : A) (xs : List A) → step toks ≡ Some (Some (x, more)) → collect step m more ≡ Some (xs, rest) → collect step (suc m) toks ≡ Some (x ∷ xs, rest)
unfolding collect
collect_more step m toks more rest x xs h g = rw (h, g) refl

-- A step reads each of a list, which have a token at least, and nothing behind them.
abbrev pub EachRead : {A : Type 0} → Step A → (A → Symbols) → List A → Symbols → Type 0
EachRead step spell [] rest = step rest ≡ Some None
EachRead step spell (x ∷ xs) rest = (0 < length (spell x)) × (step (spell x ++ (flat (map spell xs) ++ rest)) ≡ Some (Some (x, flat (map spell xs) ++ rest))) × EachRead step spell xs rest

pub collect_again : {A : Type 0} (step : Step A) (spell : A → Symbols) (xs : List A) (rest : Symbols) → EachRead step spell xs rest → (m : ℕ) → length (flat (map spell xs)) ≤ m → collect step m (flat (map spell xs) ++ rest) ≡ Some (xs, rest)
collect_again step spell [] rest each m turns = collect_ends step m rest each
collect_again step spell (x ∷ xs) rest each zero turns = absurd (let h = each.0 in omega (arith, length-append (spell x) (flat (map spell xs))))
collect_again step spell (x ∷ xs) rest each (suc m) turns =
    let more = flat (map spell xs) ++ rest in
    let has_token = each.0 in
    let others = collect_again step spell xs rest each.2 m (omega (arith, length-append (spell x) (flat (map spell xs)))) in
    ap (collect step (suc m)) (append_assoc (spell x) (flat (map spell xs)) rest) ∙ collect_more step m (spell x ++ more) more rest x xs each.1 others

pub all_again : {A : Type 0} (step : Step A) (spell : A → Symbols) (xs : List A) (rest : Symbols) → EachRead step spell xs rest → all_that step (flat (map spell xs) ++ rest) ≡ Some (xs, rest)
all_again step spell xs rest each = collect_again step spell xs rest each (length (flat (map spell xs) ++ rest)) (omega (arith, length-append (flat (map spell xs)) rest))

-- ---- pointers

stars_again : (ps rest : Symbols) → are_stars ps ≡ true → front_is goes_on_pointers rest ≡ false → stars_at (ps ++ rest) ≡ (ps, rest)
unfolding stars_at
stars_again [] [] h s = refl
stars_again [] (t ∷ rest) h s = rw s refl
stars_again (p ∷ ps) rest h s = let a = and_both (goes_on_pointers p.kind) (are_stars ps) h in rw (a.0, stars_again ps rest a.1 s) refl

pub pointers_again : (ps rest : Symbols) → are_pointers ps ≡ true → front_is goes_on_pointers rest ≡ false → pointers_at (ps ++ rest) ≡ (ps, rest)
unfolding pointers_at
pointers_again [] [] h s = refl
pointers_again [] (t ∷ rest) h s = rw ((neither (is_punct marks.Star t.kind) (is_qualifier t.kind) s).0) refl
pointers_again (p ∷ ps) rest h s = let a = and_both (is_punct marks.Star p.kind) (are_stars ps) h in rw (a.0, stars_again ps rest a.1 s) refl

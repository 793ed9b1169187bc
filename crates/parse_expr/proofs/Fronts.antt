-- What is read behind a value and behind an assignment, as the code reads it.
use Rattle.std.proofs.Common.{◌≡◌, ℕ, Bool, true, false, if◌then◌else◌, List, [], ◌∷◌, ◌++◌, map, Option, Some, None, Result, refl, sym, ap, ◌∙◌, subst}
use Rattle.std.specs.Prelude.{Ok, Err, IfOk, MatchResult}
use Rattle.std.proofs.lemmas.List.{map-append}
use Rattle.c_token.specs.declared.token.Tok.{Tok}
use Rattle.c_token.specs.declared.token.Punct.TheVariants as marks
use Rattle.c_nodes.specs.Words.{Symbol, Symbols, punct}
use Rattle.c_nodes.specs.Kinds.{is_punct}
use Rattle.c_nodes.specs.Trees.{Tree, Join}
use Rattle.c_nodes.specs.Lists.{ChoiceParts, assigned, listed}
use Rattle.c_nodes.specs.Views.{NextAssign, next_assign_of}
use Rattle.parse_expr.specs.Reader.{punct_at, symbols_in}
use Rattle.parse_expr.specs.Reading.{at, target_at, comma_by}
use Rattle.parse_expr.specs.Waiting.{FrontParts, behind_comma, others_by, value_by, front_by}
use Rattle.parse_expr.proofs.Knots.{ArePlain}
use Rattle.parse_expr.proofs.Plain.{symbols_plain}
use Rattle.parse_expr.proofs.Takes.{at_sound}
use Rattle.parse_expr.proofs.Waits.{comma_read, target_read, no_target, whole_read}

listed_last : (a : Tree) (bs : List (ℕ × Tree)) (b : ℕ × Tree) → listed a (bs ++ b ∷ []) ≡ Join (punct marks.Comma b.0) (listed a bs) b.1
listed_last a [] b = refl
listed_last a (x ∷ xs) b = listed_last (Join (punct marks.Comma x.0) a x.1) xs b

-- an assignment more
pub comma_last : (a : Tree) (others now : List NextAssign) (x : NextAssign) (comma : ℕ) (b : Tree) → now ≡ others ++ x ∷ [] → next_assign_of x ≡ (comma, b) → listed a (map next_assign_of now) ≡ Join (punct marks.Comma comma) (listed a (map next_assign_of others)) b
comma_last a others now x comma b longer is =
    ap (λ l. listed a (map next_assign_of l)) longer
    ∙ ap (listed a) (map-append next_assign_of others (x ∷ []))
    ∙ listed_last a (map next_assign_of others) (next_assign_of x)
    ∙ ap (λ (y : ℕ × Tree). Join (punct marks.Comma y.0) (listed a (map next_assign_of others)) y.1) is

abbrev found : Bool → ℕ × Symbols → Option (ℕ × Symbols)
found b x = if b then Some x else None

same_found : (x y : ℕ × Symbols) → Some x ≡ Some y → x ≡ y
same_found x y e = cc

is_found : (b : Bool) (x y : ℕ × Symbols) → found b x ≡ Some y → (b ≡ true) × (x ≡ y)
is_found true x y e = (refl, same_found x y e)
is_found false x y e = absurd cc

not_found : (b : Bool) (x : ℕ × Symbols) → found b x ≡ None → b ≡ false
not_found true x e = absurd cc
not_found false x e = refl

comma_cases : (n : ℕ) (before : Option (Tree × ℕ)) (a : Tree) (toks : Symbols) → ArePlain toks → (k : ℕ) (rest : Symbols) → punct_at marks.Comma toks ≡ Some (k, rest) → others_by (at n) before a toks ≡ front_by (at n) (record { before = Some (behind_comma before a, k); targets = []; choices = [] }) rest
unfolding punct_at
comma_cases n before a [] plain k rest is = absurd cc
comma_cases n before a (s ∷ toks) plain k rest is =
    let comes = is_found (is_punct marks.Comma s.kind) (s.line, toks) (k, rest) is in
    comma_read (at n) (at_sound n) before a s toks plain comes.0 ∙ ap (λ (x : ℕ × Symbols). front_by (at n) (record { before = Some (behind_comma before a, x.0); targets = []; choices = [] }) x.1) comes.1

pub comma_front : (text : List ℕ) (n : ℕ) (before : Option (Tree × ℕ)) (a : Tree) (toks : List Tok) (k : ℕ) (rest : List Tok) → punct_at marks.Comma (symbols_in text toks) ≡ Some (k, symbols_in text rest) → others_by (at n) before a (symbols_in text toks) ≡ front_by (at n) (record { before = Some (behind_comma before a, k); targets = []; choices = [] }) (symbols_in text rest)
comma_front text n before a toks k rest is = comma_cases n before a (symbols_in text toks) (symbols_plain text toks) k (symbols_in text rest) is

comma_none : (n : ℕ) (toks : Symbols) → punct_at marks.Comma toks ≡ None → comma_by (at n) toks ≡ Some None
unfolding punct_at comma_by
comma_none n [] is = refl
comma_none n (s ∷ toks) is =
    let missing = not_found (is_punct marks.Comma s.kind) (s.line, toks) is in
    rw missing refl

pub no_comma : (text : List ℕ) (n : ℕ) (before : Option (Tree × ℕ)) (a : Tree) (toks : List Tok) → punct_at marks.Comma (symbols_in text toks) ≡ None → others_by (at n) before a (symbols_in text toks) ≡ Some (behind_comma before a, symbols_in text toks)
no_comma text n before a toks is = whole_read (at n) (at_sound n) before a (symbols_in text toks) (symbols_plain text toks) (comma_none n (symbols_in text toks) is)

-- ---- behind a value

pair_is : (t : Tree × Symbol) (c : Tree) → t.0 ≡ c → ◌≡◌ {A = Tree × Symbol} (c, t.1) t
pair_is t c e = subst (λ x. ◌≡◌ {A = Tree × Symbol} (x, t.1) t) e refl

pub target_front : (text : List ℕ) (n : ℕ) (front : FrontParts) (c v : Tree) (toks rest : List Tok) (t : Tree × Symbol) (targets : List (Tree × Symbol)) (choices : List ChoiceParts)
    → v ≡ c → t.0 ≡ v → target_at v (symbols_in text toks) ≡ Some (t.1, symbols_in text rest) → targets ≡ front.targets ++ t ∷ [] → choices ≡ []
    → value_by (at n) front c (symbols_in text toks) ≡ front_by (at n) (record { before = front.before; targets = targets; choices = choices }) (symbols_in text rest)
target_front text n front c v toks rest t targets choices same place comes longer none =
    let s = symbols_in text rest in
    let is : target_at c (symbols_in text toks) ≡ Some (t.1, s) = subst (λ x. target_at x (symbols_in text toks) ≡ Some (t.1, s)) same comes in
    target_read (at n) (at_sound n) front c (symbols_in text toks) s t.1 (symbols_plain text rest) is
    ∙ ap (λ (x : Tree × Symbol). front_by (at n) (record { before = front.before; targets = front.targets ++ x ∷ []; choices = [] }) s) (pair_is t c (place ∙ same))
    ∙ ap (λ (ts : List (Tree × Symbol)). front_by (at n) (record { before = front.before; targets = ts; choices = [] }) s) (sym longer)
    ∙ ap (λ (cs : List ChoiceParts). front_by (at n) (record { before = front.before; targets = targets; choices = cs }) s) (sym none)

pub value_others : (n : ℕ) (front : FrontParts) (c v w a : Tree) (toks : Symbols) → v ≡ c → w ≡ v → a ≡ assigned front.targets w → target_at v toks ≡ None
    → value_by (at n) front c toks ≡ others_by (at n) front.before a toks
value_others n front c v w a toks same kept is none =
    let missing : target_at c toks ≡ None = subst (λ x. target_at x toks ≡ None) same none in
    no_target (at n) front c toks missing ∙ ap (λ x. others_by (at n) front.before x toks) (ap (assigned front.targets) (sym (kept ∙ same)) ∙ sym is)

-- what a call tells of one reading it tells of another one that gives the same
pub same_reading : {X Y E : Type 0} (r : Result (Result X Y) E) (old now : List ℕ → ℕ → Option (Tree × Symbols)) (more : X → List ℕ → ℕ → Option (Tree × Symbols)) (whole : Y → List ℕ → ℕ → Option (Tree × Symbols))
    → ((text : List ℕ) (n : ℕ) → now text n ≡ old text n)
    → IfOk r (λ x. (text : List ℕ) (n : ℕ) → MatchResult x (λ y. old text n ≡ more y text n) (λ y. old text n ≡ whole y text n))
    → IfOk r (λ x. (text : List ℕ) (n : ℕ) → MatchResult x (λ y. now text n ≡ more y text n) (λ y. now text n ≡ whole y text n))
same_reading (Ok (Ok x)) old now more whole same h = λ text n. same text n ∙ h text n
same_reading (Ok (Err y)) old now more whole same h = λ text n. same text n ∙ h text n
same_reading (Err e) old now more whole same h = h

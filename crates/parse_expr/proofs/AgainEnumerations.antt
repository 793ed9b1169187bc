-- Enumerators are read again from their spelling, where what stands in brackets is.
use Rattle.std.proofs.Common.{◌≡◌, ℕ, zero, suc, ◌≤◌, Bool, true, false, if◌then◌else◌, List, [], ◌∷◌, ◌++◌, length, Option, Some, None, refl, sym, ap, subst, ◌∙◌, append_assoc, length-append, arith}
use Rattle.c_token.specs.declared.token.TokKind.{TokKind}
use Rattle.c_token.specs.declared.token.TokKind.TheVariants as kinds
use Rattle.c_token.specs.declared.token.Punct.TheVariants as marks
use Rattle.c_nodes.specs.Words.{Symbols, punct}
use Rattle.c_nodes.specs.Kinds.{is_punct, is_name}
use Rattle.c_nodes.specs.Trees.{EnumeratorTree, Bare, Valued, MoreEnumerators, NoEnumerator, AndEnumerator, spelled_enumerator, spelled_more_enumerators, IsEnumerator, AreMoreEnumerators}
use Rattle.c_nodes.specs.Lists.{more_enumerators}
use Rattle.parse_expr.specs.Reader.{front_is, symbol_at, punct_at, collect}
use Rattle.parse_expr.specs.Reading.{Inner, valued_by, enumerator_by, next_enumerator_by, enumerators_by}
use Rattle.parse_expr.proofs.Knots.{goes_on, spelled_enumerators, AreEnumerators, list_end, EndsList, Again, CompleteInner}
use Rattle.parse_expr.proofs.Collects.{front_not, punct_none, collect_ends, collect_more}
use Rattle.parse_expr.proofs.Starts.{name_token, enumerator_starts}
use Rattle.parse_expr.proofs.AgainExpressions.{cond_again_by}
use Rattle.parse_expr.proofs.AgainSpecifiers.{enumerator_items}

-- behind an enumerator comes a comma or `}`
abbrev ends_enumerator : TokKind → Bool
ends_enumerator k = if is_punct marks.Comma k then true else is_punct marks.RightBrace k

enumerator_end : (k : TokKind) (test : TokKind → Bool) → test (kinds.Punct marks.Comma) ≡ false → test (kinds.Punct marks.RightBrace) ≡ false → ends_enumerator k ≡ true → test k ≡ false
enumerator_end (kinds.Punct marks.Comma) test comma close h = comma
enumerator_end (kinds.Punct marks.RightBrace) test comma close h = close
enumerator_end _ test comma close h = absurd cc

abbrev StopsEnumerator : Symbols → Type 0
StopsEnumerator rest = front_is ends_enumerator rest ≡ true

enumerator_stops : (test : TokKind → Bool) → test (kinds.Punct marks.Comma) ≡ false → test (kinds.Punct marks.RightBrace) ≡ false → (rest : Symbols) → StopsEnumerator rest → front_is test rest ≡ false
enumerator_stops test comma close rest stop = front_not ends_enumerator test (λ k. enumerator_end k test comma close) rest stop

enumerator_again_by : (n : ℕ) (inner : Inner) → CompleteInner n inner → Again (suc n) spelled_enumerator IsEnumerator StopsEnumerator (enumerator_by inner)
unfolding enumerator_by valued_by symbol_at punct_at
enumerator_again_by n inner complete (Bare name) le is rest stop =
    rw (is, punct_none marks.Assign rest (enumerator_stops (is_punct marks.Assign) refl refl rest stop)) refl
enumerator_again_by n inner complete (Valued name q e) le is rest stop =
    let named = is.0 in
    let value = cond_again_by n inner complete e (omega arith) (is.1, is.2) rest (enumerator_stops (goes_on 11) refl refl rest stop) in
    rw (named, value) refl

no_brace : (e : EnumeratorTree) → IsEnumerator e → (rest : Symbols) → front_is (is_punct marks.RightBrace) (spelled_enumerator e ++ rest) ≡ false
no_brace e is rest = front_not is_name (is_punct marks.RightBrace) (λ k h. ap (is_punct marks.RightBrace) (name_token k h)) (spelled_enumerator e ++ rest) (enumerator_starts e is rest)

next_enumerator_again : (n : ℕ) (inner : Inner) → CompleteInner n inner → (comma : ℕ) (e : EnumeratorTree) → length (spelled_enumerator e) ≤ suc n → IsEnumerator e → (rest : Symbols) → StopsEnumerator rest → next_enumerator_by inner (punct marks.Comma comma ∷ (spelled_enumerator e ++ rest)) ≡ Some (Some ((comma, e), rest))
unfolding next_enumerator_by
next_enumerator_again n inner complete comma e le is rest stop = rw (no_brace e is rest, enumerator_again_by n inner complete e le is rest stop) refl

next_enumerator_none : (inner : Inner) (last : Option ℕ) (c : ℕ) (rest : Symbols) → next_enumerator_by inner (list_end last c rest) ≡ Some None
unfolding next_enumerator_by
next_enumerator_none inner None c rest = refl
next_enumerator_none inner (Some l) c rest = refl

enumerators_go_on : (es : MoreEnumerators) (last : Option ℕ) (c : ℕ) (rest : Symbols) → StopsEnumerator (spelled_more_enumerators es ++ list_end last c rest)
enumerators_go_on NoEnumerator None c rest = refl
enumerators_go_on NoEnumerator (Some l) c rest = refl
enumerators_go_on (AndEnumerator k e es) last c rest = refl

enumerators_collect : (n : ℕ) (inner : Inner) → CompleteInner n inner → (es : MoreEnumerators) → length (spelled_more_enumerators es) ≤ suc n → AreMoreEnumerators es → (last : Option ℕ) (c : ℕ) (rest : Symbols) (m : ℕ) → length (spelled_more_enumerators es) ≤ m → collect (next_enumerator_by inner) m (spelled_more_enumerators es ++ list_end last c rest) ≡ Some (enumerator_items es, list_end last c rest)
enumerators_collect n inner complete NoEnumerator le are last c rest m turns = collect_ends (next_enumerator_by inner) m (list_end last c rest) (next_enumerator_none inner last c rest)
enumerators_collect n inner complete (AndEnumerator k e es) le are last c rest zero turns = absurd (omega arith)
enumerators_collect n inner complete (AndEnumerator k e es) le are last c rest (suc m) turns =
    let end = list_end last c rest in
    let more = spelled_more_enumerators es ++ end in
    let sizes = length-append (spelled_enumerator e) (spelled_more_enumerators es) in
    let first = next_enumerator_again n inner complete k e (omega arith) are.0 more (enumerators_go_on es last c rest) in
    let others = enumerators_collect n inner complete es (omega arith) are.1 last c rest m (omega arith) in
    let regrouped : (spelled_enumerator e ++ spelled_more_enumerators es) ++ end ≡ spelled_enumerator e ++ more = append_assoc (spelled_enumerator e) (spelled_more_enumerators es) end in
    ap (λ (l : Symbols). collect (next_enumerator_by inner) (suc m) (punct marks.Comma k ∷ l)) regrouped ∙ collect_more (next_enumerator_by inner) m (punct marks.Comma k ∷ (spelled_enumerator e ++ more)) more end (k, e) (enumerator_items es) first others

enumerators_more : (n : ℕ) (inner : Inner) → CompleteInner n inner → (e : EnumeratorTree) (es : MoreEnumerators) → length (spelled_enumerator e ++ spelled_more_enumerators es) ≤ suc n → IsEnumerator e → AreMoreEnumerators es → (last : Option ℕ) (c : ℕ) (rest : Symbols) → enumerators_by inner ((spelled_enumerator e ++ spelled_more_enumerators es) ++ list_end last c rest) ≡ Some ((e, enumerator_items es), list_end last c rest)
unfolding enumerators_by
enumerators_more n inner complete e es le is are last c rest =
    let end = list_end last c rest in
    let more = spelled_more_enumerators es ++ end in
    let sizes = length-append (spelled_enumerator e) (spelled_more_enumerators es) in
    let all = length-append (spelled_more_enumerators es) end in
    let first = enumerator_again_by n inner complete e (omega arith) is more (enumerators_go_on es last c rest) in
    let others = enumerators_collect n inner complete es (omega arith) are last c rest (length more) (omega arith) in
    rw (append_assoc (spelled_enumerator e) (spelled_more_enumerators es) end, first, others) refl

items_of_enumerators : (es : List (ℕ × EnumeratorTree)) → enumerator_items (more_enumerators es) ≡ es
items_of_enumerators [] = refl
items_of_enumerators (e ∷ es) = ap (λ (l : List (ℕ × EnumeratorTree)). e ∷ l) (items_of_enumerators es)

pub enumerators_again_by : (n : ℕ) (inner : Inner) → CompleteInner n inner → Again (suc n) spelled_enumerators AreEnumerators EndsList (enumerators_by inner)
enumerators_again_by n inner complete e le is rest stop =
    let more = enumerators_more n inner complete e.0 (more_enumerators e.1) le is.0 is.1 stop.last stop.close stop.after in
    subst (λ (l : Symbols). enumerators_by inner (spelled_enumerators e ++ l) ≡ Some (e, l)) (sym stop.is) (rw (items_of_enumerators e.1) at more)

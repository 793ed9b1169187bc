-- What is read as enumerators is enumerators.
use Rattle.std.proofs.Common.{◌≡◌, ℕ, true, List, [], ◌∷◌, ◌++◌, Some, refl, sym, ap, subst}
use Rattle.c_token.specs.declared.token.Punct.TheVariants as marks
use Rattle.c_nodes.specs.Words.{Symbol, Symbols, punct}
use Rattle.c_nodes.specs.Kinds.{is_punct, is_name}
use Rattle.c_nodes.specs.Trees.{EnumeratorTree, Bare, Valued, spelled_enumerator, spelled_more_enumerators, IsEnumerator, AreMoreEnumerators}
use Rattle.c_nodes.specs.Lists.{more_enumerators}
use Rattle.parse_expr.specs.Reader.{◌>>=◌, front_is, punct_at}
use Rattle.parse_expr.specs.Reading.{Inner, valued_on, valued_by, enumerator_by, next_enumerator_by, enumerators_by}
use Rattle.parse_expr.proofs.Knots.{ArePlain, Takes, Sound, SoundStep, SoundInner, spelled_enumerators, AreEnumerators}
use Rattle.parse_expr.proofs.Plain.{punct_is}
use Rattle.parse_expr.proofs.TakesLists.{join, splits_as, part, one, taken_as, take, sound_then, cases_if, cases_option, got_ok, symbol_takes, punct_takes, Each, spelled_all, all_take}
use Rattle.parse_expr.proofs.TakesOperators.{cond_by_takes}

-- an enumerator behind its name
valued_takes : (inner : Inner) → SoundInner inner → (n : Symbol) (toks : Symbols) → is_name n.kind ≡ true → ArePlain toks → (x : EnumeratorTree × Symbols) → valued_by inner n toks ≡ Some x → Takes spelled_enumerator IsEnumerator (n ∷ toks) x
unfolding valued_by
valued_takes inner sound n toks named plain x e = cases_option (punct_at marks.Assign toks) (valued_on inner n toks) (Some x)
    (λ z is e2.
    let q = punct_takes marks.Assign toks plain z is in
    let v = sound_then (cond_by_takes inner sound) z.1 q.plain _ x e2 in
    take (Valued n z.0 v.read.0) (join (one n toks) (join (part q) (part v.takes))) (named, v.takes.tree.0, v.takes.tree.1) v.takes.plain v.on)
    (λ is e2. take (Bare n) (one n toks) named plain e2) e

enumerator_takes : (inner : Inner) → SoundInner inner → Sound spelled_enumerator IsEnumerator (enumerator_by inner)
unfolding enumerator_by
enumerator_takes inner sound toks plain x e =
    let n = sound_then (symbol_takes is_name) toks plain _ x e in
    subst (λ (l : Symbols). Takes spelled_enumerator IsEnumerator l x) (sym n.takes.parts) (valued_takes inner sound n.read.0 n.read.1 n.takes.tree n.takes.plain x n.on)

abbrev spelled_next_enumerator : ℕ × EnumeratorTree → Symbols
spelled_next_enumerator e = punct marks.Comma e.0 ∷ spelled_enumerator e.1

next_enumerator_takes : (inner : Inner) → SoundInner inner → SoundStep spelled_next_enumerator (λ e. IsEnumerator e.1) (next_enumerator_by inner)
unfolding next_enumerator_by
next_enumerator_takes inner sound [] plain x e = absurd cc
next_enumerator_takes inner sound (s ∷ rest) plain x e = cases_if (is_punct marks.Comma s.kind) _ _ (Some (Some x))
    (λ is e2. cases_if (front_is (is_punct marks.RightBrace) rest) _ _ (Some (Some x))
    (λ brace e3. absurd cc)
    (λ brace e3.
    let d = sound_then (enumerator_takes inner sound) rest plain.1 _ x (got_ok (enumerator_by inner rest >>= λ d. Some ((s.line, d.0), d.1)) x e3) in
    taken_as s (punct marks.Comma s.line) rest (punct_is marks.Comma s plain.0 is)
    (take (s.line, d.read.0) (join (one (punct marks.Comma s.line) rest) (part d.takes)) d.takes.tree d.takes.plain d.on)) e2)
    (λ is e2. absurd cc) e

more_enumerators_spelled : (es : List (ℕ × EnumeratorTree)) → spelled_more_enumerators (more_enumerators es) ≡ spelled_all spelled_next_enumerator es
more_enumerators_spelled [] = refl
more_enumerators_spelled (e ∷ es) = ap (λ (l : Symbols). spelled_next_enumerator e ++ l) (more_enumerators_spelled es)

more_enumerators_are : (es : List (ℕ × EnumeratorTree)) → Each (λ e. IsEnumerator e.1) es → AreMoreEnumerators (more_enumerators es)
more_enumerators_are [] each = tt
more_enumerators_are (e ∷ es) each = (each.0, more_enumerators_are es each.1)

pub enumerators_by_take : (inner : Inner) → SoundInner inner → Sound spelled_enumerators AreEnumerators (enumerators_by inner)
unfolding enumerators_by
enumerators_by_take inner sound toks plain x e =
    let d = sound_then (enumerator_takes inner sound) toks plain _ x e in
    let ds = sound_then (all_take spelled_next_enumerator (λ d. IsEnumerator d.1) (next_enumerator_by inner) (next_enumerator_takes inner sound)) d.read.1 d.takes.plain _ x d.on in
    take (d.read.0, ds.read.0) (join (part d.takes) (splits_as (part ds.takes) (more_enumerators_spelled ds.read.0))) (d.takes.tree, more_enumerators_are ds.read.0 ds.takes.tree) ds.takes.plain ds.on

-- What the loops over pointers keep.
use Rattle.std.proofs.Common.{◌≡◌, Bool, true, false, if◌then◌else◌, List, [], ◌∷◌, ◌++◌, Option, Some, None, map, ap, append_assoc, append-nil, refl, sym, ◌∙◌}
use Rattle.c_token.specs.declared.token.Punct.TheVariants.{Star}
use Rattle.c_nodes.specs.Words.{Symbol, Symbols, keyed, punct, spell_pointer, spell_pointers}
use Rattle.c_nodes.specs.Kinds.{is_punct, is_qualifier}
use Rattle.c_nodes.specs.declared.word.Word.{Word}
use Rattle.c_nodes.specs.declared.word.Pointer.{Pointer}
use Rattle.parse_expr.specs.Reader.{with_symbol, symbol_at, stars_at, pointers_at}
use Rattle.parse_expr.specs.Parts.{in_front}

abbrev behind : Symbols → Symbols → Symbols × Symbols
behind rest ss = (ss, rest)

keyed_more : (found : List Word) (w : Word) (ss : Symbols) → map keyed (found ++ w ∷ []) ++ ss ≡ map keyed found ++ keyed w ∷ ss
keyed_more [] w ss = refl
keyed_more (v ∷ found) w ss = ap (λ (l : Symbols). keyed v ∷ l) (keyed_more found w ss)

spelled_more : (found : List Pointer) (p : Pointer) (ss : Symbols) → spell_pointers (found ++ p ∷ []) ++ ss ≡ spell_pointers found ++ (spell_pointer p ++ ss)
spelled_more [] p ss = append_assoc (spell_pointer p) [] ss
spelled_more (q ∷ found) p ss =
    append_assoc (spell_pointer q) (spell_pointers (found ++ p ∷ [])) ss ∙ ap (λ (l : Symbols). spell_pointer q ++ l) (spelled_more found p ss) ∙ sym (append_assoc (spell_pointer q) (spell_pointers found) (spell_pointer p ++ ss))

abbrev if_some : Bool → Symbol → Symbols → Option (Symbol × Symbols)
if_some b s toks = if b then Some (s, toks) else None

-- a test that holds of the token in front, or fails
passed : (b : Bool) (t s : Symbol) (toks rest : Symbols) → if_some b t toks ≡ Some (s, rest) → (b ≡ true) × (t ≡ s) × (toks ≡ rest)
passed true t s toks rest h =
    let both : ◌≡◌ {A = Symbol × Symbols} (t, toks) (s, rest) = cc in
    (refl, ap (λ (x : Symbol × Symbols). x.0) both, ap (λ (x : Symbol × Symbols). x.1) both)
passed false t s toks rest h = cc

failed : (b : Bool) (t : Symbol) (toks : Symbols) → if_some b t toks ≡ None → b ≡ false
failed true t toks h = cc
failed false t toks h = refl

either_way : (b : Bool) → (if b then true else true) ≡ true
either_way true = refl
either_way false = refl

at_qualifier : (toks rest : Symbols) (s : Symbol) → symbol_at is_qualifier toks ≡ Some (s, rest) → stars_at toks ≡ with_symbol s (stars_at rest)
unfolding symbol_at stars_at
at_qualifier [] rest s h = cc
at_qualifier (t ∷ toks) rest s h =
    let p = passed (is_qualifier t.kind) t s toks rest h in
    rw (p.0, either_way (is_punct Star t.kind), p.1, p.2) refl

abbrev stars_or : Bool → Symbol → Symbols → Symbols × Symbols
stars_or b t toks = if b then with_symbol t (stars_at toks) else ([], t ∷ toks)

at_other : (toks : Symbols) → symbol_at is_qualifier toks ≡ None → stars_at toks ≡ pointers_at toks
unfolding symbol_at stars_at pointers_at
at_other [] h = refl
at_other (t ∷ toks) h = rw (failed (is_qualifier t.kind) t toks h) (elim (is_punct Star t.kind) as (λ b. stars_or (if b then true else false) t toks ≡ stars_or b t toks) [ true ↦ refl | false ↦ refl ])

at_star : (toks rest : Symbols) (s : Symbol) → symbol_at (is_punct Star) toks ≡ Some (s, rest) → pointers_at toks ≡ with_symbol s (stars_at rest)
unfolding symbol_at pointers_at
at_star [] rest s h = cc
at_star (t ∷ toks) rest s h =
    let p = passed (is_punct Star t.kind) t s toks rest h in
    rw (p.0, p.1, p.2) refl

at_end : (toks : Symbols) → symbol_at (is_punct Star) toks ≡ None → pointers_at toks ≡ ([], toks)
unfolding symbol_at pointers_at
at_end [] h = refl
at_end (t ∷ toks) h = rw (failed (is_punct Star t.kind) t toks h) refl

pub qualifiers_step : (found : List Word) (w : Word) (all toks after : Symbols) → symbol_at is_qualifier toks ≡ Some (keyed w, after) → stars_at all ≡ in_front (map keyed found) (stars_at toks) → stars_at all ≡ in_front (map keyed (found ++ w ∷ [])) (stars_at after)
qualifiers_step found w all toks after h so_far =
    so_far ∙ ap (in_front (map keyed found)) (at_qualifier toks after (keyed w) h) ∙ sym (ap (behind (stars_at after).1) (keyed_more found w (stars_at after).0))

pub qualifiers_end : (ss all toks : Symbols) → symbol_at is_qualifier toks ≡ None → stars_at all ≡ in_front ss (stars_at toks) → stars_at all ≡ in_front ss (pointers_at toks)
qualifiers_end ss all toks h so_far = so_far ∙ ap (in_front ss) (at_other toks h)

pub pointers_step : (found : List Pointer) (p : Pointer) (all toks after rest : Symbols) → symbol_at (is_punct Star) toks ≡ Some (punct Star p.star, after) → stars_at after ≡ in_front (map keyed p.qualifiers.items) (pointers_at rest) → pointers_at all ≡ in_front (spell_pointers found) (pointers_at toks) → pointers_at all ≡ in_front (spell_pointers (found ++ p ∷ [])) (pointers_at rest)
pointers_step found p all toks after rest h h2 so_far =
    let one : pointers_at toks ≡ in_front (spell_pointer p) (pointers_at rest) = at_star toks after (punct Star p.star) h ∙ ap (with_symbol (punct Star p.star)) h2 in
    so_far ∙ ap (in_front (spell_pointers found)) one ∙ sym (ap (behind (pointers_at rest).1) (spelled_more found p (pointers_at rest).0))

pub pointers_end : (ss all toks : Symbols) → symbol_at (is_punct Star) toks ≡ None → pointers_at all ≡ in_front ss (pointers_at toks) → pointers_at all ≡ (ss, toks)
pointers_end ss all toks h so_far = so_far ∙ ap (in_front ss) (at_end toks h) ∙ ap (behind toks) (append-nil ss)

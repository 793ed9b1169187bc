-- Pointers, and the line of a declarator: what the rules say step by step, as the calls answer it.
use Rattle.std.proofs.Common.{◌≡◌, ℕ, ◌+◌, ◌<◌, Bool, true, false, if◌then◌else◌, List, [], ◌∷◌, ◌++◌, length, drop, map, Option, Some, None, Ok, refl, sym, ap, subst, ◌∙◌}
use Rattle.std.proofs.Math.ListN.{get_or}
use Rattle.std.proofs.lemmas.List.{drop_more}
use Rattle.std.specs.Prelude.{slice_get}
use Rattle.c_token.specs.declared.token.Keyword.TheVariants as words
use Rattle.c_token.specs.declared.token.TokKind.TheVariants as kinds
use Rattle.c_nodes.specs.Kinds.{is_key}
use Rattle.c_nodes.specs.Words.{Symbol, Symbols, keyed, spell_pointers}
use Rattle.c_nodes.specs.declared.word.Pointer.{Pointer}
use Rattle.c_nodes.specs.declared.word.Word.{Word}
use Rattle.c_typed.specs.declared.types.Qualified.{Qualified}
use Rattle.c_typed.specs.declared.types.Ty.{Ty}
use Rattle.c_tables.specs.Answers.{Refuses}
use Rattle.c_tables.specs.declared.error.CheckError.{CheckError}
use Rattle.type_rules.specs.Known.{Known, go_on}
use Rattle.type_rules.specs.Outlines.{declarator_line}
use Rattle.type_rules.specs.Rows.{plain, pointer_to}
use Rattle.type_rules.specs.TypeNames.{with_pointers}
use Rattle.check_expr.specs.Lists.{with_qualifier}
use Rattle.c_outline.proofs.Outlining.{refused_through}

-- ---- pointers

if_later : (b : Bool) (rest : Symbols) (x y : Qualified) (known : Known) → (if b then with_pointers rest x else with_pointers rest y) known ≡ with_pointers rest (if b then x else y) known
if_later true rest x y known = refl
if_later false rest x y known = refl

qualifier_first : (w : Word) (rest : Symbols) (ty : Qualified) (known : Known) → with_pointers (keyed w ∷ rest) ty known ≡ with_pointers rest (with_qualifier w.keyword ty) known
qualifier_first w rest ty known = if_later (is_key words.Const (kinds.Keyword w.keyword)) rest (record ty { constant = true }) (record ty { volatile = true }) known

pub qualifier_more : (ws : List Word) (i : ℕ) (w : Word) (rest : Symbols) (ty : Qualified) (known : Known) → i < length ws → w ≡ get_or ws i w → with_pointers (map keyed (drop i ws) ++ rest) ty known ≡ with_pointers (map keyed (drop (i + 1) ws) ++ rest) (with_qualifier w.keyword ty) known
qualifier_more ws i w rest ty known lt is = ap (λ l. with_pointers (map keyed l ++ rest) ty known) (drop_more ws i w lt ∙ ap (λ x. x ∷ drop (i + 1) ws) (sym is)) ∙ qualifier_first w (map keyed (drop (i + 1) ws) ++ rest) ty known

pub pointers_more : (ps : List Pointer) (i : ℕ) (p : Pointer) (base made : Qualified) (to : Ty) (known after : Known) → i < length ps → p ≡ get_or ps i p → pointer_to base known ≡ Ok (to, after)
    → ((rest : Symbols) (k : Known) → with_pointers (map keyed p.qualifiers.items ++ rest) (plain to) k ≡ with_pointers rest made k)
    → with_pointers (spell_pointers (drop i ps)) base known ≡ with_pointers (spell_pointers (drop (i + 1) ps)) made after
pointers_more ps i p base made to known after lt is one words =
    let rest : Symbols = spell_pointers (drop (i + 1) ps) in
    ap (λ l. with_pointers (spell_pointers l) base known) (drop_more ps i p lt ∙ ap (λ x. x ∷ drop (i + 1) ps) (sym is)) ∙ ap (go_on (λ (ty : Ty). with_pointers (map keyed p.qualifiers.items ++ rest) (plain ty))) one ∙ words rest after

pub pointers_err : (ps : List Pointer) (i : ℕ) (p : Pointer) (base : Qualified) (known : Known) (e : CheckError) → i < length ps → p ≡ get_or ps i p → Refuses e (pointer_to base known) → Refuses e (with_pointers (spell_pointers (drop i ps)) base known)
pointers_err ps i p base known e lt is h =
    subst (Refuses e) (sym (ap (λ l. with_pointers (spell_pointers l) base known) (drop_more ps i p lt ∙ ap (λ x. x ∷ drop (i + 1) ps) (sym is)))) (refused_through e (λ (ty : Ty). with_pointers (map keyed p.qualifiers.items ++ spell_pointers (drop (i + 1) ps)) (plain ty)) (pointer_to base known) h)

-- ---- the line of a declarator

line_by : Option Pointer → ℕ → ℕ
line_by (Some p) line = p.star
line_by None line = line

line_seen : (ps : List Pointer) (n : Symbol) → line_by (slice_get ps 0) n.line ≡ declarator_line (spell_pointers ps) n
unfolding line_by
line_seen [] n = refl
line_seen (p ∷ ps) n = refl

pub line_some : (ps : List Pointer) (n : Symbol) (p : Pointer) → Some p ≡ slice_get ps 0 → p.star ≡ declarator_line (spell_pointers ps) n
unfolding line_by
line_some ps n p h = ap (λ (o : Option Pointer). line_by o n.line) h ∙ line_seen ps n

pub line_none : (ps : List Pointer) (n : Symbol) → None ≡ slice_get ps 0 → n.line ≡ declarator_line (spell_pointers ps) n
unfolding line_by
line_none ps n h = ap (λ (o : Option Pointer). line_by o n.line) h ∙ line_seen ps n

-- The tokens of a text that has neither directives nor names of types, and their words, read along the text. (Each word by itself would be
-- read from the front of the text.)
use Rattle.std.proofs.Common.{◌≡◌, ℕ, zero, suc, ◌+◌, ◌-◌, ◌≤◌, nat_eq, nat_le, nat_lt, Bool, true, false, ◌&&◌, not, if◌then◌else◌, List, [], ◌∷◌, length, take, drop, map, Option, Some, None, Result, Ok, Err, refl, sym, ap, ◌∙◌, arith}
use Rattle.std.specs.Prelude.{is_some, slice_range}
use Rattle.std.specs.List.{flat_map, list_all}
use Rattle.std.proofs.lemmas.Bool.{and_parts, leb-true, le-ltb}
use Rattle.c_token.specs.Text.{tokens_of}
use Rattle.c_token.specs.declared.token.Keyword.TheVariants as words
use Rattle.c_token.specs.declared.token.Punct.TheVariants as marks
use Rattle.c_token.specs.declared.token.Tok.{Tok}
use Rattle.c_token.specs.declared.token.TokKind.{TokKind}
use Rattle.c_token.specs.declared.token.TokKind.TheVariants as kinds
use Rattle.c_pre.specs.Items.{Item, Outside, items, after_line, line_length, or_else, first_word, first_bad, free_tokens, judged, program_of}
use Rattle.c_pre.specs.Directive.{line_of}
use Rattle.c_pre.specs.Replace.{Event, Left, replace, events_of, limited, with_token}
use Rattle.c_pre.specs.Words.{word_of, excluded_word, is_hash}
use Rattle.c_pre.specs.declared.PreError.{PreError}
use Rattle.c_nodes.specs.Kinds.{is_key, is_name}
use Rattle.c_nodes.specs.Words.{Symbol, Symbols}
use Rattle.c_parse.specs.Limits.{first_over, open_after}
use Rattle.c_parse.specs.Marks.{Marking, hides, marked_token, known_behind, marked_from}
use Rattle.parse_expr.specs.Reader.{spells, symbol_in, symbols_in}
use Rattle.parse_expr.specs.declared.error.ParseError.{ParseError}
use Rattle.picc_core.specs.Texts as texts
use Rattle.picc_core.specs.Texts.{longest, behind_tokens, behind_directives, tokens_left, within_limits, program_tokens}
use Rattle.picc_core.specs.declared.refusal.CompileError.{CompileError}
use Rattle.picc_core.specs.declared.refusal.CompileError.TheVariants.{Refused}
use Rattle.picc_core.specs.declared.refusal.LimitKind.TheVariants.{Text}
use Rattle.picc_core.specs.declared.refusal.Refusal.TheVariants.{Limit}

-- ---- words along a text
-- the words of tokens, where the text from a place on is told
abbrev pub words_along : ℕ → List ℕ → List Tok → List (List ℕ)
words_along at rest [] = []
words_along at rest (t ∷ ts) = let here = drop (t.start - at) rest in take (t.end - t.start) here ∷ words_along t.start here ts

-- they stand one behind the other in a text of this length
abbrev pub in_turn : ℕ → ℕ → List Tok → Bool
in_turn at size [] = true
in_turn at size (t ∷ ts) = nat_le at t.start && (nat_le t.start t.end && (nat_le t.end size && in_turn t.start size ts))

drop_none : (n : ℕ) → drop {A = ℕ} n [] ≡ []
drop_none zero = refl
drop_none (suc n) = refl

drop_on : (b a : ℕ) (xs : List ℕ) → drop a (drop b xs) ≡ drop (b + a) xs
drop_on zero a xs = let same : a ≡ 0 + a = omega arith in ap (λ (n : ℕ). drop n xs) same
drop_on (suc b) a [] = drop_none a ∙ sym (drop_none (suc b + a))
drop_on (suc b) a (x ∷ xs) = let same : suc (b + a) ≡ suc b + a = omega arith in drop_on b a xs ∙ ap (λ (n : ℕ). drop n (x ∷ xs)) same

word_in : (text : List ℕ) (a b : ℕ) (x y : Bool) → x ≡ true → y ≡ true → (if x && y then slice_range text a b else []) ≡ take (b - a) (drop a text)
word_in text a b true true e f = refl
word_in text a b true false e f = absurd (cc)
word_in text a b false y e f = absurd (cc)

both_same : (v w : List ℕ) (vs ws : List (List ℕ)) → v ≡ w → vs ≡ ws → v ∷ vs ≡ w ∷ ws
both_same v w vs ws e f = ap (λ (x : List ℕ). x ∷ vs) e ∙ ap (λ (xs : List (List ℕ)). w ∷ xs) f

words_same : (text : List ℕ) (at : ℕ) (ts : List Tok) → in_turn at (length text) ts ≡ true → map (word_of text) ts ≡ words_along at (drop at text) ts
words_same text at [] is = refl
words_same text at (t ∷ ts) is =
    let a = and_parts (nat_le at t.start) (nat_le t.start t.end && (nat_le t.end (length text) && in_turn t.start (length text) ts)) is in
    let b = and_parts (nat_le t.start t.end) (nat_le t.end (length text) && in_turn t.start (length text) ts) a.1 in
    let c = and_parts (nat_le t.end (length text)) (in_turn t.start (length text) ts) b.1 in
    let low = leb-true at t.start a.0 in
    let sum : at + (t.start - at) ≡ t.start = omega (arith, low) in
    let here : drop (t.start - at) (drop at text) ≡ drop t.start text = drop_on at (t.start - at) text ∙ ap (λ (n : ℕ). drop n text) sum in
    both_same (word_of text t) (take (t.end - t.start) (drop (t.start - at) (drop at text))) (map (word_of text) ts) (words_along t.start (drop (t.start - at) (drop at text)) ts)
    (word_in text t.start t.end (nat_le t.start t.end) (nat_le t.end (length text)) b.0 c.0 ∙ ap (take (t.end - t.start)) (sym here))
    (words_same text t.start ts c.1 ∙ ap (λ (l : List ℕ). words_along t.start l ts) (sym here))

-- ---- symbols by words
abbrev symbol_by : Tok → List ℕ → Symbol
symbol_by t w = record { kind = t.kind; bytes = if spells t.kind then w else []; line = t.line }

abbrev pub symbols_by : List Tok → List (List ℕ) → Symbols
symbols_by [] ws = []
symbols_by (t ∷ ts) [] = []
symbols_by (t ∷ ts) (w ∷ ws) = symbol_by t w ∷ symbols_by ts ws

symbols_same : (text : List ℕ) (ts : List Tok) → symbols_in text ts ≡ symbols_by ts (map (word_of text) ts)
symbols_same text [] = refl
symbols_same text (t ∷ ts) = ap (λ (ss : Symbols). symbol_in text t ∷ ss) (symbols_same text ts)

-- ---- outside directives
-- neither `#` nor `typedef`
abbrev pub is_plain : Tok → Bool
is_plain t = not (is_hash t.kind) && not (is_key words.Typedef t.kind)

abbrev pub is_free : List ℕ → Bool
is_free word = not (is_some (excluded_word word))

abbrev outside : List Tok → List Item
outside ts = map (Outside []) ts

if_not : {A : Type 0} (b : Bool) (x y z : A) → not b ≡ true → y ≡ z → (if b then x else y) ≡ z
if_not true x y z e f = absurd (cc)
if_not false x y z e f = f

items_plain : (text : List ℕ) (ts : List Tok) → list_all is_plain ts ≡ true → items text ts 0 [] ≡ outside ts
unfolding items
items_plain text [] all = refl
items_plain text (t ∷ ts) all =
    let parts = and_parts (is_plain t) (list_all is_plain ts) all in
    let no_hash = (and_parts (not (is_hash t.kind)) (not (is_key words.Typedef t.kind)) parts.0).0 in
    if_not (is_hash t.kind) (after_line text (items text ts (line_length ts)) [] t.line (line_of text (take (line_length ts) ts))) (Outside [] t ∷ items text ts 0 []) (outside (t ∷ ts)) no_hash
    (ap (λ (is : List Item). Outside [] t ∷ is) (items_plain text ts parts.1))

none_first : (b : Bool) (line : ℕ) (later : Option ℕ) → not b ≡ true → later ≡ None → or_else (if b then Some line else None) later ≡ None
none_first true line later e f = absurd (cc)
none_first false line later e f = f

no_word : (text : List ℕ) (ts : List Tok) → list_all is_free (map (word_of text) ts) ≡ true → first_word text (outside ts) ≡ None
unfolding first_word
no_word text [] all = refl
no_word text (t ∷ ts) all =
    let parts = and_parts (is_free (word_of text t)) (list_all is_free (map (word_of text) ts)) all in
    none_first (is_some (excluded_word (word_of text t))) t.line (first_word text (outside ts)) parts.0 (no_word text ts parts.1)

none_bad : (ts : List Tok) → first_bad (outside ts) ≡ None
unfolding first_bad
none_bad [] = refl
none_bad (t ∷ ts) = none_bad ts

all_left : (text : List ℕ) (ts : List Tok) → flat_map (events_of text) (free_tokens (outside ts)) ≡ map Left ts
unfolding free_tokens replace
all_left text [] = refl
all_left text (t ∷ ts) = ap (λ (es : List Event). Left t ∷ es) (all_left text ts)

within_room : (room : ℕ) (ts : List Tok) → length ts ≤ room → limited room (map Left ts) ≡ Ok ts
unfolding limited
within_room room [] le = refl
within_room zero (t ∷ ts) le = absurd (omega (arith, le))
within_room (suc room) (t ∷ ts) le = ap (with_token t) (within_room room ts (omega (arith, le)))

abbrev of_items : List ℕ → List Item → Result (List Tok) PreError
of_items text is = judged (first_word text is) (first_bad is) (limited 262144 (flat_map (events_of text) (free_tokens is)))

judged_none : (w b : Option ℕ) (r : Result (List Tok) PreError) → w ≡ None → b ≡ None → judged w b r ≡ r
judged_none None None r e f = refl
judged_none None (Some n) r e f = absurd (cc)
judged_none (Some n) b r e f = absurd (cc)

kept_all : (text : List ℕ) (ts : List Tok) → list_all is_plain ts ≡ true → list_all is_free (map (word_of text) ts) ≡ true → length ts ≤ 262144 → program_of text ts ≡ Ok ts
kept_all text ts plain free few =
    ap (of_items text) (items_plain text ts plain)
    ∙ judged_none (first_word text (outside ts)) (first_bad (outside ts)) (limited 262144 (flat_map (events_of text) (free_tokens (outside ts)))) (no_word text ts free) (none_bad ts)
    ∙ ap (limited 262144) (all_left text ts)
    ∙ within_room 262144 ts few

-- ---- no name is that of a type
abbrev marking : ℕ → TokKind → Bool → Marking
marking depth before inside = record { depth = depth; before = before; inside = inside; coming = []; known = [] }

stays : (text : List ℕ) (t : Tok) (x y : Bool) → (if x && (y && false) then record t { kind = kinds.TypeName } else t) ≡ t
stays text t true true = refl
stays text t true false = refl
stays text t false y = refl

not_inside : (x y : Bool) → not y ≡ true → (x && y) && true ≡ false
not_inside true true e = absurd (cc)
not_inside true false e = refl
not_inside false y e = refl

none_marked : (text : List ℕ) (depth : ℕ) (before : TokKind) (ts : List Tok) → list_all is_plain ts ≡ true → marked_from text (marking depth before false) ts ≡ ts
unfolding marked_from
none_marked text depth before [] all = refl
none_marked text depth before (t ∷ ts) all =
    let parts = and_parts (is_plain t) (list_all is_plain ts) all in
    let no_typedef = (and_parts (not (is_hash t.kind)) (not (is_key words.Typedef t.kind)) parts.0).1 in
    let kept : marked_token text (marking depth before false) t ≡ t = stays text t (is_name t.kind) (not (hides before)) in
    let next : known_behind text (marking depth before false) t ≡ marking (open_after depth t.kind) t.kind false =
    ap (marking (open_after depth t.kind) t.kind) (not_inside (nat_eq depth 0) (is_key words.Typedef t.kind) no_typedef) in
    ap (λ (u : Tok). u ∷ marked_from text (known_behind text (marking depth before false) u) ts) kept
    ∙ ap (λ (us : List Tok). t ∷ us) (ap (λ (m : Marking). marked_from text m ts) next ∙ none_marked text (open_after depth t.kind) t.kind ts parts.1)

-- ---- the whole
abbrev is_none : Option ParseError → Bool
is_none None = true
is_none (Some e) = false

-- what makes tokens those of the program, by their words
abbrev pub is_kept : List ℕ → List Tok → List (List ℕ) → Bool
is_kept text raw spelled =
    nat_le (length text) longest && (in_turn 0 (length text) raw && (list_all is_free spelled && (list_all is_plain raw && (nat_le (length raw) 262144 && is_none (first_over 0 0 raw)))))

short_enough : (text : List ℕ) (b : Bool) (x y : Result (List Tok) CompileError) → b ≡ false → (if b then x else y) ≡ y
short_enough text true x y e = absurd (cc)
short_enough text false x y e = refl

within : (raw : List Tok) (o : Option ParseError) → is_none o ≡ true → texts.limited raw o ≡ Ok raw
within raw None e = refl
within raw (Some x) e = absurd (cc)

abbrev those : List Tok → Result (List Tok) CompileError
those ts = Ok ts

left_all : (text : List ℕ) (raw : List Tok) → tokens_of text ≡ Ok raw → nat_le (length text) longest ≡ true → program_of text raw ≡ Ok raw → list_all is_plain raw ≡ true → tokens_left text ≡ Ok raw
unfolding tokens_left
left_all text raw is short kept plain =
    short_enough text (nat_lt longest (length text)) (Err (Refused (Limit Text 0))) (behind_tokens text (tokens_of text)) (le-ltb longest (length text) (leb-true (length text) longest short))
    ∙ ap (behind_tokens text) is
    ∙ ap (behind_directives text) kept
    ∙ ap those (none_marked text 0 (kinds.Punct marks.Semicolon) raw plain)

-- Tokens that pass are those of the program, and these are their symbols.
pub plainly_read : (text : List ℕ) (raw : List Tok) → tokens_of text ≡ Ok raw → is_kept text raw (words_along 0 text raw) ≡ true
    → (program_tokens text ≡ Ok raw) × (symbols_in text raw ≡ symbols_by raw (words_along 0 text raw))
plainly_read text raw is all =
    let spelled = words_along 0 text raw in
    let a = and_parts (nat_le (length text) longest) (in_turn 0 (length text) raw && (list_all is_free spelled && (list_all is_plain raw && (nat_le (length raw) 262144 && is_none (first_over 0 0 raw))))) all in
    let b = and_parts (in_turn 0 (length text) raw) (list_all is_free spelled && (list_all is_plain raw && (nat_le (length raw) 262144 && is_none (first_over 0 0 raw)))) a.1 in
    let c = and_parts (list_all is_free spelled) (list_all is_plain raw && (nat_le (length raw) 262144 && is_none (first_over 0 0 raw))) b.1 in
    let d = and_parts (list_all is_plain raw) (nat_le (length raw) 262144 && is_none (first_over 0 0 raw)) c.1 in
    let e = and_parts (nat_le (length raw) 262144) (is_none (first_over 0 0 raw)) d.1 in
    let same : map (word_of text) raw ≡ spelled = words_same text 0 raw b.0 in
    let free : list_all is_free (map (word_of text) raw) ≡ true = ap (list_all is_free) same ∙ c.0 in (
      ap within_limits (left_all text raw is a.0 (kept_all text raw d.0 free (leb-true (length raw) 262144 e.0)) d.0) ∙ within raw (first_over 0 0 raw) e.1,
      symbols_same text raw ∙ ap (symbols_by raw) same,
    )

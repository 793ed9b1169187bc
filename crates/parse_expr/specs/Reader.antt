-- Readers: functions that take a tree from the front of a list of tokens.
use Rattle.std.specs.Prelude.{◌≡◌, ℕ, zero, suc, Bool, true, false, ◌&&◌, if◌then◌else◌, List, [], ◌∷◌, length, Option, Some, None, Result, Ok, Err, map}
use Rattle.c_token.specs.declared.token.Tok.{Tok}
use Rattle.c_token.specs.declared.token.TokKind.{TokKind}
use Rattle.c_token.specs.declared.token.Keyword.{Keyword}
use Rattle.c_token.specs.declared.token.Punct.{Punct}
use Rattle.c_token.specs.declared.token.Punct.TheVariants as marks
use Rattle.c_pre.specs.Words.{word_of}
use Rattle.c_nodes.specs.Words.{Symbol, Symbols}
use Rattle.c_nodes.specs.Kinds.{is_punct, is_key, is_name, is_type_name, is_text, is_spec, is_qualifier}
use Rattle.parse_expr.specs.declared.error.ParseError.{ParseError}
use Rattle.parse_expr.specs.declared.error.ParseError.TheVariants as errors

infixl 10 ◌>>=◌
abbrev pub ◌>>=◌ : {A B : Type 0} → Option A → (A → Option B) → Option B
(Some x) >>= f = f x
None >>= f = None

-- a part of a tree, and the tokens behind it; None where no such part stands in front
abbrev pub Reader : Type 0 → Type 0
Reader A = Symbols → Option (A × Symbols)

-- the same for a part that may be missing: `Some None` where it is
abbrev pub Step : Type 0 → Type 0
Step A = Symbols → Option (Option (A × Symbols))

-- What a function returned, seen by view, is what reading gives, unless memory ran out.
abbrev pub Fails : {Y : Type 0} → ParseError → Option Y → Type 0
Fails errors.NoMemory read = Unit {0}
Fails (errors.Nesting line) read = ⊥
Fails (errors.Run line) read = ⊥
Fails (errors.Syntax line) read = read ≡ None

abbrev pub Gives : {X Y : Type 0} → (X → Y) → Result X ParseError → Option Y → Type 0
Gives view (Ok x) read = read ≡ Some (view x)
Gives view (Err e) read = Fails e read

abbrev pub Shows : {X Y : Type 0} → (X → Y) → Option X → Option Y → Type 0
Shows view (Some x) read = read ≡ Some (view x)
Shows view None read = read ≡ None

abbrev pub over : {X Y : Type 0} → (X → Y) → Option X → Option Y
over f (Some x) = Some (f x)
over f None = None

-- the symbols of a list of tokens in a text
abbrev pub spells : TokKind → Bool
spells k = if is_name k then true else if is_type_name k then true else is_text k

abbrev pub symbol_in : List ℕ → Tok → Symbol
symbol_in text t = record { kind = t.kind; bytes = if spells t.kind then word_of text t else []; line = t.line }

abbrev pub symbols_in : List ℕ → List Tok → Symbols
symbols_in text toks = map (symbol_in text) toks

-- whether the token in front passes a test
abbrev pub front_is : (TokKind → Bool) → Symbols → Bool
front_is test [] = false
front_is test (s ∷ rest) = test s.kind

-- the token in front, where it passes a test
unfoldable pub symbol_at : (TokKind → Bool) → Reader Symbol
symbol_at test [] = None
symbol_at test (s ∷ rest) = if test s.kind then Some (s, rest) else None

-- a comma in front, where one comes
abbrev pub comma_on : Symbols → Option (ℕ × Symbols) → Option ℕ × Symbols
comma_on toks None = (None, toks)
comma_on toks (Some c) = (Some c.0, c.1)

-- the line of a punctuator, of a keyword, that has to come
unfoldable pub punct_at : Punct → Reader ℕ
punct_at p [] = None
punct_at p (s ∷ rest) = if is_punct p s.kind then Some (s.line, rest) else None

unfoldable pub key_at : Keyword → Reader ℕ
key_at w [] = None
key_at w (s ∷ rest) = if is_key w s.kind then Some (s.line, rest) else None

unfoldable pub comma_at : Symbols → Option ℕ × Symbols
comma_at toks = comma_on toks (punct_at marks.Comma toks)

abbrev pub specs_come : Symbols → Bool
specs_come toks = front_is is_spec toks

-- `(` and specifiers behind it
unfoldable pub type_opens : Symbols → Bool
type_opens [] = false
type_opens (s ∷ rest) = is_punct marks.LeftParenthesis s.kind && specs_come rest

-- a part that comes where a test says so
abbrev pub got : {A : Type 0} → Option (A × Symbols) → Option (Option (A × Symbols))
got (Some x) = Some (Some x)
got None = None

-- All that come, at most n.
abbrev pub collect_on : {A : Type 0} → Reader (List A) → Symbols → Option (A × Symbols) → Option (List A × Symbols)
collect_on again toks None = Some ([], toks)
collect_on again toks (Some x) = do
  l ← again x.1
  Some (x.0 ∷ l.0, l.1)

unfoldable pub collect : {A : Type 0} → Step A → ℕ → Reader (List A)
collect step zero toks = Some ([], toks)
collect step (suc n) toks = do
  x ← step toks
  collect_on (collect step n) toks x

-- all that come
abbrev pub all_that : {A : Type 0} → Step A → Reader (List A)
all_that step toks = collect step (length toks) toks

-- the qualifiers and stars in front, and what is behind them
abbrev pub with_symbol : Symbol → Symbols × Symbols → Symbols × Symbols
with_symbol s x = (s ∷ x.0, x.1)

unfoldable pub stars_at : Symbols → Symbols × Symbols
stars_at [] = ([], [])
stars_at (s ∷ rest) = if (if is_punct marks.Star s.kind then true else is_qualifier s.kind) then with_symbol s (stars_at rest) else ([], s ∷ rest)

unfoldable pub pointers_at : Symbols → Symbols × Symbols
pointers_at [] = ([], [])
pointers_at (s ∷ rest) = if is_punct marks.Star s.kind then with_symbol s (stars_at rest) else ([], s ∷ rest)

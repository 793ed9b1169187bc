-- Which names of a program are names of types (ISO/IEC 9899:1990, 6.5.6; that they are told before parsing is the project's own): those that the
-- declaration of a `typedef` outside all brackets has outside brackets, from behind the `;` that ends it on.
use Rattle.std.specs.Prelude.{ℕ, ◌++◌, Bool, true, false, not, ◌&&◌, ◌||◌, if◌then◌else◌, nat_eq, List, [], ◌∷◌}
use Rattle.std.specs.List.{list_any}
use Rattle.std.specs.Str.{bytes_eq}
use Rattle.c_token.specs.declared.token.Tok.{Tok}
use Rattle.c_token.specs.declared.token.TokKind.{TokKind}
use Rattle.c_token.specs.declared.token.TokKind.TheVariants as kinds
use Rattle.c_token.specs.declared.token.Keyword.TheVariants as words
use Rattle.c_token.specs.declared.token.Punct.TheVariants as marks
use Rattle.c_pre.specs.Words.{word_of}
use Rattle.c_nodes.specs.Kinds.{is_punct, is_key, is_name}
use Rattle.c_parse.specs.Limits.{open_after}

-- What is known at a token: how many brackets are open, as for the limits; the kind of the token before; whether it stands in the declaration of
-- a `typedef`; the names of that so far; and the names of types that stand from here on.
pub record Marking : Type 0 where
  pub depth : ℕ
  pub before : TokKind
  pub inside : Bool
  pub coming : List Tok
  pub known : List (List ℕ)

-- at the first token, before which no token counts
abbrev pub nothing_marked : Marking
nothing_marked = record { depth = 0; before = kinds.Punct marks.Semicolon; inside = false; coming = []; known = [] }

abbrev pub is_among : List ℕ → List (List ℕ) → Bool
is_among name names = list_any (bytes_eq name) names

abbrev pub with_name : List ℕ → List (List ℕ) → List (List ℕ)
with_name name names = if is_among name names then names else names ++ name ∷ []

abbrev pub with_names : List ℕ → List Tok → List (List ℕ) → List (List ℕ)
with_names text [] names = names
with_names text (t ∷ ts) names = with_names text ts (with_name (word_of text t) names)

-- Behind these a name is a tag.
abbrev pub is_tag_word : TokKind → Bool
is_tag_word (kinds.Keyword words.Struct) = true
is_tag_word (kinds.Keyword words.Enum) = true
is_tag_word _ = false

-- Behind these a name is a tag or a member, and never that of a type.
abbrev pub hides : TokKind → Bool
hides (kinds.Punct marks.Dot) = true
hides (kinds.Punct marks.Arrow) = true
hides k = is_tag_word k

abbrev pub is_marked : List ℕ → Marking → Tok → Bool
is_marked text m t = is_name t.kind && (not (hides m.before) && is_among (word_of text t) m.known)

abbrev pub marked_token : List ℕ → Marking → Tok → Tok
marked_token text m t = if is_marked text m t then record t { kind = kinds.TypeName } else t

-- the token begins the declaration of a `typedef`, ends it, is one of its type names
abbrev pub begins : Marking → TokKind → Bool
begins m k = nat_eq m.depth 0 && is_key words.Typedef k

abbrev pub ends : Marking → TokKind → Bool
ends m k = m.inside && (nat_eq m.depth 0 && is_punct marks.Semicolon k)

abbrev pub declares : Marking → TokKind → Bool
declares m k = m.inside && (nat_eq m.depth 0 && (is_name k && not (is_tag_word m.before)))

-- What is known behind a token, which is marked already.
abbrev pub known_behind : List ℕ → Marking → Tok → Marking
known_behind text m t = record { depth = open_after m.depth t.kind; before = t.kind; inside = (m.inside || begins m t.kind) && not (ends m t.kind); coming = if ends m t.kind then [] else if declares m t.kind then m.coming ++ t ∷ [] else m.coming; known = if ends m t.kind then with_names text m.coming m.known else m.known }

-- From the left to the right.
unfoldable pub marked_from : List ℕ → Marking → List Tok → List Tok
marked_from text m [] = []
marked_from text m (t ∷ ts) = marked_token text m t ∷ marked_from text (known_behind text m (marked_token text m t)) ts

-- The tokens of a program with its names of types marked.
abbrev pub marked : List ℕ → List Tok → List Tok
marked text toks = marked_from text nothing_marked toks

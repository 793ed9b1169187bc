-- The same marks as `marked` gives, said of places of the list and not from the left to the right: what a program's names of types are.
use Rattle.std.specs.Prelude.{◌≡◌, ◌<◌, ℕ, zero, suc, Bool, true, false, ◌&&◌, nat_eq, List, [], ◌∷◌, length, take, Option, Some, None, slice_get}
use Rattle.c_token.specs.declared.token.Tok.{Tok}
use Rattle.c_token.specs.declared.token.TokKind.{TokKind}
use Rattle.c_token.specs.declared.token.TokKind.TheVariants as kinds
use Rattle.c_token.specs.declared.token.Keyword.TheVariants as words
use Rattle.c_token.specs.declared.token.Punct.TheVariants as marks
use Rattle.c_pre.specs.Words.{word_of}
use Rattle.c_nodes.specs.Kinds.{is_punct, is_key, is_name}
use Rattle.c_parse.specs.Limits.{open_after}
use Rattle.c_parse.specs.Marks.{is_tag_word, hides, marked}

-- how many brackets are open behind tokens
abbrev pub depth_behind : ℕ → List Tok → ℕ
depth_behind n [] = n
depth_behind n (t ∷ ts) = depth_behind (open_after n t.kind) ts

-- The token at a place stands outside all brackets.
abbrev pub is_outside : List Tok → ℕ → Bool
is_outside toks k = nat_eq (depth_behind 0 (take k toks)) 0

abbrev pub kind_or : TokKind → Option Tok → TokKind
kind_or other None = other
kind_or other (Some t) = t.kind

-- the kind of the token at a place, and of the one before it: `;` where there is none
abbrev pub kind_at : List Tok → ℕ → TokKind
kind_at toks k = kind_or (kinds.Punct marks.Semicolon) (slice_get toks k)

abbrev pub kind_before : List Tok → ℕ → TokKind
kind_before toks zero = kinds.Punct marks.Semicolon
kind_before toks (suc k) = kind_at toks k

abbrev pub ends_at : List Tok → ℕ → Bool
ends_at toks k = is_outside toks k && is_punct marks.Semicolon (kind_at toks k)

-- A `typedef` outside all brackets begins a declaration that ends with the next `;` outside all brackets.
pub record IsTypedef (toks : List Tok) (from to : ℕ) : Type 0 where
  pub begins : is_key words.Typedef (kind_at toks from) ≡ true
  pub outside : is_outside toks from ≡ true
  pub later : from < to
  pub within : to < length toks
  pub ends : ends_at toks to ≡ true
  pub first : (k : ℕ) → from < k → k < to → ends_at toks k ≡ false

-- At a place a name is that of a type: such a declaration that ended before has it outside all brackets, and not as a tag. (A name that is
-- marked in the declaration is that of a type already.)
pub record IsTypeName (text : List ℕ) (toks : List Tok) (k : ℕ) (name : List ℕ) : Type 0 where
  pub from : ℕ
  pub to : ℕ
  pub place : ℕ
  pub token : Tok
  pub typedef : IsTypedef toks from to
  pub before : to < k
  pub behind : from < place
  pub inside : place < to
  pub at : slice_get toks place ≡ Some token
  pub is : is_name token.kind ≡ true
  pub outside : is_outside toks place ≡ true
  pub no_tag : is_tag_word (kind_before toks place) ≡ false
  pub spelled : word_of text token ≡ name

-- A token that is marked: a name of a type, and not directly behind `.`, `->`, `struct` or `enum`.
pub record IsMarkedAt (text : List ℕ) (toks : List Tok) (k : ℕ) (t : Tok) : Type 0 where
  pub name : is_name t.kind ≡ true
  pub shown : hides (kind_before toks k) ≡ false
  pub type_name : IsTypeName text toks k (word_of text t)

-- These are the tokens with the names of types marked, and no others.
pub record IsMarked (text : List ℕ) (toks marked : List Tok) : Type 0 where
  pub as_many : length marked ≡ length toks
  pub marks : (k : ℕ) (t : Tok) → slice_get toks k ≡ Some t → IsMarkedAt text toks k t → slice_get marked k ≡ Some (record t { kind = kinds.TypeName })
  pub keeps : (k : ℕ) (t : Tok) → slice_get toks k ≡ Some t → (IsMarkedAt text toks k t → ⊥) → slice_get marked k ≡ Some t

-- Marking from the left to the right gives these marks.
abbrev pub GivesMarks : List ℕ → Type 0
GivesMarks text = (toks : List Tok) → IsMarked text toks (marked text toks)

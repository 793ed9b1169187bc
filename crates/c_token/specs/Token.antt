-- The token at the front of a list of bytes, and the blanks and comments between tokens
-- (ISO/IEC 9899:1990, 6.1 and 6.1.9; comments with `//` too).
use Rattle.std.specs.Prelude.{ℕ, ◌+◌, ◌<◌, ◌≤◌, Bool, false, ◌==◌, nat_eq, nat_lt, not, if◌then◌else◌, List, [], ◌∷◌, length, take, drop, Option, Some, None, find, codes}
use Rattle.std.specs.List.{prefix_len, starts_with}
use Rattle.std.specs.Str.{bytes_eq}
use Rattle.c_token.specs.declared.token.TokKind.{TokKind}
use Rattle.c_token.specs.declared.token.TokKind.TheVariants as kind
use Rattle.c_token.specs.declared.token.Keyword.{Keyword}
use Rattle.c_token.specs.declared.token.Punct.{Punct}
use Rattle.c_token.specs.declared.piece.Piece.{Piece}
use Rattle.c_token.specs.declared.piece.Piece.TheVariants.{Blank, Token, Bad, TooLong}
use Rattle.c_token.specs.Bytes.{is_blank, is_decimal, begins_name, is_name_byte, is_number_byte}
use Rattle.c_token.specs.Spelling.{keyword_spelling, punct_spelling, keywords, punctuators}
use Rattle.c_token.specs.Constant.{◌>>=◌, integer_of, character_at, string_end}

unfoldable pub keyword_of : List ℕ → Option Keyword
keyword_of word = find (λ k. bytes_eq (keyword_spelling k) word) keywords

-- a keyword, or else a name
abbrev pub kind_of_word : Option Keyword → TokKind
kind_of_word (Some k) = kind.Keyword k
kind_of_word None = kind.Name

-- the longest name at the front
unfoldable pub word_at : List ℕ → TokKind × ℕ
word_at bytes =
    let count = prefix_len is_name_byte bytes in
    (kind_of_word (keyword_of (take count bytes)), count)

-- all letters, digits, underscores and full stops at the front have to be one integer constant
unfoldable pub integer_at : List ℕ → Option (TokKind × ℕ)
integer_at bytes =
    let count = prefix_len is_number_byte bytes in (do
      integer ← integer_of (take count bytes)
      Some (integer, count))

-- the longest punctuator at the front: the first in the list that the bytes begin with
unfoldable pub punct_of : List ℕ → Option Punct
punct_of bytes = find (λ p. starts_with nat_eq bytes (punct_spelling p)) punctuators

unfoldable pub punctuator_at : List ℕ → Option (TokKind × ℕ)
punctuator_at bytes = do
  punct ← punct_of bytes
  Some (kind.Punct punct, length (punct_spelling punct))

unfoldable pub string_at : List ℕ → Option (TokKind × ℕ)
string_at bytes = do
  count ← string_end 0 bytes
  Some (kind.Text, count + 1)

-- the token at the front, and its length
unfoldable pub token_at : List ℕ → Option (TokKind × ℕ)
token_at [] = None
token_at (b ∷ rest) =
    if begins_name b then Some (word_at (b ∷ rest))
    else if is_decimal b then integer_at (b ∷ rest)
    else if b == 39 then character_at rest
    else if b == 34 then string_at rest
    else punctuator_at (b ∷ rest)

-- behind `/*`: the length through the first `*/`
unfoldable pub comment_end : List ℕ → Option ℕ
comment_end [] = None
comment_end (a ∷ rest) =
    if starts_with nat_eq (a ∷ rest) (codes "*/") then Some 2
    else (do
      n ← comment_end rest
      Some (n + 1))

abbrev pub block_comment : Option ℕ → Piece
block_comment (Some n) = Blank (n + 2)
block_comment None = Bad

-- a name may have 255 bytes
abbrev pub is_too_long : TokKind → ℕ → Bool
is_too_long kind.Name n = nat_lt 255 n
is_too_long _ n = false

abbrev pub token_piece : Option (TokKind × ℕ) → Piece
token_piece None = Bad
token_piece (Some x) = if is_too_long x.0 x.1 then TooLong else Token x.0 x.1

-- what stands at the front: one blank, a whole comment, a token, or none of these
unfoldable pub piece_at : List ℕ → Piece
piece_at [] = Bad
piece_at (a ∷ rest) =
    if is_blank a then Blank 1
    else if starts_with nat_eq (a ∷ rest) (codes "//") then Blank (prefix_len (λ b. not (b == 10)) (a ∷ rest))
    else if starts_with nat_eq (a ∷ rest) (codes "/*") then block_comment (comment_end (drop 2 (a ∷ rest)))
    else token_piece (token_at (a ∷ rest))

-- the piece has a byte at least, and no more than there are
abbrev pub FitsIn : ℕ → Piece → Type 0
FitsIn count (Blank n) = (0 < n) × (n ≤ count)
FitsIn count (Token k n) = (0 < n) × (n ≤ count)
FitsIn count Bad = Unit {0}
FitsIn count TooLong = Unit {0}

-- What stands between the tokens of a text: white space and comments (ISO/IEC 9899:1990, 6.1 and 6.1.9;
-- comments with `//` too).
use Rattle.std.specs.Prelude.{ℕ, ◌+◌, ◌-◌, ◌≤◌, ◌≡◌, Bool, true, false, ◌&&◌, ◌||◌, ◌==◌, nat_eq, not, List, [], ◌∷◌, length, take, drop, Option, Some, None, codes}
use Rattle.std.specs.List.{starts_with, list_all}
use Rattle.c_token.specs.declared.token.Tok.{Tok}
use Rattle.c_token.specs.Bytes.{is_blank}
use Rattle.c_token.specs.Token.{comment_end}

-- one character of white space
abbrev pub is_white_space : List ℕ → ℕ → Bool
is_white_space [] count = false
is_white_space (b ∷ rest) count = is_blank b && (count == 1)

-- the end of a line, or of the text
abbrev pub ends_line : List ℕ → Bool
ends_line [] = true
ends_line (b ∷ rest) = b == 10

-- from `//` to the end of the line
abbrev pub is_line_comment : List ℕ → ℕ → Bool
is_line_comment text count = starts_with nat_eq text (codes "//") && (list_all (λ b. not (b == 10)) (take count text) && ends_line (drop count text))

abbrev pub is_end : Option ℕ → ℕ → Bool
is_end None count = false
is_end (Some inner) count = count == inner + 2

-- from `/*` through the first `*/` behind it
abbrev pub is_block_comment : List ℕ → ℕ → Bool
is_block_comment text count = starts_with nat_eq text (codes "/*") && is_end (comment_end (drop 2 text)) count

-- so many bytes at the front of a text are one character of white space or one comment
abbrev pub is_blank_piece : List ℕ → ℕ → Bool
is_blank_piece text count = is_white_space text count || (is_line_comment text count || is_block_comment text count)

-- a text begins with such pieces of these lengths
abbrev pub AreBlank : List ℕ → List ℕ → Type 0
AreBlank text [] = Unit {0}
AreBlank text (n ∷ ns) = (is_blank_piece text n ≡ true) × AreBlank (drop n text) ns

abbrev pub sum_of : List ℕ → ℕ
sum_of [] = 0
sum_of (n ∷ ns) = n + sum_of ns

-- So many bytes at the front of a text are white space and comments, one behind the other.
pub record IsGap (text : List ℕ) (count : ℕ) : Type 0 where
  pub sizes : List ℕ
  pub all : sum_of sizes ≡ count
  pub each : AreBlank text sizes

-- A text from a place on is these tokens, each behind a gap, and a gap up to its end.
abbrev pub IsCut : List ℕ → ℕ → List Tok → Type 0
IsCut text at [] = IsGap (drop at text) (length text - at)
IsCut text at (t ∷ ts) = (at ≤ t.start) × IsGap (drop at text) (t.start - at) × IsCut text t.end ts

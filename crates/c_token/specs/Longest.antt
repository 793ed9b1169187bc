-- Which lists of bytes are one token, and which token is the longest at the front of a text
-- (ISO/IEC 9899:1990, 6.1).
use Rattle.std.specs.Prelude.{ℕ, ◌-◌, ◌≤◌, Bool, true, false, ◌&&◌, ◌==◌, if◌then◌else◌, List, [], ◌∷◌, length, take, drop, Option, Some, None, ◌≡◌, find}
use Rattle.std.specs.List.{list_all}
use Rattle.std.specs.Option.{option_or}
use Rattle.std.specs.Str.{bytes_eq}
use Rattle.c_token.specs.declared.token.Tok.{Tok}
use Rattle.c_token.specs.declared.token.TokKind.{TokKind}
use Rattle.c_token.specs.declared.token.TokKind.TheVariants as kind
use Rattle.c_token.specs.Bytes.{begins_name, is_name_byte, is_number_byte}
use Rattle.c_token.specs.Spelling.{punct_spelling, punctuators}
use Rattle.c_token.specs.Constant.{◌>>=◌, integer_of, element_at, string_end}
use Rattle.c_token.specs.Token.{keyword_of, kind_of_word}

-- a letter or an underscore, and behind it letters, digits and underscores alone
abbrev pub is_word : List ℕ → Bool
is_word [] = false
is_word (b ∷ rest) = begins_name b && list_all is_name_byte rest

-- a keyword or a name (6.1.1 and 6.1.2)
abbrev pub word_spelled : List ℕ → Option TokKind
word_spelled bytes = if is_word bytes then Some (kind_of_word (keyword_of bytes)) else None

-- a character constant: one element between two single quotes (6.1.3.4)
unfoldable pub character_spelled : List ℕ → Option TokKind
character_spelled [] = None
character_spelled (b ∷ rest) =
    if b == 39 then (do
      element ← element_at 39 rest
      if bytes_eq (drop element.1 rest) (39 ∷ []) then Some (kind.Char element.0) else None)
    else None

-- a string: elements between two double quotes (6.1.4)
unfoldable pub string_spelled : List ℕ → Option TokKind
string_spelled [] = None
string_spelled (b ∷ rest) =
    if b == 34 then (do
      count ← string_end 0 rest
      if count == length rest then Some kind.Text else None)
    else None

-- a punctuator (6.1.5 and 6.1.6)
unfoldable pub punctuator_spelled : List ℕ → Option TokKind
punctuator_spelled bytes = do
  punct ← find (λ p. bytes_eq (punct_spelling p) bytes) punctuators
  Some (kind.Punct punct)

-- the token that these bytes are, if they are one
unfoldable pub token_spelled : List ℕ → Option TokKind
token_spelled bytes =
    option_or (word_spelled bytes)
    (option_or (integer_of bytes)
    (option_or (character_spelled bytes)
    (option_or (string_spelled bytes)
    (punctuator_spelled bytes))))

abbrev pub is_integer : TokKind → Bool
is_integer (kind.Int value base unsigned_suffix long_suffix) = true
is_integer _ = false

-- whether a number before these bytes goes on: with such a byte it is one preprocessing number
-- (6.1.8)
abbrev pub number_goes_on : List ℕ → Bool
number_goes_on [] = false
number_goes_on (b ∷ rest) = is_number_byte b

-- So many bytes at the front of a text are a token of this kind. An integer constant stands only where
-- the number doesn't go on.
pub record Stands (text : List ℕ) (count : ℕ) (k : TokKind) : Type 0 where
  pub within : count ≤ length text
  pub spelled : token_spelled (take count text) ≡ Some k
  pub ended : is_integer k ≡ true → number_goes_on (drop count text) ≡ false

-- a token stands there, and none that stands there has more bytes
pub record IsLongest (text : List ℕ) (k : TokKind) (count : ℕ) : Type 0 where
  pub stands : Stands text count k
  pub longest : (m : ℕ) (j : TokKind) → Stands text m j → m ≤ count

-- no token stands at the front, whatever its length
abbrev pub StandsNone : List ℕ → Type 0
StandsNone text = (m : ℕ) (j : TokKind) → Stands text m j → ⊥

-- the token's bytes are the longest token at its place in a text
abbrev pub IsLongestIn : List ℕ → Tok → Type 0
IsLongestIn text t = IsLongest (drop t.start text) t.kind (t.end - t.start)

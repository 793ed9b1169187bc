-- Integer constants, character constants and strings (ISO/IEC 9899:1990, 6.1.3.2, 6.1.3.4 and
-- 6.1.4), read from the front of a list of bytes.
use Rattle.std.specs.Prelude.{ℕ, zero, suc, ◌+◌, ◌-◌, ◌*◌, Bool, true, false, ◌&&◌, ◌||◌, ◌==◌, nat_eq, nat_lt, if◌then◌else◌, List, [], ◌∷◌, length, take, drop, fold, Option, Some, None}
use Rattle.std.specs.List.{prefix_len, starts_with}
use Rattle.c_token.specs.declared.token.TokKind.{TokKind}
use Rattle.c_token.specs.declared.token.TokKind.TheVariants as kind
use Rattle.c_token.specs.Bytes.{digit_value, is_digit, is_plain}

infixl 10 ◌>>=◌
abbrev pub ◌>>=◌ : {A B : Type 0} → Option A → (A → Option B) → Option B
(Some x) >>= f = f x
None >>= f = None

-- the number that digits spell in a base
abbrev pub value_in : ℕ → List ℕ → ℕ
value_in base digits = fold (λ n d. n * base + digit_value d) 0 digits

abbrev pub is_unsigned_suffix : ℕ → Bool
is_unsigned_suffix b = (b == 117) || (b == 85)

abbrev pub is_long_suffix : ℕ → Bool
is_long_suffix b = (b == 108) || (b == 76)

-- at most one `u` or `U` and at most one `l` or `L`, in either order: whether each is there
unfoldable pub suffixes_of : List ℕ → Option (Bool × Bool)
suffixes_of [] = Some (false, false)
suffixes_of (a ∷ []) =
    if is_unsigned_suffix a then Some (true, false)
    else if is_long_suffix a then Some (false, true)
    else None
suffixes_of (a ∷ b ∷ []) =
    if is_unsigned_suffix a && is_long_suffix b then Some (true, true)
    else if is_long_suffix a && is_unsigned_suffix b then Some (true, true)
    else None
suffixes_of _ = None

-- digits of a base, at least one, whose number is below 2 ^ 32, and suffixes
unfoldable pub number_in : ℕ → List ℕ → Option TokKind
number_in base bytes =
    let count = prefix_len (is_digit base) bytes in
    let value = value_in base (take count bytes) in
    if nat_lt 0 count && nat_lt value 4294967296 then (do
      suffixes ← suffixes_of (drop count bytes)
      Some (kind.Int value base suffixes.0 suffixes.1))
    else None

abbrev pub is_either : ℕ → ℕ → ℕ → Bool
is_either small capital b = (b == small) || (b == capital)

-- the integer constant that these bytes are: `0x` and digits of base 16, `0b` and digits of base 2,
-- `0` and digits of base 8, or digits of base 10 that don't begin with `0`
unfoldable pub integer_of : List ℕ → Option TokKind
integer_of [] = None
integer_of (a ∷ []) = if a == 48 then number_in 8 (a ∷ []) else number_in 10 (a ∷ [])
integer_of (a ∷ b ∷ rest) =
    if a == 48 then
    (if is_either 120 88 b then number_in 16 rest
    else if is_either 98 66 b then number_in 2 rest
    else number_in 8 (a ∷ b ∷ rest))
    else number_in 10 (a ∷ b ∷ rest)

-- what a letter or a mark behind a backslash stands for
unfoldable pub escape_letter : ℕ → Option ℕ
escape_letter b =
    if b == 110 then Some 10
    else if b == 116 then Some 9
    else if b == 118 then Some 11
    else if b == 98 then Some 8
    else if b == 114 then Some 13
    else if b == 102 then Some 12
    else if b == 97 then Some 7
    else if (b == 92) || (b == 63) || (b == 39) || (b == 34) then Some b
    else None

-- the code that the digits of a numeric escape spell: at least one digit, and at most 255
unfoldable pub code_in : ℕ → List ℕ → Option ℕ
code_in base digits =
    let value = value_in base digits in
    if nat_lt 0 (length digits) && nat_lt value 256 then Some value else None

-- up to three octal digits, as many as stand there: the code and the length with the backslash
unfoldable pub octal_escape : List ℕ → Option (ℕ × ℕ)
octal_escape bytes =
    let count = prefix_len (is_digit 8) (take 3 bytes) in (do
      code ← code_in 8 (take count bytes)
      Some (code, count + 1))

-- behind `\x`: hexadecimal digits, as many as stand there
unfoldable pub hexadecimal_escape : List ℕ → Option (ℕ × ℕ)
hexadecimal_escape bytes =
    let count = prefix_len (is_digit 16) bytes in (do
      code ← code_in 16 (take count bytes)
      Some (code, count + 2))

-- the escape behind a backslash, and its length with the backslash
unfoldable pub escape_at : List ℕ → Option (ℕ × ℕ)
escape_at [] = None
escape_at (b ∷ rest) =
    if is_digit 8 b then octal_escape (b ∷ rest)
    else if b == 120 then hexadecimal_escape rest
    else (do
      code ← escape_letter b
      Some (code, 2))

-- the element at the front of a constant in these quotes: its code and its length
unfoldable pub element_at : ℕ → List ℕ → Option (ℕ × ℕ)
element_at quote [] = None
element_at quote (b ∷ rest) =
    if b == 92 then escape_at rest
    else if is_plain quote b then Some (b, 1)
    else None

-- behind the opening quote: one element and the closing quote. The length has both quotes
unfoldable pub character_at : List ℕ → Option (TokKind × ℕ)
character_at bytes = do
  element ← element_at 39 bytes
  if starts_with nat_eq (drop element.1 bytes) (39 ∷ []) then Some (kind.Char element.0, element.1 + 2) else None

-- behind the opening quote: elements and the closing quote, and their length. The first `passed`
-- bytes belong to an element that was read already
unfoldable pub string_end : ℕ → List ℕ → Option ℕ
string_end passed [] = None
string_end (suc passed) (b ∷ rest) = do
  n ← string_end passed rest
  Some (n + 1)
string_end zero (b ∷ rest) =
    if b == 34 then Some 1
    else (do
      element ← element_at 34 (b ∷ rest)
      n ← string_end (element.1 - 1) rest
      Some (n + 1))

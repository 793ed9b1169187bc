-- The list of tokens of a text.
use Rattle.std.specs.Prelude.{ℕ, zero, suc, ◌+◌, ◌-◌, Bool, true, false, ◌&&◌, ◌==◌, nat_lt, not, if◌then◌else◌, List, [], ◌∷◌, Result, Ok, Err, Option, Some, None, ◌≡◌, ◌<◌, ◌≤◌}
use Rattle.std.specs.declared.vec.Vec.{Vec}
use Rattle.std.specs.declared.alloc.Global.{Global}
use Rattle.c_token.specs.declared.token.Tok.{Tok}
use Rattle.c_token.specs.declared.token.TokKind.{TokKind}
use Rattle.c_token.specs.declared.token.TokKind.TheVariants as kind
use Rattle.c_token.specs.declared.token.Punct.TheVariants as punct
use Rattle.c_token.specs.declared.token.LexError.{LexError}
use Rattle.c_token.specs.declared.token.LexError.TheVariants as error
use Rattle.c_token.specs.declared.scan.Position.{Position}
use Rattle.c_token.specs.declared.piece.Piece.{Piece}
use Rattle.c_token.specs.declared.piece.Piece.TheVariants.{Blank, Token, Bad, TooLong}
use Rattle.c_token.specs.Token.{piece_at}

-- the place behind a byte; a line ends with its line feed
abbrev pub behind : ℕ → Position → Position
behind b place = record place { at = place.at + 1; line = place.line + (if b == 10 then 1 else 0) }

-- the token of a kind and a length at a place
abbrev pub token_of : TokKind → ℕ → Position → Tok
token_of k n place = record { kind = k; start = place.at; end = place.at + n; line = place.line; first = nat_lt place.last place.line }

abbrev pub is_hash : TokKind → Bool
is_hash (kind.Punct punct.Hash) = true
is_hash _ = false

abbrev pub with_token : Tok → Result (List Tok) LexError → Result (List Tok) LexError
with_token t (Ok ts) = Ok (t ∷ ts)
with_token t (Err e) = Err e

-- What the piece at a place begins, where `again` gives the tokens from a place behind the first byte
-- on, past as many further bytes as it is told.
abbrev pub after_piece : (ℕ → Position → Result (List Tok) LexError) → ℕ → Position → Piece → Result (List Tok) LexError
after_piece again b place (Blank n) = again (n - 1) (behind b place)
after_piece again b place (Token k n) =
    if is_hash k && not (nat_lt place.last place.line) then Err (error.Bad place.line)
    else with_token (token_of k n place) (again (n - 1) (behind b (record place { last = place.line })))
after_piece again b place Bad = Err (error.Bad place.line)
after_piece again b place TooLong = Err (error.Identifier place.line)

-- The tokens from a place on, whose first `passed` bytes belong to what was read already. A `#` is a
-- token only where no other stands before it on its line.
unfoldable pub tokens_from : List ℕ → ℕ → Position → Result (List Tok) LexError
tokens_from [] passed place = Ok []
tokens_from (b ∷ rest) (suc passed) place = tokens_from rest passed (behind b place)
tokens_from (b ∷ rest) zero place = after_piece (tokens_from rest) b place (piece_at (b ∷ rest))

-- the tokens of a whole text, or the first place where there is none
abbrev pub tokens_of : List ℕ → Result (List Tok) LexError
tokens_of text = tokens_from text 0 (record { at = 0; line = 1; last = 0 })

-- what a function on a text gives, unless memory runs out
abbrev pub Fails : LexError → Result (List Tok) LexError → Type 0
Fails error.NoMemory tokens = Unit {0}
Fails (error.Bad line) tokens = tokens ≡ Err (error.Bad line)
Fails (error.Identifier line) tokens = tokens ≡ Err (error.Identifier line)

abbrev pub Gives : Result (Vec Tok Global) LexError → Result (List Tok) LexError → Type 0
Gives (Ok v) tokens = tokens ≡ Ok v.items
Gives (Err e) tokens = Fails e tokens

-- a token may stand before others
abbrev pub with_any : Option Tok → Result (List Tok) LexError → Result (List Tok) LexError
with_any None rest = rest
with_any (Some t) rest = with_token t rest

-- each token has a byte at least, and they stand one behind the other between two places
abbrev pub InOrder : ℕ → ℕ → List Tok → Type 0
InOrder low high [] = low ≤ high
InOrder low high (t ∷ ts) = (low ≤ t.start) × (t.start < t.end) × InOrder t.end high ts

-- the token's span is in a text of this length
abbrev pub LiesIn : ℕ → Tok → Type 0
LiesIn size t = (t.start < t.end) × (t.end ≤ size)

-- a token, if there is one, has a byte and stands between two places
abbrev pub Spans : ℕ → ℕ → Option Tok → Type 0
Spans low high None = low ≤ high
Spans low high (Some t) = (low ≤ t.start) × (t.start < t.end) × (t.end ≤ high)

-- The limits on open brackets and on runs of tokens (the project's own).
use Rattle.std.specs.Prelude.{ℕ, ◌+◌, ◌-◌, List, [], ◌∷◌, Option, Some, None, Bool, nat_lt, if◌then◌else◌}
use Rattle.c_token.specs.declared.token.Tok.{Tok}
use Rattle.c_token.specs.declared.token.TokKind.{TokKind}
use Rattle.c_token.specs.declared.token.TokKind.TheVariants as kinds
use Rattle.c_token.specs.declared.token.Punct.TheVariants.{LeftParenthesis, RightParenthesis, LeftBracket, RightBracket, LeftBrace, RightBrace, Semicolon}
use Rattle.parse_expr.specs.declared.error.ParseError.{ParseError}
use Rattle.parse_expr.specs.declared.error.ParseError.TheVariants.{Nesting, Run}

-- How many brackets are open behind a token, where n were open before it. A closing one with none
-- open leaves none.
abbrev pub open_after : ℕ → TokKind → ℕ
open_after n (kinds.Punct LeftParenthesis) = n + 1
open_after n (kinds.Punct LeftBracket) = n + 1
open_after n (kinds.Punct LeftBrace) = n + 1
open_after n (kinds.Punct RightParenthesis) = n - 1
open_after n (kinds.Punct RightBracket) = n - 1
open_after n (kinds.Punct RightBrace) = n - 1
open_after n _ = n

-- How many tokens stand in a row without `;`, `{` or `}` up to a token, with n before it.
abbrev pub run_after : ℕ → TokKind → ℕ
run_after n (kinds.Punct Semicolon) = 0
run_after n (kinds.Punct LeftBrace) = 0
run_after n (kinds.Punct RightBrace) = 0
run_after n _ = n + 1

-- More than 64 open brackets, or else more than 8,192 tokens in a row, at a token on this line.
abbrev pub judged : ℕ → ℕ → ℕ → Option ParseError → Option ParseError
judged open_now run line later = if nat_lt 64 open_now then Some (Nesting line) else if nat_lt 8192 run then Some (Run line) else later

-- The first token at which a limit is passed.
unfoldable pub first_over : ℕ → ℕ → List Tok → Option ParseError
first_over open_now run [] = None
first_over open_now run (t ∷ ts) = judged (open_after open_now t.kind) (run_after run t.kind) t.line (first_over (open_after open_now t.kind) (run_after run t.kind) ts)

-- the errors that tell of a limit
abbrev pub IsLimit : ParseError → Type 0
IsLimit (Nesting line) = Unit {0}
IsLimit (Run line) = Unit {0}
IsLimit _ = ⊥

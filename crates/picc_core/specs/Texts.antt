-- What a text is, up to its tree: its tokens, or the first refusal of them; and whether it has a tree.
use Rattle.std.specs.Prelude.{ℕ, ◌≡◌, nat_lt, if◌then◌else◌, List, length, Option, Some, None, Result, Ok, Err}
use Rattle.c_token.specs.Text.{tokens_of}
use Rattle.c_token.specs.declared.token.Tok.{Tok}
use Rattle.c_token.specs.declared.token.LexError.{LexError}
use Rattle.c_pre.specs.Items.{program_of}
use Rattle.c_pre.specs.declared.PreError.{PreError}
use Rattle.c_nodes.specs.Programs.{ItemTree, IsUnit, spelled_unit}
use Rattle.parse_expr.specs.Reader.{symbols_in}
use Rattle.parse_expr.specs.declared.error.ParseError.{ParseError}
use Rattle.c_parse.specs.Limits.{first_over}
use Rattle.c_parse.specs.Marks.{marked}
use Rattle.picc_core.specs.Errors.{of_lex, of_pre, of_parse}
use Rattle.picc_core.specs.declared.refusal.CompileError.{CompileError}
use Rattle.picc_core.specs.declared.refusal.CompileError.TheVariants.{Refused}
use Rattle.picc_core.specs.declared.refusal.LimitKind.TheVariants.{Text}
use Rattle.picc_core.specs.declared.refusal.Refusal.TheVariants.{Limit}

-- the most bytes of a text
abbrev pub longest : ℕ
longest = 262144

-- ---- the tokens of a program (ISO/IEC 9899:1990, 6.1 and 6.8)
-- behind directives and the replacement of names, with the names of types marked
abbrev pub behind_directives : List ℕ → Result (List Tok) PreError → Result (List Tok) CompileError
behind_directives text (Ok toks) = Ok (marked text toks)
behind_directives text (Err e) = Err (of_pre e)

abbrev pub behind_tokens : List ℕ → Result (List Tok) LexError → Result (List Tok) CompileError
behind_tokens text (Ok raw) = behind_directives text (program_of text raw)
behind_tokens text (Err e) = Err (of_lex e)

unfoldable pub tokens_left : List ℕ → Result (List Tok) CompileError
tokens_left text = if nat_lt longest (length text) then Err (Refused (Limit Text 0)) else behind_tokens text (tokens_of text)

-- and within the limits on open brackets and on runs
abbrev pub limited : List Tok → Option ParseError → Result (List Tok) CompileError
limited toks None = Ok toks
limited toks (Some e) = Err (of_parse e)

abbrev pub within_limits : Result (List Tok) CompileError → Result (List Tok) CompileError
within_limits (Ok toks) = limited toks (first_over 0 0 toks)
within_limits (Err e) = Err e

-- The tokens that a tree has to spell, or the first refusal: a text that is too long; the first place without a token, or
-- a name that is too long; an excluded word; a bad directive; too many tokens; too many open brackets, or too long a run.
abbrev pub program_tokens : List ℕ → Result (List Tok) CompileError
program_tokens text = within_limits (tokens_left text)

-- ---- the tree (ISO/IEC 9899:1990, 6.3 to 6.7, in the subset)
pub record HasTree (text : List ℕ) : Type 0 where
  pub toks : List Tok
  pub tree : List ItemTree
  pub tokens : program_tokens text ≡ Ok toks
  pub grammar : IsUnit tree
  pub spelled : symbols_in text toks ≡ spelled_unit tree

-- its tokens are fine, and there is no tree that they spell
pub record HasNoTree (text : List ℕ) : Type 0 where
  pub toks : List Tok
  pub tokens : program_tokens text ≡ Ok toks
  pub none : HasTree text → ⊥

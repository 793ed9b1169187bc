-- The law, as it is read.
use Rattle.std.specs.Prelude.{ℕ, ◌≡◌, List, Ok}
use Rattle.c_token.specs.Text.{tokens_of}
use Rattle.c_token.specs.declared.token.Tok.{Tok}
use Rattle.c_pre.specs.Items.{program_of}
use Rattle.c_parse.specs.Marks.{marked}
use Rattle.parse_expr.specs.Reader.{symbols_in}
use Rattle.program_laws.specs.Named.{AreWords}

-- Each name among the tokens that a text comes to is spelled as one.
abbrev pub TokensAreWords : Type 0
TokensAreWords = (text : List ℕ) (raw toks : List Tok) → tokens_of text ≡ Ok raw → program_of text raw ≡ Ok toks → AreWords (symbols_in text (marked text toks))

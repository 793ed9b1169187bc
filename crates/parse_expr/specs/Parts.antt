-- Reading parts of an expression, in the order in which the code reads them.
use Rattle.std.specs.Prelude.{ℕ, ◌&&◌, if◌then◌else◌, [], ◌∷◌, ◌++◌, Some, None}
use Rattle.c_token.specs.declared.token.Keyword.TheVariants as words
use Rattle.c_token.specs.declared.token.Punct.TheVariants as marks
use Rattle.c_nodes.specs.Words.{Symbols}
use Rattle.c_nodes.specs.Kinds.{is_key, is_prefix, is_step, is_field}
use Rattle.c_nodes.specs.Trees.{Tree, Post, Step, Pre, Sign, Sizeof}
use Rattle.c_nodes.specs.Lists.{ChoiceParts}
use Rattle.parse_expr.specs.Reader.{◌>>=◌, Reader, punct_at, type_opens, got}
use Rattle.parse_expr.specs.Reader as reader
use Rattle.parse_expr.specs.Reading.{Inner, field_by}

-- a postfix without brackets
unfoldable pub plain_post_at : reader.Step Post
plain_post_at [] = Some None
plain_post_at (s ∷ rest) =
    if is_field s.kind then got (field_by s rest)
    else if is_step s.kind then Some (Some (Step s, rest))
    else Some None

-- a prefix without brackets
unfoldable pub plain_prefix_at : reader.Step Pre
plain_prefix_at [] = Some None
plain_prefix_at (s ∷ rest) =
    if is_prefix s.kind then (if is_step s.kind && type_opens rest then None else Some (Some (Sign s, rest)))
    else if is_key words.Sizeof s.kind then (if type_opens rest then Some None else Some (Some (Sizeof s.line, rest)))
    else Some None

-- symbols before others
abbrev pub in_front : Symbols → Symbols × Symbols → Symbols × Symbols
in_front ss x = (ss ++ x.0, x.1)

-- a choice, behind its condition and the `?`
unfoldable pub choice_by : Inner → Tree → ℕ → Reader ChoiceParts
choice_by inner c q toks = do
  t ← inner.expr toks
  k ← punct_at marks.Colon t.1
  Some ((c, q, t.0, k.0), k.1)

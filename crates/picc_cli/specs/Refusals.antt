-- The lines that tell why a text is refused.
use Rattle.std.specs.Prelude.{ℕ, List, [], ◌∷◌, ◌++◌, codes, decimal, Option, Some, None}
use Rattle.c_tables.specs.declared.error.Kind.{Kind}
use Rattle.c_tables.specs.declared.error.Kind.TheVariants as kinds
use Rattle.c_typed.specs.declared.program.RootKind.{RootKind}
use Rattle.c_typed.specs.declared.program.RootKind.TheVariants as roots
use Rattle.picc_cli.specs.Lines.{located}
use Rattle.picc_core.specs.declared.refusal.LimitKind.{LimitKind}
use Rattle.picc_core.specs.declared.refusal.LimitKind.TheVariants as limits
use Rattle.picc_core.specs.declared.refusal.Refusal.{Refusal}
use Rattle.picc_core.specs.declared.refusal.Refusal.TheVariants.{Lex, Word, Directive, Syntax, Typing, Recursion, Roots, Depth, Ram, Code, Page, Limit}

abbrev pub kind_text : Kind → List ℕ
kind_text kinds.Name = codes "name"
kind_text kinds.Again = codes "again"
kind_text kinds.Declare = codes "declare"
kind_text kinds.Size = codes "size"
kind_text kinds.Incomplete = codes "incomplete"
kind_text kinds.Constant = codes "constant"
kind_text kinds.Initializer = codes "initializer"
kind_text kinds.Member = codes "member"
kind_text kinds.Call = codes "call"
kind_text kinds.Address = codes "address"
kind_text kinds.Assign = codes "assign"
kind_text kinds.Operand = codes "operand"
kind_text kinds.Convert = codes "convert"
kind_text kinds.Return = codes "return"
kind_text kinds.Jump = codes "jump"

abbrev pub root_text : RootKind → List ℕ
root_text roots.None = codes "none"
root_text roots.Main = codes "main"
root_text roots.Shape = codes "shape"
root_text roots.Second = codes "second"
root_text roots.Called = codes "called"

abbrev pub limit_text : LimitKind → List ℕ
limit_text limits.Text = codes "text"
limit_text limits.Identifier = codes "identifier"
limit_text limits.Tokens = codes "tokens"
limit_text limits.Nesting = codes "nesting"
limit_text limits.Run = codes "run"

abbrev pub number_of : Refusal → ℕ
number_of (Lex line) = 1
number_of (Word line) = 2
number_of (Directive line) = 3
number_of (Syntax line) = 4
number_of (Typing kind line) = 5
number_of (Recursion function) = 6
number_of (Roots kind) = 7
number_of (Depth depth) = 8
number_of (Ram object) = 9
number_of (Code words) = 10
number_of (Page function words) = 11
number_of (Limit kind line) = 12

-- the line of the text at which it holds
abbrev pub line_of : Refusal → Option ℕ
line_of (Lex line) = Some line
line_of (Word line) = Some line
line_of (Directive line) = Some line
line_of (Syntax line) = Some line
line_of (Typing kind line) = Some line
line_of (Limit kind line) = Some line
line_of (Recursion function) = None
line_of (Roots kind) = None
line_of (Depth depth) = None
line_of (Ram object) = None
line_of (Code words) = None
line_of (Page function words) = None

abbrev pub text_of : Refusal → List ℕ
text_of (Lex line) = codes "bad token"
text_of (Word line) = codes "excluded word"
text_of (Directive line) = codes "bad directive"
text_of (Syntax line) = codes "syntax"
text_of (Typing kind line) = kind_text kind
text_of (Recursion function) = codes "recursion " ++ function.items
text_of (Roots kind) = codes "roots " ++ root_text kind
text_of (Depth depth) = codes "depth " ++ decimal depth
text_of (Ram object) = codes "ram " ++ object.items
text_of (Code words) = codes "code " ++ decimal words
text_of (Page function words) = codes "page " ++ function.items ++ codes " " ++ decimal words
text_of (Limit kind line) = codes "limit " ++ limit_text kind

-- a colon and the line
abbrev pub place_text : Option ℕ → List ℕ
place_text None = []
place_text (Some line) = codes ":" ++ decimal line

-- `NAME:LINE: error N: TEXT`, or `NAME: error N: TEXT` where it has no line; and a line feed
abbrev pub refusal_line : List ℕ → Refusal → List ℕ
refusal_line name refusal =
    name ++ place_text (line_of refusal) ++ codes ": error " ++ decimal (number_of refusal) ++ codes ": " ++ text_of refusal ++ 10 ∷ []

-- the line for a device register that the chip doesn't have
abbrev pub register_line : List ℕ → ℕ → List ℕ
register_line name line = located name line (codes "error 13: register")

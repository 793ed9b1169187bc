-- How keywords and punctuators are spelled (ISO/IEC 9899:1990, 6.1.1, 6.1.5 and 6.1.6; `interrupt`
-- is the HI-TECH PICC compiler's), and the lists of them. The longer punctuators come first.
use Rattle.std.specs.Prelude.{ℕ, List, [], ◌∷◌, codes}
use Rattle.c_token.specs.declared.token.Keyword.{Keyword}
use Rattle.c_token.specs.declared.token.Keyword.TheVariants as keyword
use Rattle.c_token.specs.declared.token.Punct.{Punct}
use Rattle.c_token.specs.declared.token.Punct.TheVariants as punct

abbrev pub keyword_spelling : Keyword → List ℕ
keyword_spelling keyword.Auto = codes "auto"
keyword_spelling keyword.Break = codes "break"
keyword_spelling keyword.Case = codes "case"
keyword_spelling keyword.Char = codes "char"
keyword_spelling keyword.Const = codes "const"
keyword_spelling keyword.Continue = codes "continue"
keyword_spelling keyword.Default = codes "default"
keyword_spelling keyword.Do = codes "do"
keyword_spelling keyword.Else = codes "else"
keyword_spelling keyword.Enum = codes "enum"
keyword_spelling keyword.For = codes "for"
keyword_spelling keyword.If = codes "if"
keyword_spelling keyword.Int = codes "int"
keyword_spelling keyword.Interrupt = codes "interrupt"
keyword_spelling keyword.Long = codes "long"
keyword_spelling keyword.Register = codes "register"
keyword_spelling keyword.Return = codes "return"
keyword_spelling keyword.Short = codes "short"
keyword_spelling keyword.Signed = codes "signed"
keyword_spelling keyword.Sizeof = codes "sizeof"
keyword_spelling keyword.Static = codes "static"
keyword_spelling keyword.Struct = codes "struct"
keyword_spelling keyword.Switch = codes "switch"
keyword_spelling keyword.Typedef = codes "typedef"
keyword_spelling keyword.Unsigned = codes "unsigned"
keyword_spelling keyword.Void = codes "void"
keyword_spelling keyword.Volatile = codes "volatile"
keyword_spelling keyword.While = codes "while"

abbrev pub punct_spelling : Punct → List ℕ
punct_spelling punct.LeftBracket = codes "["
punct_spelling punct.RightBracket = codes "]"
punct_spelling punct.LeftParenthesis = codes "("
punct_spelling punct.RightParenthesis = codes ")"
punct_spelling punct.LeftBrace = codes "{"
punct_spelling punct.RightBrace = codes "}"
punct_spelling punct.Dot = codes "."
punct_spelling punct.Arrow = codes "->"
punct_spelling punct.Increment = codes "++"
punct_spelling punct.Decrement = codes "--"
punct_spelling punct.Ampersand = codes "&"
punct_spelling punct.Star = codes "*"
punct_spelling punct.Plus = codes "+"
punct_spelling punct.Minus = codes "-"
punct_spelling punct.Tilde = codes "~"
punct_spelling punct.Not = codes "!"
punct_spelling punct.Slash = codes "/"
punct_spelling punct.Percent = codes "%"
punct_spelling punct.ShiftLeft = codes "<<"
punct_spelling punct.ShiftRight = codes ">>"
punct_spelling punct.Less = codes "<"
punct_spelling punct.Greater = codes ">"
punct_spelling punct.LessEqual = codes "<="
punct_spelling punct.GreaterEqual = codes ">="
punct_spelling punct.Equal = codes "=="
punct_spelling punct.NotEqual = codes "!="
punct_spelling punct.Caret = codes "^"
punct_spelling punct.Bar = codes "|"
punct_spelling punct.And = codes "&&"
punct_spelling punct.Or = codes "||"
punct_spelling punct.Question = codes "?"
punct_spelling punct.Colon = codes ":"
punct_spelling punct.Semicolon = codes ";"
punct_spelling punct.Assign = codes "="
punct_spelling punct.StarAssign = codes "*="
punct_spelling punct.SlashAssign = codes "/="
punct_spelling punct.PercentAssign = codes "%="
punct_spelling punct.PlusAssign = codes "+="
punct_spelling punct.MinusAssign = codes "-="
punct_spelling punct.ShiftLeftAssign = codes "<<="
punct_spelling punct.ShiftRightAssign = codes ">>="
punct_spelling punct.AmpersandAssign = codes "&="
punct_spelling punct.CaretAssign = codes "^="
punct_spelling punct.BarAssign = codes "|="
punct_spelling punct.Comma = codes ","
punct_spelling punct.Hash = codes "#"

abbrev pub keywords : List Keyword
keywords =
    keyword.Auto ∷ keyword.Break ∷ keyword.Case ∷ keyword.Char ∷ keyword.Const ∷
    keyword.Continue ∷ keyword.Default ∷ keyword.Do ∷ keyword.Else ∷ keyword.Enum ∷ keyword.For ∷ keyword.If ∷
    keyword.Int ∷ keyword.Interrupt ∷ keyword.Long ∷ keyword.Register ∷ keyword.Return ∷
    keyword.Short ∷ keyword.Signed ∷ keyword.Sizeof ∷ keyword.Static ∷ keyword.Struct ∷
    keyword.Switch ∷ keyword.Typedef ∷ keyword.Unsigned ∷ keyword.Void ∷ keyword.Volatile ∷ keyword.While ∷ []

abbrev pub punctuators : List Punct
punctuators =
    punct.ShiftLeftAssign ∷ punct.ShiftRightAssign ∷ punct.Arrow ∷ punct.Increment ∷
    punct.Decrement ∷ punct.ShiftLeft ∷ punct.ShiftRight ∷ punct.LessEqual ∷
    punct.GreaterEqual ∷ punct.Equal ∷ punct.NotEqual ∷ punct.And ∷ punct.Or ∷
    punct.StarAssign ∷ punct.SlashAssign ∷ punct.PercentAssign ∷ punct.PlusAssign ∷
    punct.MinusAssign ∷ punct.AmpersandAssign ∷ punct.CaretAssign ∷ punct.BarAssign ∷
    punct.LeftBracket ∷ punct.RightBracket ∷ punct.LeftParenthesis ∷ punct.RightParenthesis ∷
    punct.LeftBrace ∷ punct.RightBrace ∷ punct.Dot ∷ punct.Ampersand ∷ punct.Star ∷
    punct.Plus ∷ punct.Minus ∷ punct.Tilde ∷ punct.Not ∷ punct.Slash ∷ punct.Percent ∷
    punct.Less ∷ punct.Greater ∷ punct.Caret ∷ punct.Bar ∷ punct.Question ∷ punct.Colon ∷
    punct.Semicolon ∷ punct.Assign ∷ punct.Comma ∷ punct.Hash ∷ []

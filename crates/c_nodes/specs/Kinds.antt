-- Which tokens stand where: tests on the kind of a token.
use Rattle.std.specs.Prelude.{ℕ, Bool, true, false, ◌==◌}
use Rattle.c_token.specs.declared.token.TokKind.{TokKind}
use Rattle.c_token.specs.declared.token.TokKind.TheVariants as kinds
use Rattle.c_token.specs.declared.token.Keyword.{Keyword}
use Rattle.c_token.specs.declared.token.Keyword.TheVariants as words
use Rattle.c_token.specs.declared.token.Punct.{Punct}
use Rattle.c_token.specs.declared.token.Punct.TheVariants as marks

-- The number of each punctuator and of each keyword, by which they are compared.
abbrev pub number_of : Punct → ℕ
number_of marks.LeftBracket = 0
number_of marks.RightBracket = 1
number_of marks.LeftParenthesis = 2
number_of marks.RightParenthesis = 3
number_of marks.LeftBrace = 4
number_of marks.RightBrace = 5
number_of marks.Dot = 6
number_of marks.Arrow = 7
number_of marks.Increment = 8
number_of marks.Decrement = 9
number_of marks.Ampersand = 10
number_of marks.Star = 11
number_of marks.Plus = 12
number_of marks.Minus = 13
number_of marks.Tilde = 14
number_of marks.Not = 15
number_of marks.Slash = 16
number_of marks.Percent = 17
number_of marks.ShiftLeft = 18
number_of marks.ShiftRight = 19
number_of marks.Less = 20
number_of marks.Greater = 21
number_of marks.LessEqual = 22
number_of marks.GreaterEqual = 23
number_of marks.Equal = 24
number_of marks.NotEqual = 25
number_of marks.Caret = 26
number_of marks.Bar = 27
number_of marks.And = 28
number_of marks.Or = 29
number_of marks.Question = 30
number_of marks.Colon = 31
number_of marks.Semicolon = 32
number_of marks.Assign = 33
number_of marks.StarAssign = 34
number_of marks.SlashAssign = 35
number_of marks.PercentAssign = 36
number_of marks.PlusAssign = 37
number_of marks.MinusAssign = 38
number_of marks.ShiftLeftAssign = 39
number_of marks.ShiftRightAssign = 40
number_of marks.AmpersandAssign = 41
number_of marks.CaretAssign = 42
number_of marks.BarAssign = 43
number_of marks.Comma = 44
number_of marks.Hash = 45

abbrev pub number_of_word : Keyword → ℕ
number_of_word words.Auto = 0
number_of_word words.Break = 1
number_of_word words.Case = 2
number_of_word words.Char = 3
number_of_word words.Const = 4
number_of_word words.Continue = 5
number_of_word words.Default = 6
number_of_word words.Do = 7
number_of_word words.Else = 8
number_of_word words.Enum = 9
number_of_word words.For = 10
number_of_word words.If = 11
number_of_word words.Int = 12
number_of_word words.Interrupt = 13
number_of_word words.Long = 14
number_of_word words.Register = 15
number_of_word words.Return = 16
number_of_word words.Short = 17
number_of_word words.Signed = 18
number_of_word words.Sizeof = 19
number_of_word words.Static = 20
number_of_word words.Struct = 21
number_of_word words.Switch = 22
number_of_word words.Typedef = 23
number_of_word words.Unsigned = 24
number_of_word words.Void = 25
number_of_word words.Volatile = 26
number_of_word words.While = 27

abbrev pub is_punct : Punct → TokKind → Bool
is_punct p (kinds.Punct q) = number_of q == number_of p
is_punct p _ = false

abbrev pub is_key : Keyword → TokKind → Bool
is_key k (kinds.Keyword w) = number_of_word w == number_of_word k
is_key k _ = false

abbrev pub is_name : TokKind → Bool
is_name kinds.Name = true
is_name _ = false

abbrev pub is_text : TokKind → Bool
is_text kinds.Text = true
is_text _ = false

-- a name that is marked as that of a type
abbrev pub is_type_name : TokKind → Bool
is_type_name kinds.TypeName = true
is_type_name _ = false

-- a primary expression of one token (ISO/IEC 9899:1990, 6.3.1)
abbrev pub is_leaf : TokKind → Bool
is_leaf kinds.Name = true
is_leaf (kinds.Int value base u l) = true
is_leaf (kinds.Char value) = true
is_leaf _ = false

-- the tier of a binary operator, from the tightest on; 13 for the comma, and 0 for what is none
-- (ISO/IEC 9899:1990, 6.3.5 to 6.3.14 and 6.3.17)
abbrev pub tier_of : Punct → ℕ
tier_of marks.Star = 1
tier_of marks.Slash = 1
tier_of marks.Percent = 1
tier_of marks.Plus = 2
tier_of marks.Minus = 2
tier_of marks.ShiftLeft = 3
tier_of marks.ShiftRight = 3
tier_of marks.Less = 4
tier_of marks.Greater = 4
tier_of marks.LessEqual = 4
tier_of marks.GreaterEqual = 4
tier_of marks.Equal = 5
tier_of marks.NotEqual = 5
tier_of marks.Ampersand = 6
tier_of marks.Caret = 7
tier_of marks.Bar = 8
tier_of marks.And = 9
tier_of marks.Or = 10
tier_of marks.Comma = 13
tier_of _ = 0

abbrev pub level_of : TokKind → ℕ
level_of (kinds.Punct p) = tier_of p
level_of _ = 0

-- an assignment operator (6.3.16)
abbrev pub is_assign_mark : Punct → Bool
is_assign_mark marks.Assign = true
is_assign_mark marks.StarAssign = true
is_assign_mark marks.SlashAssign = true
is_assign_mark marks.PercentAssign = true
is_assign_mark marks.PlusAssign = true
is_assign_mark marks.MinusAssign = true
is_assign_mark marks.ShiftLeftAssign = true
is_assign_mark marks.ShiftRightAssign = true
is_assign_mark marks.AmpersandAssign = true
is_assign_mark marks.CaretAssign = true
is_assign_mark marks.BarAssign = true
is_assign_mark _ = false

abbrev pub is_assignment : TokKind → Bool
is_assignment (kinds.Punct p) = is_assign_mark p
is_assignment _ = false

-- an operator before its operand (6.3.3)
abbrev pub is_prefix_mark : Punct → Bool
is_prefix_mark marks.Increment = true
is_prefix_mark marks.Decrement = true
is_prefix_mark marks.Ampersand = true
is_prefix_mark marks.Star = true
is_prefix_mark marks.Plus = true
is_prefix_mark marks.Minus = true
is_prefix_mark marks.Tilde = true
is_prefix_mark marks.Not = true
is_prefix_mark _ = false

abbrev pub is_prefix : TokKind → Bool
is_prefix (kinds.Punct p) = is_prefix_mark p
is_prefix _ = false

-- `++` and `--`
abbrev pub is_step_mark : Punct → Bool
is_step_mark marks.Increment = true
is_step_mark marks.Decrement = true
is_step_mark _ = false

abbrev pub is_step : TokKind → Bool
is_step (kinds.Punct p) = is_step_mark p
is_step _ = false

-- `.` and `->`
abbrev pub is_field_mark : Punct → Bool
is_field_mark marks.Dot = true
is_field_mark marks.Arrow = true
is_field_mark _ = false

abbrev pub is_field : TokKind → Bool
is_field (kinds.Punct p) = is_field_mark p
is_field _ = false

-- `const` and `volatile` (6.5.3)
abbrev pub is_qualifying : Keyword → Bool
is_qualifying words.Const = true
is_qualifying words.Volatile = true
is_qualifying _ = false

abbrev pub is_qualifier : TokKind → Bool
is_qualifier (kinds.Keyword w) = is_qualifying w
is_qualifier _ = false

-- a specifier of one word (6.5)
abbrev pub is_specifying : Keyword → Bool
is_specifying words.Typedef = true
is_specifying words.Static = true
is_specifying words.Auto = true
is_specifying words.Register = true
is_specifying words.Const = true
is_specifying words.Volatile = true
is_specifying words.Interrupt = true
is_specifying words.Void = true
is_specifying words.Char = true
is_specifying words.Short = true
is_specifying words.Int = true
is_specifying words.Long = true
is_specifying words.Signed = true
is_specifying words.Unsigned = true
is_specifying _ = false

abbrev pub is_spec_word : TokKind → Bool
is_spec_word (kinds.Keyword w) = is_specifying w
is_spec_word _ = false

-- what a specifier begins with
abbrev pub begins_spec : Keyword → Bool
begins_spec words.Struct = true
begins_spec words.Enum = true
begins_spec w = is_specifying w

abbrev pub is_spec : TokKind → Bool
is_spec (kinds.Keyword w) = begins_spec w
is_spec kinds.TypeName = true
is_spec _ = false

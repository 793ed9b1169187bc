-- The classes of bytes of a source text (ISO/IEC 9899:1990, 5.2.1), in the ASCII code.
use Rattle.std.specs.Prelude.{ℕ, ◌-◌, Bool, ◌&&◌, ◌||◌, ◌==◌, nat_le, nat_lt, not, if◌then◌else◌}

-- space, and tab, line feed, vertical tab, form feed and carriage return
abbrev pub is_blank : ℕ → Bool
is_blank b = (b == 32) || (nat_le 9 b && nat_le b 13)

abbrev pub is_decimal : ℕ → Bool
is_decimal b = nat_le 48 b && nat_le b 57

-- a letter or an underscore
abbrev pub begins_name : ℕ → Bool
begins_name b = (nat_le 65 b && nat_le b 90) || (nat_le 97 b && nat_le b 122) || (b == 95)

abbrev pub is_name_byte : ℕ → Bool
is_name_byte b = begins_name b || is_decimal b

-- what may not follow a number without being a part of it: a name's byte or a full stop
abbrev pub is_number_byte : ℕ → Bool
is_number_byte b = is_name_byte b || (b == 46)

-- what a digit of a base up to 16 stands for, and 16 for any other byte
abbrev pub digit_value : ℕ → ℕ
digit_value b =
    if is_decimal b then b - 48
    else if nat_le 97 b && nat_le b 102 then b - 87
    else if nat_le 65 b && nat_le b 70 then b - 55
    else 16

abbrev pub is_digit : ℕ → ℕ → Bool
is_digit base b = nat_lt (digit_value b) base

-- what a character constant or a string in these quotes shows as it is: a printed character other
-- than the backslash and the quote
abbrev pub is_plain : ℕ → ℕ → Bool
is_plain quote b = nat_le 32 b && nat_le b 126 && not (b == 92) && not (b == quote)

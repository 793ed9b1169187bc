-- Numbers below 1000 in decimal.
use Rattle.std.specs.Prelude.{ℕ, ◌+◌, ◌/◌, ◌%◌, nat_lt, List, [], ◌∷◌, if◌then◌else◌}

abbrev pub digit : ℕ → ℕ
digit d = 48 + d

-- without leading zeros
abbrev pub number_text : ℕ → List ℕ
number_text n =
    if nat_lt n 10 then digit n ∷ [] else
    if nat_lt n 100 then digit (n / 10) ∷ digit (n % 10) ∷ [] else
    digit (n / 100) ∷ digit (n / 10 % 10) ∷ digit (n % 10) ∷ []

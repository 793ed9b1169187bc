-- The labels of a switch, each as the number of statements of the body that stand before it (ISO/IEC 9899:1990, 6.6.1).
use Rattle.std.specs.Prelude.{ℕ, ◌+◌, Bool, not, ◌&&◌, List, [], ◌∷◌, ◌++◌, Option, map, nat_eq, nat_lt, option_to_list, if◌then◌else◌}
use Rattle.std.specs.List.{list_any}
use Rattle.c_typed.specs.declared.statement.TCase.{TCase}

abbrev pub target_of : TCase → ℕ
target_of case = case.target

-- those of its cases, and that of `default`
abbrev pub labels_of : List TCase → Option ℕ → List ℕ
labels_of cases default = map target_of cases ++ option_to_list default

abbrev pub has : List ℕ → ℕ → Bool
has labels n = list_any (λ label. nat_eq label n) labels

-- whether a label counts, with these behind it: it stands before so many statements, and not here again
abbrev pub counts : List ℕ → ℕ → ℕ → Bool
counts labels label n = nat_lt label n && not (has labels label)

-- How many different labels stand before this one. A segment goes from one label to the next, so this is the number of
-- the segment that begins here.
abbrev pub segments_before : ℕ → List ℕ → ℕ
segments_before n [] = 0
segments_before n (label ∷ labels) = (if counts labels label n then 1 else 0) + segments_before n labels

-- Functions, and static objects, whose numbers are of their types, as lists.
use Rattle.std.specs.Prelude.{List, [], ◌∷◌}
use Rattle.c_typed.specs.Trees.{FunctionTree, StaticTree}
use Rattle.src_rules.specs.Numbers.{StatementsHaveNumbers, InitialsHaveNumbers}

abbrev pub FunctionsHaveNumbers : List FunctionTree → Type 0
FunctionsHaveNumbers [] = Unit {0}
FunctionsHaveNumbers (f ∷ fs) = StatementsHaveNumbers f.body × FunctionsHaveNumbers fs

abbrev pub StaticsHaveNumbers : List StaticTree → Type 0
StaticsHaveNumbers [] = Unit {0}
StaticsHaveNumbers (s ∷ ss) = InitialsHaveNumbers s.initial × StaticsHaveNumbers ss

-- The text of a program that is generated, and the comment behind it: its sizes. The form is the project's own.
use Rattle.std.specs.Prelude.{ℕ, ◌+◌, ◌*◌, ◌<◌, ◌≤◌, List, [], ◌∷◌, ◌++◌, codes, decimal}
use Rattle.generated_laws.specs.Generated.{generated}
use Rattle.generated_laws.specs.Sizes.{AreSizes}
use Rattle.picc_core.specs.Decided.{IsAcceptedText}

abbrev pub summary_line : ℕ → ℕ → ℕ → ℕ → List ℕ
summary_line functions words ram depth =
    (codes "/* gen " ++ decimal functions) ++ (codes ": words " ++ decimal words) ++ (codes " ram " ++ decimal ram) ++ (codes " depth " ++ decimal depth)
    ++ (codes " */" ++ 10 ∷ [])

-- The program, and behind it its stated words, how many addresses its object and frames cover, and the words of the return stack that its
-- calls take.
abbrev pub generated_text : ℕ → List ℕ
generated_text functions = generated functions ++ summary_line functions (132 + 92 * functions) 14 1

-- how many functions a program may have
abbrev pub IsSize : ℕ → Type 0
IsSize functions = (0 < functions) × (functions ≤ 64)

-- The program is accepted, and what is printed behind it are its sizes.
pub record GenerationTells (functions : ℕ) : Type 0 where
  pub accepted : IsAcceptedText (generated functions)
  pub sizes : AreSizes (generated functions) (132 + 92 * functions) 14 1

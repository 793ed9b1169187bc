-- How the loops of a switch are made, from the comparisons out, while its statements are gone through.
use Rattle.std.specs.Prelude.{ℕ, nat_eq, Bool, if◌then◌else◌, List, [], ◌∷◌, ◌++◌}
use Rattle.core_code.specs.Tree as core
use Rattle.core_code.specs.Tree.{Tree, many}

-- What stands in a loop: a segment, where one has begun, ends by leaving it.
abbrev pub ended : ℕ → List Tree → List Tree
ended begun code = if nat_eq begun 0 then code else (code ++ core.Exit 0 ∷ [])

abbrev pub closed : ℕ → List Tree → List Tree
closed begun code = core.Loop (many (ended begun code)) ∷ []

-- The code behind which the next statement stands: where a segment begins, the loop of what there is.
abbrev pub opened : Bool → ℕ → List Tree → List Tree
opened begins begun code = if begins then closed begun code else code

-- Statements before the first label are never reached.
abbrev pub reached : ℕ → List Tree → List Tree
reached begun code = if nat_eq begun 0 then [] else code

-- The size of a typed program: its nodes, static objects, parameters and locals together.
use Rattle.std.specs.Prelude.{ℕ, ◌+◌, List, [], ◌∷◌, length}
use Rattle.c_typed.specs.TreeNodes.{nodes_of}
use Rattle.c_typed.specs.Trees.{FunctionTree, Program}

-- the parameters and locals of functions
abbrev pub variables_in : List FunctionTree → ℕ
variables_in [] = 0
variables_in (f ∷ fs) = length f.params + length f.locals + variables_in fs

abbrev pub size_of : Program → ℕ
size_of p = nodes_of p + length p.statics + variables_in p.functions

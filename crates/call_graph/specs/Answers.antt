-- What the answers of `copies` say of a program. Want of memory is free.
use Rattle.std.specs.Prelude.{◌≡◌, ℕ, ◌<◌, ◌≤◌, List, Option, Some, None, Result, Ok, Err, length}
use Rattle.c_typed.specs.Chains.{graph_of}
use Rattle.c_typed.specs.Trees.{Program}
use Rattle.c_typed.specs.declared.program.RootKind.{RootKind}
use Rattle.call_graph.specs.Copies.{HasDepth, HasDepthBy, name_at}
use Rattle.call_graph.specs.Levels.{IsAcyclic, IsFirstRecursive}
use Rattle.call_graph.specs.declared.types.Copies.{Copies}
use Rattle.call_graph.specs.declared.types.GraphError.{GraphError}
use Rattle.call_graph.specs.declared.types.GraphError.TheVariants.{NoMemory, Roots, Recursion, Depth}

-- A broken rule on the roots is told exactly where it is the first one.
abbrev pub TellsRoots : Result Copies GraphError → Option RootKind → Type 0
TellsRoots (Ok copies) broken = broken ≡ None
TellsRoots (Err NoMemory) broken = Unit {0}
TellsRoots (Err (Roots kind)) broken = broken ≡ Some kind
TellsRoots (Err (Recursion function)) broken = broken ≡ None
TellsRoots (Err (Depth depth)) broken = broken ≡ None

-- Where no rule on the roots is broken, the first function that reaches itself is told by its name, exactly where there is
-- one.
abbrev pub TellsRecursion : Program → Result Copies GraphError → Type 0
TellsRecursion p (Ok copies) = IsAcyclic (graph_of p)
TellsRecursion p (Err NoMemory) = Unit {0}
TellsRecursion p (Err (Roots kind)) = Unit {0}
TellsRecursion p (Err (Recursion function)) = (f : ℕ) × (f < length p.functions) × IsFirstRecursive (graph_of p) f × (function.items ≡ name_at p f)
TellsRecursion p (Err (Depth depth)) = IsAcyclic (graph_of p)

-- Where nothing reaches itself, the depth is told, and refused exactly where it is over the eight words of the return
-- stack.
abbrev pub TellsDepth : Program → Result Copies GraphError → Type 0
TellsDepth p (Ok copies) = HasDepth p copies.depth × (copies.depth ≤ 8)
TellsDepth p (Err NoMemory) = Unit {0}
TellsDepth p (Err (Roots kind)) = Unit {0}
TellsDepth p (Err (Recursion function)) = Unit {0}
TellsDepth p (Err (Depth depth)) = HasDepth p depth × (8 < depth)

-- the same where each of these functions calls one more leaf
abbrev pub TellsDepthBy : Program → List ℕ → Result Copies GraphError → Type 0
TellsDepthBy p deeper (Ok copies) = HasDepthBy p deeper copies.depth × (copies.depth ≤ 8)
TellsDepthBy p deeper (Err NoMemory) = Unit {0}
TellsDepthBy p deeper (Err (Roots kind)) = Unit {0}
TellsDepthBy p deeper (Err (Recursion function)) = Unit {0}
TellsDepthBy p deeper (Err (Depth depth)) = HasDepthBy p deeper depth × (8 < depth)

-- The stack has at most an entry for each node and two for each function, once for each root.
use Rattle.std.proofs.Common.{◌≡◌, ℕ, ◌+◌, List, [], ◌∷◌, length, refl, arith}
use Rattle.c_typed.specs.TreeNodes.{functions_nodes}
use Rattle.c_typed.specs.Trees.{FunctionTree}
use Rattle.src_rules.proofs.Bounds.{whole, stack_bound, moment_fits}
use Rattle.src_rules.proofs.Moments.{moments}
use Rattle.src_rules.proofs.Rooms.{node_sizes, by_nodes, FocusSized, Sized}
use Rattle.src_rules.proofs.Roomy.{node_laws, nodes_count}
use Rattle.src_rules.specs.Laws.{IsProper, IsOfBytes, StackIsShort}
use Rattle.src_rules.specs.Runs.{moment}
use Rattle.src_values.specs.Memory.{Setting}

pub moment_sized : (s : Setting) → IsProper s.program → IsOfBytes s.outside → (n : ℕ) → FocusSized s.program (moment s n).copy (moment s n).focus (moment s n).stack × Sized s.program (moment s n).copy (moment s n).stack
moment_sized s h o n = moment_fits s (λ c. by_nodes) (λ c. node_laws) h o n

whole_nodes : (fs : List FunctionTree) → whole node_sizes fs ≡ functions_nodes fs + length fs
whole_nodes [] = refl
whole_nodes (f ∷ fs) = let i = whole_nodes fs in omega arith

pub short : StackIsShort
short s h o acyclic n =
    let a = stack_bound s.program by_nodes nodes_count acyclic (moment s n) (moments s h o n).0 (moment_sized s h o n).1 in
    let e = whole_nodes s.program.functions in
    omega arith

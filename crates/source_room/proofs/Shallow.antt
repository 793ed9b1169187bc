-- The stack is within what the longest ways through the functions' bodies need, once for each root.
use Rattle.std.proofs.Common.{◌≡◌, ℕ, List, [], ◌∷◌, refl, arith}
use Rattle.c_typed.specs.Trees.{FunctionTree}
use Rattle.source_room.proofs.Rooms.{depth_sizes, by_depth, Sized}
use Rattle.source_room.proofs.Roomy.{depth_laws, depths_count}
use Rattle.source_room.specs.Depth.{functions_depth}
use Rattle.source_room.specs.Laws.{StackIsShallow}
use Rattle.src_rules.proofs.Bounds.{whole, stack_bound, moment_fits}
use Rattle.src_rules.proofs.Moments.{moments}
use Rattle.src_rules.specs.Laws.{IsProper, IsOfBytes}
use Rattle.src_rules.specs.Runs.{moment}
use Rattle.src_values.specs.Memory.{Setting}

pub moment_sized : (s : Setting) → IsProper s.program → IsOfBytes s.outside → (n : ℕ) → Sized s.program (moment s n).copy (moment s n).stack
moment_sized s h o n = (moment_fits s (λ c. by_depth) (λ c. depth_laws) h o n).1

whole_depths : (fs : List FunctionTree) → whole depth_sizes fs ≡ functions_depth fs
whole_depths [] = refl
whole_depths (f ∷ fs) = let i = whole_depths fs in omega arith

pub shallow : StackIsShallow
shallow s h o acyclic n =
    let a = stack_bound s.program by_depth depths_count acyclic (moment s n) (moments s h o n).0 (moment_sized s h o n) in
    let e = whole_depths s.program.functions in
    omega arith

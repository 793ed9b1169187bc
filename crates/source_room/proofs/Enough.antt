-- What suffices for each run of a program.
use Rattle.std.proofs.Common.{◌≡◌, ◌≤◌, ℕ, ◌+◌, ◌*◌, sym, subst}
use Rattle.c_typed.specs.Trees.{Program}
use Rattle.call_graph.specs.Copies.{HasDepth}
use Rattle.source_room.proofs.Chains.{within_depth}
use Rattle.source_room.proofs.Shallow.{shallow}
use Rattle.source_room.specs.Depth.{deepest_function, most_entries}
use Rattle.source_room.specs.Laws.{Suffices}
use Rattle.src_rules.specs.Laws.{entries}
use Rattle.src_rules.specs.Runs.{moment}

pub all_suffice : (p : Program) → Suffices p (most_entries p)
all_suffice p s e proper bytes acyclic n = subst (λ q. entries (moment s n).stack ≤ most_entries q) e (shallow s proper bytes acyclic n)

deepest_suffice : (p : Program) (depth : ℕ) → HasDepth p depth → Suffices p ((depth + 1) * deepest_function p)
deepest_suffice p depth h s e proper bytes acyclic n =
    subst (λ q. entries (moment s n).stack ≤ (depth + 1) * deepest_function q) e (within_depth s proper bytes depth (subst (λ q. HasDepth q depth) (sym e) h) n)

pub so_many_suffice : (p : Program) (depth deepest : ℕ) → HasDepth p depth → deepest ≡ deepest_function p → Suffices p ((depth + 1) * deepest)
so_many_suffice p depth deepest h e = subst (λ k. Suffices p ((depth + 1) * k)) (sym e) (deepest_suffice p depth h)

use Rattle.std.proofs.Common.{rules}
use Rattle.std.proofs.lemmas.List.Sorted.{IsNonDecreasingBy-from_sort_by_key}
use Rattle.program_code.specs.Order.{rank}
use Rattle.picc_core.proofs.code_order.code_order.Goals as goal

pub returns-clause-sorted : goal.returns-clause-sorted
returns-clause-sorted c = IsNonDecreasingBy-from_sort_by_key rank _ c.in_ok-sort_by_key.ensures.sorted (λ a r q k. search rules)

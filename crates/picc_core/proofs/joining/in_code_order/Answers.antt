use Rattle.std.proofs.Common.{rules}
use Rattle.std.proofs.lemmas.List.Sorted.{IsNonDecreasingBy-from_sort_by_key}
use Rattle.program_code.specs.Order.{block_rank}
use Rattle.picc_core.proofs.joining.in_code_order.Goals as goal

pub returns-clause-sorted : goal.returns-clause-sorted
returns-clause-sorted c = IsNonDecreasingBy-from_sort_by_key (block_rank c.args.copies.now.list.items) _ c.in_ok-sort_by_key.ensures.sorted (λ a r q k. search rules)

use Rattle.std.proofs.Common.{rules, of_calls, ◌≤◌, ◌<◌, length, arith}
use Rattle.std.proofs.lemmas.List.Sorted.{IsNonDecreasingBy-from_sort_by_key}
use Rattle.pic_world.specs.declared.Arrival.{Arrival}
use Rattle.pic_world.proofs.Risings.{rising_from, any_order}
use Rattle.pic_world.proofs.script.Script.new.Goals as goal

pub invariant_of-result : goal.invariant_of-result
invariant_of-result c =
    let sorted = c.sort_unstable_by_key.new.self.items in
    let up = IsNonDecreasingBy-from_sort_by_key (λ (a : Arrival). a.t) sorted c.sort_unstable_by_key.ensures.sorted (λ a r q k. search (rules, of_calls)) in
    record { rising = rising_from 0 sorted (λ d l. omega arith) up }

pub returns-clause-arrivals : goal.returns-clause-arrivals
returns-clause-arrivals c = any_order c.args.arrivals.items c.sort_unstable_by_key.new.self.items c.sort_unstable_by_key.ensures.permutation

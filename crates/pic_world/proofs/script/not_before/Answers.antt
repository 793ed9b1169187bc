use Rattle.std.proofs.Common.{rules, of_calls, ◌≡◌, ◌<◌, ◌≤◌, ◌-◌, ℕ, nat_lt, true, false, length, take, take_all, drop, slice_index_or, sym, subst, ap, ◌∙◌, arith}
use Rattle.std.specs.List.Sorted.{IsPartitionPoint}
use Rattle.std.proofs.lemmas.List.Sorted.{IsPartitionPoint-from_clause, IsPartitionedBy-ltb}
use Rattle.std.proofs.lemmas.Bool.{ltb-true, ltb-false}
use Rattle.pic_world.specs.declared.Arrival.{Arrival}
use Rattle.pic_world.specs.Arrivals.{IsRising}
use Rattle.pic_world.specs.Arrivals.{arriving}
use Rattle.pic_world.proofs.Risings.{rising_far, rising_drop, earlier_arriving, length_rest}
use Rattle.pic_world.proofs.script.not_before.Goals as goal

pub returns-clause-rising : goal.returns-clause-rising
returns-clause-rising c =
    let xs = c.args.arrivals.now in
    let k = c.partition_point-first.result in
    let t = c.args.index in
    let parted = IsPartitionedBy-ltb (λ (a : Arrival). a.t) xs t (rising_far 0 xs c.requires) in
    let point = IsPartitionPoint-from_clause (λ (a : Arrival). nat_lt a.t t) xs k c.partition_point-first.ensures.partitioned parted (λ a r f k. search (rules, of_calls)) in
    subst (IsRising t) (sym (take_all (length xs - k) (drop k xs) (length_rest xs k)))
    (rising_drop k 0 t xs c.requires (λ d l. ltb-false (slice_index_or xs k d).t t (point.1 k d (omega arith) l)))

pub returns-clause-arriving : goal.returns-clause-arriving
returns-clause-arriving c =
    let xs = c.args.arrivals.now in
    let k = c.partition_point-first.result in
    let t = c.args.index in
    let parted = IsPartitionedBy-ltb (λ (a : Arrival). a.t) xs t (rising_far 0 xs c.requires) in
    let point = IsPartitionPoint-from_clause (λ (a : Arrival). nat_lt a.t t) xs k c.partition_point-first.ensures.partitioned parted (λ a r f k. search (rules, of_calls)) in
    ap (λ ys. arriving ys t) (take_all (length xs - k) (drop k xs) (length_rest xs k))
    ∙ earlier_arriving k t xs c.partition_point-first.ensures.bound (λ i d l. ltb-true (slice_index_or xs i d).t t (point.0 i d (omega arith) l))

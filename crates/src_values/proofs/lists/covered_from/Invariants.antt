use Rattle.std.proofs.Common.{◌≡◌, ◌+◌, ◌-◌, ◌≤◌, map}
use Rattle.c_typed.specs.Views.{program_of, item_of}
use Rattle.src_values.specs.Lists.{covered_from}
use Rattle.src_values.proofs.lists.covered_from.Given as goal

abbrev pub invariant-loop-count : goal.invariant-loop-count
invariant-loop-count l =
    let sizes = (program_of l.program).sizes in
    let all = map item_of l.items in
    (l.count ≤ l.left) × (covered_from sizes all (l.at + l.count) (l.left - l.count) + l.count ≡ covered_from sizes all l.at l.left)

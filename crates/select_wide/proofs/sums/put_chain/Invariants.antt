use Rattle.std.proofs.Common.{◌≡◌, ◌++◌}
use Rattle.select_wide.specs.Sums.{chain_code}
use Rattle.select_wide.proofs.sums.put_chain.Given as goal

abbrev pub invariant-loop-k : goal.invariant-loop-k
invariant-loop-k l = record { put : l.out.list.items ≡ l.initial.out.list.items ++ chain_code l.chain l.to l.left l.right l.k; name : l.out.name ≡ l.initial.out.name }

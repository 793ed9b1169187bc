use Rattle.std.proofs.Common.{◌≡◌, length}
use Rattle.bank_page.specs.Ready.{are_ready}
use Rattle.bank_page.proofs.ready.is_ready.Given as goal

abbrev pub invariant-loop-rest : goal.invariant-loop-rest
invariant-loop-rest l = are_ready l.placed l.list ≡ are_ready l.placed l.rest

abbrev pub decreases-loop-rest : goal.decreases-loop-rest
decreases-loop-rest l = length l.rest

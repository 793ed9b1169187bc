use Rattle.std.proofs.Common.{◌≡◌, true, length}
use Rattle.sym_code.specs.WellFormed.{are_well_formed}
use Rattle.bank_page.specs.Ready.{are_ready}
use Rattle.bank_page.proofs.Fronts.{Exact}
use Rattle.bank_page.proofs.Sizes.{Few}
use Rattle.bank_page.proofs.Steps.{Made}
use Rattle.bank_page.proofs.selecting.put_selected.Given as goal

abbrev pub invariant-loop-rest : goal.invariant-loop-rest
invariant-loop-rest l = (are_well_formed l.rest ≡ true) × (are_ready l.placed l.rest ≡ true) × (l.out.name ≡ l.fn.out.name) × Made l.placed l.fn.out.name l.list l.out.list.items l.state l.rest × Few l.list l.out.list.items l.state l.rest × Exact l.placed l.fn.out.name l.list l.out.list.items l.state l.rest

abbrev pub decreases-loop-rest : goal.decreases-loop-rest
decreases-loop-rest l = length l.rest

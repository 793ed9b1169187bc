use Rattle.std.proofs.Common.{length}
use Rattle.bank_page.proofs.needs.+needs_in.Given as goal

abbrev pub decreases-needs_in : goal.decreases-needs_in
decreases-needs_in l = length l.list.now

use Rattle.std.proofs.Common.{◌≡◌, true, sym, subst, arith}
use Rattle.depth_check.specs.Valid.{is_rising}
use Rattle.depth_check.proofs.Entries.{rows_rise}
use Rattle.depth_check.proofs.finish.certificate.Goals as goal

pub returns-clause-rising : goal.returns-clause-rising
returns-clause-rising c = subst (λ z. is_rising 0 z ≡ true) (sym c.in_ok-rows.ensures) (rows_rise _ 0 c.args.s.now.spots.items (let e = c.requires.spots in omega (arith, e)))

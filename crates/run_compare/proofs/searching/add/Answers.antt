use Rattle.run_compare.proofs.Arrived.{same_arriving_now}
use Rattle.run_compare.proofs.searching.add.Goals as goal

pub returns-clause-same : goal.returns-clause-same
returns-clause-same c = λ unchanged t.
    same_arriving_now c.args.script.now.arrivals.items _ c.args.arrival c.mask_at-before.result c.mask_at.result c.in_ok-push.ensures.items c.mask_at-before.ensures.value c.mask_at.ensures.value unchanged t

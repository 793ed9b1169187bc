use Rattle.depth_check.specs.Search.{tables}
use Rattle.depth_check.proofs.Settling.{still_search, not_over, fewer}
use Rattle.depth_check.proofs.search.found.Goals as goal

pub loop-s-init : goal.loop-s-init
loop-s-init c = (c.in_ok-s.ensures.search c.args.image.now, not_over c.args.image.now (tables c.in_ok-s.s) c.in_ok-s.ensures.changed)

pub loop-s-preserved : goal.loop-s-preserved
loop-s-preserved c = (still_search c.args.image.now c.args.interrupts c.args.cell (tables c.loop-s.s) (tables c.pass.new.s) c.loop-s.invariant.0 c.pass.ensures.goes, c.pass.ensures.over)

pub loop-s-smaller : goal.loop-s-smaller
loop-s-smaller c = fewer c.args.image.now (tables c.loop-s.s) (tables c.pass.new.s) c.loop-s-test.true c.pass.ensures.goes

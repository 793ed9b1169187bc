use Rattle.depth_check.specs.Search.{tables, unchanged}
use Rattle.depth_check.proofs.Settling.{begun, went, went_on}
use Rattle.depth_check.proofs.search.pass.Goals as goal

pub loop-at-init : goal.loop-at-init
loop-at-init c = went_on c.args.image.now (unchanged (tables c.args.s.now)) (tables c.with_roots.new.self) (tables c.chase.new.s) 0
    (begun c.args.image.now (unchanged (tables c.args.s.now)) (tables c.with_roots.new.self) c.with_roots.ensures) c.chase.ensures

pub loop-at-preserved : goal.loop-at-preserved
loop-at-preserved c = went c.args.image.now (unchanged (tables c.args.s.now)) (tables c.loop-at.s) (tables c.step.new.self) c.loop-at.at c.loop-at.invariant c.step.ensures

pub returns-clause-goes : goal.returns-clause-goes
returns-clause-goes c = c.loop-at.invariant.0

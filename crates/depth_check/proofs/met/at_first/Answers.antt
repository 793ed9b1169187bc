use Rattle.std.proofs.Common.{subst}
use Rattle.depth_check.specs.Certificate.{seen}
use Rattle.depth_check.specs.Marks.{Meets}
use Rattle.depth_check.proofs.Trail.{begun}
use Rattle.depth_check.proofs.met.at_first.Goals as goal

pub returns : goal.returns
returns c = λ image. begun image (seen c.args.h.now) c.nothing-met.result c.meet.new.self c.meet-2.new.self c.nothing-met.ensures.none c.meet.ensures
    (subst (Meets c.meet.new.self c.meet-2.new.self) c.handler_place.ensures c.meet-2.ensures)

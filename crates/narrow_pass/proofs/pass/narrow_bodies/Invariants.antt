use Rattle.std.proofs.Common.{take}
use Rattle.std.specs.List.{AllZip}
use Rattle.narrow_pass.specs.Kept.{IsDone}
use Rattle.narrow_pass.specs.Narrowed.{lent_by}
use Rattle.narrow_pass.proofs.pass.narrow_bodies.Given as goal

abbrev pub invariant-loop-body : goal.invariant-loop-body
invariant-loop-body l = AllZip (IsDone l.alone (lent_by l.lent)) (take l.body-index l.given) l.bodies.items

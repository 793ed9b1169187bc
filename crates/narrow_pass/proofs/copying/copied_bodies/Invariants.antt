use Rattle.std.proofs.Common.{take}
use Rattle.std.specs.List.{AllZip}
use Rattle.narrow_pass.specs.Narrowed.{IsSameBody}
use Rattle.narrow_pass.proofs.copying.copied_bodies.Given as goal

abbrev pub invariant-loop-body : goal.invariant-loop-body
invariant-loop-body l = AllZip IsSameBody (take l.body-index l.given) l.bodies.items

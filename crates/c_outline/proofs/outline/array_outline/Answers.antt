use Rattle.std.proofs.Common.{ap}
use Rattle.c_outline.specs.Views.{declared_of}
use Rattle.c_outline.proofs.outline.array_outline.Goals as goal

pub returns-in-Object : goal.returns-in-Object
returns-in-Object c known = rw c.in-Object.is (rw c.in-Object.is at (c.array_or_part.ensures known (ap declared_of c.in-Object.is)))

use Rattle.std.proofs.Common.{subst, sym}
use Rattle.hex_image.specs.Marks.{AreMarks}
use Rattle.hex_image.proofs.Marking.{no_marks}
use Rattle.hex_image.proofs.given.Given.nothing.Goals as goal

pub invariant_of-result : goal.invariant_of-result
invariant_of-result c =
    subst (λ items. AreMarks items c.in_ok-marks.marks.items) (sym c.new.ensures.items) (no_marks c.in_ok-marks.marks.items c.in_ok-marks.ensures)

use Rattle.std.proofs.Common.{refl, ◌∙◌}
use Rattle.c_terms.proofs.operation.equality.Goals as goal

pub returns : goal.returns
returns c = λ known. c.equality_by.ensures ∙ rw (c.point_alike-alike.ensures known, c.points_to_void-left_void.ensures known, c.points_to_void-right_void.ensures known) refl

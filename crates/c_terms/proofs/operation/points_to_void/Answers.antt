use Rattle.std.proofs.Common.{ap, ◌∙◌}
use Rattle.c_typed.specs.Sameness.{is_void}
use Rattle.c_terms.proofs.operation.points_to_void.Goals as goal

pub returns : goal.returns
returns c = λ known. c.is_void.ensures ∙ ap (λ q. is_void q.ty) (c.target.ensures known)

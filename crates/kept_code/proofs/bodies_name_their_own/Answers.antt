use Rattle.lower_stmt.specs.Frames.{ground_for}
use Rattle.kept_code.proofs.Bodies.{body_is}
use Rattle.kept_code.proofs.bodies_name_their_own.Goals as goal

pub returns : goal.returns
returns c = λ p copies number root f named lent names addresses. body_is named lent (ground_for p copies number root f) f (record { names = names; addresses = addresses })

use Rattle.depth_check.proofs.Threads.{small_total}
use Rattle.depth_check.proofs.Totals.{one_total}
use Rattle.depth_check.proofs.depth_is_one.Goals as goal

pub returns-clause-one : goal.returns-clause-one
returns-clause-one c = λ image first second. one_total image first second

pub returns-clause-most : goal.returns-clause-most
returns-clause-most c = λ image certificate valid. small_total image certificate valid

use Rattle.select_trace.proofs.Called.{helpers_answer}
use Rattle.select_trace.proofs.helpers.routines_answer.Goals as goal

pub returns : goal.returns
returns c = record { called = helpers_answer }

use Rattle.live_frames.proofs.FreeRuns.{none_taken}
use Rattle.live_frames.proofs.memory.Taken.none.Goals as goal

pub returns : goal.returns
returns c = λ a. none_taken 512 a

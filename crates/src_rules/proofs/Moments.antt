-- Each moment of a run stands.
use Rattle.std.proofs.Common.{ℕ, zero, suc}
use Rattle.src_rules.proofs.Starts.{sound_runs, start_stands}
use Rattle.src_rules.proofs.Stepping.{step_keeps}
use Rattle.src_rules.specs.Laws.{IsProper, IsOfBytes, StartStands, StepsKeep, MomentsStand}
use Rattle.src_rules.specs.Runs.{gone, run, moment}
use Rattle.src_rules.specs.Standing.{Keeps, Stands}
use Rattle.src_rules.specs.State.{State, Outcome, Went, Undefined, Idle, Lost}
use Rattle.src_rules.specs.Step.{start, step}
use Rattle.src_values.specs.Memory.{Setting}

pub starts : StartStands
starts s h = start_stands s h.sound h.roots h.numbers

pub steps : StepsKeep
steps s h o = step_keeps s (sound_runs s.program h.sound h.roots h.numbers) o

pub gone_stands : (s : Setting) (t : State) (out : Outcome) → Stands s.program t → Keeps s.program out → Stands s.program (gone t out)
gone_stands s t (Went u event) h k = k
gone_stands s t (Undefined kind line) h k = h
gone_stands s t Idle h k = h
gone_stands s t Lost h k = h

-- the state so many micro-steps behind one that stands
pub run_stands : (s : Setting) → IsProper s.program → IsOfBytes s.outside → (n : ℕ) (t : State) → Stands s.program t → Stands s.program (run s n t)
unfolding run
run_stands s h o zero t st = st
run_stands s h o (suc n) t st = let i = run_stands s h o n t st in gone_stands s (run s n t) (step s (run s n t)) i (steps s h o (run s n t) i)

pub moments : MomentsStand
moments s h o n = let i = run_stands s h o n (start s) (starts s h) in (i, steps s h o (moment s n) i)

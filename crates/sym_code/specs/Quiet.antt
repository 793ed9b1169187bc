-- Runs of one thread without an event: nothing of the world is asked, so main and the handler can be told apart.
use Rattle.std.specs.Prelude.{ℕ, zero, suc, ◌+◌, Bool, if◌then◌else◌, Option, Some, None}
use Rattle.sym_code.specs.Effect.{Setting, Thread, Memory, written, Effect, Quiet, effect}
use Rattle.sym_code.specs.Machine.{lands_at}
use Rattle.sym_code.specs.Programs.{Program, Position}
use Rattle.sym_code.specs.declared.code.BlockName.{BlockName}

-- a thread, and memory as it sees it
pub record Scene : Type 0 where
  pub thread : Thread
  pub memory : Memory

abbrev pub quiet_by : Program → Memory → Effect → Option Scene
quiet_by q m (Quiet th x) = if lands_at q th.at then Some (record { thread = th; memory = written x m }) else None
quiet_by q m effect = None

abbrev pub quiet_step : Setting → Bool → Scene → Option Scene
quiet_step g inside s = quiet_by g.program s.memory (effect g inside s.thread s.memory)

abbrev pub quiet_if : Setting → Bool → Option Scene → Option Scene
quiet_if g inside None = None
quiet_if g inside (Some s) = quiet_step g inside s

-- after so many steps; none where one of them is stuck or makes an event
unfoldable pub quiet_run : Setting → Bool → ℕ → Scene → Option Scene
quiet_run g inside zero s = Some s
quiet_run g inside (suc n) s = quiet_if g inside (quiet_run g inside n s)

abbrev pub price_at : (BlockName → ℕ → ℕ) → Option Position → ℕ
price_at price None = 0
price_at price (Some p) = price p.block p.index

abbrev pub price_if : (BlockName → ℕ → ℕ) → Option Scene → ℕ
price_if price None = 0
price_if price (Some s) = price_at price s.thread.at

-- what so many steps cost by the prices of their instructions
unfoldable pub quiet_cost : Setting → (BlockName → ℕ → ℕ) → Bool → ℕ → Scene → ℕ
quiet_cost g price inside zero s = 0
quiet_cost g price inside (suc n) s = quiet_cost g price inside n s + price_if price (quiet_run g inside n s)

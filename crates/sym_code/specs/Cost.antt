-- How many instructions of the chip the steps of symbolic code take, by the prices of its instructions and of what saves
-- and restores main's context.
use Rattle.std.specs.Prelude.{ℕ, zero, suc, ◌+◌, Bool, if◌then◌else◌, List, Option, Some, None, slice_get}
use Rattle.pic_world.specs.World.{Outside, is_due}
use Rattle.core_code.specs.Cost.{context_cost}
use Rattle.sym_code.specs.Effect.{Setting, Thread, Memory, Rest, Effect, Leaves, effect}
use Rattle.sym_code.specs.Machine.{Machine, Entry, running, settled, sym_run}
use Rattle.sym_code.specs.Programs.{Position}
use Rattle.sym_code.specs.declared.code.BlockName.{BlockName}
use Rattle.sym_code.specs.declared.code.Sym.{Sym}
use Rattle.sym_code.specs.declared.code.Sym.TheVariants.{Table}

-- Of one instruction: a read of a table is the call of the words that read it, and at most eleven of these.
abbrev pub time_of : Sym → ℕ
time_of (Table table root) = 12
time_of _ = 1

abbrev pub time_at : Option Sym → ℕ
time_at None = 1
time_at (Some s) = time_of s

-- of the instruction of a number in a block of such code
abbrev pub times_in : (BlockName → List Sym) → BlockName → ℕ → ℕ
times_in block name n = time_at (slice_get (block name) n)

pub record Prices : Type 0 where
  -- of the instruction of this number in a block
  pub word : BlockName → ℕ → ℕ
  pub enter : ℕ
  -- besides the jump with which the handler ends
  pub leave : ℕ

-- at least: an instruction is one, and an entry takes one
abbrev pub least_prices : Prices
least_prices = record { word = λ block index. 1; enter = 1; leave = 0 }

-- at least, where of each instruction is given how much of it surely stays
abbrev pub sure_prices : (BlockName → ℕ → ℕ) → Prices
sure_prices sure = record { word = sure; enter = 1; leave = 0 }

-- At most: an instruction costs what is given for its place, which is more than one where selects will stand before it.
abbrev pub most_prices : (BlockName → ℕ → ℕ) → Prices
most_prices price = record { word = price; enter = context_cost; leave = context_cost }

-- a main that has ended costs nothing
abbrev pub instruction_cost : Prices → Option Position → Effect → ℕ
instruction_cost c None effect = 0
instruction_cost c (Some p) Leaves = c.word p.block p.index + c.leave
instruction_cost c (Some p) effect = c.word p.block p.index

-- an instruction of two events is paid at its first one
abbrev pub thread_cost : Setting → Prices → Bool → Thread → Memory → Option Rest → ℕ
thread_cost g c inside th m None = instruction_cost c th.at (effect g inside th m)
thread_cost g c inside th m (Some rest) = 0

abbrev pub step_cost_at : Setting → Prices → Machine → ℕ
step_cost_at g c t = if is_due t.world then c.enter else thread_cost g c t.world.inside (running t) t.memory (running t).rest

unfoldable pub step_cost : Setting → Prices → Outside → Machine → ℕ
step_cost g c o t = step_cost_at g c (settled o t)

-- of the first n steps from here together
unfoldable pub cost_by : Setting → Prices → Entry → Outside → ℕ → Machine → ℕ
cost_by g c e o zero t = 0
cost_by g c e o (suc n) t = cost_by g c e o n t + step_cost g c o (sym_run g e o n t)

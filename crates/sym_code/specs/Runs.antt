-- What can be said of a run of symbolic code at each moment, which is the point after so many of its steps.
use Rattle.std.specs.Prelude.{ℕ, Bool, true, false, List}
use Rattle.pic_world.specs.World.{Outside, Happening}
use Rattle.run_links.specs.Runs.{Run}
use Rattle.sym_code.specs.Cost.{least_prices, sure_prices, most_prices, cost_by}
use Rattle.sym_code.specs.Effect.{Setting}
use Rattle.sym_code.specs.Machine.{Machine, Entry, Next, Goes, Stops, Still, sym_step, sym_run}
use Rattle.sym_code.specs.declared.code.BlockName.{BlockName}

-- the events so far
abbrev pub sym_trace : Setting → Entry → Outside → Machine → ℕ → List (Happening ℕ)
sym_trace g e o t n = (sym_run g e o n t).world.trace

abbrev pub goes_on : Next → Bool
goes_on (Goes t) = true
goes_on Stops = false
goes_on Still = true

abbrev pub is_still : Next → Bool
is_still (Goes t) = false
is_still Stops = false
is_still Still = true

-- the step that begins there isn't stuck
abbrev pub sym_goes : Setting → Entry → Outside → Machine → ℕ → Bool
sym_goes g e o t n = goes_on (sym_step g e o (sym_run g e o n t))

-- main has ended, and no handler is due
abbrev pub sym_rests : Setting → Entry → Outside → Machine → ℕ → Bool
sym_rests g e o t n = is_still (sym_step g e o (sym_run g e o n t))

-- how many instructions of the chip the steps so far take, at most by these prices, and at least
abbrev pub sym_most : Setting → (BlockName → ℕ → ℕ) → Entry → Outside → Machine → ℕ → ℕ
sym_most g price e o t n = cost_by g (most_prices price) e o n t

abbrev pub sym_least : Setting → Entry → Outside → Machine → ℕ → ℕ
sym_least g e o t n = cost_by g least_prices e o n t

-- the run of symbolic code from here on
abbrev pub run_of : Setting → (BlockName → ℕ → ℕ) → Entry → Outside → Machine → Run (Happening ℕ)
run_of g price e o t =
    record { trace = sym_trace g e o t; goes = sym_goes g e o t; rests = sym_rests g e o t; most = sym_most g price e o t; least = sym_least g e o t }

-- The same run, of which only what surely stays counts, at least: so it is seen where a pass leaves instructions out.
abbrev pub weighed_of : Setting → (BlockName → ℕ → ℕ) → (BlockName → ℕ → ℕ) → Entry → Outside → Machine → Run (Happening ℕ)
weighed_of g price sure e o t =
    record { trace = sym_trace g e o t; goes = sym_goes g e o t; rests = sym_rests g e o t; most = sym_most g price e o t; least = λ n. cost_by g (sure_prices sure) e o n t }

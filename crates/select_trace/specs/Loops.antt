-- Loops whose rounds are counted by a byte: a round's code ends in a jump back, which the last round skips.
use Rattle.std.specs.Prelude.{◌≡◌, ℕ, zero, suc, List}
use Rattle.select_trace.specs.Run.{Sym, Machine, Going, Seeking, run}

abbrev pub again : Machine → Machine
again t = record t { mode = Going }

-- From t the code goes round exactly n + 1 times, and comes to u.
abbrev pub Loops : ℕ → List Sym → ℕ → Machine → Machine → Type 0
Loops label code zero t u = (u.mode ≡ Going) × (run code t ≡ u)
Loops label code (suc n) t u = ((run code t).mode ≡ Seeking label) × Loops label code n (again (run code t)) u

-- At lower prices a run costs less between any two moments, so it still follows what it followed.
use Rattle.std.proofs.Common.{ℕ, suc, ◌+◌, ◌≤◌, Bool, true, false, if◌then◌else◌, Option, Some, None, arith}
use Rattle.pic_world.specs.World.{Outside, Happening, is_due}
use Rattle.run_links.specs.Runs.{Run, Follows, IsSlow}
use Rattle.core_code.specs.Cost.{context_cost}
use Rattle.sym_code.specs.Cost.{most_prices, instruction_cost, thread_cost, step_cost_at, cost_by}
use Rattle.sym_code.specs.Effect.{Setting, Memory, Thread, Rest, Effect, Leaves, effect}
use Rattle.sym_code.specs.Machine.{Machine, Entry, running, settled, sym_run}
use Rattle.sym_code.specs.Programs.{Position}
use Rattle.sym_code.specs.Runs.{run_of}
use Rattle.sym_code.specs.declared.code.BlockName.{BlockName}
use Rattle.lean_code.proofs.Whole.{chain, cost_next}

module _ (g : Setting) (less more : BlockName → ℕ → ℕ) (cheaper : (name : BlockName) (n : ℕ) → less name n ≤ more name n) where
  by_effect : (p : Position) (effect : Effect) → instruction_cost (most_prices less) (Some p) effect ≤ instruction_cost (most_prices more) (Some p) effect
  by_effect p Leaves = let h = cheaper p.block p.index in omega arith
  by_effect p effect = cheaper p.block p.index

  by_position : (at : Option Position) (effect : Effect) → instruction_cost (most_prices less) at effect ≤ instruction_cost (most_prices more) at effect
  by_position None effect = omega arith
  by_position (Some p) effect = by_effect p effect

  by_thread : (inside : Bool) (th : Thread) (m : Memory) (rest : Option Rest) → thread_cost g (most_prices less) inside th m rest ≤ thread_cost g (most_prices more) inside th m rest
  by_thread inside th m None = by_position th.at (effect g inside th m)
  by_thread inside th m (Some rest) = omega arith

  by_due : (due : Bool) (a b : ℕ) → a ≤ b → (if due then context_cost else a) ≤ (if due then context_cost else b)
  by_due true a b l = omega arith
  by_due false a b l = l

  by_step : (t : Machine) → step_cost_at g (most_prices less) t ≤ step_cost_at g (most_prices more) t
  by_step t =
      by_due (is_due t.world) (thread_cost g (most_prices less) t.world.inside (running t) t.memory (running t).rest) (thread_cost g (most_prices more) t.world.inside (running t) t.memory (running t).rest)
      (by_thread t.world.inside (running t) t.memory (running t).rest)

  module _ (e : Entry) (o : Outside) (t : Machine) where
    abbrev few : ℕ → ℕ
    few i = cost_by g (most_prices less) e o i t

    abbrev all : ℕ → ℕ
    all i = cost_by g (most_prices more) e o i t

    on : (i j : ℕ) → few j + all i ≤ few i + all j → few (suc j) + all i ≤ few i + all (suc j)
    on i j before =
        let p = cost_next g e o t (most_prices less) j in
        let q = cost_next g e o t (most_prices more) j in
        let h = by_step (settled o (sym_run g e o j t)) in
        omega arith

    few_less : (n i j : ℕ) → i ≤ j → j ≤ n → few j + all i ≤ few i + all j
    few_less n = chain (λ i j. few j + all i ≤ few i + all j) n (λ i. omega arith) (λ i j l lt before. on i j before)

    abbrev follow : (a : Run (Happening ℕ)) (n : ℕ) → Follows (λ event. event) a (run_of g more e o t) n → Follows (λ event. event) a (run_of g less e o t) n
    follow a n link = record {
      at = link.at;
      starts = link.starts;
      rises = link.rises;
      goes = link.goes;
      same = link.same;
      fast = λ i j l m.
          let p = link.fast i j l m in
          let q = few_less (link.at j) (link.at i) (link.at j) (link.rises i j l m) (omega arith) in
          omega arith;
      rests = link.rests;
    }

    pub led_cheaper : (a : Run (Happening ℕ)) (n : ℕ)
        → (link : Follows (λ event. event) a (run_of g more e o t) n) × IsSlow (λ event. event) a (run_of g more e o t) n link
        → (link : Follows (λ event. event) a (run_of g less e o t) n) × IsSlow (λ event. event) a (run_of g less e o t) n link
    led_cheaper a n led = (follow a n led.0, led.1)

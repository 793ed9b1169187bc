-- What follows where only what surely stays counts.
use Rattle.std.proofs.Common.{◌≡◌, ℕ, zero, suc, ◌+◌, ◌<◌, ◌≤◌, Bool, true, false, if◌then◌else◌, List, [], ◌∷◌, drop, Option, Some, None, slice_get, refl, sym, ap, subst, arith}
use Rattle.std.proofs.lemmas.Option.{none-some}
use Rattle.pic_world.specs.World.{Outside, Happening, is_due}
use Rattle.run_links.specs.Runs.{Run, Goes, Follows, IsSlow}
use Rattle.sym_code.specs.Cost.{sure_prices, instruction_cost, thread_cost, step_cost_at, cost_by}
use Rattle.sym_code.specs.Effect.{Setting, Memory, Thread, Rest, Effect, Leaves, effect}
use Rattle.sym_code.specs.Machine.{Machine, Entry, running, settled, sym_run, sym_start}
use Rattle.sym_code.specs.Programs.{Position}
use Rattle.sym_code.specs.Registers.{Registers}
use Rattle.sym_code.specs.Runs.{run_of}
use Rattle.sym_code.specs.declared.code.BlockName.{BlockName}
use Rattle.sym_code.specs.declared.code.Sym.TheVariants as syms
use Rattle.lean_code.specs.Links.{IsOpen, counts, staying, stays_of, IsCheaper}
use Rattle.lean_code.specs.Right.{IsSound}
use Rattle.lean_code.specs.Rows.{Note, Row, At, olds, has_note, is_reached, note_ahead, Lean, old_program, new_program, old_setting, new_setting}
use Rattle.lean_code.specs.Weighed.{IsSure, LeanWeighed}
use Rattle.lean_code.proofs.Lists.{settle}
use Rattle.lean_code.proofs.Machines.{runs, Together}
use Rattle.lean_code.proofs.Relation.{some_in, IsAt}
use Rattle.lean_code.proofs.Whole.{chain, cost_next, place, sim_at, lean_keeps}

-- ---- a run with other least costs
abbrev light : Run (Happening ℕ) → (ℕ → ℕ) → Run (Happening ℕ)
light a least = record a { least = least }

abbrev light_follows : (a b : Run (Happening ℕ)) (least : ℕ → ℕ) (n : ℕ) → Follows (λ event. event) a b n → Follows (λ event. event) (light a least) b n
light_follows a b least n link = record { at = link.at; starts = link.starts; rises = link.rises; goes = link.goes; same = link.same; fast = link.fast; rests = link.rests }

light_slow : (a b : Run (Happening ℕ)) (least : ℕ → ℕ) (n : ℕ) (link : Follows (λ event. event) a b n) → ((i j : ℕ) → i ≤ j → j ≤ n → least j + a.least i ≤ least i + a.least j)
    → IsSlow (λ event. event) a b n link → IsSlow (λ event. event) (light a least) b n (light_follows a b least n link)
light_slow a b least n link less slow i j l m =
    let p = less i j l m in
    let q = slow i j l m in
    omega arith

-- ---- costs
-- a row that stands in a list where something comes
abbrev IsCome : List Row → ℕ → Type 0
IsCome rows j = (row : Row) × (slice_get rows j ≡ Some row) × (is_reached row ≡ true)

same_said : (a : Option Note) (n : Note) → Some a ≡ Some (Some n) → has_note a ≡ true
same_said a n e = ap has_note (some_in a (Some n) e)

come : (rows : List Row) (j : ℕ) (n : Note) → settle (olds rows) j ≡ j → note_ahead (drop j rows) ≡ Some (Some n) → IsCome rows j
come [] zero n at e = absurd (none-some (Some n) e)
come [] (suc j) n at e = absurd (none-some (Some n) e)
come (At (syms.Label label) act said ∷ rows) zero n at e = absurd (omega arith)
come (At s act said ∷ rows) zero n at e = (At s act said, refl, same_said said n e)
come (row ∷ rows) (suc j) n at e = come rows j n (omega arith) e

-- so it does where a thread stands
abbrev Stands : Lean → Option Position → Type 0
Stands x None = Unit {0}
Stands x (Some p) = IsCome (x.rows p.block) p.index

stands_there : (x : Lean) (home : BlockName) (n : Note) (at new_at : Option Position) → IsAt x home n at new_at → Stands x at
stands_there x home n None new_at is = tt
stands_there x home n (Some p) new_at is = come (x.rows p.block) p.index n is.0.settled is.0.note

running_there : (x : Lean) (u v : Machine) → Together x u v → Stands x (running u).at
running_there x u v t =
    subst (λ (c : Bool). Stands x (runs c u).at) (sym t.is) (stands_there x t.ready.home t.ready.note (runs t.inside u).at (runs t.inside v).at t.ready.tied.at)

module _ (x : Lean) (sure : BlockName → ℕ → ℕ) (is_sure : IsSure x sure) where
  abbrev g : Setting
  g = old_setting x

  by_row : (p : Position) → IsCome (x.rows p.block) p.index → sure p.block p.index ≤ counts (slice_get (x.rows p.block) p.index)
  by_row p h = subst (λ (o : Option Row). sure p.block p.index ≤ counts o) (sym h.1) (is_sure p.block p.index h.0 h.1 h.2)

  by_effect : (p : Position) → IsCome (x.rows p.block) p.index → (effect : Effect) → instruction_cost (sure_prices sure) (Some p) effect ≤ instruction_cost (staying x) (Some p) effect
  by_effect p there Leaves = let h = by_row p there in omega arith
  by_effect p there effect = by_row p there

  by_position : (at : Option Position) → Stands x at → (effect : Effect) → instruction_cost (sure_prices sure) at effect ≤ instruction_cost (staying x) at effect
  by_position None there effect = omega arith
  by_position (Some p) there effect = by_effect p there effect

  by_thread : (inside : Bool) (th : Thread) (m : Memory) (rest : Option Rest) → Stands x th.at → thread_cost g (sure_prices sure) inside th m rest ≤ thread_cost g (staying x) inside th m rest
  by_thread inside th m None there = by_position th.at there (effect g inside th m)
  by_thread inside th m (Some rest) there = omega arith

  by_due : (due : Bool) (a b : ℕ) → a ≤ b → (if due then 1 else a) ≤ (if due then 1 else b)
  by_due true a b l = omega arith
  by_due false a b l = l

  by_step : (t : Machine) → Stands x (running t).at → step_cost_at g (sure_prices sure) t ≤ step_cost_at g (staying x) t
  by_step t there =
      by_due (is_due t.world) (thread_cost g (sure_prices sure) t.world.inside (running t) t.memory (running t).rest) (thread_cost g (staying x) t.world.inside (running t) t.memory (running t).rest)
      (by_thread t.world.inside (running t) t.memory (running t).rest there)

  module _ (e : Entry) (o : Outside) (t : Machine) where
    abbrev few : ℕ → ℕ
    few i = cost_by g (sure_prices sure) e o i t

    abbrev all : ℕ → ℕ
    all i = cost_by g (staying x) e o i t

    on : (i j : ℕ) → Stands x (running (settled o (sym_run g e o j t))).at → few j + all i ≤ few i + all j → few (suc j) + all i ≤ few i + all (suc j)
    on i j there before =
        let p = cost_next g e o t (sure_prices sure) j in
        let q = cost_next g e o t (staying x) j in
        let h = by_step (settled o (sym_run g e o j t)) there in
        omega arith

    few_less : (n : ℕ) → ((j : ℕ) → j < n → Stands x (running (settled o (sym_run g e o j t))).at) → (i j : ℕ) → i ≤ j → j ≤ n → few j + all i ≤ few i + all j
    few_less n there = chain (λ i j. few j + all i ≤ few i + all j) n (λ i. omega arith) (λ i j l lt before. on i j (there j lt) before)

-- at each moment something comes to where the thread stands that runs
stands_at_moment : (x : Lean) → IsSound x → (old new : BlockName → ℕ → ℕ) → IsCheaper x old new → (o : Outside) (e : Entry) (r : Registers) (m : Memory) (n : ℕ)
    → Goes (stays_of x old e o (sym_start (old_program x) r m)) n → IsOpen x e o (sym_start (old_program x) r m) n → (j : ℕ) → j ≤ n
    → Stands x (running (settled o (sym_run (old_setting x) e o j (sym_start (old_program x) r m)))).at
stands_at_moment x sound old new cheaper o e r m n goes open_all j l =
    running_there x (settled o (sym_run (old_setting x) e o j (sym_start (old_program x) r m)))
    (settled o (sym_run (new_setting x) e o (place x sound old new cheaper o e r m j) (sym_start (new_program x) r m))) (sim_at x sound old new cheaper o e r m n goes open_all j l)

pub lean_weighed : LeanWeighed
lean_weighed x sound old new sure cheaper is_sure o e r m n goes open_all =
    let first = sym_start (old_program x) r m in
    let a = stays_of x old e o first in
    let b = run_of (new_setting x) new e o (sym_start (new_program x) r m) in
    let least : ℕ → ℕ = λ i. cost_by (old_setting x) (sure_prices sure) e o i first in
    let there : (j : ℕ) → j < n → Stands x (running (settled o (sym_run (old_setting x) e o j first))).at = λ j l. stands_at_moment x sound old new cheaper o e r m n goes open_all j (omega arith) in
    let h = lean_keeps x sound old new cheaper o e r m n goes open_all in (light_follows a b least n h.0, light_slow a b least n h.0 (few_less x sure is_sure e o first n there) h.1)

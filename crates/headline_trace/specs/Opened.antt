-- What selection is asked for besides: the selected code accesses through FSR only what a pointer of byte code may lead to.
use Rattle.std.specs.Prelude.{ℕ, ◌≡◌, ◌<◌, ◌≤◌, Bool, true, List}
use Rattle.std.specs.List.{All}
use Rattle.call_graph.specs.declared.types.FnCopy.{FnCopy}
use Rattle.pic_world.specs.World.{Outside, event_as}
use Rattle.run_links.specs.Runs.{Goes, Follows, IsSlow}
use Rattle.core_code.specs.Bytes.{Object}
use Rattle.core_code.specs.Machine.{Program, core_moment}
use Rattle.core_code.specs.Runs as core
use Rattle.core_code.specs.declared.code.Body.{Body}
use Rattle.sym_code.specs.Correct.{AreEntries, IsBegun}
use Rattle.sym_code.specs.Effect.{Setting, Memory}
use Rattle.sym_code.specs.Layout.{shown}
use Rattle.sym_code.specs.Machine.{Entry, sym_start}
use Rattle.sym_code.specs.Registers.{Registers}
use Rattle.sym_code.specs.Runs as sym
use Rattle.sym_code.specs.declared.code.BlockName.{BlockName}
use Rattle.lean_code.specs.Clear.{IsClear}
use Rattle.narrow_code.specs.Links.{reaches_lent}
use Rattle.select_wide.specs.Links.{IsSelected}
use Rattle.headline_trace.specs.Linked.{StaysOpen}

-- Where byte code accesses no object by a pointer but those that are lent, and no byte of such an object is hidden: selection
-- keeps what it promises, and up to each moment of byte code the selected code accesses no hidden byte through FSR.
abbrev pub SelectionOpens : Type 0
SelectionOpens =
    (q : Program) (copies : List FnCopy) (bodies : List Body) (reaches : ℕ → ℕ → Bool) (g : Setting) (price sure : BlockName → ℕ → ℕ) → IsSelected q copies bodies reaches g price sure
    → (hidden : ℕ → Bool) (lent : Object → Bool) → IsClear hidden g.program.layout lent
    → (o : Outside) → All (λ byte. byte < 256) o.input → (e : Entry) (r : Registers) (m : Memory) → AreEntries e → IsBegun q.first g.program.layout r m
    → (n : ℕ) → Goes (core.run_of (record { program = q; outside = o })) n
    → ((i : ℕ) → i ≤ n → reaches_lent lent (core_moment (record { program = q; outside = o }) i).code ≡ true)
    → (link : Follows (event_as (shown g.program.layout)) (core.run_of (record { program = q; outside = o })) (sym.weighed_of g price sure e o (sym_start g.program r m)) n)
    × IsSlow (event_as (shown g.program.layout)) (core.run_of (record { program = q; outside = o })) (sym.weighed_of g price sure e o (sym_start g.program r m)) n link
    × StaysOpen hidden g o e r m (link.at n)

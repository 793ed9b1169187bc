-- Symbolic code over a layout, under a schedule that is made from its kept trace, beside the same code over the layout in which private objects
-- are main's own bytes.
use Rattle.std.specs.Prelude.{◌≡◌, ℕ, ◌<◌, ◌≤◌, Bool, true, List, length}
use Rattle.pic_world.specs.World.{Happening, Outside, Schedule}
use Rattle.run_links.specs.Runs.{Run, Goes, Follows, IsSlow}
use Rattle.kept_trace.specs.Kept.{kept_events, kept_length, with_schedule}
use Rattle.select_wide.specs.Links.{StaysOpen}
use Rattle.sym_code.specs.Cost.{Prices, cost_by}
use Rattle.sym_code.specs.Effect.{Setting, Memory}
use Rattle.sym_code.specs.Layout.{IsLaidOut}
use Rattle.sym_code.specs.Machine.{Machine, Entry, sym_run, sym_start}
use Rattle.sym_code.specs.Registers.{Registers}
use Rattle.sym_code.specs.Runs.{sym_goes, sym_rests, weighed_of}
use Rattle.sym_code.specs.declared.code.BlockName.{BlockName}
use Rattle.kept_layout.specs.KeptLayout.{kept_program, kept_setting, is_private_byte, seen}
use Rattle.kept_layout.specs.OpenCode.{IsOpenCode}

-- At each length that the trace has up to moment n, the one schedule has what the other one has at the length of the kept trace.
abbrev pub IsByKept : List Bool → Setting → Entry → Outside → Schedule → Machine → ℕ → Type 0
IsByKept kept g e o schedule t n =
    (i : ℕ) → i ≤ n → schedule (length (sym_run g e (with_schedule o schedule) i t).world.trace) ≡ o.schedule (kept_length kept (sym_run g e (with_schedule o schedule) i t).world)

-- Both go step by step: over the one layout under the schedule that is made from the kept trace, over the other one under the given one. At each
-- moment threads and memory are the same, and the other's trace is the kept one; and so it is with what the steps cost, at any prices.
pub record IsSwitched (kept : List Bool) (g : Setting) (e : Entry) (o : Outside) (schedule : Schedule) (t : Machine) (n : ℕ) : Type 0 where
  pub moments : (i : ℕ) → i ≤ n → sym_run (kept_setting kept g) e o i (seen kept t) ≡ seen kept (sym_run g e (with_schedule o schedule) i t)
  pub goes : (i : ℕ) → i < n → sym_goes (kept_setting kept g) e o (seen kept t) i ≡ sym_goes g e (with_schedule o schedule) t i
  pub rests : sym_rests g e (with_schedule o schedule) t n ≡ true → sym_rests (kept_setting kept g) e o (seen kept t) n ≡ true
  pub costs : (c : Prices) (i : ℕ) → i ≤ n → cost_by (kept_setting kept g) c e o i (seen kept t) ≡ cost_by g c e (with_schedule o schedule) i t

-- Where objects and frames are whole and apart, and code of the handler's root names no private byte, none is read and written by one instruction,
-- and none is accessed through FSR.
abbrev pub Switches : Type 0
Switches =
    (kept : List Bool) (handlers : BlockName → Bool) (reaches : ℕ → ℕ → Bool) (g : Setting) → IsLaidOut reaches g.program.layout → IsOpenCode handlers (is_private_byte kept g.program.layout) g.program
    → (e : Entry) (o : Outside) (schedule : Schedule) (r : Registers) (m : Memory) (n : ℕ)
    → IsByKept kept g e o schedule (sym_start g.program r m) n
    → StaysOpen (is_private_byte kept g.program.layout) g e (with_schedule o schedule) (sym_start g.program r m) n
    → IsSwitched kept g e o schedule (sym_start g.program r m) n

-- the run, of which kept events are seen
abbrev pub kept_run_of : List Bool → Run (Happening ℕ) → Run (Happening ℕ)
kept_run_of kept u = record u { trace = λ n. kept_events kept (u.trace n) }

-- So the one run, seen so, is followed by the other one, at no other costs.
abbrev pub SwitchedFollows : Type 0
SwitchedFollows =
    (kept : List Bool) (handlers : BlockName → Bool) (reaches : ℕ → ℕ → Bool) (g : Setting) → IsLaidOut reaches g.program.layout → IsOpenCode handlers (is_private_byte kept g.program.layout) g.program
    → (price sure : BlockName → ℕ → ℕ) (e : Entry) (o : Outside) (schedule : Schedule) (r : Registers) (m : Memory) (n : ℕ)
    → IsByKept kept g e o schedule (sym_start g.program r m) n
    → StaysOpen (is_private_byte kept g.program.layout) g e (with_schedule o schedule) (sym_start g.program r m) n
    → Goes (weighed_of g price sure e (with_schedule o schedule) (sym_start g.program r m)) n
    → (link : Follows (λ event. event) (kept_run_of kept (weighed_of g price sure e (with_schedule o schedule) (sym_start g.program r m))) (weighed_of (kept_setting kept g) price sure e o (sym_start (kept_program kept g.program) r m)) n)
    × IsSlow (λ event. event) (kept_run_of kept (weighed_of g price sure e (with_schedule o schedule) (sym_start g.program r m))) (weighed_of (kept_setting kept g) price sure e o (sym_start (kept_program kept g.program) r m)) n link

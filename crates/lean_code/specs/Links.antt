-- What code that was made smaller keeps: it follows the given code.
use Rattle.std.specs.Prelude.{◌≡◌, ℕ, ◌<◌, ◌≤◌, Bool, true, false, not, if◌then◌else◌, Option, Some, None, slice_get}
use Rattle.pic_world.specs.World.{Outside, Happening, is_due}
use Rattle.run_links.specs.Runs.{Run, Goes, Follows, IsSlow}
use Rattle.sym_code.specs.Cost.{Prices, cost_by}
use Rattle.sym_code.specs.Effect.{Memory, Thread, Rest}
use Rattle.sym_code.specs.Layout.{general_at}
use Rattle.sym_code.specs.Machine.{Machine, Entry, running, settled, sym_run, sym_start}
use Rattle.sym_code.specs.Programs.{Program, Position, fetched}
use Rattle.sym_code.specs.Registers.{Registers, pointer}
use Rattle.sym_code.specs.Runs.{run_of}
use Rattle.sym_code.specs.Touching.{touches}
use Rattle.sym_code.specs.declared.code.BlockName.{BlockName}
use Rattle.sym_code.specs.declared.code.Operand.{Operand}
use Rattle.sym_code.specs.declared.code.Operand.TheVariants as operands
use Rattle.sym_code.specs.declared.code.Register.TheVariants.{Indf}
use Rattle.sym_code.specs.declared.code.Sym.{Sym}
use Rattle.lean_code.specs.Rows.{Row, is_dropped, place_in, Lean, old_program, new_program, old_setting, new_setting}
use Rattle.lean_code.specs.Right.{IsSound}

-- ---- accesses through FSR
-- the byte that is accessed isn't hidden
abbrev pub is_clear : (ℕ → Bool) → Option ℕ → Bool
is_clear hidden None = true
is_clear hidden (Some k) = not (hidden k)

abbrev pub clears : (ℕ → Bool) → Registers → Option (Operand × Bool) → Bool
clears hidden r None = true
clears hidden r (Some touched) = by_operand touched.0
  where
    by_operand : Operand → Bool
    by_operand (operands.Register Indf) = is_clear hidden (general_at (pointer r))
    by_operand operand = true

abbrev pub clears_if : (ℕ → Bool) → Registers → Option Sym → Bool
clears_if hidden r None = true
clears_if hidden r (Some s) = clears hidden r (touches s)

abbrev pub clears_at : (ℕ → Bool) → Program → Registers → Option Position → Bool
clears_at hidden q r None = true
clears_at hidden q r (Some p) = clears_if hidden r (fetched q p)

-- what is left to write of an instruction goes to where the instruction has read
abbrev pub clears_next : (ℕ → Bool) → Program → Registers → Option Position → Option Rest → Bool
clears_next hidden q r at None = clears_at hidden q r at
clears_next hidden q r at (Some rest) = true

-- the next step accesses no hidden byte through FSR, where it carries out an instruction
abbrev pub is_open : (ℕ → Bool) → Program → Thread → Bool
is_open hidden q th = clears_next hidden q th.registers th.at th.rest

-- so at each of the first n steps but those that enter the handler
abbrev pub IsOpen : Lean → Entry → Outside → Machine → ℕ → Type 0
IsOpen x e o t n = (i : ℕ) → i < n → is_due (settled o (sym_run (old_setting x) e o i t)).world ≡ false → is_open x.hidden (old_program x) (running (settled o (sym_run (old_setting x) e o i t))) ≡ true

-- ---- costs
-- an instruction that stays counts, and one that is left out doesn't
abbrev pub counts : Option Row → ℕ
counts None = 1
counts (Some row) = if is_dropped row then 0 else 1

-- at least, by the instructions that stay
abbrev pub staying : Lean → Prices
staying x = record { word = λ name j. counts (slice_get (x.rows name) j); enter = 1; leave = 0 }

-- the run, with its least costs by the instructions that stay
abbrev pub stays_of : Lean → (BlockName → ℕ → ℕ) → Entry → Outside → Machine → Run (Happening ℕ)
stays_of x price e o t = record (run_of (old_setting x) price e o t) { least = λ n. cost_by (old_setting x) (staying x) e o n t }

-- no instruction that stays costs more than before
abbrev pub IsCheaper : Lean → (BlockName → ℕ → ℕ) → (BlockName → ℕ → ℕ) → Type 0
IsCheaper x old new = (name : BlockName) (j : ℕ) (row : Row) → slice_get (x.rows name) j ≡ Some row → is_dropped row ≡ false → new name (place_in (x.rows name) j) ≤ old name j

-- Prices of the code that is made, at the instructions that they are of; what is left out costs nothing.
abbrev pub price_at : Option Row → ℕ → ℕ
price_at None price = price
price_at (Some row) price = if is_dropped row then 0 else price

abbrev pub carried : Lean → (BlockName → ℕ → ℕ) → BlockName → ℕ → ℕ
carried x new name j = price_at (slice_get (x.rows name) j) (new name (place_in (x.rows name) j))

abbrev pub CarriedIsCheaper : Type 0
CarriedIsCheaper = (x : Lean) (new : BlockName → ℕ → ℕ) → IsCheaper x (carried x new) new

-- ---- what is kept
-- From the same registers and the same memory, under every schedule and whatever the handler finds at its entries, as long as the
-- given code isn't stuck and accesses no hidden byte through FSR: the code that is made makes its events, at no more than it costs, and
-- at no less than the instructions that stay.
abbrev pub LeanKeeps : Type 0
LeanKeeps =
    (x : Lean) → IsSound x → (old new : BlockName → ℕ → ℕ) → IsCheaper x old new
    → (o : Outside) (e : Entry) (r : Registers) (m : Memory) (n : ℕ)
    → Goes (run_of (old_setting x) old e o (sym_start (old_program x) r m)) n
    → IsOpen x e o (sym_start (old_program x) r m) n
    → (link : Follows (λ event. event) (stays_of x old e o (sym_start (old_program x) r m)) (run_of (new_setting x) new e o (sym_start (new_program x) r m)) n)
    × IsSlow (λ event. event) (stays_of x old e o (sym_start (old_program x) r m)) (run_of (new_setting x) new e o (sym_start (new_program x) r m)) n link

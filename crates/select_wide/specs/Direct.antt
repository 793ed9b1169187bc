-- Accesses through FSR: which byte one reaches, and runs of a thread without an event and without such an access.
use Rattle.std.specs.Prelude.{ℕ, zero, suc, Bool, true, false, not, ◌||◌, if◌then◌else◌, Option, Some, None}
use Rattle.sym_code.specs.Effect.{Setting, Thread, Rest}
use Rattle.sym_code.specs.Layout.{general_at}
use Rattle.sym_code.specs.Programs.{Program, Position, fetched}
use Rattle.sym_code.specs.Quiet.{Scene, quiet_step}
use Rattle.sym_code.specs.Registers.{Registers, pointer}
use Rattle.sym_code.specs.Touching.{touches}
use Rattle.sym_code.specs.declared.code.Operand.{Operand}
use Rattle.sym_code.specs.declared.code.Operand.TheVariants as operands
use Rattle.sym_code.specs.declared.code.Register.TheVariants.{Indf}
use Rattle.sym_code.specs.declared.code.Sym.{Sym}

-- ---- instructions
abbrev pub is_indf : Operand → Bool
is_indf (operands.Register Indf) = true
is_indf operand = false

abbrev pub touches_indf : Option (Operand × Bool) → Bool
touches_indf None = false
touches_indf (Some touched) = is_indf touched.0

-- the instruction accesses the byte that IRP and FSR point to
abbrev pub is_indirect : Option Sym → Bool
is_indirect None = false
is_indirect (Some s) = touches_indf (touches s)

-- the next instruction
abbrev pub next_of : Program → Option Position → Option Sym
next_of q None = None
next_of q (Some p) = fetched q p

-- ---- bytes
-- the general byte isn't hidden
abbrev pub is_clear : (ℕ → Bool) → Option ℕ → Bool
is_clear hidden None = true
is_clear hidden (Some k) = not (hidden k)

-- with these registers the instruction accesses no hidden byte through FSR
abbrev pub clears : (ℕ → Bool) → Registers → Option Sym → Bool
clears hidden r s = not (is_indirect s) || is_clear hidden (general_at (pointer r))

-- The thread's next step accesses none: what is left to write of an instruction goes to where the instruction has read.
abbrev pub clears_next : (ℕ → Bool) → Program → Thread → Option Rest → Bool
clears_next hidden q th None = clears hidden th.registers (next_of q th.at)
clears_next hidden q th (Some rest) = true

abbrev pub is_open : (ℕ → Bool) → Program → Thread → Bool
is_open hidden q th = clears_next hidden q th th.rest

-- ---- runs of one thread without an event, none of whose steps goes through FSR
abbrev pub direct_step : Setting → Bool → Scene → Option Scene
direct_step g inside s = if is_indirect (next_of g.program s.thread.at) then None else quiet_step g inside s

abbrev pub direct_if : Setting → Bool → Option Scene → Option Scene
direct_if g inside None = None
direct_if g inside (Some s) = direct_step g inside s

unfoldable pub direct_run : Setting → Bool → ℕ → Scene → Option Scene
direct_run g inside zero s = Some s
direct_run g inside (suc n) s = direct_if g inside (direct_run g inside n s)

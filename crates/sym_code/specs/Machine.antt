-- What symbolic code does: an instruction is one step, and one that makes two events is two, so that no step makes more than
-- one. The handler is entered whole directly after an event. Main
-- and the handler are two threads over one memory, which is the chip's. Positions in blocks stand in place of addresses
-- of program memory. Saving and restoring main's context is the machine's here, and the start block's on the chip; so
-- what the handler finds in the registers comes from outside. A step that would go to where no instruction stands is
-- stuck at once.
-- g is the setting, e the handler's registers at its entries, o the outside, t the machine.
use Rattle.std.specs.Prelude.{ℕ, zero, suc, ◌+◌, Bool, false, if◌then◌else◌, [], Option, Some, None}
use Rattle.pic_world.specs.World.{Outside, World, ReadOf, WriteOf, Ended, arrived, is_due, entered, left, noted, device_value, after_device_read, after_device_write, sets_gie, world_at_start}
use Rattle.sym_code.specs.Effect.{Setting, Thread, Memory, Write, written, write, Loud, Port, Shared, Effect, Stuck, Quiet, Reads, Writes, Leaves, Ends, Rests, effect}
use Rattle.sym_code.specs.Programs.{Program, Position, front, lands}
use Rattle.sym_code.specs.Registers.{Registers}
use Rattle.sym_code.specs.declared.code.BlockName.TheVariants.{Copy}
pub use Rattle.sym_code.specs.Programs.{same_name, same_label}

pub record Machine : Type 0 where
  pub main : Thread
  pub isr : Thread
  -- how often the handler was entered
  pub entries : ℕ
  pub memory : Memory
  -- it also says whether the handler runs
  pub world : World ℕ

-- what the handler finds in the registers, by the number of the entry
abbrev pub Entry : Type 0
Entry = ℕ → Registers

pub data Next : Type 0 where
  Goes : Machine → Next
  Stops : Next
  -- main has ended, and no handler is due
  Still : Next

-- ---- events
abbrev pub itself : ℕ → ℕ
itself n = n

abbrev pub value_by : Outside → Memory → World ℕ → Loud → ℕ
value_by o m w (Port address) = device_value o address w
value_by o m w (Shared k cell) = m k

abbrev pub read_by : Outside → Memory → World ℕ → Loud → World ℕ
read_by o m w (Port address) = after_device_read itself o address w
read_by o m w (Shared k cell) = noted (ReadOf cell (m k)) w

abbrev pub write_by : Loud → ℕ → Option Write
write_by (Port address) v = None
write_by (Shared k cell) v = write k v

abbrev pub wrote_by : World ℕ → Loud → ℕ → World ℕ
wrote_by w (Port address) v = after_device_write itself address v w
wrote_by w (Shared k cell) v = noted (WriteOf cell v) w

-- the handler would set GIE
abbrev pub is_forbidden : World ℕ → Loud → ℕ → Bool
is_forbidden w (Port address) v = sets_gie address v w
is_forbidden w (Shared k cell) v = false

-- ---- what an effect makes
-- the thread, a byte that is written, and the world
pub record Made : Type 0 where
  pub thread : Thread
  pub write : Option Write
  pub world : World ℕ

abbrev pub made_write : World ℕ → Loud → ℕ → Thread → Option Made
made_write w b v th = if is_forbidden w b v then None else Some (record { thread = th; write = write_by b v; world = wrote_by w b v })

abbrev pub made : Outside → Memory → World ℕ → Effect → Option Made
made o m w Stuck = None
made o m w (Quiet th x) = Some (record { thread = th; write = x; world = w })
made o m w (Reads b next) = Some (record { thread = next (value_by o m w b); write = None; world = read_by o m w b })
made o m w (Writes b v th) = made_write w b v th
made o m w Leaves = None
made o m w (Ends th) = None
made o m w Rests = None

abbrev pub lands_at : Program → Option Position → Bool
lands_at q None = false
lands_at q (Some p) = lands q p

-- a thread goes only to where an instruction stands
abbrev pub checked : Program → Option Made → Option Made
checked q None = None
checked q (Some x) = if lands_at q x.thread.at then Some x else None

-- the thread that runs
abbrev pub running : Machine → Thread
running t = if t.world.inside then t.isr else t.main

abbrev pub moved : Machine → Option Made → Next
moved t None = Stops
moved t (Some x) = Goes (record t {
  main = if t.world.inside then t.main else x.thread;
  isr = if t.world.inside then x.thread else t.isr;
  memory = written x.write t.memory;
  world = x.world;
})

-- An effect is applied. Main ends with an event. Behind the handler main goes on as it was.
unfoldable pub acted : Setting → Outside → Machine → Effect → Next
acted g o t Leaves = Goes (record t { world = left t.world })
acted g o t (Ends th) = Goes (record t { main = th; world = noted Ended t.world })
acted g o t Rests = Still
acted g o t e = moved t (checked g.program (made o t.memory t.world e))

abbrev pub act : Setting → Outside → Machine → Next
act g o t = acted g o t (effect g t.world.inside (running t) t.memory)

-- ---- entries
-- at the front of a copy
abbrev pub at_front : Program → ℕ → Registers → Thread
at_front q copy r = record { rest = None; at = Some (front q (Copy copy)); stack = []; registers = r }

abbrev pub with_entry : Thread → Machine → Machine
with_entry th t = record t { isr = th; entries = t.entries + 1; world = entered t.world }

abbrev pub enter : Setting → Entry → Option ℕ → Machine → Next
enter g e None t = Stops
enter g e (Some h) t = if lands g.program (front g.program (Copy h)) then Goes (with_entry (at_front g.program h (e t.entries)) t) else Stops

-- ---- steps and runs
-- the flags that arrive at this length are set
abbrev pub settled : Outside → Machine → Machine
settled o t = record t { world = arrived o t.world }

abbrev pub sym_step_at : Setting → Entry → Outside → Machine → Next
sym_step_at g e o t = if is_due t.world then enter g e g.program.handler t else act g o t

-- One step: arrivals first, then the handler if it is due, otherwise the next instruction.
unfoldable pub sym_step : Setting → Entry → Outside → Machine → Next
sym_step g e o t = sym_step_at g e o (settled o t)

abbrev pub gone : Machine → Next → Machine
gone t (Goes u) = u
gone t Stops = t
gone t Still = t

-- the machine after so many steps from here
unfoldable pub sym_run : Setting → Entry → Outside → ℕ → Machine → Machine
sym_run g e o zero t = t
sym_run g e o (suc n) t = let u = sym_run g e o n t in gone u (sym_step g e o u)

-- at the front of main, with these registers and this memory
abbrev pub sym_start : Program → Registers → Memory → Machine
sym_start q r m = record { main = at_front q 0 r; isr = record { rest = None; at = None; stack = []; registers = r }; entries = 0; memory = m; world = world_at_start }

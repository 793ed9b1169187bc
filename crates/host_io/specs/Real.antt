-- What the real host tells.
use Rattle.std.specs.Prelude.{◌-◌, ◌^◌, false, Some, None}
use Rattle.host_io.specs.declared.real.Opened.{Opened}
use Rattle.host_io.specs.declared.real.Opened.TheVariants as opened
use Rattle.host_io.specs.Host.{Kind, OpenFile, Closed, Reading, Writing}

-- whether a file is open, and for what
abbrev pub open_of : {F : Type 0} → Opened F → OpenFile
open_of opened.Nothing = Closed
open_of (opened.Reading file) = Reading None
open_of (opened.Writing file) = Writing None

-- it isn't sound, and its count of faults ends at the greatest 64-bit number
abbrev pub real_kind : Kind
real_kind = record { is_sound = false; last = Some (2 ^ 64 - 1) }

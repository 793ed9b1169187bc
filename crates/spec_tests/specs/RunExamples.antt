-- Worked examples: the events and the undefined steps on the right were worked out by hand.
use Rattle.std.specs.Prelude.{ℕ, ◌≡◌, Bool, true, false, List, [], ◌∷◌, Option, Some, None}
use Rattle.c_typed.specs.Trees.{Program}
use Rattle.pic_world.specs.World.{Happening, ReadOf, WriteOf, Ended, outside_of}
use Rattle.pic_world.specs.declared.Arrival.{Arrival}
use Rattle.pic_world.specs.declared.Cell.TheVariants.{Device, Static}
use Rattle.pic_world.specs.declared.Flag.TheVariants.{Intf}
use Rattle.pic_world.specs.declared.Root.TheVariants.{Main}
use Rattle.spec_tests.specs.Programs as programs
use Rattle.src_rules.specs.Runs.{Fault, moment, steps_by, after, fault_after, is_idle_after, main_steps_after, runs_after}
use Rattle.src_values.specs.Memory.{Setting}
use Rattle.src_values.specs.declared.objects.Byte.{Byte}
use Rattle.src_values.specs.declared.objects.Byte.TheVariants.{Number, Part}
use Rattle.src_values.specs.declared.objects.Object.TheVariants.{Variable}
use Rattle.src_values.specs.declared.objects.Undef.{Undef}
use Rattle.src_values.specs.declared.objects.Undef.TheVariants as undef

-- a program without input, whose pin INT is active once the trace is so long
abbrev pub alone : Program → Setting
alone p = record { program = p; outside = outside_of [] [] }

abbrev pub signal : ℕ → Arrival
signal t = record { t = t; flag = Intf }

abbrev pub signalled : ℕ → Program → Setting
signalled t p = record { program = p; outside = outside_of [] (signal t ∷ []) }

-- ---- events
abbrev pub reads : ℕ → ℕ → Happening Byte
reads address value = ReadOf (Device address) (Number value)

abbrev pub writes : ℕ → ℕ → Happening Byte
writes address value = WriteOf (Device address) (Number value)

abbrev pub reads_byte : ℕ → ℕ → ℕ → Happening Byte
reads_byte object offset value = ReadOf (Static object offset) (Number value)

abbrev pub writes_byte : ℕ → ℕ → ℕ → Happening Byte
writes_byte object offset value = WriteOf (Static object offset) (Number value)

-- the events of a run's first steps
abbrev pub trace_of : Setting → ℕ → List (Happening Byte)
trace_of s n = (after s n).world.trace

abbrev pub fault : Undef → Option Fault
fault kind = Some (record { kind = kind; line = 1 })

-- INTF is set behind the first event of main's statement v = t
abbrev pub torn : Setting
torn = signalled 2 programs.torn_read

abbrev pub chosen_trace : List (Happening Byte)
chosen_trace = reads 5 0 ∷ reads 5 0 ∷ reads 7 0 ∷ writes 6 5 ∷ Ended ∷ []

pub record WorkedRuns : Type 0 where
  -- The handler counts up between main's reads of the two bytes: main gets 01FFh, which the object never held.
  pub torn_read : trace_of torn 50 ≡ writes 0x0b 0x90 ∷ reads_byte 0 0 0xff ∷ reads_byte 0 0 0xff ∷ reads_byte 0 1 0 ∷ writes_byte 0 0 0 ∷ writes_byte 0 1 1 ∷ reads 0x0b 0x12 ∷ writes 0x0b 0x10 ∷ reads_byte 0 1 1 ∷ writes 6 1 ∷ writes 7 0xff ∷ Ended ∷ []
  -- Of 33 steps main takes five, then twelve are the handler's, the first of which enters it; the last one ends main.
  pub torn_before : main_steps_after torn 5 ≡ 5
  pub torn_not_begun : runs_after torn 5 ≡ 0
  pub torn_begun : runs_after torn 6 ≡ 1
  pub torn_handler : main_steps_after torn 17 ≡ 5
  pub torn_main : main_steps_after torn 33 ≡ 21
  pub torn_runs : runs_after torn 33 ≡ 1
  pub torn_not_ended : is_idle_after torn 32 ≡ false
  pub torn_ended : is_idle_after torn 33 ≡ true
  -- Arms and operands that a condition chooses, and a break out of an arm: 13 steps, however long the run is watched.
  pub chosen : trace_of (alone programs.chooses) 13 ≡ chosen_trace
  pub chosen_moment : (moment (alone programs.chooses) 50).world.trace ≡ chosen_trace
  pub chosen_steps : steps_by (alone programs.chooses) 50 ≡ 13
  -- A flag that comes between the read and the write of INTCON is lost.
  pub lost_flag : trace_of (signalled 2 programs.lost_flag) 30 ≡ writes 0x0b 0x10 ∷ reads 0x0b 0x10 ∷ writes 0x0b 0x10 ∷ reads 0x0b 0x10 ∷ writes 6 0x10 ∷ Ended ∷ []
  pub flag_before : trace_of (signalled 1 programs.lost_flag) 30 ≡ writes 0x0b 0x10 ∷ reads 0x0b 0x12 ∷ writes 0x0b 0x10 ∷ reads 0x0b 0x10 ∷ writes 6 0x10 ∷ Ended ∷ []
  -- A flag that was set before GIE interrupts as soon as GIE is set.
  pub pending_flag : trace_of (signalled 0 programs.pending_flag) 40 ≡ reads 0x0b 2 ∷ writes 0x0b 0x12 ∷ reads 0x0b 0x12 ∷ writes 0x0b 0x92 ∷ writes 6 1 ∷ reads 0x0b 0x12 ∷ writes 0x0b 0x10 ∷ writes 5 2 ∷ Ended ∷ []
  -- An argument that calls the function itself, by another one, doesn't disturb those that have their values.
  pub overlaid : trace_of (alone programs.overlaid) 60 ≡ writes 6 6 ∷ Ended ∷ []
  -- ---- each kind of undefined step
  pub division : fault_after (alone programs.divides) 9 ≡ fault undef.Division
  pub overflow : fault_after (alone programs.overflows) 9 ≡ fault undef.Overflow
  pub shift : fault_after (alone programs.shifts) 9 ≡ fault undef.Shift
  pub unset : fault_after (alone programs.reads_unset) 9 ≡ fault undef.Unset
  -- In the second turn the pointer is to the structure itself, which is unset again at its declarator.
  pub unset_again : fault_after (alone programs.declares_again) 25 ≡ fault undef.Unset
  pub set_before : fault_after (alone programs.declares_again) 24 ≡ None
  pub outside : fault_after (alone programs.reads_null) 9 ≡ fault undef.Outside
  pub order : fault_after (alone programs.compares_order) 9 ≡ fault undef.Order
  pub past : fault_after (alone programs.compares_past) 9 ≡ fault undef.Past
  pub part_of_pointer : fault_after (alone programs.reads_pointer) 9 ≡ fault undef.Bytes
  pub inactive : fault_after (alone programs.writes_left) 20 ≡ fault undef.Inactive
  pub isolation : fault_after (signalled 3 programs.reaches_main) 30 ≡ fault undef.Isolation
  pub gie : fault_after (signalled 1 programs.sets_gie) 20 ≡ fault undef.Gie
  pub handler : fault_after (signalled 1 programs.enables_nothing) 9 ≡ fault undef.Handler

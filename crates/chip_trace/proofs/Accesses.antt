-- What an access is on the chip and in symbolic code: the byte, what it changes, and the event that it is.
use Rattle.std.proofs.Common.{◌≡◌, ℕ, ◌+◌, ◌<◌, Bool, true, false, [], ◌∷◌, ◌++◌, map, Option, Some, None, refl, sym, ap, ◌∙◌, arith, append-nil, inr}
use Rattle.std.specs.Prelude.{nat_eq, if◌then◌else◌, slice_index, slice_set}
use Rattle.std.proofs.lemmas.Bool.{eqb-true}
use Rattle.std.proofs.lemmas.List.{map-append}
use Rattle.pic_chip.specs.Changes.{stored, after_reading}
use Rattle.pic_chip.specs.State.{State}
use Rattle.pic_chip.specs.Act.{Derived, value_in, made}
use Rattle.pic_chip.specs.Address.{address_of}
use Rattle.pic_chip.specs.Instructions.{contents, note}
use Rattle.pic_chip.specs.Interrupts.{control_of}
use Rattle.pic_chip.specs.Run.{event_at, events_of, cell_at, object_at}
use Rattle.pic_world.specs.Control as control
use Rattle.pic_world.specs.Control.{Control, is_stored, with_stored}
use Rattle.pic_world.specs.Registers.{is_register}
use Rattle.pic_world.specs.World.{World, Outside, Happening, ReadOf, WriteOf, noted, event_of, device_value, after_device_read, after_device_write}
use Rattle.pic_world.specs.declared.Cell.{Cell}
use Rattle.pic_world.specs.declared.Cell.TheVariants as cells
use Rattle.sym_code.specs.Effect.{Memory, Access, Pointer, Event, Silent, Denied, Loud, Port, Shared}
use Rattle.sym_code.specs.Layout.{DataLayout, Watched, owner, IsLaidOut}
use Rattle.sym_code.specs.Machine.{value_by, read_by, wrote_by, itself}
use Rattle.sym_code.specs.Registers.{Registers}
use Rattle.chip_trace.proofs.Addresses.{port, somebodys_number, shown_cell, silent_cell, cell_of, clear_cell}
use Rattle.chip_trace.proofs.Effects.{IsAccess, reads_silently}
use Rattle.chip_trace.proofs.Operands.{place_for, is_allowed}
use Rattle.chip_trace.proofs.Past.{silent_somebody, watched_somebody}
use Rattle.chip_trace.proofs.Relations.{Sees}

-- the cell that an access shows
abbrev pub cell_for : Access → Option Cell
cell_for (Event (Port a)) = Some (cells.Device a)
cell_for (Event (Shared k cell)) = Some cell
cell_for _ = None

abbrev pub cell_by : Loud → Cell
cell_by (Port a) = cells.Device a
cell_by (Shared k cell) = cell

abbrev pub taken_after : Access → ℕ → ℕ
taken_after (Event (Port a)) n = if is_stored a then n else n + 1
taken_after _ n = n

abbrev pub control_after : Loud → ℕ → Control → Control
control_after (Port a) v c = if is_stored a then with_stored a v c else c
control_after (Shared k cell) v c = c

abbrev pub state_stored : Access → ℕ → State → State
state_stored Pointer v t = record t { fsr = v }
state_stored (Event (Port a)) v t = let c = control_after (Port a) v (control_of t) in record t { intcon = c.intcon; pir1 = c.pir1; pie1 = c.pie1 }
state_stored (Event (Shared k cell)) v t = record t { ram = slice_set t.ram k v }
state_stored (Silent k) v t = record t { ram = slice_set t.ram k v }
state_stored Denied v t = t

abbrev pub value_here : Outside → Memory → World ℕ → Registers → Access → ℕ
value_here o m w r Pointer = r.fsr
value_here o m w r (Event b) = value_by o m w b
value_here o m w r (Silent k) = m k
value_here o m w r Denied = 0

-- ---- the chip
module _ (t : State) where
  port_reading : (a : ℕ) (p q u : Bool) → nat_eq a 0x0b ≡ p → nat_eq a 0x0c ≡ q → nat_eq a 0x8c ≡ u → after_reading (port a) t ≡ record t { taken = if is_stored a then t.taken else t.taken + 1 }
  port_reading a true q u e f h = rw e refl
  port_reading a false true u e f h = rw (e, f) refl
  port_reading a false false true e f h = rw (e, f, h) refl
  port_reading a false false false e f h = rw (e, f, h) refl

  pub reading : (y : Access) → after_reading (place_for y) t ≡ record t { taken = taken_after y t.taken }
  reading Pointer = refl
  reading (Event (Port a)) = port_reading a (nat_eq a 0x0b) (nat_eq a 0x0c) (nat_eq a 0x8c) refl refl refl
  reading (Event (Shared k cell)) = refl
  reading (Silent k) = refl
  reading Denied = refl

  port_storing : (plain : Bool) (a v : ℕ) (p q u : Bool) → nat_eq a 0x0b ≡ p → nat_eq a 0x0c ≡ q → nat_eq a 0x8c ≡ u → stored plain (port a) v t ≡ state_stored (Event (Port a)) v t
  unfolding with_stored
  port_storing plain a v true q u e f h = rw e refl
  port_storing plain a v false true u e f h = rw (e, f) refl
  port_storing plain a v false false true e f h = rw (e, f, h) refl
  port_storing plain a v false false false e f h = rw (e, f, h) refl

  pub storing : (plain : Bool) (y : Access) (v : ℕ) → stored plain (place_for y) v t ≡ state_stored y v t
  storing plain Pointer v = refl
  storing plain (Event (Port a)) v = port_storing plain a v (nat_eq a 0x0b) (nat_eq a 0x0c) (nat_eq a 0x8c) refl refl refl
  storing plain (Event (Shared k cell)) v = refl
  storing plain (Silent k) v = refl
  storing plain Denied v = refl

-- ---- both
module _ (reaches : ℕ → ℕ → Bool) (l : DataLayout) (laid : IsLaidOut reaches l) (i writes : Bool) where
  reads_of : (k : ℕ) → IsAccess l i writes (Silent k) → reads_silently i (owner l k) ≡ true
  reads_of k a = by writes a where
    by : (b : Bool) → IsAccess l i b (Silent k) → reads_silently i (owner l k) ≡ true
    by true a = a.0
    by false a = a

  number_of : (k : ℕ) → IsAccess l i writes (Silent k) → k < 368
  number_of k a = somebodys_number reaches l k laid (silent_somebody i (owner l k) (reads_of k a))

  one_event : (write : Bool) (byte : ℕ) (x y : Option Cell) → x ≡ y → event_at write byte x ++ [] ≡ event_at write byte y
  one_event write byte x y e = append-nil (event_at write byte x) ∙ ap (event_at write byte) e

  none_shown : (write : Bool) (byte : ℕ) → event_at write byte None ≡ []
  none_shown true byte = refl
  none_shown false byte = refl

  module _ (s : State) (v : Derived) (write : Bool) where
    port_note : (a : ℕ) (p q u : Bool) → is_register a ≡ true → nat_eq a 0x0b ≡ p → nat_eq a 0x0c ≡ q → nat_eq a 0x8c ≡ u → events_of l.objects (made (note write (port a) v) s) ≡ event_at write (value_in s v) (Some (cells.Device a))
    port_note a true q u reg e f h = rw e (one_event write (value_in s v) (Some (cells.Device 0x0b)) (Some (cells.Device a)) (ap (λ n. Some (cells.Device n)) (sym (eqb-true a 0x0b e))))
    port_note a false true u reg e f h = rw (e, f) (one_event write (value_in s v) (Some (cells.Device 0x0c)) (Some (cells.Device a)) (ap (λ n. Some (cells.Device n)) (sym (eqb-true a 0x0c f))))
    port_note a false false true reg e f h = rw (e, f, h) (one_event write (value_in s v) (Some (cells.Device 0x8c)) (Some (cells.Device a)) (ap (λ n. Some (cells.Device n)) (sym (eqb-true a 0x8c h))))
    port_note a false false false reg e f h = rw (e, f, h) (one_event write (value_in s v) (cell_at l.objects a) (Some (cells.Device a)) (ap (λ b. if b then Some (cells.Device a) else object_at l.objects 0 a) reg))

    pub shown_note : (y : Access) → is_allowed y ≡ true → IsAccess l i writes y → events_of l.objects (made (note write (place_for y) v) s) ≡ event_at write (value_in s v) (cell_for y)
    shown_note Pointer al a = one_event write (value_in s v) (cell_at l.objects 4) None (clear_cell reaches l 4 laid (inr (inr (omega arith))))
    shown_note (Event (Port n)) al a = port_note n (nat_eq n 0x0b) (nat_eq n 0x0c) (nat_eq n 0x8c) a.0 refl refl refl
    shown_note (Event (Shared k cell)) al a =
        one_event write (value_in s v) (cell_at l.objects (address_of k)) (Some cell) (cell_of l.objects k (Some cell) (somebodys_number reaches l k laid (watched_somebody cell (owner l k) a)) (shown_cell l k cell a))
    shown_note (Silent k) al a =
        one_event write (value_in s v) (cell_at l.objects (address_of k)) None (cell_of l.objects k None (number_of k a) (silent_cell l i k (reads_of k a)))
    shown_note Denied al a = absurd (cc)

  module _ (o : Outside) (m : Memory) (w : World ℕ) (s : State) (r : Registers) (sees : Sees s r) (same : control_of s ≡ w.control) (taken : s.taken ≡ w.taken)
      (own : (k : ℕ) → reads_silently i (owner l k) ≡ true → slice_index s.ram k ≡ m k) (static : (k : ℕ) (cell : Cell) → owner l k ≡ Watched cell → slice_index s.ram k ≡ m k) where
    port_value : (pc a : ℕ) (p q u : Bool) → nat_eq a 0x0b ≡ p → nat_eq a 0x0c ≡ q → nat_eq a 0x8c ≡ u → value_in s (contents o.input pc (port a)) ≡ device_value o a w
    unfolding device_value control.stored
    port_value pc a true q u e f h = rw e (ap (λ (c : Control). c.intcon) same)
    port_value pc a false true u e f h = rw (e, f) (ap (λ (c : Control). c.pir1) same)
    port_value pc a false false true e f h = rw (e, f, h) (ap (λ (c : Control). c.pie1) same)
    port_value pc a false false false e f h = rw (e, f, h) (ap (slice_index o.input) taken)

    pub same_value : (pc : ℕ) (y : Access) → is_allowed y ≡ true → IsAccess l i writes y → value_in s (contents o.input pc (place_for y)) ≡ value_here o m w r y
    same_value pc Pointer al a = sees.fsr
    same_value pc (Event (Port n)) al a = port_value pc n (nat_eq n 0x0b) (nat_eq n 0x0c) (nat_eq n 0x8c) refl refl refl
    same_value pc (Event (Shared k cell)) al a = static k cell a
    same_value pc (Silent k) al a = own k (reads_of k a)
    same_value pc Denied al a = absurd (cc)

-- ---- symbolic code
noted_trace : (e : Happening ℕ) (w : World ℕ) → map event_of (noted e w).trace ≡ map event_of w.trace ++ event_of e ∷ []
noted_trace e w = map-append event_of w.trace (e ∷ [])

module _ (o : Outside) (m : Memory) (w : World ℕ) where
  pub read_taken : (b : Loud) → (read_by o m w b).taken ≡ taken_after (Event b) w.taken
  unfolding after_device_read
  read_taken (Port a) = by (is_stored a) where
    by : (b : Bool) → (if b then w else record w { taken = w.taken + 1 }).taken ≡ (if b then w.taken else w.taken + 1)
    by true = refl
    by false = refl
  read_taken (Shared k cell) = refl

  pub read_trace : (b : Loud) → map event_of (read_by o m w b).trace ≡ map event_of w.trace ++ event_at false (value_by o m w b) (Some (cell_by b))
  unfolding after_device_read
  read_trace (Port a) = by (is_stored a) where
    by : (b : Bool) → map event_of (noted (ReadOf (cells.Device a) (itself (device_value o a w))) (if b then w else record w { taken = w.taken + 1 })).trace ≡ map event_of w.trace ++ event_at false (device_value o a w) (Some (cells.Device a))
    by true = noted_trace _ w
    by false = noted_trace (ReadOf (cells.Device a) (itself (device_value o a w))) (record w { taken = w.taken + 1 })
  read_trace (Shared k cell) = noted_trace (ReadOf cell (m k)) w

module _ (w : World ℕ) where
  pub wrote_taken : (b : Loud) (v : ℕ) → (wrote_by w b v).taken ≡ w.taken
  unfolding after_device_write
  wrote_taken (Port a) v = by (is_stored a) where
    by : (b : Bool) → (if b then record w { control = with_stored a v w.control } else w).taken ≡ w.taken
    by true = refl
    by false = refl
  wrote_taken (Shared k cell) v = refl

  pub wrote_control : (b : Loud) (v : ℕ) → (wrote_by w b v).control ≡ control_after b v w.control
  unfolding after_device_write
  wrote_control (Port a) v = by (is_stored a) where
    by : (b : Bool) → (if b then record w { control = with_stored a v w.control } else w).control ≡ (if b then with_stored a v w.control else w.control)
    by true = refl
    by false = refl
  wrote_control (Shared k cell) v = refl

  pub wrote_trace : (b : Loud) (v : ℕ) → map event_of (wrote_by w b v).trace ≡ map event_of w.trace ++ event_at true v (Some (cell_by b))
  unfolding after_device_write
  wrote_trace (Port a) v = by (is_stored a) where
    by : (b : Bool) → map event_of (noted (WriteOf (cells.Device a) (itself v)) (if b then record w { control = with_stored a v w.control } else w)).trace ≡ map event_of w.trace ++ event_at true v (Some (cells.Device a))
    by true = noted_trace (WriteOf (cells.Device a) (itself v)) (record w { control = with_stored a v w.control })
    by false = noted_trace (WriteOf (cells.Device a) (itself v)) w
  wrote_trace (Shared k cell) v = noted_trace (WriteOf cell v) w

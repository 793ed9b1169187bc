-- The lockstep: an image that keeps within what both chips have does on the second chip, ported, what it does on the first.
use Rattle.std.specs.Prelude.{ℕ, ◌+◌, ◌*◌, ◌/◌, ◌%◌, ◌≡◌, ◌<◌, Bool, true, false, not, ◌&&◌, ◌||◌, nat_eq, nat_lt, nat_le, if◌then◌else◌, List, length, Some, None, slice_index}
use Rattle.pic_isa.specs.declared.Ins.{Ins}
use Rattle.pic_isa.specs.Lookup.{row_of}
use Rattle.pic_world.specs.Arrivals.{arriving}
use Rattle.pic_chip.specs.Address as first
use Rattle.pic_chip.specs.Address.{Place, Pcl, Status, Fsr, Pclath, Intcon, Pir1, Pie1, General, Device, Nothing}
use Rattle.pic_chip.specs.Interrupts as chip
use Rattle.pic_chip.specs.Run as chip_run
use Rattle.pic_chip.specs.Run.{Range, Moment, object_at}
use Rattle.pic_chip.specs.State.{State}
use Rattle.pic_chip.specs.SmallAddress.{is_small_register}
use Rattle.chip_84a.specs.Machine.{room}
use Rattle.chip_84a.specs.Port.{file_operand, IsPorted}
use Rattle.chip_84a.specs.Run.{Setting, moment}

-- ---- what an instruction may touch
-- the place that an operand names on the first chip
abbrev pub place_of : State → ℕ → Place
place_of s f =
    if first.in_every_bank f then first.place 0 f else
    if nat_eq f 0 then first.indirect (256 * (s.bank / 4) + s.fsr) else first.place (s.bank % 4) f

-- Both chips have it: a core register, INTCON, a device register of the second chip, a byte from 20h to 4Fh, or, by its own operand, one from
-- 70h to 7Fh.
abbrev pub is_shared : Bool → Place → Bool
is_shared direct Pir1 = false
is_shared direct Pie1 = false
is_shared direct (General k) = nat_lt k 48 || (direct && (nat_le 80 k && nat_lt k 96))
is_shared direct (Device address) = is_small_register address
is_shared direct Nothing = false
is_shared direct _ = true

-- The instruction that runs in this state keeps within what both chips have: it stands below 1,024, RP1 and IRP are 0, and what it touches is
-- there on both.
pub record IsNear (image : List ℕ) (s : State) : Type 0 where
  pub pc : s.pc < 1024
  pub bank : s.bank < 2
  pub fsr : s.fsr < 256
  pub operand : (i : Ins) (f : ℕ) → row_of (slice_index image s.pc) ≡ Some i → file_operand (Some i) ≡ Some f → (f < 128) × (is_shared (not (nat_eq f 0)) (place_of s f) ≡ true)

-- ---- both states
-- the general bytes of both, of which the second chip has 68
pub record SameBytes (ram ram' : List ℕ) : Type 0 where
  pub count : length ram ≡ 368
  pub second_count : length ram' ≡ 368
  -- 20h to 4Fh
  pub low : (k : ℕ) → k < 48 → slice_index ram' (k + 20) ≡ slice_index ram k
  -- 70h to 7Fh, which are 0Ch to 1Bh
  pub common : (k : ℕ) → k < 16 → slice_index ram' k ≡ slice_index ram (k + 80)

-- The second chip's state beside one of the first, with bytes of its own. PIR1 may have flags on the first chip; it doesn't exist on the second.
abbrev pub twin : State → List ℕ → State
twin s ram = record s { ram = ram; pir1 = 0; pie1 = 0 }

pub record AreTwinMoments (a b : Moment) : Type 0 where
  pub bytes : SameBytes a.state.ram b.state.ram
  -- no flag of PIR1 lets an interrupt in on the first chip
  pub quiet : a.state.pie1 ≡ 0
  pub same : b ≡ record a { state = twin a.state b.state.ram }

-- ---- both runs
pub record AreAlike (g : chip_run.Setting) (h : Setting) : Type 0 where
  pub image : IsPorted g.image h.image
  pub watch : h.watch ≡ g.watch
  pub inputs : h.inputs ≡ g.inputs
  pub arrivals : h.arrivals ≡ g.arrivals
  pub w : h.start.w ≡ g.start.w
  pub fsr : h.start.fsr ≡ g.start.fsr
  pub flags : h.start.flags ≡ g.start.flags
  pub ram : SameBytes g.start.ram (room h.start.ram)
  -- no object stands at 70h to 7Fh
  pub clear : (k : ℕ) → k < 16 → object_at g.watch.ranges 0 (k + 0x70) ≡ None

-- As long as each instruction of the first chip is near, the one that begins at moment k among them, the second chip is beside it: the same
-- trace, the same accesses before main, the same program counter, return stack and registers, and the same bytes. Start values, input bytes and
-- arrivals may be any, arrivals of flags of PIR1 too.
abbrev pub Lockstep : Type 0
Lockstep =
    (g : chip_run.Setting) (h : Setting) → AreAlike g h → (n : ℕ)
    → ((k : ℕ) → k < n → IsNear g.image (chip.begun (arriving g.arrivals k) (chip_run.moment g k).state))
    → AreTwinMoments (chip_run.moment g n) (moment h n)

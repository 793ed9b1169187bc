-- A chip of the family seen beside the first one, and how both keep step: what a member has, its steps and runs, and a test that computes over all
-- addresses. The next chip is a value of `Member` for which the test is true.
use Rattle.std.specs.Prelude.{ℕ, zero, suc, ◌/◌, ◌%◌, ◌≡◌, ◌<◌, Bool, true, false, not, ◌&&◌, ◌||◌, nat_eq, nat_lt, nat_le, if◌then◌else◌, List, [], ◌∷◌, ◌++◌, length, Option, Some, None, slice_index, bit_or}
use Rattle.std.proofs.lemmas.Bool.{agree_below}
use Rattle.pic_isa.specs.declared.Ins.{Ins}
use Rattle.pic_isa.specs.Lookup.{row_of}
use Rattle.pic_world.specs.Arrivals.{arriving}
use Rattle.pic_world.specs.Control as control
use Rattle.pic_world.specs.Control.{has_bits}
use Rattle.pic_world.specs.Registers as all_registers
use Rattle.pic_world.specs.declared.Arrival.{Arrival}
use Rattle.pic_world.specs.declared.Cell.{Cell}
use Rattle.pic_world.specs.declared.Cell.TheVariants as cells
use Rattle.pic_world.specs.declared.Event.{Event}
use Rattle.pic_chip.specs.Act.{Act, Ask, Made, accesses, perform}
use Rattle.pic_chip.specs.Address as first
use Rattle.pic_chip.specs.Address.{Place, Pcl, Status, Fsr, Pclath, Intcon, Pir1, Pie1, General, Device, Nothing, address_of}
use Rattle.pic_chip.specs.Instructions.{Rule, act_by, is_modelled, is_return_from_interrupt, part, of, to, plain_row}
use Rattle.pic_chip.specs.Interrupts as chip
use Rattle.pic_chip.specs.Interrupts.{control_of, enter}
use Rattle.pic_chip.specs.Run as chip_run
use Rattle.pic_chip.specs.Run.{Range, Watch, Moment, object_at, event_at, observed}
use Rattle.pic_chip.specs.State.{State, AtPc, AtBank, AtFsr}
use Rattle.pic_chip.specs.State as chip_state
use Rattle.chip_84a.specs.Lockstep.{place_of}
use Rattle.chip_84a.specs.Port.{ported_row_by, file_operand}

-- ---- a member
pub record Member : Type 0 where
  -- how many words of program memory it has
  pub words : ℕ
  -- where an operand other than INDF's leads in bank 0 and in bank 1, and where FSR leads
  pub direct : ℕ → ℕ → Place
  pub pointed : ℕ → Place
  -- how many general bytes there are, the lowest address of each, the device registers, and which of them keep what is written to them
  pub bytes : ℕ
  pub lowest : ℕ → ℕ
  pub is_register : ℕ → Bool
  pub is_stored : ℕ → Bool
  -- it has PIR1 and PIE1, and their interrupts
  pub peripherals : Bool
  -- an access at such an address shows nothing
  pub hides : ℕ → Bool
  -- what an operand of the first chip is here
  pub operand : ℕ → ℕ
  -- which byte a general byte of the first chip is here, and back
  pub byte : ℕ → ℕ
  pub back : ℕ → ℕ
  -- general bytes of the first chip that it has; and those that it has for operands alone
  pub keeps : ℕ → Bool
  pub keeps_direct : ℕ → Bool

-- ---- its steps, over the state and the rows of pic_chip
-- an operand leads by RP0, and for INDF by FSR
abbrev pub operand_by : Member → ℕ → (Place → Act) → Act
operand_by m f next = if nat_eq f 0 then Ask AtFsr (λ fsr. next (m.pointed fsr)) else Ask AtBank (λ bank. next (m.direct (bank % 2) f))

abbrev pub rule_by : Member → Rule
rule_by m = record { find = operand_by m; bytes = m.bytes; lowest = m.lowest; is_register = m.is_register; is_stored = m.is_stored }

-- flags are set in INTCON, and in PIR1 where there is one
abbrev pub raise_by : Bool → ℕ → Act
raise_by true mask = chip.raise mask
raise_by false mask = plain_row (to chip_state.AtIntcon (of (λ x. bit_or x (mask % 8)) (part chip_state.AtIntcon)) ∷ [])

abbrev pub few_due : ℕ → Bool
few_due intcon = nat_eq (intcon / 128 % 2) 1 && (has_bits intcon 5 2 || has_bits intcon 4 1 || has_bits intcon 3 0)

abbrev pub due_by : Bool → State → Bool
due_by true s = control.is_due (control_of s)
due_by false s = few_due s.intcon

abbrev pub raised_by : Bool → ℕ → State → State
raised_by peripherals mask s = perform (raise_by peripherals mask) s

-- at a boundary the flags of the mask are set, and then a due interrupt is taken
abbrev pub begun_by : Bool → ℕ → State → State
begun_by peripherals mask s = let r = raised_by peripherals mask s in if due_by peripherals r then perform enter r else r

abbrev pub fetched_by : ℕ → List ℕ → State → Option Ins
fetched_by words image s = row_of (slice_index image (s.pc % words))

abbrev pub execute_by : Member → List ℕ → List ℕ → Act
execute_by m image inputs = Ask AtPc (λ pc. act_by (rule_by m) inputs pc (row_of (slice_index image (pc % m.words))))

-- ---- its runs
abbrev pub cell_by : Member → List Range → ℕ → Option Cell
cell_by m ranges address = if m.is_register address then Some (cells.Device address) else if m.hides address then None else object_at ranges 0 address

abbrev pub events_by : Member → List Range → List Made → List Event
events_by m ranges [] = []
events_by m ranges (a ∷ rest) = event_at a.write a.byte (cell_by m ranges a.address) ++ events_by m ranges rest

abbrev pub registers_by : Member → List Made → List Made
registers_by m [] = []
registers_by m (a ∷ rest) = if m.is_register a.address then a ∷ registers_by m rest else registers_by m rest

abbrev pub handling_by : Bool → ℕ → Moment → Bool
handling_by peripherals mask x = x.handling || due_by peripherals (raised_by peripherals mask x.state)

abbrev pub stepped_by : Member → List ℕ → List ℕ → List Range → ℕ → Moment → Moment
stepped_by m image inputs ranges mask x =
    let s = begun_by m.peripherals mask x.state in
    let made = accesses (execute_by m image inputs) s in
    record x {
      state = perform (execute_by m image inputs) s;
      handling = handling_by m.peripherals mask x && not (is_return_from_interrupt (fetched_by m.words image s));
      early = if x.met then x.early else x.early ++ registers_by m made;
      trace = if x.met then x.trace ++ events_by m ranges made else x.trace;
    }

abbrev pub ends_by : Member → List ℕ → ℕ → Moment → Bool
ends_by m image mask x = x.stopped || not (is_modelled (fetched_by m.words image (begun_by m.peripherals mask x.state)))

abbrev pub next_by : Member → List ℕ → List ℕ → Watch → ℕ → Moment → Moment
next_by m image inputs watch mask x = if ends_by m image mask x then record x { stopped = true } else observed watch (stepped_by m image inputs watch.ranges mask x)

pub record Setting : Type 0 where
  pub image : List ℕ
  pub watch : Watch
  pub reset : State
  pub inputs : List ℕ
  pub arrivals : List Arrival

abbrev pub at_reset : State → Moment
at_reset s = record { state = s; stopped = false; handling = false; met = false; ended = false; early = []; trace = [] }

unfoldable pub moment_by : Member → Setting → ℕ → Moment
moment_by m g zero = observed g.watch (at_reset g.reset)
moment_by m g (suc k) = next_by m g.image g.inputs g.watch (arriving g.arrivals k) (moment_by m g k)

-- ---- what both have
abbrev pub has : Member → Bool → Place → Bool
has m direct Pir1 = m.peripherals
has m direct Pie1 = m.peripherals
has m direct (General k) = nat_lt k 368 && (m.keeps k || (direct && m.keeps_direct k))
has m direct (Device address) = nat_lt address 512 && m.is_register address
has m direct Nothing = false
has m direct _ = true

-- The instruction that runs in this state keeps within what both chips have, in banks 0 and 1.
pub record StaysNear (m : Member) (image : List ℕ) (s : State) : Type 0 where
  pub pc : s.pc < m.words
  pub bank : s.bank < 2
  pub fsr : s.fsr < 256
  pub operand : (i : Ins) (f : ℕ) → row_of (slice_index image s.pc) ≡ Some i → file_operand (Some i) ≡ Some f → (f < 128) × (has m (not (nat_eq f 0)) (place_of s f) ≡ true)

abbrev pub shared_byte : Member → ℕ → Bool
shared_byte m k = m.keeps k || m.keeps_direct k

pub record ShareBytes (m : Member) (ram ram' : List ℕ) : Type 0 where
  pub count : length ram ≡ 368
  pub second_count : length ram' ≡ 368
  pub same : (k : ℕ) → k < 368 → shared_byte m k ≡ true → slice_index ram' (m.byte k) ≡ slice_index ram k

-- the state of the member beside one of the first, with bytes of its own
abbrev pub twin_by : Bool → State → List ℕ → State
twin_by peripherals s ram = record s { ram = ram; pir1 = if peripherals then s.pir1 else 0; pie1 = if peripherals then s.pie1 else 0 }

pub record AreBeside (m : Member) (a b : Moment) : Type 0 where
  pub bytes : ShareBytes m a.state.ram b.state.ram
  -- no flag of PIR1 lets an interrupt in where the member has none
  pub quiet : m.peripherals ≡ false → a.state.pie1 ≡ 0
  pub same : b ≡ record a { state = twin_by m.peripherals a.state b.state.ram }

pub record BeginAlike (m : Member) (g : chip_run.Setting) (h : Setting) : Type 0 where
  pub image : (at : ℕ) → at < 8192 → row_of (slice_index h.image at) ≡ ported_row_by m.operand (row_of (slice_index g.image at))
  pub watch : h.watch ≡ g.watch
  pub inputs : h.inputs ≡ g.inputs
  pub arrivals : h.arrivals ≡ g.arrivals
  pub ram : List ℕ
  pub bytes : ShareBytes m (chip_state.reset g.start).ram ram
  pub reset : h.reset ≡ twin_by m.peripherals (chip_state.reset g.start) ram
  -- no object stands at a byte whose accesses the member hides
  pub clear : (k : ℕ) → k < 368 → shared_byte m k ≡ true → m.hides (m.lowest (m.byte k)) ≡ true → object_at g.watch.ranges 0 (address_of k) ≡ None

-- ---- the test
abbrev pub is_same : Place → Place → Bool
is_same Pcl Pcl = true
is_same Status Status = true
is_same Fsr Fsr = true
is_same Pclath Pclath = true
is_same Intcon Intcon = true
is_same Pir1 Pir1 = true
is_same Pie1 Pie1 = true
is_same (General j) (General k) = nat_eq j k
is_same (Device a) (Device b) = nat_eq a b
is_same _ _ = false

-- a place of the first chip as the member numbers its bytes
abbrev pub twin_place : Member → Place → Place
twin_place m (General k) = General (m.byte k)
twin_place m p = p

abbrev pub first_direct : ℕ → ℕ → Place
first_direct bank f = if first.in_every_bank f then first.place 0 f else first.place bank f

-- an operand other than INDF's leads to the same place, by its bank and its seven bits
abbrev pub direct_test : Member → ℕ → Bool
direct_test m n =
    nat_eq (n % 128) 0 || (not (has m true (first_direct (n / 128) (n % 128)))
    || (not (nat_eq (m.operand (n % 128)) 0) && is_same (m.direct (n / 128) (m.operand (n % 128))) (twin_place m (first_direct (n / 128) (n % 128)))))

-- and INDF by FSR
abbrev pub pointed_test : Member → ℕ → Bool
pointed_test m n = not (has m false (first.indirect n)) || is_same (m.pointed n) (twin_place m (first.indirect n))

-- a device register is one of the first chip
abbrev pub register_test : Member → ℕ → Bool
register_test m a = not (m.is_register a) || all_registers.is_register a

-- A byte goes there and back, has room, and is no register on either chip. It has the same address, or what is done with it shows nothing.
abbrev pub byte_test : Member → ℕ → Bool
byte_test m k =
    not (shared_byte m k)
    || ((nat_eq (m.back (m.byte k)) k && nat_lt (m.byte k) 368)
    && ((not (m.is_register (m.lowest (m.byte k))) && not (all_registers.is_register (address_of k)))
    && (m.hides (m.lowest (m.byte k)) || nat_eq (m.lowest (m.byte k)) (address_of k))))

-- core registers are watched like objects, and the three registers of interrupts are device registers
abbrev pub core_test : Member → Bool
core_test m =
    (nat_eq (m.operand 0) 0 && (nat_lt 0 m.words && nat_le m.words 8192))
    && ((not (m.is_register 2) && not (m.hides 2)) && ((not (m.is_register 3) && not (m.hides 3)) && ((not (m.is_register 4) && not (m.hides 4)) && ((not (m.is_register 10) && not (m.hides 10))
    && (m.is_register 11 && (not m.peripherals || (m.is_register 12 && m.is_register 0x8c)))))))

pub record Fits (m : Member) : Type 0 where
  pub core : core_test m ≡ true
  pub direct : agree_below (direct_test m) (λ n. true) 256 ≡ true
  pub pointed : agree_below (pointed_test m) (λ n. true) 256 ≡ true
  pub registers : agree_below (register_test m) (λ n. true) 512 ≡ true
  pub bytes : agree_below (byte_test m) (λ n. true) 368 ≡ true

-- ---- the law
-- Of each member that passes the test: as long as each instruction of the first chip is near, the member is beside it.
abbrev pub FamilyKeepsStep : Type 0
FamilyKeepsStep =
    (m : Member) → Fits m → (g : chip_run.Setting) (h : Setting) → BeginAlike m g h → (n : ℕ)
    → ((k : ℕ) → k < n → StaysNear m g.image (chip.begun (arriving g.arrivals k) (chip_run.moment g k).state))
    → AreBeside m (chip_run.moment g n) (moment_by m h n)

-- What runs of the handler leave of main: its context is back behind each of them, few bytes are another, and main's instructions without
-- an event may as well come behind them.
use Rattle.std.specs.Prelude.{ℕ, zero, suc, ◌+◌, ◌-◌, ◌/◌, ◌%◌, ◌≡◌, ◌≢◌, ◌<◌, ◌≤◌, Bool, true, false, ◌&&◌, nat_le, nat_lt, if◌then◌else◌, [], length, Some, slice_index}
use Rattle.pic_chip.specs.Act.{accesses, perform}
use Rattle.pic_chip.specs.Instructions.{execute}
use Rattle.pic_chip.specs.Interrupts.{control_of}
use Rattle.pic_chip.specs.Run as chip
use Rattle.pic_chip.specs.Run.{moment, takes, is_handling, events_of}
use Rattle.pic_chip.specs.State.{State}
use Rattle.pic_world.specs.Arrivals.{arriving}
use Rattle.pic_world.specs.Bits.{truth}
use Rattle.pic_world.specs.declared.Root.TheVariants.{Main, Isr}
use Rattle.sym_code.specs.Effect.{Setting, Memory}
use Rattle.sym_code.specs.Layout.{Owner, Watched, Constant, Of, Nobody, owner}
use Rattle.sym_code.specs.Machine.{Entry}
use Rattle.sym_code.specs.Registers.{Registers}
use Rattle.sym_code.specs.declared.code.BlockName.{BlockName}
use Rattle.bank_page.specs.declared.known.Known.{Known}
use Rattle.chip_trace.specs.Arriving.{IsRunning, Throughout}

-- ---- the context
-- s has the registers of k: W, the parts of STATUS, FSR, and PCLATH with all five bits
pub record HasRegisters (k s : State) : Type 0 where
  pub w : s.w ≡ k.w
  pub bank : s.bank ≡ k.bank
  pub z : s.z ≡ k.z
  pub dc : s.dc ≡ k.dc
  pub c : s.c ≡ k.c
  pub fsr : s.fsr ≡ k.fsr
  pub pclath : s.pclath ≡ k.pclath

-- Main goes on at s as it would at k: with these registers, at the same place, with as many words on the return stack, and the same
-- words in those that are in use.
pub record IsBack (k s : State) : Type 0 where
  pub registers : HasRegisters k s
  pub pc : s.pc ≡ k.pc
  pub depth : s.pushes + k.pops ≡ k.pushes + s.pops
  pub stack : (j : ℕ) → k.pops + j < k.pushes → slice_index s.stack j ≡ slice_index k.stack j

-- ---- what is selected
-- What is known of selected bits holds of this state: where a block's page is known to be selected, PCLATH has its bits.
pub record Knows (pages : BlockName → ℕ) (k : Known) (s : State) : Type 0 where
  pub rp0 : (b : Bool) → k.rp0 ≡ Some b → s.bank % 2 ≡ truth b
  pub rp1 : (b : Bool) → k.rp1 ≡ Some b → s.bank / 2 % 2 ≡ truth b
  pub low : (n : BlockName) → k.low ≡ Some n → s.pclath / 8 % 2 ≡ pages n % 2
  pub high : (n : BlockName) → k.high ≡ Some n → s.pclath / 8 / 2 % 2 ≡ pages n / 2 % 2

-- The same is selected at s as at k, RP0, RP1 and IRP and all five bits of PCLATH, so whatever is known of it holds again.
pub record HasSelected (pages : BlockName → ℕ) (k s : State) : Type 0 where
  pub bank : s.bank ≡ k.bank
  pub pclath : s.pclath ≡ k.pclath
  pub facts : (known : Known) → Knows pages known k → Knows pages known s

-- ---- whole runs
-- A whole run of the handler: main is under way at moment `from` and the interrupt is taken there; `to` is the first moment after it at
-- which main is under way again, directly behind the return.
pub record IsHandled (c : chip.Setting) (from to : ℕ) : Type 0 where
  pub met : (moment c from).met ≡ true
  pub before : (moment c from).handling ≡ false
  pub taken : takes (arriving c.arrivals from) (moment c from) ≡ true
  pub later : from < to
  pub within : (k : ℕ) → from < k → k < to → (moment c k).handling ≡ true
  pub behind : (moment c to).handling ≡ false

-- ---- the footprint
-- the four bytes of the saved context, by their numbers among the general bytes
abbrev pub is_context : ℕ → Bool
is_context b = nat_le 88 b && nat_lt b 92

-- the handler's run may write it: a byte of a static object that isn't const, one of its own frames and results, or one of the saved
-- context
abbrev pub is_handlers : ℕ → Owner → Bool
is_handlers b (Watched cell) = true
is_handlers b Constant = false
is_handlers b (Of Main) = false
is_handlers b (Of Isr) = true
is_handlers b Nobody = is_context b

-- ---- runs of main
module _ (c : chip.Setting) where
  -- the state after so many instructions, with no interrupt between them
  unfoldable pub executed : ℕ → State → State
  executed zero s = s
  executed (suc j) s = perform (execute c.image c.inputs) (executed j s)

  -- how many of so many instructions from a moment on are main's
  unfoldable pub mains : ℕ → ℕ → ℕ
  mains from zero = 0
  mains from (suc d) = if is_handling (arriving c.arrivals (from + d)) (moment c (from + d)) then mains from d else suc (mains from d)

  -- Main is under way at both moments and hasn't ended, and between them only the handler's runs make events.
  pub record IsSilent (from to : ℕ) : Type 0 where
    pub met : (moment c from).met ≡ true
    pub first : (moment c from).handling ≡ false
    pub later : from ≤ to
    pub last : (moment c to).handling ≡ false
    pub going : (moment c to).ended ≡ false
    pub silent : (k : ℕ) → from ≤ k → k < to → is_handling (arriving c.arrivals k) (moment c k) ≡ false → (moment c (k + 1)).trace ≡ (moment c k).trace

module _ (g : Setting) (c : chip.Setting) where
  -- main's frames and results
  abbrev pub HasMains : State → State → Type 0
  HasMains k s = (b : ℕ) → owner g.program.layout b ≡ Of Main → slice_index s.ram b ≡ slice_index k.ram b

  -- Up to moment n the context is back behind each whole run of the handler, and so are main's own bytes.
  pub record GivesBack (e : Entry) (r : Registers) (m : Memory) (n : ℕ) : Type 0 where
    pub context : IsRunning g c e r m n → (from to : ℕ) → IsHandled c from to → to ≤ n → IsBack (moment c from).state (moment c to).state
    pub own : IsRunning g c e r m n → (from to : ℕ) → IsHandled c from to → to ≤ n → HasMains (moment c from).state (moment c to).state

  -- Up to moment n what main has selected before a whole run of the handler is selected behind it.
  abbrev pub HoldsSelected : Entry → Registers → Memory → ℕ → Type 0
  HoldsSelected e r m n = IsRunning g c e r m n → (from to : ℕ) → IsHandled c from to → to ≤ n → HasSelected g.page_of (moment c from).state (moment c to).state

  -- Up to moment n every other byte is left as it was by each instruction of the handler's runs, those of saving and restoring among them,
  -- and so by each whole run.
  pub record Spares (e : Entry) (r : Registers) (m : Memory) (n : ℕ) : Type 0 where
    pub each : IsRunning g c e r m n → (k b : ℕ) → k < n → (moment c k).met ≡ true → is_handling (arriving c.arrivals k) (moment c k) ≡ true
        → is_handlers b (owner g.program.layout b) ≡ false → slice_index (moment c (k + 1)).state.ram b ≡ slice_index (moment c k).state.ram b
    pub whole : IsRunning g c e r m n → (from to b : ℕ) → IsHandled c from to → to ≤ n → is_handlers b (owner g.program.layout b) ≡ false
        → slice_index (moment c to).state.ram b ≡ slice_index (moment c from).state.ram b

  -- ---- main's instructions behind the handler's runs
  -- A state at which main stands as at the first moment, while what is of the handler, and what both see, is as at the second: as the
  -- handler's runs leave it that come before main's instructions. Bytes of nobody may be others, the saved context among them, since
  -- such runs save main's registers of the first moment.
  pub record IsBefore (from to : ℕ) (s : State) : Type 0 where
    pub back : IsBack (moment c from).state s
    pub own : HasMains (moment c from).state s
    pub others : (b : ℕ) → owner g.program.layout b ≢ Of Main → owner g.program.layout b ≢ Nobody → slice_index s.ram b ≡ slice_index (moment c to).state.ram b
    pub fits : (b : ℕ) → slice_index s.ram b < 256
    pub control : control_of s ≡ control_of (moment c to).state
    pub taken : s.taken ≡ (moment c to).state.taken
    pub bytes : length s.ram ≡ 368
    pub words : length s.stack ≡ 8

  -- Main's instructions from there make no event, change no byte but main's, and come to the second moment's state, but for words of the
  -- return stack that aren't in use and bytes of nobody.
  pub record ComesBehind (from to : ℕ) (s : State) : Type 0 where
    pub back : IsBack (moment c to).state (executed c (mains c from (to - from)) s)
    pub own : HasMains (moment c to).state (executed c (mains c from (to - from)) s)
    pub others : (b : ℕ) → owner g.program.layout b ≢ Of Main → slice_index (executed c (mains c from (to - from)) s).ram b ≡ slice_index s.ram b
    pub control : control_of (executed c (mains c from (to - from)) s) ≡ control_of (moment c to).state
    pub taken : (executed c (mains c from (to - from)) s).taken ≡ (moment c to).state.taken
    pub silent : (j : ℕ) → j < mains c from (to - from) → events_of c.watch.ranges (accesses (execute c.image c.inputs) (executed c j s)) ≡ []

  -- Up to moment n main's instructions without an event may be put behind all runs of the handler that came between them.
  abbrev pub GoesPast : Entry → Registers → Memory → ℕ → Type 0
  GoesPast e r m n = IsRunning g c e r m n → (from to : ℕ) (s : State) → IsSilent c from to → to ≤ n → IsBefore from to s → ComesBehind from to s

abbrev pub Returning : Type 0
Returning = Throughout GivesBack

abbrev pub HoldingSelected : Type 0
HoldingSelected = Throughout HoldsSelected

abbrev pub Sparing : Type 0
Sparing = Throughout Spares

abbrev pub Passing : Type 0
Passing = Throughout GoesPast

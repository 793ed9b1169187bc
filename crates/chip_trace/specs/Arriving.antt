-- What an image keeps on the chip, with interrupts between any two instructions: the trace of an early run of its symbolic code, in
-- which the handler is entered whole directly behind an event.
use Rattle.std.specs.Prelude.{ℕ, ◌+◌, ◌-◌, ◌/◌, ◌≡◌, ◌<◌, ◌≤◌, Bool, true, false, ◌&&◌, nat_eq, nat_lt, List, [], ◌∷◌, ◌++◌, length, map, Option, Some, None, slice_index, slice_get, bit_or, zero, suc}
use Rattle.std.specs.List.{All, Contains}
use Rattle.pic_world.specs.World.{Outside, Happening, outside_of, event_of}
use Rattle.pic_world.specs.Arrivals.{arriving}
use Rattle.pic_world.specs.Control.{control_at_reset, raised_by}
use Rattle.pic_chip.specs.Interrupts.{control_of, begun}
use Rattle.chip_trace.specs.Entries.{begins, memory_at, handler_finds}
use Rattle.chip_trace.specs.Keeping.{TouchesThere}
use Rattle.pic_world.specs.declared.Arrival.{Arrival}
use Rattle.pic_world.specs.declared.Cell.{Cell}
use Rattle.pic_world.specs.declared.Root.TheVariants.{Main, Isr}
use Rattle.pic_chip.specs.Run as chip
use Rattle.pic_chip.specs.Run.{IsStart, moment, takes, is_handling, Watch}
use Rattle.pic_map.specs.declared.Placed.{Placed}
use Rattle.run_links.specs.Runs.{Run}
use Rattle.schedule.specs.Off.{read_off}
use Rattle.core_code.specs.Bytes.{Held}
use Rattle.core_code.specs.Cost.{context_cost}
use Rattle.core_code.specs.declared.code.Byte.{Byte}
use Rattle.core_code.specs.declared.code.Byte.TheVariants as bytes
use Rattle.sym_code.specs.Correct.{IsBegun, AreEntries}
use Rattle.sym_code.specs.Effect.{Setting, Memory}
use Rattle.sym_code.specs.Layout.{all_near, IsLaidOut, Owner, owner, Watched, Of}
use Rattle.sym_code.specs.Machine.{Entry, sym_start, sym_run}
use Rattle.sym_code.specs.Programs.{block_in, block_of, label_from}
use Rattle.sym_code.specs.Registers.{Registers, Fits, no_leaves}
use Rattle.sym_code.specs.Runs.{run_of}
use Rattle.sym_code.specs.Words.{words_in}
use Rattle.sym_code.specs.declared.code.BlockName.{BlockName}
use Rattle.sym_code.specs.declared.code.BlockName.TheVariants.{Start, Copy}
use Rattle.sym_code.specs.declared.code.Label.TheVariants.{Halt, Restore}
use Rattle.sym_code.specs.declared.code.Literal.TheVariants as literals
use Rattle.sym_code.specs.declared.code.PageBit.{PageBit}
use Rattle.sym_code.specs.declared.code.PageBit.TheVariants.{Low, High}
use Rattle.sym_code.specs.declared.code.Sym.{Sym}
use Rattle.sym_code.specs.declared.code.Sym.TheVariants as syms
use Rattle.sym_code.specs.declared.code.SymBlock.{SymBlock}
use Rattle.sym_code.specs.declared.code.Target.{Target}
use Rattle.sym_code.specs.declared.code.Target.TheVariants as targets
use Rattle.sym_code.specs.Cost.{times_in}
use Rattle.code_place.specs.Instructions.{known}
use Rattle.code_place.specs.Layouts.{program_of, page_of}
use Rattle.code_place.specs.Pages.{page_words}
use Rattle.code_place.specs.Places.{block_place, label_place, target_for, HoldsInstructions, BlocksHaveAddresses, TargetsStand}
use Rattle.code_place.specs.Sizes.{Fit}
use Rattle.isr_save.specs.Start.{saving, restoring}

-- ---- what is given
-- selects of the page in which the handler's block stands, and both of its bits among them
abbrev pub is_to_handler : ℕ → Target → Bool
is_to_handler handler (targets.Block (Copy c)) = nat_eq c handler
is_to_handler handler _ = false

abbrev pub are_page_selects : ℕ → List Sym → Bool
are_page_selects handler [] = true
are_page_selects handler (syms.SelectPage bit target ∷ rest) = is_to_handler handler target && are_page_selects handler rest
are_page_selects handler (_ ∷ rest) = false

abbrev pub has_low : List Sym → Bool
has_low [] = false
has_low (syms.SelectPage Low target ∷ rest) = true
has_low (s ∷ rest) = has_low rest

abbrev pub has_high : List Sym → Bool
has_high [] = false
has_high (syms.SelectPage High target ∷ rest) = true
has_high (s ∷ rest) = has_high rest

-- The vector stands behind four words: it saves main's context, goes to the handler, and behind the label `Restore` gives the
-- context back. The label is the first of its name, and saving and the way to the handler take no more than is paid for it.
pub record HasVector (list : List Sym) (handler : ℕ) : Type 0 where
  pub before : List Sym
  pub four : words_in before ≡ 4
  pub first : label_from before Restore 0 ≡ None
  pub selects : List Sym
  pub few : length selects + 8 ≤ context_cost
  pub of_page : are_page_selects handler selects ≡ true
  pub both : (has_low selects && has_high selects) ≡ true
  pub behind : List Sym
  pub whole : list ≡ before ++ saving ++ selects ++ (syms.Goto (targets.Block (Copy handler)) ∷ []) ++ restoring ++ behind

abbrev pub HasVectorFor : List Sym → Option ℕ → Type 0
HasVectorFor list None = Unit {0}
HasVectorFor list (Some handler) = HasVector list handler

-- Where main has ended the start block goes back to where it is for ever, with selects of its own page; the label is the first of its
-- name.
abbrev pub are_halt_selects : List Sym → Bool
are_halt_selects [] = true
are_halt_selects (syms.SelectPage bit (targets.Label Halt) ∷ rest) = are_halt_selects rest
are_halt_selects (_ ∷ rest) = false

pub record HasHalt (list : List Sym) : Type 0 where
  pub before : List Sym
  pub first : label_from before Halt 0 ≡ None
  pub selects : List Sym
  pub of_page : are_halt_selects selects ≡ true
  pub behind : List Sym
  pub whole : list ≡ before ++ (syms.Label Halt ∷ []) ++ selects ++ (syms.Goto (targets.Label Halt) ∷ []) ++ behind

-- a number fits into its literal, and so does an address
abbrev pub is_near : Byte → Bool
is_near (bytes.Device address) = nat_lt address 512
is_near _ = true

abbrev pub is_small : Sym → Bool
is_small (syms.Literal op (literals.Number n)) = nat_lt n 256
is_small (syms.Literal op (literals.Low byte)) = is_near byte
is_small (syms.Literal op (literals.High byte)) = is_near byte
is_small _ = true

-- it doesn't go to the start block
abbrev pub is_outside : Target → Bool
is_outside (targets.Block Start) = false
is_outside _ = true

abbrev pub keeps_out : Sym → Bool
keeps_out (syms.Call target) = is_outside target
keeps_out (syms.Goto target) = is_outside target
keeps_out _ = true

-- how many calls may wait at the same time, and an interrupt between them
abbrev pub depth_for : Option ℕ → (Bool → ℕ) → ℕ
depth_for None limit = limit false
depth_for (Some handler) limit = limit false + 1 + limit true

-- an image that these blocks make, with their selects
pub record IsAssembled (blocks : List SymBlock) (at : List ℕ) (placed : Placed) (handler : Option ℕ) (image : List ℕ) (watch : Watch) (g : Setting) : Type 0 where
  pub code : g.program ≡ program_of blocks handler placed
  pub banked : g.banked ≡ true
  pub pages : g.page_of ≡ page_of blocks at
  pub leaves : g.leaves ≡ no_leaves
  pub fit : Fit blocks at
  pub words : HoldsInstructions placed blocks at image
  pub named : BlocksHaveAddresses placed blocks at
  pub targets : TargetsStand blocks at
  pub main : block_place blocks at (Copy 0) ≡ Some watch.main
  pub halt : label_place blocks at Halt ≡ Some watch.halt
  -- the start block is the first of the list, and stands at 0000h
  pub start : (block : SymBlock) × (slice_get blocks 0 ≡ Some block) × (block.name ≡ Start)
  pub starts : block_place blocks at Start ≡ Some 0
  pub vector : HasVectorFor (block_in blocks Start) handler
  pub halts : HasHalt (block_in blocks Start)
  pub ranges : watch.ranges ≡ g.program.layout.objects
  pub small : (name : BlockName) (i : ℕ) (s : Sym) → slice_get (block_in blocks name) i ≡ Some s → is_small s ≡ true
  -- a select is for the page of the block in which its target is
  pub selects : (k : ℕ) (block : SymBlock) (start i : ℕ) (bit : PageBit) (target : Target) → slice_get blocks k ≡ Some block → slice_get at k ≡ Some start
      → slice_get block.list.items i ≡ Some (syms.SelectPage bit target) → known (target_for blocks at block start target) / page_words ≡ g.page_of (block_of block.name target)
  -- no code of a copy goes to the start block
  pub outside : (copy i : ℕ) (s : Sym) → slice_get (block_in blocks (Copy copy)) i ≡ Some s → keeps_out s ≡ true
  -- objects and frames have their places, and both chains of calls and the interrupt fit the return stack
  pub reaches : ℕ → ℕ → Bool
  pub laid_out : IsLaidOut reaches g.program.layout
  pub depth : depth_for handler g.limit ≤ 8

-- ---- the early run
-- how many instructions more than a stretch of the early run the chip may take for it: those of one return from the handler
abbrev pub slack : ℕ
slack = 192

-- it is the first moment at which a trace has this length
pub record ComesTo {E : Type 0} (run : Run E) (long at : ℕ) : Type 0 where
  pub here : length (run.trace at) ≡ long
  pub before : (i : ℕ) → i < at → length (run.trace i) < long

-- whose frame a byte is of: main's stay while the handler runs, and the handler's while main does
abbrev pub is_kept : Bool → Owner → Bool
is_kept true (Of Main) = true
is_kept false (Of Isr) = true
is_kept handling _ = false

module _ (g : Setting) (c : chip.Setting) where
  -- what comes from outside: the inputs, and the arrivals up to moment n where they fall in the chip's trace
  abbrev pub outside_at : ℕ → Outside
  outside_at n = outside_of c.inputs (read_off (λ k. (moment c k).trace) n c.arrivals)

  abbrev pub early : Entry → Registers → Memory → ℕ → Run (Happening ℕ)
  early e r m n = run_of g (times_in g.program.block) e (outside_at n) (sym_start g.program r m)

  -- Under the schedule read off up to each moment k no step is stuck that comes after at most k instructions, while its trace is
  -- no longer than the chip's at that moment.
  abbrev pub IsRunning : Entry → Registers → Memory → ℕ → Type 0
  IsRunning e r m n =
      (k i : ℕ) → k ≤ n → (early e r m k).least i ≤ k → length ((early e r m k).trace i) ≤ length (moment c k).trace
      → (early e r m k).goes i ≡ true

  -- no flag arrives behind moment t and up to moment n
  abbrev pub IsQuiet : ℕ → ℕ → Type 0
  IsQuiet t n = (a : Arrival) → Contains c.arrivals a → t < a.t → n < a.t

  -- ---- what is kept
  -- At moment n the early run has come to one of its own, the given one or a later one, which takes n instructions at most by the
  -- least that they cost: their traces are the same, and behind main's first instruction so is each byte of a static object that
  -- isn't const.
  pub record IsMet (e : Entry) (r : Registers) (m : Memory) (n first : ℕ) : Type 0 where
    pub at : ℕ
    pub behind : first ≤ at
    pub soon : (early e r m n).least at ≤ n
    pub trace : (moment c n).trace ≡ map event_of ((early e r m n).trace at)
    pub bytes : (k : ℕ) (cell : Cell) → (moment c n).met ≡ true → owner g.program.layout k ≡ Watched cell
        → slice_index (moment c n).state.ram k ≡ (sym_run g e (outside_at n) at (sym_start g.program r m)).memory k

  -- Up to moment n, from these registers and bytes on, which main finds, and with these registers, which the handler finds at its
  -- entries.
  pub record Arrives (e : Entry) (r : Registers) (m : Memory) (n : ℕ) : Type 0 where
    pub meets : IsRunning e r m n → IsMet e r m n 0
    -- Where no flag arrives any more, the chip takes no more instructions for a stretch than the early run, and a few.
    pub pace : (t i j : ℕ) → IsRunning e r m n → t ≤ n → (moment c t).met ≡ true → IsQuiet t n → ComesTo (early e r m n) (length (moment c t).trace) i
        → (early e r m n).most j + slack ≤ (early e r m n).most i + (n - t) → IsMet e r m n j
    pub no_underflow : (k : ℕ) → IsRunning e r m n → k ≤ n → (moment c k).state.pops ≤ (moment c k).state.pushes
    pub no_overflow : (k : ℕ) → IsRunning e r m n → k ≤ n → (moment c k).state.pushes ≤ (moment c k).state.pops + 8
    pub frames : (k b : ℕ) → IsRunning e r m n → k < n → (moment c k).met ≡ true
        → is_kept (is_handling (arriving c.arrivals k) (moment c k)) (owner g.program.layout b) ≡ true
        → slice_index (moment c (k + 1)).state.ram b ≡ slice_index (moment c k).state.ram b

-- each block ends by this address
abbrev pub EndsBy : List SymBlock → List ℕ → ℕ → Type 0
EndsBy blocks at end = (k : ℕ) (block : SymBlock) (start : ℕ) → slice_get blocks k ≡ Some block → slice_get at k ≡ Some start → start + words_in block.list.items ≤ end

-- the flags of the arrivals before moment n, as a mask
abbrev pub arrived_before : List Arrival → ℕ → ℕ
arrived_before arrivals zero = 0
arrived_before arrivals (suc n) = bit_or (arrived_before arrivals n) (arriving arrivals n)

-- At moment k, before main is met, an instruction of the start block begins, and no interrupt is taken; in a near layout RP1 and IRP are 0.
pub record IsStarting (g : Setting) (c : chip.Setting) (k : ℕ) : Type 0 where
  pub pc : (moment c k).state.pc < words_in (g.program.block Start)
  pub untaken : takes (arriving c.arrivals k) (moment c k) ≡ false
  pub low : all_near g.program.layout ≡ true → (moment c k).state.bank < 2
  pub touches : TouchesThere g.program c.image (begun (arriving c.arrivals k) (moment c k).state)

-- The start block has done its part: main is met soon, its objects hold their first bytes, and no device register was accessed. Of
-- the registers by which interrupts come only flags were set, by what arrived so far. That it does so is a theorem of its own.
pub record IsStarted (g : Setting) (first : List (List Held)) (c : chip.Setting) : Type 0 where
  pub at : ℕ
  pub soon : at ≤ 4096
  pub met : (moment c at).met ≡ true
  pub first_met : (k : ℕ) → k < at → (moment c k).met ≡ false
  pub silent : (moment c at).trace ≡ []
  pub no_early_access : (n : ℕ) → (moment c n).early ≡ []
  pub begun : (registers : Registers) → Fits registers → IsBegun first g.program.layout registers (slice_index (moment c at).state.ram)
  pub control : control_of (moment c at).state ≡ raised_by (arrived_before c.arrivals at) control_at_reset
  -- until then the start block runs, nothing is called, and no interrupt is taken
  pub starting : (k : ℕ) → k < at → IsStarting g c k
  pub level : (k : ℕ) → k ≤ at → (moment c k).state.pushes ≡ (moment c k).state.pops
  pub outside : (moment c at).handling ≡ false
  -- it stands at main there, and in a near layout RP1 and IRP are 0
  pub pc : (moment c at).state.pc ≡ c.watch.main
  pub low : all_near g.program.layout ≡ true → (moment c at).state.bank < 2

-- ---- what is promised
-- What main begins with and what the handler finds is such as a thread may begin with.
abbrev pub Fitting : Type 0
Fitting = (g : Setting) (c : chip.Setting) (at : ℕ) → Fits (begins c at) × ((n : ℕ) → AreEntries (handler_finds g c at n))

-- For every start, input list and arrival list this holds up to each moment, with what main finds and with what the handler finds at its
-- entries.
abbrev pub Throughout : (Setting → chip.Setting → Entry → Registers → Memory → ℕ → Type 0) → Type 0
Throughout Holds =
    (blocks : List SymBlock) (at : List ℕ) (placed : Placed) (handler : Option ℕ) (first : List (List Held)) (g : Setting) (c : chip.Setting)
    → IsAssembled blocks at placed handler c.image c.watch g → IsStart c.start → All (λ byte. byte < 256) c.inputs
    → (started : IsStarted g first c) → (n : ℕ) → Holds g c (handler_finds g c started.at n) (begins c started.at) (memory_at c started.at) n

-- What the words and the context promise together.
abbrev pub Arriving : Type 0
Arriving = Throughout Arrives

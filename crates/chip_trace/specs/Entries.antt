-- With what main begins on the chip, and what the handler finds in the registers each time it is entered.
use Rattle.std.specs.Prelude.{ℕ, zero, suc, ◌/◌, ◌%◌, Bool, ◌&&◌, nat_eq, nat_le, if◌then◌else◌, List, [], ◌∷◌, ◌++◌, slice_index}
use Rattle.pic_chip.specs.Act.{perform}
use Rattle.pic_chip.specs.Interrupts.{raised, enter}
use Rattle.pic_chip.specs.Run as chip
use Rattle.pic_chip.specs.Run.{moment, takes}
use Rattle.pic_chip.specs.State.{State}
use Rattle.pic_world.specs.Arrivals.{arriving}
use Rattle.pic_world.specs.Bits.{truth}
use Rattle.sym_code.specs.Effect.{Setting, Memory}
use Rattle.sym_code.specs.Machine.{Entry}
use Rattle.sym_code.specs.Registers.{Registers}
use Rattle.sym_code.specs.declared.code.BlockName.TheVariants.{Copy}
use Rattle.code_place.specs.Instructions.{known}

-- ---- registers
-- the registers of a thread that the chip has, whatever it has
abbrev pub registers_of : State → Registers
registers_of s = record {
  w = s.w % 256;
  z = s.z % 2;
  dc = s.dc % 2;
  c = s.c % 2;
  fsr = s.fsr % 256;
  rp0 = s.bank % 2;
  rp1 = s.bank / 2 % 2;
  irp = s.bank / 4 % 2;
  page_low = s.pclath / 8 % 2;
  page_high = s.pclath / 16 % 2;
}

-- what the handler finds in the registers where its page is selected: saving leaves PCLATH in W and Z by it, and nothing else changed
abbrev pub found : State → ℕ → Registers
found s page = record {
  w = s.pclath % 256;
  z = truth (nat_eq s.pclath 0);
  dc = s.dc % 2;
  c = s.c % 2;
  fsr = s.fsr % 256;
  rp0 = s.bank % 2;
  rp1 = s.bank / 2 % 2;
  irp = s.bank / 4 % 2;
  page_low = page % 2;
  page_high = page / 2 % 2;
}

-- ---- lists of registers
abbrev pub nothing : Registers
nothing = record { w = 0; z = 0; dc = 0; c = 0; fsr = 0; rp0 = 0; rp1 = 0; irp = 0; page_low = 0; page_high = 0 }

abbrev pub entry_at : List Registers → ℕ → Registers
entry_at [] k = nothing
entry_at (r ∷ rs) zero = r
entry_at (r ∷ rs) (suc k) = entry_at rs k

-- ---- the run, in which main is met at a moment, and the handler's block stands in a page
module _ (c : chip.Setting) (at page : ℕ) where
  -- what the handler finds at the interrupt that is taken at this moment
  abbrev pub found_at : ℕ → Registers
  found_at k = found (perform enter (raised (arriving c.arrivals k) (moment c k).state)) page

  abbrev pub one_at : Bool → ℕ → List Registers
  one_at b k = if b then found_at k ∷ [] else []

  -- at the interrupts that were taken before moment k, in their order
  unfoldable pub entered : ℕ → List Registers
  entered zero = []
  entered (suc k) = entered k ++ one_at (nat_le at k && takes (arriving c.arrivals k) (moment c k)) k

  abbrev pub entries : ℕ → Entry
  entries n = entry_at (entered n)

-- ---- with what main begins that is met at a moment
abbrev pub begins : chip.Setting → ℕ → Registers
begins c at = registers_of (moment c at).state

abbrev pub memory_at : chip.Setting → ℕ → Memory
memory_at c at = slice_index (moment c at).state.ram

-- what the handler finds at its entries, up to moment n
abbrev pub handler_finds : Setting → chip.Setting → ℕ → ℕ → Entry
handler_finds g c at n = entries c at (g.page_of (Copy (known g.program.handler))) n

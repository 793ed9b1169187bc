-- How far the code of an image goes, and what its instructions touch, whenever interrupts arrive.
use Rattle.std.specs.Prelude.{ℕ, ◌≡◌, ◌<◌, ◌≤◌, ◌⊎◌, true, List, Option}
use Rattle.std.specs.List.{All}
use Rattle.pic_chip.specs.Interrupts.{begun}
use Rattle.pic_chip.specs.Run as chip
use Rattle.pic_chip.specs.Run.{IsStart, moment}
use Rattle.pic_map.specs.declared.Placed.{Placed}
use Rattle.pic_world.specs.Arrivals.{arriving}
use Rattle.core_code.specs.Bytes.{Held}
use Rattle.sym_code.specs.Effect.{Setting}
use Rattle.sym_code.specs.Layout.{all_near}
use Rattle.sym_code.specs.declared.code.SymBlock.{SymBlock}
use Rattle.chip_trace.specs.Arriving.{IsAssembled, IsRunning, IsStarted, EndsBy}
use Rattle.chip_trace.specs.Entries.{begins, memory_at, handler_finds}
use Rattle.chip_trace.specs.Keeping.{TouchesThere}

-- At moment k the run keeps to the code: its program counter is below the end, and so is that of the instruction that begins there, where an
-- interrupt that is due is taken first. What this instruction touches is of the code's own bytes and registers. In a near layout RP1 and IRP
-- are 0.
pub record KeepsWithin (g : Setting) (c : chip.Setting) (end k : ℕ) : Type 0 where
  pub pc : (moment c k).state.pc < end
  pub begun_pc : (begun (arriving c.arrivals k) (moment c k).state).pc < end
  pub low : all_near g.program.layout ≡ true → (moment c k).state.bank < 2
  pub touches : TouchesThere g.program c.image (begun (arriving c.arrivals k) (moment c k).state)

-- It does so at each moment before main is met, and at each up to which no step of the early run is stuck.
abbrev pub KeepingWithin : Type 0
KeepingWithin =
    (blocks : List SymBlock) (at : List ℕ) (placed : Placed) (handler : Option ℕ) (first : List (List Held)) (g : Setting) (c : chip.Setting)
    → IsAssembled blocks at placed handler c.image c.watch g → IsStart c.start → All (λ byte. byte < 256) c.inputs
    → (started : IsStarted g first c) → (end : ℕ) → EndsBy blocks at end
    → (n k : ℕ) → k ≤ n → (k < started.at) ⊎ IsRunning g c (handler_finds g c started.at n) (begins c started.at) (memory_at c started.at) n → KeepsWithin g c end k

-- A program over both layouts: of the code of `unsigned char x; void main(void){x=5;PORTB=x;}` the accesses to `x` are events over the one, and none
-- over the other.
use Rattle.std.specs.Prelude.{◌≡◌, ℕ, Bool, true, false, List, [], ◌∷◌, None}
use Rattle.std.specs.List.{list_all}
use Rattle.core_code.specs.declared.code.Byte.TheVariants as bytes
use Rattle.pic_world.specs.World.{Outside, Happening, ReadOf, WriteOf, Ended}
use Rattle.pic_world.specs.declared.Cell.TheVariants as cells
use Rattle.pic_world.specs.declared.Root.TheVariants.{Main}
use Rattle.sym_code.specs.Effect.{Setting}
use Rattle.sym_code.specs.Layout.{DataLayout}
use Rattle.sym_code.specs.Machine.{sym_run, sym_start}
use Rattle.sym_code.specs.Programs.{no_tables}
use Rattle.sym_code.specs.Registers.{Registers, no_leaves}
use Rattle.sym_code.specs.declared.code.BlockName.{BlockName}
use Rattle.sym_code.specs.declared.code.BlockName.TheVariants.{Start, Copy}
use Rattle.sym_code.specs.declared.code.FileOperation.TheVariants as files
use Rattle.sym_code.specs.declared.code.Into.TheVariants as into
use Rattle.sym_code.specs.declared.code.Label.TheVariants as labels
use Rattle.sym_code.specs.declared.code.Literal.TheVariants.{Number}
use Rattle.sym_code.specs.declared.code.LiteralOperation.TheVariants as literals
use Rattle.sym_code.specs.declared.code.Operand.TheVariants as operands
use Rattle.sym_code.specs.declared.code.Sym.{Sym}
use Rattle.sym_code.specs.declared.code.Sym.TheVariants as syms
use Rattle.sym_code.specs.declared.code.Target.TheVariants as targets
use Rattle.kept_layout.specs.KeptLayout.{kept_layout, kept_setting, is_private_byte}
use Rattle.kept_layout.specs.OpenCode.{sym_opens}

abbrev pub sample_code : List Sym
sample_code =
    syms.Literal literals.Movlw (Number 5) ∷
    syms.Movwf (operands.Byte (bytes.Static 0 0)) ∷
    syms.File files.Movf (operands.Byte (bytes.Static 0 0)) into.W ∷
    syms.Movwf (operands.Byte (bytes.Device 6)) ∷
    syms.Goto (targets.Label labels.Halt) ∷
    []

abbrev pub sample_block : BlockName → List Sym
sample_block Start = []
sample_block (Copy copy) = sample_code

abbrev pub sample_layout : DataLayout
sample_layout = record { objects = record { constant = false; address = 32; size = 1 } ∷ []; frames = record { root = Main; address = 33; size = 2 } ∷ [] }

abbrev pub sample_setting : Setting
sample_setting = record {
  program = record { block = sample_block; handler = None; layout = sample_layout; tables = no_tables };
  banked = false;
  page_of = λ name. 0;
  limit = λ inside. 8;
  leaves = no_leaves;
}

abbrev pub sample_kept : List Bool
sample_kept = false ∷ []

abbrev pub sample_outside : Outside
sample_outside = record { input = []; schedule = λ n. 0 }

abbrev pub sample_registers : Registers
sample_registers = record { w = 0; z = 0; dc = 0; c = 0; fsr = 0; rp0 = 0; rp1 = 0; irp = 0; page_low = 0; page_high = 0 }

-- the trace after six steps
abbrev pub sample_trace : Setting → List (Happening ℕ)
sample_trace g = (sym_run g (λ k. sample_registers) sample_outside 6 (sym_start g.program sample_registers (λ k. 0))).world.trace

abbrev pub SampleSwitches : Type 0
SampleSwitches =
    (kept_layout sample_kept sample_layout ≡ record { objects = record { constant = true; address = 32; size = 0 } ∷ []; frames = record { root = Main; address = 33; size = 2 } ∷ record { root = Main; address = 32; size = 1 } ∷ [] })
    × (list_all (sym_opens (λ name. false) (is_private_byte sample_kept sample_layout) sample_layout (Copy 0)) sample_code ≡ true)
    × (sample_trace sample_setting ≡ WriteOf (cells.Static 0 0) 5 ∷ ReadOf (cells.Static 0 0) 5 ∷ WriteOf (cells.Device 6) 5 ∷ Ended ∷ [])
    × (sample_trace (kept_setting sample_kept sample_setting) ≡ WriteOf (cells.Device 6) 5 ∷ Ended ∷ [])

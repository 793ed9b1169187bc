-- The start block. Reset goes to 0000h, and an interrupt to 0004h (Microchip data sheet DS39582, program memory map); how the
-- context is kept follows the data sheet's example for saving STATUS and W.
use Rattle.std.specs.Prelude.{ℕ, ◌+◌, ◌≤◌, nat_eq, List, [], ◌∷◌, ◌++◌, length, Option, Some, None, if◌then◌else◌}
use Rattle.std.specs.List.{sum_by}
use Rattle.std.specs.Global.{Global}
use Rattle.std.specs.declared.vec.Vec.{Vec}
use Rattle.core_code.specs.declared.code.Byte.{Byte}
use Rattle.core_code.specs.declared.code.Byte.TheVariants as bytes
use Rattle.core_code.specs.declared.code.FirstByte.{FirstByte}
use Rattle.core_code.specs.declared.code.FirstByte.TheVariants as firsts
use Rattle.sym_code.specs.declared.code.BlockName.TheVariants as names
use Rattle.sym_code.specs.declared.code.FileOperation.{FileOperation}
use Rattle.sym_code.specs.declared.code.FileOperation.TheVariants as file_ops
use Rattle.sym_code.specs.declared.code.Into.TheVariants as goes
use Rattle.sym_code.specs.declared.code.Label.TheVariants as labels
use Rattle.sym_code.specs.declared.code.Literal.{Literal}
use Rattle.sym_code.specs.declared.code.Literal.TheVariants as values
use Rattle.sym_code.specs.declared.code.LiteralOperation.TheVariants as literal_ops
use Rattle.sym_code.specs.declared.code.Operand.{Operand}
use Rattle.sym_code.specs.declared.code.Operand.TheVariants as operands
use Rattle.sym_code.specs.declared.code.PlainOperation.TheVariants as plain_ops
use Rattle.sym_code.specs.declared.code.Register.TheVariants as registers
use Rattle.sym_code.specs.declared.code.Saved.TheVariants as cells
use Rattle.sym_code.specs.declared.code.Sym.{Sym}
use Rattle.sym_code.specs.declared.code.Sym.TheVariants as syms
use Rattle.sym_code.specs.declared.code.Target.TheVariants as targets

abbrev pub to_w : FileOperation → Operand → Sym
to_w op file = syms.File op file goes.W

-- from reset to the vector: four words with the two selects of a page before the jump
abbrev pub reset : List Sym
reset = syms.Goto (targets.Label (labels.Inner 0)) ∷ syms.Plain plain_ops.Nop ∷ []

-- At the vector W, STATUS, FSR and PCLATH are kept. SWAPF changes no flag.
abbrev pub saving : List Sym
saving = syms.Movwf (operands.Saved cells.W) ∷ to_w file_ops.Swapf (operands.Register registers.Status) ∷ syms.Movwf (operands.Saved cells.Status) ∷ to_w file_ops.Movf (operands.Register registers.Fsr) ∷ syms.Movwf (operands.Saved cells.Fsr) ∷ to_w file_ops.Movf (operands.Register registers.Pclath) ∷ syms.Movwf (operands.Saved cells.Pclath) ∷ []

-- They get back what they had: STATUS last but for W, and W by two SWAPF, which change no flag.
abbrev pub restoring : List Sym
restoring = syms.Label labels.Restore ∷ to_w file_ops.Movf (operands.Saved cells.Pclath) ∷ syms.Movwf (operands.Register registers.Pclath) ∷ to_w file_ops.Movf (operands.Saved cells.Fsr) ∷ syms.Movwf (operands.Register registers.Fsr) ∷ to_w file_ops.Swapf (operands.Saved cells.Status) ∷ syms.Movwf (operands.Register registers.Status) ∷ syms.File file_ops.Swapf (operands.Saved cells.W) goes.File ∷ to_w file_ops.Swapf (operands.Saved cells.W) ∷ syms.Plain plain_ops.Retfie ∷ []

-- The handler, the block of that copy, is entered by a jump, and comes back by one to `Restore`.
abbrev pub vector : Option ℕ → List Sym
vector (Some handler) = saving ++ (syms.Goto (targets.Block (names.Copy handler)) ∷ []) ++ restoring
vector None = []

abbrev pub literal : Byte → Literal → List Sym
literal to value = syms.Literal literal_ops.Movlw value ∷ syms.Movwf (operands.Byte to) ∷ []

-- a byte becomes what it begins as
abbrev pub byte_code : Byte → FirstByte → List Sym
byte_code to (firsts.Number number) = if nat_eq number 0 then syms.Clrf (operands.Byte to) ∷ [] else literal to (values.Number number)
byte_code to (firsts.Low object) = literal to (values.Low (bytes.Static object 0))
byte_code to (firsts.High object) = literal to (values.High (bytes.Static object 0))

-- the bytes of an object from an offset on
abbrev pub object_code : ℕ → ℕ → List FirstByte → List Sym
object_code object offset [] = []
object_code object offset (first ∷ rest) = byte_code (bytes.Static object offset) first ++ object_code object (offset + 1) rest

-- the objects from a number on
abbrev pub objects_code : ℕ → List (Vec FirstByte Global) → List Sym
objects_code object [] = []
objects_code object (first ∷ rest) = object_code object 0 first.items ++ objects_code (object + 1) rest

-- Main is the block of copy 0, and ends by a jump to `Halt`.
abbrev pub main : List Sym
main = syms.Goto (targets.Block (names.Copy 0)) ∷ syms.Label labels.Halt ∷ syms.Goto (targets.Label labels.Halt) ∷ []

abbrev pub start_code : Option ℕ → List (Vec FirstByte Global) → List Sym
start_code handler statics = reset ++ vector handler ++ (syms.Label (labels.Inner 0) ∷ []) ++ objects_code 0 statics ++ main

-- how many bytes the objects have
abbrev pub bytes_of : List (Vec FirstByte Global) → ℕ
bytes_of statics = sum_by (λ (object : Vec FirstByte Global). length object.items) statics

-- each byte of an object has an offset that the name of a byte has room for
abbrev pub HasNumberedBytes : Vec FirstByte Global → Type 0
HasNumberedBytes object = length object.items ≤ 65536

-- That the bytes that operations of byte code name, with those that stand behind them, are there.
use Rattle.std.specs.Prelude.{◌≡◌, ℕ, ◌+◌, ◌<◌, ◌≤◌, Bool, true, List, [], ◌∷◌, Option, Some, None, slice_get}
use Rattle.c_ints.specs.Range.{bytes_of}
use Rattle.c_ints.specs.declared.operators.BinOp.{BinOp}
use Rattle.c_ints.specs.declared.operators.BinOp.TheVariants as binop
use Rattle.c_typed.specs.Fits.{params_of}
use Rattle.c_typed.specs.Room.{variables_bytes}
use Rattle.c_typed.specs.Trees.{Program}
use Rattle.c_typed.specs.declared.calls.FnId.{FnId}
use Rattle.c_typed.specs.declared.calls.FnId.TheVariants as callee
use Rattle.core_code.specs.Tree as code
use Rattle.core_code.specs.Tree.{Tree, Trees}
use Rattle.core_code.specs.declared.code.Byte.{Byte}
use Rattle.core_code.specs.declared.code.Byte.TheVariants as bytes
use Rattle.named_registers.specs.Registers.{Naming}
use Rattle.sym_code.specs.declared.code.Literal.{Literal}
use Rattle.sym_code.specs.declared.code.Literal.TheVariants as values
use Rattle.sym_code.specs.declared.code.Operand.{Operand}
use Rattle.sym_code.specs.declared.code.Operand.TheVariants as operands
use Rattle.sym_code.specs.declared.code.Sym.{Sym}
use Rattle.sym_code.specs.declared.code.Sym.TheVariants as syms

-- The bytes that there are: how many the frame of each copy has, and how many each static object, where there is one of the number. And
-- the device registers, by their lowest addresses.
pub record Memory : Type 0 where
  pub frames : ℕ → Option ℕ
  pub objects : ℕ → Option ℕ
  pub devices : ℕ → Bool

-- what is there has so many bytes
abbrev pub HasBytes : Option ℕ → ℕ → Type 0
HasBytes None n = ⊥
HasBytes (Some size) n = n ≤ size

-- So many bytes from the byte on are there: in the frame of a copy, in a static object, or among the four bytes of a result. A device
-- register has one byte, and is named by its lowest address, which is below 100h (Microchip data sheet DS39582, register file map).
abbrev pub Lies : Memory → ℕ → Byte → Type 0
Lies memory n (bytes.Frame copy k) = HasBytes (memory.frames copy) (k + n)
Lies memory n (bytes.Static object k) = HasBytes (memory.objects object) (k + n)
Lies memory n (bytes.Result r k) = k + n ≤ 4
Lies memory n (bytes.Device address) = (address < 0x100) × (n ≤ 1) × (1 ≤ n → memory.devices address ≡ true)

-- What has an address that is told as a number is there, and is no result. It may be the end of an object.
abbrev pub Points : Memory → Byte → Type 0
Points memory (bytes.Frame copy k) = HasBytes (memory.frames copy) k
Points memory (bytes.Static object k) = HasBytes (memory.objects object) k
Points memory (bytes.Result r k) = ⊥
Points memory (bytes.Device address) = Unit {0}

-- the bytes of an operator's answer, and those of its right operand that count, by the bytes of the type
abbrev pub answer_bytes : BinOp → ℕ → ℕ
answer_bytes binop.Eq w = 2
answer_bytes binop.Ne w = 2
answer_bytes binop.Lt w = 2
answer_bytes binop.Gt w = 2
answer_bytes binop.Le w = 2
answer_bytes binop.Ge w = 2
answer_bytes op w = w

abbrev pub count_bytes : BinOp → ℕ → ℕ
count_bytes binop.Shl w = 1
count_bytes binop.Shr w = 1
count_bytes op w = w

-- Each function that is called has a copy whose frame has room for its parameters, by the numbers of the functions' copies.
abbrev pub CallsFit : Program → Memory → (ℕ → ℕ) → List FnId → Type 0
CallsFit p memory copy_of [] = Unit {0}
CallsFit p memory copy_of (callee.User function ∷ calls) = HasBytes (memory.frames (copy_of function)) (variables_bytes p.sizes (params_of (slice_get p.functions function))) × CallsFit p memory copy_of calls
CallsFit p memory copy_of (callee.Helper helper ∷ calls) = CallsFit p memory copy_of calls

-- Each register that is named is there.
abbrev pub RegistersFit : Memory → List Naming → Type 0
RegistersFit memory [] = Unit {0}
RegistersFit memory (n ∷ ns) = (memory.devices n.register ≡ true) × RegistersFit memory ns

-- Each function that is called has a copy, by the copies' numbers.
abbrev pub HaveCopies : List (Option ℕ) → List FnId → Type 0
HaveCopies numbers [] = Unit {0}
HaveCopies numbers (callee.User function ∷ calls) = ((k : ℕ) × (slice_get numbers function ≡ Some (Some k))) × HaveCopies numbers calls
HaveCopies numbers (callee.Helper helper ∷ calls) = HaveCopies numbers calls

-- an operation names bytes alone that are there
abbrev mutual
  pub TreeLies : Memory → Tree → Type 0
  TreeLies memory (code.Set to value) = Lies memory 1 to
  TreeLies memory (code.Address to place) = Lies memory 2 to × Points memory place
  TreeLies memory (code.Copy to from) = Lies memory 1 to × Lies memory 1 from
  TreeLies memory (code.Load to pointer count) = Lies memory count to × Lies memory 2 pointer
  TreeLies memory (code.Store pointer from count) = Lies memory 2 pointer × Lies memory count from
  TreeLies memory (code.Unary op ty at) = Lies memory (bytes_of ty) at × Lies memory 2 at
  TreeLies memory (code.Binary op ty to left right) = Lies memory (answer_bytes op (bytes_of ty)) to × Lies memory (bytes_of ty) left × Lies memory (count_bytes op (bytes_of ty)) right
  TreeLies memory (code.Convert from to at) = Lies memory (bytes_of to) at
  TreeLies memory (code.BitRead to register bit) = Lies memory 1 to × Lies memory 1 (bytes.Device register)
  TreeLies memory (code.BitWrite register bit from) = Lies memory 1 from × Lies memory 1 (bytes.Device register)
  TreeLies memory (code.Call copy) = Unit {0}
  TreeLies memory code.Leave = Unit {0}
  TreeLies memory (code.Many parts) = TreesLie memory parts
  TreeLies memory (code.If test count holds fails) = Lies memory count test × TreeLies memory holds × TreeLies memory fails
  TreeLies memory (code.Loop body) = TreeLies memory body
  TreeLies memory (code.Exit count) = Unit {0}
  TreeLies memory (code.Again count) = Unit {0}

  pub TreesLie : Memory → Trees → Type 0
  TreesLie memory code.NoTree = Unit {0}
  TreesLie memory (code.AndTree part parts) = TreeLies memory part × TreesLie memory parts

-- an instruction names bytes alone that are there
abbrev pub OperandLies : Memory → Operand → Type 0
OperandLies memory (operands.Byte byte) = Lies memory 1 byte
OperandLies memory (operands.Register r) = Unit {0}
OperandLies memory (operands.Saved cell) = Unit {0}

abbrev pub LiteralLies : Memory → Literal → Type 0
LiteralLies memory (values.Number number) = Unit {0}
LiteralLies memory (values.Low byte) = Points memory byte
LiteralLies memory (values.High byte) = Points memory byte

abbrev pub SymLies : Memory → Sym → Type 0
SymLies memory (syms.Label label) = Unit {0}
SymLies memory (syms.SelectBank bit on) = Unit {0}
SymLies memory (syms.SelectPage bit to) = Unit {0}
SymLies memory (syms.Table table root) = Unit {0}
SymLies memory (syms.File op file into) = OperandLies memory file
SymLies memory (syms.Movwf file) = OperandLies memory file
SymLies memory (syms.Clrf file) = OperandLies memory file
SymLies memory (syms.Bit op file bit) = OperandLies memory file
SymLies memory (syms.Literal op value) = LiteralLies memory value
SymLies memory (syms.Plain op) = Unit {0}
SymLies memory (syms.Call to) = Unit {0}
SymLies memory (syms.Goto to) = Unit {0}

abbrev pub SymsLie : Memory → List Sym → Type 0
SymsLie memory [] = Unit {0}
SymsLie memory (s ∷ list) = SymLies memory s × SymsLie memory list

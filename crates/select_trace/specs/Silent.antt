-- Code that touches only bytes whose accesses are no events, W and the flags, and what it is over bytes by number.
use Rattle.std.specs.Prelude.{◌≡◌, ℕ, ◌+◌, ◌<◌, ◌≤◌, Bool, true, false, List, [], ◌∷◌, ◌++◌, map, length, drop, Option, Some, None}
use Rattle.pic_world.specs.declared.Root.{Root}
use Rattle.core_code.specs.Bytes.{is_private}
use Rattle.core_code.specs.declared.code.Byte.{Byte}
use Rattle.core_code.specs.declared.code.Byte.TheVariants.{Frame, Result}
use Rattle.math_helpers.specs.Shape.{sum_from}
use Rattle.math_helpers.specs.Wanted.{with_flags}
use Rattle.sym_code.specs.Effect.{Setting, root_of}
use Rattle.sym_code.specs.Layout.{DataLayout, frame, address_of, general_at, is_whole, owner, Of}
use Rattle.sym_code.specs.Programs.{position, stand, lands}
use Rattle.sym_code.specs.Quiet.{Scene, quiet_cost}
use Rattle.sym_code.specs.Registers.{Fits}
use Rattle.sym_code.specs.declared.code.BitOperation.TheVariants.{Btfsc, Btfss}
use Rattle.sym_code.specs.declared.code.BlockName.{BlockName}
use Rattle.sym_code.specs.declared.code.Label.TheVariants.{Inner}
use Rattle.sym_code.specs.declared.code.Literal.TheVariants as literals
use Rattle.sym_code.specs.declared.code.LiteralOperation.TheVariants.{Addlw, Movlw, Xorlw}
use Rattle.sym_code.specs.declared.code.Operand.TheVariants as operands
use Rattle.sym_code.specs.declared.code.PlainOperation.TheVariants as plains
use Rattle.sym_code.specs.declared.code.Register.TheVariants.{Status}
use Rattle.sym_code.specs.declared.code.Sym.{Sym}
use Rattle.sym_code.specs.declared.code.Sym.TheVariants as sym
use Rattle.sym_code.specs.declared.code.Target.TheVariants as targets
use Rattle.select_wide.specs.Direct.{direct_run}
use Rattle.select_trace.specs.Run as run

-- ---- bytes
abbrev pub number_or_zero : Option ℕ → ℕ
number_or_zero None = 0
number_or_zero (Some k) = k

-- the number of the general byte of a name
abbrev pub number_at : DataLayout → Byte → ℕ
number_at l byte = number_or_zero (general_at (address_of l byte))

-- the thread's frame and results: so many bytes of a copy's frame, and the four results of the root
pub record OwnsBytes (g : Setting) (inside : Bool) (copy size : ℕ) : Type 0 where
  pub banks : g.banked ≡ false
  pub whole : is_whole (frame g.program.layout copy).address size ≡ true
  pub own : (offset k : ℕ) → offset < size → general_at (address_of g.program.layout (Frame copy offset)) ≡ Some k → owner g.program.layout k ≡ Of (root_of inside)
  pub results : (n k : ℕ) → n < 4 → general_at (address_of g.program.layout (Result (root_of inside) n)) ≡ Some k → owner g.program.layout k ≡ Of (root_of inside)

-- A general byte of the thread's own: no access of it is an event.
pub record IsQuiet (g : Setting) (inside : Bool) (byte : Byte) : Type 0 where
  pub place : is_private byte ≡ true
  pub stands : general_at (address_of g.program.layout byte) ≡ Some (number_at g.program.layout byte)
  pub own : owner g.program.layout (number_at g.program.layout byte) ≡ Of (root_of inside)

-- bytes of which each is one
pub record AreQuiet (g : Setting) (inside : Bool) (P : Byte → Type 0) : Type 0 where
  pub banks : g.banked ≡ false
  pub quiet : (byte : Byte) → P byte → IsQuiet g inside byte

-- so many bytes of these, from one on
abbrev pub IsIn : Root → ℕ → ℕ → Byte → ℕ → Type 0
IsIn root copy size (Frame c offset) n = (c ≡ copy) × (offset + n ≤ size)
IsIn root copy size (Result r k) n = (r ≡ root) × (k + n ≤ 4)
IsIn root copy size _ n = ⊥

-- ---- instructions
-- the instruction over bytes by number; one that isn't silent becomes any
abbrev pub plain : (Byte → ℕ) → Sym → run.Sym
plain at (sym.File op (operands.Byte byte) into) = run.Row op (at byte) into
plain at (sym.Movwf (operands.Byte byte)) = run.Movwf (at byte)
plain at (sym.Clrf (operands.Byte byte)) = run.Clrf (at byte)
plain at (sym.Bit op (operands.Register register) n) = run.Flag op n
plain at (sym.Bit op (operands.Byte byte) n) = run.Test op (at byte) n
plain at (sym.Literal Movlw (literals.Number n)) = run.Movlw n
plain at (sym.Literal Addlw (literals.Number n)) = run.Addlw n
plain at (sym.Literal Xorlw (literals.Number n)) = run.Xorlw n
plain at (sym.Plain plains.Clrw) = run.Clrw
plain at (sym.Goto (targets.Label (Inner n))) = run.Goto n
plain at (sym.Label (Inner n)) = run.Label n
plain at _ = run.Return

abbrev pub plain_code : (Byte → ℕ) → List Sym → List run.Sym
plain_code at code = map (plain at) code

-- an instruction that goes on, and names such bytes, and flags but for IRP
abbrev pub IsStraight : (Byte → Type 0) → Sym → Type 0
IsStraight P (sym.File op (operands.Byte byte) into) = P byte
IsStraight P (sym.Movwf (operands.Byte byte)) = P byte
IsStraight P (sym.Clrf (operands.Byte byte)) = P byte
IsStraight P (sym.Bit op (operands.Register Status) n) = n < 3
IsStraight P (sym.Bit Btfsc (operands.Byte byte) n) = P byte
IsStraight P (sym.Bit Btfss (operands.Byte byte) n) = P byte
IsStraight P (sym.Literal Movlw (literals.Number n)) = n < 256
IsStraight P (sym.Literal Addlw (literals.Number n)) = n < 256
IsStraight P (sym.Literal Xorlw (literals.Number n)) = n < 256
IsStraight P (sym.Plain plains.Clrw) = Unit {0}
IsStraight P _ = ⊥

abbrev pub AreStraight : (Byte → Type 0) → List Sym → Type 0
AreStraight P [] = Unit {0}
AreStraight P (x ∷ xs) = IsStraight P x × AreStraight P xs

-- one, or a jump within the block, a label, or a return
abbrev pub IsSilent : (Byte → Type 0) → Sym → Type 0
IsSilent P (sym.Goto (targets.Label (Inner n))) = Unit {0}
IsSilent P (sym.Label (Inner n)) = Unit {0}
IsSilent P (sym.Plain plains.Return) = Unit {0}
IsSilent P x = IsStraight P x

-- ---- runs
-- A thread stands at code in a block, and an instruction stands behind it.
pub record Begins (g : Setting) (block : BlockName) (i : ℕ) (code : List Sym) (s : Scene) : Type 0 where
  pub behind : List Sym
  pub there : drop i (g.program.block block) ≡ code ++ behind
  pub lands : lands g.program (stand g.program (position block (i + length code))) ≡ true
  pub at : s.thread.at ≡ Some (stand g.program (position block i))
  pub rest : s.thread.rest ≡ None
  pub registers : Fits s.thread.registers
  pub bytes : (k : ℕ) → s.memory k < 256

-- Without an event and without an access through FSR it comes behind the code, each instruction of which runs once at most.
pub record Passes (g : Setting) (price : BlockName → ℕ → ℕ) (inside : Bool) (block : BlockName) (i : ℕ) (code : List Sym) (s : Scene) : Type 0 where
  pub count : ℕ
  pub end : Scene
  pub run : direct_run g inside count s ≡ Some end
  pub at : end.thread.at ≡ Some (stand g.program (position block (i + length code)))
  pub stack : end.thread.stack ≡ s.thread.stack
  pub rest : end.thread.rest ≡ None
  pub fits : Fits end.thread.registers
  pub registers : end.thread.registers ≡ with_flags s.thread.registers end.thread.registers
  pub bytes : (k : ℕ) → end.memory k < 256
  pub some : 0 < length code → 0 < count
  pub few : count ≤ length code
  pub cost : quiet_cost g price inside count s ≤ sum_from (price block) i code

-- Code that accesses hidden bytes by name from main's blocks alone, and never reads and writes one of them by the same instruction.
use Rattle.std.specs.Prelude.{ℕ, Bool, true, false, not, ◌&&◌, ◌||◌, nat_lt, length, Some, ◌≡◌}
use Rattle.std.specs.List.{list_all}
use Rattle.core_code.specs.declared.code.Byte.{Byte}
use Rattle.core_code.specs.declared.code.Byte.TheVariants as bytes
use Rattle.select_wide.specs.Direct.{is_clear}
use Rattle.sym_code.specs.Layout.{DataLayout, address_of, general_at}
use Rattle.sym_code.specs.Programs.{Program}
use Rattle.sym_code.specs.declared.code.BitOperation.TheVariants.{Btfsc, Btfss}
use Rattle.sym_code.specs.declared.code.BlockName.{BlockName}
use Rattle.sym_code.specs.declared.code.BlockName.TheVariants.{Copy}
use Rattle.sym_code.specs.declared.code.Into.TheVariants as into
use Rattle.sym_code.specs.declared.code.Literal.{Literal}
use Rattle.sym_code.specs.declared.code.Literal.TheVariants as literals
use Rattle.sym_code.specs.declared.code.Operand.{Operand}
use Rattle.sym_code.specs.declared.code.Operand.TheVariants as operands
use Rattle.sym_code.specs.declared.code.Sym.{Sym}
use Rattle.sym_code.specs.declared.code.Sym.TheVariants as syms
use Rattle.sym_code.specs.declared.code.Target.{Target}
use Rattle.sym_code.specs.declared.code.Target.TheVariants as targets

-- a byte of a frame is one of a frame that is there
abbrev pub is_placed : DataLayout → Byte → Bool
is_placed l (bytes.Frame copy offset) = nat_lt copy (length l.frames)
is_placed l byte = true

-- it isn't hidden
abbrev pub is_clear_byte : (ℕ → Bool) → DataLayout → Byte → Bool
is_clear_byte hidden l (bytes.Device address) = true
is_clear_byte hidden l byte = is_clear hidden (general_at (address_of l byte))

-- free: it may be hidden
abbrev pub operand_opens : (ℕ → Bool) → DataLayout → Bool → Operand → Bool
operand_opens hidden l free (operands.Byte byte) = is_placed l byte && (free || is_clear_byte hidden l byte)
operand_opens hidden l free operand = true

abbrev pub literal_opens : DataLayout → Literal → Bool
literal_opens l (literals.Number n) = true
literal_opens l (literals.Low byte) = is_placed l byte
literal_opens l (literals.High byte) = is_placed l byte

-- from a block of the handler's root code goes to such blocks alone
abbrev pub target_stays : (BlockName → Bool) → BlockName → Target → Bool
target_stays handlers own (targets.Block name) = not (handlers own) || handlers name
target_stays handlers own (targets.Label label) = true

-- An instruction whose operand passes a test, which is told whether the instruction may access hidden bytes: it reads it or writes it and not both,
-- and stands in no block of the handler's root. handlers: the blocks of the handler's root; own: the block of the instruction
unfoldable pub sym_by : (Bool → Operand → Bool) → (BlockName → Bool) → DataLayout → BlockName → Sym → Bool
sym_by test handlers l own (syms.File op operand into.W) = test (not (handlers own)) operand
sym_by test handlers l own (syms.File op operand into.File) = test false operand
sym_by test handlers l own (syms.Movwf operand) = test (not (handlers own)) operand
sym_by test handlers l own (syms.Clrf operand) = test (not (handlers own)) operand
sym_by test handlers l own (syms.Bit Btfsc operand b) = test (not (handlers own)) operand
sym_by test handlers l own (syms.Bit Btfss operand b) = test (not (handlers own)) operand
sym_by test handlers l own (syms.Bit op operand b) = test false operand
sym_by test handlers l own (syms.Literal op value) = literal_opens l value
sym_by test handlers l own (syms.Call target) = target_stays handlers own target
sym_by test handlers l own (syms.Goto target) = target_stays handlers own target
sym_by test handlers l own s = true

abbrev pub sym_opens : (BlockName → Bool) → (ℕ → Bool) → DataLayout → BlockName → Sym → Bool
sym_opens handlers hidden l own s = sym_by (operand_opens hidden l) handlers l own s

pub record IsOpenCode (handlers : BlockName → Bool) (hidden : ℕ → Bool) (q : Program) : Type 0 where
  pub handler : (h : ℕ) → q.handler ≡ Some h → handlers (Copy h) ≡ true
  pub blocks : (name : BlockName) → list_all (sym_opens handlers hidden q.layout name) (q.block name) ≡ true

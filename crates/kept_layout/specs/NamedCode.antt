-- The same of code that names bytes within their objects and frames: of which objects those are is enough.
use Rattle.std.specs.Prelude.{◌≡◌, ℕ, Bool, true, not, ◌&&◌, ◌||◌, nat_lt, List, length, Some}
use Rattle.std.specs.List.{list_all}
use Rattle.core_code.specs.declared.code.Byte.{Byte}
use Rattle.core_code.specs.declared.code.Byte.TheVariants as bytes
use Rattle.sym_code.specs.Layout.{DataLayout, IsLaidOut, object, frame}
use Rattle.sym_code.specs.Programs.{Program}
use Rattle.sym_code.specs.declared.code.BlockName.{BlockName}
use Rattle.sym_code.specs.declared.code.BlockName.TheVariants.{Copy}
use Rattle.sym_code.specs.declared.code.Operand.{Operand}
use Rattle.sym_code.specs.declared.code.Operand.TheVariants as operands
use Rattle.kept_layout.specs.KeptLayout.{is_private, is_private_byte}
use Rattle.kept_layout.specs.OpenCode.{sym_by, IsOpenCode}

-- a byte of an object, which passes a test, of a frame, or of the four of a result
abbrev pub byte_named : DataLayout → (ℕ → Bool) → Byte → Bool
byte_named l test (bytes.Static n offset) = nat_lt n (length l.objects) && (nat_lt offset (object l n).size && test n)
byte_named l test (bytes.Frame copy offset) = nat_lt copy (length l.frames) && nat_lt offset (frame l copy).size
byte_named l test (bytes.Result root k) = nat_lt k 4
byte_named l test (bytes.Device address) = true

-- free: the object may be private
abbrev pub operand_named : List Bool → DataLayout → Bool → Operand → Bool
operand_named kept l free (operands.Byte byte) = byte_named l (λ n. free || not (is_private kept n (object l n))) byte
operand_named kept l free operand = true

pub record IsNamedCode (handlers : BlockName → Bool) (kept : List Bool) (q : Program) : Type 0 where
  pub handler : (h : ℕ) → q.handler ≡ Some h → handlers (Copy h) ≡ true
  pub blocks : (name : BlockName) → list_all (sym_by (operand_named kept q.layout) handlers q.layout name) (q.block name) ≡ true

abbrev pub NamedIsOpen : Type 0
NamedIsOpen =
    (kept : List Bool) (handlers : BlockName → Bool) (reaches : ℕ → ℕ → Bool) (q : Program) → IsLaidOut reaches q.layout → IsNamedCode handlers kept q → IsOpenCode handlers (is_private_byte kept q.layout) q

-- The bytes of all objects at a time, and what they are at the start of a program.
use Rattle.std.specs.Prelude.{ℕ, Bool, false, ◌&&◌, nat_eq, nat_lt, if◌then◌else◌, List, [], ◌∷◌, Option, Some, None, slice_get}
use Rattle.c_typed.specs.Trees.{Program, StaticTree}
use Rattle.c_typed.specs.Types.{type_bytes}
use Rattle.c_typed.specs.declared.program.Initial.{Initial}
use Rattle.c_typed.specs.declared.program.InitialByte.{InitialByte}
use Rattle.c_typed.specs.declared.program.InitialByte.TheVariants as initial
use Rattle.pic_world.specs.World.{Outside}
use Rattle.src_values.specs.Objects.{same_copy, same_object}
use Rattle.src_values.specs.declared.objects.Byte.{Byte}
use Rattle.src_values.specs.declared.objects.Byte.TheVariants as bytes
use Rattle.src_values.specs.declared.objects.CopyOf.{CopyOf}
use Rattle.src_values.specs.declared.objects.Object.{Object}
use Rattle.src_values.specs.declared.objects.Object.TheVariants.{Fixed, Variable}

-- what a run goes by: the program, and what comes from outside
pub record Setting : Type 0 where
  pub program : Program
  pub outside : Outside

abbrev pub Memory : Type 0
Memory = Object → ℕ → Byte

abbrev pub with_byte : Memory → Object → ℕ → Byte → Memory
with_byte m object offset byte other at = if same_object other object && nat_eq at offset then byte else m other at

-- no byte of the object has a value
abbrev pub cleared : Memory → Object → Memory
cleared m object other at = if same_object other object then bytes.Unset else m other at

-- No variable of the copy has a value.
abbrev pub is_of : CopyOf → Object → Bool
is_of c (Fixed n) = false
is_of c (Variable d n) = same_copy d c

abbrev pub fresh : Memory → CopyOf → Memory
fresh m c object at = if is_of c object then bytes.Unset else m object at

-- ---- the memory at the start
abbrev pub initial_byte : InitialByte → Byte
initial_byte (initial.Number n) = bytes.Number n
initial_byte (initial.Address object byte) = bytes.Part (Fixed object) 0 (nat_eq byte 1)

-- the byte that a list of initial bytes gives a place, otherwise 0
abbrev pub initial_at : List Initial → ℕ → Byte
initial_at [] at = bytes.Number 0
initial_at (i ∷ is) at = if nat_eq i.offset at then initial_byte i.byte else initial_at is at

abbrev pub static_byte : List ℕ → Option StaticTree → ℕ → Byte
static_byte sizes None at = bytes.Unset
static_byte sizes (Some s) at = if nat_lt at (type_bytes sizes s.ty.ty) then initial_at s.initial at else bytes.Unset

-- Static objects begin with their initial values, otherwise 0; variables begin unset. No object has a byte beyond its
-- size.
abbrev pub first_memory : Program → Memory
first_memory p (Fixed n) at = static_byte p.sizes (slice_get p.statics n) at
first_memory p (Variable c n) at = bytes.Unset

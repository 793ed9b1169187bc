-- Where a routine keeps its values.
use Rattle.std.specs.Prelude.{ℕ, ◌+◌, ◌*◌}
use Rattle.core_code.specs.declared.code.Byte.TheVariants as Byte
use Rattle.sym_code.specs.declared.code.Operand.{Operand}
use Rattle.sym_code.specs.declared.code.Operand.TheVariants as Operand
use Rattle.math_helpers.specs.declared.layout.Width.{Width}
use Rattle.math_helpers.specs.declared.layout.Width.TheVariants.{Two, Four}
use Rattle.math_helpers.specs.declared.layout.Value.{Value}
use Rattle.math_helpers.specs.declared.layout.Value.TheVariants.{Left, Right, Remainder, Spare, Answer}
use Rattle.math_helpers.specs.declared.layout.RoutineLayout.{RoutineLayout}

abbrev pub bytes_of : Width → ℕ
bytes_of Two = 2
bytes_of Four = 4

abbrev pub bits_of : Width → ℕ
bits_of Two = 16
bits_of Four = 32

-- byte k of a value, counted from the lowest one
abbrev pub operand_at : RoutineLayout → Value → ℕ → Operand
operand_at l Left k = Operand.Byte (Byte.Frame l.copy k)
operand_at l Right k = Operand.Byte (Byte.Frame l.copy (bytes_of l.width + k))
operand_at l Remainder k = Operand.Byte (Byte.Frame l.copy (2 * bytes_of l.width + k))
operand_at l Spare k = Operand.Byte (Byte.Frame l.copy (3 * bytes_of l.width + k))
operand_at l Answer k = Operand.Byte (Byte.Result l.root k)

-- Integer constant expressions where a value is needed (ISO/IEC 9899:1990, 6.4).
use Rattle.std.specs.Prelude.{ℕ, ℤ, pos, int_le, unsigned_abs, Bool, not, ◌&&◌, [], ◌∷◌}
use Rattle.c_ints.specs.Quantity.{Quantity}
use Rattle.c_nodes.specs.Trees.{Tree}
use Rattle.c_typed.specs.Folding.{folded}
use Rattle.c_typed.specs.declared.folding.Folded.{Folded}
use Rattle.c_typed.specs.declared.folding.Folded.TheVariants as folding
use Rattle.type_rules.specs.Faults as kind
use Rattle.type_rules.specs.Known.{Rule, given, broken, tried, ◌>>=◌}
use Rattle.type_rules.specs.Terms.{Operand}
use Rattle.type_rules.specs.Expressions.{value_of}

-- An expression is a constant one and has a value.
abbrev pub number_in : Folded → ℕ → Rule Quantity
number_in (folding.Value v) line = given v
number_in _ line = broken kind.Constant line

abbrev pub number_of : Operand → Rule Quantity
number_of x = number_in (folded x.value) x.line

abbrev pub constant_value : Tree → Rule Quantity
constant_value e = do
  x ← value_of e
  number_of x

-- the length of an array, 1 to 65,535
abbrev pub is_length : ℤ → Bool
is_length n = int_le (pos 1) n && int_le n (pos 65535)

abbrev pub array_length : Tree → Rule ℕ
array_length e = do
  x ← value_of e
  v ← number_of x
  _ ← tried ((not (is_length v.number), kind.Size) ∷ []) x.line
  given (unsigned_abs v.number)

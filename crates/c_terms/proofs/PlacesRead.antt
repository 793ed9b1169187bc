-- The structure that a value is read from is the place that it is read from.
use Rattle.std.proofs.Common.{◌≡◌, refl}
use Rattle.c_typed.specs.Trees as tree
use Rattle.c_typed.specs.Trees.{Expression}
use Rattle.c_typed.specs.Types.{place_read}
use Rattle.type_rules.specs.Writes.{structure_read}

pub is_place_read : (e : Expression) → place_read e ≡ structure_read e
is_place_read (tree.Constant value line) = refl
is_place_read (tree.Read place ty line) = refl
is_place_read (tree.Address place ty line) = refl
is_place_read (tree.Convert operand ty line) = refl
is_place_read (tree.Cast operand ty line) = refl
is_place_read (tree.Unary op operand ty line) = refl
is_place_read (tree.Binary op left right ty line) = refl
is_place_read (tree.Offset op left right size ty line) = refl
is_place_read (tree.Difference left right size line) = refl
is_place_read (tree.Logical op left right line) = refl
is_place_read (tree.Conditional condition chosen otherwise ty line) = refl
is_place_read (tree.Comma left right ty line) = refl
is_place_read (tree.Assign place value ty line) = refl
is_place_read (tree.StructAssign place from size line) = refl
is_place_read (tree.Update op place value operation size ty line) = refl
is_place_read (tree.Step op place operation size ty line) = refl
is_place_read (tree.Call function arguments ty line) = refl

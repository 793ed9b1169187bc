-- The values of expressions.
use Rattle.c_ints.specs.Quantity.{Quantity}
use Rattle.src_values.specs.declared.objects.Pointer.{Pointer as Place}

-- A number, a pointer, or none: that of an expression of type void, of a structure, and of a call that ended without a
-- value.
pub data Datum : Type 0 where
  Number : Quantity → Datum
  Pointer : Place → Datum
  Missing : Datum

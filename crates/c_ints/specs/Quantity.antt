-- An integer value of C: a type, and a number that the type holds.
use Rattle.std.specs.Prelude.{ℤ}
use Rattle.c_ints.specs.declared.types.IntTy.{IntTy}

pub record Quantity : Type 0 where
  pub ty : IntTy
  pub number : ℤ

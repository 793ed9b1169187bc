-- What the code's comparison gives is what the operator gives.
use Rattle.std.proofs.Common.{◌≡◌, true, ◌⊎◌, ⊎_elim, ℤ, refl, ap}
use Rattle.c_ints.specs.Operators.{cut_to, truth, compares, comparison, type_of, exact}
use Rattle.c_ints.specs.declared.types.IntTy.{IntTy}
use Rattle.c_ints.specs.declared.types.IntTy.TheVariants.{Int}
use Rattle.c_ints.specs.declared.operators.BinOp.{BinOp}
use Rattle.c_ints.specs.declared.operators.BinOp.TheVariants.{Mul, Div, Rem, Add, Sub, Shl, Shr, Lt, Gt, Le, Ge, Eq, Ne, And, Xor, Or}

pub compared_value : (op : BinOp) (ty : IntTy) (x y : ℤ) → compares op ≡ true → cut_to Int (truth (comparison op x y)) ≡ cut_to (type_of op ty) (exact op ty x y)
compared_value Mul ty x y h = cc
compared_value Div ty x y h = cc
compared_value Rem ty x y h = cc
compared_value Add ty x y h = cc
compared_value Sub ty x y h = cc
compared_value Shl ty x y h = cc
compared_value Shr ty x y h = cc
compared_value Lt ty x y h = refl
compared_value Gt ty x y h = refl
compared_value Le ty x y h = refl
compared_value Ge ty x y h = refl
compared_value Eq ty x y h = refl
compared_value Ne ty x y h = refl
compared_value And ty x y h = cc
compared_value Xor ty x y h = cc
compared_value Or ty x y h = cc

pub is_comparison : (op : BinOp) → (op ≡ Lt) ⊎ ((op ≡ Gt) ⊎ ((op ≡ Le) ⊎ ((op ≡ Ge) ⊎ ((op ≡ Eq) ⊎ (op ≡ Ne))))) → compares op ≡ true
is_comparison op h =
    ⊎_elim (ap compares)
    (⊎_elim (ap compares)
    (⊎_elim (ap compares)
    (⊎_elim (ap compares)
    (⊎_elim (ap compares) (ap compares)))))
    h

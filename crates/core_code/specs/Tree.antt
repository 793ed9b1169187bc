-- Operations of byte code as plain data, with one constructor for each variant that the code has.
use Rattle.std.specs.Prelude.{ℕ, List, [], ◌∷◌}
use Rattle.c_ints.specs.declared.operators.BinOp.{BinOp}
use Rattle.c_ints.specs.declared.operators.UnOp.{UnOp}
use Rattle.c_ints.specs.declared.types.IntTy.{IntTy}
use Rattle.core_code.specs.declared.code.Byte.{Byte}

mutual
  pub data Tree : Type 0 where
    Set : Byte → ℕ → Tree
    Address : Byte → Byte → Tree
    Copy : Byte → Byte → Tree
    Load : Byte → Byte → ℕ → Tree
    Store : Byte → Byte → ℕ → Tree
    Unary : UnOp → IntTy → Byte → Tree
    Binary : BinOp → IntTy → Byte → Byte → Byte → Tree
    Convert : IntTy → IntTy → Byte → Tree
    BitRead : Byte → ℕ → ℕ → Tree
    BitWrite : ℕ → ℕ → Byte → Tree
    Call : ℕ → Tree
    Leave : Tree
    Many : Trees → Tree
    If : Byte → ℕ → Tree → Tree → Tree
    Loop : Tree → Tree
    Exit : ℕ → Tree
    Again : ℕ → Tree

  pub data Trees : Type 0 where
    NoTree : Trees
    AndTree : Tree → Trees → Trees

abbrev pub list_of : Trees → List Tree
list_of NoTree = []
list_of (AndTree t ts) = t ∷ list_of ts

abbrev pub trees_of : List Tree → Trees
trees_of [] = NoTree
trees_of (t ∷ ts) = AndTree t (trees_of ts)

-- several operations as one
abbrev pub many : List Tree → Tree
many ts = Many (trees_of ts)

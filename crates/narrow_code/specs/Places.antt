-- Byte code that has the operations of other code in the same places, but for the types of some operators; and the bytes that code uses.
use Rattle.std.specs.Prelude.{◌≡◌, ℕ, zero, suc, ◌<◌, ◌⊎◌, Bool, true, false, ◌||◌, List}
use Rattle.c_ints.specs.Operators.{type_of, unary_type}
use Rattle.c_ints.specs.Range.{bytes_of}
use Rattle.c_ints.specs.declared.types.IntTy.TheVariants.{UChar}
use Rattle.core_code.specs.Bytes.{same_byte, behind}
use Rattle.core_code.specs.Cost.{least_of}
use Rattle.core_code.specs.Machine.{Program, Waiting}
use Rattle.core_code.specs.Tree as tree
use Rattle.core_code.specs.Tree.{Tree, Trees, NoTree, AndTree}
use Rattle.core_code.specs.Values.{right_type}
use Rattle.core_code.specs.declared.code.Byte.{Byte}
use Rattle.core_code.specs.declared.code.Byte.TheVariants.{Device}
use Rattle.narrow_code.specs.InStep.{transfer_in}
use Rattle.narrow_code.specs.Right.{is_low}

-- ---- the same places
-- Both have the same conditions and loops, and of each operation without parts and the one in its place this holds.
module _ (R : Tree → Tree → Type 0) where
  abbrev mutual
    pub AtEachPlace : Tree → Tree → Type 0
    AtEachPlace (tree.Many ts) u = (us : Trees) × (u ≡ tree.Many us) × AtAllPlaces ts us
    AtEachPlace (tree.If test size first second) u = (a : Tree) × (b : Tree) × (u ≡ tree.If test size a b) × AtEachPlace first a × AtEachPlace second b
    AtEachPlace (tree.Loop body) u = (a : Tree) × (u ≡ tree.Loop a) × AtEachPlace body a
    AtEachPlace t u = R t u

    pub AtAllPlaces : Trees → Trees → Type 0
    AtAllPlaces NoTree us = us ≡ NoTree
    AtAllPlaces (AndTree t ts) us = (v : Tree) × (vs : Trees) × (us ≡ AndTree v vs) × AtEachPlace t v × AtAllPlaces ts vs

-- One of `Add`, `Sub`, `And`, `Or` and `Xor` of two or four bytes is done on the low bytes.
abbrev pub OnLowByte : Tree → Tree → Type 0
OnLowByte (tree.Binary op ty to left right) u = (is_low op ≡ true) × (1 < bytes_of ty) × (u ≡ tree.Binary op UChar to left right)
OnLowByte t u = ⊥

-- the same operation, but for such a type
abbrev pub IsRetyped : Tree → Tree → Type 0
IsRetyped t u = (u ≡ t) ⊎ OnLowByte t u

-- the same loop is begun, left or begun again, the same copy is called, or the body is left
abbrev pub HasTransfer : Tree → Tree → Type 0
HasTransfer t u = transfer_in u ≡ transfer_in t

-- It may cost nothing only where the other one may.
abbrev pub IsFreeOnlyWith : Tree → Tree → Type 0
IsFreeOnlyWith t u = (q : Program) (s : List Waiting) → least_of q u s ≡ 0 → least_of q t s ≡ 0

-- ---- bytes that are used
-- the byte is among so many from this one on
abbrev pub is_in_run : Byte → Byte → ℕ → Bool
is_in_run byte start zero = false
is_in_run byte start (suc n) = same_byte byte (behind start n) || is_in_run byte start n

-- the code reads the byte or writes it, by its name
abbrev mutual
  pub uses : Byte → Tree → Bool
  uses byte (tree.Set to value) = is_in_run byte to 1
  uses byte (tree.Address to place) = is_in_run byte to 2
  uses byte (tree.Copy to from) = is_in_run byte to 1 || is_in_run byte from 1
  uses byte (tree.Load to pointer count) = is_in_run byte to count || is_in_run byte pointer 2
  uses byte (tree.Store pointer from count) = is_in_run byte pointer 2 || is_in_run byte from count
  uses byte (tree.Unary op ty at) = is_in_run byte at (bytes_of ty) || is_in_run byte at (bytes_of (unary_type op ty))
  uses byte (tree.Binary op ty to left right) =
      is_in_run byte to (bytes_of (type_of op ty)) || (is_in_run byte left (bytes_of ty) || is_in_run byte right (bytes_of (right_type op ty)))
  uses byte (tree.Convert from to at) = is_in_run byte at (bytes_of from) || is_in_run byte at (bytes_of to)
  uses byte (tree.BitRead to register bit) = is_in_run byte to 1 || is_in_run byte (Device register) 1
  uses byte (tree.BitWrite register bit from) = is_in_run byte (Device register) 1 || is_in_run byte from 1
  uses byte (tree.Many ts) = all_use byte ts
  uses byte (tree.If test size first second) = is_in_run byte test size || (uses byte first || uses byte second)
  uses byte (tree.Loop body) = uses byte body
  uses byte _ = false

  pub all_use : Byte → Trees → Bool
  all_use byte NoTree = false
  all_use byte (AndTree t ts) = uses byte t || all_use byte ts

-- all bytes that the second code uses are used by the first one
abbrev pub UsesOnly : Trees → Trees → Type 0
UsesOnly given made = (byte : Byte) → all_use byte made ≡ true → all_use byte given ≡ true

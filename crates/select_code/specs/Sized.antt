-- Which operations are byte-sized.
use Rattle.std.specs.Prelude.{ℕ, ◌+◌, ◌-◌, ◌^◌, min, Bool, true, false, ◌&&◌, nat_lt, nat_le}
use Rattle.c_ints.specs.declared.types.IntTy.{IntTy}
use Rattle.c_ints.specs.Range.{bytes_of}
use Rattle.core_code.specs.Tree.{Tree, Trees, Set, Address, Copy, Load, Store, Unary, Binary, Convert, BitRead, BitWrite, Call, Leave, Many, If, Loop, Exit, Again, NoTree, AndTree}

-- a conversion to a type of no more bytes
abbrev pub is_cut : IntTy → IntTy → Bool
is_cut from to = nat_le (bytes_of to) (bytes_of from)

-- in one loop more, as far as a number of 64 bits counts
abbrev pub deeper : ℕ → ℕ
deeper loops = min (loops + 1) (2 ^ 64 - 1)

-- an operation that stands in so many loops
abbrev mutual
  pub is_byte_sized : ℕ → Tree → Bool
  is_byte_sized loops (Set to value) = true
  is_byte_sized loops (Address to place) = false
  is_byte_sized loops (Copy to from) = true
  is_byte_sized loops (Load to pointer count) = false
  is_byte_sized loops (Store pointer from count) = false
  is_byte_sized loops (Unary op ty at) = false
  is_byte_sized loops (Binary op ty to left right) = false
  is_byte_sized loops (Convert from to at) = is_cut from to
  is_byte_sized loops (BitRead to register bit) = true
  is_byte_sized loops (BitWrite register bit from) = true
  is_byte_sized loops (Call copy) = true
  is_byte_sized loops Leave = true
  is_byte_sized loops (Many parts) = are_byte_sized loops parts
  is_byte_sized loops (If test size holds fails) = is_byte_sized loops holds && is_byte_sized loops fails
  is_byte_sized loops (Loop body) = is_byte_sized (deeper loops) body
  is_byte_sized loops (Exit out) = nat_lt out loops
  is_byte_sized loops (Again out) = nat_lt out loops

  pub are_byte_sized : ℕ → Trees → Bool
  are_byte_sized loops NoTree = true
  are_byte_sized loops (AndTree part parts) = is_byte_sized loops part && are_byte_sized loops parts

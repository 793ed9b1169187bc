-- The conversions between integer types (ISO/IEC 9899:1990, 6.2.1), and the types of integer
-- constants (6.1.3.2).
use Rattle.std.specs.Prelude.{ℕ, pos, Bool, true, false, ◌&&◌, ◌||◌, int_le, if◌then◌else◌, List, [], ◌∷◌}
use Rattle.c_ints.specs.Range.{least, greatest}
use Rattle.c_ints.specs.declared.types.IntTy.{IntTy}
use Rattle.c_ints.specs.declared.types.IntTy.TheVariants.{Int, UInt, Long, ULong}

-- the type holds every number of the other
abbrev pub holds_all_of : IntTy → IntTy → Bool
holds_all_of ty other = int_le (least ty) (least other) && int_le (greatest other) (greatest ty)

-- the integral promotions: int where it holds every number of the type, otherwise unsigned int
-- where that does, otherwise the type itself
abbrev pub promoted : IntTy → IntTy
promoted ty =
    if holds_all_of Int ty then Int else
    if holds_all_of UInt ty then UInt else ty

abbrev pub is_unsigned_long : IntTy → Bool
is_unsigned_long ULong = true
is_unsigned_long _ = false

abbrev pub is_long : IntTy → Bool
is_long Long = true
is_long _ = false

abbrev pub is_unsigned_int : IntTy → Bool
is_unsigned_int UInt = true
is_unsigned_int _ = false

-- the usual arithmetic conversions: the first of unsigned long, long, unsigned int and int that
-- one of the two types is promoted to; long holds every number of unsigned int
abbrev pub common : IntTy → IntTy → IntTy
common a b =
    if is_unsigned_long (promoted a) || is_unsigned_long (promoted b) then ULong else
    if is_long (promoted a) || is_long (promoted b) then Long else
    if is_unsigned_int (promoted a) || is_unsigned_int (promoted b) then UInt else Int

-- the types of a constant, the first first: by whether it is decimal, and has a u and an l
abbrev pub candidates : Bool → Bool → Bool → List IntTy
candidates true false false = Int ∷ Long ∷ ULong ∷ []
candidates false false false = Int ∷ UInt ∷ Long ∷ ULong ∷ []
candidates _ true false = UInt ∷ ULong ∷ []
candidates _ false true = Long ∷ ULong ∷ []
candidates _ true true = ULong ∷ []

-- the first type that holds the value; unsigned long holds each value of 32 bits
abbrev pub first_holding : ℕ → List IntTy → IntTy
first_holding value [] = ULong
first_holding value (ty ∷ others) = if int_le (pos value) (greatest ty) then ty else first_holding value others

-- When a plan is right: what is known before each operation leads to what is known behind it, and each byte that is read is known to
-- be the same in both programs.
use Rattle.std.specs.Prelude.{◌≡◌, ℕ, zero, suc, ◌-◌, ◌<◌, Bool, true, false, not, ◌&&◌, ◌||◌, nat_eq, nat_lt, if◌then◌else◌, List, [], ◌∷◌}
use Rattle.c_ints.specs.Operators.{type_of, unary_type, compares}
use Rattle.c_ints.specs.Range.{bytes_of}
use Rattle.c_ints.specs.declared.operators.BinOp.{BinOp}
use Rattle.c_ints.specs.declared.operators.BinOp.TheVariants as ops
use Rattle.c_ints.specs.declared.types.IntTy.{IntTy}
use Rattle.c_ints.specs.declared.types.IntTy.TheVariants as types
use Rattle.pic_world.specs.Roots.{same_root}
use Rattle.pic_world.specs.declared.Root.TheVariants.{Main, Isr}
use Rattle.core_code.specs.Bytes.{behind}
use Rattle.core_code.specs.Tree as tree
use Rattle.core_code.specs.Tree.{Tree}
use Rattle.core_code.specs.Values.{right_type}
use Rattle.core_code.specs.declared.code.Byte.{Byte}
use Rattle.narrow_code.specs.Marks.{Mark, Zero, Numbers, Same, Tells, Denies, Cleared, Differs, Marks, is_same, is_number, tells, denies, marked, marked_bytes, stacked, marked_on, own_mark, agree, cleared, may_differ, Below}
use Rattle.narrow_code.specs.Plans.{Way, Whole, Low, Turned, Plan, Stays, Narrowed, Several, Choice, Repeat, Plans, NoPlan, AndPlan, Narrowing}

-- the loops round some code, the innermost first: what is known at the front of each, and behind it
pub record Ends : Type 0 where
  pub front : Marks
  pub behind : Marks

-- ---- which operators are narrowed
-- those of which the low byte of the result takes the low bytes of the operands alone
abbrev pub is_low : BinOp → Bool
is_low ops.Add = true
is_low ops.Sub = true
is_low ops.And = true
is_low ops.Or = true
is_low ops.Xor = true
is_low _ = false

-- those that give a number of one byte of two such numbers
abbrev pub keeps_small : BinOp → Bool
keeps_small ops.And = true
keeps_small ops.Or = true
keeps_small ops.Xor = true
keeps_small _ = false

-- ---- what is known behind values
-- a number that is set
abbrev pub set_mark : ℕ → Mark
set_mark zero = Zero
set_mark (suc n) = if nat_lt (suc n) 256 then Numbers else Same

-- of the bytes of a value: where it is small, all but the lowest one are 0
abbrev pub wide_mark : Mark → Bool → ℕ → Mark
wide_mark mark small = stacked mark (if small then Zero else mark)

abbrev pub numbers_if : Bool → Mark
numbers_if holds = if holds then Numbers else Same

-- an operator gives a number of two numbers, and otherwise it may be a pointer
abbrev pub result_mark : Bool → Bool → Mark
result_mark left right = numbers_if (left && right)

-- what a comparison gives is small, and what some operators give of small values
abbrev pub is_small : BinOp → Bool → Bool
is_small op small = compares op || (keeps_small op && small)

-- a value of one byte without a sign
abbrev pub is_byte : IntTy → Bool
is_byte types.Char = true
is_byte types.UChar = true
is_byte _ = false

-- Of the bytes behind an operator that is done on the low bytes. Where these stand for the values, a comparison for equality leaves what
-- isn't 0 just where they differ.
abbrev pub lowest_mark : BinOp → Mark
lowest_mark ops.Eq = Denies
lowest_mark ops.Ne = Tells
lowest_mark _ = Numbers

abbrev pub upper_mark : BinOp → Bool → Mark
upper_mark ops.Eq small = Cleared
upper_mark ops.Ne small = Cleared
upper_mark op small = if compares op then Zero else if keeps_small op && small then Cleared else Differs

abbrev pub narrow_mark : BinOp → Bool → ℕ → Mark
narrow_mark op small = stacked (lowest_mark op) (upper_mark op small)

-- a pointer has two bytes
abbrev pub converted_mark : IntTy → Bool → Mark
converted_mark from number = numbers_if (number || not (nat_eq (bytes_of from) 2))

-- ---- exits of loops
abbrev pub Exits : ℕ → List Ends → ℕ → Marks → Type 0
Exits p [] n here = Unit {0}
Exits p (e ∷ es) zero here = Below p e.behind here
Exits p (e ∷ es) (suc n) here = Exits p es n here

abbrev pub Repeats : ℕ → List Ends → ℕ → Marks → Type 0
Repeats p [] n here = Unit {0}
Repeats p (e ∷ es) zero here = Below p e.front here
Repeats p (e ∷ es) (suc n) here = Repeats p es n here

module _ (lent : ℕ → Bool) (p : ℕ) where
  -- the byte is known to be a number
  abbrev pub has_number : Marks → Byte → Bool
  has_number here byte = is_number (own_mark lent p here byte)

  -- the bytes of a value behind the lowest one are 0 in the given program; and so of two values of a type
  abbrev pub is_low_alone : Marks → Byte → ℕ → Bool
  is_low_alone here byte size = cleared lent p here (behind byte 1) (size - 1)

  abbrev pub are_low_alone : Marks → IntTy → Byte → Byte → Bool
  are_low_alone here ty left right = is_low_alone here left (bytes_of ty) && is_low_alone here right (bytes_of ty)

  abbrev pub behind_binary : Marks → BinOp → IntTy → Byte → Byte → ℕ → Mark
  behind_binary here op ty left right =
      wide_mark (result_mark (has_number here left) (has_number here right)) ((has_number here left && has_number here right) && is_small op (are_low_alone here ty left right))

  abbrev pub behind_convert : Marks → IntTy → Byte → ℕ → Mark
  behind_convert here from at = wide_mark (converted_mark from (has_number here at)) (is_byte from)

  -- ---- an operation that stays, with what is known before it and behind it
  abbrev pub FitsLeaf : List Ends → Marks → Tree → Marks → Type 0
  FitsLeaf loops here (tree.Set to value) after = Below p after (marked here to (set_mark value))
  FitsLeaf loops here (tree.Address to place) after = Below p after (marked_bytes here to 2 (λ k. Same))
  FitsLeaf loops here (tree.Copy to from) after = (is_same (own_mark lent p here from) ≡ true) × Below p after (marked here to (own_mark lent p here from))
  FitsLeaf loops here (tree.Load to pointer count) after = (agree lent p here pointer 2 ≡ true) × Below p after (marked_on here to count)
  FitsLeaf loops here (tree.Store pointer from count) after = (agree lent p here pointer 2 ≡ true) × (agree lent p here from count ≡ true) × Below p after here
  FitsLeaf loops here (tree.Unary op ty at) after = (agree lent p here at (bytes_of ty) ≡ true) × Below p after (marked_bytes here at (bytes_of (unary_type op ty)) (λ k. Numbers))
  FitsLeaf loops here (tree.Binary op ty to left right) after =
      (agree lent p here left (bytes_of ty) ≡ true) × (agree lent p here right (bytes_of (right_type op ty)) ≡ true)
      × Below p after (marked_bytes here to (bytes_of (type_of op ty)) (behind_binary here op ty left right))
  FitsLeaf loops here (tree.Convert from to at) after =
      (agree lent p here at (bytes_of from) ≡ true) × Below p after (marked_bytes here at (bytes_of to) (behind_convert here from at))
  FitsLeaf loops here (tree.BitRead to register bit) after = Below p after (marked here to Numbers)
  FitsLeaf loops here (tree.BitWrite register bit from) after = (is_same (own_mark lent p here from) ≡ true) × Below p after here
  FitsLeaf loops here (tree.Call copy) after = Below p after here
  FitsLeaf loops here tree.Leave after = Unit {0}
  FitsLeaf loops here (tree.Exit n) after = Exits p loops n here
  FitsLeaf loops here (tree.Again n) after = Repeats p loops n here
  -- these have parts
  FitsLeaf loops here (tree.Many ts) after = ⊥
  FitsLeaf loops here (tree.If test size first second) after = ⊥
  FitsLeaf loops here (tree.Loop body) after = ⊥

  -- one that is narrowed: the low bytes of its operands are numbers, and stand for them in a comparison; and it writes where bytes may
  -- differ
  pub record FitsNarrowed (here : Marks) (op : BinOp) (ty : IntTy) (to left right : Byte) (after : Marks) : Type 0 where
    pub able : (is_low op || (compares op && are_low_alone here ty left right)) ≡ true
    pub wide : nat_lt 1 (bytes_of ty) ≡ true
    pub left_is : has_number here left ≡ true
    pub right_is : has_number here right ≡ true
    pub to_is : may_differ lent p to ≡ true
    pub behind_is : Below p after (marked_bytes here to (bytes_of (type_of op ty)) (narrow_mark op (are_low_alone here ty left right)))

  -- a condition: what it tests is the same, or its low byte tells
  abbrev pub fits_way : Marks → Byte → ℕ → Way → Bool
  fits_way here test size Whole = agree lent p here test size
  fits_way here test size Low = nat_lt 0 size && (tells (own_mark lent p here test) && is_low_alone here test size)
  fits_way here test size Turned = nat_lt 0 size && (denies (own_mark lent p here test) && is_low_alone here test size)

  abbrev mutual
    pub Fits : List Ends → Marks → Plan → Marks → Type 0
    Fits loops here (Stays t) after = FitsLeaf loops here t after
    Fits loops here (Narrowed op ty to left right) after = FitsNarrowed here op ty to left right after
    Fits loops here (Several ts) after = AllFit loops here ts after
    Fits loops here (Choice test size way first second) after = (fits_way here test size way ≡ true) × Fits loops here first after × Fits loops here second after
    Fits loops here (Repeat front behind body) after =
        Below p front here × Fits (record { front = front; behind = behind } ∷ loops) front body front × Below p after behind

    pub AllFit : List Ends → Marks → Plans → Marks → Type 0
    AllFit loops here NoPlan after = Below p after here
    AllFit loops here (AndPlan t ts) after = (mid : Marks) × Fits loops here t mid × AllFit loops mid ts after

-- ---- a program
-- At the front of a body each byte of its frame is the same: unset, or a parameter.
pub record IsSound (x : Narrowing) : Type 0 where
  pub fits : (c : ℕ) → (front : Marks) × (after : Marks) × Below c front (λ byte. Same) × AllFit x.lent c [] front (x.plan c) after
  -- copies that call one another don't come round to the same one
  pub rises : (p c : ℕ) → x.rest.calls p c ≡ true → x.rank p < x.rank c
  pub apart : (p h : ℕ) → same_root (x.rest.root p) Main ≡ true → same_root (x.rest.root h) Isr ≡ true → x.rank p < x.rank h

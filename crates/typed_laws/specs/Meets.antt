-- Conversions and operators in the tables of a whole program.
use Rattle.std.specs.Prelude.{◌≡◌, ℕ, Bool, ◌&&◌, ◌||◌, true, is_some}
use Rattle.c_ints.specs.declared.operators.BinOp.{BinOp}
use Rattle.c_ints.specs.declared.types.IntTy.{IntTy}
use Rattle.c_typed.specs.Fits.{source, keeps_from}
use Rattle.c_typed.specs.Rules.{may_meet, binary_fits, offset_fits, difference_fits}
use Rattle.c_typed.specs.Sameness.{is_int, is_scalar, pointed}
use Rattle.c_typed.specs.Trees.{Program}
use Rattle.c_typed.specs.declared.types.Ty.{Ty}
use Rattle.c_typed.specs.declared.types.Ty.TheVariants.{Int, Pointer}
use Rattle.type_rules.specs.Operations.{Node, Plain, Moved, Difference, Operation, plain_int, counts_in}
use Rattle.type_rules.specs.Known.{Known}
use Rattle.std.specs.Prelude.{◌⊎◌}

-- A value of one type, a null constant or not, may stand under a Convert node to another one.
abbrev pub Meets : Program → Bool → Ty → Ty → Type 0
Meets p null from to = ((is_int from && is_int to) || ((null && is_some (pointed p to)) || may_meet (pointed p from) (pointed p to))) ≡ true

-- It may be assigned to that.
pub record Becomes (p : Program) (null : Bool) (from to : Ty) : Type 0 where
  pub meets : Meets p null from to
  pub scalar : is_scalar to ≡ true
  pub keeps : keeps_from p (source null from) to ≡ true

-- the rule at the node that an operator becomes
abbrev pub NodeFits : Node → Program → BinOp → Ty → Ty → ℕ → Ty → Type 0
NodeFits Plain p op left right size ty = binary_fits p op left right ty ≡ true
NodeFits Moved p op left right size ty = offset_fits p op left right size ty ≡ true
NodeFits Difference p op left right size ty = difference_fits p left right size ≡ true

-- What it gives: an integer, or the pointer that was moved, which is the left operand or the right one.
abbrev pub Gives : Known → Node → Ty → Ty → Operation → Type 0
Gives known Plain a b found = (ty : IntTy) × (found.ty ≡ Int ty)
Gives known Moved a b found =
    ((row : ℕ) × (i : IntTy) × (a ≡ Pointer row) × (b ≡ Int i) × (found.left ≡ a) × (found.ty ≡ a) × (counts_in known row ≡ true))
    ⊎ ((row : ℕ) × (i : IntTy) × (b ≡ Pointer row) × (a ≡ Int i) × (found.right ≡ b) × (found.ty ≡ b) × (counts_in known row ≡ true))
Gives known Difference a b found = found.ty ≡ plain_int

pub record Operates (p : Program) (left_null right_null : Bool) (a b : Ty) (op : BinOp) (found : Operation) : Type 0 where
  pub left : Meets p left_null a found.left
  pub right : Meets p right_null b found.right
  pub rule : NodeFits found.node p op found.left found.right found.size found.ty

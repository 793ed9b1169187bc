-- Conversions of values between types (ISO/IEC 9899:1990, 6.2, 6.3.4 and 6.3.16.1).
use Rattle.std.specs.Prelude.{ℕ, Bool, true, false, not, ◌&&◌, ◌||◌, if◌then◌else◌, [], ◌∷◌}
use Rattle.c_typed.specs.Sameness.{same_type, is_void, is_int, is_pointer}
use Rattle.c_typed.specs.Trees as typed
use Rattle.c_typed.specs.Trees.{Expression}
use Rattle.c_typed.specs.Types.{type_of}
use Rattle.c_typed.specs.declared.types.Qualified.{Qualified}
use Rattle.c_typed.specs.declared.types.Ty.{Ty}
use Rattle.c_typed.specs.declared.types.Ty.TheVariants.{Void, Int, Pointer, Array, Struct}
use Rattle.type_rules.specs.Faults as kind
use Rattle.type_rules.specs.Known.{Known, Rule, given, known_here, tried, ◌>>=◌}
use Rattle.type_rules.specs.Rows.{target_of}
use Rattle.type_rules.specs.Terms.{Operand, Side, side_of}

-- The value in this type, by a Convert node where it has another one.
abbrev pub converted : Operand → Ty → Expression
converted x ty = if same_type (type_of x.value) ty then x.value else typed.Convert x.value ty x.line

-- Pointers to one type or to void, and no qualifier is dropped (6.3.16.1).
abbrev pub may_become : Qualified → Qualified → Bool
may_become from to = (same_type from.ty to.ty || (is_void from.ty || is_void to.ty)) && ((not from.constant || to.constant) && (not from.volatile || to.volatile))

-- a value becomes a pointer to this without a cast
abbrev pub becomes_pointer : Known → Side → Ty → Qualified → Bool
becomes_pointer known from (Pointer row) to = from.null || may_become (target_of known row) to
becomes_pointer known from _ to = from.null

-- A value may be assigned to an integer or a pointer of the type: integer to integer, a pointer or a null constant to a pointer.
abbrev pub may_be_assigned : Known → Side → Ty → Bool
may_be_assigned known from Void = false
may_be_assigned known from (Int ty) = is_int from.ty
may_be_assigned known from (Pointer row) = becomes_pointer known from from.ty (target_of known row)
may_be_assigned known from (Array row count size) = false
may_be_assigned known from (Struct number) = false

-- the value as one that is assigned, passed or returned as this type, at a node on this line
abbrev pub assigned : Operand → Ty → ℕ → Rule Expression
assigned x ty line = do
  known ← known_here
  _ ← tried ((not (may_be_assigned known (side_of x) ty), kind.Convert) ∷ []) line
  given (converted x ty)

-- A cast goes from integer to integer, from pointer to pointer, from a null constant to a pointer, or to void (6.3.4).
abbrev pub may_be_cast : Side → Ty → Bool
may_be_cast from Void = true
may_be_cast from (Int ty) = is_int from.ty
may_be_cast from (Pointer row) = from.null || is_pointer from.ty
may_be_cast from (Array row count size) = false
may_be_cast from (Struct number) = false

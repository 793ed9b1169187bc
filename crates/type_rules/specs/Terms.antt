-- What an expression is once its parts are known, and the value that it has where one is used (ISO/IEC 9899:1990, 6.2.2.1, 6.3).
use Rattle.std.specs.Prelude.{ℕ, pos, Bool, true, false, not, ◌&&◌, ◌||◌, List, [], ◌∷◌, Option, Some, None}
use Rattle.c_ints.specs.Range.{cut}
use Rattle.c_ints.specs.declared.types.IntTy.{IntTy}
use Rattle.c_typed.specs.Sameness.{is_array}
use Rattle.c_typed.specs.Trees as typed
use Rattle.c_typed.specs.Trees.{Expression, Place}
use Rattle.c_typed.specs.Types.{type_of, place_type}
use Rattle.c_typed.specs.declared.types.Ty.{Ty}
use Rattle.c_typed.specs.declared.types.Ty.TheVariants.{Array}
use Rattle.type_rules.specs.Faults as kind
use Rattle.type_rules.specs.Faults.{Tests}
use Rattle.type_rules.specs.Known.{Known, Rule, given, broken, known_here, tried, ◌>>=◌}
use Rattle.type_rules.specs.Rows.{like, target_of, pointer_to}

-- How a place is reached: through a pointer; or not, and then whether it is part of what no address can be taken of, a register or a bit of the
-- device or an object declared `register`.
pub record Reach : Type 0 where
  pub through : Bool
  pub fixed : Bool

abbrev pub by_pointer : Reach
by_pointer = record { through = true; fixed = false }

-- A value, a place, the name of a function, without brackets round it or with them, or the name of a type.
pub data Form : Type 0 where
  ValueForm : Expression → Form
  PlaceForm : Place → Reach → Form
  FunctionForm : ℕ → Bool → Form
  TypeForm : Form

-- an expression whose value is used
pub record Operand : Type 0 where
  pub value : Expression
  pub null : Bool
  pub line : ℕ
  pub start : ℕ
  pub into : Option Reach

-- An expression: what it is, whether it is a null constant (6.2.2.3), the line of its first token, that of its first token with the brackets
-- round it, how the array is reached that it points into, where it names that array, and what stands between its commas, if it has some.
pub record Term : Type 0 where
  pub form : Form
  pub null : Bool
  pub line : ℕ
  pub start : ℕ
  pub into : Option Reach
  pub listed : List Operand

abbrev pub value_term : Expression → ℕ → Term
value_term value line = record { form = ValueForm value; null = false; line = line; start = line; into = None; listed = [] }

abbrev pub place_term : Place → Reach → ℕ → Term
place_term place reach line = record { form = PlaceForm place reach; null = false; line = line; start = line; into = None; listed = [] }

abbrev pub as_operand : Term → Expression → Option Reach → Operand
as_operand t value into = record { value = value; null = t.null; line = t.line; start = t.start; into = into }

abbrev pub as_term : Operand → Term
as_term x = record { form = ValueForm x.value; null = x.null; line = x.line; start = x.start; into = x.into; listed = [] }

-- the type of an operand, and whether it is a null constant
pub record Side : Type 0 where
  pub ty : Ty
  pub null : Bool

abbrev pub side_of : Operand → Side
side_of x = record { ty = type_of x.value; null = x.null }

abbrev pub number_of_type : IntTy → ℕ → ℕ → Expression
number_of_type ty n line = typed.Constant (record { ty = ty; number = cut ty (pos n) }) line

-- ---- places

-- A const array that isn't reached through a pointer may only be indexed or measured.
abbrev pub is_table : Place → Reach → Bool
is_table place reach = is_array (place_type place).ty && ((place_type place).constant && not reach.through)

-- the rule on a const array that something else is done with
abbrev pub table_tests : Form → Tests
table_tests (PlaceForm place reach) = (is_table place reach, kind.Address) ∷ []
table_tests _ = []

abbrev pub no_table : Term → Rule Known
no_table t = tried (table_tests t.form) t.line

-- the pointer to the first element of an array
abbrev pub array_start : Place → ℕ → ℕ → Rule Expression
array_start place row line = do
  known ← known_here
  ty ← pointer_to (like (place_type place) (target_of known row).ty)
  given (typed.Address place ty line)

-- the value of a place: an array is the pointer to its first element
abbrev pub value_at : Place → Ty → ℕ → Rule Expression
value_at place (Array row count size) line = array_start place row line
value_at place ty line = given (typed.Read place ty line)

-- how the elements of a place are reached, if it is an array
abbrev pub into_array : Ty → Reach → Option Reach
into_array (Array row count size) reach = Some reach
into_array _ reach = None

abbrev pub in_place : Place → Reach → Option Reach
in_place place reach = into_array (place_type place).ty reach

-- A sum of a pointer and an integer points into the array that one of them names.
abbrev pub first_into : Option Reach → Option Reach → Option Reach
first_into (Some reach) other = Some reach
first_into None other = other

-- The value of an expression, where a const array may stand too: as what is indexed.
abbrev pub value_in : Term → Form → Rule Operand
value_in t (ValueForm value) = given (as_operand t value t.into)
value_in t (PlaceForm place reach) = do
  value ← value_at place (place_type place).ty t.line
  given (as_operand t value (in_place place reach))
value_in t (FunctionForm number bare) = broken kind.Operand t.line
value_in t TypeForm = broken kind.Operand t.line

abbrev pub indexed : Term → Rule Operand
indexed t = value_in t t.form

-- The value of an expression. A function has none, nor has a type.
abbrev pub used : Term → Rule Operand
used t = do
  _ ← no_table t
  value_in t t.form

-- what is reached through a pointer, or is part of an object that is neither const nor `register`
abbrev pub is_addressable : Place → Reach → Bool
is_addressable place reach = reach.through || not (reach.fixed || (place_type place).constant)

-- a place that an assignment, `++` or `--` may write (6.3.16)
abbrev pub is_written : Form → Bool
is_written (PlaceForm place reach) = not ((place_type place).constant || is_array (place_type place).ty)
is_written _ = false

abbrev pub is_place : Form → Bool
is_place (PlaceForm place reach) = true
is_place _ = false

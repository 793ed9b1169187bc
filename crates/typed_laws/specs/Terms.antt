-- What is known of expressions, places and operands that were judged: their types are there, and they fit in each program that begins with the tables.
use Rattle.std.specs.Prelude.{◌≡◌, ℕ, Bool, true, false, not, ◌||◌, ◌⊎◌, Option, Some, None, slice_get}
use Rattle.c_typed.specs.Fits.{is_null, is_converted, is_memory, is_reached, reached_by, array_reach, is_indexed, fits, place_fits, Standing, Used}
use Rattle.c_typed.specs.Sameness.{is_pointer, is_array}
use Rattle.c_typed.specs.Sound.{is_changeable, value_fits}
use Rattle.c_typed.specs.Trees.{Expression, Place, FunctionTree, Program}
use Rattle.c_typed.specs.Types.{type_of, place_type}
use Rattle.c_typed.specs.declared.types.Qualified.{Qualified}
use Rattle.c_typed.specs.declared.types.Ty.{Ty}
use Rattle.c_typed.specs.declared.types.Ty.TheVariants.{Pointer}
use Rattle.type_rules.specs.Known.{Known}
use Rattle.type_rules.specs.Rows.{is_complete}
use Rattle.type_rules.specs.Slots.{static_name, static_address}
use Rattle.type_rules.specs.Terms.{Reach, Form, ValueForm, PlaceForm, FunctionForm, TypeForm, Operand, Term}
use Rattle.type_rules.specs.Places.{reach_behind}
use Rattle.typed_laws.specs.Tables.{Each, Stands, Leads}

-- how an element is reached whose array an address is that of, if it is one
abbrev pub reach_of : Option Bool → Bool
reach_of None = true
reach_of (Some reached) = reached

-- What an address leads to is reached through a pointer, or isn't const.
abbrev pub Reaches : Expression → Bool → Type 0
Reaches e constant = (reached_by e ≡ true) × (reach_of (array_reach e) ≡ true) ⊎ (constant ≡ false)

-- a value, where it stands, whether it is a null constant, and the array that it points into
pub record IsValue (known : Known) (standing : Standing) (e : Expression) (zero : Bool) (into : Option Reach) : Type 0 where
  pub stands : Stands known (type_of e)
  pub plain : is_converted e ≡ false
  pub null : zero ≡ true → is_null e ≡ true
  pub via : (row : ℕ) (q : Qualified) → type_of e ≡ Pointer row → slice_get known.targets row ≡ Some q → (reach_behind into).through ≡ true → Reaches e q.constant
  pub apart : is_pointer (type_of e) ≡ false → (array_reach e ≡ None) × (into ≡ None)
  pub free : is_indexed standing ≡ false → (n : ℕ) → static_address e ≡ Some n → is_changeable (slice_get known.statics n) ≡ true
  pub fitting : (p : Program) (f : FunctionTree) → Leads known p f → fits p f standing e ≡ true

-- a place, and how it is reached
pub record IsPlace (known : Known) (place : Place) (reach : Reach) : Type 0 where
  pub stands : Stands known (place_type place).ty
  pub whole : (is_complete known (place_type place).ty || is_array (place_type place).ty) ≡ true
  pub via : reach.through ≡ true → (is_reached place ≡ true) ⊎ ((place_type place).constant ≡ false)
  pub memory : (reach.through || not reach.fixed) ≡ true → is_memory place ≡ true
  pub static : (n : ℕ) → static_name place ≡ Some n → (reach.through ≡ false) × (is_changeable (slice_get known.statics n) ≡ not (place_type place).constant)
  pub fitting : (p : Program) (f : FunctionTree) → Leads known p f → place_fits p f place ≡ true

abbrev pub IsForm : Known → Form → Bool → Option Reach → Type 0
IsForm known (ValueForm e) zero into = IsValue known Used e zero into
IsForm known (PlaceForm place reach) zero into = IsPlace known place reach × (zero ≡ false)
IsForm known (FunctionForm number bare) zero into = Unit {0}
IsForm known TypeForm zero into = Unit {0}

abbrev pub IsOperand : Known → Standing → Operand → Type 0
IsOperand known standing x = IsValue known standing x.value x.null x.into

pub record IsTerm (known : Known) (t : Term) : Type 0 where
  pub form : IsForm known t.form t.null t.into
  pub list : Each (IsOperand known Used) t.listed

-- a value that is assigned, passed, returned or begun with
pub record IsAssigned (known : Known) (ty : Ty) (e : Expression) : Type 0 where
  pub type : type_of e ≡ ty
  pub fitting : (p : Program) (f : FunctionTree) → Leads known p f → value_fits p f ty e ≡ true

-- Objects that are declared, with what they begin as.
use Rattle.std.specs.Prelude.{◌≡◌, ℕ, ◌*◌, ◌≤◌, Bool, true, false, ◌&&◌, ◌||◌, List, length, Option, Some}
use Rattle.c_typed.specs.Sameness.{is_array, is_scalar}
use Rattle.c_typed.specs.declared.expression.Object.TheVariants as object
use Rattle.c_typed.specs.declared.types.Qualified.{Qualified}
use Rattle.type_rules.specs.Initializers.{is_unsized}
use Rattle.type_rules.specs.Known.{ObjectName, Known}
use Rattle.type_rules.specs.Names.{bound_in}
use Rattle.type_rules.specs.Rows.{bytes_of, is_complete}
use Rattle.typed_laws.specs.Chains.{element_size}
use Rattle.typed_laws.specs.Living.{LocalTo, IsSized}
use Rattle.typed_laws.specs.Tables.{Stands}

-- the type of an object that is declared, with an initializer or without one
pub record IsDeclaredAs (known : Known) (begun : Bool) (q : Qualified) : Type 0 where
  pub stands : Stands known q.ty
  pub whole : ((begun && is_array q.ty) || is_complete known q.ty) ≡ true
  pub small : bytes_of known q.ty ≤ 65535

-- An array without a length takes it from its initializer; all other types stay.
pub record IsClosed (before after : Known) (q : Qualified) (count : Option ℕ) (whole : Qualified) : Type 0 where
  pub sized : IsSized after whole.ty
  pub constant : whole.constant ≡ q.constant
  pub to : LocalTo whole q
  pub same : is_unsized q.ty ≡ false → whole ≡ q
  pub many : is_unsized q.ty ≡ true → is_scalar whole.ty ≡ false
  pub room : is_unsized q.ty ≡ true → (n : ℕ) × (count ≡ Some n) × (element_size before q.ty ≤ 65535) × (bytes_of after whole.ty ≡ element_size before q.ty * n)

-- A static object's name is bound in the innermost scope, and no local is added.
abbrev pub IsBoundAs : Known → List ℕ → Known → Type 0
IsBoundAs before name after = (whole : Qualified) × (after.scopes ≡ bound_in before.scopes name (ObjectName (object.Static (length before.statics)) whole false)) × (after.body ≡ before.body)

-- What holds behind a rule that declares types: rows, structures and enumerators are added, and a structure's body is set once.
use Rattle.std.specs.Prelude.{◌≡◌, ℕ, ℤ, Bool, true, false, List, [], ◌∷◌, Option, Some, None, is_some, Result, Ok, Err, slice_get}
use Rattle.c_typed.specs.Sameness.{is_array, is_struct, is_scalar}
use Rattle.c_typed.specs.Trees.{StaticTree}
use Rattle.c_typed.specs.declared.expression.Object.{Object}
use Rattle.c_typed.specs.declared.expression.Object.TheVariants as object
use Rattle.c_typed.specs.declared.types.Qualified.{Qualified}
use Rattle.type_rules.specs.Faults.{Fault}
use Rattle.type_rules.specs.Known.{is_waiting, Binding, ObjectName, EnumeratorName, Scope, Field, Shape, Open, Known}
use Rattle.type_rules.specs.Names.{innermost_in, bound_in, without_first, first_scope}
use Rattle.type_rules.specs.Outlines.{Param, Made, ArrayMade, FunctionMade, Declared, ObjectDeclared, FunctionDeclared, Outline}
use Rattle.type_rules.specs.Rows.{is_closed, is_absent}
use Rattle.typed_laws.specs.Tables.{Adds, Each, Stands, AreBound, Orderly}
use Rattle.std.specs.Prelude.{◌⊎◌, ◌||◌}

-- Rows, structures and static objects stay; a structure with a whole body stays as it is.
pub record Grows (before after : Known) : Type 0 where
  pub rows : Adds before.targets after.targets
  pub shapes : (n : ℕ) (s : Shape) → slice_get before.shapes n ≡ Some s → (t : Shape) × (slice_get after.shapes n ≡ Some t) × (is_closed s.body ≡ true → t ≡ s)
  pub statics : (n : ℕ) (s : StaticTree) → slice_get before.statics n ≡ Some s → (t : StaticTree) × (slice_get after.statics n ≡ Some t) × ((t.ty).constant ≡ (s.ty).constant)

-- All scopes stay, or all but the innermost.
abbrev pub Scoped : Bool → List Scope → List Scope → Type 0
Scoped false before after = after ≡ before
Scoped true before after = without_first after ≡ without_first before

-- ---- enumerators

-- scopes whose innermost one got these enumerators
abbrev pub with_enumerators : List Scope → List (List ℕ × ℤ) → List Scope
with_enumerators scopes [] = scopes
with_enumerators scopes (e ∷ es) = with_enumerators (bound_in scopes e.0 (EnumeratorName e.1)) es

-- each of them has a name that wasn't declared there before
abbrev pub AreNew : List Scope → List (List ℕ × ℤ) → Type 0
AreNew scopes [] = Unit {0}
AreNew scopes (e ∷ es) = (is_some (innermost_in scopes e.0) ≡ false) × AreNew (bound_in scopes e.0 (EnumeratorName e.1)) es

-- Scopes stay, but for enumerators in the innermost one.
abbrev pub Enumerated : List Scope → List Scope → Type 0
Enumerated before after = (es : List (List ℕ × ℤ)) × (after ≡ with_enumerators before es) × AreNew before es

-- All scopes stay, but for enumerators, or all but the innermost.
abbrev pub Widened : Bool → List Scope → List Scope → Type 0
Widened false before after = Enumerated before after
Widened true before after = without_first after ≡ without_first before

-- it isn't the structure whose body is read
abbrev pub Spared : Option ℕ → ℕ → Type 0
Spared None n = Unit {0}
Spared (Some m) n = m ≡ n → ⊥

-- Structures that have a body, or part of one, stay, but for the one whose body is read.
pub record Spreads (skip : Option ℕ) (inner : Bool) (before after : Known) : Type 0 where
  pub grows : Grows before after
  pub spared : (n : ℕ) (s : Shape) → slice_get before.shapes n ≡ Some s → is_absent s.body ≡ false → Spared skip n → slice_get after.shapes n ≡ Some s
  pub scopes : Widened inner before.scopes after.scopes
  pub signatures : after.signatures ≡ before.signatures
  pub definitions : after.definitions ≡ before.definitions
  pub statics : after.statics ≡ before.statics
  pub body : after.body ≡ before.body

pub record Spread (skip : Option ℕ) (inner : Bool) (before : Known) {A : Type 0} (P : A → Known → Type 0) (x : A) (after : Known) : Type 0 where
  pub spreads : Spreads skip inner before after
  pub orderly : Orderly after
  pub holds : P x after

unfoldable pub Runs : Option ℕ → Bool → Known → {A : Type 0} → (A → Known → Type 0) → Result (A × Known) Fault → Type 0
Runs skip inner before P (Ok x) = Spread skip inner before P x.0 x.1
Runs skip inner before P (Err fault) = Unit {0}

-- A rule is broken.
abbrev pub IsRefused : {A : Type 0} → Result (A × Known) Fault → Type 0
IsRefused (Ok x) = ⊥
IsRefused (Err fault) = Unit {0}

-- ---- what declarators make

-- A structure whose body is read, with members already or not.
abbrev pub HasFields : List (List ℕ × Field) → Type 0
HasFields [] = ⊥
HasFields (m ∷ ms) = Unit {0}

pub record IsOpen (some : Bool) (known : Known) (number : ℕ) : Type 0 where
  pub shape : Shape
  pub there : slice_get known.shapes number ≡ Some shape
  pub opened : shape.body ≡ Open
  pub fields : some ≡ true → HasFields shape.fields

-- A parameter is an integer or a pointer.
abbrev pub IsParam : Known → Param → Type 0
IsParam known p = Stands known (p.ty).ty × (is_scalar (p.ty).ty ≡ true)

-- A list of parameters declares these, and enumerators.
abbrev pub IsListedObject : List Param → Object → Qualified → Type 0
IsListedObject params (object.Param n) q = (p : Param) × (slice_get params n ≡ Some p) × (p.ty ≡ q)
IsListedObject params _ q = ⊥

abbrev pub IsListed : List Param → Binding → Type 0
IsListed params (ObjectName object q fixed) = IsListedObject params object q
IsListed params (EnumeratorName n) = Unit {0}
IsListed params _ = ⊥

abbrev pub AreListed : List Param → Scope → Type 0
AreListed params scope = Each (λ e. IsListed params e.1) scope

-- a list of parameters that is read so far, whose scope is the innermost one
abbrev pub AreParams : Known → List Param → Type 0
AreParams known params = Each (IsParam known) params × AreListed params (first_scope known.scopes)

-- a list of parameters, and its scope
pub record IsList (known : Known) (ps : List Param) (scope : Scope) : Type 0 where
  pub params : Each (IsParam known) ps
  pub bound : AreBound known scope
  pub listed : AreListed ps scope

abbrev pub IsMade : Known → Made → Type 0
IsMade known (ArrayMade count) = Unit {0}
IsMade known (FunctionMade params scope) = IsList known params scope

-- What is declared, where it may be.
abbrev pub IsDeclared : Known → Declared → Type 0
IsDeclared known (ObjectDeclared q) = Stands known q.ty
IsDeclared known (FunctionDeclared result params scope) = Stands known (result.ty) × ((is_array result.ty || is_struct result.ty) ≡ false) × IsList known params scope

-- What no declaration may have: a type that is none.
abbrev pub Doomed : Outline → Type 0
Doomed o = o.bad ≡ true

-- An outline is refused later on, or the tables are in order and it stands.
unfoldable pub Fates : Known → (Outline → Type 0) → (Outline → Known → Type 0) → Result (Outline × Known) Fault → Type 0
Fates before D P (Ok x) = D x.0 ⊎ Spread None false before P x.0 x.1
Fates before D P (Err fault) = Unit {0}

-- Whatever comes of it is refused later on.
abbrev pub AllDoomed : (Outline → Type 0) → Result (Outline × Known) Fault → Type 0
AllDoomed D (Ok x) = D x.0
AllDoomed D (Err fault) = Unit {0}

-- what no parameter may have
abbrev pub IsNoParam : Outline → Type 0
IsNoParam o = (o.bad ≡ true) ⊎ (is_waiting o.waiting ≡ true)

-- a parameter's outline: no array
abbrev pub IsParamDeclared : Known → Declared → Type 0
IsParamDeclared known (ObjectDeclared q) = Stands known q.ty × (is_array q.ty ≡ false)
IsParamDeclared known (FunctionDeclared result params scope) = Unit {0}

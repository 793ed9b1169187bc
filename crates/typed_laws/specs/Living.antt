-- A function whose body is read, in the tables of its unit and in the whole program.
use Rattle.std.specs.Prelude.{◌≡◌, ℕ, ◌≤◌, nat_lt, Bool, true, ◌&&◌, List, Some, Result, Ok, Err, slice_get}
use Rattle.c_typed.specs.Fits.{is_device, register_type, is_named}
use Rattle.c_typed.specs.Sound.{statements_fit}
use Rattle.c_typed.specs.Trees.{Statement, VariableTree, StaticTree, FunctionTree, Program}
use Rattle.c_typed.specs.declared.expression.Object.{Object}
use Rattle.c_typed.specs.declared.expression.Object.TheVariants as object
use Rattle.c_typed.specs.declared.types.Qualified.{Qualified}
use Rattle.c_typed.specs.declared.types.Ty.{Ty}
use Rattle.type_rules.specs.Faults.{Fault}
use Rattle.type_rules.specs.Known.{Binding, ObjectName, BitName, FunctionName, TypeNamed, EnumeratorName, Scope, Known}
use Rattle.type_rules.specs.Rows.{bytes_of, is_complete}
use Rattle.type_rules.specs.Statements.{statements_of}
use Rattle.typed_laws.specs.Chains.{InitialsIn}
use Rattle.typed_laws.specs.Spreading.{Grows, Scoped}
use Rattle.typed_laws.specs.Tables.{Each, Stands, Orderly, Begins}

-- A local has in the program the type that is known so far, or that is without its length still.
abbrev pub LocalTo : Qualified → Qualified → Type 0
LocalTo whole q = is_named true (Some whole) q ≡ true

-- A program and its function go on from these tables.
pub record Lives (params : List VariableTree) (known : Known) (p : Program) (f : FunctionTree) : Type 0 where
  pub begins : Begins known p
  pub statics : (n : ℕ) (s : StaticTree) → slice_get known.statics n ≡ Some s → (t : StaticTree) × (slice_get p.statics n ≡ Some t) × (t.ty ≡ s.ty)
  pub params_are : f.params ≡ params
  pub locals : (n : ℕ) (v : VariableTree) → slice_get (known.body).locals n ≡ Some v → (w : VariableTree) × (slice_get f.locals n ≡ Some w) × LocalTo w.ty v.ty
  pub result : f.result ≡ (known.body).result

-- A name is that of an object of this type.
abbrev pub IsNamedObject : List VariableTree → Known → Object → Qualified → Type 0
IsNamedObject params known (object.Static n) q = (s : StaticTree) × (slice_get known.statics n ≡ Some s) × (s.ty ≡ q)
IsNamedObject params known (object.Param n) q = (v : VariableTree) × (slice_get params n ≡ Some v) × (v.ty ≡ q)
IsNamedObject params known (object.Local n) q = (v : VariableTree) × (slice_get (known.body).locals n ≡ Some v) × (v.ty ≡ q)
IsNamedObject params known (object.Register n) q = (is_device n ≡ true) × (q ≡ register_type)

abbrev pub IsNamed : List VariableTree → Known → Binding → Type 0
IsNamed params known (ObjectName object q fixed) = IsNamedObject params known object q
IsNamed params known (BitName register bit) = (is_device register && nat_lt bit 8) ≡ true
IsNamed params known (FunctionName n) = Unit {0}
IsNamed params known (TypeNamed q waiting) = Unit {0}
IsNamed params known (EnumeratorName n) = Unit {0}

abbrev pub AreNamed : List VariableTree → Known → Scope → Type 0
AreNamed params known scope = Each (λ e. IsNamed params known e.1) scope

-- An object's type is there and complete, and has at most 65,535 bytes.
pub record IsSized (known : Known) (ty : Ty) : Type 0 where
  pub stands : Stands known ty
  pub complete : is_complete known ty ≡ true
  pub small : bytes_of known ty ≤ 65535

pub record IsStatic (known : Known) (s : StaticTree) : Type 0 where
  pub sized : IsSized known (s.ty).ty
  pub initial : InitialsIn known 0 (bytes_of known (s.ty).ty) s.initial

-- Between statements all names stand for what is there, and all objects are sized.
pub record Steady (params : List VariableTree) (known : Known) : Type 0 where
  pub orderly : Orderly known
  pub named : Each (AreNamed params known) known.scopes
  pub statics : (n : ℕ) (s : StaticTree) → slice_get known.statics n ≡ Some s → IsStatic known s
  pub locals : (n : ℕ) (v : VariableTree) → slice_get (known.body).locals n ≡ Some v → IsSized known (v.ty).ty
  pub result : Stands known (known.body).result

-- What is declared behind goes on from what was declared before.
pub record Moves (inner : Bool) (params : List VariableTree) (before after : Known) : Type 0 where
  pub grows : Grows before after
  pub lives : (p : Program) (f : FunctionTree) → Lives params after p f → Lives params before p f
  pub statics : (n : ℕ) (s : StaticTree) → slice_get before.statics n ≡ Some s → slice_get after.statics n ≡ Some s
  pub scopes : Scoped inner before.scopes after.scopes
  pub signatures : after.signatures ≡ before.signatures
  pub definitions : after.definitions ≡ before.definitions
  pub result : (after.body).result ≡ (before.body).result

pub record Moved (inner : Bool) (params : List VariableTree) (before : Known) {A : Type 0} (P : A → Known → Type 0) (x : A) (after : Known) : Type 0 where
  pub moves : Moves inner params before after
  pub steady : Steady params after
  pub holds : P x after

unfoldable pub Steps : Bool → List VariableTree → Known → {A : Type 0} → (A → Known → Type 0) → Result (A × Known) Fault → Type 0
Steps inner params before P (Ok x) = Moved inner params before P x.0 x.1
Steps inner params before P (Err fault) = Unit {0}

-- Statements of a block fit in each program and function that go on from the tables.
abbrev pub AreDeclared : List VariableTree → Known → List Statement → Type 0
AreDeclared params known ss = (p : Program) (f : FunctionTree) → Lives params known p f → (leaves repeats : Bool) → statements_fit p f true leaves repeats (statements_of ss) ≡ true

-- The functions of a unit that are read so far.
use Rattle.std.specs.Prelude.{◌≡◌, ℕ, true, List, [], ◌∷◌, map, Some, Result, Ok, Err, slice_get}
use Rattle.c_typed.specs.Sound.{function_fits}
use Rattle.c_typed.specs.Trees.{StaticTree, FunctionTree, Program}
use Rattle.type_rules.specs.Declarations.{definition_from}
use Rattle.type_rules.specs.Faults.{Fault}
use Rattle.type_rules.specs.Known.{FunctionName, Scope, Signature, Known, no_body}
use Rattle.type_rules.specs.Names.{entry_of}
use Rattle.typed_laws.specs.Living.{Steady}
use Rattle.typed_laws.specs.Tables.{type_in, Begins}

-- A whole program has these tables.
pub record Holds (known : Known) (p : Program) : Type 0 where
  pub begins : Begins known p
  pub statics : (n : ℕ) (s : StaticTree) → slice_get known.statics n ≡ Some s → (t : StaticTree) × (slice_get p.statics n ≡ Some t) × (t.ty ≡ s.ty)

-- A function has the types of its signature, which says that it is defined.
pub record Matches (g : FunctionTree) (s : Signature) : Type 0 where
  pub result : g.result ≡ (s.result).ty
  pub params : map type_in g.params ≡ s.params
  pub defined : s.defined ≡ true

abbrev pub name_of : FunctionTree → List ℕ
name_of g = g.name

-- Between the functions of a unit: its names, and the functions that are done.
pub record Files (names : List (List ℕ)) (done : List FunctionTree) (known : Known) : Type 0 where
  pub steady : Steady [] known
  pub idle : known.body ≡ no_body
  pub definitions : known.definitions ≡ names
  pub scope : Scope
  pub only : known.scopes ≡ scope ∷ []
  pub named : (name : List ℕ) (n : ℕ) → entry_of scope name ≡ Some (FunctionName n) → (s : Signature) × (slice_get known.signatures n ≡ Some s) × (s.definition ≡ definition_from names name 0)
  pub signed : (n : ℕ) (s : Signature) → slice_get known.signatures n ≡ Some s → (name : List ℕ) × (entry_of scope name ≡ Some (FunctionName n))
  pub made : (i : ℕ) (g : FunctionTree) → slice_get done i ≡ Some g → (n : ℕ) × (s : Signature) × (entry_of scope g.name ≡ Some (FunctionName n)) × (slice_get known.signatures n ≡ Some s) × Matches g s
  pub fitting : (i : ℕ) (g : FunctionTree) → slice_get done i ≡ Some g → (p : Program) → Holds known p → function_fits p g ≡ true

-- What holds behind a rule, where it is met.
unfoldable pub Turns : {A : Type 0} → (A → Known → Type 0) → Result (A × Known) Fault → Type 0
Turns P (Ok x) = P x.0 x.1
Turns P (Err fault) = Unit {0}

-- What is known of a unit at a place of its text, and rules: what a part of the text is there, or the first rule that it breaks.
use Rattle.std.specs.Prelude.{ℕ, ℤ, Bool, true, false, List, [], ◌∷◌, Option, Some, None, Result, Ok, Err}
use Rattle.c_typed.specs.Trees.{StaticTree, VariableTree}
use Rattle.c_typed.specs.declared.expression.Object.{Object}
use Rattle.c_typed.specs.declared.types.Qualified.{Qualified}
use Rattle.c_typed.specs.declared.types.Ty.{Ty}
use Rattle.c_typed.specs.declared.types.Ty.TheVariants.{Void}
use Rattle.type_rules.specs.Faults.{Kind, Fault, Tests, first_broken}

-- What is still to be made of a type whose element isn't complete so far: nothing, an array of so many of it, an array of arrays, the outer number
-- first, or what can't be made any more: deeper arrays, and what points to an array that waits.
pub data Waiting : Type 0 where
  Whole : Waiting
  OneArray : ℕ → Waiting
  TwoArrays : ℕ → ℕ → Waiting
  Never : Waiting

abbrev pub is_waiting : Waiting → Bool
is_waiting Whole = false
is_waiting (OneArray n) = true
is_waiting (TwoArrays n m) = true
is_waiting Never = true

-- An array more, round those that wait.
abbrev pub waits : ℕ → Waiting → Waiting
waits n Whole = OneArray n
waits n (OneArray m) = TwoArrays n m
waits n (TwoArrays m k) = Never
waits n Never = Never

-- What a name stands for (ISO/IEC 9899:1990, 6.1.2): an object or a register of the device, of which `fixed` says that no address can
-- be taken; a bit of a register; a function, by its number among those that are declared; a type, with what it waits for (6.5.6); a number (6.5.2.2).
pub data Binding : Type 0 where
  ObjectName : Object → Qualified → Bool → Binding
  BitName : ℕ → ℕ → Binding
  FunctionName : ℕ → Binding
  TypeNamed : Qualified → Waiting → Binding
  EnumeratorName : ℤ → Binding

-- names, and what each stands for
abbrev pub Scope : Type 0
Scope = List (List ℕ × Binding)

-- What a tag is that of (6.5.2.3): a structure, by its number, or an enumeration.
pub data Tag : Type 0 where
  StructTag : ℕ → Tag
  EnumTag : Tag

-- A member of a structure, and how many bytes stand before it.
pub record Field : Type 0 where
  pub ty : Qualified
  pub offset : ℕ

-- how far the body of a structure is
pub data Progress : Type 0 where
  Absent : Progress
  Open : Progress
  Closed : Progress

-- A structure (6.5.2.1): its members by name, its bytes so far, and how far its body is.
pub record Shape : Type 0 where
  pub fields : List (List ℕ × Field)
  pub size : ℕ
  pub body : Progress

-- A function that is declared (6.5.4.3): its result, the types of its parameters, its number among the functions that the unit defines,
-- and whether its body came already.
pub record Signature : Type 0 where
  pub result : Qualified
  pub params : List Ty
  pub definition : Option ℕ
  pub defined : Bool

-- The function whose body is read: its name, its result, its locals, and how many declarators its body has had.
pub record Body : Type 0 where
  pub name : List ℕ
  pub result : Ty
  pub locals : List VariableTree
  pub declarators : ℕ

-- What is known at a place: the rows of types that are pointed to or that arrays are made of, the structures, the tags of both sorts, the open scopes
-- with the innermost first, how many of them are those of lists of parameters, the functions that are declared, the names of those that the unit
-- defines, the static objects, and the function whose body is read.
pub record Known : Type 0 where
  pub targets : List Qualified
  pub shapes : List Shape
  pub tags : List (List ℕ × Tag)
  pub scopes : List Scope
  pub lists : ℕ
  pub signatures : List Signature
  pub definitions : List (List ℕ)
  pub statics : List StaticTree
  pub body : Body

abbrev pub no_body : Body
no_body = record { name = []; result = Void; locals = []; declarators = 0 }

-- What is known at the beginning of a unit that defines the functions of these names.
abbrev pub known_first : List (List ℕ) → Known
known_first names = record { targets = []; shapes = []; tags = []; scopes = [] ∷ []; lists = 0; signatures = []; definitions = names; statics = []; body = no_body }

-- ---- rules

-- what a part of a text is, and what is known behind it, or the first rule that it breaks
abbrev pub Rule : Type 0 → Type 0
Rule A = Known → Result (A × Known) Fault

abbrev pub given : {A : Type 0} → A → Rule A
given x = λ known. Ok (x, known)

abbrev pub broken : {A : Type 0} → Kind → ℕ → Rule A
broken kind line = λ known. Err (record { kind = kind; line = line })

abbrev pub known_here : Rule Known
known_here = λ known. Ok (known, known)

-- what is known is changed
abbrev pub learn : (Known → Known) → Rule Known
learn change = λ known. Ok (change known, change known)

-- One part stands behind another: what the first breaks comes first.
abbrev pub go_on : {A B : Type 0} → (A → Rule B) → Result (A × Known) Fault → Result (B × Known) Fault
go_on second (Ok x) = second x.0 x.1
go_on second (Err fault) = Err fault

infixl 10 ◌>>=◌
abbrev pub ◌>>=◌ : {A B : Type 0} → Rule A → (A → Rule B) → Rule B
first >>= second = λ known. go_on second (first known)

-- The rules of a node whose first token stands on a line.
abbrev pub told : Option Kind → ℕ → Rule Known
told None line = known_here
told (Some kind) line = broken kind line

abbrev pub tried : Tests → ℕ → Rule Known
tried tests line = told (first_broken tests) line

-- something that has to be there
abbrev pub wanted : {A : Type 0} → Kind → ℕ → Option A → Rule A
wanted kind line None = broken kind line
wanted kind line (Some x) = given x

-- What a declarator makes of a type (ISO/IEC 9899:1990, 6.5.4), and the rules of a parameter and of a member.
use Rattle.std.specs.Prelude.{ℕ, Bool, true, false, not, ◌||◌, List, [], ◌∷◌, ◌++◌, length, is_some}
use Rattle.c_nodes.specs.Words.{Symbol, Symbols}
use Rattle.c_typed.specs.Sameness.{is_void, is_array, is_struct}
use Rattle.c_typed.specs.declared.expression.Object.TheVariants as object
use Rattle.c_typed.specs.declared.types.Qualified.{Qualified}
use Rattle.c_typed.specs.declared.types.Ty.{Ty}
use Rattle.c_typed.specs.declared.types.Ty.TheVariants.{Pointer, Array}
use Rattle.type_rules.specs.Faults as kind
use Rattle.type_rules.specs.Faults.{Tests}
use Rattle.type_rules.specs.Known.{Waiting, Whole, OneArray, TwoArrays, Never, is_waiting, waits, ObjectName, Scope, Known, Rule, given, known_here, tried, ◌>>=◌}
use Rattle.type_rules.specs.Names.{entry_of, is_declared, bind}
use Rattle.type_rules.specs.Rows.{plain, like, pointer_to, target_of, array_of, is_complete, fields_of, add_member}
use Rattle.type_rules.specs.Specifiers.{Specified}

-- A parameter: its name, which may be missing, its type, whether it is declared `register`, and its line.
pub record Param : Type 0 where
  pub name : List ℕ
  pub ty : Qualified
  pub fixed : Bool
  pub line : ℕ

-- a suffix: an array of a length, 0 where it isn't known, or a function, with what the list of its parameters declares
pub data Made : Type 0 where
  ArrayMade : ℕ → Made
  FunctionMade : List Param → Scope → Made

pub data Declared : Type 0 where
  ObjectDeclared : Qualified → Declared
  FunctionDeclared : Qualified → List Param → Scope → Declared

-- What is declared, where `bad` says that no declaration has such a type; of a type that waits for arrays it has the element.
pub record Outline : Type 0 where
  pub declared : Declared
  pub bad : Bool
  pub waiting : Waiting

-- The element of what waits isn't complete, so a pointer in its place is one to what waits.
abbrev pub lost : Waiting → Waiting
lost Whole = Whole
lost _ = Never

abbrev pub waiting_for : Ty → Waiting → Waiting
waiting_for (Pointer row) waiting = lost waiting
waiting_for _ waiting = waiting

abbrev pub object_outline : Qualified → Waiting → Outline
object_outline ty waiting = record { declared = ObjectDeclared ty; bad = false; waiting = waiting_for ty.ty waiting }

-- An array of functions or of void is none. One of what isn't complete waits, since it would have the wrong size once its element is complete.
abbrev pub array_or_part : Bool → ℕ → Outline → Qualified → Rule Outline
array_or_part false count o element = given (record o { bad = o.bad || is_void element.ty; waiting = waits count o.waiting })
array_or_part true count o element = do
  ty ← array_of element count
  given (record o { declared = ObjectDeclared ty; bad = o.bad || is_void element.ty })

abbrev pub array_behind : ℕ → Outline → Declared → Rule Outline
array_behind count o (ObjectDeclared element) = do
  known ← known_here
  array_or_part (is_complete known element.ty) count o element
array_behind count o (FunctionDeclared result params scope) = given (record o { declared = ObjectDeclared result; bad = true })

-- A function with an array, a structure or a function as its result is none, nor is one with a result that waits.
abbrev pub function_behind : List Param → Scope → Outline → Declared → Outline
function_behind params scope o (ObjectDeclared result) = record o { declared = FunctionDeclared result params scope; bad = o.bad || (is_waiting o.waiting || (is_array result.ty || is_struct result.ty)) }
function_behind params scope o (FunctionDeclared result inner names) = record o { declared = FunctionDeclared result params scope; bad = true }

abbrev pub behind : Made → Outline → Rule Outline
behind (ArrayMade count) o = array_behind count o o.declared
behind (FunctionMade params scope) o = given (function_behind params scope o o.declared)

-- Suffixes, the outermost first: the last one stands next to the type.
abbrev pub outlined : List Made → Outline → Rule Outline
outlined [] o = given o
outlined (m ∷ ms) o = do
  inner ← outlined ms o
  behind m inner

-- ---- a parameter that is written as an array is a pointer to its element, which is no void (6.7.1)

abbrev pub pointer_outline : Outline → Declared → Rule Outline
pointer_outline o (ObjectDeclared element) = do
  ty ← pointer_to element
  given (record o { declared = ObjectDeclared (plain ty); bad = o.bad || is_void element.ty })
pointer_outline o (FunctionDeclared result params scope) = given (record o { declared = ObjectDeclared result; bad = true })

-- It may be an array by the name of its type, too, also one that waits.
abbrev pub started : Outline → Qualified → Ty → Rule Outline
started o whole (Array row count size) = do
  known ← known_here
  ty ← pointer_to (like whole (target_of known row).ty)
  given (record o { declared = ObjectDeclared (plain ty) })
started o whole _ = given o

abbrev pub started_by : Waiting → Outline → Qualified → Rule Outline
started_by (OneArray n) o element = do
  ty ← pointer_to element
  given (record o { declared = ObjectDeclared (plain ty); waiting = Whole })
started_by _ o whole = started o whole whole.ty

abbrev pub array_started : Outline → Declared → Rule Outline
array_started o (ObjectDeclared ty) = started_by o.waiting o ty
array_started o (FunctionDeclared result params scope) = given o

abbrev pub param_outlined : List Made → Outline → Rule Outline
param_outlined [] o = array_started o o.declared
param_outlined (ArrayMade count ∷ ms) o = do
  element ← outlined ms o
  pointer_outline element element.declared
param_outlined (FunctionMade params scope ∷ ms) o = do
  inner ← outlined ms o
  behind (FunctionMade params scope) inner

abbrev pub is_function : Declared → Bool
is_function (ObjectDeclared ty) = false
is_function (FunctionDeclared result params scope) = true

abbrev pub object_type : Declared → Qualified
object_type (ObjectDeclared ty) = ty
object_type (FunctionDeclared result params scope) = result

-- ---- the rule of a parameter, whose list's scope is open

abbrev pub is_again : Known → List ℕ → Bool
is_again known [] = false
is_again known (b ∷ bs) = is_declared known (b ∷ bs)

abbrev pub param_tests : Known → List ℕ → Outline → Tests
param_tests known name o =
    (is_again known name, kind.Again) ∷
    (o.bad || (is_function o.declared || is_struct (object_type o.declared).ty), kind.Declare) ∷
    (is_waiting o.waiting || not (is_complete known (object_type o.declared).ty), kind.Incomplete) ∷ []

-- It is in scope from here on.
abbrev pub bind_param : List ℕ → ℕ → Qualified → Bool → Rule Known
bind_param [] number ty fixed = known_here
bind_param (b ∷ bs) number ty fixed = bind (b ∷ bs) (ObjectName (object.Param number) ty fixed)

abbrev pub param_rule : List Param → Specified → Outline → List ℕ → ℕ → Rule (List Param)
param_rule before said o name line = do
  known ← known_here
  _ ← tried (param_tests known name o) line
  _ ← bind_param name (length before) (object_type o.declared) said.register
  given (before ++ record { name = name; ty = object_type o.declared; fixed = said.register; line = line } ∷ [])

-- ---- the rule of a member (6.5.2.1)

abbrev pub member_tests : Known → ℕ → List ℕ → Outline → Tests
member_tests known number name o =
    (is_some (entry_of (fields_of known number) name), kind.Again) ∷
    (o.bad || (is_function o.declared || (object_type o.declared).constant), kind.Declare) ∷
    (is_waiting o.waiting || not (is_complete known (object_type o.declared).ty), kind.Incomplete) ∷ []

abbrev pub member_rule : ℕ → Outline → List ℕ → ℕ → Rule Known
member_rule number o name line = do
  known ← known_here
  _ ← tried (member_tests known number name o) line
  add_member number name (object_type o.declared)

-- the line of the first token of a declarator
abbrev pub declarator_line : Symbols → Symbol → ℕ
declarator_line [] name = name.line
declarator_line (s ∷ rest) name = s.line

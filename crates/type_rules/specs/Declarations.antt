-- Declarations in the file and in blocks (ISO/IEC 9899:1990, 6.5 and 6.7).
use Rattle.std.specs.Prelude.{ℕ, suc, Bool, true, false, not, ◌&&◌, ◌||◌, if◌then◌else◌, List, [], ◌∷◌, ◌++◌, length, map, Option, Some, None, is_some, Ok, slice_get}
use Rattle.std.specs.Str.{bytes_eq}
use Rattle.c_nodes.specs.Programs.{InitTree, BegunTree, DeclaredTrees, DeclarationTree}
use Rattle.c_typed.specs.Sameness.{same_type, same_qualified}
use Rattle.c_typed.specs.Trees.{Statement}
use Rattle.c_typed.specs.declared.types.Qualified.{Qualified}
use Rattle.c_typed.specs.declared.types.Ty.{Ty}
use Rattle.type_rules.specs.Faults as kind
use Rattle.type_rules.specs.Faults.{Tests}
use Rattle.type_rules.specs.Known.{Binding, FunctionName, TypeNamed, Signature, Known, Rule, given, broken, known_here, learn, tried, ◌>>=◌}
use Rattle.type_rules.specs.Names.{innermost_in, is_declared, bind}
use Rattle.type_rules.specs.Rows.{changed_at}
use Rattle.type_rules.specs.Specifiers.{Specified}
use Rattle.type_rules.specs.Outlines.{Param, Declared, ObjectDeclared, FunctionDeclared, Outline, is_function, object_type}
use Rattle.type_rules.specs.Declarators.{in_file, in_block, specified, outline_of, name_in, line_in}
use Rattle.type_rules.specs.Slots.{nothing_begun}
use Rattle.type_rules.specs.Initializers.{begins}
use Rattle.type_rules.specs.Objects.{object_rule, static_rule, block_name, next_declarator, local_rule}

-- ---- functions (6.5.4.3): the qualifiers of parameters don't count

abbrev pub param_types : List Param → List Ty
param_types params = map (λ p. p.ty.ty) params

abbrev pub same_types : List Ty → List Ty → Bool
same_types [] [] = true
same_types (a ∷ as_) (b ∷ bs) = same_type a b && same_types as_ bs
same_types _ _ = false

-- the number of a definition of this name, in the order of the unit
abbrev pub definition_from : List (List ℕ) → List ℕ → ℕ → Option ℕ
definition_from [] name n = None
definition_from (d ∷ ds) name n = if bytes_eq d name then Some n else definition_from ds name (suc n)

abbrev pub is_same : Option Signature → Qualified → List Ty → Bool → Bool
is_same None result params defines = false
is_same (Some s) result params defines = same_qualified s.result result && (same_types s.params params && not (defines && s.defined))

abbrev pub function_number : Option Binding → Option ℕ
function_number (Some (FunctionName number)) = Some number
function_number _ = None

abbrev pub signature_at : Known → Option ℕ → Option Signature
signature_at known None = None
signature_at known (Some number) = slice_get known.signatures number

-- A name that is declared already is that of a function of the same type, which gets a body once. A type that no function has is another one than
-- any before.
abbrev pub function_tests : Known → List ℕ → Qualified → List Ty → Bool → Bool → Tests
function_tests known name result params bad defines =
    (is_declared known name && (bad || not (is_same (signature_at known (function_number (innermost_in known.scopes name))) result params defines)), kind.Again) ∷
    (bad, kind.Declare) ∷ []

abbrev pub new_function : List ℕ → Qualified → List Ty → Rule ℕ
new_function name result params = λ known. Ok (length known.signatures, record known { signatures = known.signatures ++ record { result = result; params = params; definition = definition_from known.definitions name 0; defined = false } ∷ [] })

abbrev pub function_added : Option ℕ → List ℕ → Qualified → List Ty → Rule ℕ
function_added (Some number) name result params = given number
function_added None name result params = do
  number ← new_function name result params
  _ ← bind name (FunctionName number)
  given number

abbrev pub set_defined : Bool → ℕ → Rule Known
set_defined false number = known_here
set_defined true number = learn (λ known. record known { signatures = changed_at known.signatures number (λ s. record s { defined = true }) })

abbrev pub function_rule : List ℕ → Qualified → List Param → Bool → Bool → ℕ → Rule Known
function_rule name result params bad defines line = do
  known ← known_here
  _ ← tried (function_tests known name result (param_types params) bad defines) line
  number ← function_added (function_number (innermost_in known.scopes name)) name result (param_types params)
  set_defined defines number

-- ---- declarators in the file

abbrev pub init_in : Option (ℕ × InitTree) → Option InitTree
init_in None = None
init_in (Some i) = Some i.1

-- A function can't be given a value.
abbrev pub no_value : Option InitTree → ℕ → Rule Known
no_value None line = known_here
no_value (Some init) line = do
  _ ← begins init None false (nothing_begun true line)
  broken kind.Convert line

abbrev pub file_object : Specified → Outline → Option InitTree → List ℕ → ℕ → Rule Known
file_object said o init name line = do
  known ← known_here
  _ ← tried ((is_declared known name, kind.Again) ∷ []) line
  ty ← object_rule said o (is_some init) line
  static_rule init name name ty line

abbrev pub file_declared : Declared → Specified → Outline → Option InitTree → List ℕ → ℕ → Rule Known
file_declared (FunctionDeclared result params scope) said o init name line = do
  _ ← function_rule name result params o.bad false line
  no_value init line
file_declared (ObjectDeclared ty) said o init name line = file_object said o init name line

-- ---- the names of types (6.5.6): a type is no object, so it may be incomplete and of any size

abbrev pub type_tests : Known → Specified → Outline → Bool → List ℕ → Tests
type_tests known said o begun name =
    (is_declared known name, kind.Again) ∷
    (o.bad || (is_function o.declared || (begun || said.interrupt)), kind.Declare) ∷ []

abbrev pub type_rule : Specified → Outline → Bool → List ℕ → ℕ → Rule Known
type_rule said o begun name line = do
  known ← known_here
  _ ← tried (type_tests known said o begun name) line
  bind name (TypeNamed (object_type o.declared) o.waiting)

abbrev pub declared_as : Specified → Outline → Option InitTree → List ℕ → ℕ → Rule Known
declared_as said o init name line =
    if said.is_typedef then type_rule said o (is_some init) name line
    else file_declared o.declared said o init name line

abbrev pub file_declarator : BegunTree → Specified → Rule Known
file_declarator b said = do
  o ← outline_of b.declarator said true
  declared_as said o (init_in b.init) (name_in b.declarator) (line_in b.declarator)

abbrev pub more_in_file : List (ℕ × BegunTree) → Specified → Rule Known
more_in_file [] said = known_here
more_in_file (b ∷ bs) said = do
  _ ← file_declarator b.1 said
  more_in_file bs said

-- where nothing is declared, `interrupt` marks no function, and `typedef` names no type
abbrev pub nothing_declared : Specified → Rule Known
nothing_declared said = tried ((said.interrupt || said.is_typedef, kind.Declare) ∷ []) said.line

abbrev pub declared_in_file : Option DeclaredTrees → Specified → Rule Known
declared_in_file None said = nothing_declared said
declared_in_file (Some d) said = do
  _ ← file_declarator d.0 said
  more_in_file d.1 said

abbrev pub file_declaration : DeclarationTree → Rule Known
file_declaration d = do
  said ← specified d.specs in_file
  declared_in_file d.declared said

-- ---- declarators in blocks: no function is declared there

abbrev pub block_object : Specified → Qualified → Option InitTree → List ℕ → ℕ → ℕ → Rule (List Statement)
block_object said ty init name k line =
    if said.fixed then (do
      known ← known_here
      _ ← static_rule init (block_name (known.body).name k name) name ty line
      given [])
    else local_rule init name ty said.register line

abbrev pub block_declarator : BegunTree → Specified → Rule (List Statement)
block_declarator b said = do
  o ← outline_of b.declarator said false
  known ← known_here
  _ ← tried ((is_declared known (name_in b.declarator), kind.Again) ∷ []) (line_in b.declarator)
  ty ← object_rule said o (is_some b.init) (line_in b.declarator)
  k ← next_declarator
  block_object said ty (init_in b.init) (name_in b.declarator) k (line_in b.declarator)

abbrev pub more_in_block : List (ℕ × BegunTree) → Specified → Rule (List Statement)
more_in_block [] said = given []
more_in_block (b ∷ bs) said = do
  first ← block_declarator b.1 said
  others ← more_in_block bs said
  given (first ++ others)

abbrev pub declared_in_block : Option DeclaredTrees → Specified → Rule (List Statement)
declared_in_block None said = do
  _ ← nothing_declared said
  given []
declared_in_block (Some d) said = do
  first ← block_declarator d.0 said
  others ← more_in_block d.1 said
  given (first ++ others)

-- What the declarators of a block do.
abbrev pub block_declaration : DeclarationTree → Rule (List Statement)
block_declaration d = do
  said ← specified d.specs in_block
  declared_in_block d.declared said

abbrev pub block_declarations : List DeclarationTree → Rule (List Statement)
block_declarations [] = given []
block_declarations (d ∷ ds) = do
  first ← block_declaration d
  others ← block_declarations ds
  given (first ++ others)

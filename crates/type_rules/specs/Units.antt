-- Functions and whole units (ISO/IEC 9899:1990, 6.7): the typed program of a unit, or the first rule that it breaks.
use Rattle.std.specs.Prelude.{ℕ, Bool, true, if◌then◌else◌, List, [], ◌∷◌, ◌++◌, map, Result, Ok, Err}
use Rattle.std.specs.List.{list_any}
use Rattle.std.specs.Str.{bytes_eq}
use Rattle.c_nodes.specs.Programs.{ItemTree, BlockTree}
use Rattle.c_nodes.specs.Programs as tree
use Rattle.c_nodes.specs.Trees.{SpecTrees, DeclaratorTree}
use Rattle.c_typed.specs.Trees.{VariableTree, FunctionTree, StructureTree, MemberTree, Program}
use Rattle.c_typed.specs.declared.types.Ty.{Ty}
use Rattle.type_rules.specs.Faults as kind
use Rattle.type_rules.specs.Faults.{Fault}
use Rattle.type_rules.specs.Known.{Scope, Shape, Field, Known, known_first, no_body, Rule, given, broken, known_here, learn, tried, ◌>>=◌}
use Rattle.type_rules.specs.Names.{is_declared, enter_with, leave}
use Rattle.type_rules.specs.Specifiers.{Specified}
use Rattle.type_rules.specs.Outlines.{Param, Declared, ObjectDeclared, FunctionDeclared, Outline}
use Rattle.type_rules.specs.Declarators.{in_file, specified, outline_of, name_in, line_in}
use Rattle.type_rules.specs.Declarations.{function_rule, file_declaration}
use Rattle.type_rules.specs.Statements.{body_statements}

-- The names of the functions that a unit defines, in the order of their first definitions.
abbrev pub is_among : List ℕ → List (List ℕ) → Bool
is_among name names = list_any (bytes_eq name) names

abbrev pub with_name : List ℕ → List (List ℕ) → List (List ℕ)
with_name name names = if is_among name names then names else names ++ name ∷ []

abbrev pub defined_in : List ItemTree → List (List ℕ) → List (List ℕ)
defined_in [] names = names
defined_in (tree.Function s d b ∷ is) names = defined_in is (with_name (name_in d) names)
defined_in (tree.Declaration d ∷ is) names = defined_in is names

-- ---- functions

abbrev pub body_begun : List ℕ → Ty → Rule Known
body_begun name result = learn (λ known. record known { body = record { name = name; result = result; locals = []; declarators = 0 } })

abbrev pub body_ended : Rule Known
body_ended = learn (λ known. record known { body = no_body })

abbrev pub variable_of : Param → VariableTree
variable_of p = record { name = p.name; ty = p.ty; line = p.line }

-- The parameters and the outermost block of a function are one scope, with the enumerators that stand among the parameters.
abbrev pub function_body : BlockTree → Specified → List ℕ → Ty → List Param → Scope → Rule FunctionTree
function_body b said name result params scope = do
  _ ← body_begun name result
  _ ← enter_with scope
  statements ← body_statements b
  _ ← leave
  known ← known_here
  _ ← body_ended
  given (record { name = name; result = result; params = map variable_of params; locals = (known.body).locals; body = statements; interrupt = said.interrupt; line = said.line })

abbrev pub function_declared : Declared → BlockTree → Specified → Outline → List ℕ → ℕ → Rule FunctionTree
function_declared (FunctionDeclared result params scope) b said o name line = do
  _ ← function_rule name result params o.bad true line
  function_body b said name result.ty params scope
function_declared (ObjectDeclared ty) b said o name line = do
  known ← known_here
  _ ← tried ((is_declared known name, kind.Again) ∷ []) line
  broken kind.Declare line

-- A `typedef` stands in declarations alone.
abbrev pub function : SpecTrees → DeclaratorTree → BlockTree → Rule FunctionTree
function s d b = do
  said ← specified s in_file
  _ ← tried ((said.is_typedef, kind.Declare) ∷ []) said.line
  o ← outline_of d said true
  function_declared o.declared b said o (name_in d) (line_in d)

-- ---- units

abbrev pub functions_of : List ItemTree → Rule (List FunctionTree)
functions_of [] = given []
functions_of (tree.Function s d b ∷ is) = do
  first ← function s d b
  others ← functions_of is
  given (first ∷ others)
functions_of (tree.Declaration d ∷ is) = do
  _ ← file_declaration d
  functions_of is

abbrev pub member_tree : List ℕ × Field → MemberTree
member_tree m = record { ty = (m.1).ty; offset = (m.1).offset }

abbrev pub structure_tree : Shape → StructureTree
structure_tree s = record { members = map member_tree s.fields; size = s.size }

abbrev pub program_from : Known → List FunctionTree → Program
program_from known functions = record { targets = known.targets; structures = map structure_tree known.shapes; sizes = map (λ s. s.size) known.shapes; statics = known.statics; functions = functions }

abbrev pub program_in : Result (List FunctionTree × Known) Fault → Result Program Fault
program_in (Err fault) = Err fault
program_in (Ok x) = Ok (program_from x.1 x.0)

-- The typed program of a unit.
unfoldable pub judged_unit : List ItemTree → Result Program Fault
judged_unit unit = program_in (functions_of unit (known_first (defined_in unit [])))

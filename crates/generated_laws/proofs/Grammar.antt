-- A generated tree is one of the grammar.
use Rattle.std.proofs.Common.{◌≡◌, ℕ, zero, suc, ◌+◌, ◌≤◌, List, [], ◌∷◌, refl, arith, codes}
use Rattle.c_nodes.specs.Programs as unit
use Rattle.c_nodes.specs.Programs.{Statements, ItemTree, IsDeclaration, IsStatement, AreStatements, depth_statements, IsItem, IsUnit}
use Rattle.c_nodes.specs.Trees.{Tree, IsTree, AreSpecs, IsDeclarator, rank}
use Rattle.generated_laws.specs.Tree.{byte_specs, object, declared_byte, variable, function_at, functions_from, assigned, call_at, calls_from, main_statements, main_at, generated_tree}

byte_is : (line : ℕ) → AreSpecs (byte_specs line)
byte_is line = (refl, (refl, tt))

object_is : (line : ℕ) (name : List ℕ) → IsDeclarator (object line name)
object_is line name = (refl, refl, tt)

declared_is : (line : ℕ) (name : List ℕ) → IsDeclaration (declared_byte line name)
declared_is line name = (byte_is line, ((object_is line name, tt), tt))

function_is : (line i : ℕ) → IsItem (function_at line i)
function_is line i =
    (byte_is line, (refl, refl, (((byte_is line, object_is line (codes "x")), tt), tt)), refl, (tt, ((refl, refl, omega arith, omega arith, omega arith, refl), tt)), omega arith)

assigned_is : (line : ℕ) (name : List ℕ) (value : Tree) → IsTree value → rank value ≤ 12 → IsStatement (assigned line name value)
assigned_is line name value is low = (refl, is, refl, refl, low)

call_is : (line i : ℕ) → IsStatement (call_at line i)
call_is line i = (refl, (refl, refl, refl), refl, refl, omega arith)

calls_are : (line i n : ℕ) (rest : Statements) → AreStatements rest → AreStatements (calls_from line i n rest)
calls_are line i zero rest are = are
calls_are line i (suc n) rest are = (call_is (line + i) i, calls_are line (suc i) n rest are)

statements_are : (line functions : ℕ) → AreStatements (main_statements line functions)
statements_are line functions = (
  assigned_is (line + 1) (codes "x") (variable (line + 1) (codes "PORTB")) refl (omega arith),
  calls_are (line + 2) 0 functions (unit.AndStatement (assigned (line + 2 + functions) (codes "PORTC") (variable (line + 2 + functions) (codes "x"))) unit.NoStatement) (assigned_is (line + 2 + functions) (codes "PORTC") (variable (line + 2 + functions) (codes "x")) refl (omega arith), tt),
)

main_is : (line functions : ℕ) → depth_statements (main_statements line functions) ≡ 1 → IsItem (main_at line functions)
main_is line functions deep = ((refl, tt), (refl, refl, (tt, tt)), refl, ((declared_is line (codes "x"), tt), statements_are line functions), omega (arith, deep))

functions_are : (i n : ℕ) (rest : List ItemTree) → IsUnit rest → IsUnit (functions_from i n rest)
functions_are i zero rest are = are
functions_are i (suc n) rest are = (function_is (i + 2) i, functions_are (suc i) n rest are)

pub is_unit : (functions : ℕ) → depth_statements (main_statements (functions + 2) functions) ≡ 1 → IsUnit (generated_tree functions)
unfolding generated_tree
is_unit functions deep = (declared_is 1 (codes "s"), functions_are 0 functions (main_at (functions + 2) functions ∷ []) (main_is (functions + 2) functions deep, tt))

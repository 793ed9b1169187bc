-- The tree of a generated program, as the grammar has it.
use Rattle.std.specs.Prelude.{ℕ, zero, suc, ◌+◌, ◌==◌, false, if◌then◌else◌, List, [], ◌∷◌, ◌++◌, Some, None, codes, decimal}
use Rattle.c_token.specs.declared.token.Keyword.TheVariants as words
use Rattle.c_token.specs.declared.token.Punct.TheVariants as marks
use Rattle.c_token.specs.declared.token.TokKind.TheVariants as kinds
use Rattle.c_nodes.specs.Programs.{DeclarationTree, Statements, StatementTree, ItemTree}
use Rattle.c_nodes.specs.Programs as unit
use Rattle.c_nodes.specs.Trees.{Tree, SpecTrees, DeclaratorTree}
use Rattle.c_nodes.specs.Trees as tree
use Rattle.c_nodes.specs.Words.{Symbol, plain, key, punct}

abbrev pub named : ℕ → List ℕ → Symbol
named line bytes = record { kind = kinds.Name; bytes = bytes; line = line }

abbrev pub variable : ℕ → List ℕ → Tree
variable line bytes = tree.Leaf (named line bytes)

-- `0` is a number of base 8
abbrev pub number : ℕ → ℕ → Tree
number line n = tree.Leaf (plain (kinds.Int n (if n == 0 then 8 else 10) false false) line)

-- `unsigned char`
abbrev pub byte_specs : ℕ → SpecTrees
byte_specs line = tree.Specified (tree.OneWord (key words.Unsigned line)) (tree.AndSpec (tree.OneWord (key words.Char line)) tree.NoSpec)

abbrev pub object : ℕ → List ℕ → DeclaratorTree
object line name = tree.Declares [] (named line name) tree.NoSuffix

abbrev pub declared_byte : ℕ → List ℕ → DeclarationTree
declared_byte line name = record { specs = byte_specs line; declared = Some (record { declarator = object line name; init = None }, []); semicolon = line }

-- the name of the function of a number
abbrev pub function_name : ℕ → List ℕ
function_name i = codes "f" ++ decimal i

-- `unsigned char fI(unsigned char x){return x+I;}`
abbrev pub function_at : ℕ → ℕ → ItemTree
function_at line i =
    unit.Function (byte_specs line)
    (tree.Declares [] (named line (function_name i)) (tree.AndSuffix (tree.Params line (tree.Named (byte_specs line) (object line (codes "x"))) tree.NoParam line) tree.NoSuffix))
    (unit.Block line [] (unit.AndStatement (unit.Return line (Some (tree.Join (punct marks.Plus line) (variable line (codes "x")) (number line i))) line) unit.NoStatement) line)

-- so many functions from a number on, each on its line behind the first one
abbrev pub functions_from : ℕ → ℕ → List ItemTree → List ItemTree
functions_from i zero rest = rest
functions_from i (suc n) rest = function_at (i + 2) i ∷ functions_from (suc i) n rest

abbrev pub assigned : ℕ → List ℕ → Tree → StatementTree
assigned line name value = unit.Plain (Some (tree.Assign (variable line name) (punct marks.Assign line) value)) line

-- `x=fI(x);`
abbrev pub call_at : ℕ → ℕ → StatementTree
call_at line i = assigned line (codes "x") (tree.Behind (variable line (function_name i)) (tree.Call line (variable line (codes "x")) line))

-- the calls of so many functions from a number on, where that of the first one stands on a line
abbrev pub calls_from : ℕ → ℕ → ℕ → Statements → Statements
calls_from line i zero rest = rest
calls_from line i (suc n) rest = unit.AndStatement (call_at (line + i) i) (calls_from line (suc i) n rest)

-- `x=PORTB;`, the calls of so many functions, and `PORTC=x;`
abbrev pub main_statements : ℕ → ℕ → Statements
main_statements line functions =
    unit.AndStatement (assigned (line + 1) (codes "x") (variable (line + 1) (codes "PORTB")))
    (calls_from (line + 2) 0 functions
    (unit.AndStatement (assigned (line + 2 + functions) (codes "PORTC") (variable (line + 2 + functions) (codes "x"))) unit.NoStatement))

-- main begins on a line, and calls so many functions
abbrev pub main_at : ℕ → ℕ → ItemTree
main_at line functions =
    unit.Function (tree.Specified (tree.OneWord (key words.Void line)) tree.NoSpec)
    (tree.Declares [] (named line (codes "main")) (tree.AndSuffix (tree.VoidOnly line line line) tree.NoSuffix))
    (unit.Block line (declared_byte line (codes "x") ∷ []) (main_statements line functions) (line + 3 + functions))

unfoldable pub generated_tree : ℕ → List ItemTree
generated_tree functions = unit.Declaration (declared_byte 1 (codes "s")) ∷ functions_from 0 functions (main_at (functions + 2) functions ∷ [])

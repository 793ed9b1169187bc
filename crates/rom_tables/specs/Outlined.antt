-- A program whose tables are read by calls: each read `t[e]` of a table becomes a call of its reader with e, and the
-- readers stand behind all other functions. The reader of t is named `$rom.t`, has one parameter k of type unsigned int
-- and the body `return t[k];`. Static objects, the numbers of functions and all types stay as they are; what a reader
-- points to is added to the types where it isn't there.
use Rattle.std.specs.Prelude.{ℕ, ◌+◌, true, false, if◌then◌else◌, List, [], ◌∷◌, ◌++◌, length, map, Option, Some, None, option_map, slice_get, codes}
use Rattle.c_ints.specs.declared.types.IntTy.TheVariants as int
use Rattle.c_ints.specs.declared.operators.BinOp.TheVariants as ops
use Rattle.c_typed.specs.Sameness.{same_type, same_qualified}
use Rattle.c_typed.specs.Trees as tree
use Rattle.c_typed.specs.Trees.{Expression, Expressions, Place, Item, Statement, Statements, Arm, Arms, LastArm, VariableTree, StaticTree, FunctionTree, Program}
use Rattle.c_typed.specs.Types.{type_of}
use Rattle.c_typed.specs.declared.expression.Object.TheVariants as objects
use Rattle.c_typed.specs.declared.types.Qualified.{Qualified}
use Rattle.c_typed.specs.declared.types.Ty.{Ty}
use Rattle.c_typed.specs.declared.types.Ty.TheVariants.{Void, Int, Pointer, Array}
use Rattle.rom_tables.specs.Tables.{tables_of, table_on_left, table_on_right, index_on_left, index_on_right}

-- the type of a reader's index
abbrev pub unsigned_int : Ty
unsigned_int = Int int.UInt

abbrev pub index_type : Qualified
index_type = record { ty = unsigned_int; constant = false; volatile = false }

abbrev pub to_unsigned : Expression → ℕ → Expression
to_unsigned e line = if same_type (type_of e) unsigned_int then e else tree.Convert e unsigned_int line

-- An index as an argument is converted once: one that was converted is taken as it was before.
abbrev pub index_argument : Expression → ℕ → Expression
index_argument (tree.Convert e ty at) line = to_unsigned e at
index_argument e line = to_unsigned e line

abbrev pub reader_call : ℕ → Expression → Ty → ℕ → Expression
reader_call reader index ty line = tree.Call reader (tree.AndExpression (index_argument index line) tree.NoExpression) ty line

-- The value of a place, by the table whose start is the left or the right operand of the sum that leads there. Where
-- there is one, the other operand is the index.
abbrev pub read_of : ℕ → Option ℕ → Option ℕ → Place → Ty → ℕ → Expression
read_of first (Some t) right place ty line = reader_call (first + t) (index_on_right place) ty line
read_of first None (Some t) place ty line = reader_call (first + t) (index_on_left place) ty line
read_of first None None place ty line = tree.Read place ty line

-- Expressions and places; `ts` are the numbers of the tables, and `first` is the number of the first reader.
unfoldable mutual
  pub outlined_expression : List ℕ → ℕ → Expression → Expression
  outlined_expression ts first (tree.Constant value line) = tree.Constant value line
  outlined_expression ts first (tree.Read place ty line) = read_of first (table_on_left ts place) (table_on_right ts place) (outlined_place ts first place) ty line
  outlined_expression ts first (tree.Address place ty line) = tree.Address (outlined_place ts first place) ty line
  outlined_expression ts first (tree.Convert operand ty line) = tree.Convert (outlined_expression ts first operand) ty line
  outlined_expression ts first (tree.Cast operand ty line) = tree.Cast (outlined_expression ts first operand) ty line
  outlined_expression ts first (tree.Unary op operand ty line) = tree.Unary op (outlined_expression ts first operand) ty line
  outlined_expression ts first (tree.Binary op left right ty line) = tree.Binary op (outlined_expression ts first left) (outlined_expression ts first right) ty line
  outlined_expression ts first (tree.Offset op left right size ty line) = tree.Offset op (outlined_expression ts first left) (outlined_expression ts first right) size ty line
  outlined_expression ts first (tree.Difference left right size line) = tree.Difference (outlined_expression ts first left) (outlined_expression ts first right) size line
  outlined_expression ts first (tree.Logical op left right line) = tree.Logical op (outlined_expression ts first left) (outlined_expression ts first right) line
  outlined_expression ts first (tree.Conditional condition chosen otherwise ty line) = tree.Conditional (outlined_expression ts first condition) (outlined_expression ts first chosen) (outlined_expression ts first otherwise) ty line
  outlined_expression ts first (tree.Comma left right ty line) = tree.Comma (outlined_expression ts first left) (outlined_expression ts first right) ty line
  outlined_expression ts first (tree.Assign place value ty line) = tree.Assign (outlined_place ts first place) (outlined_expression ts first value) ty line
  outlined_expression ts first (tree.StructAssign place from size line) = tree.StructAssign (outlined_place ts first place) (outlined_place ts first from) size line
  outlined_expression ts first (tree.Update op place value operation size ty line) = tree.Update op (outlined_place ts first place) (outlined_expression ts first value) operation size ty line
  outlined_expression ts first (tree.Step op place operation size ty line) = tree.Step op (outlined_place ts first place) operation size ty line
  outlined_expression ts first (tree.Call function arguments ty line) = tree.Call function (outlined_arguments ts first arguments) ty line

  pub outlined_arguments : List ℕ → ℕ → Expressions → Expressions
  outlined_arguments ts first tree.NoExpression = tree.NoExpression
  outlined_arguments ts first (tree.AndExpression e es) = tree.AndExpression (outlined_expression ts first e) (outlined_arguments ts first es)

  pub outlined_place : List ℕ → ℕ → Place → Place
  outlined_place ts first (tree.Name object ty line) = tree.Name object ty line
  outlined_place ts first (tree.Bit register bit line) = tree.Bit register bit line
  outlined_place ts first (tree.Member whole member offset ty line) = tree.Member (outlined_place ts first whole) member offset ty line
  outlined_place ts first (tree.Deref pointer ty line) = tree.Deref (outlined_expression ts first pointer) ty line

abbrev pub outlined_item : List ℕ → ℕ → Item → Item
outlined_item ts first (tree.Scalar offset value) = tree.Scalar offset (outlined_expression ts first value)
outlined_item ts first (tree.Struct offset from size) = tree.Struct offset (outlined_place ts first from) size
outlined_item ts first (tree.Text offset bytes size) = tree.Text offset bytes size

-- an expression that may be left out
abbrev pub outlined_option : List ℕ → ℕ → Option Expression → Option Expression
outlined_option ts first e = option_map (outlined_expression ts first) e

unfoldable mutual
  pub outlined_statement : List ℕ → ℕ → Statement → Statement
  outlined_statement ts first (tree.Block statements line) = tree.Block (outlined_statements ts first statements) line
  outlined_statement ts first (tree.Empty line) = tree.Empty line
  outlined_statement ts first (tree.Expr value line) = tree.Expr (outlined_expression ts first value) line
  outlined_statement ts first (tree.Declare local line) = tree.Declare local line
  outlined_statement ts first (tree.InitScalar local value line) = tree.InitScalar local (outlined_expression ts first value) line
  outlined_statement ts first (tree.InitList local items line) = tree.InitList local (map (outlined_item ts first) items) line
  outlined_statement ts first (tree.If arms otherwise line) = tree.If (outlined_arms ts first arms) (outlined_last ts first otherwise) line
  outlined_statement ts first (tree.Loop shape begin condition step body line) = tree.Loop shape (outlined_option ts first begin) (outlined_option ts first condition) (outlined_option ts first step) (outlined_statement ts first body) line
  outlined_statement ts first (tree.Switch value cases default statements line) = tree.Switch (outlined_expression ts first value) cases default (outlined_statements ts first statements) line
  outlined_statement ts first (tree.Break line) = tree.Break line
  outlined_statement ts first (tree.Continue line) = tree.Continue line
  outlined_statement ts first (tree.Return value line) = tree.Return (outlined_option ts first value) line

  pub outlined_statements : List ℕ → ℕ → Statements → Statements
  outlined_statements ts first tree.NoStatement = tree.NoStatement
  outlined_statements ts first (tree.AndStatement s ss) = tree.AndStatement (outlined_statement ts first s) (outlined_statements ts first ss)

  pub outlined_arm : List ℕ → ℕ → Arm → Arm
  outlined_arm ts first (tree.OneArm condition chosen line) = tree.OneArm (outlined_expression ts first condition) (outlined_statement ts first chosen) line

  pub outlined_arms : List ℕ → ℕ → Arms → Arms
  outlined_arms ts first tree.NoArm = tree.NoArm
  outlined_arms ts first (tree.AndArm arm arms) = tree.AndArm (outlined_arm ts first arm) (outlined_arms ts first arms)

  pub outlined_last : List ℕ → ℕ → LastArm → LastArm
  outlined_last ts first tree.NoLast = tree.NoLast
  outlined_last ts first (tree.Last s) = tree.Last (outlined_statement ts first s)

abbrev pub outlined_function : List ℕ → ℕ → FunctionTree → FunctionTree
outlined_function ts first f = record { name = f.name; result = f.result; params = f.params; locals = f.locals; body = outlined_statements ts first f.body; interrupt = f.interrupt; line = f.line }

-- the row of a type among those that are pointed to, of which the first here has the number n
abbrev pub row_in : Qualified → ℕ → List Qualified → Option ℕ
row_in q n [] = None
row_in q n (row ∷ rows) = if same_qualified q row then Some n else row_in q (n + 1) rows

abbrev pub row_or_zero : Option ℕ → ℕ
row_or_zero (Some n) = n
row_or_zero None = 0

abbrev pub row_of : Program → Qualified → ℕ
row_of p q = row_or_zero (row_in q 0 p.targets)

abbrev pub type_in : Option Qualified → Ty
type_in (Some row) = row.ty
type_in None = Void

abbrev pub element_type_of : Program → Ty → Ty
element_type_of p (Array element count size) = type_in (slice_get p.targets element)
element_type_of p _ = Void

-- the type of a table's elements, without and with the table's qualifiers
abbrev pub element_type : Program → StaticTree → Ty
element_type p s = element_type_of p s.ty.ty

abbrev pub element_qualified : Program → StaticTree → Qualified
element_qualified p s = record { ty = element_type p s; constant = true; volatile = s.ty.volatile }

-- `t[k]`, in a program where the type that it points to has a row; all nodes have the line of t's declaration.
abbrev pub table_start : Program → ℕ → StaticTree → Expression
table_start p t s = tree.Address (tree.Name (objects.Static t) s.ty s.line) (Pointer (row_of p (element_qualified p s))) s.line

abbrev pub reader_index : ℕ → Expression
reader_index line = tree.Read (tree.Name (objects.Param 0) index_type line) unsigned_int line

abbrev pub table_element : Program → ℕ → StaticTree → Expression
table_element p t s = tree.Read (tree.Deref (tree.Offset ops.Add (table_start p t s) (reader_index s.line) 1 (Pointer (row_of p (element_qualified p s))) s.line) (element_qualified p s) s.line) (element_type p s) s.line

abbrev pub reader_parameter : ℕ → VariableTree
reader_parameter line = record { name = codes "k"; ty = index_type; line = line }

abbrev pub reader_for : Program → ℕ → StaticTree → FunctionTree
reader_for p t s = record {
  name = codes "$rom." ++ s.name;
  result = element_type p s;
  params = reader_parameter s.line ∷ [];
  locals = [];
  body = tree.AndStatement (tree.Return (Some (table_element p t s)) s.line) tree.NoStatement;
  interrupt = false;
  line = s.line;
}

abbrev pub reader_of : Program → ℕ → Option StaticTree → List FunctionTree
reader_of p t None = []
reader_of p t (Some s) = reader_for p t s ∷ []

-- The readers of these tables, in order.
abbrev pub readers : Program → List ℕ → List FunctionTree
readers p [] = []
readers p (t ∷ ts) = reader_of p t (slice_get p.statics t) ++ readers p ts

-- A row for what a reader points to, behind the others where none is there: nothing else may read the table.
abbrev pub row_or_new : Option ℕ → Qualified → List Qualified → List Qualified
row_or_new (Some n) q rows = rows
row_or_new None q rows = rows ++ q ∷ []

abbrev pub with_row : Qualified → List Qualified → List Qualified
with_row q rows = row_or_new (row_in q 0 rows) q rows

abbrev pub with_element : Program → Option StaticTree → List Qualified → List Qualified
with_element p None rows = rows
with_element p (Some s) rows = with_row (element_qualified p s) rows

abbrev pub with_rows : Program → List ℕ → List Qualified → List Qualified
with_rows p [] rows = rows
with_rows p (t ∷ ts) rows = with_rows p ts (with_element p (slice_get p.statics t) rows)

-- the program with these rows
abbrev pub with_targets : Program → List ℕ → Program
with_targets p ts = record { targets = with_rows p ts p.targets; structures = p.structures; sizes = p.sizes; statics = p.statics; functions = p.functions }

-- Each function with its reads as calls, and behind them the readers.
abbrev pub outlined_functions : Program → List ℕ → List FunctionTree
outlined_functions p ts = map (outlined_function ts (length p.functions)) p.functions ++ readers (with_targets p ts) ts

-- The whole program.
abbrev pub outlined_by : Program → List ℕ → Program
outlined_by p ts = record { targets = with_rows p ts p.targets; structures = p.structures; sizes = p.sizes; statics = p.statics; functions = outlined_functions p ts }

unfoldable pub outlined : Program → Program
outlined p = outlined_by p (tables_of p)

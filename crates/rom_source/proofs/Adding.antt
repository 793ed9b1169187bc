-- Outlining of the reads whose sums add alone. In a sound program a table stands in no other sum, so this is outlining; but it needs no
-- soundness to say so at each node.
use Rattle.std.specs.Prelude.{ℕ, List, map, Option, None, option_map}
use Rattle.c_ints.specs.declared.operators.BinOp.TheVariants as ops
use Rattle.c_typed.specs.Trees as tree
use Rattle.c_typed.specs.Trees.{Expression, Expressions, Place, Item, Statement, Statements, Arm, Arms, LastArm, FunctionTree}
use Rattle.rom_tables.specs.Outlined.{read_of}
use Rattle.rom_tables.specs.Tables.{start_table}

abbrev pub sum_left_added : List ℕ → Expression → Option ℕ
sum_left_added ts (tree.Offset ops.Add left right size ty line) = start_table ts left
sum_left_added ts _ = None

abbrev pub sum_right_added : List ℕ → Expression → Option ℕ
sum_right_added ts (tree.Offset ops.Add left right size ty line) = start_table ts right
sum_right_added ts _ = None

abbrev pub added_left : List ℕ → Place → Option ℕ
added_left ts (tree.Deref pointer ty line) = sum_left_added ts pointer
added_left ts _ = None

abbrev pub added_right : List ℕ → Place → Option ℕ
added_right ts (tree.Deref pointer ty line) = sum_right_added ts pointer
added_right ts _ = None

-- Expressions and places; `ts` are the numbers of the tables, and `first` is the number of the first reader.
unfoldable mutual
  pub added_expression : List ℕ → ℕ → Expression → Expression
  added_expression ts first (tree.Constant value line) = tree.Constant value line
  added_expression ts first (tree.Read place ty line) = read_of first (added_left ts place) (added_right ts place) (added_place ts first place) ty line
  added_expression ts first (tree.Address place ty line) = tree.Address (added_place ts first place) ty line
  added_expression ts first (tree.Convert operand ty line) = tree.Convert (added_expression ts first operand) ty line
  added_expression ts first (tree.Cast operand ty line) = tree.Cast (added_expression ts first operand) ty line
  added_expression ts first (tree.Unary op operand ty line) = tree.Unary op (added_expression ts first operand) ty line
  added_expression ts first (tree.Binary op left right ty line) = tree.Binary op (added_expression ts first left) (added_expression ts first right) ty line
  added_expression ts first (tree.Offset op left right size ty line) = tree.Offset op (added_expression ts first left) (added_expression ts first right) size ty line
  added_expression ts first (tree.Difference left right size line) = tree.Difference (added_expression ts first left) (added_expression ts first right) size line
  added_expression ts first (tree.Logical op left right line) = tree.Logical op (added_expression ts first left) (added_expression ts first right) line
  added_expression ts first (tree.Conditional condition chosen otherwise ty line) = tree.Conditional (added_expression ts first condition) (added_expression ts first chosen) (added_expression ts first otherwise) ty line
  added_expression ts first (tree.Comma left right ty line) = tree.Comma (added_expression ts first left) (added_expression ts first right) ty line
  added_expression ts first (tree.Assign place value ty line) = tree.Assign (added_place ts first place) (added_expression ts first value) ty line
  added_expression ts first (tree.StructAssign place from size line) = tree.StructAssign (added_place ts first place) (added_place ts first from) size line
  added_expression ts first (tree.Update op place value operation size ty line) = tree.Update op (added_place ts first place) (added_expression ts first value) operation size ty line
  added_expression ts first (tree.Step op place operation size ty line) = tree.Step op (added_place ts first place) operation size ty line
  added_expression ts first (tree.Call function arguments ty line) = tree.Call function (added_arguments ts first arguments) ty line

  pub added_arguments : List ℕ → ℕ → Expressions → Expressions
  added_arguments ts first tree.NoExpression = tree.NoExpression
  added_arguments ts first (tree.AndExpression e es) = tree.AndExpression (added_expression ts first e) (added_arguments ts first es)

  pub added_place : List ℕ → ℕ → Place → Place
  added_place ts first (tree.Name object ty line) = tree.Name object ty line
  added_place ts first (tree.Bit register bit line) = tree.Bit register bit line
  added_place ts first (tree.Member whole member offset ty line) = tree.Member (added_place ts first whole) member offset ty line
  added_place ts first (tree.Deref pointer ty line) = tree.Deref (added_expression ts first pointer) ty line

abbrev pub added_item : List ℕ → ℕ → Item → Item
added_item ts first (tree.Scalar offset value) = tree.Scalar offset (added_expression ts first value)
added_item ts first (tree.Struct offset from size) = tree.Struct offset (added_place ts first from) size
added_item ts first (tree.Text offset bytes size) = tree.Text offset bytes size

-- an expression that may be left out
abbrev pub added_option : List ℕ → ℕ → Option Expression → Option Expression
added_option ts first e = option_map (added_expression ts first) e

unfoldable mutual
  pub added_statement : List ℕ → ℕ → Statement → Statement
  added_statement ts first (tree.Block statements line) = tree.Block (added_statements ts first statements) line
  added_statement ts first (tree.Empty line) = tree.Empty line
  added_statement ts first (tree.Expr value line) = tree.Expr (added_expression ts first value) line
  added_statement ts first (tree.Declare local line) = tree.Declare local line
  added_statement ts first (tree.InitScalar local value line) = tree.InitScalar local (added_expression ts first value) line
  added_statement ts first (tree.InitList local items line) = tree.InitList local (map (added_item ts first) items) line
  added_statement ts first (tree.If arms otherwise line) = tree.If (added_arms ts first arms) (added_last ts first otherwise) line
  added_statement ts first (tree.Loop shape begin condition step body line) = tree.Loop shape (added_option ts first begin) (added_option ts first condition) (added_option ts first step) (added_statement ts first body) line
  added_statement ts first (tree.Switch value cases default statements line) = tree.Switch (added_expression ts first value) cases default (added_statements ts first statements) line
  added_statement ts first (tree.Break line) = tree.Break line
  added_statement ts first (tree.Continue line) = tree.Continue line
  added_statement ts first (tree.Return value line) = tree.Return (added_option ts first value) line

  pub added_statements : List ℕ → ℕ → Statements → Statements
  added_statements ts first tree.NoStatement = tree.NoStatement
  added_statements ts first (tree.AndStatement s ss) = tree.AndStatement (added_statement ts first s) (added_statements ts first ss)

  pub added_arm : List ℕ → ℕ → Arm → Arm
  added_arm ts first (tree.OneArm condition chosen line) = tree.OneArm (added_expression ts first condition) (added_statement ts first chosen) line

  pub added_arms : List ℕ → ℕ → Arms → Arms
  added_arms ts first tree.NoArm = tree.NoArm
  added_arms ts first (tree.AndArm arm arms) = tree.AndArm (added_arm ts first arm) (added_arms ts first arms)

  pub added_last : List ℕ → ℕ → LastArm → LastArm
  added_last ts first tree.NoLast = tree.NoLast
  added_last ts first (tree.Last s) = tree.Last (added_statement ts first s)

abbrev pub added_function : List ℕ → ℕ → FunctionTree → FunctionTree
added_function ts first f = record { name = f.name; result = f.result; params = f.params; locals = f.locals; body = added_statements ts first f.body; interrupt = f.interrupt; line = f.line }

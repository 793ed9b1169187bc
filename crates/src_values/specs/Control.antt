-- What a step is about (the focus), and what waits for it, the innermost first. A frame that waits holds its node of the
-- tree and what is done of the node's parts: so types, lines and constants are read off the node, and what is left to do
-- follows from the two.
use Rattle.std.specs.Prelude.{ℕ, List, [], ◌∷◌, Option}
use Rattle.c_typed.specs.Trees as tree
use Rattle.c_typed.specs.Trees.{Expression, Expressions, Place, Item, Statement, Statements, Arm, Arms}
use Rattle.c_typed.specs.Types.{type_of}
use Rattle.c_typed.specs.declared.statement.TCase.{TCase}
use Rattle.c_typed.specs.declared.types.Ty.{Ty}
use Rattle.c_typed.specs.declared.types.Ty.TheVariants as types
use Rattle.src_values.specs.Data.{Datum}
use Rattle.src_values.specs.declared.objects.Byte.{Byte}
use Rattle.src_values.specs.declared.objects.CopyOf.{CopyOf}
use Rattle.src_values.specs.declared.objects.Spot.{Spot}

pub data Focus : Type 0 where
  -- an expression is evaluated, and a place is found
  Eval : Expression → Focus
  Find : Place → Focus
  -- a value, and a place that was found
  Holds : Datum → Focus
  Found : Spot → Focus
  -- a statement begins, and one is done
  Run : Statement → Focus
  Past : Focus
  -- a number or a pointer is read: the byte that comes next, and those that were read
  Fetch : Spot → List Byte → Focus
  -- a structure is read whose value is dropped: so many bytes are left, and this one was the last
  Skim : Spot → ℕ → Option Byte → Focus
  -- a value is written: the place of its byte of this number, which comes next
  Write : Spot → Datum → ℕ → Focus
  -- a bit of a register gets a value; the register was read as this number, and is written next
  PutBit : ℕ → ℕ → Datum → ℕ → Focus
  -- so many bytes are copied, to a place from one: a byte is read, or the one that was read is written
  CopyRead : Spot → Spot → ℕ → Focus
  CopyWrite : Spot → Spot → Byte → ℕ → Focus
  -- characters of a string, and then zeros, up to so many bytes
  Spell : Spot → List ℕ → ℕ → Focus
  -- the bytes without an item, of so many from this one on
  Blank : ℕ → ℕ → Focus
  -- a function is called
  Calls : Focus
  -- a function has ended with this value
  Leaves : Datum → Focus
  -- labels of a switch are compared with its value
  Compares : Datum → List TCase → Focus
  -- main has ended
  Over : Focus

-- What is done of an expression's parts.
pub data Got : Type 0 where
  -- its first part is under way
  Nothing : Got
  -- its condition has decided, and the operand that it chose is under way
  Chosen : Got
  -- its left operand has this value, and the right one is under way
  One : Datum → Got
  -- its place was found; what follows it is under way
  At : Spot → Got
  -- its place was found, its right operand has this value, and the place is read
  AtWith : Spot → Datum → Got
  -- its place is written; the expression's value comes from this one
  Stores : Spot → Datum → Got
  -- its structure is copied
  Copies : Got
  -- these arguments have their values, one is under way, and these follow it
  Args : List Datum → Expressions → Got
  -- all arguments have their values
  Passed : List Datum → Got
  -- the function that is called is under way
  Called : Got

-- What is under way of a statement.
pub data Stage : Type 0 where
  -- the value that it begins with, or a loop's condition
  Tests : Stage
  -- what a loop begins with, and what it does after a turn
  Begins : Stage
  Steps : Stage
  -- the body of a loop or of a switch
  Turns : Stage
  -- an arm's condition; these arms follow it
  Picks : Arm → Arms → Stage
  -- the statement of an arm that was chosen, or the one behind the last `else`; these arms follow it
  InArm : Arms → Stage
  -- the comparison with labels
  Chooses : Stage
  -- the write of the value that a local begins with
  Fills : Stage
  -- the value or the place of an item of a list; these items follow it
  AtItem : Item → List Item → Stage
  -- the bytes of an item; these items follow it
  Items : Item → List Item → Stage
  -- the bytes without an item
  Blanks : Stage

pub data Pending : Type 0 where
  -- an expression that waits for a part
  In : Expression → Got → Pending
  -- a member that waits for its structure, or what a pointer points to for the pointer
  To : Place → Pending
  -- a statement that waits for a part
  Doing : Statement → Stage → Pending
  -- the statements behind one
  Before : Statements → Pending
  -- the caller, and what the handler interrupted
  Returns : CopyOf → Pending
  Resumes : CopyOf → Focus → Pending

-- ---- lines
abbrev pub expression_line : Expression → ℕ
expression_line (tree.Constant value line) = line
expression_line (tree.Read place ty line) = line
expression_line (tree.Address place ty line) = line
expression_line (tree.Convert operand ty line) = line
expression_line (tree.Cast operand ty line) = line
expression_line (tree.Unary op operand ty line) = line
expression_line (tree.Binary op left right ty line) = line
expression_line (tree.Offset op left right size ty line) = line
expression_line (tree.Difference left right size line) = line
expression_line (tree.Logical op left right line) = line
expression_line (tree.Conditional condition chosen otherwise ty line) = line
expression_line (tree.Comma left right ty line) = line
expression_line (tree.Assign place value ty line) = line
expression_line (tree.StructAssign place from size line) = line
expression_line (tree.Update op place value operation size ty line) = line
expression_line (tree.Step op place operation size ty line) = line
expression_line (tree.Call function arguments ty line) = line

abbrev pub place_line : Place → ℕ
place_line (tree.Name object ty line) = line
place_line (tree.Bit register number line) = line
place_line (tree.Member whole member offset ty line) = line
place_line (tree.Deref pointer ty line) = line

abbrev pub statement_line : Statement → ℕ
statement_line (tree.Block ss line) = line
statement_line (tree.Empty line) = line
statement_line (tree.Expr e line) = line
statement_line (tree.Declare local line) = line
statement_line (tree.InitScalar local e line) = line
statement_line (tree.InitList local list line) = line
statement_line (tree.If chain otherwise line) = line
statement_line (tree.Loop shape first condition step body line) = line
statement_line (tree.Switch e cases default ss line) = line
statement_line (tree.Break line) = line
statement_line (tree.Continue line) = line
statement_line (tree.Return e line) = line

-- the line of the node that waits
abbrev pub line_at : List Pending → ℕ
line_at (In e got ∷ k) = expression_line e
line_at (To place ∷ k) = place_line place
line_at (Doing t stage ∷ k) = statement_line t
line_at _ = 0

-- the type that the node which waits reads its place as
abbrev pub read_type : List Pending → Ty
read_type (In e got ∷ k) = type_of e
read_type _ = types.Void

-- ---- active copies
-- the copy that runs, until main has ended
abbrev pub running : CopyOf → Focus → List CopyOf → List CopyOf
running c Over more = more
running c _ more = c ∷ more

-- the copies that wait for a call or for the handler
abbrev pub callers : List Pending → List CopyOf
callers [] = []
callers (Returns c ∷ k) = c ∷ callers k
callers (Resumes c x ∷ k) = running c x (callers k)
callers (In e got ∷ k) = callers k
callers (To place ∷ k) = callers k
callers (Doing t stage ∷ k) = callers k
callers (Before ss ∷ k) = callers k

-- A copy is active from its call up to the next step of its caller.
unfoldable pub active : CopyOf → Focus → List Pending → List CopyOf
active c x k = running c x (callers k)

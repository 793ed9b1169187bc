-- Typed programs as pure data: expressions, places, statements, functions and objects, with one constructor for each
-- variant that the code has. A number that stands last is the line of the node's first token.
use Rattle.std.specs.Prelude.{ℕ, List, Option, Bool}
use Rattle.c_ints.specs.Quantity.{Quantity}
use Rattle.c_ints.specs.declared.operators.BinOp.{BinOp}
use Rattle.c_ints.specs.declared.operators.UnOp.{UnOp}
use Rattle.c_typed.specs.declared.expression.LogicalOp.{LogicalOp}
use Rattle.c_typed.specs.declared.expression.Object.{Object}
use Rattle.c_typed.specs.declared.expression.StepOp.{StepOp}
use Rattle.c_typed.specs.declared.program.Initial.{Initial}
use Rattle.c_typed.specs.declared.statement.LoopForm.{LoopForm}
use Rattle.c_typed.specs.declared.statement.TCase.{TCase}
use Rattle.c_typed.specs.declared.types.Qualified.{Qualified}
use Rattle.c_typed.specs.declared.types.Ty.{Ty}

mutual
  -- an expression that has a value
  pub data Expression : Type 0 where
    Constant : Quantity → ℕ → Expression
    Read : Place → Ty → ℕ → Expression
    Address : Place → Ty → ℕ → Expression
    Convert : Expression → Ty → ℕ → Expression
    Cast : Expression → Ty → ℕ → Expression
    Unary : UnOp → Expression → Ty → ℕ → Expression
    Binary : BinOp → Expression → Expression → Ty → ℕ → Expression
    Offset : BinOp → Expression → Expression → ℕ → Ty → ℕ → Expression
    Difference : Expression → Expression → ℕ → ℕ → Expression
    Logical : LogicalOp → Expression → Expression → ℕ → Expression
    Conditional : Expression → Expression → Expression → Ty → ℕ → Expression
    Comma : Expression → Expression → Ty → ℕ → Expression
    Assign : Place → Expression → Ty → ℕ → Expression
    StructAssign : Place → Place → ℕ → ℕ → Expression
    Update : BinOp → Place → Expression → Ty → ℕ → Ty → ℕ → Expression
    Step : StepOp → Place → Ty → ℕ → Ty → ℕ → Expression
    Call : ℕ → Expressions → Ty → ℕ → Expression

  -- the arguments of a call
  pub data Expressions : Type 0 where
    NoExpression : Expressions
    AndExpression : Expression → Expressions → Expressions

  -- an expression that is a place
  pub data Place : Type 0 where
    Name : Object → Qualified → ℕ → Place
    Bit : ℕ → ℕ → ℕ → Place
    Member : Place → ℕ → ℕ → Qualified → ℕ → Place
    Deref : Expression → Qualified → ℕ → Place

-- an item of a local's list
pub data Item : Type 0 where
  Scalar : ℕ → Expression → Item
  Struct : ℕ → Place → ℕ → Item
  Text : ℕ → List ℕ → ℕ → Item

mutual
  -- a statement, or a declarator of a local
  pub data Statement : Type 0 where
    Block : Statements → ℕ → Statement
    Empty : ℕ → Statement
    Expr : Expression → ℕ → Statement
    Declare : ℕ → ℕ → Statement
    InitScalar : ℕ → Expression → ℕ → Statement
    InitList : ℕ → List Item → ℕ → Statement
    If : Arms → LastArm → ℕ → Statement
    Loop : LoopForm → Option Expression → Option Expression → Option Expression → Statement → ℕ → Statement
    Switch : Expression → List TCase → Option ℕ → Statements → ℕ → Statement
    Break : ℕ → Statement
    Continue : ℕ → Statement
    Return : Option Expression → ℕ → Statement

  pub data Statements : Type 0 where
    NoStatement : Statements
    AndStatement : Statement → Statements → Statements

  -- `if (CONDITION) THEN`
  pub data Arm : Type 0 where
    OneArm : Expression → Statement → ℕ → Arm

  pub data Arms : Type 0 where
    NoArm : Arms
    AndArm : Arm → Arms → Arms

  -- what stands behind a last `else`, if one is there
  pub data LastArm : Type 0 where
    NoLast : LastArm
    Last : Statement → LastArm

-- a parameter, or a local that is not static
pub record VariableTree : Type 0 where
  pub name : List ℕ
  pub ty : Qualified
  pub line : ℕ

pub record StaticTree : Type 0 where
  pub name : List ℕ
  pub ty : Qualified
  pub initial : List Initial
  pub line : ℕ

pub record FunctionTree : Type 0 where
  pub name : List ℕ
  pub result : Ty
  pub params : List VariableTree
  pub locals : List VariableTree
  pub body : Statements
  pub interrupt : Bool
  pub line : ℕ

-- a member of a structure, and how many bytes stand before it
pub record MemberTree : Type 0 where
  pub ty : Qualified
  pub offset : ℕ

-- A structure: its members in order, and how many bytes it has. One that never got a body has no members.
pub record StructureTree : Type 0 where
  pub members : List MemberTree
  pub size : ℕ

-- A program: what pointers point to and arrays have elements of, the structures, of each structure how many bytes it
-- has once more, the static objects and the functions.
pub record Program : Type 0 where
  pub targets : List Qualified
  pub structures : List StructureTree
  pub sizes : List ℕ
  pub statics : List StaticTree
  pub functions : List FunctionTree

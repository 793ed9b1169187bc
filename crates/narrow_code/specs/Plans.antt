-- Byte code together with what becomes of it: the given code and the code that is made are both read off a plan, so that they have
-- the same operations at the same places but for the types of those that are narrowed, and the ways of conditions that are turned.
use Rattle.std.specs.Prelude.{ℕ, zero, suc, Bool}
use Rattle.c_ints.specs.declared.operators.BinOp.{BinOp}
use Rattle.c_ints.specs.declared.operators.BinOp.TheVariants as ops
use Rattle.c_ints.specs.declared.types.IntTy.{IntTy}
use Rattle.c_ints.specs.declared.types.IntTy.TheVariants.{UChar}
use Rattle.pic_world.specs.World.{Outside}
use Rattle.core_code.specs.Machine.{Program, Setting}
use Rattle.core_code.specs.Tree as tree
use Rattle.core_code.specs.Tree.{Tree, Trees, NoTree, AndTree, list_of}
use Rattle.core_code.specs.declared.code.Byte.{Byte}
use Rattle.narrow_code.specs.Marks.{Marks}

-- how a condition is made: as it is, by the low byte alone, or by that with its ways changed over
pub data Way : Type 0 where
  Whole : Way
  Low : Way
  Turned : Way

mutual
  pub data Plan : Type 0 where
    -- an operation without parts stays
    Stays : Tree → Plan
    -- an operator on two values is done on their low bytes, or what serves as well
    Narrowed : BinOp → IntTy → Byte → Byte → Byte → Plan
    Several : Plans → Plan
    Choice : Byte → ℕ → Way → Plan → Plan → Plan
    -- a loop, with what is known at its front and behind it
    Repeat : Marks → Marks → Plan → Plan

  pub data Plans : Type 0 where
    NoPlan : Plans
    AndPlan : Plan → Plans → Plans

-- what is done on low bytes in the place of an operator: whether two bytes are equal shows by whether they have a bit that differs
abbrev pub low_op : BinOp → BinOp
low_op ops.Eq = ops.Xor
low_op ops.Ne = ops.Xor
low_op op = op

-- the lowest of so many bytes
abbrev pub low_size : ℕ → ℕ
low_size zero = 0
low_size (suc k) = 1

abbrev pub choice_by : Byte → ℕ → Way → Tree → Tree → Tree
choice_by test size Whole first second = tree.If test size first second
choice_by test size Low first second = tree.If test (low_size size) first second
choice_by test size Turned first second = tree.If test (low_size size) second first

abbrev mutual
  pub given : Plan → Tree
  given (Stays t) = t
  given (Narrowed op ty to left right) = tree.Binary op ty to left right
  given (Several ps) = tree.Many (all_given ps)
  given (Choice test size way first second) = tree.If test size (given first) (given second)
  given (Repeat front behind body) = tree.Loop (given body)

  pub all_given : Plans → Trees
  all_given NoPlan = NoTree
  all_given (AndPlan t ts) = AndTree (given t) (all_given ts)

abbrev mutual
  pub made : Plan → Tree
  made (Stays t) = t
  made (Narrowed op ty to left right) = tree.Binary (low_op op) UChar to left right
  made (Several ps) = tree.Many (all_made ps)
  made (Choice test size way first second) = choice_by test size way (made first) (made second)
  made (Repeat front behind body) = tree.Loop (made body)

  pub all_made : Plans → Trees
  all_made NoPlan = NoTree
  all_made (AndPlan t ts) = AndTree (made t) (all_made ts)

-- a program's plans
pub record Narrowing : Type 0 where
  -- the plan of each copy's body
  pub plan : ℕ → Plans
  -- all but the bodies
  pub rest : Program
  -- to these copies' frames pointers may lead
  pub lent : ℕ → Bool
  -- a number that grows with each call, and from main's copies to the handler's
  pub rank : ℕ → ℕ

abbrev pub given_program : Narrowing → Program
given_program x = record x.rest { body = λ c. list_of (all_given (x.plan c)) }

abbrev pub made_program : Narrowing → Program
made_program x = record x.rest { body = λ c. list_of (all_made (x.plan c)) }

abbrev pub given_setting : Narrowing → Outside → Setting
given_setting x o = record { program = given_program x; outside = o }

abbrev pub made_setting : Narrowing → Outside → Setting
made_setting x o = record { program = made_program x; outside = o }

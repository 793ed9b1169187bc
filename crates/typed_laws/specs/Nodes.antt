-- The nodes of an expression in the order of its text, operands before their operators, and the rule of each node over what its parts are
-- (ISO/IEC 9899:1990, 6.3).
use Rattle.std.specs.Prelude.{ℕ, ◌+◌, List, [], ◌∷◌, ◌++◌, length, Result}
use Rattle.c_nodes.specs.Trees.{Tree, Post, TypeTree, spelled, spelled_type}
use Rattle.c_nodes.specs.Trees as tree
use Rattle.c_nodes.specs.Words.{Symbol}
use Rattle.c_typed.specs.declared.types.Qualified.{Qualified}
use Rattle.type_rules.specs.Expressions.{leaf, bracketed, signed, selected, step_behind, listed_by, arguments_in}
use Rattle.type_rules.specs.Faults.{Fault}
use Rattle.type_rules.specs.Known.{Known, Rule, given, ◌>>=◌}
use Rattle.type_rules.specs.Operators.{between, choice, cast}
use Rattle.type_rules.specs.Places.{before_index, element, size_of_type, size_of_term}
use Rattle.type_rules.specs.Terms.{Operand, Term, used, no_table}
use Rattle.type_rules.specs.TypeNames.{type_named}
use Rattle.type_rules.specs.Writes.{assignment, stepped, called, call}

-- A node, without its parts. A node of its own is also an operand whose value is used, where another operand follows; the left side of an
-- assignment; what stands before `[`; and what is called.
pub data Node : Type 0 where
  LeafNode : Symbol → Node
  GroupNode : ℕ → Node
  ValueNode : Node
  SignNode : Symbol → Node
  SizeofNode : ℕ → Node
  TypeNode : TypeTree → Node
  CastNode : ℕ → Node
  MeasureNode : ℕ → Node
  JoinNode : Symbol → Node
  ChoiceNode : Node
  TargetNode : Node
  AssignNode : Symbol → Node
  WholeNode : Node
  IndexNode : Node
  CalleeNode : Node
  BareCallNode : Node
  CallNode : Node
  FieldNode : Symbol → Symbol → Node
  StepNode : Symbol → Node

-- a node, and how many tokens of the text stand before its end
pub record Placed : Type 0 where
  pub node : Node
  pub end : ℕ

abbrev pub at : Node → ℕ → Placed
at node end = record { node = node; end = end }

-- The nodes of an expression that so many tokens stand before.
abbrev mutual
  pub nodes_of : Tree → ℕ → List Placed
  nodes_of (tree.Leaf s) from = at (LeafNode s) (from + 1) ∷ []
  nodes_of (tree.Group opening e closing) from = nodes_of e (from + 1) ++ at (GroupNode opening) (from + 2 + length (spelled e)) ∷ []
  nodes_of (tree.Behind e p) from = nodes_of e from ++ nodes_behind p (from + length (spelled e))
  nodes_of (tree.Before (tree.Sign s) e) from = nodes_of e (from + 1) ++ at (SignNode s) (from + 1 + length (spelled e)) ∷ []
  nodes_of (tree.Before (tree.Sizeof line) e) from = nodes_of e (from + 1) ++ at (SizeofNode line) (from + 1 + length (spelled e)) ∷ []
  nodes_of (tree.Before (tree.Cast line ty closing) e) from =
      at (TypeNode ty) (from + 1 + length (spelled_type ty)) ∷ (nodes_of e (from + 2 + length (spelled_type ty)) ++ at (CastNode line) (from + 2 + length (spelled_type ty) + length (spelled e)) ∷ [])
  nodes_of (tree.Measure line opening ty closing) from = at (TypeNode ty) (from + 2 + length (spelled_type ty)) ∷ at (MeasureNode line) (from + 3 + length (spelled_type ty)) ∷ []
  nodes_of (tree.Join s a b) from =
      nodes_of a from ++ at ValueNode (from + length (spelled a)) ∷ (nodes_of b (from + length (spelled a) + 1) ++ at (JoinNode s) (from + length (spelled a) + 1 + length (spelled b)) ∷ [])
  nodes_of (tree.Choose c question a colon b) from =
      nodes_of c from ++ at ValueNode (from + length (spelled c)) ∷
      (nodes_of a (from + length (spelled c) + 1) ++ at ValueNode (from + length (spelled c) + 1 + length (spelled a)) ∷
      (nodes_of b (from + length (spelled c) + 1 + length (spelled a) + 1) ++ at ChoiceNode (from + length (spelled c) + 1 + length (spelled a) + 1 + length (spelled b)) ∷ []))
  nodes_of (tree.Assign a s b) from =
      nodes_of a from ++ at TargetNode (from + length (spelled a)) ∷ (nodes_of b (from + length (spelled a) + 1) ++ at (AssignNode s) (from + length (spelled a) + 1 + length (spelled b)) ∷ [])

  pub nodes_behind : Post → ℕ → List Placed
  nodes_behind (tree.Index opening e closing) from = at WholeNode from ∷ (nodes_of e (from + 1) ++ at IndexNode (from + 2 + length (spelled e)) ∷ [])
  nodes_behind (tree.CallBare opening closing) from = at CalleeNode from ∷ at BareCallNode (from + 2) ∷ []
  nodes_behind (tree.Call opening e closing) from = at CalleeNode from ∷ (nodes_of e (from + 1) ++ at CallNode (from + 2 + length (spelled e)) ∷ [])
  nodes_behind (tree.Field s n) from = at (FieldNode s n) (from + 2) ∷ []
  nodes_behind (tree.Step s) from = at (StepNode s) (from + 1) ∷ []

-- ---- the rule of a node

-- What a part is: an expression, one with the value that is used of it, or a type.
pub data Part : Type 0 where
  TermPart : Term → Part
  ValuePart : Term → Operand → Part
  TypePart : Qualified → Part

-- What a node is stands before what is left of the parts.
abbrev pub as_term_before : List Part → Term → Rule (List Part)
as_term_before ps t = given (TermPart t ∷ ps)

abbrev pub pushed : Rule Term → List Part → Rule (List Part)
pushed rule ps = rule >>= as_term_before ps

abbrev pub cast_rule : Qualified → Term → ℕ → Rule Term
cast_rule to t line = do
  x ← used t
  cast to.ty x line

abbrev pub join_rule : Symbol → Term → Operand → Term → Rule Term
join_rule s left x right = do
  y ← used right
  t ← between s.kind x y
  given (listed_by s.kind left.listed x y t)

abbrev pub choice_rule : Operand → Operand → Term → Rule Term
choice_rule x y second = do
  z ← used second
  choice x y z

abbrev pub assign_rule : Symbol → Term → Term → Rule Term
assign_rule s target value = do
  x ← used value
  assignment s.kind target x

abbrev pub call_rule : Term → Term → Rule Term
call_rule t list = do
  arguments ← arguments_in list.listed list
  call t arguments

-- the rule of a node that is the same expression as its part
abbrev pub checked : Rule Known → Term → List Part → Rule (List Part)
checked rule t ps = do
  _ ← rule
  given (TermPart t ∷ ps)

-- The parts of a node are the last ones that were read, the last of them first. The other clause is for parts that no node has.
unfoldable pub own : Node → List Part → Rule (List Part)
own (LeafNode s) ps = pushed (leaf s.kind s.bytes s.line) ps
own (GroupNode opening) (TermPart t ∷ ps) = given (TermPart (bracketed t opening) ∷ ps)
own ValueNode (TermPart t ∷ ps) = do
  x ← used t
  given (ValuePart t x ∷ ps)
own (SignNode s) (TermPart t ∷ ps) = pushed (signed s.kind t s.line) ps
own (SizeofNode line) (TermPart t ∷ ps) = pushed (size_of_term t line) ps
own (TypeNode ty) ps = do
  of ← type_named ty
  given (TypePart of ∷ ps)
own (CastNode line) (TermPart t ∷ TypePart to ∷ ps) = pushed (cast_rule to t line) ps
own (MeasureNode line) (TypePart of ∷ ps) = pushed (size_of_type of.ty line) ps
own (JoinNode s) (TermPart right ∷ ValuePart left x ∷ ps) = pushed (join_rule s left x right) ps
own ChoiceNode (TermPart second ∷ ValuePart first y ∷ ValuePart condition x ∷ ps) = pushed (choice_rule x y second) ps
own TargetNode (TermPart t ∷ ps) = checked (no_table t) t ps
own (AssignNode s) (TermPart value ∷ TermPart target ∷ ps) = pushed (assign_rule s target value) ps
own WholeNode (TermPart t ∷ ps) = pushed (before_index t) ps
own IndexNode (TermPart index ∷ TermPart whole ∷ ps) = pushed (element whole index) ps
own CalleeNode (TermPart t ∷ ps) = checked (called t) t ps
own BareCallNode (TermPart t ∷ ps) = pushed (call t []) ps
own CallNode (TermPart list ∷ TermPart t ∷ ps) = pushed (call_rule t list) ps
own (FieldNode s n) (TermPart t ∷ ps) = pushed (selected s.kind t n.bytes) ps
own (StepNode s) (TermPart t ∷ ps) = pushed (stepped (step_behind s.kind) t t.start) ps
own _ ps = given ps

-- Nodes one behind the other.
unfoldable pub in_turn : List Placed → List Part → Rule (List Part)
in_turn [] ps = given ps
in_turn (n ∷ ns) ps = own n.node ps >>= in_turn ns

-- The parts that are read, and what is known behind them.
abbrev pub Reading : Type 0
Reading = List Part × Known

abbrev pub read : List Placed → Reading → Result Reading Fault
read ns s = in_turn ns s.0 s.1

-- How much waits at a time, by the nodes of the tree.
use Rattle.std.proofs.Common.{ℕ, ◌+◌, ◌-◌, ◌≤◌, List, length, arith}
use Rattle.c_typed.specs.TreeNodes.{nodes_in, nodes_of_all, nodes_at, nodes_in_any, items_nodes, statement_nodes, nodes_of_body, arm_nodes, arms_nodes}
use Rattle.c_typed.specs.Trees as tree
use Rattle.c_typed.specs.Trees.{Expression, Statement, Program}
use Rattle.src_rules.proofs.Measures.{Sizes, Measure, GotFits, StageFits, room, FocusFits, Fits, KeepsFit}
use Rattle.src_rules.specs.Laws.{values_in}
use Rattle.src_rules.specs.State.{Outcome}
use Rattle.src_values.specs.Control.{Focus, Got, Stage, Pending}
use Rattle.src_values.specs.Objects.{function_at}
use Rattle.src_values.specs.declared.objects.CopyOf.{CopyOf}

abbrev pub node_sizes : Sizes
node_sizes = record { expression = nodes_in; place = nodes_at; statement = statement_nodes; list = λ ss. 1 + nodes_of_body ss; any = nodes_in_any }

abbrev pub by_nodes : Measure
by_nodes = record {
  sizes = node_sizes;
  item_list = items_nodes;
  in_room = λ e got. nodes_in e - 1 - values_in got;
  to_room = λ place. nodes_at place - 1;
  for_room = λ t stage. statement_nodes t - 1;
  behind = λ n ss. n - 1;
  IsReady = λ e values more. nodes_of_all more + length values + 1 ≤ nodes_in e;
  IsGiven = λ e values more. nodes_of_all more + length values + 2 ≤ nodes_in e;
  IsPassed = λ e values. length values + 1 ≤ nodes_in e;
  IsLeft = λ chain more. arms_nodes more ≤ arms_nodes chain;
  IsPicked = λ chain arm more. arm_nodes arm + arms_nodes more ≤ arms_nodes chain;
  IsChosen = λ chain. 1 ≤ arms_nodes chain;
  Otherwise = ⊥;
}

-- the nodes of a function's body, and one for its list
abbrev pub body_nodes : Program → CopyOf → ℕ
body_nodes p c = 1 + nodes_of_body (function_at p c.function).body

-- how many nodes what is on top has at most
abbrev pub cap : Program → CopyOf → List Pending → ℕ
cap p c k = room p (λ d. by_nodes) c k

abbrev pub GotSized : Expression → Got → Type 0
GotSized e got = GotFits by_nodes e got

abbrev pub StageSized : Statement → Stage → Type 0
StageSized t stage = StageFits by_nodes t stage

abbrev pub FocusSized : Program → CopyOf → Focus → List Pending → Type 0
FocusSized p c x k = FocusFits p (λ d. by_nodes) c x k

abbrev pub Sized : Program → CopyOf → List Pending → Type 0
Sized p c k = Fits p (λ d. by_nodes) c k

abbrev pub KeepsSize : Program → Outcome → Type 0
KeepsSize p out = KeepsFit p (λ d. by_nodes) (Unit {0}) out

pub some_node : (e : Expression) → 1 ≤ nodes_in e
unfolding nodes_in
some_node (tree.Constant value line) = omega arith
some_node _ = omega arith

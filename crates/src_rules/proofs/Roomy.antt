-- Counting nodes is a measure: each part has fewer nodes than its node.
use Rattle.std.proofs.Common.{◌≡◌, ℕ, zero, suc, ◌+◌, ◌-◌, ◌≤◌, true, ◌∷◌, [], arith}
use Rattle.std.proofs.lemmas.Bool.{false≢true}
use Rattle.std.proofs.lemmas.List.{length-append}
use Rattle.c_typed.specs.Sound.{is_some_arm}
use Rattle.c_typed.specs.TreeNodes.{nodes_in, nodes_at, statement_nodes, nodes_of_body, arms_nodes}
use Rattle.c_typed.specs.Trees as tree
use Rattle.c_typed.specs.Trees.{Expression, Place, Statement, Statements, Arms}
use Rattle.src_rules.proofs.Bounds.{Counting}
use Rattle.src_rules.proofs.Holding.{step_fits, rests_freely}
use Rattle.src_rules.proofs.Measures.{Laws, part_in, part_to, part_for}
use Rattle.src_rules.proofs.Rooms.{node_sizes, by_nodes, GotSized, StageSized, FocusSized, Sized, KeepsSize, some_node}
use Rattle.src_rules.specs.Giving.{statements_behind}
use Rattle.src_rules.specs.Laws.{values_in}
use Rattle.src_rules.specs.Standing.{Stands}
use Rattle.src_rules.specs.State.{State}
use Rattle.src_rules.specs.Step.{step}
use Rattle.src_values.specs.Control.{Got, Nothing, Args, Passed, Stage, Tests, Turns, Picks, InArm, AtItem}
use Rattle.src_values.specs.Memory.{Setting}

-- ---- what is under way
in_part : (e : Expression) (got : Got) → part_in node_sizes e got ≤ nodes_in e - 1 - values_in got
unfolding nodes_in
in_part (tree.Constant value line) Nothing = omega arith
in_part e Nothing = omega arith
in_part _ _ = omega arith

to_part : (place : Place) → part_to node_sizes place ≤ nodes_at place - 1
unfolding nodes_in
to_part (tree.Member whole member offset ty line) = omega arith
to_part _ = omega arith

for_part : (t : Statement) (stage : Stage) → StageSized t stage → part_for node_sizes t stage ≤ statement_nodes t - 1
unfolding statement_nodes
for_part (tree.InitList local all line) (AtItem (tree.Scalar offset e) rest) h = omega arith
for_part (tree.If chain otherwise line) (Picks (tree.OneArm condition chosen at) more) h = omega arith
for_part (tree.Switch e cases default ss line) Turns h = let d = some_node e in omega arith
for_part t Tests h = omega arith
for_part _ _ h = omega arith

-- ---- what is left
jumps : (n : ℕ) (ss : Statements) → 1 + nodes_of_body (statements_behind n ss) ≤ 1 + nodes_of_body ss
unfolding statement_nodes
jumps zero ss = omega arith
jumps (suc n) tree.NoStatement = omega arith
jumps (suc n) (tree.AndStatement t ts) = let d = jumps n ts in omega arith

some_arms : (chain : Arms) → is_some_arm chain ≡ true → 1 ≤ arms_nodes chain
unfolding statement_nodes
some_arms tree.NoArm e = absurd (false≢true e)
some_arms (tree.AndArm (tree.OneArm condition chosen line) more) e = omega arith

pub node_laws : Laws by_nodes
unfolding nodes_in statement_nodes
node_laws = record {
  in_part = in_part;
  to_part = to_part;
  for_part = for_part;
  any_part = λ e. omega arith;
  comma = λ left right ty line. omega arith;
  block = λ ss line. omega arith;
  next = λ n t ts h. (omega arith, omega arith);
  jumps = jumps;
  item_next = λ item rest. omega arith;
  call_begins = λ g all ty line. omega arith;
  call_part = λ g all ty line values e rest h. let d = some_node e in (omega arith, omega arith);
  call_next = λ g all ty line values v more h. omega (arith, length-append values (v ∷ []));
  call_ends = λ g all ty line values h. omega arith;
  chain_begins = λ chain. omega arith;
  chain_part = λ chain arm more h. omega arith;
  chain_next = λ chain arm more h. omega arith;
  chosen = λ chain more condition t at line otherwise h. (omega arith, omega arith);
  otherwise = λ chain t line some. let d = some_arms chain some in (omega arith, d);
}

pub step_size : (s : Setting) (t : State) → Stands s.program t → FocusSized s.program t.copy t.focus t.stack → Sized s.program t.copy t.stack → KeepsSize s.program (step s t)
step_size s t st h z = step_fits s (λ c. by_nodes) (Unit {0}) (λ c. node_laws) t st h z (rests_freely t.focus)

-- ---- the entries of a stack are counted among the nodes
in_counts : (e : Expression) (got : Got) → GotSized e got → values_in got + 1 + (nodes_in e - 1 - values_in got) ≤ nodes_in e
in_counts e (Args values more) h = omega arith
in_counts e (Passed values) h = omega arith
in_counts e _ h = let d = some_node e in omega arith

to_counts : (place : Place) → 1 + (nodes_at place - 1) ≤ nodes_at place
unfolding nodes_in
to_counts (tree.Bit register number line) = omega arith
to_counts _ = omega arith

for_counts : (t : Statement) (stage : Stage) → StageSized t stage → 1 + (statement_nodes t - 1) ≤ statement_nodes t
unfolding statement_nodes
for_counts (tree.If chain otherwise line) (Picks (tree.OneArm condition chosen at) more) h = omega arith
for_counts (tree.If chain otherwise line) (InArm more) h = omega arith
for_counts (tree.If chain otherwise line) _ h = absurd h
for_counts (tree.Declare local line) stage h = absurd h
for_counts _ stage h = omega arith

pub nodes_count : Counting by_nodes
nodes_count = record { in_counts = in_counts; to_counts = to_counts; for_counts = for_counts; behind_counts = λ n ss h. omega arith }

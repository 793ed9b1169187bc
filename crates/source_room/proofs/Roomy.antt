-- The longest way is a measure: that of each part is shorter than its node's.
use Rattle.std.proofs.Common.{ℕ, zero, suc, ◌+◌, ◌-◌, ◌≤◌, ◌∷◌, [], arith}
use Rattle.std.proofs.lemmas.List.{length-append}
use Rattle.c_typed.specs.Trees as tree
use Rattle.c_typed.specs.Trees.{Expression, Place, Statement, Statements}
use Rattle.source_room.proofs.Rooms.{depth_sizes, by_depth, some_node}
use Rattle.source_room.specs.Depth.{expression_depth, place_depth, statement_depth, body_depth}
use Rattle.src_rules.proofs.Bounds.{Counting}
use Rattle.src_rules.proofs.Measures.{Laws, GotFits, StageFits, part_in, part_to, part_for}
use Rattle.src_rules.specs.Giving.{statements_behind}
use Rattle.src_rules.specs.Laws.{values_in}
use Rattle.src_values.specs.Control.{Got, Nothing, Args, Passed, Stage, Tests, Picks, AtItem}

-- ---- what is under way
in_part : (e : Expression) (got : Got) → part_in depth_sizes e got ≤ expression_depth e - 1 - values_in got
unfolding expression_depth
in_part (tree.Constant value line) Nothing = omega arith
in_part e Nothing = omega arith
in_part _ _ = omega arith

to_part : (place : Place) → part_to depth_sizes place ≤ place_depth place - 1
unfolding expression_depth
to_part (tree.Member whole member offset ty line) = omega arith
to_part _ = omega arith

for_part : (t : Statement) (stage : Stage) → StageFits by_depth t stage → part_for depth_sizes t stage ≤ statement_depth t - 1
unfolding statement_depth
for_part (tree.InitList local all line) (AtItem (tree.Scalar offset e) rest) h = omega arith
for_part (tree.If chain otherwise line) (Picks (tree.OneArm condition chosen at) more) h = omega arith
for_part t Tests h = omega arith
for_part _ _ h = omega arith

-- ---- what is left
jumps : (n : ℕ) (ss : Statements) → 1 + body_depth (statements_behind n ss) ≤ 1 + body_depth ss
unfolding statement_depth
jumps zero ss = omega arith
jumps (suc n) tree.NoStatement = omega arith
jumps (suc n) (tree.AndStatement t ts) = let d = jumps n ts in omega arith

pub depth_laws : Laws by_depth
unfolding expression_depth statement_depth
depth_laws = record {
  in_part = in_part;
  to_part = to_part;
  for_part = for_part;
  any_part = λ e. omega arith;
  comma = λ left right ty line. omega arith;
  block = λ ss line. omega arith;
  next = λ n t ts h. (omega arith, omega arith);
  jumps = jumps;
  item_next = λ item rest. omega arith;
  call_begins = λ g all ty line. omega arith;
  call_part = λ g all ty line values e rest h. (omega arith, omega arith);
  call_next = λ g all ty line values v more h. omega (arith, length-append values (v ∷ []));
  call_ends = λ g all ty line values h. omega arith;
  chain_begins = λ chain. omega arith;
  chain_part = λ chain arm more h. omega arith;
  chain_next = λ chain arm more h. omega arith;
  chosen = λ chain more condition t at line otherwise h. (omega arith, tt);
  otherwise = λ chain t line some. (omega arith, tt);
}

-- ---- the entries of a stack are counted among the nodes
in_counts : (e : Expression) (got : Got) → GotFits by_depth e got → values_in got + 1 + (expression_depth e - 1 - values_in got) ≤ expression_depth e
in_counts e (Args values more) h = omega arith
in_counts e (Passed values) h = omega arith
in_counts e _ h = let d = some_node e in omega arith

to_counts : (place : Place) → 1 + (place_depth place - 1) ≤ place_depth place
unfolding expression_depth
to_counts (tree.Bit register number line) = omega arith
to_counts _ = omega arith

for_counts : (t : Statement) → 1 + (statement_depth t - 1) ≤ statement_depth t
unfolding statement_depth
for_counts (tree.Empty line) = omega arith
for_counts _ = omega arith

pub depths_count : Counting by_depth
depths_count = record { in_counts = in_counts; to_counts = to_counts; for_counts = λ t stage h. for_counts t; behind_counts = λ n ss h. omega arith }

-- How much waits at a time, by the longest ways through expressions and statements.
use Rattle.std.proofs.Common.{◌+◌, ◌-◌, ◌≤◌, max, List, length, arith}
use Rattle.c_typed.specs.Trees as tree
use Rattle.c_typed.specs.Trees.{Expression, Program}
use Rattle.source_room.specs.Depth.{expression_depth, arguments_depth, place_depth, any_depth, items_depth, statement_depth, body_depth, arm_depth, arms_depth}
use Rattle.src_rules.proofs.Measures.{Sizes, Measure, Fits}
use Rattle.src_rules.specs.Laws.{values_in}
use Rattle.src_values.specs.Control.{Pending}
use Rattle.src_values.specs.declared.objects.CopyOf.{CopyOf}

abbrev pub depth_sizes : Sizes
depth_sizes = record { expression = expression_depth; place = place_depth; statement = statement_depth; list = λ ss. 1 + body_depth ss; any = any_depth }

abbrev pub by_depth : Measure
by_depth = record {
  sizes = depth_sizes;
  item_list = items_depth;
  in_room = λ e got. expression_depth e - 1 - values_in got;
  to_room = λ place. place_depth place - 1;
  for_room = λ t stage. statement_depth t - 1;
  behind = λ n ss. n - 1;
  IsReady = λ e values more. arguments_depth more + length values + 1 ≤ expression_depth e;
  IsGiven = λ e values more. arguments_depth more + length values + 2 ≤ expression_depth e;
  IsPassed = λ e values. length values + 1 ≤ expression_depth e;
  IsLeft = λ chain more. arms_depth more ≤ arms_depth chain;
  IsPicked = λ chain arm more. max (arm_depth arm) (arms_depth more) ≤ arms_depth chain;
  IsChosen = λ chain. Unit {0};
  Otherwise = Unit {0};
}

abbrev pub Sized : Program → CopyOf → List Pending → Type 0
Sized p c k = Fits p (λ d. by_depth) c k

pub some_node : (e : Expression) → 1 ≤ expression_depth e
unfolding expression_depth
some_node (tree.Constant value line) = omega arith
some_node _ = omega arith

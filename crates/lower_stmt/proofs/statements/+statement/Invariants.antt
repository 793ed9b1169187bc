use Rattle.std.proofs.Common.{◌≡◌, ◌+◌, ◌*◌, ◌≤◌, ◌++◌, length, drop, map}
use Rattle.c_typed.specs.Views.{expression_of, statement_of, statements_of, arm_of, arms_of, last_arm_of}
use Rattle.core_code.specs.View.{trees_in}
use Rattle.lower_stmt.specs.Ground.{ground_of}
use Rattle.lower_stmt.specs.Statements.{stmts_code, arms_code, segments_code}
use Rattle.lower_stmt.specs.Switches.{comparisons, around}
use Rattle.lower_stmt.proofs.Switching.{finished}
use Rattle.lower_stmt.proofs.Weights.{weight_of, list_weight, arm_weight, arms_weight_of, last_weight}
use Rattle.lower_stmt.proofs.statements.+statement.Given as goal

abbrev pub decreases-put_statement : goal.decreases-put_statement
decreases-put_statement l = 3 * weight_of l.statement.now

abbrev pub decreases-put_statements : goal.decreases-put_statements
decreases-put_statements l = 3 * list_weight l.statements.now + 1

abbrev pub decreases-put_arm : goal.decreases-put_arm
decreases-put_arm l = 3 * arm_weight (arm_of l.arm.now)

abbrev pub decreases-put_last : goal.decreases-put_last
decreases-put_last l = 3 * last_weight (last_arm_of l.otherwise.now) + 1

abbrev pub decreases-put_arms : goal.decreases-put_arms
decreases-put_arms l = 3 * arms_weight_of l.arms.now + 1

abbrev pub decreases-put_body : goal.decreases-put_body
decreases-put_body l = 3 * weight_of l.body.now + 1

abbrev pub decreases-put_while : goal.decreases-put_while
decreases-put_while l = 3 * weight_of l.body.now + 2

abbrev pub decreases-put_do : goal.decreases-put_do
decreases-put_do l = 3 * weight_of l.body.now + 2

abbrev pub decreases-put_for : goal.decreases-put_for
decreases-put_for l = 3 * weight_of l.body.now + 2

abbrev pub decreases-put_reached : goal.decreases-put_reached
decreases-put_reached l = 3 * weight_of l.statement.now + 1

abbrev pub decreases-put_switch : goal.decreases-put_switch
decreases-put_switch l = 3 * list_weight l.statements.now + 2

abbrev pub invariant-put_statements-loop-statement : goal.invariant-put_statements-loop-statement
invariant-put_statements-loop-statement l = trees_in l.out.items ++ stmts_code (ground_of l.site) l.jumps (statements_of (map statement_of (drop l.statement-index l.statements))) ≡ trees_in l.fn.out.items ++ stmts_code (ground_of l.site) l.jumps (statements_of (map statement_of l.statements))

abbrev pub decreases-put_arms-loop-left : goal.decreases-put_arms-loop-left
decreases-put_arms-loop-left l = l.left

abbrev pub invariant-put_arms-loop-left : goal.invariant-put_arms-loop-left
invariant-put_arms-loop-left l = record { within : l.left ≤ length l.arms; so_far : trees_in l.rest.items ≡ arms_code (ground_of l.site) l.jumps (trees_in l.fn.last.items) (arms_of (map arm_of (drop l.left l.arms))) }

abbrev pub invariant-put_switch-loop-i : goal.invariant-put_switch-loop-i
invariant-put_switch-loop-i l = record { begun : l.begun ≤ l.i; so_far : finished l.begun (trees_in l.code.items) (segments_code (ground_of l.site) l.jumps l.labels l.count l.i l.begun (statements_of (map statement_of (drop l.i l.statements)))) ≡ around (comparisons (ground_of l.site) (expression_of l.value) l.cases l.fn.default l.labels l.count) (segments_code (ground_of l.site) l.jumps l.labels l.count 0 0 (statements_of (map statement_of l.statements))) }

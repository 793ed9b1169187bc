use Rattle.std.proofs.Common.{◌-◌, ◌∙◌, arith}
use Rattle.c_typed.specs.Views.{expression_of}
use Rattle.core_code.specs.View.{trees_in}
use Rattle.lower_stmt.proofs.Lists.{stmt_code_in, stmts_code_in, stmts_none, stmts_more}
use Rattle.lower_stmt.proofs.Loops.{appended, all_appended}
use Rattle.lower_stmt.proofs.Sizes.{block_room, last_room, arms_room, while_room, body_room, switch_room, then_room, otherwise_room, statement_room, arm_room, segment_room}
use Rattle.lower_stmt.proofs.Switching.{begun_chain, chained, all_chained, segment_step, segments_done, switch_some, few_begun}
use Rattle.lower_stmt.proofs.Weights.{in_block, in_last, in_arms, in_loop, in_switch, in_arm, in_otherwise, in_list, one_of_arms}
use Rattle.lower_stmt.specs.Ground.{ground_of}
use Rattle.lower_stmt.proofs.statements.+statement.Goals as goal

pub put_statement-put_statements-requires : goal.put_statement-put_statements-requires
put_statement-put_statements-requires t c = (omega (arith, c.decreases, in_block _ _ _ _ c.in-Block.is c.deref.ensures.value), block_room c.args.jumps _ _ _ _ c.in-Block.is c.deref.ensures.value c.requires)

pub put_statement-put_last-requires : goal.put_statement-put_last-requires
put_statement-put_last-requires t c = (omega (arith, c.decreases, in_last _ _ _ _ c.in-If.is), last_room c.args.jumps _ _ _ _ c.in-If.is c.requires)

pub put_statement-put_arms-requires : goal.put_statement-put_arms-requires
put_statement-put_arms-requires t c = (omega (arith, c.decreases, in_arms _ _ _ _ _ c.in-If.is c.deref-in-If.ensures.value), arms_room c.args.jumps _ _ _ _ _ c.in-If.is c.deref-in-If.ensures.value c.requires)

pub put_statement-put_while-requires : goal.put_statement-put_while-requires
put_statement-put_while-requires t c = (omega (arith, c.decreases, in_loop _ _ _ _ _ _ _ _ c.in-Loop.is c.deref-in-While.ensures), while_room c.args.jumps _ _ _ _ _ _ _ _ c.in-Loop.is c.deref-in-While.ensures c.requires)

pub put_statement-put_do-requires : goal.put_statement-put_do-requires
put_statement-put_do-requires t c = (omega (arith, c.decreases, in_loop _ _ _ _ _ _ _ _ c.in-Loop.is c.deref-in-Do.ensures), body_room c.args.jumps _ _ _ _ _ _ _ _ c.in-Loop.is c.deref-in-Do.ensures c.requires)

pub put_statement-put_for-requires : goal.put_statement-put_for-requires
put_statement-put_for-requires t c = (omega (arith, c.decreases, in_loop _ _ _ _ _ _ _ _ c.in-Loop.is c.deref-in-For.ensures), body_room c.args.jumps _ _ _ _ _ _ _ _ c.in-Loop.is c.deref-in-For.ensures c.requires)

pub put_statement-put_switch-requires : goal.put_statement-put_switch-requires
put_statement-put_switch-requires t c = (omega (arith, c.decreases, in_switch _ _ _ _ _ _ _ c.in-Switch.is c.deref-in-Switch.ensures.value), switch_room c.args.jumps _ _ _ _ _ _ _ _ c.in-Switch.is c.deref-in-Switch-2.ensures.value c.deref-in-Switch.ensures.value c.requires)

pub put_arm-put_statement-requires : goal.put_arm-put_statement-requires
put_arm-put_statement-requires t c = (omega (arith, c.decreases, in_arm c.args.arm.now), then_room c.args.jumps c.args.arm.now c.requires)

pub put_last-put_statement-requires : goal.put_last-put_statement-requires
put_last-put_statement-requires t c = (omega (arith, c.decreases, in_otherwise _ _ _ c.in-Some.is c.deref.ensures), otherwise_room c.args.jumps _ _ _ c.in-Some.is c.deref.ensures c.requires)

pub put_statements-put_statement-requires : goal.put_statements-put_statement-requires
put_statements-put_statement-requires t c = (
  omega (arith, c.decreases, in_list c.args.statements.now c.loop-statement.statement-index c.statement-item.result c.loop-statement-test.true c.statement-item.is),
  statement_room c.args.jumps c.args.statements.now c.loop-statement.statement-index c.statement-item.result c.loop-statement-test.true c.statement-item.is c.requires,
)

pub put_arms-put_arm-requires : goal.put_arms-put_arm-requires
put_arms-put_arm-requires t c = (
  omega (arith, c.decreases, one_of_arms c.args.arms.now _ c.index-arms-left.result (omega arith) c.index-arms-left.is),
  arm_room c.args.jumps c.args.arms.now _ c.index-arms-left.result (omega arith) c.index-arms-left.is c.requires,
)

pub put_switch-put_reached-requires : goal.put_switch-put_reached-requires
put_switch-put_reached-requires t c = (
  omega (arith, c.decreases, in_list c.args.statements.now _ c.index-statements-i.result (omega arith) c.index-statements-i.is),
  segment_room c.args.jumps c.args.cases.now c.args.default _ _ _ _ _ _ c.args.statements.now c.index-statements-i.result c.in_ok-found.ensures c.deref-labels.ensures.value c.segments_before-count.ensures.bound c.less-behind.ensures (omega arith) c.index-statements-i.is c.requires,
)

pub put_statements-loop-statement-preserved : goal.put_statements-loop-statement-preserved
put_statements-loop-statement-preserved t c = appended (stmt_code_in (ground_of c.args.site.now) c.args.jumps) (stmts_code_in (ground_of c.args.site.now) c.args.jumps) (stmts_more (ground_of c.args.site.now) c.args.jumps) _ _ c.statement-item.result _ _ _ c.loop-statement-test.true c.statement-item.is c.in_ok-put_statement.ensures c.loop-statement.invariant

pub put_statements-returns : goal.put_statements-returns
put_statements-returns t c = all_appended (stmts_code_in (ground_of c.args.site.now) c.args.jumps) (stmts_none (ground_of c.args.site.now) c.args.jumps) _ _ _ _ c.loop-statement-test.false c.loop-statement.invariant

pub put_arms-loop-left-init : goal.put_arms-loop-left-init
put_arms-loop-left-init t c = record { within = omega arith; so_far = begun_chain (ground_of c.args.site.now) c.args.jumps (trees_in c.args.last.items) c.args.arms.now }

pub put_arms-loop-left-preserved : goal.put_arms-loop-left-preserved
put_arms-loop-left-preserved t c = record { within = omega arith; so_far = chained (ground_of c.args.site.now) c.args.jumps (trees_in c.args.last.items) (trees_in c.loop-left.rest.items) _ c.new-code.result.items c.args.arms.now c.loop-left.left (c.loop-left.left - 1) c.index-arms-left.result (omega arith) (omega arith) c.index-arms-left.is c.loop-left.invariant.so_far c.new-code.ensures.items c.in_ok-put_arm.ensures }

pub put_arms-returns : goal.put_arms-returns
put_arms-returns t c = all_chained (ground_of c.args.site.now) c.args.jumps (trees_in c.args.last.items) (trees_in c.loop-left.rest.items) (trees_in c.args.out.now.items) _ c.args.arms.now c.loop-left.left (omega arith) c.loop-left.invariant.so_far c.in_ok-put_all.ensures

pub put_switch-loop-i-preserved : goal.put_switch-loop-i-preserved
put_switch-loop-i-preserved t c = record { begun = few_begun c.has-begins.result c.loop-i.begun c.begun_with-now.result c.loop-i.i c.begun_with-now.ensures c.loop-i.invariant.begun; so_far = segment_step (ground_of c.args.site.now) c.args.jumps _ _ c.loop-i.i c.loop-i.begun c.begun_with-now.result c.less-behind.result c.has-begins.result _ _ _ _ c.args.statements.now c.index-statements-i.result (omega arith) c.index-statements-i.is c.has-begins.ensures c.in_ok-next.ensures c.begun_with-now.ensures c.less-behind.ensures c.in_ok-put_reached.ensures c.loop-i.invariant.so_far }

pub put_switch-returns : goal.put_switch-returns
put_switch-returns t c =
    switch_some (ground_of c.args.site.now) c.args.jumps (expression_of c.args.value.now) c.args.cases.now c.args.default _ _ c.args.statements.now (trees_in c.args.out.now.items) _ _ c.in_ok-put_value.ensures (c.deref-labels.ensures.value ∙ c.in_ok-found.ensures) (omega arith) c.segments_before-count.ensures.value
    (segments_done (ground_of c.args.site.now) c.args.jumps _ _ c.loop-i.i _ c.loop-i.begun c.begun_with-all.result c.has-last.result _ _ _ _ _ c.args.statements.now (omega arith) (omega arith) c.has-last.ensures c.in_ok-filled.ensures c.begun_with-all.ensures c.in_ok-put_closed.ensures c.loop-i.invariant.so_far)

use Rattle.std.proofs.Common.{◌+◌, ◌++◌, [], ◌∷◌, Some, Ok, drop, map, refl, sym, ap, subst, ◌∙◌}
use Rattle.std.proofs.lemmas.Result.{err_from_is_err_and}
use Rattle.c_nodes.proofs.ProgramShapes as shapes
use Rattle.c_nodes.specs.ProgramViews as views
use Rattle.c_nodes.specs.ProgramViews.{declaration_of}
use Rattle.c_nodes.specs.Programs as tree
use Rattle.c_nodes.specs.Views.{expr_of}
use Rattle.c_nodes.specs.declared.statement.Statement.TheViews.{out-Arm, out-Block}
use Rattle.c_typed.specs.Views.{statement_of}
use Rattle.type_rules.specs.Statements as rule
use Rattle.c_tables.proofs.Steps.{out_of_memory}
use Rattle.c_tables.specs.Tables.{known_of, scopes_in}
use Rattle.c_tables.specs.declared.checker.Checker.{Checker}
use Rattle.c_check.specs.StatementViews.{Sees, body_of, do_rule, for_rule, switch_rule, while_rule}
use Rattle.c_outline.specs.Flows.{flow_of}
use Rattle.c_check.specs.declared.switch.SwitchBody.{SwitchBody}
use Rattle.c_check.proofs.Answering.{goes, stops, ends, no_memory}
use Rattle.c_check.proofs.Bodies.{scoped_refuses, scoped_is, block_shown, while_starts, do_starts, for_starts, looped_as, arm_starts, arm_shown, else_starts, first_refuses, chain_begins, other_refuses, chain_more, last_refuses, chain_is, switch_starts, label_on, label_off, inner_on, inner_off, body_is}
use Rattle.c_check.proofs.Items.{no_statement, statement_more, statement_refuses, block_begins, block_refuses, arms_end}
use Rattle.c_check.proofs.Lists as lists
use Rattle.c_check.proofs.Statements.{node_block, node_expr, node_return, node_break, node_continue, node_while, node_do, node_for, node_switch, node_if}
use Rattle.c_check.proofs.statement.+statement.Goals as goal
use Rattle.c_check.proofs.statement.+statement.Goals.{switch_body-in-Label+in_ok-labelled-in-Label, switch_body-in-Statement+in_ok-made-in-Statement+in_ok-add-in-Statement}

-- ---- each kind of statement

pub statement-returns-in-Block : goal.statement-returns-in-Block
statement-returns-in-Block t c = ends statement_of _ _ _ _ c.scoped.ensures (sym (ap (λ s. rule.statement (views.statement_of s) (flow_of c.args.flow) (known_of c.args.checker.now)) c.in-Block.is ∙ node_block c.in-Block.inner (flow_of c.args.flow) (known_of c.args.checker.now)))

pub statement-returns-in-Expr : goal.statement-returns-in-Expr
statement-returns-in-Expr t c = ends statement_of _ _ _ _ c.dropped.ensures (sym (ap (λ s. rule.statement (views.statement_of s) (flow_of c.args.flow) (known_of c.args.checker.now)) c.in-Expr.is ∙ node_expr c.in-Expr.expr c.in-Expr.semicolon (flow_of c.args.flow) (known_of c.args.checker.now)))

pub statement-returns-in-If : goal.statement-returns-in-If
statement-returns-in-If t c = ends statement_of _ _ _ _ c.if_chain.ensures (sym (ap (λ s. rule.statement (views.statement_of s) (flow_of c.args.flow) (known_of c.args.checker.now)) c.in-If.is ∙ node_if c.in-If.chain (flow_of c.args.flow) (known_of c.args.checker.now)))

pub statement-returns-in-While : goal.statement-returns-in-While
statement-returns-in-While t c = ends statement_of _ _ _ _ c.while_loop.ensures (ap (λ s. while_rule (expr_of c.in-While.condition.expr) (views.statement_of s) c.in-While.keyword (known_of c.args.checker.now)) c.deref.ensures ∙ sym (ap (λ s. rule.statement (views.statement_of s) (flow_of c.args.flow) (known_of c.args.checker.now)) c.in-While.is ∙ node_while c.in-While.keyword c.in-While.condition c.in-While.body (flow_of c.args.flow) (known_of c.args.checker.now)))

pub statement-returns-in-Do : goal.statement-returns-in-Do
statement-returns-in-Do t c = ends statement_of _ _ _ _ c.do_loop.ensures (ap (λ s. do_rule (expr_of c.in-Do.condition.expr) (views.statement_of s) c.in-Do.keyword (known_of c.args.checker.now)) c.deref-in-Do.ensures ∙ sym (ap (λ s. rule.statement (views.statement_of s) (flow_of c.args.flow) (known_of c.args.checker.now)) c.in-Do.is ∙ node_do c.in-Do.keyword c.in-Do.body c.in-Do.while_keyword c.in-Do.condition c.in-Do.semicolon (flow_of c.args.flow) (known_of c.args.checker.now)))

pub statement-returns-in-For : goal.statement-returns-in-For
statement-returns-in-For t c = ends statement_of _ _ _ _ c.for_loop.ensures (ap (λ s. for_rule (views.head_of c.deref-in-For-2.result.now) (views.statement_of s) c.in-For.keyword (known_of c.args.checker.now)) c.deref-in-For.ensures ∙ ap (λ h. for_rule (views.head_of h) (views.statement_of c.in-For.body.value) c.in-For.keyword (known_of c.args.checker.now)) c.deref-in-For-2.ensures ∙ sym (ap (λ s. rule.statement (views.statement_of s) (flow_of c.args.flow) (known_of c.args.checker.now)) c.in-For.is ∙ node_for c.in-For.keyword c.in-For.head c.in-For.body (flow_of c.args.flow) (known_of c.args.checker.now)))

pub statement-returns-in-Switch : goal.statement-returns-in-Switch
statement-returns-in-Switch t c = ends statement_of _ _ _ _ c.switch.ensures (ap (λ l. switch_rule (expr_of c.in-Switch.value.expr) (views.items_of (map views.switch_item_of l)) (flow_of c.args.flow) c.in-Switch.keyword (known_of c.args.checker.now)) c.deref-in-Switch.ensures.value ∙ sym (ap (λ s. rule.statement (views.statement_of s) (flow_of c.args.flow) (known_of c.args.checker.now)) c.in-Switch.is ∙ node_switch c.in-Switch.keyword c.in-Switch.value c.in-Switch.opening c.in-Switch.items c.in-Switch.closing (flow_of c.args.flow) (known_of c.args.checker.now)))

pub statement-returns-in-Break : goal.statement-returns-in-Break
statement-returns-in-Break t c = ends statement_of _ _ _ _ (c.break_at.ensures (known_of c.args.checker.now)) (sym (ap (λ s. rule.statement (views.statement_of s) (flow_of c.args.flow) (known_of c.args.checker.now)) c.in-Break.is ∙ node_break c.in-Break.keyword c.in-Break.semicolon (flow_of c.args.flow) (known_of c.args.checker.now)))

pub statement-returns-in-Continue : goal.statement-returns-in-Continue
statement-returns-in-Continue t c = ends statement_of _ _ _ _ (c.continue_at.ensures (known_of c.args.checker.now)) (sym (ap (λ s. rule.statement (views.statement_of s) (flow_of c.args.flow) (known_of c.args.checker.now)) c.in-Continue.is ∙ node_continue c.in-Continue.keyword c.in-Continue.semicolon (flow_of c.args.flow) (known_of c.args.checker.now)))

pub statement-returns-in-Return : goal.statement-returns-in-Return
statement-returns-in-Return t c = ends statement_of _ _ _ _ c.returned.ensures (sym (ap (λ s. rule.statement (views.statement_of s) (flow_of c.args.flow) (known_of c.args.checker.now)) c.in-Return.is ∙ node_return c.in-Return.keyword c.in-Return.value c.in-Return.semicolon (flow_of c.args.flow) (known_of c.args.checker.now)))

-- ---- blocks

pub block-returns-in_err-statements : goal.block-returns-in_err-statements
block-returns-in_err-statements t c =
    let p = err_from_is_err_and c.from_residual.result c.from_residual.ensures.1 in
    rw (p.1, p.2) (block_refuses (views.block_of c.args.block.now) (out-Block c.args.block.now).opening (map declaration_of c.deref.result.now) (views.statements_of (map views.statement_of (out-Block c.args.block.now).statements.items)) (out-Block c.args.block.now).closing (flow_of c.args.flow) (known_of c.args.checker.now) _
    (shapes.show_block c.args.block.now ∙ ap (λ l. tree.Block (out-Block c.args.block.now).opening (map declaration_of l) (views.statements_of (map views.statement_of (out-Block c.args.block.now).statements.items)) (out-Block c.args.block.now).closing) (sym c.deref.ensures.value))
    c.in_err-statements.ensures)

pub block-loop-inner-init : goal.block-loop-inner-init
block-loop-inner-init t c =
    block_begins (views.block_of c.args.block.now) (out-Block c.args.block.now).opening (map declaration_of c.deref.result.now) (views.statements_of (map views.statement_of c.deref-inner-items.result.now)) (out-Block c.args.block.now).closing (flow_of c.args.flow) (known_of c.args.checker.now) _ _
    (shapes.show_block c.args.block.now
    ∙ ap (λ l. tree.Block (out-Block c.args.block.now).opening (map declaration_of l) (views.statements_of (map views.statement_of (out-Block c.args.block.now).statements.items)) (out-Block c.args.block.now).closing) (sym c.deref.ensures.value)
    ∙ ap (λ l. tree.Block (out-Block c.args.block.now).opening (map declaration_of c.deref.result.now) (views.statements_of (map views.statement_of l)) (out-Block c.args.block.now).closing) (sym c.deref-inner-items.ensures.value))
    c.in_ok-statements.ensures

pub block-returns-in_err-made : goal.block-returns-in_err-made
block-returns-in_err-made t c =
    let p = err_from_is_err_and c.from_residual-in_err-made.result c.from_residual-in_err-made.ensures.1 in
    rw (p.1, p.2) (lists.stops statement_of (λ l. rule.statements (views.statements_of (map views.statement_of l)) (flow_of c.args.flow)) c.deref-inner-items.result.now c.loop-inner.inner-index (known_of c.loop-inner.checker) _ c.loop-inner.statements.items c.inner-item.result _ c.loop-inner-test.true c.inner-item.is
    (statement_refuses (views.statement_of c.inner-item.result) (views.statements_of (map views.statement_of (drop (c.loop-inner.inner-index + 1) c.deref-inner-items.result.now))) (flow_of c.args.flow) (known_of c.loop-inner.checker) _ c.in_err-made.ensures) c.loop-inner.invariant)

pub block-loop-inner-preserved : goal.block-loop-inner-preserved
block-loop-inner-preserved t c =
    lists.next statement_of (λ l. rule.statements (views.statements_of (map views.statement_of l)) (flow_of c.args.flow)) c.deref-inner-items.result.now c.loop-inner.inner-index (known_of c.loop-inner.checker) _ c.loop-inner.statements.items (c.in_ok-made.made ∷ []) c.push.new.self.items c.inner-item.result (known_of c.statement.new.checker) c.loop-inner-test.true c.inner-item.is
    (statement_more (views.statement_of c.inner-item.result) (views.statements_of (map views.statement_of (drop (c.loop-inner.inner-index + 1) c.deref-inner-items.result.now))) (flow_of c.args.flow) (known_of c.loop-inner.checker) (known_of c.statement.new.checker) (statement_of c.in_ok-made.made) c.in_ok-made.ensures) c.in_ok-push.ensures.items c.loop-inner.invariant

pub block-returns : goal.block-returns
block-returns t c =
    lists.ends statement_of (λ l. rule.statements (views.statements_of (map views.statement_of l)) (flow_of c.args.flow)) c.deref-inner-items.result.now c.loop-inner.inner-index (known_of c.loop-inner.checker) _ c.loop-inner.statements.items c.loop-inner-test.false (no_statement (flow_of c.args.flow) (known_of c.loop-inner.checker)) c.loop-inner.invariant

pub scoped-returns-in_err-enter : goal.scoped-returns-in_err-enter
scoped-returns-in_err-enter t c =
    let p = err_from_is_err_and c.from_residual.result c.from_residual.ensures.1 in
    rw (p.1, p.2) (out_of_memory _ _ _ (c.in_err-enter.ensures (known_of c.args.checker.now)))

pub scoped-returns-in_err-statements : goal.scoped-returns-in_err-statements
scoped-returns-in_err-statements t c =
    let p = err_from_is_err_and c.from_residual-in_err-statements.result c.from_residual-in_err-statements.ensures.1 in
    let mid = scopes_in c.enter.new.self (known_of c.args.checker.now) in
    rw (p.1, p.2) (scoped_refuses (views.block_of c.args.inner.now) (flow_of c.args.flow) (known_of c.args.checker.now) mid mid _ (c.in_ok-enter.ensures (known_of c.args.checker.now)) c.in_err-statements.ensures)

pub scoped-returns : goal.scoped-returns
scoped-returns t c =
    let mid = scopes_in c.enter.new.self (known_of c.args.checker.now) in
    let inner = known_of c.block.new.checker in
    let after = scopes_in c.leave.new.self inner in
    scoped_is (views.block_of c.args.inner.now) (flow_of c.args.flow) (known_of c.args.checker.now) mid mid inner after after (map statement_of c.in_ok-statements.statements.items) (c.in_ok-enter.ensures (known_of c.args.checker.now)) c.in_ok-statements.ensures (c.leave.ensures inner)
    ∙ ap (λ s. Ok (s, after)) (block_shown c.args.inner.now c.in_ok-statements.statements)

-- ---- loops

pub while_loop-returns-in_err-condition : goal.while_loop-returns-in_err-condition
while_loop-returns-in_err-condition t c =
    let p = err_from_is_err_and c.from_residual.result c.from_residual.ensures.1 in
    rw (p.1, p.2) (stops _ _ _ _ c.in_err-condition.ensures (while_starts (expr_of c.args.expr.now) (views.statement_of c.args.body.now) c.args.line rule.in_loop (known_of c.args.checker.now) refl))

pub while_loop-returns-in_err-body : goal.while_loop-returns-in_err-body
while_loop-returns-in_err-body t c =
    let p = err_from_is_err_and c.from_residual-in_err-body.result c.from_residual-in_err-body.ensures.1 in
    rw (p.1, p.2) (stops _ _ _ _ c.in_err-body.ensures (goes _ _ _ _ _ c.in_ok-condition.ensures (while_starts (expr_of c.args.expr.now) (views.statement_of c.args.body.now) c.args.line (flow_of c.in_loop.result) (known_of c.args.checker.now) c.in_loop.ensures)))

pub while_loop-returns : goal.while_loop-returns
while_loop-returns t c = ends statement_of _ _ _ _ (c.looped.ensures (known_of c.statement.new.checker)) (looped_as _ _ _ _ _ _ _ _ _ _ c.only.ensures.begin c.only.ensures.condition c.only.ensures.step ∙ goes _ _ _ _ _ c.in_ok-body.ensures (goes _ _ _ _ _ c.in_ok-condition.ensures (while_starts (expr_of c.args.expr.now) (views.statement_of c.args.body.now) c.args.line (flow_of c.in_loop.result) (known_of c.args.checker.now) c.in_loop.ensures)))

pub do_loop-returns-in_err-body : goal.do_loop-returns-in_err-body
do_loop-returns-in_err-body t c =
    let p = err_from_is_err_and c.from_residual.result c.from_residual.ensures.1 in
    rw (p.1, p.2) (stops _ _ _ _ c.in_err-body.ensures (do_starts (expr_of c.args.expr.now) (views.statement_of c.args.body.now) c.args.line (flow_of c.in_loop.result) (known_of c.args.checker.now) c.in_loop.ensures))

pub do_loop-returns-in_err-condition : goal.do_loop-returns-in_err-condition
do_loop-returns-in_err-condition t c =
    let p = err_from_is_err_and c.from_residual-in_err-condition.result c.from_residual-in_err-condition.ensures.1 in
    rw (p.1, p.2) (stops _ _ _ _ c.in_err-condition.ensures (goes _ _ _ _ _ c.in_ok-body.ensures (do_starts (expr_of c.args.expr.now) (views.statement_of c.args.body.now) c.args.line (flow_of c.in_loop.result) (known_of c.args.checker.now) c.in_loop.ensures)))

pub do_loop-returns : goal.do_loop-returns
do_loop-returns t c = ends statement_of _ _ _ _ (c.looped.ensures (known_of c.condition.new.checker)) (looped_as _ _ _ _ _ _ _ _ _ _ c.only.ensures.begin c.only.ensures.condition c.only.ensures.step ∙ goes _ _ _ _ _ c.in_ok-condition.ensures (goes _ _ _ _ _ c.in_ok-body.ensures (do_starts (expr_of c.args.expr.now) (views.statement_of c.args.body.now) c.args.line (flow_of c.in_loop.result) (known_of c.args.checker.now) c.in_loop.ensures)))

pub for_loop-returns-in_err-begin : goal.for_loop-returns-in_err-begin
for_loop-returns-in_err-begin t c =
    let p = err_from_is_err_and c.from_residual.result c.from_residual.ensures.1 in
    rw (p.1, p.2) (stops _ _ _ _ c.in_err-begin.ensures (for_starts (views.head_of c.args.head.now) (views.statement_of c.args.body.now) c.args.line rule.in_loop (known_of c.args.checker.now) refl))

pub for_loop-returns-in_err-condition : goal.for_loop-returns-in_err-condition
for_loop-returns-in_err-condition t c =
    let p = err_from_is_err_and c.from_residual-in_err-condition.result c.from_residual-in_err-condition.ensures.1 in
    rw (p.1, p.2) (stops _ _ _ _ c.in_err-condition.ensures (goes _ _ _ _ _ c.in_ok-begin.ensures (for_starts (views.head_of c.args.head.now) (views.statement_of c.args.body.now) c.args.line rule.in_loop (known_of c.args.checker.now) refl)))

pub for_loop-returns-in_err-step : goal.for_loop-returns-in_err-step
for_loop-returns-in_err-step t c =
    let p = err_from_is_err_and c.from_residual-in_err-step.result c.from_residual-in_err-step.ensures.1 in
    rw (p.1, p.2) (stops _ _ _ _ c.in_err-step.ensures (goes _ _ _ _ _ c.in_ok-condition.ensures (goes _ _ _ _ _ c.in_ok-begin.ensures (for_starts (views.head_of c.args.head.now) (views.statement_of c.args.body.now) c.args.line rule.in_loop (known_of c.args.checker.now) refl))))

pub for_loop-returns-in_err-body : goal.for_loop-returns-in_err-body
for_loop-returns-in_err-body t c =
    let p = err_from_is_err_and c.from_residual-in_err-body.result c.from_residual-in_err-body.ensures.1 in
    rw (p.1, p.2) (stops _ _ _ _ c.in_err-body.ensures (goes _ _ _ _ _ c.in_ok-step.ensures (goes _ _ _ _ _ c.in_ok-condition.ensures (goes _ _ _ _ _ c.in_ok-begin.ensures (for_starts (views.head_of c.args.head.now) (views.statement_of c.args.body.now) c.args.line (flow_of c.in_loop.result) (known_of c.args.checker.now) c.in_loop.ensures)))))

pub for_loop-returns : goal.for_loop-returns
for_loop-returns t c = ends statement_of _ _ _ _ (c.looped.ensures (known_of c.statement.new.checker)) (goes _ _ _ _ _ c.in_ok-body.ensures (goes _ _ _ _ _ c.in_ok-step.ensures (goes _ _ _ _ _ c.in_ok-condition.ensures (goes _ _ _ _ _ c.in_ok-begin.ensures (for_starts (views.head_of c.args.head.now) (views.statement_of c.args.body.now) c.args.line (flow_of c.in_loop.result) (known_of c.args.checker.now) c.in_loop.ensures)))))

-- ---- `switch`

pub switch-returns-in_err-value : goal.switch-returns-in_err-value
switch-returns-in_err-value t c =
    let p = err_from_is_err_and c.from_residual.result c.from_residual.ensures.1 in
    rw (p.1, p.2) (stops _ _ _ _ c.in_err-value.ensures (switch_starts (expr_of c.args.value.now) (views.items_of (map views.switch_item_of c.args.items.now)) (flow_of c.args.flow) (rule.in_switch (flow_of c.args.flow)) c.args.line (known_of c.args.checker.now) refl))

pub switch-returns-in_err-body : goal.switch-returns-in_err-body
switch-returns-in_err-body t c =
    let p = err_from_is_err_and c.from_residual-in_err-body.result c.from_residual-in_err-body.ensures.1 in
    rw (p.1, p.2) (stops _ _ _ _ c.in_err-body.ensures (goes _ _ _ _ _ c.in_ok-value.ensures (switch_starts (expr_of c.args.value.now) (views.items_of (map views.switch_item_of c.args.items.now)) (flow_of c.args.flow) (flow_of c.in_switch.result) c.args.line (known_of c.args.checker.now) c.in_switch.ensures)))

pub switch-returns : goal.switch-returns
switch-returns t c =
    sym (goes _ _ _ _ _ c.in_ok-body.ensures (goes _ _ _ _ _ c.in_ok-value.ensures (switch_starts (expr_of c.args.value.now) (views.items_of (map views.switch_item_of c.args.items.now)) (flow_of c.args.flow) (flow_of c.in_switch.result) c.args.line (known_of c.args.checker.now) c.in_switch.ensures)))
    ∙ ap (λ s. Ok (s, known_of c.switch_body.new.checker)) (sym c.finish.ensures)

-- ---- arms

pub arm-returns-in_err-condition : goal.arm-returns-in_err-condition
arm-returns-in_err-condition t c =
    let p = err_from_is_err_and c.from_residual.result c.from_residual.ensures.1 in
    rw (p.1, p.2) (stops _ _ _ _ c.in_err-condition.ensures (arm_starts c.args.arm.now (flow_of c.args.flow) (known_of c.args.checker.now)))

pub arm-returns-in_err-then : goal.arm-returns-in_err-then
arm-returns-in_err-then t c =
    let p = err_from_is_err_and c.from_residual-in_err-then.result c.from_residual-in_err-then.ensures.1 in
    rw (p.1, p.2) (stops _ _ _ _ c.in_err-then.ensures (goes _ _ _ _ _ c.in_ok-condition.ensures (arm_starts c.args.arm.now (flow_of c.args.flow) (known_of c.args.checker.now))))

pub arm-returns : goal.arm-returns
arm-returns t c =
    sym (goes _ _ _ _ _ c.in_ok-then.ensures (goes _ _ _ _ _ c.in_ok-condition.ensures (arm_starts c.args.arm.now (flow_of c.args.flow) (known_of c.args.checker.now))))
    ∙ ap (λ a. Ok (a, known_of c.statement.new.checker)) (sym (arm_shown (record { condition = c.in_ok-condition.condition; then = c.in_ok-then.then; line = (out-Arm c.args.arm.now).keyword })))

pub last_arm-returns-in_err-made-in-Some : goal.last_arm-returns-in_err-made-in-Some
last_arm-returns-in_err-made-in-Some t c =
    let p = err_from_is_err_and c.from_residual.result c.from_residual.ensures.1 in
    rw (p.1, p.2) (stops _ _ _ _ c.in_err-made-in-Some.ensures (else_starts c.deref.result.now (flow_of c.args.flow) (known_of c.args.checker.now) ∙ ap (λ o. rule.other_arms (views.arms_of [] (Some (views.otherwise_of o))) (flow_of c.args.flow) (known_of c.args.checker.now)) c.deref.ensures ∙ ap (λ l. rule.other_arms (views.arms_of [] (views.otherwise_in l)) (flow_of c.args.flow) (known_of c.args.checker.now)) (sym c.in-Some.is)))

pub last_arm-returns-in_ok-new-in-Some : goal.last_arm-returns-in_ok-new-in-Some
last_arm-returns-in_ok-new-in-Some t c =
    sym (goes _ _ _ _ _ c.in_ok-made-in-Some.ensures (else_starts c.deref.result.now (flow_of c.args.flow) (known_of c.args.checker.now) ∙ ap (λ o. rule.other_arms (views.arms_of [] (Some (views.otherwise_of o))) (flow_of c.args.flow) (known_of c.args.checker.now)) c.deref.ensures ∙ ap (λ l. rule.other_arms (views.arms_of [] (views.otherwise_in l)) (flow_of c.args.flow) (known_of c.args.checker.now)) (sym c.in-Some.is)))
    ∙ ap (λ s. Ok (([], Some (statement_of s)), known_of c.statement.new.checker)) (sym c.in_ok-new-in-Some.ensures.ok)

pub last_arm-returns-in-None : goal.last_arm-returns-in-None
last_arm-returns-in-None t c = ap (λ l. rule.other_arms (views.arms_of [] (views.otherwise_in l)) (flow_of c.args.flow) (known_of c.args.checker.now)) c.in-None.is ∙ arms_end (flow_of c.args.flow) (known_of c.args.checker.now)

-- ---- `if`

pub if_chain-returns-in_err-first : goal.if_chain-returns-in_err-first
if_chain-returns-in_err-first t c =
    let p = err_from_is_err_and c.from_residual.result c.from_residual.ensures.1 in
    rw (p.1, p.2) (first_refuses c.args.chain.now (flow_of c.args.flow) (known_of c.args.checker.now) c.deref-2.result.now _ c.deref-2.ensures c.in_err-first.ensures)

pub if_chain-loop-other-init : goal.if_chain-loop-other-init
if_chain-loop-other-init t c =
    chain_begins c.args.chain.now (flow_of c.args.flow) (known_of c.args.checker.now) c.deref-2.result.now c.deref-other-items.result.now c.push.new.self.items c.in_ok-first.first (known_of c.arm.new.checker) c.deref-2.ensures c.deref-other-items.ensures.value (c.in_ok-push.ensures.items ∙ ap (λ l. l ++ c.in_ok-first.first ∷ []) c.new-arms.ensures.items) c.in_ok-first.ensures

pub if_chain-returns-in_err-made : goal.if_chain-returns-in_err-made
if_chain-returns-in_err-made t c =
    let p = err_from_is_err_and c.from_residual-in_err-made.result c.from_residual-in_err-made.ensures.1 in
    rw (p.1, p.2) (other_refuses c.args.chain.now (flow_of c.args.flow) (known_of c.args.checker.now) c.loop-other.arms.items c.deref-other-items.result.now c.loop-other.other-index (known_of c.loop-other.checker) c.loop-other.invariant c.other-item.result _ c.loop-other-test.true c.other-item.is c.in_err-made.ensures)

pub if_chain-loop-other-preserved : goal.if_chain-loop-other-preserved
if_chain-loop-other-preserved t c =
    chain_more c.args.chain.now (flow_of c.args.flow) (known_of c.args.checker.now) c.loop-other.arms.items c.deref-other-items.result.now c.loop-other.other-index (known_of c.loop-other.checker) c.loop-other.invariant c.other-item.result c.in_ok-made.made c.push-in-loop-other.new.self.items (known_of c.arm-in-loop-other.new.checker) c.loop-other-test.true c.other-item.is c.in_ok-made.ensures c.in_ok-push-2.ensures.items

pub if_chain-returns-in_err-otherwise : goal.if_chain-returns-in_err-otherwise
if_chain-returns-in_err-otherwise t c =
    let p = err_from_is_err_and c.from_residual-in_err-otherwise.result c.from_residual-in_err-otherwise.ensures.1 in
    rw (p.1, p.2) (last_refuses c.args.chain.now (flow_of c.args.flow) (known_of c.args.checker.now) c.loop-other.arms.items c.deref-other-items.result.now c.loop-other.other-index (known_of c.loop-other.checker) c.loop-other.invariant _ c.loop-other-test.false c.in_err-otherwise.ensures)

pub if_chain-returns : goal.if_chain-returns
if_chain-returns t c =
    chain_is c.args.chain.now (flow_of c.args.flow) (known_of c.args.checker.now) c.loop-other.arms.items c.deref-other-items.result.now c.loop-other.other-index (known_of c.loop-other.checker) c.loop-other.invariant c.loop-other.arms c.in_ok-otherwise.otherwise (out-Arm c.deref.result.now).keyword (known_of c.last_arm.new.checker) refl (ap (λ a. (out-Arm a).keyword) c.deref.ensures) c.loop-other-test.false c.in_ok-otherwise.ensures

-- ---- the body of a `switch`

pub switch_body-loop-item-init : goal.switch_body-loop-item-init
switch_body-loop-item-init t c = (
  ap (λ b. rule.items (views.items_of (map views.switch_item_of c.args.items.now)) (flow_of c.args.flow) c.args.ty b (known_of c.args.checker.now)) c.new-body.ensures.body,
  c.new-body.ensures.ty,
  c.new-body.ensures.sees,
)

pub switch_body-returns-in_err-labelled-in-Label : goal.switch_body-returns-in_err-labelled-in-Label
switch_body-returns-in_err-labelled-in-Label t c =
    let p = err_from_is_err_and c.from_residual.result c.from_residual.ensures.1 in
    rw (p.1, p.2) (label_off (flow_of c.args.flow) c.args.ty c.args.items.now c.loop-item.item-index (body_of c.loop-item.body) (known_of c.loop-item.checker) _ c.loop-item.invariant.0 c.item-item.result c.in-Label.label c.loop-item.body.ty _ c.loop-item-test.true c.item-item.is c.in-Label.is c.loop-item.invariant.1 c.in_err-labelled-in-Label.ensures)

pub switch_body-returns-in_err-made-in-Statement : goal.switch_body-returns-in_err-made-in-Statement
switch_body-returns-in_err-made-in-Statement t c =
    let p = err_from_is_err_and c.from_residual-in_err-made-in-Statement.result c.from_residual-in_err-made-in-Statement.ensures.1 in
    rw (p.1, p.2) (inner_off (flow_of c.args.flow) c.args.ty c.args.items.now c.loop-item.item-index (body_of c.loop-item.body) (known_of c.loop-item.checker) _ c.loop-item.invariant.0 c.item-item.result c.in-Statement.inner _ c.loop-item-test.true c.item-item.is c.in-Statement.is c.in_err-made-in-Statement.ensures)

pub switch_body-returns-in_err-add-in-Statement : goal.switch_body-returns-in_err-add-in-Statement
switch_body-returns-in_err-add-in-Statement t c =
    let p = err_from_is_err_and c.from_residual-in_err-add-in-Statement.result c.from_residual-in_err-add-in-Statement.ensures.1 in
    rw (p.1, p.2) (no_memory _ _ c.in_err-add-in-Statement.ensures.err)

pub switch_body-loop-item-preserved : goal.switch_body-loop-item-preserved
switch_body-loop-item-preserved t c = elim c.match-item.branch [
  | switch_body-in-Label+in_ok-labelled-in-Label w ↦ (
    ap (λ (b : SwitchBody). rule.items (views.items_of (map views.switch_item_of (drop (c.loop-item.item-index + 1) c.args.items.now))) (flow_of c.args.flow) c.args.ty (body_of b) (known_of c.match-item.checker)) w.body-is
        ∙ ap (λ (k : Checker). rule.items (views.items_of (map views.switch_item_of (drop (c.loop-item.item-index + 1) c.args.items.now))) (flow_of c.args.flow) c.args.ty (body_of w.labelled.new.body) (known_of k)) w.checker-is
        ∙ label_on (flow_of c.args.flow) c.args.ty c.args.items.now c.loop-item.item-index (body_of c.loop-item.body) (known_of c.loop-item.checker) _ c.loop-item.invariant.0 c.item-item.result w.in-Label.label c.loop-item.body.ty (body_of w.labelled.new.body) (known_of w.labelled.new.checker) c.loop-item-test.true c.item-item.is w.in-Label.is c.loop-item.invariant.1 w.in_ok-labelled-in-Label.ensures.0,
    ap (λ (b : SwitchBody). b.ty) w.body-is ∙ w.in_ok-labelled-in-Label.ensures.1 ∙ c.loop-item.invariant.1,
    subst (λ (b : SwitchBody). Sees b) (sym w.body-is) w.in_ok-labelled-in-Label.ensures.2,
  )
  | switch_body-in-Statement+in_ok-made-in-Statement+in_ok-add-in-Statement w ↦ (
    ap (λ (b : SwitchBody). rule.items (views.items_of (map views.switch_item_of (drop (c.loop-item.item-index + 1) c.args.items.now))) (flow_of c.args.flow) c.args.ty (body_of b) (known_of c.match-item.checker)) w.body-is
        ∙ ap (λ (k : Checker). rule.items (views.items_of (map views.switch_item_of (drop (c.loop-item.item-index + 1) c.args.items.now))) (flow_of c.args.flow) c.args.ty (body_of w.add.new.self) (known_of k)) w.checker-is
        ∙ inner_on (flow_of c.args.flow) c.args.ty c.args.items.now c.loop-item.item-index (body_of c.loop-item.body) (known_of c.loop-item.checker) _ c.loop-item.invariant.0 c.item-item.result w.in-Statement.inner (statement_of w.in_ok-made-in-Statement.made) (body_of w.add.new.self) (known_of w.statement.new.checker) c.loop-item-test.true c.item-item.is w.in-Statement.is w.in_ok-made-in-Statement.ensures w.in_ok-add-in-Statement.ensures.body,
    ap (λ (b : SwitchBody). b.ty) w.body-is ∙ w.in_ok-add-in-Statement.ensures.ty ∙ c.loop-item.invariant.1,
    subst (λ (b : SwitchBody). Sees b) (sym w.body-is) w.in_ok-add-in-Statement.ensures.sees,
  )
]

pub switch_body-returns : goal.switch_body-returns
switch_body-returns t c = body_is (flow_of c.args.flow) c.args.ty c.args.items.now c.loop-item.item-index (body_of c.loop-item.body) (known_of c.loop-item.checker) _ c.loop-item.invariant.0 c.loop-item-test.false

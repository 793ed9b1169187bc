use Rattle.std.proofs.Common.{map}
use Rattle.std.proofs.lemmas.Result.{err_from_is_err_and}
use Rattle.c_nodes.specs.ProgramViews.{block_of}
use Rattle.c_typed.specs.Views.{statement_of, variable_of}
use Rattle.c_tables.specs.Tables.{known_of, scope_of}
use Rattle.c_outline.specs.Views.{param_of}
use Rattle.c_outline.specs.Flows.{flow_of}
use Rattle.c_check.proofs.Units.{scope_refuses, body_refuses, inner_made}
use Rattle.c_check.proofs.unit.inner.Goals as goal

pub returns-in_err-enter_with : goal.returns-in_err-enter_with
returns-in_err-enter_with c =
    let p = err_from_is_err_and c.from_residual.result c.from_residual.ensures.1 in
    rw (p.1, p.2) (scope_refuses (block_of c.args.function.now.body) (map param_of c.args.params.items) (scope_of c.args.names) (known_of c.args.checker.now) c.in_err-enter_with.field-0.0 (c.in_err-enter_with.ensures (known_of c.args.checker.now)))

pub returns-in_err-statements : goal.returns-in_err-statements
returns-in_err-statements c =
    let p = err_from_is_err_and c.from_residual-in_err-statements.result c.from_residual-in_err-statements.ensures.1 in
    rw (p.1, p.2) (body_refuses (block_of c.args.function.now.body) (map param_of c.args.params.items) (scope_of c.args.names) (known_of c.args.checker.now) _ (flow_of c.outside.result) (c.in_ok-enter_with.ensures (known_of c.args.checker.now)) c.outside.ensures c.in_err-statements.field-0.0 c.in_err-statements.ensures)

pub returns : goal.returns
returns c = inner_made (block_of c.args.function.now.body) (map param_of c.args.params.items) (scope_of c.args.names) (known_of c.args.checker.now) _ (flow_of c.outside.result) (c.in_ok-enter_with.ensures (known_of c.args.checker.now)) c.outside.ensures (map variable_of c.in_ok-params.params.items) (map statement_of c.in_ok-statements.statements.items) (known_of c.block.new.checker) _ c.in_ok-params.ensures.ok c.in_ok-statements.ensures (c.leave.ensures (known_of c.block.new.checker))

use Rattle.std.proofs.Common.{ap, map}
use Rattle.c_nodes.specs.ProgramViews.{init_of}
use Rattle.c_typed.proofs.Shapes.{show_statement_declare}
use Rattle.c_typed.specs.Views.{statement_of}
use Rattle.c_typed.specs.declared.statement.TStmt.TheVariants as statements
use Rattle.type_rules.specs.Objects as rule
use Rattle.c_tables.specs.Tables.{body_in, known_of, scopes_in}
use Rattle.c_check.specs.Views.{any_init}
use Rattle.c_check.proofs.Making.{local_unadded, local_unnamed, local_some, local_none}
use Rattle.c_tables.proofs.Steps.{passed_on}
use Rattle.c_check.proofs.objects.local_object.Goals as goal

pub returns-in_err-local : goal.returns-in_err-local
returns-in_err-local c =
    let known = known_of c.args.checker.now in
    rw (c.is_register-fixed.ensures) at
    (passed_on (λ made. map statement_of made.items) c.from_residual.result (body_in c.add_local.new.self known) (rule.local_rule (any_init c.args.init) c.args.name.now c.args.ty c.is_register-fixed.result c.args.line known) c.in_err-local.field-0.0 c.from_residual.ensures.1
    (local_unadded (any_init c.args.init) c.args.name.now c.args.ty c.is_register-fixed.result c.args.line known c.in_err-local.field-0.0 (c.in_err-local.ensures known)))

pub returns-in_err-bind_object : goal.returns-in_err-bind_object
returns-in_err-bind_object c =
    let known = known_of c.args.checker.now in
    let mid = body_in c.add_local.new.self known in
    rw (c.is_register-fixed.ensures) at
    (passed_on (λ made. map statement_of made.items) c.from_residual-in_err-bind_object.result (scopes_in c.bind_object.new.scopes mid) (rule.local_rule (any_init c.args.init) c.args.name.now c.args.ty c.is_register-fixed.result c.args.line known) c.in_err-bind_object.field-0.0 c.from_residual-in_err-bind_object.ensures.1
    (local_unnamed (any_init c.args.init) c.args.name.now c.args.ty c.is_register-fixed.result c.args.line c.in_ok-local.local known mid (c.in_ok-local.ensures known) c.in_err-bind_object.field-0.0 (c.in_err-bind_object.ensures mid)))

pub returns-in-Some : goal.returns-in-Some
returns-in-Some c =
    let known = known_of c.args.checker.now in
    let mid = body_in c.add_local.new.self known in
    rw (c.is_register-fixed.ensures) at
    (local_some (any_init c.args.init) c.args.name.now c.args.ty c.is_register-fixed.result c.args.line c.in_ok-local.local known mid (c.in_ok-local.ensures known)
    (init_of c.in-Some.init.now) (scopes_in c.bind_object.new.scopes mid) (known_of c.begin_local.new.checker) c.begin_local.result (c.in_ok-bind_object.ensures mid) (ap any_init c.in-Some.is) c.begin_local.ensures)

pub returns-in-None : goal.returns-in-None
returns-in-None c =
    let known = known_of c.args.checker.now in
    let mid = body_in c.add_local.new.self known in
    let bound = scopes_in c.bind_object.new.scopes mid in
    rw (c.is_register-fixed.ensures) at
    (local_none (any_init c.args.init) c.args.name.now c.args.ty c.is_register-fixed.result c.args.line c.in_ok-local.local known mid (c.in_ok-local.ensures known)
    bound (statement_of (statements.Declare c.in_ok-local.local c.args.line)) c.one_statement.result (c.in_ok-bind_object.ensures mid) (ap any_init c.in-None.is) (show_statement_declare c.in_ok-local.local c.args.line) (c.one_statement.ensures bound))

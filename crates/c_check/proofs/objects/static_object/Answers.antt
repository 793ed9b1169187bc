use Rattle.std.proofs.Common.{ap}
use Rattle.c_nodes.specs.ProgramViews.{init_of}
use Rattle.type_rules.specs.Objects as rule
use Rattle.c_tables.specs.Tables.{known_of, scopes_in, statics_in}
use Rattle.c_check.specs.Views.{any_init}
use Rattle.c_check.proofs.Making.{static_unadded, static_unnamed, static_some, static_none}
use Rattle.c_tables.proofs.Steps.{passed_on_test}
use Rattle.c_check.proofs.objects.static_object.Goals as goal

pub returns-in_err-number : goal.returns-in_err-number
returns-in_err-number c =
    let known = known_of c.args.checker.now in
    passed_on_test c.from_residual.result (statics_in c.add.new.self known) (rule.static_rule (any_init c.args.init) c.args.map_name.items c.args.name.now c.args.ty c.args.line known) c.in_err-number.field-0.0 c.from_residual.ensures.1
    (static_unadded (any_init c.args.init) c.args.map_name.items c.args.name.now c.args.ty c.args.line known c.in_err-number.field-0.0 (c.in_err-number.ensures known))

pub returns-in_err-bind_object : goal.returns-in_err-bind_object
returns-in_err-bind_object c =
    let known = known_of c.args.checker.now in
    let mid = statics_in c.add.new.self known in
    passed_on_test c.from_residual-in_err-bind_object.result (scopes_in c.bind_object.new.scopes mid) (rule.static_rule (any_init c.args.init) c.args.map_name.items c.args.name.now c.args.ty c.args.line known) c.in_err-bind_object.field-0.0 c.from_residual-in_err-bind_object.ensures.1
    (static_unnamed (any_init c.args.init) c.args.map_name.items c.args.name.now c.args.ty c.args.line c.in_ok-number.number known mid (c.in_ok-number.ensures known) c.in_err-bind_object.field-0.0 (c.in_err-bind_object.ensures mid))

pub returns-in-Some : goal.returns-in-Some
returns-in-Some c =
    let known = known_of c.args.checker.now in
    let mid = statics_in c.add.new.self known in
    static_some (any_init c.args.init) c.args.map_name.items c.args.name.now c.args.ty c.args.line c.in_ok-number.number known mid (c.in_ok-number.ensures known)
    (init_of c.in-Some.init.now) (scopes_in c.bind_object.new.scopes mid) (known_of c.begin_static.new.checker) c.begin_static.result (c.in_ok-bind_object.ensures mid) (ap any_init c.in-Some.is) c.begin_static.ensures

pub returns-in-None : goal.returns-in-None
returns-in-None c =
    let known = known_of c.args.checker.now in
    let mid = statics_in c.add.new.self known in
    static_none (any_init c.args.init) c.args.map_name.items c.args.name.now c.args.ty c.args.line c.in_ok-number.number known mid (c.in_ok-number.ensures known)
    (scopes_in c.bind_object.new.scopes mid) (c.in_ok-bind_object.ensures mid) (ap any_init c.in-None.is)

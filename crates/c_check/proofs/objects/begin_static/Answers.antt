use Rattle.std.proofs.Common.{Some}
use Rattle.c_nodes.specs.ProgramViews.{init_of}
use Rattle.type_rules.specs.Objects as rule
use Rattle.c_tables.specs.Tables.{known_of, scopes_in, types_in}
use Rattle.c_outline.specs.Slots.{begun_of, slot_of}
use Rattle.c_check.proofs.Making.{static_unclosed, static_unbound, static_is}
use Rattle.c_tables.proofs.Steps.{passed_on_test}
use Rattle.c_check.proofs.objects.begin_static.Goals as goal

pub returns-in_err-whole : goal.returns-in_err-whole
returns-in_err-whole c =
    let mid = known_of c.begun.new.checker in
    passed_on_test c.from_residual-in_err-whole.result (types_in c.closed.new.types mid) (rule.static_begun (Some (init_of c.args.init.now)) c.args.number c.args.name.now c.args.ty c.args.line (known_of c.args.checker.now)) c.in_err-whole.field-0.0 c.from_residual-in_err-whole.ensures.1
    (static_unclosed (init_of c.args.init.now) c.args.number c.args.name.now c.args.ty c.args.line (slot_of c.whole_of.result) (begun_of c.in_ok-sink.sink) (known_of c.args.checker.now) mid c.whole_of.ensures c.in_ok-sink.ensures c.in_err-whole.field-0.0 (c.in_err-whole.ensures mid))

pub returns-in_err-bind_object : goal.returns-in_err-bind_object
returns-in_err-bind_object c =
    let mid = known_of c.begun.new.checker in
    let after = types_in c.closed.new.types mid in
    passed_on_test c.from_residual-in_err-bind_object.result (scopes_in c.bind_object.new.scopes after) (rule.static_begun (Some (init_of c.args.init.now)) c.args.number c.args.name.now c.args.ty c.args.line (known_of c.args.checker.now)) c.in_err-bind_object.field-0.0 c.from_residual-in_err-bind_object.ensures.1
    (static_unbound (init_of c.args.init.now) c.args.number c.args.name.now c.args.ty c.args.line (slot_of c.whole_of.result) (begun_of c.in_ok-sink.sink) (known_of c.args.checker.now) mid c.whole_of.ensures c.in_ok-sink.ensures
    c.in_ok-whole.whole after (c.in_ok-whole.ensures mid) c.in_err-bind_object.field-0.0 (c.in_err-bind_object.ensures after))

pub returns : goal.returns
returns c =
    let mid = known_of c.begun.new.checker in
    let after = types_in c.closed.new.types mid in
    let bound = scopes_in c.bind_object.new.scopes after in
    static_is (init_of c.args.init.now) c.args.number c.args.name.now c.args.ty c.args.line (slot_of c.whole_of.result) (begun_of c.in_ok-sink.sink) (known_of c.args.checker.now) mid c.whole_of.ensures c.in_ok-sink.ensures
    c.in_ok-whole.whole after (c.in_ok-whole.ensures mid) bound _ (c.in_ok-bind_object.ensures after) (c.complete.ensures bound)

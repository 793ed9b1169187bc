use Rattle.std.proofs.Common.{Some, map}
use Rattle.c_nodes.specs.ProgramViews.{init_of}
use Rattle.c_typed.specs.Views.{statement_of}
use Rattle.type_rules.specs.Objects as rule
use Rattle.c_tables.specs.Tables.{body_in, known_of, scopes_in, types_in}
use Rattle.c_outline.specs.Slots.{begun_of, slot_of}
use Rattle.c_check.proofs.Making.{local_unclosed, local_unbound, local_is}
use Rattle.c_tables.proofs.Steps.{passed_on}
use Rattle.c_check.proofs.objects.begin_local.Goals as goal

pub returns-in_err-whole : goal.returns-in_err-whole
returns-in_err-whole c =
    let mid = known_of c.begun.new.checker in
    passed_on (λ made. map statement_of made.items) c.from_residual-in_err-whole.result (types_in c.closed.new.types mid) (rule.local_begun (Some (init_of c.args.init.now)) c.args.local c.args.name.now c.args.ty c.args.fixed c.args.line (known_of c.args.checker.now)) c.in_err-whole.field-0.0 c.from_residual-in_err-whole.ensures.1
    (local_unclosed (init_of c.args.init.now) c.args.local c.args.name.now c.args.ty c.args.fixed c.args.line (slot_of c.whole_of.result) (begun_of c.in_ok-sink.sink) (known_of c.args.checker.now) mid c.whole_of.ensures c.in_ok-sink.ensures c.in_err-whole.field-0.0 (c.in_err-whole.ensures mid))

pub returns-in_err-bind_object : goal.returns-in_err-bind_object
returns-in_err-bind_object c =
    let mid = known_of c.begun.new.checker in
    let after = types_in c.closed.new.types mid in
    passed_on (λ made. map statement_of made.items) c.from_residual-in_err-bind_object.result (scopes_in c.bind_object.new.scopes after) (rule.local_begun (Some (init_of c.args.init.now)) c.args.local c.args.name.now c.args.ty c.args.fixed c.args.line (known_of c.args.checker.now)) c.in_err-bind_object.field-0.0 c.from_residual-in_err-bind_object.ensures.1
    (local_unbound (init_of c.args.init.now) c.args.local c.args.name.now c.args.ty c.args.fixed c.args.line (slot_of c.whole_of.result) (begun_of c.in_ok-sink.sink) (known_of c.args.checker.now) mid c.whole_of.ensures c.in_ok-sink.ensures
    c.in_ok-whole.whole after (c.in_ok-whole.ensures mid) c.in_err-bind_object.field-0.0 (c.in_err-bind_object.ensures after))

pub returns : goal.returns
returns c =
    let mid = known_of c.begun.new.checker in
    let after = types_in c.closed.new.types mid in
    let bound = scopes_in c.bind_object.new.scopes after in
    let end = body_in c.complete_local.new.self bound in
    local_is (init_of c.args.init.now) c.args.local c.args.name.now c.args.ty c.args.fixed c.args.line (slot_of c.whole_of.result) (begun_of c.in_ok-sink.sink) (known_of c.args.checker.now) mid c.whole_of.ensures c.in_ok-sink.ensures
    c.in_ok-whole.whole after (c.in_ok-whole.ensures mid) bound end c.local_statements.result (c.in_ok-bind_object.ensures after) (c.complete_local.ensures bound) (c.local_statements.ensures end)

use Rattle.type_rules.specs.Objects as rule
use Rattle.c_tables.specs.Tables.{types_in}
use Rattle.c_check.proofs.Making.{closed_long, closed_refused, closed_sized, closed_large}
use Rattle.c_tables.proofs.Steps.{passed_on}
use Rattle.c_check.proofs.objects.closed_array.Goals as goal

pub returns-then-is_long : goal.returns-then-is_long
returns-then-is_long c = λ known.
    closed_long c.args.ty c.args.row c.in-Some.length c.args.line c.args.length (types_in c.args.types.now known) (types_in c.args.types.now known) c.is_long.result c.refused-then-is_long.result c.in-Some.is c.is_long.ensures c.if-is_long.true c.refused-then-is_long.ensures

pub returns-in_err-whole : goal.returns-in_err-whole
returns-in_err-whole c = λ known.
    passed_on (λ ty. ty) c.from_residual.result (types_in c.array_of.new.self known) (rule.closed_array c.args.ty c.args.row c.args.length c.args.line (types_in c.args.types.now known)) c.in_err-whole.field-0.0 c.from_residual.ensures.1
    (closed_refused c.args.ty c.args.row c.in-Some.length c.args.line c.args.length c.like-element.result c.target.result (types_in c.args.types.now known) c.in-Some.is c.like-element.ensures (c.target.ensures known) c.in_err-whole.field-0.0 (c.in_err-whole.ensures known))

pub returns-then-is_sized : goal.returns-then-is_sized
returns-then-is_sized c = λ known.
    closed_sized c.args.ty c.args.row c.in-Some.length c.args.line c.args.length c.like-element.result c.target.result (types_in c.args.types.now known) c.in-Some.is c.like-element.ensures (c.target.ensures known)
    c.in_ok-whole.whole (types_in c.array_of.new.self known) c.is_sized.result (c.in_ok-whole.ensures known) (c.is_sized.ensures known) c.if-is_sized.true

pub returns-else-is_sized : goal.returns-else-is_sized
returns-else-is_sized c = λ known.
    closed_large c.args.ty c.args.row c.in-Some.length c.args.line c.args.length c.like-element.result c.target.result (types_in c.args.types.now known) c.in-Some.is c.like-element.ensures (c.target.ensures known)
    c.in_ok-whole.whole (types_in c.array_of.new.self known) c.is_sized.result c.refused-else-is_sized.result (c.in_ok-whole.ensures known) (c.is_sized.ensures known) c.if-is_sized.false c.refused-else-is_sized.ensures

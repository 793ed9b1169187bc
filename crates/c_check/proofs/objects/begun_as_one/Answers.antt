use Rattle.std.proofs.Common.{map}
use Rattle.c_typed.specs.Views.{item_of}
use Rattle.c_check.proofs.Locals.{scalar_answered, struct_begun}
use Rattle.c_check.proofs.objects.begun_as_one.Goals as goal

pub returns-in-Some-Scalar : goal.returns-in-Some-Scalar
returns-in-Some-Scalar c known =
    scalar_answered (map item_of c.args.items.items) c.only.result c.in-Some-Scalar.field-0 c.in-Some-Scalar.field-0-0 c.in-Some-Scalar.value c.args.local c.args.ty c.args.line known c.one_statement.result c.only.ensures c.in-Some-Scalar.is c.in-Some-Scalar.field-0-is (c.one_statement.ensures known)

pub returns-in-Some-Struct : goal.returns-in-Some-Struct
returns-in-Some-Struct c known =
    struct_begun (map item_of c.args.items.items) c.only.result c.in-Some-Struct.field-0 c.in-Some-Struct.field-0-0 c.in-Some-Struct.from c.in-Some-Struct.size c.in_ok-value-in-Some-Struct.value c.args.local c.args.ty c.args.line known
    c.new-statements.result.items c.push.new.self.items c.push-in-Some-Struct.new.self.items c.only.ensures c.in-Some-Struct.is c.in-Some-Struct.field-0-is c.in_ok-value-in-Some-Struct.ensures c.new-statements.ensures.items c.in_ok-push-in-Some-Struct.ensures.items c.in_ok-push-in-Some-Struct-2.ensures.items

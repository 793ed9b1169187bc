use Rattle.std.proofs.Common.{sym, ◌∙◌}
use Rattle.c_tables.specs.Tables.{types_in}
use Rattle.c_terms.proofs.Operating.{operation_equal}
use Rattle.c_terms.proofs.operation.beside_pointer.Goals as goal

pub returns-then-is_equality-2 : goal.returns-then-is_equality-2
returns-then-is_equality-2 c = λ known. c.equality.ensures known ∙ operation_equal (types_in c.args.types.now known) c.args.op c.args.a_null c.args.right.null c.args.a c.in-Pointer.b c.args.right.ty c.in-Pointer.is (sym c.is_equality-in-Pointer.ensures ∙ c.if-is_equality-2.true)

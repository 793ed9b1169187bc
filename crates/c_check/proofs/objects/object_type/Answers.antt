use Rattle.std.proofs.Common.{ap}
use Rattle.c_tables.specs.Tables.{types_in}
use Rattle.c_outline.specs.Views.{declared_of, outline_of, specified_of}
use Rattle.c_check.proofs.Making.{object_large, object_missing, object_whole}
use Rattle.c_check.proofs.objects.object_type.Goals as goal

pub returns-then-is_large : goal.returns-then-is_large
returns-then-is_large c = λ known. object_large (types_in c.args.types.now known) (specified_of c.args.specified) (outline_of c.args.outline.now) c.args.given c.args.line c.in-Object.ty (ap declared_of c.in-Object.is) c.if-bad.false c.if-specified.false c.refused-then-is_large.result c.is_large.result (c.is_large.ensures known) c.if-is_large.true c.refused-then-is_large.ensures

pub returns-then-is_missing : goal.returns-then-is_missing
returns-then-is_missing c = λ known. object_missing (types_in c.args.types.now known) (specified_of c.args.specified) (outline_of c.args.outline.now) c.args.given c.args.line c.in-Object.ty (ap declared_of c.in-Object.is) c.if-bad.false c.if-specified.false c.refused-then-is_missing.result c.is_large.result c.is_missing.result (c.is_large.ensures known) c.if-is_large.false (c.is_missing.ensures known) c.if-is_missing.true c.refused-then-is_missing.ensures

pub returns : goal.returns
returns c = λ known. object_whole (types_in c.args.types.now known) (specified_of c.args.specified) (outline_of c.args.outline.now) c.args.given c.args.line c.in-Object.ty (ap declared_of c.in-Object.is) c.if-bad.false c.if-specified.false c.is_large.result c.is_missing.result (c.is_large.ensures known) c.if-is_large.false (c.is_missing.ensures known) c.if-is_missing.false

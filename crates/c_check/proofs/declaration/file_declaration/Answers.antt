use Rattle.std.proofs.Common.{ap}
use Rattle.c_nodes.specs.ProgramViews.{declaration_of, declared_of}
use Rattle.c_tables.specs.Tables.{known_of}
use Rattle.check_expr.specs.Views.{context_of}
use Rattle.c_outline.specs.Views.{specified_of}
use Rattle.c_check.proofs.Declared.{nothing_last}
use Rattle.c_check.proofs.declaration.file_declaration.Goals as goal

pub returns-in-None : goal.returns-in-None
returns-in-None c =
    let mid = known_of c.specified.new.checker in
    nothing_last (declaration_of c.args.declaration.now) (specified_of c.in_ok-specified.specified) (context_of c.in_file.result) (known_of c.args.checker.now) mid c.refuse_nothing.result c.in_file.ensures c.in_ok-specified.ensures (ap declared_of c.in-None.is) (c.refuse_nothing.ensures mid)

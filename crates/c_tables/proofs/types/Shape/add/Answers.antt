use Rattle.c_tables.specs.Tables.{progress_of}
use Rattle.c_tables.proofs.Sights.{member_added}
use Rattle.c_tables.proofs.types.Shape.add.Goals as goal

pub returns-clause-added : goal.returns-clause-added
returns-clause-added c =
    member_added c.args.self.now.fields.entries c.insert.new.self.entries c.args.name c.args.ty c.args.self.now.size c.args.bytes c.kept-self.result (progress_of c.args.self.now.body) c.in_ok-insert.ensures.entries c.kept-self.ensures

use Rattle.c_tables.specs.Tables.{types_in}
use Rattle.c_tables.proofs.Sights.{tag_declared}
use Rattle.c_tables.proofs.types.Types.declare_tag.Goals as goal

pub returns : goal.returns
returns c = λ known.
    let mid = c.add_structure.new.self in
    tag_declared (types_in c.args.self.now known) known mid.targets.keys mid.shapes.items mid.tags.entries c.insert.new.self.entries c.in_ok-name.name c.in_ok-structure.structure c.args.tag.now
    (c.in_ok-structure.ensures.said known) c.in_ok-name.ensures.ok c.in_ok-insert.ensures.entries

use Rattle.std.proofs.Common.{map, ap}
use Rattle.c_typed.specs.Views.{member_of}
use Rattle.c_tables.proofs.Sights.{all_read, member_trees}
use Rattle.c_tables.proofs.types.structure_of.Goals as goal

pub returns : goal.returns
returns c =
    let whole = all_read (map member_of c.loop-name.members.items) (member_trees c.loop-name.name-iterator) (member_trees c.args.shape.fields.entries) (ap member_trees c.in-None.ensures.steps.0) c.loop-name.invariant in
    λ j. record { members = whole j; size = c.args.shape.size }

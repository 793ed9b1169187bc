use Rattle.std.proofs.Common.{map, ap}
use Rattle.c_typed.specs.Views.{structure_of}
use Rattle.type_rules.specs.Units.{structure_tree}
use Rattle.c_tables.specs.Tables.{shape_of}
use Rattle.c_tables.proofs.Sights.{all_read, none_left}
use Rattle.c_tables.proofs.types.structures_of.Goals as goal

pub returns : goal.returns
returns c =
    let rest = c.loop-shape.shape-iterator.rest in
    all_read (map structure_of c.loop-shape.structures.items) (map structure_tree (map shape_of rest.items)) (map structure_tree (map shape_of c.args.shapes.items))
    (ap (λ xs. map structure_tree (map shape_of xs)) (none_left rest.items rest.len rest.ok.0 c.in-None.ensures.steps.0)) c.loop-shape.invariant

-- What the code keeps while it marks names of types, as the definition of marking has it.
use Rattle.std.specs.Prelude.{map}
use Rattle.c_parse.specs.Marks as rule
use Rattle.c_parse.specs.declared.marks.Marking.{Marking}

abbrev pub marking_of : Marking → rule.Marking
marking_of m = record { depth = m.depth; before = m.before; inside = m.inside; coming = m.coming.items; known = map (λ name. name.items) m.known.keys }

use Rattle.c_parse.proofs.MarkedPlaces.{marks_are}
use Rattle.c_parse.proofs.marks.marks_are_types.Goals as goal

pub returns : goal.returns
returns c text = marks_are text

use Rattle.std.proofs.Common.{◌∙◌}
use Rattle.c_parse.proofs.Names.{name_known}
use Rattle.c_parse.proofs.marks.Marking.knows.Goals as goal

pub returns : goal.returns
returns c = c.contains.ensures ∙ name_known c.args.self.now.known.keys c.args.name.now

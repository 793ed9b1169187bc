use Rattle.code_place.specs.Layouts.{layout_of}
use Rattle.lean_pass.proofs.Putting.{is_made}
use Rattle.narrow_code.specs.Links.{is_lent}
use Rattle.lean_pass.specs.Views.{lent_by, variables_of}
use Rattle.lean_pass.proofs.making.made_by.Goals as goal

pub returns : goal.returns
returns c = is_made (layout_of c.args.placed.now) c.args.sketch.now (variables_of c.args.variables.now) (is_lent (lent_by c.args.lent.now)) c.args.given.now c.in_ok-made.made.items c.requires.tested c.requires.steady c.requires.admissible c.requires.clear c.requires.seen c.requires.distinct c.in_ok-made.ensures

use Rattle.code_place.specs.Layouts.{layout_of}
use Rattle.lean_pass.proofs.Putting.{names_stay}
use Rattle.narrow_code.specs.Links.{is_lent}
use Rattle.lean_pass.specs.Views.{lent_by, variables_of}
use Rattle.lean_pass.proofs.pass.lean.Goals as goal

pub returns-clause-names : goal.returns-clause-names
returns-clause-names c = names_stay (layout_of c.args.placed.now) c.args.handler (variables_of c.args.variables.now) (is_lent (lent_by c.args.lent.now)) c.args.blocks.now c.in_ok-made.made.items c.in_ok-made.ensures

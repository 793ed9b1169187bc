use Rattle.std.proofs.Common.{ap, ◌∙◌}
use Rattle.type_rules.specs.Declarations.{is_same}
use Rattle.c_tables.proofs.functions.Functions.is_same.Goals as goal

pub returns-in-Some : goal.returns-in-Some
returns-in-Some c = c.is_same.ensures ∙ ap (λ s. is_same s c.args.returns c.args.params.now c.args.defines) c.in-Some.ensures

pub returns-in-None : goal.returns-in-None
returns-in-None c = ap (λ s. is_same s c.args.returns c.args.params.now c.args.defines) c.in-None.ensures

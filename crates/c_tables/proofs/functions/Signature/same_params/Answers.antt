use Rattle.std.proofs.Common.{ap, ◌∙◌}
use Rattle.type_rules.specs.Declarations.{same_types}
use Rattle.c_tables.proofs.Alike.{lists_same}
use Rattle.c_tables.proofs.functions.Signature.same_params.Goals as goal

pub returns : goal.returns
returns c = c.eq.ensures ∙ lists_same c.as_slice.result.now c.args.params.now ∙ ap (λ l. same_types l c.args.params.now) c.as_slice.ensures.value

use Rattle.std.proofs.Common.{option_map, ap, ◌∙◌}
use Rattle.c_tables.specs.Tables.{binding_of}
use Rattle.c_tables.proofs.Sights.{binding_found}
use Rattle.c_tables.proofs.scope.meaning.Goals as goal

pub returns-in-Some : goal.returns-in-Some
returns-in-Some c = ap (option_map binding_of) c.in-Some.ensures.value ∙ binding_found c.args.scope.now.entries c.args.name.now

pub returns-in-None : goal.returns-in-None
returns-in-None c = ap (option_map binding_of) c.in-None.ensures.value ∙ binding_found c.args.scope.now.entries c.args.name.now

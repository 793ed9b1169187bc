use Rattle.std.proofs.Common.{option_map, ap, ◌∙◌}
use Rattle.c_tables.specs.Tables.{tag_of}
use Rattle.c_tables.proofs.Sights.{tag_found}
use Rattle.c_tables.proofs.types.Types.tagged.Goals as goal

pub returns-in-Some : goal.returns-in-Some
returns-in-Some c = λ known. ap (option_map tag_of) c.in-Some.ensures.value ∙ tag_found c.args.self.now.tags.entries c.args.tag.now

pub returns-in-None : goal.returns-in-None
returns-in-None c = λ known. ap (option_map tag_of) c.in-None.ensures.value ∙ tag_found c.args.self.now.tags.entries c.args.tag.now

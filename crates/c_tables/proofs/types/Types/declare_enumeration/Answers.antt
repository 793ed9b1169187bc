use Rattle.std.proofs.Common.{ℕ, List, Ok, ap}
use Rattle.type_rules.specs.Known as rule
use Rattle.type_rules.specs.Known.{Known}
use Rattle.c_tables.specs.Tables.{types_in}
use Rattle.c_tables.specs.declared.types.Tag.TheVariants as sorts
use Rattle.c_tables.proofs.Sights.{tag_put}
use Rattle.c_tables.proofs.types.Types.declare_enumeration.Goals as goal

pub returns : goal.returns
returns c = λ known.
    let with_tags : List (List ℕ × rule.Tag) → Known = λ l. record (types_in c.args.self.now known) { tags = l } in
    ap (λ l. Ok (with_tags l, with_tags l)) (tag_put c.args.self.now.tags.entries c.insert.new.self.entries c.in_ok-name.name sorts.Enumeration c.args.tag.now c.in_ok-name.ensures.ok c.in_ok-insert.ensures.entries)

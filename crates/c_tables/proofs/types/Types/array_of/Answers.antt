use Rattle.std.proofs.Common.{Ok, sym, ap, ◌∙◌}
use Rattle.c_tables.specs.Tables.{types_in}
use Rattle.type_rules.specs.Rows as rows
use Rattle.c_tables.proofs.Sights.{array_made}
use Rattle.c_tables.proofs.types.Types.array_of.Goals as goal

pub returns : goal.returns
returns c = λ known.
    let made = ap (λ t. rows.row_of t (types_in c.args.self.now known)) (sym c.plain.ensures) ∙ c.in_ok-row.ensures.said known in
    array_made c.args.element c.args.length c.bytes_of.result c.kept-size.result c.in_ok-row.row (types_in c.args.self.now known) (types_in c.row.new.self known) (c.bytes_of.ensures known) c.kept-size.ensures made
    ∙ ap (λ t. Ok (t, types_in c.row.new.self known)) (sym c.like.ensures)

use Rattle.std.proofs.Common.{Ok, sym, ◌∙◌}
use Rattle.c_tables.specs.Tables.{types_in}
use Rattle.c_tables.proofs.Alike.{row_found, row_put}
use Rattle.c_tables.proofs.types.Types.row.Goals as goal

pub returns-clause-said : goal.returns-clause-said
returns-clause-said c = λ known.
    let old = types_in c.args.self.now known in
    let at = c.in_ok-index.ensures.index ∙ row_found c.args.self.now.targets.keys c.args.target in
    let put = c.in_ok-index.ensures.keys ∙ row_put c.args.self.now.targets.keys c.args.target in
    (λ j. Ok (sym at j, record old { targets = sym put j }))

use Rattle.std.proofs.Common.{List, Ok, ap}
use Rattle.type_rules.specs.Known.{Known, Scope}
use Rattle.c_tables.specs.Tables.{binding_of, scopes_in}
use Rattle.c_tables.proofs.Scopes.{bound_last}
use Rattle.c_tables.proofs.Sights.{bindings_of, binding_put}
use Rattle.c_tables.proofs.scope.Scopes.bind.Goals as goal

pub returns-in_ok-insert : goal.returns-in_ok-insert
returns-in_ok-insert c = λ known.
    let with_scopes : List Scope → Known = λ l. record (scopes_in c.args.self.now known) { scopes = l } in
    let xs = c.args.self.now.«open» in
    ap (λ l. Ok (with_scopes l, with_scopes l))
    (bound_last (λ m. bindings_of m.entries) xs.items xs.len c.insert.new.self c.args.name.now (binding_of c.args.binding) c.in-Some.scope.now xs.ok.0 c.in-Some.ensures.item.3.0 c.in-Some.ensures.item.1
    (binding_put c.in-Some.scope.now.entries c.insert.new.self.entries c.in_ok-name.name c.args.binding c.args.name.now c.in_ok-name.ensures.ok c.in_ok-insert.ensures.entries))

use Rattle.std.proofs.Common.{ℕ, ◌-◌, List, Ok, length, map, reverse, sym, ap, ◌∙◌}
use Rattle.type_rules.specs.Known.{Scope}
use Rattle.type_rules.specs.Names.{first_scope, without_first}
use Rattle.c_tables.specs.Tables.{scopes_in}
use Rattle.c_tables.proofs.Scopes.{closed}
use Rattle.c_tables.proofs.Sights.{bindings_of}
use Rattle.c_tables.proofs.scope.Scopes.leave_list.Goals as goal

pub returns-in-Some : goal.returns-in-Some
returns-in-Some c = λ known.
    let before = c.args.self.now in
    ap (λ (l : List Scope). Ok (first_scope l, record (scopes_in before known) { scopes = without_first l; lists = length before.lists.items - 1 }))
    (closed (λ m. bindings_of m.entries) before.«open».items c.pop.new.self.items c.in-Some.entries c.in-Some.ensures.items)
    ∙ ap (λ (n : ℕ). Ok (bindings_of c.in-Some.entries.entries, record (scopes_in before known) { scopes = reverse (map (λ m. bindings_of m.entries) c.pop.new.self.items); lists = n })) (sym c.drop_last.ensures)

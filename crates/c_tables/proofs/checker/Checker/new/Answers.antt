use Rattle.std.proofs.Common.{map}
use Rattle.c_tables.specs.Tables.{types_in, scopes_in, functions_in, statics_in, body_of}
use Rattle.c_tables.proofs.Sights.{all_begins}
use Rattle.c_tables.proofs.checker.Checker.new.Goals as goal

pub returns : goal.returns
returns c =
    all_begins (types_in c.new.result) (scopes_in c.new-scopes.result) (scopes_in c.enter.new.self) (functions_in c.new-2.result) (statics_in c.new-3.result) (body_of c.outside.result) (map (λ name. name.items) c.args.definitions.keys)
    c.new.ensures c.new-scopes.ensures c.in_ok-enter.ensures c.new-2.ensures c.new-3.ensures c.outside.ensures

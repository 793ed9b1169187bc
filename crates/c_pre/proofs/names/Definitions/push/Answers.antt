use Rattle.std.proofs.Common.{arith, rules, ◌≡◌, ◌++◌, ◌∷◌, []}
use Rattle.std.proofs.lemmas.Map.Text.{btree_map_updates_str}
use Rattle.c_pre.proofs.Tables.{still_indexed}
use Rattle.c_pre.proofs.names.Definitions.push.Goals as goal

pub returns-clause-indexed : goal.returns-clause-indexed
returns-clause-indexed c = λ name.
    let more : c.push.new.self.items ≡ c.args.self.now.list.items ++ c.args.definition ∷ [] = search rules in
    still_indexed c.args.self.now.list.items c.push.new.self.items c.args.definition c.len-place.result name _ _ c.requires.is_new more (omega (arith, c.len-place.ensures, c.args.self.now.list.ok.0)) (c.requires.indexed name)
    (btree_map_updates_str c.args.definition.name.now c.args.self.now.places c.insert.new.self _ c.in-Ok.ensures.updates name)

use Rattle.c_check.proofs.Units.{name_added}
use Rattle.c_check.proofs.unit.put_name.Goals as goal

pub returns-clause-ok : goal.returns-clause-ok
returns-clause-ok c = name_added c.args.names.now.keys c.insert_full.new.self.keys c.in_ok-name.name c.args.name.now (c.in_ok-name.ensures.items_if_clones_equal (λ x y h. h)) c.in_ok-insert_full.ensures.keys

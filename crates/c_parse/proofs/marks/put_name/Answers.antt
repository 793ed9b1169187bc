use Rattle.c_parse.proofs.Names.{name_added}
use Rattle.c_parse.proofs.marks.put_name.Goals as goal

pub returns : goal.returns
returns c = name_added c.args.names.now.keys c.insert_full.new.self.keys c.in_ok-name.name c.args.name.now (c.in_ok-name.ensures.items_if_clones_equal (λ x y h. h)) c.in_ok-insert_full.ensures.keys

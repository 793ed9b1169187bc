use Rattle.std.proofs.Common.{◌∙◌, sym}
use Rattle.depth_check.proofs.Entries.{appended}
use Rattle.depth_check.proofs.finish.Numbering.add.Goals as goal

pub returns-in_ok-append-in-None-clause-numbered : goal.returns-in_ok-append-in-None-clause-numbered
returns-in_ok-append-in-None-clause-numbered c = (appended c.args.self.now.list.items c.append.new.self.list.items c.args.self.now.numbers c.append.new.self.numbers c.args.at c.requires.numbered c.requires.below
    (sym c.number.ensures.number ∙ c.in-None.is) c.in_ok-append-in-None.ensures.list c.in_ok-append-in-None.ensures.numbers).2

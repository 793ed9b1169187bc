use Rattle.std.proofs.Common.{sym, subst, replicate, None}
use Rattle.depth_check.specs.Search.{IsNumbered}
use Rattle.depth_check.proofs.Entries.{nothing_numbered}
use Rattle.depth_check.proofs.finish.first_entries.Goals as goal

pub add-requires-clause-numbered : goal.add-requires-clause-numbered
add-requires-clause-numbered c = subst (IsNumbered (replicate 8192 None)) (sym c.new.ensures.items) nothing_numbered

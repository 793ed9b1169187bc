use Rattle.std.proofs.Common.{true}
use Rattle.depth_check.proofs.Settling.{nothing_found}
use Rattle.depth_check.proofs.search.blank.Goals as goal

pub returns-clause-search : goal.returns-clause-search
returns-clause-search c = λ image. nothing_found image c.args.interrupts c.args.cell true c.in_ok-blank_spots.field-0.items c.in_ok-blank_outs.field-0.items c.in_ok-blank_spots.ensures c.in_ok-blank_outs.ensures

use Rattle.std.proofs.Common.{◌≡◌, ◌++◌, drop}
use Rattle.select_wide.specs.Blocks.{views_of}
use Rattle.program_code.specs.Joined.{helpers_from}
use Rattle.picc_core.proofs.joining.put_helpers.Given as goal

abbrev pub invariant-loop-number : goal.invariant-loop-number
invariant-loop-number l = views_of l.blocks.items ++ helpers_from l.number (drop l.number l.list) ≡ views_of l.fn.blocks.items ++ helpers_from 0 l.list

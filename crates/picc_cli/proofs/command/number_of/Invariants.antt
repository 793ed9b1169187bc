use Rattle.std.proofs.Common.{◌≡◌, length}
use Rattle.picc_cli.specs.Command.{number_onto}
use Rattle.picc_cli.proofs.command.number_of.Given as goal

abbrev pub invariant-loop-left : goal.invariant-loop-left
invariant-loop-left l = number_onto l.most l.number l.left ≡ number_onto l.most 0 l.digits

abbrev pub decreases-loop-left : goal.decreases-loop-left
decreases-loop-left l = length l.left

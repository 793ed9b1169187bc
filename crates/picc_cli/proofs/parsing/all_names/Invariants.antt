use Rattle.std.proofs.Common.{◌≡◌, length}
use Rattle.std.specs.List.{list_all}
use Rattle.picc_cli.specs.Command.{is_name, words_of}
use Rattle.picc_cli.proofs.parsing.all_names.Given as goal

abbrev pub invariant-loop-left : goal.invariant-loop-left
invariant-loop-left l = list_all is_name (words_of l.left) ≡ list_all is_name (words_of l.words)

abbrev pub decreases-loop-left : goal.decreases-loop-left
decreases-loop-left l = length l.left

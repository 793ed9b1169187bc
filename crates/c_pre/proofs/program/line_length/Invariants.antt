use Rattle.std.proofs.Common.{◌≡◌, ◌+◌, drop}
use Rattle.c_pre.specs.Items.{line_length}
use Rattle.c_pre.proofs.program.line_length.Given as goal

abbrev pub invariant-loop-i : goal.invariant-loop-i
invariant-loop-i l = line_length l.tokens ≡ l.i + line_length (drop l.i l.tokens)

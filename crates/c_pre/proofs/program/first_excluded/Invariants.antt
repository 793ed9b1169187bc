use Rattle.std.proofs.Common.{◌≡◌, drop}
use Rattle.c_pre.specs.Items.{first_excluded}
use Rattle.c_pre.proofs.program.first_excluded.Given as goal

abbrev pub invariant-loop-token : goal.invariant-loop-token
invariant-loop-token l = first_excluded l.text l.tokens ≡ first_excluded l.text (drop l.token-index l.tokens)

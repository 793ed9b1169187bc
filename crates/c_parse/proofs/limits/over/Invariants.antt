use Rattle.std.proofs.Common.{◌≡◌, ◌≤◌, drop}
use Rattle.c_parse.specs.Limits.{first_over}
use Rattle.c_parse.proofs.limits.over.Given as goal

abbrev pub invariant-loop-tok : goal.invariant-loop-tok
invariant-loop-tok l = (first_over l.counts.brackets l.counts.run (drop l.tok-index l.toks) ≡ first_over 0 0 l.toks) × (l.counts.brackets ≤ 64) × (l.counts.run ≤ 8192)

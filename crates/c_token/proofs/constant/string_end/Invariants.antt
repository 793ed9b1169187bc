use Rattle.std.proofs.Common.{◌≡◌, ◌≤◌, ◌-◌, length, drop}
use Rattle.c_token.specs.Constant.{string_end}
use Rattle.c_token.proofs.Strings.{further}
use Rattle.c_token.proofs.constant.string_end.Given as goal

-- what is left gives the rest of the string
abbrev pub invariant-loop-passed : goal.invariant-loop-passed
invariant-loop-passed l = (l.passed ≤ length l.text) × (string_end 0 l.text ≡ further l.passed (string_end 0 (drop l.passed l.text)))

abbrev pub decreases-loop-passed : goal.decreases-loop-passed
decreases-loop-passed l = length l.text - l.passed

use Rattle.std.proofs.Common.{◌≡◌, drop}
use Rattle.c_token.specs.Constant.{value_in}
use Rattle.c_token.proofs.Values.{value_after}
use Rattle.c_check.proofs.text.code_of.Given as goal

-- the digits that are left go on from the value so far
abbrev pub invariant-loop-digit : goal.invariant-loop-digit
invariant-loop-digit l = value_in l.base l.digits ≡ value_after l.base l.value (drop l.digit-index l.digits)

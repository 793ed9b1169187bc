use Rattle.std.proofs.Common.{◌≡◌, ◌+◌, drop}
use Rattle.std.specs.List.{prefix_len}
use Rattle.c_token.specs.Bytes.{is_digit}
use Rattle.c_check.proofs.text.digits_length.Given as goal

abbrev pub invariant-loop-i : goal.invariant-loop-i
invariant-loop-i l = prefix_len (is_digit l.base) l.text ≡ l.i + prefix_len (is_digit l.base) (drop l.i l.text)

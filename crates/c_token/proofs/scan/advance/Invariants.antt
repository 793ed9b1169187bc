use Rattle.std.proofs.Common.{◌≡◌, ◌≤◌, ◌+◌, ◌-◌, drop}
use Rattle.c_token.specs.Text.{tokens_from}
use Rattle.c_token.proofs.scan.advance.Given as goal

abbrev pub invariant-loop-i : goal.invariant-loop-i
invariant-loop-i l = (l.place.at ≡ l.start.at + l.i) × (l.place.line ≤ l.start.line + l.i) × (tokens_from (drop l.start.at l.text) l.count l.start ≡ tokens_from (drop l.place.at l.text) (l.count - l.i) l.place)

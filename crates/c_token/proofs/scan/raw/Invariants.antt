use Rattle.std.proofs.Common.{◌≡◌, ◌≤◌, ◌+◌, ◌-◌, drop, length}
use Rattle.c_token.specs.Text.{tokens_from, tokens_of, InOrder, LiesIn}
use Rattle.std.specs.Prelude.{All}
use Rattle.c_token.proofs.Passing.{with_tokens}
use Rattle.c_token.proofs.scan.raw.Given as goal

-- the tokens so far and those from the place on are those of the text
abbrev pub invariant-loop-place : goal.invariant-loop-place
invariant-loop-place l = (l.place.at ≤ length l.text) × (l.place.line ≤ l.place.at + 1) × (InOrder 0 l.place.at l.tokens.items) × (All (LiesIn (length l.text)) l.tokens.items) × (tokens_of l.text ≡ with_tokens l.tokens.items (tokens_from (drop l.place.at l.text) 0 l.place))

abbrev pub decreases-loop-place : goal.decreases-loop-place
decreases-loop-place l = length l.text - l.place.at

use Rattle.std.proofs.Common.{◌≡◌, ◌≤◌, ℕ, List, length, map}
use Rattle.c_nodes.specs.Words.{keyed}
use Rattle.parse_expr.specs.Reader.{symbols_in, stars_at}
use Rattle.parse_expr.specs.Parts.{in_front}
use Rattle.parse_expr.proofs.pointer.qualifiers.Given as goal

abbrev pub invariant-loop-word : goal.invariant-loop-word
invariant-loop-word l = ((text : List ℕ) → stars_at (symbols_in text l.toks) ≡ in_front (map keyed l.found.items) (stars_at (symbols_in text l.rest))) × (length l.rest ≤ length l.toks)

abbrev pub decreases-loop-word : goal.decreases-loop-word
decreases-loop-word l = length l.rest

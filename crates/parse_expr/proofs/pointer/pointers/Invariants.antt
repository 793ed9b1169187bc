use Rattle.std.proofs.Common.{◌≡◌, ℕ, List, length}
use Rattle.c_nodes.specs.Words.{spell_pointers}
use Rattle.parse_expr.specs.Reader.{symbols_in, pointers_at}
use Rattle.parse_expr.specs.Parts.{in_front}
use Rattle.parse_expr.proofs.pointer.pointers.Given as goal

abbrev pub invariant-loop-star : goal.invariant-loop-star
invariant-loop-star l = (text : List ℕ) → pointers_at (symbols_in text l.toks) ≡ in_front (spell_pointers l.found.items) (pointers_at (symbols_in text l.rest))

abbrev pub decreases-loop-star : goal.decreases-loop-star
decreases-loop-star l = length l.rest

use Rattle.std.proofs.Common.{◌≡◌, ◌+◌, ◌<◌, ◌^◌, drop}
use Rattle.c_typed.specs.Nodes.{capped}
use Rattle.c_typed.specs.Words.{cases_words}
use Rattle.ram_place.proofs.words.cases_words.Given as goal

abbrev pub invariant-loop-case : goal.invariant-loop-case
invariant-loop-case l = (l.sum < 2 ^ 64) × (capped (l.sum + cases_words l.bytes (drop l._case-index l.cases)) ≡ capped (cases_words l.bytes l.cases))

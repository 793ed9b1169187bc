use Rattle.std.proofs.Common.{◌≡◌, ◌+◌, ◌<◌, ◌^◌, drop, map}
use Rattle.c_typed.specs.Nodes.{capped}
use Rattle.c_typed.specs.Views.{size_of, variable_of}
use Rattle.c_typed.specs.Words.{variable_bytes}
use Rattle.ram_place.proofs.WordLists.{statements_words_in, arms_words_in}
use Rattle.ram_place.proofs.words.+statement_words.Given as goal

abbrev pub invariant-statements_words-loop-statement : goal.invariant-statements_words-loop-statement
invariant-statements_words-loop-statement l = (l.sum < 2 ^ 64) × (capped (l.sum + statements_words_in (map size_of l.structures) (map (variable_bytes (map size_of l.structures)) (map variable_of l.locals)) (drop l.statement-index l.statements)) ≡ capped (statements_words_in (map size_of l.structures) (map (variable_bytes (map size_of l.structures)) (map variable_of l.locals)) l.statements))

abbrev pub invariant-arms_words-loop-arm : goal.invariant-arms_words-loop-arm
invariant-arms_words-loop-arm l = (l.sum < 2 ^ 64) × (capped (l.sum + arms_words_in (map size_of l.structures) (map (variable_bytes (map size_of l.structures)) (map variable_of l.locals)) (drop l.arm-index l.arms)) ≡ capped (arms_words_in (map size_of l.structures) (map (variable_bytes (map size_of l.structures)) (map variable_of l.locals)) l.arms))

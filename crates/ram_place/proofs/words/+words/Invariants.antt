use Rattle.std.proofs.Common.{◌≡◌, ◌+◌, ◌<◌, ◌^◌, drop, map}
use Rattle.c_typed.specs.Nodes.{capped}
use Rattle.c_typed.specs.Views.{size_of}
use Rattle.ram_place.proofs.WordLists.{arguments_words_in}
use Rattle.ram_place.proofs.words.+words.Given as goal

abbrev pub invariant-arguments_words-loop-argument : goal.invariant-arguments_words-loop-argument
invariant-arguments_words-loop-argument l = (l.sum < 2 ^ 64) × (capped (l.sum + arguments_words_in (map size_of l.structures) (drop l.argument-index l.arguments)) ≡ capped (arguments_words_in (map size_of l.structures) l.arguments))

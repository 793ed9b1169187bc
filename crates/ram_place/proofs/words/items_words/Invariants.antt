use Rattle.std.proofs.Common.{◌≡◌, ◌+◌, ◌<◌, ◌^◌, drop, map}
use Rattle.c_typed.specs.Nodes.{capped}
use Rattle.c_typed.specs.Views.{size_of}
use Rattle.ram_place.proofs.WordLists.{items_words_in}
use Rattle.ram_place.proofs.words.items_words.Given as goal

abbrev pub invariant-loop-item : goal.invariant-loop-item
invariant-loop-item l = (l.sum < 2 ^ 64) × (capped (l.sum + items_words_in (map size_of l.structures) (drop l.item-index l.items)) ≡ capped (items_words_in (map size_of l.structures) l.items))

use Rattle.std.proofs.Common.{◌≡◌, map, take}
use Rattle.c_typed.specs.Chains.{number_of}
use Rattle.call_graph.proofs.graph.numbers_of.Given as goal

abbrev pub invariant-loop-id : goal.invariant-loop-id
invariant-loop-id l = l.numbers.items ≡ map (number_of l.functions) (take l.id-index l.ids)

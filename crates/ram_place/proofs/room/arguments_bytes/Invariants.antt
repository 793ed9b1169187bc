use Rattle.std.proofs.Common.{◌≡◌, ◌+◌, ◌<◌, ◌^◌, drop, map}
use Rattle.c_typed.specs.Nodes.{capped}
use Rattle.c_typed.specs.Views.{size_of}
use Rattle.ram_place.proofs.Arguments.{bytes_in}
use Rattle.ram_place.proofs.room.arguments_bytes.Given as goal

abbrev pub invariant-loop-argument : goal.invariant-loop-argument
invariant-loop-argument l = (l.bytes < 2 ^ 64) × (capped (l.bytes + bytes_in (map size_of l.structures) (drop l.argument-index l.arguments)) ≡ capped (bytes_in (map size_of l.structures) l.arguments))

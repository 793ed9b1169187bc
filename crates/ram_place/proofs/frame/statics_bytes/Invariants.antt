use Rattle.std.proofs.Common.{◌≡◌, ◌+◌, ◌<◌, ◌^◌, map}
use Rattle.c_typed.specs.Nodes.{capped}
use Rattle.c_typed.specs.Views.{size_of}
use Rattle.ram_place.proofs.Remaining.{bytes_left}
use Rattle.ram_place.proofs.frame.statics_bytes.Given as goal

abbrev pub invariant-loop-number : goal.invariant-loop-number
invariant-loop-number l = (l.sum < 2 ^ 64) × (capped (l.sum + bytes_left (map size_of l.structures) l.without l.statics l.number) ≡ capped (bytes_left (map size_of l.structures) l.without l.statics 0))

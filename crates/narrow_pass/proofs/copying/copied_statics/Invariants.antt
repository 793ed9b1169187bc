use Rattle.std.proofs.Common.{◌≡◌, map, take}
use Rattle.narrow_pass.specs.Narrowed.{items_of}
use Rattle.narrow_pass.proofs.copying.copied_statics.Given as goal

abbrev pub invariant-loop-bytes : goal.invariant-loop-bytes
invariant-loop-bytes l = map items_of l.made.items ≡ map items_of (take l.bytes-index l.statics)

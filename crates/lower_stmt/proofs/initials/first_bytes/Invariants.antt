use Rattle.std.proofs.Common.{◌≡◌, ◌++◌, drop, map}
use Rattle.c_typed.specs.Views.{static_of, size_of}
use Rattle.lower_stmt.specs.FirstBytes.{items_of, static_bytes}
use Rattle.lower_stmt.proofs.initials.first_bytes.Given as goal

abbrev pub invariant-loop-object : goal.invariant-loop-object
invariant-loop-object l = map items_of l.statics.items ++ map (static_bytes (map size_of l.p.structures.items)) (map static_of (drop l.object-index l.p.statics.items)) ≡ map (static_bytes (map size_of l.p.structures.items)) (map static_of l.p.statics.items)

use Rattle.std.proofs.Common.{◌≡◌, map, take}
use Rattle.c_typed.specs.Trees.{StaticTree}
use Rattle.c_typed.specs.Views.{program_of, static_of}
use Rattle.vol_opt.specs.Kept.{is_volatile}
use Rattle.vol_opt.proofs.volatile.volatile_statics.Given as goal

abbrev pub invariant-loop-object : goal.invariant-loop-object
invariant-loop-object l = l.marks.items ≡ map (λ (s : StaticTree). is_volatile (program_of l.p) s.ty) (map static_of (take l.object-index l.p.statics.items))

use Rattle.std.proofs.Common.{◌≡◌, drop}
use Rattle.vol_opt.specs.Marks.{marked}
use Rattle.vol_opt.specs.Kept.{first_addresses}
use Rattle.vol_opt.proofs.keeping.mark_first_bytes.Given as goal

abbrev pub invariant-loop-first : goal.invariant-loop-first
invariant-loop-first l = marked l.marks.items (first_addresses (drop l.first-index l.bytes)) ≡ marked l.fn.marks.items (first_addresses l.bytes)

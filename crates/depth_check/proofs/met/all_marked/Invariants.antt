use Rattle.std.proofs.Common.{◌≡◌, drop}
use Rattle.std.specs.List.{list_all}
use Rattle.depth_check.specs.Marks.{is_marked}
use Rattle.depth_check.proofs.met.all_marked.Given as goal

abbrev pub invariant-loop-row : goal.invariant-loop-row
invariant-loop-row l = list_all (λ r. is_marked l.met r.at) (drop l.row-index l.rows) ≡ list_all (λ r. is_marked l.met r.at) l.rows

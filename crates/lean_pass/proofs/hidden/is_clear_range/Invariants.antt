use Rattle.lean_code.specs.Clear.{IsClearRange}
use Rattle.lean_pass.specs.Views.{hidden_by}
use Rattle.lean_pass.proofs.hidden.is_clear_range.Given as goal

abbrev pub invariant-loop-offset : goal.invariant-loop-offset
invariant-loop-offset l = IsClearRange (hidden_by l.hidden) l.address l.offset

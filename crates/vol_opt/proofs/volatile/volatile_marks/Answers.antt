use Rattle.std.proofs.Common.{◌+◌, ◌∙◌, arith}
use Rattle.c_typed.specs.Views.{program_of}
use Rattle.vol_opt.proofs.Rows.{next_targets, next_structures}
use Rattle.vol_opt.proofs.volatile.volatile_marks.Goals as goal

pub loop-level-preserved : goal.loop-level-preserved
loop-level-preserved c =
    let p = program_of c.args.p.now in
    let k = c.loop-level._level in
    let t = c.loop-level.invariant.0 in
    let s = c.loop-level.invariant.1 in (
      c.in_ok-marks-2.ensures.targets ∙ next_targets p k _ _ t s (k + 1) (omega arith),
      c.in_ok-marks-2.ensures.structures ∙ next_structures p k _ _ t s (k + 1) (omega arith),
    )

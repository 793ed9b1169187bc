use Rattle.std.proofs.Common.{ℕ, ap, ◌∙◌, arith}
use Rattle.std.specs.Global.{Global}
use Rattle.std.specs.declared.vec.Vec.{Vec}
use Rattle.call_graph.proofs.Turns.{below_push, below_skip, below_all}
use Rattle.call_graph.proofs.levels.numbers_at.Goals as goal
use Rattle.call_graph.proofs.levels.numbers_at.Goals.{then-is_level+in_ok-push, else-is_level}

pub loop-number-preserved : goal.loop-number-preserved
loop-number-preserved c = elim c.if-is_level.branch [
  | then-is_level+in_ok-push w ↦ below_push c.args.levels.now c.args.level c.loop-number.number c.loop-number.numbers.items c.if-is_level.numbers.items c.loop-number.invariant (ap (λ (v : Vec ℕ Global). v.items) w.numbers-is ∙ w.in_ok-push.ensures.items) w.if-is_level.ensures.told
  | else-is_level w ↦ below_skip c.args.levels.now c.args.level c.loop-number.number c.loop-number.numbers.items c.if-is_level.numbers.items c.loop-number.invariant (ap (λ (v : Vec ℕ Global). v.items) w.numbers-is) w.if-is_level.ensures.told
]

pub returns : goal.returns
returns c = below_all c.args.levels.now c.args.level c.loop-number.number c.loop-number.numbers.items (omega arith) c.loop-number.invariant

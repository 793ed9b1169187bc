use Rattle.std.proofs.Common.{refl, arith}
use Rattle.narrow_pass.specs.Ways.{marks_of}
use Rattle.narrow_pass.proofs.Lists.{all_passed}
use Rattle.narrow_pass.proofs.marks.put_nowhere.Goals as goal

pub returns : goal.returns
returns c =
    all_passed c.args.here.now.items (marks_of c.args.here.now.items) (marks_of c.loop-k.here.items) c.loop-k.k refl
    (omega (arith, c.loop-k-test.false, c.loop-k.auto.k-end, c.len-k-end.ensures, c.args.here.now.ok.0)) c.loop-k.invariant

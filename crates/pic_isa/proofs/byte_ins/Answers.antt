use Rattle.std.proofs.Common.{◌≡◌, ◌/◌, arith, refl}
use Rattle.pic_isa.proofs.byte_ins.Goals as goal

pub returns-in-2-clause-same : goal.returns-in-2-clause-same
returns-in-2-clause-same c = let e : c.args.word / 256 ≡ 2 = omega arith in rw e refl

pub returns-in_default-clause-same : goal.returns-in_default-clause-same
returns-in_default-clause-same c = let e : c.args.word / 256 ≡ 15 = omega arith in rw e refl

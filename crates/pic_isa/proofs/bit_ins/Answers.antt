use Rattle.std.proofs.Common.{◌≡◌, ◌/◌, ◌%◌, arith, refl}
use Rattle.pic_isa.proofs.bit_ins.Goals as goal

pub returns-in-2-clause-same : goal.returns-in-2-clause-same
returns-in-2-clause-same c = let e : c.args.word / 1024 % 4 ≡ 2 = omega arith in rw e refl

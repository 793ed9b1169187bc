use Rattle.std.proofs.Common.{map, arith}
use Rattle.c_typed.specs.Views.{size_of}
use Rattle.ram_place.proofs.Remaining.{bytes_more, bytes_all}
use Rattle.ram_place.proofs.frame.statics_bytes.Goals as goal

pub loop-number-preserved : goal.loop-number-preserved
loop-number-preserved c =
    bytes_more (map size_of c.args.structures.now) c.args.without.now c.args.statics.now c.loop-number.number c.index-statics-number.result _ _ _ _ c.loop-number-test.true c.index-statics-number.is c.bytes_kept.ensures
    c.plus-sum.ensures c.plus-sum.type_inv c.loop-number.invariant

pub returns : goal.returns
returns c = bytes_all (map size_of c.args.structures.now) c.args.without.now c.args.statics.now c.loop-number.number _ _ (omega (arith, c.loop-number-test.false)) c.loop-number.invariant

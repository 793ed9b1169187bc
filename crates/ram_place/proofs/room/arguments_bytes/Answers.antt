use Rattle.std.proofs.Common.{map, arith}
use Rattle.c_typed.specs.Views.{size_of}
use Rattle.ram_place.proofs.Arguments.{bytes_in, expression_bytes, bytes_none, bytes_more}
use Rattle.ram_place.proofs.Loops.{adds, all_added}
use Rattle.ram_place.proofs.room.arguments_bytes.Goals as goal

pub loop-argument-preserved : goal.loop-argument-preserved
loop-argument-preserved c = adds (expression_bytes (map size_of c.args.structures.now)) (bytes_in (map size_of c.args.structures.now)) (bytes_more (map size_of c.args.structures.now)) _ _ c.argument-item.result _ _ _ _ c.loop-argument-test.true c.argument-item.is (omega (arith, c.value_bytes.ensures, c.value_bytes.type_inv)) c.plus-bytes.ensures c.plus-bytes.type_inv c.loop-argument.invariant

pub returns : goal.returns
returns c = all_added (bytes_in (map size_of c.args.structures.now)) (bytes_none (map size_of c.args.structures.now)) _ _ _ _ c.loop-argument-test.false c.loop-argument.invariant

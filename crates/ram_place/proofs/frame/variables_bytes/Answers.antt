use Rattle.std.proofs.Common.{map, arith}
use Rattle.c_typed.specs.Views.{size_of}
use Rattle.ram_place.proofs.Loops.{adds, all_added}
use Rattle.ram_place.proofs.Variables.{variable_bytes_in, variables_bytes_in, variables_bytes_none, variables_bytes_more}
use Rattle.ram_place.proofs.frame.variables_bytes.Goals as goal

pub loop-variable-preserved : goal.loop-variable-preserved
loop-variable-preserved c = adds (variable_bytes_in (map size_of c.args.structures.now)) (variables_bytes_in (map size_of c.args.structures.now)) (variables_bytes_more (map size_of c.args.structures.now)) _ _ c.variable-item.result _ _ _ _ c.loop-variable-test.true c.variable-item.is (omega (arith, c.bytes_of.ensures, c.bytes_of.type_inv)) c.plus-sum.ensures c.plus-sum.type_inv c.loop-variable.invariant

pub returns : goal.returns
returns c = all_added (variables_bytes_in (map size_of c.args.structures.now)) (variables_bytes_none (map size_of c.args.structures.now)) _ _ _ _ c.loop-variable-test.false c.loop-variable.invariant

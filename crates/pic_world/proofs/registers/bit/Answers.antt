use Rattle.std.proofs.Common.{◌<◌, IsTrue, IfSome, subst, sym}
use Rattle.pic_world.specs.Registers.{is_register}
use Rattle.pic_world.proofs.NameTables.{bit_place, bit_register}
use Rattle.pic_world.proofs.registers.bit.Goals as goal

pub returns-clause-place : goal.returns-clause-place
returns-clause-place c = subst (λ r. IfSome r (λ bit. bit.1 < 8)) (sym c.find_bit.ensures) (bit_place c.args.name.now)

pub returns-clause-register : goal.returns-clause-register
returns-clause-register c = subst (λ r. IfSome r (λ bit. IsTrue (is_register bit.0))) (sym c.find_bit.ensures) (bit_register c.args.name.now)

use Rattle.std.proofs.Common.{◌≡◌, Some, IfSome, subst, sym}
use Rattle.pic_world.specs.Registers.{name_at}
use Rattle.pic_world.proofs.NameTables.{named_back}
use Rattle.pic_world.proofs.registers.register.Goals as goal

pub returns-clause-back : goal.returns-clause-back
returns-clause-back c = subst (λ r. IfSome r (λ address. name_at address ≡ Some c.args.name.now)) (sym c.find_register.ensures) (named_back c.args.name.now)

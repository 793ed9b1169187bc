use Rattle.std.proofs.Common.{◌≡◌, ℕ, List, Option, Some, None, IfSome, MatchOption, subst, Bor}
use Rattle.pic_world.specs.Registers.{name_at, register_named}
use Rattle.pic_world.proofs.NameTables.{name_back}
use Rattle.pic_world.proofs.registers.register_name.Goals as goal

back_of : (found : Option (Bor (List ℕ))) (there : Option (List ℕ)) (P : List ℕ → Type 0) → MatchOption found (there ≡ None) (λ name. there ≡ Some name.now) → IfSome there P → IfSome found (λ name. P name.now)
back_of (Some name) there P is holds = subst (λ o. IfSome o P) is holds
back_of None there P is holds = tt

pub returns-clause-back : goal.returns-clause-back
returns-clause-back c = back_of c.find_name.result (name_at c.args.address) (λ name. register_named name ≡ Some c.args.address) c.find_name.ensures (name_back c.args.address)

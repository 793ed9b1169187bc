use Rattle.std.proofs.Common.{ap}
use Rattle.std.proofs.lemmas.Result.{err_from_is_err_and}
use Rattle.type_rules.specs.Faults as kind
use Rattle.type_rules.specs.Known.{broken, go_on}
use Rattle.c_tables.specs.Tables.{known_of}
use Rattle.c_check.proofs.Lists.{passes_on}
use Rattle.c_check.proofs.unit.refuse_object.Goals as goal

pub returns-in_err-refuse_again : goal.returns-in_err-refuse_again
returns-in_err-refuse_again c =
    let p = err_from_is_err_and c.from_residual.result c.from_residual.ensures.1 in
    rw (p.1, p.2) (passes_on (λ _. broken kind.Declare c.args.line) _ _ (c.in_err-refuse_again.ensures (known_of c.args.checker.now)))

pub returns : goal.returns
returns c = rw c.refused.ensures (ap (go_on (λ _. broken kind.Declare c.args.line)) (c.in_ok-refuse_again.ensures (known_of c.args.checker.now)))

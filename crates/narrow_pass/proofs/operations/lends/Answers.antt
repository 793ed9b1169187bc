use Rattle.narrow_code.specs.Links.{is_lent}
use Rattle.narrow_pass.specs.Narrowed.{lent_by}
use Rattle.narrow_pass.proofs.Others.{lends_nothing}
use Rattle.narrow_pass.proofs.operations.lends.Goals as goal

pub returns-in_default : goal.returns-in_default
returns-in_default c = let no = c.in_default in record {
  lent = λ is. lends_nothing c.args.c.now no.not-Address no.not-Many no.not-If no.not-Loop (is_lent (lent_by c.args.lent.now));
}

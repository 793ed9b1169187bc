use Rattle.narrow_code.proofs.Lending as lending
use Rattle.narrow_code.proofs.leads_only.Goals as goal

pub returns : goal.returns
returns c = lending.leads_only

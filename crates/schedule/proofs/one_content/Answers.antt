use Rattle.schedule.proofs.FileLaws.{one_only}
use Rattle.schedule.proofs.one_content.Goals as goal

pub returns : goal.returns
returns c = one_only

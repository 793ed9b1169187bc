use Rattle.kept_layout.proofs.Laid.{laid_out}
use Rattle.kept_layout.proofs.kept_layout_is_laid_out.Goals as goal

pub returns : goal.returns
returns c = laid_out

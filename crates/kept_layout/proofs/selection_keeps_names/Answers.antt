use Rattle.kept_layout.proofs.Selection.{selection_keeps}
use Rattle.kept_layout.proofs.selection_keeps_names.Goals as goal

pub returns : goal.returns
returns c = selection_keeps

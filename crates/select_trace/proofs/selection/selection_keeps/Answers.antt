use Rattle.select_trace.proofs.Whole.{selection_law, open_law}
use Rattle.select_trace.proofs.selection.selection_keeps.Goals as goal

pub returns : goal.returns
returns c = record { keeps = selection_law; opens = open_law }

use Rattle.program_code.proofs.LeanerBlocks as whole
use Rattle.program_code.proofs.leaner.blocks_are_leaner.Goals as goal

pub returns : goal.returns
returns c = whole.blocks_are_leaner

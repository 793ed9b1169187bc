use Rattle.vol_opt.proofs.Chains.{any_chain}
use Rattle.vol_opt.proofs.Levels.{any_depth}
use Rattle.vol_opt.proofs.nothing_is_missed.Goals as goal

pub returns-clause-depth : goal.returns-clause-depth
returns-clause-depth c = any_depth

pub returns-clause-chains : goal.returns-clause-chains
returns-clause-chains c = any_chain

use Rattle.bank_trace.proofs.LeanBlocks as blocks
use Rattle.bank_trace.proofs.lean_prices.lean_blocks_are_priced.Goals as goal

pub returns-clause-dear : goal.returns-clause-dear
returns-clause-dear c = blocks.lean_blocks_are_dear

pub returns-clause-priced : goal.returns-clause-priced
returns-clause-priced c = blocks.lean_routines_are_priced

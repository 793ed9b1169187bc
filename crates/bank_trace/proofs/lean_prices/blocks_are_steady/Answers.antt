use Rattle.bank_trace.proofs.LeanNames as named
use Rattle.bank_trace.proofs.lean_prices.blocks_are_steady.Goals as goal

pub returns : goal.returns
returns c = named.blocks_are_steady

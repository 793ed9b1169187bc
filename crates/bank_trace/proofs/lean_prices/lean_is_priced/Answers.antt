use Rattle.bank_trace.proofs.LeanWhole as whole
use Rattle.bank_trace.proofs.lean_prices.lean_is_priced.Goals as goal

pub returns-clause-dear : goal.returns-clause-dear
returns-clause-dear c = whole.lean_is_dear

pub returns-clause-priced : goal.returns-clause-priced
returns-clause-priced c = whole.lean_is_priced

use Rattle.bank_trace.proofs.Cheaper.{cheaper_is_dear, cheaper_is_priced}
use Rattle.bank_trace.proofs.select_prices.cheaper_stays.Goals as goal

pub returns-clause-dear : goal.returns-clause-dear
returns-clause-dear c = cheaper_is_dear

pub returns-clause-priced : goal.returns-clause-priced
returns-clause-priced c = cheaper_is_priced

use Rattle.src_rules.proofs.Changes.{trace_grows, events_count, arrivals_once}
use Rattle.src_rules.proofs.steps_change.Goals as goal

pub returns-clause-trace : goal.returns-clause-trace
returns-clause-trace c = trace_grows

pub returns-clause-events : goal.returns-clause-events
returns-clause-events c = events_count

pub returns-clause-arrivals : goal.returns-clause-arrivals
returns-clause-arrivals c = arrivals_once

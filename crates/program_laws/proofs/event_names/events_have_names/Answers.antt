use Rattle.program_laws.proofs.EventSteps.{step_named}
use Rattle.program_laws.proofs.Traces.{taken_named, traces_named}
use Rattle.program_laws.proofs.event_names.events_have_names.Goals as goal

pub returns-clause-steps : goal.returns-clause-steps
returns-clause-steps c = step_named

pub returns-clause-taken : goal.returns-clause-taken
returns-clause-taken c = taken_named

pub returns-clause-traces : goal.returns-clause-traces
returns-clause-traces c = traces_named

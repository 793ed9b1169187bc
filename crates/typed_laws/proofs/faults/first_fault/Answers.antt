use Rattle.typed_laws.proofs.FirstFaults as faults
use Rattle.typed_laws.proofs.faults.first_fault.Goals as goal

pub returns : goal.returns
returns c = record { first = faults.first_fault }

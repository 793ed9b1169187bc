use Rattle.source_room.proofs.Chains.{within_depth}
use Rattle.source_room.proofs.Shallow.{shallow}
use Rattle.source_room.proofs.Ways.{within_ways}
use Rattle.source_room.proofs.stack_is_shallow.Goals as goal

pub returns-clause-shallow : goal.returns-clause-shallow
returns-clause-shallow c = shallow

pub returns-clause-ways : goal.returns-clause-ways
returns-clause-ways c = within_ways

pub returns-clause-depth : goal.returns-clause-depth
returns-clause-depth c = within_depth

use Rattle.program_code.proofs.AllSkips.{bodies_are_paired, routines_are_paired, start_is_paired, paired_is_ready, blocks_can_select}
use Rattle.program_code.proofs.paired_skips.skips_are_paired.Goals as goal

pub returns-clause-bodies : goal.returns-clause-bodies
returns-clause-bodies c = bodies_are_paired

pub returns-clause-routines : goal.returns-clause-routines
returns-clause-routines c = routines_are_paired

pub returns-clause-start : goal.returns-clause-start
returns-clause-start c = start_is_paired

pub returns-clause-ready : goal.returns-clause-ready
returns-clause-ready c = paired_is_ready

pub returns-clause-blocks : goal.returns-clause-blocks
returns-clause-blocks c = blocks_can_select

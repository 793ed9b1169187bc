use Rattle.lean_code.proofs.Shrinking as shrinking
use Rattle.lean_code.proofs.rows_shrink.Goals as goal

pub returns-clause-shorter : goal.returns-clause-shorter
returns-clause-shorter c = shrinking.rows_shrink

pub returns-clause-kept : goal.returns-clause-kept
returns-clause-kept c = shrinking.rows_keep

pub returns-clause-bytes : goal.returns-clause-bytes
returns-clause-bytes c = shrinking.bytes_keep

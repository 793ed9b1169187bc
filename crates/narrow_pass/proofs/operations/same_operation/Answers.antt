use Rattle.narrow_pass.proofs.Others.{has_parts}
use Rattle.narrow_pass.proofs.operations.same_operation.Goals as goal

pub returns-in_default-clause-there : goal.returns-in_default-clause-there
returns-in_default-clause-there c = let no = c.in_default in
    has_parts c.args.c.now no.not-Set no.not-Address no.not-Copy no.not-Load no.not-Store no.not-Unary no.not-Binary no.not-Convert no.not-BitRead no.not-BitWrite no.not-Call no.not-Leave no.not-Exit no.not-Again

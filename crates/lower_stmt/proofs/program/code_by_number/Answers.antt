use Rattle.lower_stmt.proofs.Sizes.{body_is_small}
use Rattle.lower_stmt.proofs.program.code_by_number.Goals as goal

pub code_of-requires-clause-small : goal.code_of-requires-clause-small
code_of-requires-clause-small c = body_is_small c.args.p.now c.deref.result.now c.args.function c.in-Some.function.now c.deref.ensures.value c.in-Some.ensures.lookup.3.0 c.in-Some.ensures.lookup.1

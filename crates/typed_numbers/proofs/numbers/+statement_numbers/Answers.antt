use Rattle.typed_numbers.proofs.Gathered.{AllArms, AllStatements, OneArm, OneStatement, all_gathered, gathered, one_arm, one_statement}
use Rattle.typed_numbers.proofs.numbers.+statement_numbers.Goals as goal

pub see_statements-loop-statement-preserved : goal.see_statements-loop-statement-preserved
see_statements-loop-statement-preserved t c = gathered OneStatement AllStatements one_statement _ _ c.statement-item.result c.loop-statement-test.true c.statement-item.is c.see_statement.ensures c.loop-statement.invariant

pub see_statements-returns : goal.see_statements-returns
see_statements-returns t c = all_gathered AllStatements tt _ _ c.loop-statement-test.false c.loop-statement.invariant

pub see_arms-loop-arm-preserved : goal.see_arms-loop-arm-preserved
see_arms-loop-arm-preserved t c = gathered OneArm AllArms one_arm _ _ c.arm-item.result c.loop-arm-test.true c.arm-item.is c.see_arm.ensures c.loop-arm.invariant

pub see_arms-returns : goal.see_arms-returns
see_arms-returns t c = all_gathered AllArms tt _ _ c.loop-arm-test.false c.loop-arm.invariant

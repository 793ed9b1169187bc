use Rattle.std.proofs.Common.{drop}
use Rattle.typed_numbers.proofs.Gathered.{AllArms, AllStatements}
use Rattle.typed_numbers.proofs.numbers.+statement_numbers.Given as goal

abbrev pub invariant-see_statements-loop-statement : goal.invariant-see_statements-loop-statement
invariant-see_statements-loop-statement l = AllStatements (drop l.statement-index l.statements) → AllStatements l.statements

abbrev pub invariant-see_arms-loop-arm : goal.invariant-see_arms-loop-arm
invariant-see_arms-loop-arm l = AllArms (drop l.arm-index l.arms) → AllArms l.arms

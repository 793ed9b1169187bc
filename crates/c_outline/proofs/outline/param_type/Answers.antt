use Rattle.std.proofs.Common.{sym, ap}
use Rattle.c_tables.specs.Tables.{known_of}
use Rattle.type_rules.specs.Outlines.{is_function}
use Rattle.c_outline.specs.Views.{declared_of, outline_of}
use Rattle.c_outline.proofs.Outlining.{param_again, param_function, param_bad, param_incomplete, param_good}
use Rattle.c_outline.proofs.outline.param_type.Goals as goal

pub returns-then-is_again-clause-tests : goal.returns-then-is_again-clause-tests
returns-then-is_again-clause-tests c = rw c.refused.ensures (param_again (known_of c.args.checker.now) c.args.name.now (outline_of c.args.outline.now) c.args.line (sym (c.if-is_again.ensures (known_of c.args.checker.now))))

pub returns-in_default-clause-tests : goal.returns-in_default-clause-tests
returns-in_default-clause-tests c = rw c.refused-in_default.ensures (param_function (known_of c.args.checker.now) c.args.name.now (outline_of c.args.outline.now) c.args.line (sym (c.if-is_again.ensures (known_of c.args.checker.now))) (ap (λ d. is_function (declared_of d)) c.in_default.is))

pub returns-then-either-clause-tests : goal.returns-then-either-clause-tests
returns-then-either-clause-tests c = rw c.refused-then-either.ensures (param_bad (known_of c.args.checker.now) c.args.name.now (outline_of c.args.outline.now) c.in-Object.ty c.args.line (sym (c.if-is_again.ensures (known_of c.args.checker.now))) (ap declared_of c.in-Object.is) (sym (rw c.is_structure.ensures at c.if-either.ensures)))

pub returns-then-either-2-clause-tests : goal.returns-then-either-2-clause-tests
returns-then-either-2-clause-tests c = rw c.refused-then-either-2.ensures (param_incomplete (known_of c.args.checker.now) c.args.name.now (outline_of c.args.outline.now) c.in-Object.ty c.args.line (sym (c.if-is_again.ensures (known_of c.args.checker.now))) (ap declared_of c.in-Object.is) (sym (rw c.is_structure.ensures at c.if-either.ensures)) (sym (rw (c.is_waiting.ensures, c.is_complete.ensures (known_of c.args.checker.now)) at c.if-either-2.ensures)))

pub returns-clause-tests : goal.returns-clause-tests
returns-clause-tests c = param_good (known_of c.args.checker.now) c.args.name.now (outline_of c.args.outline.now) c.in-Object.ty c.args.line (sym (c.if-is_again.ensures (known_of c.args.checker.now))) (ap declared_of c.in-Object.is) (sym (rw c.is_structure.ensures at c.if-either.ensures)) (sym (rw (c.is_waiting.ensures, c.is_complete.ensures (known_of c.args.checker.now)) at c.if-either-2.ensures))

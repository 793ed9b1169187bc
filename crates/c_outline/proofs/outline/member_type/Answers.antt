use Rattle.std.proofs.Common.{sym, ap}
use Rattle.c_tables.specs.Tables.{types_in}
use Rattle.type_rules.specs.Outlines.{is_function}
use Rattle.c_outline.specs.Views.{declared_of, outline_of}
use Rattle.c_outline.proofs.Outlining.{member_again, member_function, member_bad, member_incomplete, member_good}
use Rattle.c_outline.proofs.outline.member_type.Goals as goal

pub returns-then-has_member-clause-tests : goal.returns-then-has_member-clause-tests
returns-then-has_member-clause-tests c known = rw c.refused.ensures (member_again (types_in c.args.types.now known) c.args.structure c.args.name.now (outline_of c.args.outline.now) c.args.line (sym (c.if-has_member.ensures known)))

pub returns-in_default-clause-tests : goal.returns-in_default-clause-tests
returns-in_default-clause-tests c known = rw c.refused-in_default.ensures (member_function (types_in c.args.types.now known) c.args.structure c.args.name.now (outline_of c.args.outline.now) c.args.line (sym (c.if-has_member.ensures known)) (ap (λ d. is_function (declared_of d)) c.in_default.is))

pub returns-then-either-clause-tests : goal.returns-then-either-clause-tests
returns-then-either-clause-tests c known = rw c.refused-then-either.ensures (member_bad (types_in c.args.types.now known) c.args.structure c.args.name.now (outline_of c.args.outline.now) c.in-Object.ty c.args.line (sym (c.if-has_member.ensures known)) (ap declared_of c.in-Object.is) (sym c.if-either.ensures))

pub returns-then-either-2-clause-tests : goal.returns-then-either-2-clause-tests
returns-then-either-2-clause-tests c known = rw c.refused-then-either-2.ensures (member_incomplete (types_in c.args.types.now known) c.args.structure c.args.name.now (outline_of c.args.outline.now) c.in-Object.ty c.args.line (sym (c.if-has_member.ensures known)) (ap declared_of c.in-Object.is) (sym c.if-either.ensures) (sym (rw (c.is_waiting.ensures, c.is_complete.ensures known) at c.if-either-2.ensures)))

pub returns-clause-tests : goal.returns-clause-tests
returns-clause-tests c known = member_good (types_in c.args.types.now known) c.args.structure c.args.name.now (outline_of c.args.outline.now) c.in-Object.ty c.args.line (sym (c.if-has_member.ensures known)) (ap declared_of c.in-Object.is) (sym c.if-either.ensures) (sym (rw (c.is_waiting.ensures, c.is_complete.ensures known) at c.if-either-2.ensures))

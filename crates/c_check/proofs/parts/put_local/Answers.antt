use Rattle.std.proofs.Common.{sym, subst}
use Rattle.type_rules.specs.Slots as rule
use Rattle.c_tables.specs.Answers.{Answers}
use Rattle.c_tables.specs.Tables.{known_of}
use Rattle.c_terms.specs.Terms.{operand_of}
use Rattle.c_outline.specs.Slots.{begun_of, slot_of}
use Rattle.c_check.proofs.parts.put_local.Goals as goal

pub returns-in-Struct : goal.returns-in-Struct
returns-in-Struct c =
    let known = known_of c.args.checker.now in
    subst (λ t. Answers (λ _. begun_of c.put_structure.new.sink) c.put_structure.result known (rule.begin_local t (slot_of c.args.slot) (operand_of c.args.operand) c.args.line (begun_of c.args.sink.now) known)) (sym c.in-Struct.is) (c.put_structure.ensures known)

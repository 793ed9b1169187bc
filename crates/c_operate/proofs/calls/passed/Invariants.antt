use Rattle.std.proofs.Common.{◌≡◌, length, map}
use Rattle.std.specs.Vec.Iter.{into_iter_items, into_iter_len}
use Rattle.c_typed.specs.Views.{expression_of}
use Rattle.type_rules.specs.Known.{Known}
use Rattle.type_rules.specs.Writes as rule
use Rattle.c_tables.specs.Tables.{types_in}
use Rattle.c_terms.specs.Terms.{operand_of}
use Rattle.c_operate.proofs.CallSteps.{behind}
use Rattle.c_operate.proofs.calls.passed.Given as goal

abbrev pub invariant-loop-ty : goal.invariant-loop-ty
invariant-loop-ty l = record {
  so_far : (known : Known) → rule.passed (map operand_of l.fn.arguments.items) l.params l.line (types_in l.types known) ≡ behind (map expression_of l.made.items) (rule.passed (map operand_of (into_iter_items l.left)) l.rest l.line (types_in l.types known));
  counted : into_iter_len l.left ≡ length (into_iter_items l.left);
}

abbrev pub decreases-loop-ty : goal.decreases-loop-ty
decreases-loop-ty l = length l.rest

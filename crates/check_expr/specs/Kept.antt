-- What the checker keeps of a list until all of it is read, as the rules speak of it.
use Rattle.std.specs.Prelude.{List, map}
use Rattle.std.specs.Global.{Box}
use Rattle.std.specs.declared.alloc.Global.{Global}
use Rattle.std.specs.declared.vec.Vec.{Vec}
use Rattle.c_token.specs.declared.token.TokKind.{TokKind}
use Rattle.c_token.specs.declared.token.TokKind.TheVariants as kinds
use Rattle.c_nodes.specs.Words.{signed}
use Rattle.type_rules.specs.Terms as rule
use Rattle.c_terms.specs.Terms.{term_of, operand_of}
use Rattle.c_terms.specs.declared.term.Operand.{Operand}
use Rattle.check_expr.specs.Folds as fold
use Rattle.check_expr.specs.declared.expression.Chosen.{Chosen}
use Rattle.check_expr.specs.declared.expression.Target.{Target}
use Rattle.check_expr.specs.declared.prefixes.Applied.{Applied}
use Rattle.check_expr.specs.declared.prefixes.Applied.TheVariants as prefixes

abbrev pub side_in : Target → rule.Term × TokKind
side_in t = (term_of t.term, kinds.Punct t.sign.punct)

abbrev pub boxed : Box Operand → rule.Operand
boxed operand = operand_of operand.value

abbrev pub choice_in : Chosen → rule.Operand × rule.Operand
choice_in c = (boxed c.condition, boxed c.then)

abbrev pub applied_of : Applied → fold.Applied
applied_of (prefixes.Operator sign) = fold.AppliedSign (signed sign)
applied_of (prefixes.Sizeof line) = fold.AppliedSizeof line
applied_of (prefixes.Cast ty line) = fold.AppliedCast ty line

abbrev pub sides_in : Vec Target Global → fold.Sides
sides_in targets = map side_in targets.items

abbrev pub choices_in : Vec Chosen Global → fold.Choices
choices_in choices = map choice_in choices.items

abbrev pub applied_list : Vec Applied Global → List fold.Applied
applied_list prefixes = map applied_of prefixes.items

abbrev pub operands_in : Vec Operand Global → List rule.Operand
operands_in operands = map operand_of operands.items

-- The terms and operands of the checker, as the rules speak of them.
use Rattle.std.specs.Prelude.{ℕ, [], Option, Some, None}
use Rattle.std.specs.Option.{option_map}
use Rattle.c_typed.specs.Trees.{Place}
use Rattle.c_typed.specs.declared.expression.TExpr.{TExpr}
use Rattle.c_typed.specs.Views.{expression_of, place_of}
use Rattle.type_rules.specs.Operations as rule_operations
use Rattle.type_rules.specs.Terms as rule
use Rattle.c_terms.specs.declared.operation.Node.{Node}
use Rattle.c_terms.specs.declared.operation.Node.TheVariants as nodes
use Rattle.c_terms.specs.declared.operation.Operation.{Operation}
use Rattle.c_terms.specs.declared.term.Form.{Form}
use Rattle.c_terms.specs.declared.term.Form.TheVariants as forms
use Rattle.c_terms.specs.declared.term.Lvalue.{Lvalue}
use Rattle.c_terms.specs.declared.term.Operand.{Operand}
use Rattle.c_terms.specs.declared.term.Reach.{Reach}
use Rattle.c_terms.specs.declared.term.Side.{Side}
use Rattle.c_terms.specs.declared.term.Term.{Term}

abbrev pub reach_of : Reach → rule.Reach
reach_of r = record { through = r.through; fixed = r.fixed }

abbrev pub lvalue_reach : Lvalue → rule.Reach
lvalue_reach l = record { through = l.through; fixed = l.fixed }

abbrev pub form_of : Form → rule.Form
form_of (forms.Value value) = rule.ValueForm (expression_of value)
form_of (forms.Lvalue l) = rule.PlaceForm (place_of l.place) (lvalue_reach l)
form_of (forms.Function number bare) = rule.FunctionForm number bare
form_of forms.TypeName = rule.TypeForm

-- Of a term the checker doesn't keep what stands between its commas: lists of arguments are read apart.
abbrev pub term_of : Term → rule.Term
term_of t = record { form = form_of t.form; null = t.null; line = t.line; start = t.start; into = option_map reach_of t.reach; listed = [] }

abbrev pub operand_of : Operand → rule.Operand
operand_of x = record { value = expression_of x.value; null = x.null; line = x.line; start = x.start; into = option_map reach_of x.reach }

abbrev pub side_of : Side → rule.Side
side_of s = record { ty = s.ty; null = s.null }

-- a value as a term at this line
abbrev pub valued : ℕ → TExpr → rule.Term
valued line value = rule.value_term (expression_of value) line

-- the place that an expression is, and how it is reached
abbrev pub place_in : rule.Form → Option (Place × rule.Reach)
place_in (rule.PlaceForm place reach) = Some (place, reach)
place_in _ = None

-- ---- what an operator does

abbrev pub node_of : Node → rule_operations.Node
node_of nodes.Binary = rule_operations.Plain
node_of nodes.Offset = rule_operations.Moved
node_of nodes.Difference = rule_operations.Difference

abbrev pub operation_of : Operation → rule_operations.Operation
operation_of o = record { node = node_of o.node; left = o.left; right = o.right; ty = o.ty; size = o.size }

-- A pointer into an array that is moved still points into that array.
abbrev pub reach_moved : rule_operations.Node → Option rule.Reach → Option rule.Reach
reach_moved rule_operations.Moved reach = reach
reach_moved _ reach = None

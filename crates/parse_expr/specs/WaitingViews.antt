-- The code's fronts and what waits, as data.
use Rattle.std.specs.Prelude.{map}
use Rattle.c_nodes.specs.Views.{binary_of, choice_of, expr_of, target_of}
use Rattle.parse_expr.specs.Reader.{over}
use Rattle.parse_expr.specs.Waiting.{FrontParts, WaitingParts}
use Rattle.parse_expr.specs.declared.front.Front.{Front}
use Rattle.parse_expr.specs.declared.front.Waiting.{Waiting}

abbrev pub front_of : Front → FrontParts
front_of f = record { before = over (λ x. (expr_of x.0, x.1)) f.before; targets = map target_of f.targets.items; choices = map choice_of f.choices.items }

abbrev pub waiting_of : Waiting → WaitingParts
waiting_of w = record { front = front_of w.front; condition = binary_of w.condition; question = w.question }

-- What `break` and `continue` have to leave and to repeat, as the rules speak of it.
use Rattle.std.specs.Prelude.{ℕ, not, [], ◌∷◌}
use Rattle.c_typed.specs.Trees as typed
use Rattle.c_typed.specs.Trees.{Statement}
use Rattle.type_rules.specs.Faults as kind
use Rattle.type_rules.specs.Known.{Rule, given, tried, ◌>>=◌}
use Rattle.type_rules.specs.Statements as rule
use Rattle.c_outline.specs.declared.flow.Flow.{Flow}

abbrev pub flow_of : Flow → rule.Flow
flow_of f = record { breaks = f.breaks; continues = f.continues }

abbrev pub break_rule : rule.Flow → ℕ → Rule Statement
break_rule flow line = do
  _ ← tried ((not flow.breaks, kind.Jump) ∷ []) line
  given (typed.Break line)

abbrev pub continue_rule : rule.Flow → ℕ → Rule Statement
continue_rule flow line = do
  _ ← tried ((not flow.continues, kind.Jump) ∷ []) line
  given (typed.Continue line)

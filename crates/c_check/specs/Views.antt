-- Parts of the rules on initializers, as the checker's functions answer them.
use Rattle.std.specs.Prelude.{ℕ, List, [], ◌∷◌, Option, Some, None}
use Rattle.std.specs.Borrow.{Bor}
use Rattle.c_nodes.specs.Programs.{InitTree}
use Rattle.c_nodes.specs.ProgramViews.{init_of}
use Rattle.c_nodes.specs.declared.statement.Init.{Init}
use Rattle.c_typed.specs.Trees as typed
use Rattle.c_typed.specs.declared.types.Ty.{Ty}
use Rattle.type_rules.specs.Conversions.{assigned}
use Rattle.type_rules.specs.Faults as kind
use Rattle.type_rules.specs.Initializers.{has_more, with_items}
use Rattle.type_rules.specs.Known.{Rule, given, known_here, tried, ◌>>=◌}
use Rattle.type_rules.specs.Slots as rule
use Rattle.type_rules.specs.Terms.{Operand}

-- the initializer of a declarator, if it has one
abbrev pub any_init : Option (Bor Init) → Option InitTree
any_init None = None
any_init (Some init) = Some (init_of init.now)

-- the item that a local scalar begins with
abbrev pub begin_scalar : Ty → rule.Slot → Operand → ℕ → rule.Begun → Rule rule.Begun
begin_scalar ty slot x line b = do
  value ← assigned x ty line
  given (rule.with_item (typed.Scalar slot.offset value) b)

-- the end of a list of so many items, whose opening bracket stands on this line
abbrev pub list_closed : Option rule.Slot → ℕ → ℕ → rule.Begun → Rule rule.Begun
list_closed slot count line b = do
  known ← known_here
  _ ← tried ((has_more known slot count, kind.Initializer) ∷ []) line
  given (with_items slot count b)

-- the only element of a list that has one alone
abbrev pub only_one : {A : Type 0} → List A → Option A
only_one (x ∷ []) = Some x
only_one _ = None

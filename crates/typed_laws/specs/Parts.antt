-- Lists of initializers and the arms of an `if`, part by part in the order of the text, each part with its own rule.
use Rattle.std.specs.Prelude.{ℕ, suc, true, List, [], ◌∷◌, ◌++◌, Option, Result}
use Rattle.c_nodes.specs.Programs.{ConditionTree, InitTree, MoreInits, NoInit, AndInit, StatementTree, ArmTree, Arm, Arms, NoElse, Else, ElseIf}
use Rattle.type_rules.specs.Faults as kind
use Rattle.type_rules.specs.Faults.{Fault}
use Rattle.type_rules.specs.Initializers.{with_items, has_more, begins}
use Rattle.type_rules.specs.Known.{Known, Rule, given, known_here, tried, ◌>>=◌}
use Rattle.type_rules.specs.Slots.{Slot, Begun, part}
use Rattle.type_rules.specs.Statements.{Flow, condition, statement}

-- ---- lists of initializers (ISO/IEC 9899:1990, 6.5.7)

-- an item of a list, or its end, with the line of the brace that opens the list
pub data ListPart : Type 0 where
  ItemPart : InitTree → ListPart
  EndPart : ℕ → ListPart

abbrev pub more_parts : ℕ → MoreInits → List ListPart
more_parts opening NoInit = EndPart opening ∷ []
more_parts opening (AndInit comma i is) = ItemPart i ∷ more_parts opening is

-- the first item, the others, and the end
abbrev pub list_parts : ℕ → InitTree → MoreInits → List ListPart
list_parts opening i is = ItemPart i ∷ more_parts opening is

-- how many items were read, and what they gave
abbrev pub Filled : Type 0
Filled = ℕ × Begun

-- An item is for the next part of the object. At the end there were no more items than parts.
abbrev pub list_part : Option Slot → ListPart → Filled → Rule Filled
list_part slot (ItemPart i) filled = do
  known ← known_here
  next ← begins i (part known slot filled.0) true filled.1
  given (suc filled.0, next)
list_part slot (EndPart opening) filled = do
  after ← known_here
  _ ← tried ((has_more after slot filled.0, kind.Initializer) ∷ []) opening
  given (filled.0, with_items slot filled.0 filled.1)

-- parts of a list one behind the other
abbrev pub list_in_turn : Option Slot → List ListPart → Filled → Rule Filled
list_in_turn slot [] filled = given filled
list_in_turn slot (p ∷ ps) filled = list_part slot p filled >>= list_in_turn slot ps

abbrev pub list_read : Option Slot → List ListPart → Filled × Known → Result (Filled × Known) Fault
list_read slot ps s = list_in_turn slot ps s.0 s.1

-- ---- the arms of an `if` (6.6.4.1)

-- the condition of an arm, or the statement of an arm or behind the last `else`
pub data IfPart : Type 0 where
  ConditionPart : ConditionTree → IfPart
  BranchPart : StatementTree → IfPart

abbrev pub arm_parts : ArmTree → List IfPart
arm_parts (Arm line c s) = ConditionPart c ∷ BranchPart s ∷ []

abbrev pub other_parts : Arms → List IfPart
other_parts NoElse = []
other_parts (Else line s) = BranchPart s ∷ []
other_parts (ElseIf line a as_) = arm_parts a ++ other_parts as_

abbrev pub if_parts : ArmTree → Arms → List IfPart
if_parts a as_ = arm_parts a ++ other_parts as_

-- what is known behind a part
abbrev pub if_part : Flow → IfPart → Rule Known
if_part flow (ConditionPart c) = do
  _ ← condition c.expr
  known_here
if_part flow (BranchPart s) = do
  _ ← statement s flow
  known_here

-- parts of an `if` one behind the other
abbrev pub if_in_turn : Flow → List IfPart → Rule Known
if_in_turn flow [] = known_here
if_in_turn flow (p ∷ ps) = do
  _ ← if_part flow p
  if_in_turn flow ps

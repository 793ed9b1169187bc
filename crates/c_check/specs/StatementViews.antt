-- Parts of the rules on declarations, statements and units, as the checker's functions answer them.
use Rattle.std.specs.Prelude.{◌≡◌, ℕ, Bool, not, ◌&&◌, ◌||◌, List, [], ◌∷◌, ◌++◌, length, map, Option, Some, None, is_some, Result, Ok, Err}
use Rattle.std.specs.Global.{Box}
use Rattle.c_ints.specs.Conversions.{promoted}
use Rattle.c_ints.specs.Operators.{cut_to}
use Rattle.c_ints.specs.declared.types.IntTy.{IntTy}
use Rattle.c_nodes.specs.Programs as tree
use Rattle.c_nodes.specs.Programs.{ArmTree, Arms, BlockTree, StatementTree, HeadTree, InitTree, Items}
use Rattle.c_nodes.specs.Trees.{Tree}
use Rattle.c_typed.specs.Sameness.{is_void}
use Rattle.c_typed.specs.Trees as typed
use Rattle.c_typed.specs.Trees.{Expression, FunctionTree, Statement, VariableTree}
use Rattle.c_typed.specs.Types.{type_of}
use Rattle.c_typed.specs.Views.{statement_of}
use Rattle.c_typed.specs.declared.statement.TStmt.{TStmt}
use Rattle.c_typed.specs.declared.statement.LoopForm.TheVariants as loops
use Rattle.c_typed.specs.declared.types.Qualified.{Qualified}
use Rattle.c_typed.specs.declared.types.Ty.{Ty}
use Rattle.c_typed.specs.declared.types.Ty.TheVariants.{Int}
use Rattle.type_rules.specs.Constants.{constant_value}
use Rattle.type_rules.specs.Conversions.{assigned, converted}
use Rattle.type_rules.specs.Declarations as declarations
use Rattle.type_rules.specs.Expressions.{value_of}
use Rattle.type_rules.specs.Faults as kind
use Rattle.type_rules.specs.Faults.{Fault}
use Rattle.type_rules.specs.Known.{Binding, Scope, Known, Rule, broken, given, known_here, tried, wanted, ◌>>=◌}
use Rattle.type_rules.specs.Names.{enter, enter_with, is_declared, leave}
use Rattle.type_rules.specs.Objects.{object_rule, next_declarator}
use Rattle.type_rules.specs.Outlines.{Outline, Param}
use Rattle.type_rules.specs.Specifiers.{Specified}
use Rattle.type_rules.specs.Statements as rule
use Rattle.type_rules.specs.Units as units
use Rattle.c_tables.specs.Answers.{Refuses}
use Rattle.c_tables.specs.declared.error.CheckError.{CheckError}
use Rattle.c_check.specs.declared.switch.SwitchBody.{SwitchBody}

-- What stands before, and behind it what a rule makes.
abbrev pub behind : {A : Type 0} → List A → Rule (List A) → Rule (List A)
behind before rest = do
  others ← rest
  given (before ++ others)

-- ---- declarations

-- the number of the function that a name is declared as, if it isn't refused
abbrev pub function_known : Option Binding → List ℕ → Qualified → List Ty → Bool → Bool → ℕ → Rule ℕ
function_known found name result params bad defines line = do
  known ← known_here
  _ ← tried ((is_some found && (bad || not (declarations.is_same (declarations.signature_at known (declarations.function_number found)) result params defines)), kind.Again) ∷ (bad, kind.Declare) ∷ []) line
  declarations.function_added (declarations.function_number found) name result params

-- an object of a block, whose name isn't declared there yet
abbrev pub object_in_block : Specified → Outline → Option (ℕ × InitTree) → List ℕ → ℕ → Rule (List Statement)
object_in_block said o init name line = do
  ty ← object_rule said o (is_some init) line
  k ← next_declarator
  declarations.block_object said ty (declarations.init_in init) name k line

-- ---- `return`

-- the value that a function returns
abbrev pub valued_return : Tree → ℕ → Rule Expression
valued_return e line = do
  x ← value_of e
  known ← known_here
  _ ← tried ((is_void (known.body).result, kind.Return) ∷ []) line
  assigned x (known.body).result line

-- ---- blocks

-- the declarations and statements of a block
abbrev pub block_list : BlockTree → rule.Flow → Rule (List Statement)
block_list (tree.Block line ds ss closing) flow = do
  first ← declarations.block_declarations ds
  others ← rule.statements ss flow
  given (first ++ others)

abbrev pub block_line : BlockTree → ℕ
block_line (tree.Block line ds ss closing) = line

abbrev pub scoped_rule : BlockTree → rule.Flow → Rule Statement
scoped_rule b flow = do
  _ ← enter
  made ← block_list b flow
  _ ← leave
  given (typed.Block (rule.statements_of made) (block_line b))

-- ---- loops

abbrev pub while_rule : Tree → StatementTree → ℕ → Rule Statement
while_rule e s line = do
  made ← rule.condition e
  body ← rule.statement s rule.in_loop
  given (typed.Loop loops.While None (Some made) None body line)

abbrev pub do_rule : Tree → StatementTree → ℕ → Rule Statement
do_rule e s line = do
  body ← rule.statement s rule.in_loop
  made ← rule.condition e
  given (typed.Loop loops.Do None (Some made) None body line)

abbrev pub for_rule : HeadTree → StatementTree → ℕ → Rule Statement
for_rule h s line = do
  begin ← rule.value_if_any h.begin
  made ← rule.condition_if_any h.condition
  step ← rule.value_if_any h.step
  body ← rule.statement s rule.in_loop
  given (typed.Loop loops.For begin made step body line)

-- ---- `if`

-- the statement behind the last `else`
abbrev pub any_statement : Option (Box TStmt) → Option Statement
any_statement None = None
any_statement (Some last) = Some (statement_of last.value)

-- arms that stand before, and behind them the others
abbrev pub arms_behind : List typed.Arm → Arms → rule.Flow → Rule rule.Others
arms_behind before others flow = do
  made ← rule.other_arms others flow
  given (before ++ made.0, made.1)

-- all arms of an `if`
abbrev pub chain_arms : ArmTree → Arms → rule.Flow → Rule rule.Others
chain_arms first others flow = do
  made ← rule.arm first flow
  arms_behind (made ∷ []) others flow

abbrev pub if_of : rule.Others → ℕ → Statement
if_of made line = typed.If (rule.arms_of made.0) (rule.last_of made.1) line

-- ---- `switch`

-- what a switch looks at, and its type
abbrev pub switched_rule : Tree → Rule (Expression × IntTy)
switched_rule e = do
  x ← value_of e
  ty ← wanted kind.Operand x.line (rule.int_of (type_of x.value))
  given (converted x (Int (promoted ty)), promoted ty)

abbrev pub switch_of : Expression → rule.SwitchBody → ℕ → Statement
switch_of value body line = typed.Switch value body.cases body.default (rule.statements_of body.statements) line

abbrev pub switch_rule : Tree → Items → rule.Flow → ℕ → Rule Statement
switch_rule e is flow line = do
  s ← switched_rule e
  body ← rule.items is (rule.in_switch flow) s.1 rule.no_items
  given (switch_of s.0 body line)

abbrev pub body_of : SwitchBody → rule.SwitchBody
body_of b = record { cases = b.cases.items; default = b.default; statements = map statement_of b.statements.items }

-- the numbers of the labels so far stand in the set
abbrev pub Sees : SwitchBody → Type 0
Sees b = b.seen.keys ≡ map (λ c. c.value.number) b.cases.items

-- a `case`, and a `default`
abbrev pub case_rule : Tree → ℕ → IntTy → rule.SwitchBody → Rule rule.SwitchBody
case_rule e line ty body = do
  v ← constant_value e
  _ ← tried ((rule.stands_already body.cases (cut_to ty v.number), kind.Jump) ∷ []) line
  given (rule.case_added body (cut_to ty v.number) line)

abbrev pub default_rule : ℕ → rule.SwitchBody → Rule rule.SwitchBody
default_rule line body = do
  _ ← tried ((is_some body.default, kind.Jump) ∷ []) line
  given (record body { default = Some (length body.statements) })

-- The call puts into the body what the rule does, and keeps its type and its set.
abbrev pub Labels : Result Unit CheckError → SwitchBody → IntTy → Known → Result (rule.SwitchBody × Known) Fault → Type 0
Labels (Ok x) body ty after said = (said ≡ Ok (body_of body, after)) × (body.ty ≡ ty) × Sees body
Labels (Err e) body ty after said = Refuses e said

-- ---- units

-- The parameters and the outermost block of a function are one scope, whose names the list of parameters declared.
abbrev pub inner_rule : BlockTree → List Param → Scope → Rule (List VariableTree × List Statement)
inner_rule b params scope = do
  _ ← enter_with scope
  made ← block_list b rule.outside
  _ ← leave
  given (map units.variable_of params, made)

-- what is written as a function and declares none
abbrev pub no_function : List ℕ → ℕ → Rule FunctionTree
no_function name line = do
  known ← known_here
  _ ← tried ((is_declared known name, kind.Again) ∷ []) line
  broken kind.Declare line

-- Statements (ISO/IEC 9899:1990, 6.6): one clause for each kind.
use Rattle.std.specs.Prelude.{ℕ, Bool, true, false, not, List, [], ◌∷◌, ◌++◌, length, Option, Some, None, is_some}
use Rattle.std.specs.List.{list_any}
use Rattle.std.specs.Ordering.{int_eq}
use Rattle.c_ints.specs.Conversions.{promoted}
use Rattle.c_ints.specs.Operators.{cut_to}
use Rattle.c_ints.specs.Quantity.{Quantity}
use Rattle.c_ints.specs.declared.types.IntTy.{IntTy}
use Rattle.c_nodes.specs.Programs.{ConditionTree, HeadTree, LabelTree, StatementTree, BlockTree, Statements, ArmTree, Arms, Items}
use Rattle.c_nodes.specs.Programs as tree
use Rattle.c_nodes.specs.Trees.{Tree}
use Rattle.c_typed.specs.Sameness.{is_void, is_scalar}
use Rattle.c_typed.specs.Trees as typed
use Rattle.c_typed.specs.Trees.{Expression, Statement}
use Rattle.c_typed.specs.Types.{type_of}
use Rattle.c_typed.specs.declared.statement.LoopForm.TheVariants as loops
use Rattle.c_typed.specs.declared.statement.TCase.{TCase}
use Rattle.c_typed.specs.declared.types.Ty.{Ty}
use Rattle.c_typed.specs.declared.types.Ty.TheVariants.{Int}
use Rattle.type_rules.specs.Faults as kind
use Rattle.type_rules.specs.Known.{Rule, given, known_here, tried, wanted, ◌>>=◌}
use Rattle.type_rules.specs.Names.{enter, leave}
use Rattle.type_rules.specs.Conversions.{converted, assigned}
use Rattle.type_rules.specs.Expressions.{value_of}
use Rattle.type_rules.specs.Constants.{constant_value}
use Rattle.type_rules.specs.Declarations.{block_declarations}

-- whether `break` and `continue` have something to leave and to repeat (6.6.6)
pub record Flow : Type 0 where
  pub breaks : Bool
  pub continues : Bool

abbrev pub outside : Flow
outside = record { breaks = false; continues = false }

abbrev pub in_loop : Flow
in_loop = record { breaks = true; continues = true }

abbrev pub in_switch : Flow → Flow
in_switch flow = record flow { breaks = true }

-- ---- expressions of statements

-- a condition: an integer or a pointer (6.6.4, 6.6.5)
abbrev pub condition : Tree → Rule Expression
condition e = do
  x ← value_of e
  _ ← tried ((not (is_scalar (type_of x.value)), kind.Operand) ∷ []) x.line
  given x.value

abbrev pub value_if_any : Option Tree → Rule (Option Expression)
value_if_any None = given None
value_if_any (Some e) = do
  x ← value_of e
  given (Some x.value)

abbrev pub condition_if_any : Option Tree → Rule (Option Expression)
condition_if_any None = given None
condition_if_any (Some e) = do
  c ← condition e
  given (Some c)

-- an expression as a statement, or nothing but a semicolon (6.6.3)
abbrev pub plain_statement : Option Tree → ℕ → Rule Statement
plain_statement None semicolon = given (typed.Empty semicolon)
plain_statement (Some e) semicolon = do
  x ← value_of e
  given (typed.Expr x.value x.start)

-- `return` (6.6.6.4): with a value exactly where the function has one
abbrev pub return_statement : Option Tree → ℕ → Rule Statement
return_statement None line = do
  known ← known_here
  _ ← tried ((not (is_void (known.body).result), kind.Return) ∷ []) line
  given (typed.Return None line)
return_statement (Some e) line = do
  x ← value_of e
  known ← known_here
  _ ← tried ((is_void (known.body).result, kind.Return) ∷ []) line
  value ← assigned x (known.body).result line
  given (typed.Return (Some value) line)

-- ---- `switch` (6.6.4.2): on a promoted integer

abbrev pub int_of : Ty → Option IntTy
int_of (Int ty) = Some ty
int_of _ = None

-- The body of a switch so far: its labels, the place of its default, and its statements.
pub record SwitchBody : Type 0 where
  pub cases : List TCase
  pub default : Option ℕ
  pub statements : List Statement

abbrev pub no_items : SwitchBody
no_items = record { cases = []; default = None; statements = [] }

-- No two labels are equal after conversion to the switch's type.
abbrev pub stands_already : List TCase → Quantity → Bool
stands_already cases v = list_any (λ c. int_eq c.value.number v.number) cases

abbrev pub case_added : SwitchBody → Quantity → ℕ → SwitchBody
case_added body v line = record body { cases = body.cases ++ record { value = v; target = length body.statements; line = line } ∷ [] }

abbrev pub label_rule : LabelTree → IntTy → SwitchBody → Rule SwitchBody
label_rule (tree.Case line e colon) ty body = do
  v ← constant_value e
  _ ← tried ((stands_already body.cases (cut_to ty v.number), kind.Jump) ∷ []) line
  given (case_added body (cut_to ty v.number) line)
label_rule (tree.Default line colon) ty body = do
  _ ← tried ((is_some body.default, kind.Jump) ∷ []) line
  given (record body { default = Some (length body.statements) })

abbrev pub statements_of : List Statement → typed.Statements
statements_of [] = typed.NoStatement
statements_of (s ∷ ss) = typed.AndStatement s (statements_of ss)

abbrev pub arms_of : List typed.Arm → typed.Arms
arms_of [] = typed.NoArm
arms_of (a ∷ as_) = typed.AndArm a (arms_of as_)

abbrev pub last_of : Option Statement → typed.LastArm
last_of None = typed.NoLast
last_of (Some s) = typed.Last s

-- what follows the first arm of an `if`: other arms, and a last statement if there is one
abbrev pub Others : Type 0
Others = List typed.Arm × Option Statement

abbrev pub arm_line : ArmTree → ℕ
arm_line (tree.Arm line c s) = line

-- ---- the recursion

unfoldable mutual
  pub statement : StatementTree → Flow → Rule Statement
  statement (tree.Braced b) flow = do
    _ ← enter
    made ← block_statement b flow
    _ ← leave
    given made
  statement (tree.Plain e semicolon) flow = plain_statement e semicolon
  statement (tree.Chain a as_) flow = do
    first ← arm a flow
    others ← other_arms as_ flow
    given (typed.If (arms_of (first ∷ others.0)) (last_of others.1) (arm_line a))
  statement (tree.While line c s) flow = do
    e ← condition c.expr
    body ← statement s in_loop
    given (typed.Loop loops.While None (Some e) None body line)
  statement (tree.Do line s word c semicolon) flow = do
    body ← statement s in_loop
    e ← condition c.expr
    given (typed.Loop loops.Do None (Some e) None body line)
  statement (tree.For line h s) flow = do
    begin ← value_if_any h.begin
    e ← condition_if_any h.condition
    step ← value_if_any h.step
    body ← statement s in_loop
    given (typed.Loop loops.For begin e step body line)
  statement (tree.Switch line c opening is closing) flow = do
    x ← value_of c.expr
    ty ← wanted kind.Operand x.line (int_of (type_of x.value))
    body ← items is (in_switch flow) (promoted ty) no_items
    given (typed.Switch (converted x (Int (promoted ty))) body.cases body.default (statements_of body.statements) line)
  statement (tree.Break line semicolon) flow = do
    _ ← tried ((not flow.breaks, kind.Jump) ∷ []) line
    given (typed.Break line)
  statement (tree.Continue line semicolon) flow = do
    _ ← tried ((not flow.continues, kind.Jump) ∷ []) line
    given (typed.Continue line)
  statement (tree.Return line e semicolon) flow = return_statement e line

  pub block_statement : BlockTree → Flow → Rule Statement
  block_statement (tree.Block line ds ss closing) flow = do
    first ← block_declarations ds
    others ← statements ss flow
    given (typed.Block (statements_of (first ++ others)) line)

  pub statements : Statements → Flow → Rule (List Statement)
  statements tree.NoStatement flow = given []
  statements (tree.AndStatement s ss) flow = do
    first ← statement s flow
    others ← statements ss flow
    given (first ∷ others)

  pub arm : ArmTree → Flow → Rule typed.Arm
  arm (tree.Arm line c s) flow = do
    e ← condition c.expr
    made ← statement s flow
    given (typed.OneArm e made line)

  pub other_arms : Arms → Flow → Rule Others
  other_arms tree.NoElse flow = given ([], None)
  other_arms (tree.Else line s) flow = do
    last ← statement s flow
    given ([], Some last)
  other_arms (tree.ElseIf line a as_) flow = do
    first ← arm a flow
    others ← other_arms as_ flow
    given (first ∷ others.0, others.1)

  pub items : Items → Flow → IntTy → SwitchBody → Rule SwitchBody
  items tree.NoItem flow ty body = given body
  items (tree.AndLabel l is) flow ty body = do
    next ← label_rule l ty body
    items is flow ty next
  items (tree.AndInner s is) flow ty body = do
    made ← statement s flow
    items is flow ty (record body { statements = body.statements ++ made ∷ [] })

-- The declarations and statements of a function's body, whose scope is that of the parameters.
abbrev pub body_statements : BlockTree → Rule typed.Statements
body_statements (tree.Block opening ds ss closing) = do
  first ← block_declarations ds
  others ← statements ss outside
  given (statements_of (first ++ others))

-- Expressions (ISO/IEC 9899:1990, 6.3): one clause for each kind of node, operands from left to right before their operator.
use Rattle.std.specs.Prelude.{ℕ, Bool, true, false, nat_eq, List, [], ◌∷◌, ◌++◌, None}
use Rattle.c_ints.specs.Conversions.{candidates, first_holding}
use Rattle.c_ints.specs.declared.operators.UnOp.TheVariants as unop
use Rattle.c_ints.specs.declared.types.IntTy.TheVariants as int
use Rattle.c_token.specs.declared.token.Punct.TheVariants as marks
use Rattle.c_token.specs.declared.token.TokKind.{TokKind}
use Rattle.c_token.specs.declared.token.TokKind.TheVariants as kinds
use Rattle.c_nodes.specs.Trees.{Tree, Post, Pre}
use Rattle.c_nodes.specs.Trees as tree
use Rattle.c_typed.specs.Trees as typed
use Rattle.c_typed.specs.declared.expression.StepOp.{StepOp}
use Rattle.c_typed.specs.declared.expression.StepOp.TheVariants as steps
use Rattle.type_rules.specs.Faults as kind
use Rattle.type_rules.specs.Known.{Binding, ObjectName, BitName, FunctionName, TypeNamed, EnumeratorName, Rule, given, known_here, wanted, ◌>>=◌}
use Rattle.type_rules.specs.Names.{meaning_of}
use Rattle.type_rules.specs.Terms.{Reach, Form, FunctionForm, TypeForm, Term, Operand, value_term, place_term, number_of_type, used, no_table}
use Rattle.type_rules.specs.TypeNames.{type_named}
use Rattle.type_rules.specs.Operators.{between, choice, cast, arithmetic, negation}
use Rattle.type_rules.specs.Places.{dereference, before_index, element, address, member, pointed_member, size_of_type, size_of_term}
use Rattle.type_rules.specs.Writes.{assignment, stepped, called, call}

-- ---- names and constants (6.3.1)

abbrev pub unreached : Bool → Reach
unreached fixed = record { through = false; fixed = fixed }

-- An enumerator is a constant of type int, and no null constant.
abbrev pub named_term : Binding → ℕ → Term
named_term (ObjectName object ty fixed) line = place_term (typed.Name object ty line) (unreached fixed) line
named_term (BitName register bit) line = place_term (typed.Bit register bit line) (unreached true) line
named_term (FunctionName number) line = record { form = FunctionForm number true; null = false; line = line; start = line; into = None; listed = [] }
named_term (TypeNamed ty waiting) line = record { form = TypeForm; null = false; line = line; start = line; into = None; listed = [] }
named_term (EnumeratorName n) line = value_term (typed.Constant (record { ty = int.Int; number = n }) line) line

abbrev pub name_rule : List ℕ → ℕ → Rule Term
name_rule name line = do
  known ← known_here
  binding ← wanted kind.Name line (meaning_of known name)
  given (named_term binding line)

-- The constant 0 is a null constant.
abbrev pub constant_term : typed.Expression → ℕ → ℕ → Term
constant_term e value line = record (value_term e line) { null = nat_eq value 0 }

abbrev pub leaf : TokKind → List ℕ → ℕ → Rule Term
leaf (kinds.Int value base u l) bytes line = given (constant_term (number_of_type (first_holding value (candidates (nat_eq base 10) u l)) value line) value line)
leaf (kinds.Char value) bytes line = given (constant_term (number_of_type int.Int value line) value line)
leaf _ bytes line = name_rule bytes line

-- brackets: a function's name in brackets isn't called
abbrev pub bracketed_form : Form → Form
bracketed_form (FunctionForm number bare) = FunctionForm number false
bracketed_form form = form

abbrev pub bracketed : Term → ℕ → Term
bracketed t opening = record t { form = bracketed_form t.form; start = opening; listed = [] }

-- ---- prefixes and postfixes

abbrev pub with_value : (Operand → ℕ → Rule Term) → Term → ℕ → Rule Term
with_value rule t line = do
  x ← used t
  rule x line

abbrev pub signed : TokKind → Term → ℕ → Rule Term
signed (kinds.Punct marks.Ampersand) t line = address t line
signed (kinds.Punct marks.Increment) t line = stepped steps.PreIncrement t line
signed (kinds.Punct marks.Decrement) t line = stepped steps.PreDecrement t line
signed (kinds.Punct marks.Star) t line = with_value dereference t line
signed (kinds.Punct marks.Plus) t line = with_value (arithmetic unop.Plus) t line
signed (kinds.Punct marks.Minus) t line = with_value (arithmetic unop.Minus) t line
signed (kinds.Punct marks.Tilde) t line = with_value (arithmetic unop.Not) t line
signed _ t line = with_value negation t line

abbrev pub selected : TokKind → Term → List ℕ → Rule Term
selected (kinds.Punct marks.Arrow) t name = do
  x ← used t
  pointed_member x name t.start
selected _ t name = member t name t.start

abbrev pub step_behind : TokKind → StepOp
step_behind (kinds.Punct marks.Increment) = steps.PostIncrement
step_behind _ = steps.PostDecrement

-- ---- lists of arguments: they have the form of an expression with commas

abbrev pub one_at_least : List Operand → Operand → List Operand
one_at_least [] x = x ∷ []
one_at_least (first ∷ others) x = first ∷ others

-- The operands between the commas of an expression that no brackets hold.
abbrev pub listed_by : TokKind → List Operand → Operand → Operand → Term → Term
listed_by (kinds.Punct marks.Comma) before x y t = record t { listed = one_at_least before x ++ y ∷ [] }
listed_by _ before x y t = t

abbrev pub arguments_in : List Operand → Term → Rule (List Operand)
arguments_in [] t = do
  x ← used t
  given (x ∷ [])
arguments_in (first ∷ others) t = given (first ∷ others)

-- ---- the recursion

unfoldable mutual
  -- What an expression is, or the first rule that it breaks.
  pub judged : Tree → Rule Term
  judged (tree.Leaf s) = leaf s.kind s.bytes s.line
  judged (tree.Group opening e closing) = do
    t ← judged e
    given (bracketed t opening)
  judged (tree.Behind e p) = do
    t ← judged e
    judged_behind p t
  judged (tree.Before (tree.Sign s) e) = do
    t ← judged e
    signed s.kind t s.line
  judged (tree.Before (tree.Sizeof line) e) = do
    t ← judged e
    size_of_term t line
  judged (tree.Before (tree.Cast line ty closing) e) = do
    to ← type_named ty
    t ← judged e
    x ← used t
    cast to.ty x line
  judged (tree.Measure line opening ty closing) = do
    of ← type_named ty
    size_of_type of.ty line
  judged (tree.Join s a b) = do
    left ← judged a
    x ← used left
    right ← judged b
    y ← used right
    t ← between s.kind x y
    given (listed_by s.kind left.listed x y t)
  judged (tree.Choose c question a colon b) = do
    condition ← judged c
    x ← used condition
    first ← judged a
    y ← used first
    second ← judged b
    z ← used second
    choice x y z
  judged (tree.Assign a s b) = do
    target ← judged a
    _ ← no_table target
    value ← judged b
    x ← used value
    assignment s.kind target x

  -- what a postfix makes of an operand
  pub judged_behind : Post → Term → Rule Term
  judged_behind (tree.Index opening e closing) t = do
    whole ← before_index t
    index ← judged e
    element whole index
  judged_behind (tree.CallBare opening closing) t = do
    _ ← called t
    call t []
  judged_behind (tree.Call opening e closing) t = do
    _ ← called t
    list ← judged e
    arguments ← arguments_in list.listed list
    call t arguments
  judged_behind (tree.Field s n) t = selected s.kind t n.bytes
  judged_behind (tree.Step s) t = stepped (step_behind s.kind) t t.start

-- the value of an expression
abbrev pub value_of : Tree → Rule Operand
value_of e = do
  t ← judged e
  used t
